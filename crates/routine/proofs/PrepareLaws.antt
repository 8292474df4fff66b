-- The parts of an accepted sheet, written one after the other, are its tables.
use Rattle.format.proofs.StateLaws.{state_test}
use Prim.Native.Nat.{ℕ, ◌+◌, ◌*◌, ◌<◌}
use mathlib.Core.Path.{◌≡◌, refl, ap, ap₂, sym, subst, ◌∙◌}
use mathlib.Core.List.{List, [], ◌∷◌, ◌++◌, flat_map}
use mathlib.Core.Bool.{Bool, false, ◌&&◌}
use native.Mathlib.Omega.{arith}
use lib.ListN.{length}
use Rattle.lists.proofs.ListLaws.{made_same}
use Rattle.states.specs.declared.States.{States}
use Rattle.states.specs.Sets.{words, member, set_of}
use Rattle.states.proofs.SetLaws.{member_set_of, set_cong}
use Rattle.format.specs.Syntax.{Action, change, probe, reply_count, Sheet}
use Rattle.format.specs.Truth.{in_space, is_state, truth, holds}
use Rattle.format.specs.Format.{Answer, gives, refused, on_accepted, Read, got, fault, deepest, epistemic, reading, mapped, header, is_edition}
use Rattle.format.proofs.StandingLaws.{accepted_standing}
use Rattle.format.specs.Standing.{Standing, ObjectiveAt, ActionsAt, ProgramAt}
use Rattle.reader.proofs.PackedLaws.{packed_is}
use Rattle.reader.proofs.BodyLaws.{long_refused}
use Rattle.reader.specs.Answers.{packed, without_value, in_theory, states_in, space_set, HeaderKept, spaced, kept_of}
use Rattle.reader.proofs.AnswerLaws.{was_accepted, was_refused}
use Rattle.reader.specs.declared.layout.Header.{Header as HeaderValue}
use Rattle.reader.specs.declared.formula.View.{View}
use Rattle.format.proofs.SheetLaws.{accepted_shape}
use Rattle.routine.specs.declared.actions.Laid.{Laid}
use Rattle.lists.specs.Lists.{write}
use Rattle.routine.specs.Memory.{cells}
use Rattle.routine.specs.Tables.{rows, reply_tables, action_sets, head_cells, atom_sets, program_sets, sheet_action_sets, sheet_sets, sheet_nodes, sheet_heads, sheet_start, set_words, node_cells, prepared, start_of, routine_nodes}
use Rattle.routine.specs.Filling.{ActionsRoom, ActionsFill, RoutineRoom, RoutineFills, Acceptable}
use Rattle.routine.proofs.RoomLaws.{Room, accepted_room}
use Rattle.routine.proofs.WriteLaws.{spread_on, words_four}

-- The tables of actions depend on the space of states only below 256.
module _ (p q : ℕ → Bool) (same : (s : ℕ) → s < 256 → p s ≡ q s) where
  rows_same : (a : Action) → rows p a ≡ rows q a
  unfolding rows
  rows_same (change f) =
      made_same (λ s. set_of (λ t. p s && p t && truth f s t)) (λ s. set_of (λ t. q s && q t && truth f s t)) 0 256 (λ s l.
      set_cong (λ t. p s && p t && truth f s t) (λ t. q s && q t && truth f s t) (λ t m.
      ap₂ (λ (u v : Bool). u && v && truth f s t) (same s (omega arith)) (same t m)))
  rows_same (probe fs) = refl

  sets_same : (a : Action) → action_sets p a ≡ action_sets q a
  unfolding action_sets reply_tables
  sets_same a = ap (λ (us : List States). us ++ reply_tables a) (rows_same a)

  all_same : (actions : List Action) → flat_map (action_sets p) actions ≡ flat_map (action_sets q) actions
  unfolding flat_map
  all_same [] = refl
  all_same (a ∷ later) = ap₂ (λ (us vs : List States). us ++ vs) (sets_same a) (all_same later)

  heads_same : (k : ℕ) (actions : List Action) → head_cells p k actions ≡ head_cells q k actions
  unfolding head_cells
  heads_same k [] = refl
  heads_same k (a ∷ later) =
      ap₂ (λ (us vs : List States). k ∷ (k + length us) ∷ reply_count a ∷ head_cells p (k + length vs) later) (rows_same a) (sets_same a)
      ∙ ap (λ (xs : List ℕ). k ∷ (k + length (rows q a)) ∷ reply_count a ∷ xs) (heads_same (k + length (action_sets q a)) later)

-- A memory or an answer after an accepted sheet.
module _ (bytes : List ℕ) (sheet : Sheet) (read : reading bytes ≡ gives sheet) where
  pub prepared_accepted : (has : Sheet → List ℕ) (memory after : List ℕ) → after ≡ write memory 0 (has sheet) → after ≡ prepared has (reading bytes) memory
  unfolding prepared
  prepared_accepted has memory after e = e ∙ ap (λ (a : Answer Sheet). prepared has a memory) (sym read)

  pub start_accepted : (start : States) → start ≡ sheet_start sheet → gives start ≡ start_of (reading bytes)
  unfolding start_of on_accepted
  start_accepted start e = ap gives e ∙ ap start_of (sym read)

  pub stands : Standing bytes sheet
  stands = accepted_standing bytes sheet read

  -- The header is read, and this is kept of it.
  abbrev sheet_kept : HeaderKept
  sheet_kept = record { edition = stands.edition; facts = sheet.facts; space = space_set sheet.facts sheet.constraint; actions = length sheet.actions }

  header_kept : mapped spaced (header is_edition bytes 0) ≡ got sheet_kept stands.actions_at
  unfolding mapped spaced
  header_kept = ap (mapped spaced) stands.header_read

  -- What the code found of it.
  pub header_refused : {A : Type 0} {k : ℕ} → fault k ≡ mapped spaced (header is_edition bytes 0) → A
  header_refused {k = k} e =
      let f : ◌≡◌ {A = Read HeaderKept} (fault k) (got sheet_kept stands.actions_at) = e ∙ header_kept in
      let z : ◌≡◌ {A = ℕ} 0 1 = cc in absurd (omega arith)

  -- The bytes are packed, as they are.
  pub packed_never : {A : Type 0} {k : ℕ} → refused k ≡ packed bytes → A
  unfolding without_value
  packed_never {k = k} e =
      let f : ◌≡◌ {A = Answer (Unit {0})} (refused k) (gives tt) = long_refused bytes e ∙ ap without_value read in
      let z : ◌≡◌ {A = ℕ} 0 1 = cc in absurd (omega arith)

  pub packed_reading : {kept : List ℕ} → gives kept ≡ packed bytes → reading kept ≡ gives sheet
  packed_reading e = ap reading (packed_is bytes e) ∙ read

  pub record HeaderIs (h : HeaderValue) : Type 0 where
    pub facts_are : h.facts ≡ sheet.facts
    pub count_is : h.actions ≡ length sheet.actions
    pub space_is : h.space ≡ space_set sheet.facts sheet.constraint
    pub at_is : h.at ≡ stands.actions_at

  pub header_found : (h : HeaderValue) → got (kept_of h) h.at ≡ mapped spaced (header is_edition bytes 0) → HeaderIs h
  unfolding kept_of
  header_found h e =
      let f : ◌≡◌ {A = Read HeaderKept} (got (kept_of h) h.at) (got sheet_kept stands.actions_at) = e ∙ header_kept in
      let same : ◌≡◌ {A = HeaderKept} (kept_of h) sheet_kept = cc in
      let at : h.at ≡ stands.actions_at = cc in
      record {
        facts_are = ap (λ (x : HeaderKept). x.facts) same;
        count_is = ap (λ (x : HeaderKept). x.actions) same;
        space_is = ap (λ (x : HeaderKept). x.space) same;
        at_is = at;
      }

  room : Room sheet
  room = accepted_room bytes sheet read

  -- A header that was read.
  module _ (h : HeaderValue) (found : HeaderIs h) where
    abbrev n : ℕ
    n = h.facts

    abbrev count : ℕ
    count = h.actions

    abbrev space : States
    space = h.space

    abbrev facts_are : n ≡ sheet.facts
    facts_are = found.facts_are

    abbrev count_is : count ≡ length sheet.actions
    count_is = found.count_is

    space_same : (s : ℕ) → s < 256 → member space s ≡ is_state sheet s
    unfolding space_set
    space_same s l = ap (λ (u : States). member u s) found.space_is ∙ member_set_of (in_space sheet.facts sheet.constraint) s l ∙ sym (state_test sheet s)

    sets_are : flat_map (action_sets (member space)) sheet.actions ≡ sheet_action_sets sheet
    unfolding sheet_action_sets
    sets_are = all_same (member space) (is_state sheet) space_same sheet.actions

    heads_are : head_cells (member space) 0 sheet.actions ≡ sheet_heads sheet
    unfolding sheet_heads
    heads_are = heads_same (member space) (is_state sheet) space_same 0 sheet.actions

    actions_stand : ActionsAt bytes n sheet.actions h.at stands.start_at
    actions_stand =
        subst (λ (m : ℕ). ActionsAt bytes m sheet.actions h.at stands.start_at) (sym facts_are)
        (subst (λ (p : ℕ). ActionsAt bytes sheet.facts sheet.actions p stands.start_at) (sym found.at_is) stands.actions_stand)

    pub actions_room : ActionsRoom bytes n space h.at count
    actions_room = record {
      actions = sheet.actions;
      next = stands.start_at;
      stand = actions_stand;
      all = sym count_is;
      few = omega (arith, count_is, (accepted_shape bytes sheet read).actions_most);
      room = omega (arith, ap length sets_are, room.actions_room);
    }

    -- The actions are written.
    module _ (heads heads' sets sets₁ : List ℕ) (laid : Laid) (actions-fill : ActionsFill bytes n space h.at count heads heads' sets sets₁ laid) where
      written : (laid ≡ record { at = stands.start_at; set = length (flat_map (action_sets (member space)) sheet.actions) }) × (heads' ≡ write heads 0 (head_cells (member space) 0 sheet.actions))
          × (sets₁ ≡ write sets 0 (flat_map words (flat_map (action_sets (member space)) sheet.actions)))
      written = actions-fill sheet.actions stands.start_at actions_stand (sym count_is)

      laid_at : laid.at ≡ stands.start_at
      laid_at = ap (λ (x : Laid). x.at) written.0

      laid_set : laid.set ≡ length (sheet_action_sets sheet)
      laid_set = ap (λ (x : Laid). x.set) written.0 ∙ ap length sets_are

      pub heads_filled : heads' ≡ write heads 0 (sheet_heads sheet)
      heads_filled = written.1 ∙ ap (write heads 0) heads_are

      first_sets : sets₁ ≡ write sets 0 (flat_map words (sheet_action_sets sheet))
      first_sets = written.2 ∙ ap (λ (us : List States). write sets 0 (flat_map words us)) sets_are

      -- The start formula stands behind them.
      pub start_stands : ObjectiveAt bytes n (in_theory View.States) sheet.start laid.at stands.goal_at
      unfolding in_theory
      start_stands =
          subst (λ (m : ℕ). ObjectiveAt bytes m false sheet.start laid.at stands.goal_at) (sym facts_are)
          (subst (λ (p : ℕ). ObjectiveAt bytes sheet.facts false sheet.start p stands.goal_at) (sym laid_at) stands.start_stands)

      -- Its set, and where the goal begins.
      module _ (start : States) (goal_at : ℕ) (start_is : start ≡ states_in View.States sheet.start) (goal_is : goal_at ≡ stands.goal_at) where
        pub start_filled : (r : States) → r ≡ set_of (λ s. member space s && member start s) → r ≡ sheet_start sheet
        unfolding sheet_start states_in holds
        start_filled r e =
            e ∙ set_cong (λ s. member space s && member start s) (λ s. is_state sheet s && holds sheet.start s) (λ s l.
            ap₂ (λ (u v : Bool). u && v) (space_same s l) (ap (λ (u : States). member u s) start_is ∙ member_set_of (λ t. truth sheet.start t t) s l))

        goal_read : epistemic n deepest bytes goal_at ≡ got sheet.goal stands.program_at
        goal_read =
            subst (λ (m : ℕ). epistemic m deepest bytes goal_at ≡ got sheet.goal stands.program_at) (sym facts_are)
            (subst (λ (p : ℕ). epistemic sheet.facts deepest bytes p ≡ got sheet.goal stands.program_at) (sym goal_is) stands.goal_read)

        program_stands : ProgramAt bytes n sheet.program stands.program_at stands.end_at
        program_stands = subst (λ (m : ℕ). ProgramAt bytes m sheet.program stands.program_at stands.end_at) (sym facts_are) stands.program_stands

        pub routine_room : RoutineRoom bytes n goal_at laid.set
        routine_room = record {
          goal = sheet.goal;
          program = sheet.program;
          middle = stands.program_at;
          next = stands.end_at;
          read = goal_read;
          stands = program_stands;
          nodes_room = room.nodes_room;
          sets_room = omega (arith, room.sets_room, laid_set);
          acts_room = (accepted_shape bytes sheet read).acts_most;
        }

        -- The goal and the program are written.
        module _ (nodes nodes' sets₂ : List ℕ) (fills : RoutineFills bytes n goal_at laid.set nodes nodes' sets₁ sets₂) where
          routine_filled : (nodes' ≡ write nodes 0 (flat_map cells (routine_nodes sheet.goal sheet.program laid.set)))
              × (sets₂ ≡ write sets₁ (4 * laid.set) (flat_map words (atom_sets sheet.goal ++ program_sets sheet.program)))
          routine_filled = fills sheet.goal sheet.program stands.program_at stands.end_at goal_read program_stands

          pub nodes_filled : nodes' ≡ write nodes 0 (node_cells sheet)
          unfolding node_cells sheet_nodes
          nodes_filled = routine_filled.0 ∙ ap (λ (k : ℕ). write nodes 0 (flat_map cells (routine_nodes sheet.goal sheet.program k))) laid_set

          pub sets_filled : sets₂ ≡ write sets 0 (set_words sheet)
          unfolding set_words sheet_sets
          sets_filled =
              spread_on 4 words words_four sets sets₁ sets₂ 0 laid.set (sheet_action_sets sheet) (atom_sets sheet.goal ++ program_sets sheet.program) first_sets routine_filled.1 (omega (arith, laid_set))

-- What the reader's answer tells: a sheet that is accepted, or a refusal with which nothing is written.
pub some_sheet : (bytes : List ℕ) → gives tt ≡ without_value (reading bytes) → Acceptable bytes
some_sheet bytes e = let a = was_accepted (reading bytes) e in record { sheet = a.0; read = a.1 }

module _ (bytes : List ℕ) (r : ℕ) (no-sheet : refused r ≡ without_value (reading bytes)) where
  refused_reading : reading bytes ≡ refused r
  refused_reading = was_refused (reading bytes) r no-sheet

  pub refused_start : refused r ≡ start_of (reading bytes)
  unfolding start_of on_accepted
  refused_start = ap start_of (sym refused_reading)

  pub refused_memory : (has : Sheet → List ℕ) (memory : List ℕ) → memory ≡ prepared has (reading bytes) memory
  unfolding prepared
  refused_memory has memory = ap (λ (a : Answer Sheet). prepared has a memory) (sym refused_reading)
