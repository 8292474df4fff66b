-- Calls on the tables that a call of `prepare` left in memory do what the sheet says: the set to which steps come, the place at which the routine settles, and what is known.
-- Assumes nothing.
use Prim.Native.Nat.{ℕ, ◌+◌, ◌≤◌, ◌<◌}
use native.Mathlib.Omega.{arith}
use mathlib.Core.Path.{◌≡◌, sym, ap, subst, ◌∙◌}
use mathlib.Core.Logic.{◌⊎◌, inl, inr, ◌↔◌}
use mathlib.Core.List.{List, [], ◌∷◌, ◌++◌, Memᴰ}
use mathlib.Core.Bool.{Bool, true, ◌&&◌}
use lib.ListN.{length}
use Rattle.lists.specs.Lists.{exists}
use Rattle.lists.proofs.ListLaws.{both_true, and_both, exists_mem, mem_exists}
use Rattle.states.specs.declared.States.{States}
use Rattle.states.specs.Sets.{member, set_of, members, words, of_words}
use Rattle.states.proofs.SetLaws.{members_mem, mem_members, words_back}
use Rattle.format.specs.Syntax.{Objective, known, Sheet, action_of}
use Rattle.format.specs.Truth.{is_state, states, holds, allowed}
use Rattle.format.specs.Format.{Answer, gives, given_or, reading}
use Rattle.format.proofs.StateLaws.{state_byte, state_listed}
use Rattle.format.proofs.SheetLaws.{accepted_shape}
use Rattle.semantics.specs.Runs.{Entry, entry, History, extended, step, replies, IsRun, last_state, Known, Holds, holds_after}
use Rattle.semantics.specs.Routine.{perform, routine, Follows, is_full}
use Rattle.semantics.specs.Replies.{left_after}
use Rattle.semantics.specs.Progression.{possible, start_set, next_set, set_after}
use Rattle.semantics.proofs.RunLaws.{tested_holds, holds_tested}
use Rattle.semantics.proofs.ProgressionLaws.{possible_run, run_possible, set_states}
use Rattle.semantics.proofs.ReplyLaws.{is_done, full_left, left_next, next_follows}
use Rattle.routine.specs.Memory.{set_at}
use Rattle.routine.specs.Tables.{sheet_start}
use Rattle.routine.proofs.TableLaws.{Tabled, tables_tabled}
use Rattle.progression.specs.declared.place.Place.{Place as Stop}
use Rattle.progression.specs.Machine.{settled, stepped}
use Rattle.progression.proofs.StepLaws.{tabled_step, members_possible, member_states}
use Rattle.progression.proofs.RoutineLaws.{after_more, known_after_law, Reached, AtAction, AtEnd, start_reached, reached_place}
use Rattle.recovery.specs.Numbers.{memory_after, start_words}
use Rattle.claims.specs.Library.{Library, AfterPrepare}
use Rattle.claims.specs.Terms.{prepared_as}
use Rattle.claims.specs.Demand2.{Made, StepGave, SettleGave, KnowGave, Carried, begin, onward, Reaches, first, further}
use Rattle.claims.proofs.Contracts.{Contracts}

start_written : (answer : Answer Sheet) (sheet : Sheet) → answer ≡ gives sheet → (old : List ℕ) → memory_after start_words answer old ≡ words (sheet_start sheet)
unfolding memory_after start_words given_or
start_written answer sheet e old = ap (λ (a : Answer Sheet). memory_after start_words a old) e

module _ {ℓ} (library : Library {ℓ}) (contracts : Contracts library) {sheet : Sheet} (m : Made library sheet) where
  abbrev bytes : List ℕ
  bytes = m.asked.sheet

  abbrev heads : List ℕ
  heads = m.given.tables.heads

  abbrev nodes : List ℕ
  nodes = m.given.tables.nodes

  abbrev sets : List ℕ
  sets = m.given.tables.sets

  abbrev few : sheet.facts ≤ 8
  few = (accepted_shape bytes sheet m.read).facts_most

  fixed : m.given ≡ prepared_as m.asked
  fixed = contracts.prepare_contract m.asked m.given m.made

  pub tabled : Tabled sheet heads nodes sets
  unfolding prepared_as
  tabled =
      tables_tabled bytes sheet m.read m.asked.tables.heads m.asked.tables.nodes m.asked.tables.sets (contracts.prepare_sized m.asked m.given m.made) heads nodes sets (
        ap (λ (y : AfterPrepare). y.tables.heads) fixed,
        ap (λ (y : AfterPrepare). y.tables.nodes) fixed,
        ap (λ (y : AfterPrepare). y.tables.sets) fixed,
      )

  start_is : of_words m.given.start ≡ sheet_start sheet
  unfolding prepared_as
  start_is = ap of_words (ap (λ (y : AfterPrepare). y.start) fixed ∙ start_written (reading bytes) sheet m.read m.asked.start) ∙ words_back (sheet_start sheet)

  step_is : (set : List ℕ) (a r : ℕ) (next : List ℕ) → StepGave library m set a r next → of_words next ≡ stepped heads sets (of_words set) a r
  step_is set a r next s =
      ap of_words (contracts.step_contract (record { tables = m.given.tables; set = set; action = a; reply = r }) next s) ∙ words_back (stepped heads sets (of_words set) a r)

  settle_is : (at : ℕ) (set : List ℕ) (stop : Stop) → SettleGave library m at set stop → stop ≡ settled nodes sets (of_words set) at
  settle_is at set stop s = contracts.settle_contract (record { tables = m.given.tables; set = set; at = at }) stop s

  carried_set : (h : History) (set : List ℕ) → Carried library m h set → of_words set ≡ set_of (set_after sheet (start_set sheet) h)
  unfolding set_after sheet_start start_set
  carried_set h set begin = start_is
  carried_set h set (onward {h = g} {set = before} a r c l s) =
      step_is before a r set s ∙ ap (λ (u : States). stepped heads sets u a r) (carried_set g before c)
      ∙ tabled_step sheet few heads nodes sets tabled (set_after sheet (start_set sheet) g) (set_states sheet g) a l r ∙ ap set_of (sym (after_more sheet (start_set sheet) g (entry a r)))

  carried_member : (h : History) (set : List ℕ) → Carried library m h set → (t : ℕ) → member (of_words set) t ≡ set_after sheet (start_set sheet) h t
  carried_member h set c t = ap (λ (u : States). member u t) (carried_set h set c) ∙ member_states sheet few (set_after sheet (start_set sheet) h) (set_states sheet h) t

  -- A step leads to the states to which a state of the set leads.
  module _ (h : History) (set : List ℕ) (c : Carried library m h set) (a r : ℕ) (l : a < length sheet.actions) (next : List ℕ) (g : StepGave library m set a r next) (t : ℕ) where
    leads : ℕ → Bool
    leads s = set_after sheet (start_set sheet) h s && step sheet (entry a r) s t

    led : member (of_words next) t ≡ (is_state sheet t && exists leads (states sheet))
    unfolding next_set leads
    led = carried_member (extended h a r) next (onward a r c l g) t ∙ ap (λ (f : ℕ → Bool). f t) (after_more sheet (start_set sheet) h (entry a r))

    pub carried_step : (member (of_words next) t ≡ true) ↔ ((is_state sheet t ≡ true) × ((s : ℕ) × (member (of_words set) s ≡ true) × (allowed (action_of sheet a) s r t ≡ true)))
    unfolding leads step
    carried_step = (
      λ e.
          let b = both_true (is_state sheet t) (exists leads (states sheet)) (sym led ∙ e) in
          let w = exists_mem leads (states sheet) b.1 in
          let x = both_true (set_after sheet (start_set sheet) h w.0) (step sheet (entry a r) w.0 t) w.2 in
          (b.0, (w.0, carried_member h set c w.0 ∙ x.0, x.1)),
      λ w.
          let s = w.1.0 in
          let there = sym (carried_member h set c s) ∙ w.1.1 in
          led ∙ and_both (is_state sheet t) (exists leads (states sheet)) w.0
          (mem_exists leads (states sheet) (state_listed sheet s (set_states sheet h s there)) (and_both (set_after sheet (start_set sheet) h s) (step sheet (entry a r) s t) there w.1.2)),
    )

  -- Its states are the last states of the runs with the history; what a formula's table says of it is what holds in all of them.
  pub carried_states : (h : History) (set : List ℕ) → Carried library m h set
      → (t : ℕ) → (member (of_words set) t ≡ true) ↔ ((run : List ℕ) × IsRun sheet h run × (last_state run ≡ t))
  carried_states h set c t = (there, back)
    where
      same : members (of_words set) ≡ possible sheet h
      same = ap members (carried_set h set c) ∙ members_possible sheet few h

      there : member (of_words set) t ≡ true → (run : List ℕ) × IsRun sheet h run × (last_state run ≡ t)
      there k =
          let l = state_byte sheet few t (set_states sheet h t (sym (carried_member h set c t) ∙ k)) in
          possible_run sheet h (subst (Memᴰ t) same (mem_members (of_words set) t l k))

      back : (run : List ℕ) × IsRun sheet h run × (last_state run ≡ t) → member (of_words set) t ≡ true
      back q = (members_mem (of_words set) (subst (Memᴰ t) (sym same) (subst (λ (s : ℕ). Memᴰ s (possible sheet h)) q.2 (run_possible sheet h q.0 q.1)))).1

  pub carried_known : (h : History) (set : List ℕ) → Carried library m h set → (k : ℕ) (f : Objective) → set_at sets k ≡ set_of (λ s. holds f s) → (b : Bool) → KnowGave library m k set b
      → (b ≡ true) ↔ ((run : List ℕ) → IsRun sheet h run → holds f (last_state run) ≡ true)
  unfolding Holds Known holds_after
  carried_known h set c k f e b call =
      let tested : b ≡ holds_after sheet h (known f) =
      contracts.know_contract (record { tables = m.given.tables; set = set; formula = k }) b call
      ∙ known_after_law sheet heads nodes sets bytes m.read tabled h (of_words set) (carried_set h set c) k f e in
      (λ t. tested_holds sheet h (known f) (sym tested ∙ t), λ t. tested ∙ holds_tested sheet h (known f) t)

  -- The place and the set to which calls come are those of the routine.
  reaches_reached : (h : History) (at : ℕ) (set : List ℕ) → Reaches library m h at set → Reached sheet heads nodes sets h at (of_words set)
  reaches_reached h at set first = subst (Reached sheet heads nodes sets [] 0) (sym start_is) (start_reached sheet heads nodes sets bytes m.read tabled)
  reaches_reached h at set (further {h = g} {at = before_at} {set = before} node a r c s t) =
      go (reached_place sheet heads nodes sets bytes m.read tabled g before_at (of_words before) (reaches_reached g before_at before c)) (settle_is before_at before (Stop.Act node a) s)
    where
      go : AtAction sheet heads nodes sets g before_at (of_words before) ⊎ AtEnd sheet heads nodes sets g before_at (of_words before) → Stop.Act node a ≡ settled nodes sets (of_words before) before_at
          → Reached sheet heads nodes sets (extended g a r) (node + 1) (of_words set)
      go (inl x) e =
          let same : Stop.Act node a ≡ Stop.Act x.place x.action = e ∙ x.settles in
          let place : x.place ≡ node = cc in
          let action : x.action ≡ a = cc in
          let stepping : stepped heads sets (of_words before) x.action r ≡ of_words set = ap (λ (b : ℕ). stepped heads sets (of_words before) b r) action ∙ sym (step_is before a r set t) in
          subst (λ (b : ℕ). Reached sheet heads nodes sets (extended g b r) (node + 1) (of_words set)) action
          (subst (λ (p : ℕ). Reached sheet heads nodes sets (extended g x.action r) (p + 1) (of_words set)) place
          (subst (Reached sheet heads nodes sets (extended g x.action r) (x.place + 1)) stepping (x.onward r)))
      go (inr x) e =
          let same : Stop.Act node a ≡ Stop.End (holds_after sheet g sheet.goal) = e ∙ x.settles in
          let z : ◌≡◌ {A = ℕ} 0 1 = cc in absurd (omega arith)

  module _ (h : History) (at : ℕ) (set : List ℕ) (came : Reaches library m h at set) where
    abbrev Here : Type 0
    Here = AtAction sheet heads nodes sets h at (of_words set) ⊎ AtEnd sheet heads nodes sets h at (of_words set)

    here : Here
    here = reached_place sheet heads nodes sets bytes m.read tabled h at (of_words set) (reaches_reached h at set came)

    follows_here : Follows (routine sheet) h
    follows_here = (reaches_reached h at set came).follows

    abbrev ToldAction : ℕ → Type 0
    ToldAction a = Follows (routine sheet) h × ((r : ℕ) → Follows (routine sheet) (extended h a r)) × ((e : Entry) (g : History) → Follows (routine sheet) (h ++ (e ∷ g)) → e.action ≡ a)

    pub action_told : (node a : ℕ) → SettleGave library m at set (Stop.Act node a) → ToldAction a
    action_told node a call = go here (settle_is at set (Stop.Act node a) call)
      where
        go : Here → Stop.Act node a ≡ settled nodes sets (of_words set) at → ToldAction a
        go (inl x) e =
            let same : Stop.Act node a ≡ Stop.Act x.place x.action = e ∙ x.settles in
            let action : x.action ≡ a = cc in
            let next : left_after (routine sheet) (replies h) ≡ perform a x.after = x.next ∙ ap (λ (b : ℕ). perform b x.after) action in (
              follows_here,
              λ r. next_follows (routine sheet) h a x.after r follows_here next,
              λ d g f. let n = left_next (routine sheet) h d g f in let k : perform d.action n.0 ≡ perform a x.after = sym n.1 ∙ next in cc,
            )
        go (inr x) e =
            let same : Stop.Act node a ≡ Stop.End (holds_after sheet h sheet.goal) = e ∙ x.settles in
            let z : ◌≡◌ {A = ℕ} 0 1 = cc in absurd (omega arith)

    abbrev ToldEnd : Bool → Type 0
    ToldEnd goal = Follows (routine sheet) h × (is_full (routine sheet) h ≡ true) × ((goal ≡ true) ↔ Holds sheet h sheet.goal)

    pub end_told : (goal : Bool) → SettleGave library m at set (Stop.End goal) → ToldEnd goal
    unfolding is_done
    end_told goal call = go here (settle_is at set (Stop.End goal) call)
      where
        go : Here → Stop.End goal ≡ settled nodes sets (of_words set) at → ToldEnd goal
        go (inl x) e =
            let same : Stop.End goal ≡ Stop.Act x.place x.action = e ∙ x.settles in
            let z : ◌≡◌ {A = ℕ} 0 1 = cc in absurd (omega arith)
        go (inr x) e =
            let same : Stop.End goal ≡ Stop.End (holds_after sheet h sheet.goal) = e ∙ x.settles in
            let tested : goal ≡ holds_after sheet h sheet.goal = cc in (
              follows_here,
              full_left (routine sheet) h follows_here ∙ ap is_done x.nothing,
              (λ t. tested_holds sheet h sheet.goal (sym tested ∙ t), λ t. tested ∙ holds_tested sheet h sheet.goal t),
            )
