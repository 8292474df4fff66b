-- When the tests after the fields refuse and accept: 16, 13, 14 and 15, by the states of the sheet. Assumes nothing.
use Prim.Native.Nat.{ℕ, zero, suc, ◌≤◌, ◌<◌}
use mathlib.Core.Path.{◌≡◌, refl, sym, ◌∙◌}
use mathlib.Core.Logic.{◌⊎◌, inl, inr, ⊎_elim, ◌↔◌}
use mathlib.Core.List.{List, [], ◌∷◌, ◌++◌, flat_map}
use mathlib.Core.Bool.{Bool, true, false}
use native.Mathlib.Omega.{arith}
use lib.Dec.{leb}
use lib.ListN.{length, get_or}
use borrow.Author.Tests.{leb-true, le-leb}
use Rattle.lists.specs.Lists.{below, every, exists, nonempty}
use Rattle.std.specs.Prelude.{if◌then◌else◌}
use Rattle.lists.proofs.ListLaws.{not_both, is_false, every_mem, every_fails, exists_mem, mem_exists, mem_nonempty, nonempty_mem, mem_up_from, up_from_mem}
use Rattle.format.specs.Syntax.{Action, probe, reply_count, Sheet, action_of}
use Rattle.format.specs.Truth.{is_state, states, holds, moves, reply_holds}
use Rattle.format.specs.Format.{gives, refused, Read, got, fault, most_bytes, sheet_fields, is_padding, has_start, leads_on, has_reply, unless, action_faults, faults, decided, after_fields, of_sheet, reading_by, is_edition, reading, Says}
use Rattle.format.proofs.StateLaws.{listed_state, state_listed}
use Rattle.format.proofs.SheetLaws.{accepted_says, accepted_passed, action_mem}
use Rattle.format.proofs.FaultLaws.{fields_numbered}

-- The numbers of the tests that fail behind the padding.
abbrev later : Sheet → List ℕ
later sheet = unless (nonempty (states sheet)) 16 ++ unless (has_start (states sheet) sheet.start) 13 ++ flat_map (action_faults (states sheet)) sheet.actions

-- An action passes both tests.
abbrev Passes : List ℕ → Action → Type 0
Passes space a = (leads_on space (moves a) ≡ true) × (has_reply space a ≡ true)

-- It fails one, by its number: 14, or else 15.
abbrev Fails : List ℕ → Action → ℕ → Type 0
Fails space a k = ((leads_on space (moves a) ≡ false) × (k ≡ 14)) ⊎ ((leads_on space (moves a) ≡ true) × (has_reply space a ≡ false) × (k ≡ 15))

-- The first action that fails.
pub record FirstFault (space : List ℕ) (actions : List Action) (k : ℕ) : Type 0 where
  pub number : ℕ
  pub there : number < length actions
  pub before : (i : ℕ) → i < number → Passes space (get_or actions i (probe []))
  pub fails : Fails space (get_or actions number (probe [])) k

module _ (space : List ℕ) (sheet : Sheet) (k : ℕ) where
  abbrev Refuses : List Action → Type 0
  Refuses actions = decided (flat_map (action_faults space) actions) sheet ≡ refused k

  -- One action before others.
  more_first : (a : Action) (rest : List Action) → (Refuses rest → FirstFault space rest k) → Refuses (a ∷ rest) → FirstFault space (a ∷ rest) k
  unfolding action_faults unless flat_map decided
  more_first a rest later e = go (leads_on space (moves a)) refl (has_reply space a) refl e
    where
      here : Fails space a k → FirstFault space (a ∷ rest) k
      here f = record { number = 0; there = omega arith; before = λ i l. absurd (omega arith); fails = f }

      behind : Passes space a → FirstFault space rest k → FirstFault space (a ∷ rest) k
      behind p f = record {
        number = suc f.number;
        there = omega (arith, f.there);
        before = λ i l. all i l;
        fails = f.fails;
      }
        where
          all : (i : ℕ) → i < suc f.number → Passes space (get_or (a ∷ rest) i (probe []))
          all zero l = p
          all (suc i) l = f.before i (omega arith)

      go : (b : Bool) → leads_on space (moves a) ≡ b → (c : Bool) → has_reply space a ≡ c → decided ((unless b 14 ++ unless c 15) ++ flat_map (action_faults space) rest) sheet ≡ refused k → FirstFault space (a ∷ rest) k
      go false l c h d = let same : k ≡ 14 = cc in here (inl (l, same))
      go true l false h d = let same : k ≡ 15 = cc in here (inr (l, h, same))
      go true l true h d = behind (l, h) (later d)

  actions_first : (actions : List Action) → Refuses actions → FirstFault space actions k
  unfolding flat_map decided
  actions_first [] e = let z : ◌≡◌ {A = ℕ} 0 1 = cc in absurd (omega arith)
  actions_first (a ∷ rest) e = more_first a rest (λ d. actions_first rest d) e

  -- And the other way round.
  first_decides : (actions : List Action) (i : ℕ) → i < length actions → ((j : ℕ) → j < i → Passes space (get_or actions j (probe []))) → Fails space (get_or actions i (probe [])) k → Refuses actions
  unfolding action_faults unless flat_map decided
  first_decides [] i l before f = absurd (omega arith)
  first_decides (a ∷ rest) zero l before f = ⊎_elim (λ x. rw (x.0, x.1)) (λ x. rw (x.0, x.1, x.2)) f
  first_decides (a ∷ rest) (suc i) l before f =
      let p = before 0 (omega arith) in
      let d = first_decides rest i (omega arith) (λ j m. before (suc j) (omega arith)) f in
      rw (p.0, p.1) d

  first_actions : (actions : List Action) → FirstFault space actions k → Refuses actions
  first_actions actions f = first_decides actions f.number f.there f.before f.fails

-- Where every action passes, none of its tests fails.
none_fail : (space : List ℕ) (actions : List Action) → ((i : ℕ) → i < length actions → Passes space (get_or actions i (probe []))) → flat_map (action_faults space) actions ≡ []
unfolding action_faults unless flat_map
none_fail space [] p = refl
none_fail space (a ∷ rest) p = let x = p 0 (omega arith) in rw (x.0, x.1) (none_fail space rest (λ i l. p (suc i) (omega arith)))

-- What each test asks, by the states.
module _ (sheet : Sheet) where
  pub some_state : (nonempty (states sheet) ≡ true) ↔ ((s : ℕ) × (is_state sheet s ≡ true))
  some_state = (λ e. let w = nonempty_mem (states sheet) e in (w.0, listed_state sheet w.1), λ w. mem_nonempty (states sheet) (state_listed sheet w.0 w.1))

  pub some_start : (has_start (states sheet) sheet.start ≡ true) ↔ ((s : ℕ) × (is_state sheet s ≡ true) × (holds sheet.start s ≡ true))
  unfolding has_start
  some_start = (
    λ e. let w = exists_mem (holds sheet.start) (states sheet) e in (w.0, listed_state sheet w.1, w.2),
    λ w. mem_exists (holds sheet.start) (states sheet) (state_listed sheet w.0 w.1) w.2,
  )

  module _ (a : Action) where
    -- A state without next state; a state without reply.
    pub some_stuck : (leads_on (states sheet) (moves a) ≡ false) ↔ ((s : ℕ) × (is_state sheet s ≡ true) × ((t : ℕ) → is_state sheet t ≡ true → moves a s t ≡ true → ⊥))
    unfolding leads_on
    some_stuck = (
      λ e.
          let w = every_fails goes (states sheet) e in
          (w.0, listed_state sheet w.1, λ t i m. not_both (mem_exists (moves a w.0) (states sheet) (state_listed sheet t i) m) w.2),
      λ w. is_false (every goes (states sheet)) (λ e.
          let x = exists_mem (moves a w.0) (states sheet) (every_mem goes (states sheet) e (state_listed sheet w.0 w.1)) in
          w.2 x.0 (listed_state sheet x.1) x.2),
    )
      where
        goes : ℕ → Bool
        goes s = exists (λ t. moves a s t) (states sheet)

    pub some_silent : (has_reply (states sheet) a ≡ false) ↔ ((s : ℕ) × (is_state sheet s ≡ true) × ((r : ℕ) → r < reply_count a → reply_holds a r s ≡ true → ⊥))
    unfolding has_reply
    some_silent = (
      λ e.
          let w = every_fails replied (states sheet) e in
          (w.0, listed_state sheet w.1, λ r l h. not_both (mem_exists (λ r. reply_holds a r w.0) (below (reply_count a)) (mem_up_from 0 (reply_count a) r (omega arith) (omega (arith, l))) h) w.2),
      λ w. is_false (every replied (states sheet)) (λ e.
          let x = exists_mem (λ r. reply_holds a r w.0) (below (reply_count a)) (every_mem replied (states sheet) e (state_listed sheet w.0 w.1)) in
          w.2 x.0 (omega (arith, (up_from_mem 0 (reply_count a) x.1).1)) x.2),
    )
      where
        replied : ℕ → Bool
        replied s = exists (λ r. reply_holds a r s) (below (reply_count a))

-- A number of an action's tests is 14 or 15.
fails_number : (space : List ℕ) (actions : List Action) (k : ℕ) → FirstFault space actions k → (14 ≤ k) × (k ≤ 15)
fails_number space actions k f = ⊎_elim (λ x. (omega (arith, x.1), omega (arith, x.1))) (λ x. (omega (arith, x.2), omega (arith, x.2))) f.fails

-- The test of a sheet that fails first, by its number: 16, 13, or one of an action.
abbrev FirstTest : Sheet → ℕ → Type 0
FirstTest sheet k =
    ((nonempty (states sheet) ≡ false) × (k ≡ 16)) ⊎ (((nonempty (states sheet) ≡ true) × (has_start (states sheet) sheet.start ≡ false) × (k ≡ 13))
    ⊎ ((has_start (states sheet) sheet.start ≡ true) × FirstFault (states sheet) sheet.actions k))

first_test : (sheet : Sheet) (k : ℕ) → decided (later sheet) sheet ≡ refused k → FirstTest sheet k
unfolding unless decided
first_test sheet k e = go (nonempty (states sheet)) refl (has_start (states sheet) sheet.start) refl e
  where
    go : (b : Bool) → nonempty (states sheet) ≡ b → (c : Bool) → has_start (states sheet) sheet.start ≡ c
        → decided (unless b 16 ++ unless c 13 ++ flat_map (action_faults (states sheet)) sheet.actions) sheet ≡ refused k → FirstTest sheet k
    go false l c h d = let same : k ≡ 16 = cc in inl (l, same)
    go true l false h d = let same : k ≡ 13 = cc in inr (inl (l, h, same))
    go true l true h d = inr (inr (h, actions_first (states sheet) sheet k sheet.actions d))

-- Where there is a start state, there is a state.
start_some : (sheet : Sheet) → has_start (states sheet) sheet.start ≡ true → nonempty (states sheet) ≡ true
start_some sheet start = let w = (some_start sheet).0 start in (some_state sheet).1 (w.0, w.1)

module _ (bytes : List ℕ) where
  -- They decide of the bytes that say a sheet,
  says_decided : {sheet : Sheet} → Says bytes sheet → reading bytes ≡ decided (later sheet) sheet
  unfolding reading reading_by of_sheet after_fields faults unless
  says_decided x = rw (le-leb (length bytes) most_bytes x.short, x.fields, x.padded)

  -- and a number above 12 is one of theirs.
  refused_late : (k : ℕ) → 12 < k → reading bytes ≡ refused k → (sheet : Sheet) × Says bytes sheet × FirstTest sheet k
  unfolding reading reading_by of_sheet after_fields decided faults unless
  refused_late k l e = go (leb (length bytes) most_bytes) refl e
    where
      Late : Type 0
      Late = (sheet : Sheet) × Says bytes sheet × FirstTest sheet k

      behind : length bytes ≤ most_bytes → (sheet : Sheet) (p : ℕ) → sheet_fields is_edition bytes 0 ≡ got sheet p → (b : Bool) → is_padding bytes p ≡ b
          → decided (unless b 12 ++ unless (nonempty (states sheet)) 16 ++ unless (has_start (states sheet) sheet.start) 13 ++ flat_map (action_faults (states sheet)) sheet.actions) sheet ≡ refused k → Late
      behind short sheet p f true padded d = (sheet, record { short = short; ends = p; fields = f; padded = padded }, first_test sheet k d)
      behind short sheet p f false padded d = let same : 12 ≡ k = cc in absurd (omega (arith, same))

      after : length bytes ≤ most_bytes → (f : Read Sheet) → sheet_fields is_edition bytes 0 ≡ f → after_fields action_faults bytes f ≡ refused k → Late
      after short (fault r) f d = let same : r ≡ k = cc in absurd (omega (arith, (fields_numbered is_edition bytes r f).1, same))
      after short (got sheet p) f d = behind short sheet p f (is_padding bytes p) refl d

      go : (b : Bool) → leb (length bytes) most_bytes ≡ b → after_fields action_faults bytes (if b then sheet_fields is_edition bytes 0 else fault 1) ≡ refused k → Late
      go true short d = after (leb-true (length bytes) most_bytes short) (sheet_fields is_edition bytes 0) refl d
      go false short d = let same : 1 ≡ k = cc in absurd (omega (arith, same))

  -- So the bytes are refused: 16 where the sheet that they say has no state; 13 where it has one, and no start state; 14 or 15 where it has a start state, by the first action
  -- that fails.
  pub refused_stateless : (reading bytes ≡ refused 16) ↔ ((sheet : Sheet) × Says bytes sheet × (nonempty (states sheet) ≡ false))
  unfolding unless decided
  refused_stateless = (
    λ e.
        let w = refused_late 16 (omega arith) e in
        (w.0, w.1, ⊎_elim (λ x. x.0) (⊎_elim (λ x. absurd (omega (arith, x.2))) (λ x. absurd (omega (arith, (fails_number _ _ 16 x.1).1)))) w.2),
    λ w. says_decided w.1 ∙ rw w.2,
  )

  pub refused_startless : (reading bytes ≡ refused 13) ↔ ((sheet : Sheet) × Says bytes sheet × (nonempty (states sheet) ≡ true) × (has_start (states sheet) sheet.start ≡ false))
  unfolding unless decided
  refused_startless = (
    λ e.
        let w = refused_late 13 (omega arith) e in
        let x : (nonempty (states w.0) ≡ true) × (has_start (states w.0) w.0.start ≡ false) =
        ⊎_elim (λ y. absurd (omega (arith, y.1))) (⊎_elim (λ y. (y.0, y.1)) (λ y. absurd (omega (arith, (fails_number _ _ 13 y.1).0)))) w.2 in
        (w.0, w.1, x.0, x.1),
    λ w. says_decided w.1 ∙ rw (w.2, w.3),
  )

  pub refused_action : (k : ℕ) → 13 < k → k < 16
      → (reading bytes ≡ refused k) ↔ ((sheet : Sheet) × Says bytes sheet × (has_start (states sheet) sheet.start ≡ true) × FirstFault (states sheet) sheet.actions k)
  unfolding unless decided
  refused_action k l m = (
    λ e.
        let w = refused_late k (omega arith) e in
        let x : (has_start (states w.0) w.0.start ≡ true) × FirstFault (states w.0) w.0.actions k =
        ⊎_elim (λ y. absurd (omega (arith, y.1))) (⊎_elim (λ y. absurd (omega (arith, y.2))) (λ y. y)) w.2 in
        (w.0, w.1, x.0, x.1),
    λ w. says_decided w.1 ∙ rw (start_some w.0 w.2, w.2) (first_actions (states w.0) w.0 k w.0.actions w.3),
  )

  -- And they are accepted where it has a start state and every action passes.
  pub accepted_passes : (sheet : Sheet) → (reading bytes ≡ gives sheet)
      ↔ (Says bytes sheet × (has_start (states sheet) sheet.start ≡ true) × ((i : ℕ) → i < length sheet.actions → Passes (states sheet) (get_or sheet.actions i (probe []))))
  unfolding unless decided action_of
  accepted_passes sheet = (
    λ e.
        let p = accepted_passed bytes sheet e in
        (accepted_says bytes sheet e, p.start, λ i l. (p.leads (action_of sheet i) (action_mem sheet i l), p.answered (action_of sheet i) (action_mem sheet i l))),
    λ w. says_decided w.0 ∙ rw (start_some sheet w.1, w.1, none_fail (states sheet) sheet.actions w.2),
  )

-- Bytes that say the same sheet are read alike.
pub says_alike : (one two : List ℕ) {sheet : Sheet} → Says one sheet → Says two sheet → reading one ≡ reading two
says_alike one two x y = says_decided one x ∙ sym (says_decided two y)
