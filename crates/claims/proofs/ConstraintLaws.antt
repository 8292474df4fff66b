-- What is said of the constraint follows from the contracts. Assumes nothing.
use Prim.Native.Nat.{ℕ, ◌^◌, ◌<◌}
use mathlib.Core.Path.{◌≡◌, refl, sym, ap, ap₂, subst, ◌∙◌}
use mathlib.Core.Logic.{inl, inr, ⊎_elim, ◌↔◌}
use mathlib.Core.List.{List, [], ◌∷◌, Memᴰ}
use mathlib.Core.Bool.{true, false}
use native.Mathlib.Omega.{arith}
use lib.Pow.{ones_lt}
use lib.ListN.{length}
use borrow.Author.Tests.{eq-eqb, ne_eqb}
use Rattle.lists.specs.Lists.{nonempty}
use Rattle.lists.proofs.ListLaws.{not_both, is_false, is_true}
use Rattle.states.specs.Sets.{member, of_words}
use Rattle.format.specs.Syntax.{Objective, top, Action, Sheet, action_of}
use Rattle.format.specs.Truth.{is_state, states, truth, holds, moves}
use Rattle.format.specs.Format.{Answer, gives, refused, Read, got, field, deepest, objective, header, is_edition, has_start, leads_on, has_reply, reading, Says}
use Rattle.format.proofs.StateLaws.{state_below, state_constrained, constrained_state, all_states}
use Rattle.format.proofs.FieldLaws.{one_to_eight, constraint_stands, constraint_absent, constraint_refused, header_goes_on}
use Rattle.format.proofs.ReaderLaws.{sheet_short}
use Rattle.format.proofs.SheetLaws.{accepted_says, reading_refused}
use Rattle.format.proofs.FaultLaws.{refused_edition}
use Rattle.format.proofs.Cases.{sample1_sheet, accepted_holds, true_holds}
use Rattle.format.proofs.StandingLaws.{HeaderFields, says_header}
use Rattle.format.proofs.RefusalLaws.{FirstFault, some_state, some_start, some_stuck, some_silent, says_alike, refused_stateless, refused_startless, refused_action, accepted_passes}
use Rattle.reader.specs.Answers.{without_value}
use Rattle.semantics.specs.Runs.{History, Steps, IsRun, last_state, last_from}
use Rattle.semantics.specs.Verdict.{Verified, verified}
use Rattle.semantics.specs.Checker.{shown_history, shown_states, checked}
use Rattle.semantics.specs.Cases.{sheet1, sheet1_edition2}
use Rattle.semantics.proofs.RunLaws.{run_last, run_states}
use Rattle.semantics.proofs.MemoryLaws.{verified_alike}
use Rattle.semantics.proofs.CheckerLaws.{failing_yes, yes_run}
use Rattle.claims.specs.Library.{Library, Gave, AfterVerify, AfterCheck}
use Rattle.claims.specs.Terms.{verified_as, checked_as}
use Rattle.claims.specs.Demand2.{Made, Carried, begin}
use Rattle.claims.specs.Constraint.{OfEdition, Satisfies, HasState, HasStart, WithoutNext, WithoutReply, Passes, WithoutReplyAlone, First, Twins, Constraint}
use Rattle.claims.proofs.Contracts.{Contracts}
use Rattle.claims.proofs.TableLaws.{carried_states, carried_step}
use Rattle.claims.proofs.Demand2Laws.{accepted_exactly, refused_exactly}
use Rattle.claims.proofs.Demand3Laws.{demand3}

module _ (sheet : Sheet) where
  -- The states of a sheet are the numbers that satisfy its constraint.
  state_satisfies : (s : ℕ) → is_state sheet s ≡ true → Satisfies sheet s
  unfolding Satisfies
  state_satisfies s e = (state_below sheet s e, state_constrained sheet s e)

  satisfies_state : (s : ℕ) → Satisfies sheet s → is_state sheet s ≡ true
  unfolding Satisfies
  satisfies_state s x = constrained_state sheet s x.0 x.1

  -- So the tests ask what they are said to ask.
  has_state : (nonempty (states sheet) ≡ true) ↔ HasState sheet
  unfolding HasState
  has_state = (
    λ e. let w = (some_state sheet).0 e in (w.0, state_satisfies w.0 w.1),
    λ w. (some_state sheet).1 (w.0, satisfies_state w.0 w.1),
  )

  has_start_law : (has_start (states sheet) sheet.start ≡ true) ↔ HasStart sheet
  unfolding HasStart
  has_start_law = (
    λ e. let w = (some_start sheet).0 e in (w.0, state_satisfies w.0 w.1, w.2),
    λ w. (some_start sheet).1 (w.0, satisfies_state w.0 w.1, w.2),
  )

  without_next : (a : Action) → (leads_on (states sheet) (moves a) ≡ false) ↔ WithoutNext sheet a
  unfolding WithoutNext
  without_next a = (
    λ e. let w = (some_stuck sheet a).0 e in (w.0, state_satisfies w.0 w.1, λ t x. w.2 t (satisfies_state t x)),
    λ w. (some_stuck sheet a).1 (w.0, satisfies_state w.0 w.1, λ t i. w.2 t (state_satisfies t i)),
  )

  without_reply : (a : Action) → (has_reply (states sheet) a ≡ false) ↔ WithoutReply sheet a
  unfolding WithoutReply
  without_reply a = (
    λ e. let w = (some_silent sheet a).0 e in (w.0, state_satisfies w.0 w.1, w.2),
    λ w. (some_silent sheet a).1 (w.0, satisfies_state w.0 w.1, w.2),
  )

module _ (sheet : Sheet) where
  -- An action that passes both tests.
  passed : (a : Action) → (leads_on (states sheet) (moves a) ≡ true) × (has_reply (states sheet) a ≡ true) → Passes sheet a
  unfolding Passes
  passed a p = (λ w. not_both p.0 ((without_next sheet a).1 w), λ w. not_both p.1 ((without_reply sheet a).1 w))

  passing : (a : Action) → Passes sheet a → (leads_on (states sheet) (moves a) ≡ true) × (has_reply (states sheet) a ≡ true)
  unfolding Passes
  passing a p = (is_true (leads_on (states sheet) (moves a)) (λ e. p.0 ((without_next sheet a).0 e)), is_true (has_reply (states sheet) a) (λ e. p.1 ((without_reply sheet a).0 e)))

  first_next : FirstFault (states sheet) sheet.actions 14 ↔ First sheet WithoutNext
  unfolding action_of
  first_next = (
    λ f. record {
      number = f.number;
      there = f.there;
      fails = ⊎_elim (λ x. (without_next sheet (action_of sheet f.number)).0 x.0) (λ x. absurd (omega (arith, x.2))) f.fails;
      before = λ i l. passed (action_of sheet i) (f.before i l);
    },
    λ f. record {
      number = f.number;
      there = f.there;
      before = λ i l. passing (action_of sheet i) (f.before i l);
      fails = inl ((without_next sheet (action_of sheet f.number)).1 f.fails, refl);
    },
  )

  first_reply : FirstFault (states sheet) sheet.actions 15 ↔ First sheet WithoutReplyAlone
  unfolding action_of WithoutReplyAlone
  first_reply = (
    λ f. record {
      number = f.number;
      there = f.there;
      fails =
          let a = action_of sheet f.number in
          ⊎_elim (λ x. absurd (omega (arith, x.1))) (λ x. (λ w. not_both x.0 ((without_next sheet a).1 w), (without_reply sheet a).0 x.1)) f.fails;
      before = λ i l. passed (action_of sheet i) (f.before i l);
    },
    λ f. record {
      number = f.number;
      there = f.there;
      before = λ i l. passing (action_of sheet i) (f.before i l);
      fails =
          let a = action_of sheet f.number in
          inr (is_true (leads_on (states sheet) (moves a)) (λ e. f.fails.0 ((without_next sheet a).0 e)), (without_reply sheet a).1 f.fails.1, refl);
    },
  )

-- The number of a refusal, read as it is refused for.
stateless : (bytes : List ℕ) → (reading bytes ≡ refused 16) ↔ ((sheet : Sheet) × Says bytes sheet × (HasState sheet → ⊥))
stateless bytes = (
  λ e. let w = (refused_stateless bytes).0 e in (w.0, w.1, λ s. not_both ((has_state w.0).1 s) w.2),
  λ w. (refused_stateless bytes).1 (w.0, w.1, is_false (nonempty (states w.0)) (λ e. w.2 ((has_state w.0).0 e))),
)

startless : (bytes : List ℕ) → (reading bytes ≡ refused 13) ↔ ((sheet : Sheet) × Says bytes sheet × HasState sheet × (HasStart sheet → ⊥))
startless bytes = (
  λ e. let w = (refused_startless bytes).0 e in (w.0, w.1, (has_state w.0).0 w.2, λ s. not_both ((has_start_law w.0).1 s) w.3),
  λ w. (refused_startless bytes).1 (w.0, w.1, (has_state w.0).1 w.2, is_false (has_start (states w.0) w.0.start) (λ e. w.3 ((has_start_law w.0).0 e))),
)

module _ (bytes : List ℕ) (k : ℕ) (more : 13 < k) (less : k < 16) (Fails : Sheet → Action → Type 0) (same : (sheet : Sheet) → FirstFault (states sheet) sheet.actions k ↔ First sheet Fails) where
  actionless : (reading bytes ≡ refused k) ↔ ((sheet : Sheet) × Says bytes sheet × HasStart sheet × First sheet Fails)
  actionless = (
    λ e. let w = (refused_action bytes k more less).0 e in (w.0, w.1, (has_start_law w.0).0 w.2, (same w.0).0 w.3),
    λ w. (refused_action bytes k more less).1 (w.0, w.1, (has_start_law w.0).1 w.2, (same w.0).1 w.3),
  )

read_as : (bytes : List ℕ) (sheet : Sheet) → (reading bytes ≡ gives sheet) ↔ (Says bytes sheet × HasStart sheet × ((i : ℕ) → i < length sheet.actions → Passes sheet (action_of sheet i)))
unfolding action_of
read_as bytes sheet = (
  λ e.
      let x = (accepted_passes bytes sheet).0 e in
      (x.0, (has_start_law sheet).0 x.1, λ i l. passed sheet (action_of sheet i) (x.2 i l)),
  λ w. (accepted_passes bytes sheet).1 (w.0, (has_start_law sheet).1 w.1, λ i l. passing sheet (action_of sheet i) (w.2 i l)),
)

-- Which editions are read.
not_taken : (edition : ℕ) → (is_edition edition ≡ false) ↔ ((edition ≡ 1 → ⊥) × (edition ≡ 2 → ⊥))
unfolding is_edition
not_taken edition = (
  λ e. (λ one. not_both (ap is_edition one) e, λ two. not_both (ap is_edition two) e),
  λ w. rw (ne_eqb edition 1 w.0, ne_eqb edition 2 w.1),
)

-- The header of a sheet, by its edition.
module _ (bytes : List ℕ) (sheet : Sheet) (says : Says bytes sheet) where
  edition : ℕ
  edition = (says_header bytes sheet says).0

  ends : ℕ
  ends = (says_header bytes sheet says).1

  header_fields : HeaderFields bytes (record { edition = edition; facts = sheet.facts; constraint = sheet.constraint; actions = length sheet.actions }) ends
  unfolding edition ends
  header_fields = (says_header bytes sheet says).2

  edition_is : (k : ℕ) → OfEdition k bytes → edition ≡ k
  edition_is k e = let f : ◌≡◌ {A = Read ℕ} (got edition 4) (got k 4) = sym header_fields.edition_read ∙ e in cc

  reads_true : OfEdition 1 bytes → sheet.constraint ≡ top
  reads_true e =
      let one = edition_is 1 e in
      let f : ◌≡◌ {A = Read Objective} (got sheet.constraint header_fields.constraint_end) (got top 8) =
      sym header_fields.constraint_read ∙ constraint_absent edition sheet.facts bytes 8 (ne_eqb edition 2 (λ two. omega (arith, one, two))) in
      cc

  constraint_there : OfEdition 2 bytes → objective sheet.facts false deepest bytes 8 ≡ got sheet.constraint header_fields.constraint_end
  constraint_there e = sym (constraint_stands edition sheet.facts bytes 8 (eq-eqb edition 2 (edition_is 2 e))) ∙ header_fields.constraint_read

-- Twins are the same sheet.
twins_same : {one two : List ℕ} (t : Twins one two) → t.first ≡ t.second
twins_same {one} t =
    let constraints : t.first.constraint ≡ t.second.constraint = reads_true one t.first t.first_says t.first_edition ∙ sym t.constraint_true in
    λ i. record { facts = t.facts_alike i; constraint = constraints i; actions = t.actions_alike i; start = t.start_alike i; goal = t.goal_alike i; program = t.program_alike i }

-- There are twins: case 1 in both editions.
some_twins : Twins sheet1 sheet1_edition2
unfolding field
some_twins = record {
  first = sample1_sheet;
  second = sample1_sheet;
  first_says = accepted_says sheet1 sample1_sheet accepted_holds;
  second_says = accepted_says sheet1_edition2 sample1_sheet (true_holds ∙ accepted_holds);
  first_edition = refl;
  second_edition = refl;
  constraint_true = refl;
  facts_alike = refl;
  actions_alike = refl;
  start_alike = refl;
  goal_alike = refl;
  program_alike = refl;
}

-- Case 6, and the byte that it was.
byte_three : reading (0x41 ∷ []) ≡ refused 3
unfolding reading
byte_three = refl

byte_two : reading (0x21 ∷ []) ≡ refused 2
unfolding reading
byte_two = refl

-- With the constraint "true" state 0 is one.
some_below : (sheet : Sheet) → sheet.constraint ≡ top → nonempty (states sheet) ≡ false → ⊥
unfolding holds truth
some_below sheet e none =
    let positive : 0 < 2 ^ sheet.facts = omega (arith, ones_lt sheet.facts) in
    not_both ((some_state sheet).1 (0, constrained_state sheet 0 positive (ap (λ (f : Objective). holds f 0) e))) none

-- The states that a trace shows to which the checker says yes.
shown_inside : (bytes : List ℕ) (sheet : Sheet) → reading bytes ≡ gives sheet → (first : ℕ) (rest : List ℕ) → checked bytes (first ∷ rest) ≡ gives true
    → (s : ℕ) → Memᴰ s (first ∷ shown_states rest) → Satisfies sheet s
shown_inside bytes sheet read first rest e s m =
    state_satisfies sheet s (run_states sheet (shown_history rest) (first ∷ shown_states rest) (yes_run bytes sheet read first rest e) s m)

-- A run without action is a start state.
start_run : (sheet : Sheet) (s : ℕ) → ((run : List ℕ) × IsRun sheet [] run × (last_state run ≡ s)) ↔ ((is_state sheet s ≡ true) × (holds sheet.start s ≡ true))
unfolding IsRun Steps last_state last_from
start_run sheet s = (λ w. there w.0 w.1 w.2, λ w. (s ∷ [], (w.0, w.1, tt), refl))
  where
    there : (run : List ℕ) → IsRun sheet [] run → last_state run ≡ s → (is_state sheet s ≡ true) × (holds sheet.start s ≡ true)
    there [] r e = absurd r
    there (t ∷ []) r e = (ap (is_state sheet) (sym e) ∙ r.0, ap (holds sheet.start) (sym e) ∙ r.1)
    there (t ∷ u ∷ rest) r e = absurd r.2

module _ {ℓ} (library : Library {ℓ}) (contracts : Contracts library) where
  -- What `read` refuses is refused so.
  refused_as : (bytes : List ℕ) (a : Answer (Unit {0})) → Gave library.read bytes a → (k : ℕ) (For : Type 0) → (reading bytes ≡ refused k) ↔ For → (a ≡ refused k) ↔ For
  refused_as bytes a g k For same =
      let e = refused_exactly (reading bytes) a (contracts.read_contract bytes a g) k in (λ x. same.0 (e.0 x), λ y. e.1 (same.1 y))

  start_states_law : {sheet : Sheet} (m : Made library sheet) (s : ℕ) → (member (of_words m.given.start) s ≡ true) ↔ (Satisfies sheet s × (holds sheet.start s ≡ true))
  start_states_law {sheet} m s =
      let carried = carried_states library contracts m [] m.given.start begin s in
      let run = start_run sheet s in (
        λ e. let w = run.0 (carried.0 e) in (state_satisfies sheet s w.0, w.1),
        λ w. carried.1 (run.1 (satisfies_state sheet s w.0, w.1)),
      )

  set_states : {sheet : Sheet} (m : Made library sheet) (h : History) (set : List ℕ) → Carried library m h set → (s : ℕ) → member (of_words set) s ≡ true → Satisfies sheet s
  set_states {sheet} m h set c s e =
      let w = (carried_states library contracts m h set c s).0 e in state_satisfies sheet s (ap (is_state sheet) (sym w.2) ∙ run_last sheet h w.0 w.1)

  pub constraint : Constraint library
  unfolding verified_as checked_as without_value is_edition
  constraint = record {
    stands_after_n = λ bytes sheet says e.
        let h = header_fields bytes sheet says in (h.facts_read, h.constraint_end, constraint_there bytes sheet says e, ends bytes sheet says, h.actions_read);
    refused_inside = λ bytes a g short e n f few most r o.
        (refused_exactly (reading bytes) a (contracts.read_contract bytes a g) r).1
        (reading_refused bytes (sym (sheet_short (header is_edition) bytes 0 short
        (header_goes_on is_edition bytes e refl f (one_to_eight n few most) ∙ constraint_refused 2 n bytes 8 (constraint_stands 2 n bytes 8 refl ∙ o)))));
    editions_exactly = λ bytes a g.
        let x = refused_edition bytes in
        refused_as bytes a g 3 _ (
          λ k. let w = x.0 k in (w.0, (w.1.0, w.1.1, ((not_taken w.1.0).0 w.1.2).0, ((not_taken w.1.0).0 w.1.2).1)),
          λ w. x.1 (w.0, (w.1.0, w.1.1, (not_taken w.1.0).1 (w.1.2, w.1.3))),
        );
    runs_satisfy = λ sheet h run r s m. state_satisfies sheet s (run_states sheet h run r s m);
    start_exactly = λ m s. start_states_law m s;
    step_exactly = λ {sheet} m h set c a r l next g t.
        let x = carried_step library contracts m h set c a r l next g t in
        (λ e. let w = x.0 e in (state_satisfies sheet t w.0, w.1), λ w. x.1 (satisfies_state sheet t w.0, w.1));
    sets_satisfy = λ m h set c s e. set_states m h set c s e;
    shown_satisfies = λ {sheet} v c l e first rest is s m.
        let shown = (demand3 library contracts).shown_least v c l e in
        let bytes = v.asked.sheet in
        let said = sym (ap (checked bytes) (sym shown.shown ∙ is)) ∙ failing_yes bytes sheet v.read shown.history shown.run shown.failing in
        shown_inside bytes sheet v.read first rest said s m;
    checked_satisfies = λ form x y g yes sheet read first rest is s m.
        let e = sym (ap (λ (z : AfterCheck). z.answer) (contracts.check_contract form x y g) ∙ ap (checked x.sheet) is) ∙ yes in
        shown_inside x.sheet sheet read first rest e s m;
    reads_exactly = read_as;
    accepts_exactly = λ bytes a g.
        let x = accepted_exactly (reading bytes) a (contracts.read_contract bytes a g) in (
          λ k. let w = x.0 k in let y = (read_as bytes w.0).0 w.1 in (w.0, y.0, y.1, y.2),
          λ w. x.1 (w.0, (read_as bytes w.0).1 (w.1, w.2, w.3)),
        );
    no_start_exactly = λ bytes a g. refused_as bytes a g 13 _ (startless bytes);
    no_next_exactly = λ bytes a g. refused_as bytes a g 14 _ (actionless bytes 14 (omega arith) (omega arith) WithoutNext first_next);
    no_reply_exactly = λ bytes a g. refused_as bytes a g 15 _ (actionless bytes 15 (omega arith) (omega arith) WithoutReplyAlone first_reply);
    edition_1 = λ bytes sheet says e. let is_true = reads_true bytes sheet says e in (is_true, all_states sheet is_true);
    edition_1_has_states = λ bytes a g e k.
        let w = (refused_stateless bytes).0 ((refused_exactly (reading bytes) a (contracts.read_contract bytes a g) 16).0 k) in
        some_below w.0 (reads_true bytes w.0 w.1 e) w.2;
    twins_there = some_twins;
    twins_same = twins_same;
    twin_runs = λ t h run.
        let same = twins_same t in
        (λ r. subst (λ (x : Sheet). IsRun x h run) same r, λ r. subst (λ (x : Sheet). IsRun x h run) (sym same) r);
    twin_verdicts = λ {one} {two} t form form' x x' y y' g g' is is' budgets traces.
        let alike : reading one ≡ reading two = says_alike one two t.first_says (subst (Says two) (sym (twins_same t)) t.second_says) in
        let same : verified x.sheet x.budget x.trace ≡ verified x'.sheet x'.budget x'.trace =
        verified_alike x.sheet x'.sheet (ap reading is ∙ alike ∙ sym (ap reading is')) x.budget x.trace ∙ ap₂ (verified x'.sheet) budgets traces in
        let f = contracts.verify_contract form x y g in
        let f' = contracts.verify_contract form' x' y' g' in (
          ap (λ (z : AfterVerify). z.answer) f ∙ ap (λ (v : Verified). v.answer) same ∙ sym (ap (λ (z : AfterVerify). z.answer) f'),
          ap (λ (z : AfterVerify). z.trace) f ∙ ap (λ (v : Verified). v.memory) same ∙ sym (ap (λ (z : AfterVerify). z.trace) f'),
        );
    byte_41 = λ a g. contracts.read_contract (0x41 ∷ []) a g ∙ ap without_value byte_three;
    byte_21 = λ a g. contracts.read_contract (0x21 ∷ []) a g ∙ ap without_value byte_two;
    no_state_exactly = λ bytes a g. refused_as bytes a g 16 _ (stateless bytes);
  }
