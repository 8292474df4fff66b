-- Demand 3 follows from the contracts. Assumes nothing.
use Prim.Native.Nat.{ℕ, suc, ◌+◌, ◌*◌, ◌^◌, ◌<◌}
use native.Mathlib.Omega.{arith}
use mathlib.Core.Path.{◌≡◌, refl, sym, ap, subst, ◌∙◌}
use mathlib.Core.Logic.{◌⊎◌, inl, inr, ⊎_elim, ◌↔◌}
use mathlib.Core.List.Memᴰ
use mathlib.Core.List.{List, [], ◌∷◌, ◌++◌, Memᴰ}
use mathlib.Core.Bool.{false}
use lib.ListN.{length, take, get_or}
use Rattle.states.specs.Sets.{set_of}
use Rattle.format.specs.Syntax.{Objective, Epistemic, known, not_known, all_of, any_of, Program, end, act, branch, Sheet}
use Rattle.format.specs.Truth.{holds}
use Rattle.format.specs.Format.{gives, reading}
use Rattle.semantics.specs.Runs.{History}
use Rattle.semantics.specs.Routine.{Failing}
use Rattle.semantics.specs.Verdict.{Verdict, Verified, Outcome, counted, history_count, valid, invalid, stopped, outcome, written}
use Rattle.semantics.proofs.VerdictLaws.{stopped_means, means_stopped, valid_means, means_valid, invalid_means, means_invalid, counted_means, means_counted, counted_sorted}
use Rattle.semantics.proofs.MemoryLaws.{verified_accepted, begins}
use Rattle.semantics.proofs.AcceptedLaws.{starts}
use Rattle.routine.specs.Memory.{set_at}
use Rattle.routine.specs.Tables.{atom_sets, program_sets, sheet_action_sets, sheet_sets}
use Rattle.routine.proofs.TableLaws.{no_states}
use Rattle.routine.proofs.RoomLaws.{sheet_sets_length, accepted_room}
use Rattle.runner.specs.Calls.{CallAnswer, ended, Fresh, Listed}
use Rattle.runner.proofs.ListLaws.{further_accepted, end_told, goal_told, action_told, none_told}
use Rattle.claims.specs.Library.{Library, AfterVerify}
use Rattle.claims.specs.Terms.{verified_as}
use Rattle.claims.specs.Demand2.{Made}
use Rattle.claims.specs.Terms.{Atom, Condition, Tested, CountsHistories, SomeRunFails, LeastShown}
use Rattle.claims.specs.Demand3.{Verifying, Counted, NextSays, Demand3}
use Rattle.claims.proofs.Contracts.{Contracts}
use Rattle.claims.proofs.TableLaws.{tabled, carried_known}

-- An element of a list stands at a place of it.
mem_get : {A : Type 0} (d : A) {x : A} (xs : List A) → Memᴰ x xs → (k : ℕ) × (k < length xs) × (get_or xs k d ≡ x)
mem_get d [] m = absurd (Memᴰ.not-nil m)
mem_get d {x} (y ∷ xs) m = go (λ (l : Memᴰ x xs). mem_get d xs l) (Memᴰ.cases_cons m)
  where
    go : (Memᴰ x xs → (k : ℕ) × (k < length xs) × (get_or xs k d ≡ x)) → (x ≡ y) ⊎ Memᴰ x xs → (k : ℕ) × (k < length (y ∷ xs)) × (get_or (y ∷ xs) k d ≡ x)
    go behind (inl e) = (0, omega arith, sym e)
    go behind (inr l) = let q = behind l in (suc q.0, omega (arith, q.1), q.2)

-- The set of an atom's formula is among those of its formula's atoms, and so of its program.
atom_set : (f : Objective) (e : Epistemic) → Atom f e → Memᴰ (set_of (λ s. holds f s)) (atom_sets e)
unfolding Atom atom_sets
atom_set f (known g) a = Memᴰ.head (ap (λ (h : Objective). set_of (λ s. holds h s)) a)
atom_set f (not_known g) a = Memᴰ.head (ap (λ (h : Objective). set_of (λ s. holds h s)) a)
atom_set f (all_of x y) a = ⊎_elim (λ l. Memᴰ.append_left (atom_sets y) (atom_set f x l)) (λ r. Memᴰ.append_right (atom_sets x) (atom_set f y r)) a
atom_set f (any_of x y) a = ⊎_elim (λ l. Memᴰ.append_left (atom_sets y) (atom_set f x l)) (λ r. Memᴰ.append_right (atom_sets x) (atom_set f y r)) a

condition_set : (f : Objective) (e : Epistemic) → Atom f e → (p : Program) → Condition e p → Memᴰ (set_of (λ s. holds f s)) (program_sets p)
unfolding Condition program_sets
condition_set f e a end c = absurd c
condition_set f e a (act n rest) c = condition_set f e a rest c
condition_set f e a (branch g y z rest) c =
    ⊎_elim (λ (q : e ≡ g). Memᴰ.append_left (program_sets y ++ (program_sets z ++ program_sets rest)) (atom_set f g (subst (Atom f) q a)))
    (λ d. Memᴰ.append_right (atom_sets g)
    (⊎_elim (λ l. Memᴰ.append_left (program_sets z ++ program_sets rest) (condition_set f e a y l))
    (λ r. Memᴰ.append_right (program_sets y) (⊎_elim (λ l. Memᴰ.append_left (program_sets rest) (condition_set f e a z l)) (λ q. Memᴰ.append_right (program_sets z) (condition_set f e a rest q)) r))
    d))
    c

tested_set : (f : Objective) (sheet : Sheet) → Tested f sheet → Memᴰ (set_of (λ s. holds f s)) (sheet_sets sheet)
unfolding Tested sheet_sets
tested_set f sheet t =
    Memᴰ.append_right (sheet_action_sets sheet)
    (⊎_elim (λ g. Memᴰ.append_left (program_sets sheet.program) (atom_set f sheet.goal g)) (λ c. Memᴰ.append_right (atom_sets sheet.goal) (condition_set f c.0 c.2 sheet.program c.1)) t)

-- The count is a number of histories.
count_histories : (bytes : List ℕ) (sheet : Sheet) → reading bytes ≡ gives sheet → CountsHistories sheet (history_count sheet)
unfolding history_count
count_histories bytes sheet read = record {
  histories = counted sheet;
  number = refl;
  in_order = counted_sorted sheet;
  exactly = λ h. (λ m. counted_means sheet (starts bytes sheet read) h m, λ q. means_counted sheet h q.1.0 q.0 q.1.1 q.2);
}

module _ {ℓ} (library : Library {ℓ}) (contracts : Contracts library) where
  -- The verdict.
  module _ {sheet : Sheet} (v : Verifying library sheet) where
    abbrev bytes : List ℕ
    bytes = v.asked.sheet

    abbrev budget : ℕ
    budget = v.asked.budget

    answered : (v.given.answer ≡ gives (outcome sheet budget).verdict) × (v.given.trace ≡ written (outcome sheet budget).shown v.asked.trace)
    unfolding verified_as
    answered =
        let f = contracts.verify_contract v.form v.asked v.given v.gave in
        let w = verified_accepted bytes sheet v.read budget v.asked.trace v.enough in
        (ap (λ (y : AfterVerify). y.answer) f ∙ ap (λ (x : Verified). x.answer) w, ap (λ (y : AfterVerify). y.trace) f ∙ ap (λ (x : Verified). x.memory) w)

    verdict_is : (d : Verdict) → (v.given.answer ≡ gives d) ↔ ((outcome sheet budget).verdict ≡ d)
    verdict_is d = (λ k. let e : gives (outcome sheet budget).verdict ≡ gives d = sym answered.0 ∙ k in cc, λ k. answered.0 ∙ ap gives k)

    carries : (c : ℕ) → (v.given.answer ≡ gives (valid c)) ⊎ ((l : ℕ) × (v.given.answer ≡ gives (invalid c l))) → CountsHistories sheet c
    carries c said =
        let is : c ≡ history_count sheet =
        ⊎_elim (λ e. (valid_means sheet budget c ((verdict_is (valid c)).0 e)).1) (λ q. (invalid_means sheet (starts bytes sheet v.read) budget c q.0 ((verdict_is (invalid c q.0)).0 q.1)).1) said in
        subst (CountsHistories sheet) (sym is) (count_histories bytes sheet v.read)

    invalid_exactly : Counted library v → ((l : ℕ) × (v.given.answer ≡ gives (invalid (history_count sheet) l))) ↔ SomeRunFails sheet
    unfolding SomeRunFails
    invalid_exactly within = (
      λ q.
          let i = invalid_means sheet (starts bytes sheet v.read) budget (history_count sheet) q.0 ((verdict_is (invalid (history_count sheet) q.0)).0 q.1) in
          (i.2.0, i.2.1, i.2.2),
      λ q.
          let i = means_invalid sheet budget within q.0 q.1 q.2 in
          (i.0, (verdict_is (invalid (history_count sheet) i.0)).1 i.1),
    )

    none_fail : Counted library v → (v.given.answer ≡ gives (valid (history_count sheet))) ↔ ((h : History) (run : List ℕ) → Failing sheet h run → ⊥)
    none_fail within = (
      λ e. (valid_means sheet budget (history_count sheet) ((verdict_is (valid (history_count sheet))).0 e)).2,
      λ none. (verdict_is (valid (history_count sheet))).1 (ap (λ (o : Outcome). o.verdict) (means_valid sheet (starts bytes sheet v.read) budget within none)),
    )

    valid_exactly : Counted library v → (v.given.answer ≡ gives (valid (history_count sheet))) ↔ (SomeRunFails sheet → ⊥)
    unfolding SomeRunFails
    valid_exactly within = (λ e q. (none_fail within).0 e q.0 q.1 q.2, λ none. (none_fail within).1 (λ h run f. none (h, run, f)))

    stopped_exactly : (v.given.answer ≡ gives (stopped budget)) ↔ (budget < history_count sheet)
    stopped_exactly = (
      λ e. (stopped_means sheet budget budget ((verdict_is (stopped budget)).0 e)).0,
      λ l. (verdict_is (stopped budget)).1 (ap (λ (o : Outcome). o.verdict) (means_stopped sheet budget l)),
    )

    shown_least : (c l : ℕ) → v.given.answer ≡ gives (invalid c l) → LeastShown sheet l v.given.trace
    shown_least c l e =
        let told = (verdict_is (invalid c l)).0 e in
        let i = invalid_means sheet (starts bytes sheet v.read) budget c l told in
        let shown = i.2 in
        record {
          history = shown.0;
          run = shown.1;
          failing = shown.2;
          of_length = shown.3;
          shown = ap (take (1 + 2 * l)) answered.1 ∙ begins bytes sheet v.read budget c l told v.asked.trace ∙ shown.4;
          others = shown.5;
        }

    valid_told : Counted library v → (fresh : Fresh library.runner sheet)
        → (v.given.answer ≡ gives (valid (history_count sheet))) ↔ ((list : Listed library.runner fresh) (a : CallAnswer) → NextSays library list a → a ≡ ended false → ⊥)
    valid_told within fresh =
        let told = none_told library.runner contracts.runner_contracts contracts.going fresh in (
          λ e list a t z. told.0 ((none_fail within).0 e) list t.0 a t.1 t.2 z,
          λ never. (none_fail within).1 (told.1 (λ list form a k d z. never list a (form, k, d) z)),
        )

  -- Every tested formula stands in the tables.
  tested_stands : {sheet : Sheet} (m : Made library sheet) (f : Objective) → Tested f sheet → (k : ℕ) × (k < 2 ^ 64) × (set_at m.given.tables.sets k ≡ set_of (λ s. holds f s))
  tested_stands {sheet} m f t =
      let q = mem_get no_states (sheet_sets sheet) (tested_set f sheet t) in
      (q.0, omega (arith, q.1, sheet_sets_length sheet, (accepted_room m.asked.sheet sheet m.read).sets_room), (tabled library contracts m).set_is q.0 q.1 ∙ q.2)

  pub demand3 : Demand3 library
  demand3 = record {
    counts = λ {sheet} v. count_histories v.asked.sheet sheet v.read;
    carries = λ v. carries v;
    tested_stands = tested_stands;
    known_exactly = λ m h run p set c. carried_known library contracts m h set c;
    invalid_exactly = λ v. invalid_exactly v;
    valid_exactly = λ v. valid_exactly v;
    stopped_exactly = λ v. stopped_exactly v;
    shown_least = λ v. shown_least v;
    accepts = λ fresh list x a t. further_accepted library.runner contracts.runner_contracts fresh list t.0 x a t.1 t.2;
    tells_end = λ fresh list a t. end_told library.runner contracts.runner_contracts fresh list t.0 a t.1 t.2;
    tells_goal = λ fresh list a t. goal_told library.runner contracts.runner_contracts fresh list t.0 a t.1 t.2;
    tells_action = λ fresh list a t. action_told library.runner contracts.runner_contracts fresh list t.0 a t.1 t.2;
    valid_told = λ v. valid_told v;
  }
