-- Document 02's "One pass when a reply comes in", from the contracts. Assumes nothing.
use Prim.Native.Nat.{ℕ, ◌<◌}
use native.Mathlib.Omega.{arith}
use native.Mathlib.Decide.{dec_lt}
use mathlib.Core.Path.{◌≡◌, refl, sym, ap, ◌∙◌}
use mathlib.Core.Logic.{◌↔◌}
use mathlib.Core.List.{List, [], ◌∷◌, ◌++◌}
use mathlib.Core.Bool.{Bool, true, false, ◌&&◌}
use lib.ListN.{length}
use borrow.Author.Tests.{lt-ltb, eqb-true, eq-eqb}
use Rattle.lists.specs.Lists.{exists}
use Rattle.std.specs.Prelude.{if◌then◌else◌}
use Rattle.lists.proofs.ListLaws.{same_test, not_both, is_false, both_true, and_both, exists_mem, mem_exists}
use Rattle.states.specs.declared.States.{States}
use Rattle.states.specs.Sets.{member, set_of, members, of_words}
use Rattle.states.proofs.SetLaws.{member_set_of, member_above, members_mem, mem_members, words_back}
use Rattle.format.specs.Syntax.{Objective, Action, change, probe, reply_count, Sheet, action_of}
use Rattle.format.specs.Truth.{is_state, moves, reply_holds, allowed}
use Rattle.format.specs.Format.{Answer, gives, refused, on_accepted}
use Rattle.reader.specs.Answers.{without_value}
use Rattle.semantics.specs.Runs.{entry, History, extended, step, last_state, Possible, occurs}
use Rattle.semantics.specs.Routine.{Policy, done, perform, routine}
use Rattle.semantics.specs.Replies.{to_do, told_by, told, left_after, history_of, still_possible, reported_to, reported}
use Rattle.semantics.proofs.RunLaws.{occurs_run, run_occurs, run_last}
use Rattle.semantics.proofs.ProgressionLaws.{possible_behind}
use Rattle.semantics.proofs.ReplyLaws.{still_occurs}
use Rattle.routine.specs.Memory.{head_at}
use Rattle.progression.specs.Machine.{reply_states, kept_by, passed_over, passed_by}
use Rattle.progression.proofs.PassLaws.{kept_member}
use Rattle.progression.proofs.StepLaws.{tabled_reply}
use Rattle.runner.specs.Records.{held_by, held_replies, report_on}
use Rattle.runner.specs.Calls.{Form}
use Rattle.recovery.specs.Arguments.{Tables}
use Rattle.claims.specs.Library.{Library, Gave, ToPass, AfterPass, ToReport, AfterReport}
use Rattle.claims.specs.Terms.{passed_as, reported_as}
use Rattle.claims.specs.Demand2.{Made, Carried}
use Rattle.claims.specs.Pass.{In, TrueIn, AfterEffect, Passing, Pass}
use Rattle.claims.proofs.Contracts.{Contracts}
use Rattle.claims.proofs.TableLaws.{tabled, carried_states}

-- A member of a set is a byte.
member_byte : (set : States) (s : ℕ) → member set s ≡ true → s < 256
member_byte set s e = elim (dec_lt s 256) [ yes l ↦ l | no n ↦ not_both e (member_above set s (omega (arith, n))) ]

-- Where an action is told, it is what is left of the routine.
told_perform : (sheet : Sheet) (p : Policy) (h : History) (a : ℕ) → told_by sheet p h ≡ to_do a → (after : ℕ → Policy) × (p ≡ perform a after)
unfolding told_by
told_perform sheet done h a e = let z : ◌≡◌ {A = ℕ} 0 1 = cc in absurd (omega arith)
told_perform sheet (perform b after) h a e = let same : b ≡ a = cc in (after, ap (λ (c : ℕ). perform c after) same)

-- What is answered to a reply that the action has.
tells : (b : Bool) (xs : List ℕ) (answer : Answer (Unit {0})) → answer ≡ without_value (if b then gives xs else refused 34)
    → ((answer ≡ gives tt) ↔ (b ≡ true)) × ((answer ≡ refused 34) ↔ (b ≡ false))
unfolding without_value
tells true xs answer e = (
  (λ g. refl, λ t. e),
  (λ r. let both : ◌≡◌ {A = Answer (Unit {0})} (gives tt) (refused 34) = sym e ∙ r in let z : ◌≡◌ {A = ℕ} 0 1 = cc in absurd (omega arith), λ f. not_both refl f),
)
tells false xs answer e = (
  (λ g. let both : ◌≡◌ {A = Answer (Unit {0})} (gives tt) (refused 34) = sym g ∙ e in let z : ◌≡◌ {A = ℕ} 0 1 = cc in absurd (omega arith), λ t. not_both t refl),
  (λ r. refl, λ f. e),
)

module _ (sheet : Sheet) (rs : List ℕ) (r a : ℕ) where
  abbrev before : History
  before = history_of (routine sheet) rs

  reported_had : told sheet rs ≡ to_do a → r < reply_count (action_of sheet a)
      → reported sheet rs r ≡ (if still_possible sheet before (entry a r) then gives (rs ++ (r ∷ [])) else refused 34)
  unfolding told reported reported_to
  reported_had t l =
      let left = told_perform sheet (left_after (routine sheet) rs) before a t in
      ap (λ (p : Policy). reported_to sheet p before rs r) left.1
      ∙ ap (λ (b : Bool). if b then (if still_possible sheet before (entry a r) then gives (rs ++ (r ∷ [])) else refused 34) else refused 33) (lt-ltb r (reply_count (action_of sheet a)) l)

module _ {ℓ} (library : Library {ℓ}) (contracts : Contracts library) where
  -- What a call of the pass gave, for any memory.
  module _ (x : ToPass) (y : AfterPass) (g : Gave library.pass x y) where
    abbrev set : States
    set = of_words x.set

    abbrev true_in : States
    true_in = reply_states x.tables.sets (head_at x.tables.heads x.action) x.reply

    given : y ≡ passed_as x
    given = contracts.pass_contract x y g

    possible_is : y.possible ≡ exists (member true_in) (members set)
    unfolding passed_as passed_by passed_over
    possible_is = ap (λ (z : AfterPass). z.possible) given

    kept_is : of_words y.kept ≡ kept_by set true_in
    unfolding passed_as passed_by passed_over
    kept_is = ap (λ (z : AfterPass). of_words z.kept) given ∙ words_back (kept_by set true_in)

    evaluations_right : y.evaluations ≡ length (members set)
    unfolding passed_as passed_by passed_over
    evaluations_right = ap (λ (z : AfterPass). z.evaluations) given

    kept_both : (s : ℕ) → member (of_words y.kept) s ≡ (member set s && member true_in s)
    kept_both s = ap (λ (u : States). member u s) kept_is ∙ kept_member set true_in s

    kept_exactly : (s : ℕ) → In y.kept s ↔ (In x.set s × TrueIn x s)
    unfolding In TrueIn
    kept_exactly s = (λ e. both_true (member set s) (member true_in s) (sym (kept_both s) ∙ e), λ w. kept_both s ∙ and_both (member set s) (member true_in s) w.0 w.1)

    -- It is possible exactly if there is such a state.
    possible_some : (s : ℕ) → In x.set s → TrueIn x s → y.possible ≡ true
    unfolding In TrueIn
    possible_some s i t = possible_is ∙ mem_exists (member true_in) (members set) (mem_members set s (member_byte set s i) i) t

    some_possible : y.possible ≡ true → (s : ℕ) × In x.set s × TrueIn x s
    unfolding In TrueIn
    some_possible e = let w = exists_mem (member true_in) (members set) (sym possible_is ∙ e) in (w.0, (members_mem set w.1).1, w.2)

    impossible_exactly : (y.possible ≡ false) ↔ ((s : ℕ) → In x.set s → TrueIn x s → ⊥)
    impossible_exactly = (λ e s i t. not_both (possible_some s i t) e, λ none. is_false y.possible (λ e. let w = some_possible e in none w.0 w.1 w.2))

  -- The sets to which calls of `step` come are those after an action's effect.
  module _ {sheet : Sheet} (m : Made library sheet) (h : History) (a : ℕ) where
    probe_set : (fs : List Objective) → action_of sheet a ≡ probe fs → (set : List ℕ) → Carried library m h set → (t : ℕ) → In set t ↔ AfterEffect sheet h a t
    unfolding In AfterEffect Possible moves
    probe_set fs e set c t =
        let there = carried_states library contracts m h set c t in (
          λ i.
              let p = there.0 i in
              (ap (is_state sheet) (sym p.2) ∙ run_last sheet h p.0 p.1, (t, p, ap (λ (x : Action). moves x t t) e ∙ eq-eqb t t refl)),
          λ w.
              let p = w.1.1 in
              there.1 (p.0, p.1, p.2 ∙ eqb-true w.1.0 t (sym (ap (λ (x : Action). moves x w.1.0 t) e) ∙ w.1.2)),
        )

    change_set : (f : Objective) → action_of sheet a ≡ change f → (set : List ℕ) → Carried library m (extended h a 0) set → (t : ℕ) → In set t ↔ AfterEffect sheet h a t
    unfolding In AfterEffect Possible step allowed reply_holds
    change_set f e set c t =
        let there = carried_states library contracts m (extended h a 0) set c t in
        let behind = possible_behind sheet h (entry a 0) t in
        let true-there : reply_holds (action_of sheet a) 0 t ≡ true = ap (λ (x : Action). reply_holds x 0 t) e in (
          λ i.
              let x = behind.0 (there.0 i) in
              (x.0, (x.1.0, x.1.1, (both_true (moves (action_of sheet a) x.1.0 t) (reply_holds (action_of sheet a) 0 t) x.1.2).0)),
          λ w. there.1 (behind.1 (w.0, (w.1.0, w.1.1, and_both (moves (action_of sheet a) w.1.0 t) (reply_holds (action_of sheet a) 0 t) w.1.2 true-there))),
        )

  -- On the tables of an accepted sheet.
  module _ {sheet : Sheet} (m : Made library sheet) (p : Passing library m) where
    abbrev asked : ToPass
    asked = p.asked

    holds_in : ℕ → Bool
    unfolding reply_holds
    holds_in s = reply_holds (action_of sheet asked.action) asked.reply s

    table_is : reply_states asked.tables.sets (head_at asked.tables.heads asked.action) asked.reply ≡ set_of holds_in
    unfolding holds_in
    table_is =
        ap (λ (t : Tables). reply_states t.sets (head_at t.heads asked.action) asked.reply) p.on_tables
        ∙ tabled_reply sheet m.given.tables.heads m.given.tables.nodes m.given.tables.sets (tabled library contracts m) asked.action p.action_of_sheet asked.reply

    true_exactly : (s : ℕ) → In asked.set s → TrueIn asked s ↔ (holds_in s ≡ true)
    unfolding In TrueIn
    true_exactly s i =
        let is = ap (λ (u : States). member u s) table_is ∙ member_set_of holds_in s (member_byte (of_words asked.set) s i) in
        (λ t. sym is ∙ t, λ t. is ∙ t)

    kept_true : (s : ℕ) → In p.given.kept s ↔ (In asked.set s × (holds_in s ≡ true))
    kept_true s =
        let exact = kept_exactly asked p.given p.gave s in
        (λ e. let w = exact.0 e in (w.0, (true_exactly s w.0).0 w.1), λ w. exact.1 (w.0, (true_exactly s w.0).1 w.1))

    impossible_true : (p.given.possible ≡ false) ↔ ((s : ℕ) → In asked.set s → holds_in s ≡ true → ⊥)
    impossible_true =
        let exact = impossible_exactly asked p.given p.gave in
        (λ e s i t. exact.0 e s i ((true_exactly s i).1 t), λ none. exact.1 (λ s i t. none s i ((true_exactly s i).0 t)))

    -- Where the set is that after the effect.
    module _ (h : History) (after : (t : ℕ) → In asked.set t ↔ AfterEffect sheet h asked.action t) where
      kept_possible : (t : ℕ) → In p.given.kept t ↔ Possible sheet (extended h asked.action asked.reply) t
      unfolding AfterEffect holds_in step allowed
      kept_possible t = (
        λ e.
            let w = (kept_true t).0 e in
            let x = (after t).0 w.0 in
            (possible_behind sheet h (entry asked.action asked.reply) t).1
            (x.0, (x.1.0, x.1.1, and_both (moves (action_of sheet asked.action) x.1.0 t) (holds_in t) x.1.2 w.1)),
        λ q.
            let x = (possible_behind sheet h (entry asked.action asked.reply) t).0 q in
            let b = both_true (moves (action_of sheet asked.action) x.1.0 t) (holds_in t) x.1.2 in
            (kept_true t).1 ((after t).1 (x.0, (x.1.0, x.1.1, b.0)), b.1),
      )

      still_is : still_possible sheet h (entry asked.action asked.reply) ≡ p.given.possible
      unfolding Possible
      still_is =
          still_occurs sheet h asked.action asked.reply
          ∙ same_test (occurs sheet (extended h asked.action asked.reply)) p.given.possible
          (λ o.
          let r = occurs_run sheet (extended h asked.action asked.reply) o in
          let k = (kept_exactly asked p.given p.gave (last_state r.0)).0 ((kept_possible (last_state r.0)).1 (r.0, r.1, refl)) in
          possible_some asked p.given p.gave (last_state r.0) k.0 k.1)
          (λ e.
          let w = some_possible asked p.given p.gave e in
          let r = (kept_possible w.0).0 ((kept_exactly asked p.given p.gave w.0).1 (w.1, w.2)) in
          run_occurs sheet (extended h asked.action asked.reply) r.0 r.1)

    -- "Report" answers as the pass does.
    report_by_pass : (form : Form) (x : ToReport) (y : AfterReport) → Gave (library.report form) x y → held_by x.kept ≡ gives sheet
        → told sheet (held_replies x.kept) ≡ to_do asked.action → x.reply ≡ asked.reply → x.reply < reply_count (action_of sheet asked.action)
        → ((t : ℕ) → In asked.set t ↔ AfterEffect sheet (history_of (routine sheet) (held_replies x.kept)) asked.action t)
        → ((y.answer ≡ gives tt) ↔ (p.given.possible ≡ true)) × ((y.answer ≡ refused 34) ↔ (p.given.possible ≡ false))
    unfolding reported_as report_on on_accepted
    report_by_pass form x y g held t same l after =
        let rs = held_replies x.kept in
        let h = history_of (routine sheet) rs in
        let still : still_possible sheet h (entry asked.action x.reply) ≡ p.given.possible =
        ap (λ (r : ℕ). still_possible sheet h (entry asked.action r)) same ∙ still_is h after in
        tells p.given.possible (rs ++ (x.reply ∷ [])) y.answer
        (ap (λ (z : AfterReport). z.answer) (contracts.report_contract form x y g)
        ∙ ap (λ (s : Answer Sheet). without_value (on_accepted (λ (u : Sheet). reported u rs x.reply) s)) held
        ∙ ap without_value (reported_had sheet rs x.reply asked.action t l ∙ ap (λ (b : Bool). if b then gives (rs ++ (x.reply ∷ [])) else refused 34) still))

  pub pass : Pass library
  unfolding holds_in
  pass = record {
    kept_exactly = kept_exactly;
    impossible_exactly = impossible_exactly;
    evaluations_right = evaluations_right;
    kept_true = λ {sheet} m p. kept_true m p;
    impossible_true = λ {sheet} m p. impossible_true m p;
    kept_possible = λ {sheet} m p. kept_possible m p;
    probe_set = λ {sheet} m h a. probe_set m h a;
    change_set = λ {sheet} m h a. change_set m h a;
    report_by_pass = λ {sheet} m p. report_by_pass m p;
  }
