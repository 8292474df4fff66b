-- Demand 2 follows from the contracts. Assumes nothing.
use Prim.Native.Nat.{ℕ}
use mathlib.Core.Path.{◌≡◌, sym, ap, ◌∙◌}
use mathlib.Core.Logic.{◌↔◌}
use Rattle.format.specs.Format.{Answer, gives, refused, reading}
use Rattle.reader.specs.Answers.{without_value}
use Rattle.reader.proofs.AnswerLaws.{was_accepted, was_refused}
use Rattle.semantics.specs.Verdict.{Verified}
use Rattle.semantics.specs.Checker.{checked}
use Rattle.semantics.proofs.RunLaws.{tested_holds, holds_tested}
use Rattle.semantics.proofs.MemoryLaws.{verified_refused}
use Rattle.semantics.proofs.CheckerLaws.{checked_refused, checked_number_law, yes_failing, failing_yes}
use Rattle.claims.specs.Library.{Library, AfterVerify, AfterCheck, AfterPrepare, AfterLoad}
use Rattle.claims.specs.Terms.{verified_as, checked_as, prepared_as, loaded_as}
use Rattle.claims.specs.Demand2.{Demand2}
use Rattle.claims.proofs.NumberLaws.{verified_number}
use Rattle.claims.proofs.Contracts.{Contracts}
use Rattle.claims.proofs.TableLaws.{carried_states, action_told, end_told}

-- What an answer without its value says of the answer.
pub accepted_exactly : {A : Type 0} (x : Answer A) (a : Answer (Unit {0})) → a ≡ without_value x → (a ≡ gives tt) ↔ ((y : A) × (x ≡ gives y))
unfolding without_value
accepted_exactly x a e = (λ k. was_accepted x (sym k ∙ e), λ q. e ∙ ap without_value q.1)

pub refused_exactly : {A : Type 0} (x : Answer A) (a : Answer (Unit {0})) → a ≡ without_value x → (n : ℕ) → (a ≡ refused n) ↔ (x ≡ refused n)
unfolding without_value
refused_exactly x a e n = (λ k. was_refused x n (sym k ∙ e), λ q. e ∙ ap without_value q)

module _ {ℓ} (library : Library {ℓ}) (contracts : Contracts library) where
  pub demand2 : Demand2 library
  unfolding verified_as checked_as prepared_as loaded_as
  demand2 = record {
    read_accepts = λ bytes a g. accepted_exactly (reading bytes) a (contracts.read_contract bytes a g);
    load_accepts = λ form x y g. accepted_exactly (reading x.sheet) y.answer (ap (λ (z : AfterLoad). z.answer) (contracts.load_contract form x y g));
    prepare_accepts = λ x y g. accepted_exactly (reading x.sheet) y.answer (ap (λ (z : AfterPrepare). z.answer) (contracts.prepare_contract x y g));
    tests_mean = λ sheet h f. (tested_holds sheet h f, holds_tested sheet h f);
    tests_right = λ m h at set came. action_told library contracts m h at set came;
    ends_right = λ m h at set came. end_told library contracts m h at set came;
    steps_right = λ m h set c. carried_states library contracts m h set c;
    check_right = λ form x y g sheet read.
        let e = ap (λ (z : AfterCheck). z.answer) (contracts.check_contract form x y g) in (
          λ k. yes_failing x.sheet sheet read x.trace (sym e ∙ k),
          λ q. e ∙ ap (checked x.sheet) q.3 ∙ failing_yes x.sheet sheet read q.0 q.1 q.2,
        );
    read_refuses = λ bytes a g. refused_exactly (reading bytes) a (contracts.read_contract bytes a g);
    verify_refuses = λ form x y g enough n.
        let e = ap (λ (z : AfterVerify). z.answer) (contracts.verify_contract form x y g) in (
          λ k. verified_number x.sheet x.budget x.trace enough n (sym e ∙ k),
          λ q. e ∙ ap (λ (v : Verified). v.answer) (verified_refused x.sheet n q x.budget x.trace enough),
        );
    check_refuses = λ form x y g n.
        let e = ap (λ (z : AfterCheck). z.answer) (contracts.check_contract form x y g) in
        (λ k. checked_number_law x.sheet x.trace n (sym k ∙ e), λ q. e ∙ checked_refused x.sheet x.trace n q);
    prepare_refuses = λ x y g. refused_exactly (reading x.sheet) y.answer (ap (λ (z : AfterPrepare). z.answer) (contracts.prepare_contract x y g));
    load_refuses = λ form x y g. refused_exactly (reading x.sheet) y.answer (ap (λ (z : AfterLoad). z.answer) (contracts.load_contract form x y g));
  }
