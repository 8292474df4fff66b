-- `Figures::with_answer` meets its contract, by the kind of the answer. Assumes nothing.
use Rattle.std.proofs.Common.{◌≡◌, refl, sym, ap, ◌∙◌, rules}
use Rattle.std.specs.Prelude.{Result, Ok, Err}
use Rattle.verifier.specs.declared.verdict.Verdict.{Verdict}
use Rattle.verifier.specs.declared.verdict.VerifyError.{VerifyError}
use Rattle.verifier.specs.Answers.{answer_of}
use Rattle.release.specs.declared.figures.Figures.{Figures}
use Rattle.release.specs.Counting.{counted_one, with_cut}
use Rattle.release.proofs.CountLaws.{Small, greater_less, greater_not, count_valid, count_invalid, count_stopped, count_refused}
use Rattle.release.proofs.figures.Figures.with_answer.Goals as goal

-- What an answer counts, the answer being known.
counted_by : (f : Figures) {a b : Result Verdict VerifyError} → a ≡ b → (g : Figures) → g ≡ counted_one f (answer_of b) → g ≡ counted_one f (answer_of a)
counted_by f e g h = h ∙ sym (ap (λ (v : Result Verdict VerifyError). counted_one f (answer_of v)) e)

refused_error : (f : Figures) → Small f → (error : VerifyError) → with_cut 1 f ≡ counted_one f (answer_of (Err error))
unfolding answer_of
refused_error f small VerifyError.ShortMemory = count_refused f small 30
refused_error f small (VerifyError.Refused r) = count_refused f small _

pub returns-in-Ok-Valid : goal.returns-in-Ok-Valid
unfolding answer_of
returns-in-Ok-Valid c = let f = c.args.self in
    let small : Small f = search rules in
    counted_by f (c.in-Ok-Valid.is ∙ ap Ok (rw c.in-Ok-Valid.is at c.in-Ok-Valid.field-0-is)) _ (count_valid f small _ _ _ refl refl)

pub returns-then-after-l : goal.returns-then-after-l
unfolding answer_of
returns-then-after-l c = let f = c.args.self in
    let small : Small f = search rules in
    counted_by f (c.in-Ok-Invalid.is ∙ ap Ok (rw c.in-Ok-Invalid.is at c.in-Ok-Invalid.field-0-is)) _
    (count_invalid f small _ _ _ _ _ refl refl (greater_less _ _ c.if-after-l.true))

pub returns-else-after-l : goal.returns-else-after-l
unfolding answer_of
returns-else-after-l c = let f = c.args.self in
    let small : Small f = search rules in
    counted_by f (c.in-Ok-Invalid.is ∙ ap Ok (rw c.in-Ok-Invalid.is at c.in-Ok-Invalid.field-0-is)) _
    (count_invalid f small _ _ _ _ _ refl refl (greater_not _ _ c.if-after-l.false))

pub returns-in-Ok-Stopped : goal.returns-in-Ok-Stopped
unfolding answer_of
returns-in-Ok-Stopped c = let f = c.args.self in
    let small : Small f = search rules in
    counted_by f (c.in-Ok-Stopped.is ∙ ap Ok (rw c.in-Ok-Stopped.is at c.in-Ok-Stopped.field-0-is)) _ (count_stopped f small _ _ _ refl refl)

pub returns-in-Err : goal.returns-in-Err
returns-in-Err c = let f = c.args.self in
    let small : Small f = search rules in
    counted_by f c.in-Err.is _ (c.with_refused.ensures ∙ refused_error f small c.in-Err.error)
