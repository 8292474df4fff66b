-- `verifier::number` meets its contract: one equation for each answer. Assumes nothing.
use Rattle.std.proofs.Common.{◌≡◌, sym, refl, ap, ◌∙◌}
use Rattle.reader.specs.Answers.{number_for}
use Rattle.std.specs.Prelude.{Result, Ok, Err}
use Rattle.verifier.specs.declared.verdict.Verdict.{Verdict}
use Rattle.verifier.specs.declared.verdict.VerifyError.{VerifyError}
use Rattle.verifier.specs.Answers.{answer_of}
use Rattle.verifier.proofs.verdict.number.Goals as goal

-- Every verdict has number 0.
verdict_zero : (v : Verdict) → 0 ≡ number_for (answer_of (Ok v))
unfolding number_for answer_of
verdict_zero (Verdict.Valid c) = refl
verdict_zero (Verdict.Invalid c l) = refl
verdict_zero (Verdict.Stopped b) = refl

pub returns-in-Ok : goal.returns-in-Ok
returns-in-Ok c = verdict_zero _ ∙ sym (ap (λ (a : Result Verdict VerifyError). number_for (answer_of a)) c.in-Ok.is)

pub returns-in-Err-ShortMemory : goal.returns-in-Err-ShortMemory
unfolding number_for answer_of
returns-in-Err-ShortMemory c = let s = c.in-Err-ShortMemory in
    let e = rw s.is at s.field-0-is in
    sym (ap (λ (a : Result Verdict VerifyError). number_for (answer_of a)) (s.is ∙ ap Err e))

pub returns-in-Err-Refused : goal.returns-in-Err-Refused
unfolding number_for answer_of
returns-in-Err-Refused c = let s = c.in-Err-Refused in
    let e = rw s.is at s.field-0-is in
    c.from.ensures ∙ sym (ap (λ (a : Result Verdict VerifyError). number_for (answer_of a)) (s.is ∙ ap Err e))
