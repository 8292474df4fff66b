-- `recovery::put_verdict` meets its contract: the numbers of each verdict; a refusal writes nothing. Assumes nothing.
use Prim.Native.Nat.{ℕ}
use mathlib.Core.Path.{◌≡◌, refl, sym, ap, ◌∙◌}
use mathlib.Core.List.{List}
use Rattle.std.specs.Prelude.{Result, Ok, Err}
use Rattle.verifier.specs.declared.verdict.Verdict.{Verdict}
use Rattle.verifier.specs.declared.verdict.VerifyError.{VerifyError}
use Rattle.verifier.specs.Answers.{answer_of}
use Rattle.recovery.specs.Numbers.{memory_after, verdict_numbers}
use Rattle.recovery.proofs.put_verdict.Goals as goal

-- What an answer writes, the answer being known.
abbrev written : (memory : List ℕ) → Result Verdict VerifyError → List ℕ
written memory answer = memory_after verdict_numbers (answer_of answer) memory

pub returns-in-Ok-Valid : goal.returns-in-Ok-Valid
unfolding answer_of memory_after verdict_numbers
returns-in-Ok-Valid c = let s = c.in-Ok-Valid in
    sym (ap (written c.args.memory.now) (s.is ∙ ap Ok (rw s.is at s.field-0-is)))

pub returns-in-Ok-Invalid : goal.returns-in-Ok-Invalid
unfolding answer_of memory_after verdict_numbers
returns-in-Ok-Invalid c = let s = c.in-Ok-Invalid in
    sym (ap (written c.args.memory.now) (s.is ∙ ap Ok (rw s.is at s.field-0-is)))

pub returns-in-Ok-Stopped : goal.returns-in-Ok-Stopped
unfolding answer_of memory_after verdict_numbers
returns-in-Ok-Stopped c = let s = c.in-Ok-Stopped in
    sym (ap (written c.args.memory.now) (s.is ∙ ap Ok (rw s.is at s.field-0-is)))

-- Without a verdict nothing is written.
none_written : (memory : List ℕ) (error : VerifyError) → memory ≡ written memory (Err error)
unfolding answer_of memory_after
none_written memory VerifyError.ShortMemory = refl
none_written memory (VerifyError.Refused r) = refl

pub returns-in-Err : goal.returns-in-Err
returns-in-Err c = none_written _ c.in-Err.error ∙ sym (ap (written c.args.memory.now) c.in-Err.is)
