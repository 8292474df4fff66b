-- What the verifier's answers mean: document 01's numbers and values.
use Rattle.std.specs.Prelude.{ℕ, ◌*◌, List, replicate, Result, Ok, Err}
use Rattle.format.specs.Syntax.{Sheet}
use Rattle.format.specs.Format.{Answer, gives, refused, given_or}
use Rattle.reader.specs.Answers.{number_of}
use Rattle.semantics.specs.Verdict.{Verdict as Meant, valid, invalid, stopped, Verified, short_memory}
use Rattle.verifier.specs.declared.verdict.Verdict.{Verdict}
use Rattle.verifier.specs.declared.verdict.VerifyError.{VerifyError}

-- "valid" with the count, "invalid" with the count and the length, "stopped" with the budget; `short_memory`, 30, where the trace memory is too short; or the sheet's number.
unfoldable pub answer_of : Result Verdict VerifyError → Answer Meant
unfolding number_of
answer_of (Ok (Verdict.Valid c)) = gives (valid c)
answer_of (Ok (Verdict.Invalid c l)) = gives (invalid c l)
answer_of (Ok (Verdict.Stopped b)) = gives (stopped b)
answer_of (Err VerifyError.ShortMemory) = short_memory
answer_of (Err (VerifyError.Refused r)) = refused (number_of r)

-- The same with the trace memory after the call.
unfoldable pub verified_by : Result Verdict VerifyError → (memory : List ℕ) → Verified
unfolding answer_of
verified_by r memory = record { answer = answer_of r; memory = memory }

-- The memory in which the search remembers: its slots, the words of each, and the memory that tells nothing.
abbrev pub slot_most : ℕ
slot_most = 256

abbrev pub slot_size : ℕ
slot_size = 8

abbrev pub empty_memo : List ℕ
empty_memo = replicate (slot_size * slot_most) 0

-- That memory after a call: all of it is zeros, whatever it held before. A refusal leaves it as it was.
unfoldable pub cleared : Answer Sheet → (memo : List ℕ) → List ℕ
unfolding given_or
cleared answer memo = given_or memo (λ (sheet : Sheet). empty_memo) answer
