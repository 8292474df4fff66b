-- What the answers of "Next" and "Report" mean: document 01's numbers and values. (Loading's is the reader's.)
use Rattle.std.specs.Prelude.{ℕ, Result, Ok, Err}
use Rattle.format.specs.Format.{Answer, gives, refused}
use Rattle.semantics.specs.Replies.{Told as Meant, to_do, at_end}
use Rattle.runner.specs.declared.answer.Rejection.{Rejection}
use Rattle.runner.specs.declared.answer.Told.{Told}

-- "From the memory and the record": the number of each rejection.
unfoldable pub rejection_number : Rejection → ℕ
rejection_number Rejection.BadRecord = 31
rejection_number Rejection.AtEnd = 32
rejection_number Rejection.NoSuchReply = 33
rejection_number Rejection.NotPossible = 34

-- 31.
abbrev pub bad_record : {A : Type 0} → Answer A
bad_record = refused (rejection_number Rejection.BadRecord)

-- "Next" tells "the action to do, or that the routine is at its end and whether the goal holds", and "gives only 31".
unfoldable pub told_of : Result Told Rejection → Answer Meant
unfolding rejection_number
told_of (Ok (Told.Act a)) = gives (to_do a)
told_of (Ok (Told.End holds)) = gives (at_end holds)
told_of (Err r) = refused (rejection_number r)

-- "A reply is accepted if its report isn't refused."
unfoldable pub reported_of : Result (Unit {0}) Rejection → Answer (Unit {0})
unfolding rejection_number
reported_of (Ok u) = gives tt
reported_of (Err r) = refused (rejection_number r)
