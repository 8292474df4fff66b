-- What the calls of `read` say of the input, and what is printed for it.
use Rattle.std.specs.Prelude.{if◌then◌else◌, ℕ, zero, suc, ◌+◌, List, [], take, ltb, Result, Ok, Err}
use Rattle.std.specs.declared.ops.ControlFlow.{ControlFlow}
use Rattle.std.specs.declared.ops.ControlFlow.TheVariants.{Continue, Break}
use Rattle.semantics.specs.Printing.{printed}

-- What follows a call of `read` behind `done` of `most` bytes: another one, or reading is over. Only the answer 0 is the end of the input; an error is a failure,
-- whatever was read before.
unfoldable pub after_read : {E : Type 0} (done most : ℕ) → Result ℕ E → Result (ControlFlow ℕ ℕ) E
after_read done most (Err e) = Err e
after_read done most (Ok zero) = Ok (Break done)
after_read done most (Ok (suc k)) = let n = done + suc k in Ok (if ltb n most then Continue n else Break n)

-- What is printed: for an input that was read what `printed` says of its bytes, for any other nothing.
unfoldable pub lines_for : {E : Type 0} → Result ℕ E → (bytes : List ℕ) → List ℕ
lines_for (Ok n) bytes = printed (take n bytes)
lines_for (Err e) bytes = []
