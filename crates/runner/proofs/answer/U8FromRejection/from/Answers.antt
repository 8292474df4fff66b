-- `Rejection` as a number: what stands beside each variant is its number. Assumes nothing.
use Prim.Native.Nat.{◌+◌}
use mathlib.Core.Path.{◌≡◌, refl}
use denote.Enum.Declared.{tag_of}
use Rattle.runner.specs.contracts.answer.Rejection.{the_type}
use Rattle.runner.specs.declared.answer.Rejection.{Rejection}
use Rattle.runner.specs.Answers.{rejection_number}
use Rattle.runner.proofs.answer.U8FromRejection.from.Goals as goal

pub returns : goal.returns
unfolding rejection_number
returns c = numbered c.args.rejection
  where
    numbered : (r : Rejection) → tag_of the_type r + 31 ≡ rejection_number r
    numbered Rejection.BadRecord = refl
    numbered Rejection.AtEnd = refl
    numbered Rejection.NoSuchReply = refl
    numbered Rejection.NotPossible = refl
