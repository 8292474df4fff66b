-- `recovery::put_replies` meets its contract by computation. Assumes nothing.
use mathlib.Core.Path.{refl}
use Rattle.recovery.specs.Numbers.{lengths_of}
use Rattle.recovery.proofs.put_replies.Goals as goal

pub returns : goal.returns
unfolding lengths_of
returns c = (refl, refl)
