-- `recovery::put_release` meets its contract by computation. Assumes nothing.
use mathlib.Core.Path.{refl}
use Rattle.recovery.specs.Numbers.{release_numbers}
use Rattle.recovery.proofs.put_release.Goals as goal

pub returns : goal.returns
unfolding release_numbers
returns c = (refl, refl)
