-- `recovery::lent_release` meets its contract: the state is made of what is read. Assumes nothing.
use mathlib.Core.Path.{refl}
use Rattle.recovery.specs.Numbers.{lent_release}
use Rattle.recovery.proofs.lent_release.Goals as goal

pub returns : goal.returns
unfolding lent_release
returns c = refl
