-- `recovery::lent_record` meets its contract: the record is made of what is read, by computation. Assumes nothing.
use mathlib.Core.Path.{refl}
use Rattle.recovery.specs.Numbers.{lent_record}
use Rattle.recovery.proofs.lent_record.Goals as goal

pub returns : goal.returns
unfolding lent_record
returns c = refl
