-- `Record::zero` meets its contract: it is the record of zeros by computation. Assumes nothing.
use mathlib.Core.Path.{refl}
use Rattle.runner.specs.Records.{zeros}
use Rattle.runner.proofs.calls.Record.zero.Goals as goal

pub returns : goal.returns
unfolding zeros
returns c = refl
