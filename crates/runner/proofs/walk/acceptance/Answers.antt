-- `walk::acceptance` meets its contract, case by case. Assumes nothing.
use mathlib.Core.Path.{sym, ap}
use Rattle.runner.specs.Walks.{accepted_at}
use Rattle.runner.proofs.walk.acceptance.Goals as goal

pub returns-in-Ok : goal.returns-in-Ok
unfolding accepted_at
returns-in-Ok c = sym (ap accepted_at c.in-Ok.is)

pub returns-in-Err : goal.returns-in-Err
unfolding accepted_at
returns-in-Err c = sym (ap accepted_at c.in-Err.is)
