-- `walk::tell` meets its contract, case by case. Assumes nothing.
use mathlib.Core.Path.{sym, ap}
use Rattle.runner.specs.Walks.{told_at}
use Rattle.runner.proofs.StandLaws.{told_nowhere, told_act, told_end}
use Rattle.runner.proofs.walk.tell.Goals as goal

pub returns-in-Ok-Some-Act-default : goal.returns-in-Ok-Some-Act-default
returns-in-Ok-Some-Act-default c = let w = c.in-Ok-Some-Act-default in
    let stand = rw w.is at w.field-0-is in
    told_act _ _ _ _ w.is stand _ _ (rw (w.is, stand) at w.field-0-0-0-is)

pub returns-in-Ok-Some-End-default : goal.returns-in-Ok-Some-End-default
returns-in-Ok-Some-End-default c = let w = c.in-Ok-Some-End-default in
    let stand = rw w.is at w.field-0-is in
    told_end _ _ _ _ w.is stand _ (rw (w.is, stand) at w.field-0-0-0-is)

pub returns-in-Ok-None : goal.returns-in-Ok-None
returns-in-Ok-None c = let w = c.in-Ok-None in told_nowhere _ _ w.is (rw w.is at w.field-0-is)

pub returns-in-Err : goal.returns-in-Err
unfolding told_at
returns-in-Err c = sym (ap told_at c.in-Err.is)
