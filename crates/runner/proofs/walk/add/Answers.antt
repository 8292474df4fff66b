-- `walk::add` meets its contract, case by case: at an action the effect is taken and the reply judged. Assumes nothing.
use mathlib.Core.Path.{sym, ap}
use Rattle.std.specs.Prelude.{Result}
use Rattle.reader.specs.declared.refusal.Refusal.{Refusal}
use Rattle.runner.specs.Walks.{Stand, judged_at}
use Rattle.runner.proofs.StandLaws.{judged_nowhere, judged_act, judged_end}
use Rattle.runner.proofs.walk.add.Goals as goal

pub returns-in-Ok-Some-Act-default : goal.returns-in-Ok-Some-Act-default
returns-in-Ok-Some-Act-default c = let w = c.in-Ok-Some-Act-default in
    let stand = rw w.is at w.field-0-is in
    judged_act _ _ _ _ w.is stand _ _ _ _ _ (rw (w.is, stand) at w.field-0-0-0-is) _ c.effect-after.ensures _ c.judge.ensures

pub returns-in-Ok-Some-End-default : goal.returns-in-Ok-Some-End-default
returns-in-Ok-Some-End-default c = let w = c.in-Ok-Some-End-default in
    let stand = rw w.is at w.field-0-is in
    judged_end _ _ _ _ w.is stand _ _ _ _ (rw (w.is, stand) at w.field-0-0-0-is)

pub returns-in-Ok-None : goal.returns-in-Ok-None
returns-in-Ok-None c = let w = c.in-Ok-None in judged_nowhere _ _ w.is (rw w.is at w.field-0-is) _ _ _

pub returns-in-Err : goal.returns-in-Err
unfolding judged_at
returns-in-Err c = let start = c in sym (ap (λ (w : Result Stand Refusal). judged_at start.args.heads.now start.args.sets.now w start.args.reply) c.in-Err.is)
