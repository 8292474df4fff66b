-- `routine::actions::row` meets its contract: a state outside the space has no row; a theory that stands is not refused. Assumes nothing.
use mathlib.Core.Path.{sym, ◌∙◌}
use Rattle.reader.specs.Answers.{in_theory}
use Rattle.reader.specs.Answers as read
use Rattle.routine.proofs.EvaluatedLaws.{found, never_refused}
use Rattle.routine.proofs.ActionLaws.{row_inside}
use Rattle.routine.proofs.actions.row.Goals as goal

pub returns-in-Err : goal.returns-in-Err
unfolding read.found in_theory
returns-in-Err c = λ f q h. never_refused _ _ _ _ c.in-Err.ensures f q h

pub returns-in-Ok : goal.returns-in-Ok
unfolding read.found in_theory
returns-in-Ok c = λ f q h.
    c.intersect.ensures
    ∙ row_inside _ f _ (sym c.has.ensures ∙ c.if-not-has.false)
    (found _ _ _ _ c.in-Ok.ensures f q h).0
