-- `routine::actions::theory_end` meets its contract: a theory that stands is not refused, and ends where it is found to end. Assumes nothing.
use Rattle.reader.specs.Answers.{in_theory}
use Rattle.reader.specs.Answers as read
use Rattle.routine.proofs.EvaluatedLaws.{found, never_refused}
use Rattle.routine.proofs.actions.theory_end.Goals as goal

pub returns-in-Err : goal.returns-in-Err
unfolding read.found in_theory
returns-in-Err c = λ f q h. never_refused _ _ _ _ c.in-Err.ensures f q h

pub returns-in-Ok : goal.returns-in-Ok
unfolding read.found in_theory
returns-in-Ok c = λ f q h. (found _ _ _ _ c.in-Ok.ensures f q h).1
