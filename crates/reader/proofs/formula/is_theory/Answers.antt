-- `reader::is_theory` meets its contract, case by case. Assumes nothing.
use Rattle.reader.specs.Answers.{in_theory}
use Rattle.reader.proofs.formula.is_theory.Goals as goal

pub returns-in-States : goal.returns-in-States
unfolding in_theory
returns-in-States c = rw c.in-States.is

pub returns-in-Next : goal.returns-in-Next
unfolding in_theory
returns-in-Next c = rw c.in-Next.is
