-- `reader::actions::states_after` meets its contract: the set that the theory gives in its view. Assumes nothing.
use mathlib.Core.Path.{sym}
use Rattle.format.proofs.ReaderLaws.{made_value, never_refused}
use Rattle.reader.specs.Answers.{found, in_theory, states_in}
use Rattle.reader.specs.declared.formula.View.{View}
use Rattle.reader.proofs.actions.states_after.Goals as goal

pub returns-in-Err : goal.returns-in-Err
unfolding found in_theory
returns-in-Err c = λ f end e. never_refused (states_in (View.Next c.args.state)) (sym c.in-Err.ensures) e

pub returns-in-Ok : goal.returns-in-Ok
unfolding found in_theory
returns-in-Ok c = λ f end e. (made_value (states_in (View.Next c.args.state)) (sym c.in-Ok.ensures) e).0
