-- `states::States::equals` meets its contract by computation. Assumes nothing.
use mathlib.Core.Path.{refl}
use Rattle.states.specs.Sets.{same_states}
use Rattle.states.proofs.States.equals.Goals as goal

pub returns : goal.returns
unfolding same_states
returns c = refl
