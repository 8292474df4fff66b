-- `states::States::words` meets its contract. Assumes nothing.
use mathlib.Core.Path.{refl}
use Rattle.states.specs.Sets.{words}
use Rattle.states.proofs.States.words.Goals as goal

pub returns : goal.returns
unfolding words
returns c = refl
