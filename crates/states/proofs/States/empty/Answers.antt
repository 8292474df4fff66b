-- `states::States::empty` meets its contract: the words are computed. Assumes nothing.
use mathlib.Core.Path.{refl}
use Rattle.states.specs.Sets.{set_of}
use Rattle.states.proofs.States.empty.Goals as goal

pub returns : goal.returns
unfolding set_of
returns c = refl
