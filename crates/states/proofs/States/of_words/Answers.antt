-- `states::States::of_words` meets its contract. Assumes nothing.
use Rattle.states.specs.Sets.{of_words}
use Rattle.states.proofs.States.of_words.Goals as goal

pub returns : goal.returns
unfolding of_words
returns c = c.at.ensures
