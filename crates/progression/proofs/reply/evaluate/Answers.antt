-- `progression::evaluate` meets its contract: it is the bit of the word, and one is counted. Assumes nothing.
use mathlib.Core.Path.{refl}
use Rattle.states.specs.Sets.{bit}
use Rattle.progression.proofs.reply.evaluate.Goals as goal

pub returns : goal.returns
unfolding bit
returns c = (refl, refl)
