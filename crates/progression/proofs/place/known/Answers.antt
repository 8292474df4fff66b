-- `progression::known` meets its contract: what is outside the other set is empty just where every state is in it. Assumes nothing.
use mathlib.Core.Path.{◌∙◌}
use Rattle.progression.proofs.MachineLaws.{known_empty}
use Rattle.progression.proofs.place.known.Goals as goal

pub returns : goal.returns
returns c = c.is_empty.ensures ∙ known_empty _ _ _ _ _ c.set_at.ensures c.difference.ensures
