-- `progression::step` meets its contract: the effect, and of its states those that the reply keeps. Assumes nothing.
use mathlib.Core.Path.{◌∙◌}
use Rattle.progression.proofs.GatherLaws.{step_halves}
use Rattle.progression.proofs.steps.step.Goals as goal

pub returns : goal.returns
returns c = c.intersect.ensures ∙ step_halves _ _ _ _ _ _ _ c.effect-after.ensures c.reply_states.ensures
