-- `progression::effect` meets its contract: the rows gathered, or the set as it is. Assumes nothing.
use mathlib.Core.Path.{◌∙◌}
use Rattle.progression.proofs.GatherLaws.{read_rows, read_same}
use Rattle.progression.proofs.steps.effect.Goals as goal

pub returns-then-head : goal.returns-then-head
returns-then-head c = c.gather.ensures ∙ read_rows _ _ _ c.head_at-head.ensures.0 _ c.if-head.true

pub returns : goal.returns
returns c = read_same _ _ _ c.head_at-head.ensures.0 _ c.if-head.false
