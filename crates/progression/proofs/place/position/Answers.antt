-- `place::position` meets its contract: an action node says its number, and the first end that of all. Assumes nothing.
use mathlib.Core.Path.{◌∙◌}
use Rattle.progression.proofs.NumberLaws.{act_position, end_position, number_act, number_none}
use borrow.Enum.Refused.{opened}
use Rattle.progression.proofs.place.position.Goals as goal

pub returns-in-End : goal.returns-in-End
returns-in-End c = c.end_number.ensures ∙ end_position _ _ _ c.in-End.is

pub returns-in-Act-node_at : goal.returns-in-Act-node_at
returns-in-Act-node_at c = number_act _ _ _ c.in-Act-node_at.is
    ∙ act_position _ _ _ _ c.in-Act.is _ c.node_at.ensures.0

pub returns-in_default : goal.returns-in_default
returns-in_default c = number_none _ (opened c.in_default.in_default-own.keys2) ∙ act_position _ _ _ _ c.in-Act.is _ c.node_at.ensures.0
