-- `progression::reply_states` meets its contract: the reply's table, if the action has the reply. Assumes nothing.
use mathlib.Core.Path.{◌∙◌}
use native.Mathlib.Omega.{arith}
use Rattle.progression.proofs.GatherLaws.{read_nowhere, read_table}
use Rattle.progression.proofs.steps.reply_states.Goals as goal

pub returns-then-head-reply : goal.returns-then-head-reply
returns-then-head-reply c = c.empty.ensures ∙ read_nowhere _ _ _ c.head_at-head.ensures.0 _ c.if-head-reply.true

pub returns : goal.returns
returns c = c.set_at.ensures ∙ read_table _ _ _ c.head_at-head.ensures.0 _ (omega arith)
