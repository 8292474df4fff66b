-- `progression::pass` meets its contract: the pass over the states of the set, by the reply's table. Assumes nothing.
use mathlib.Core.Path.{ap, ◌∙◌}
use Rattle.states.specs.declared.States.{States}
use Rattle.progression.specs.Machine.{passed_over, passed_by}
use Rattle.progression.proofs.reply.pass.Goals as goal

pub returns : goal.returns
unfolding passed_by
returns c = c.pass_over.ensures ∙ ap (λ (reply : States). passed_over c.args.set reply) c.reply_states.ensures
