-- `routine::conditions::fill_atom` meets its contract. Assumes nothing.
use Prim.Native.Nat.{◌+◌, ◌*◌}
use mathlib.Core.Path.{ap, ◌∙◌}
use Rattle.states.specs.declared.States.{States}
use Rattle.reader.specs.Answers.{in_theory}
use Rattle.states.specs.Sets.{words}
use Rattle.lists.specs.Lists.{write}
use Rattle.reader.specs.Answers as read
use Rattle.routine.proofs.EvaluatedLaws.{found, never_refused, states_hold}
use Rattle.routine.proofs.conditions.fill_atom.Goals as goal

pub returns-in_default : goal.returns-in_default
unfolding read.found in_theory
returns-in_default c f q h = never_refused _ _ _ _ c.in_default.ensures f q h

pub returns : goal.returns
unfolding read.found in_theory
returns c f q h = let is = found _ _ _ _ c.in-Ok.ensures f q h in (
  ap (λ e. record { at = e; node = c.args.from.node + 1; set = c.args.from.set + 1; acts = c.args.from.acts }) is.1,
  c.put_node.ensures,
  c.put_set.ensures ∙ ap (λ (set : States). write c.args.sets.now (4 * c.args.from.set) (words set)) (is.0 ∙ states_hold f),
)
