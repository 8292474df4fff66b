-- `reader::objective_states` meets its contract: a sheet by its length. Assumes nothing.
use mathlib.Core.Path.{ap, ◌∙◌}
use Rattle.format.specs.Format.{mapped, deepest, objective}
use Rattle.reader.specs.Answers.{answer_of, found, in_theory, states_in}
use Rattle.reader.proofs.PackedLaws.{packed_given, packed_refused}
use Rattle.reader.proofs.formula.objective_states.Goals as goal

pub returns-in-Err : goal.returns-in-Err
unfolding answer_of found mapped
returns-in-Err c = let a = c.args in
    ap (mapped (states_in a.view)) (packed_refused (objective a.n (in_theory a.view) deepest) _ _ c.in-Err.ensures)

pub returns : goal.returns
unfolding answer_of
returns c = let a = c.args in
    c.evaluate.ensures ∙ ap (mapped (states_in a.view)) (packed_given (objective a.n (in_theory a.view) deepest) _ _ c.in-Ok.ensures)
