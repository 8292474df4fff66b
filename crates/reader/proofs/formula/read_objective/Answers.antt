-- `reader::read_objective` meets its contract: it ends where the evaluation ends. Assumes nothing.
use mathlib.Core.Path.{sym, ap, ◌∙◌}
use Rattle.format.specs.Format.{mapped, objective}
use Rattle.reader.proofs.EndLaws.{ends_mapped}
use Rattle.reader.specs.Answers.{number_of, found, in_theory, states_in}
use Rattle.reader.specs.Method.{end_read, ending}
use Rattle.reader.proofs.formula.read_objective.Goals as goal

pub returns-in-Err : goal.returns-in-Err
unfolding end_read found number_of mapped ending
returns-in-Err c = let a = c.args in
    let found = sym c.in-Err.ensures in
    sym (sym (ends_mapped (states_in a.view) (objective a.n (in_theory a.view) a.left a.packed.now a.at)) ∙ ap (mapped ending) found)

pub returns : goal.returns
unfolding end_read found number_of mapped ending
returns c = let a = c.args in
    let found = sym c.in-Ok.ensures in
    sym (sym (ends_mapped (states_in a.view) (objective a.n (in_theory a.view) a.left a.packed.now a.at)) ∙ ap (mapped ending) found)
