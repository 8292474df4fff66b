-- `reader::Packed::objective` meets its contract: it is the function over any bytes, on a sheet's. Assumes nothing.
use mathlib.Core.Path.{ap, ◌∙◌}
use Rattle.format.specs.Format.{mapped, deepest, objective}
use Rattle.reader.specs.Answers.{in_theory, states_in}
use Rattle.reader.proofs.PackedLaws.{few_sheet}
use Rattle.reader.proofs.bits.Packed.objective.Goals as goal

pub returns : goal.returns
returns c = let a = c.args in
    c.objective_states.ensures ∙ ap (mapped (states_in a.view)) (few_sheet (objective a.n (in_theory a.view) deepest) _ _ c.bytes.ensures.value c.bytes.ensures.few)
