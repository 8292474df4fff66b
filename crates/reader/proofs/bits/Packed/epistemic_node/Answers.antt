-- `reader::Packed::epistemic_node` meets its contract: it is the function over any bytes, on a sheet's. Assumes nothing.
use mathlib.Core.Path.{◌∙◌}
use Rattle.format.specs.Format.{epistemic_node}
use Rattle.reader.proofs.PackedLaws.{few_sheet}
use Rattle.reader.proofs.bits.Packed.epistemic_node.Goals as goal

pub returns : goal.returns
returns c = c.epistemic_node.ensures ∙ few_sheet epistemic_node _ _ c.bytes.ensures.value c.bytes.ensures.few
