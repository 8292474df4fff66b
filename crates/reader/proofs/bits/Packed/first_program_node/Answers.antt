-- `reader::Packed::first_program_node` meets its contract: it is the function over any bytes, on a sheet's. Assumes nothing.
use mathlib.Core.Path.{◌∙◌}
use Rattle.format.specs.Format.{program_node}
use Rattle.reader.proofs.PackedLaws.{few_sheet}
use Rattle.reader.proofs.bits.Packed.first_program_node.Goals as goal

pub returns : goal.returns
returns c = c.program_node.ensures ∙ few_sheet (program_node 0 0) _ _ c.bytes.ensures.value c.bytes.ensures.few
