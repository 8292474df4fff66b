-- `reader::Packed::kind` meets its contract: it is the function over any bytes, on a sheet's. Assumes nothing.
use mathlib.Core.Path.{◌∙◌}
use Rattle.format.specs.Format.{kind}
use Rattle.reader.proofs.PackedLaws.{few_sheet}
use Rattle.reader.proofs.bits.Packed.kind.Goals as goal

pub returns : goal.returns
returns c = c.action_kind.ensures ∙ few_sheet kind _ _ c.bytes.ensures.value c.bytes.ensures.few
