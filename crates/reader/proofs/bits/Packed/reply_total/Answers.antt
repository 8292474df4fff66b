-- `reader::Packed::reply_total` meets its contract: it is the function over any bytes, on a sheet's. Assumes nothing.
use mathlib.Core.Path.{◌∙◌}
use Rattle.format.specs.Format.{reply_total}
use Rattle.reader.proofs.PackedLaws.{few_sheet}
use Rattle.reader.proofs.bits.Packed.reply_total.Goals as goal

pub returns : goal.returns
returns c = c.reply_total.ensures ∙ few_sheet reply_total _ _ c.bytes.ensures.value c.bytes.ensures.few
