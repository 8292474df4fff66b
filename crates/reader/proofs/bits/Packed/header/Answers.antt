-- `reader::Packed::header` meets its contract: it is the function over any bytes, on a sheet's. Assumes nothing.
use mathlib.Core.Path.{ap, ◌∙◌}
use Rattle.format.specs.Format.{mapped, is_edition, header}
use Rattle.reader.specs.Answers.{spaced}
use Rattle.reader.proofs.PackedLaws.{few_sheet}
use Rattle.reader.proofs.bits.Packed.header.Goals as goal

pub returns : goal.returns
returns c = c.header.ensures ∙ ap (mapped spaced) (few_sheet (header is_edition) _ _ c.bytes.ensures.value c.bytes.ensures.few)
