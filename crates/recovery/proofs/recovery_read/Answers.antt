-- `recovery::recovery_read` meets its contract: the number is that of the reader's answer. Assumes nothing.
use mathlib.Core.Path.{◌∙◌}
use Rattle.recovery.proofs.NumberLaws.{answer_coded, same_number}
use Rattle.recovery.proofs.recovery_read.Goals as goal

pub returns : goal.returns
returns c = answer_coded _ _ c.code.ensures ∙ same_number _ _ c.read.ensures
