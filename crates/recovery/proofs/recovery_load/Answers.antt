-- `recovery::recovery_load` meets its contract: the number is that of the answer of `Record::load`, and the parts of its record are written. Assumes nothing.
use mathlib.Core.Path.{◌∙◌}
use Rattle.recovery.proofs.NumberLaws.{answer_coded, same_number, record_parts}
use Rattle.recovery.proofs.recovery_load.Goals as goal

pub returns : goal.returns
returns c = let load = c.load-after.ensures in
    let parts = record_parts _ _ load.1 in
    let put = c.put_replies.ensures in
    (answer_coded _ _ c.code.ensures ∙ same_number _ _ load.0, parts.0, put.0 ∙ parts.1, put.1 ∙ parts.2)
