-- `recovery::recovery_report` meets its contract: the number is that of the answer of `Record::report` to the record that was lent, and the parts of the record after it are written. Assumes nothing.
use mathlib.Core.Path.{◌∙◌}
use Rattle.recovery.proofs.NumberLaws.{report_coded, report_number, report_parts}
use Rattle.recovery.proofs.recovery_report.Goals as goal

pub returns : goal.returns
returns c = let put = c.put_replies.ensures in
    let after = c in
    let lent = after.lent_record-record.ensures in
    let parts = report_parts _ _ _ _ lent after.report-after.ensures.1 in
    (report_coded _ _ c.code.ensures ∙ report_number _ _ _ _ lent after.report-after.ensures.0, put.0 ∙ parts.0, put.1 ∙ parts.1)
