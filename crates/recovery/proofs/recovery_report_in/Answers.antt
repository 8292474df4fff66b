-- `recovery::recovery_report_in` meets its contract: the number is that of the answer of `Record::report_in` to the record that was lent, which writes the tables, and the parts of
-- the record after it are written. Assumes nothing.
use mathlib.Core.Path.{◌∙◌}
use Rattle.recovery.proofs.NumberLaws.{tables_lent, report_coded, report_number, report_parts}
use Rattle.recovery.proofs.recovery_report_in.Goals as goal

pub returns : goal.returns
returns c = let put = c.put_replies.ensures in
    let after = c in
    let lent = after.lent_record-record.ensures in
    let report = after.report_in-after.ensures in
    let parts = report_parts _ _ _ _ lent report.1 in
    (report_coded _ _ c.code.ensures ∙ report_number _ _ _ _ lent report.0, put.0 ∙ parts.0, put.1 ∙ parts.1, tables_lent _ _ lent _ _ _ _ _ _ report.2)
