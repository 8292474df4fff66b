-- `reader::reply_total` meets its contract: a sheet by its length, and each return by the law of its case (FieldLaws of `format`). Assumes nothing.
use mathlib.Core.Path.{sym, ◌∙◌}
use Rattle.format.proofs.FieldLaws.{one_to_eight, below_one, above_eight, total_cut, total_out, total_in}
use Rattle.format.specs.Format.{reply_total}
use Rattle.reader.specs.Answers.{number_of, answer_of, found}
use Rattle.reader.proofs.PackedLaws.{packed_given, packed_refused}
use Rattle.reader.proofs.nodes.reply_total.Goals as goal

pub returns-in-Err : goal.returns-in-Err
unfolding answer_of found
returns-in-Err c = packed_refused reply_total _ _ c.in-Err.ensures

pub returns-in-Err-field : goal.returns-in-Err-field
unfolding number_of answer_of found
returns-in-Err-field c = sym (total_cut _ _ (sym c.in-Err-field.ensures)) ∙ packed_given reply_total _ _ c.in-Ok.ensures

pub returns-then-m-lt1 : goal.returns-then-m-lt1
unfolding number_of answer_of found
returns-then-m-lt1 c = sym (total_out _ _ (sym c.in-Ok-field.ensures) (below_one _ c.if-m-lt1.true)) ∙ packed_given reply_total _ _ c.in-Ok.ensures

pub returns-then-m-gt-REPLIES : goal.returns-then-m-gt-REPLIES
unfolding number_of answer_of found
returns-then-m-gt-REPLIES c = sym (total_out _ _ (sym c.in-Ok-field.ensures) (above_eight _ c.if-m-gt-REPLIES.true)) ∙ packed_given reply_total _ _ c.in-Ok.ensures

pub returns : goal.returns
unfolding answer_of found
returns c = sym (total_in _ _ (sym c.in-Ok-field.ensures) (one_to_eight _ c.if-m-lt1.false c.if-m-gt-REPLIES.false)) ∙ packed_given reply_total _ _ c.in-Ok.ensures
