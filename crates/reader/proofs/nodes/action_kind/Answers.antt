-- `reader::action_kind` meets its contract: a sheet by its length, and each return by the law of its case (FieldLaws of `format`). Assumes nothing.
use mathlib.Core.Path.{sym, ◌∙◌}
use borrow.Author.Tests.{eq-eqb, ne_eqb}
use Rattle.format.proofs.FieldLaws.{kind_cut, kind_change, kind_probe}
use Rattle.format.specs.Format.{mapped, kind}
use Rattle.reader.specs.Answers.{number_of, answer_of, found, kind_of}
use Rattle.reader.proofs.PackedLaws.{packed_given, packed_refused}
use Rattle.reader.proofs.nodes.action_kind.Goals as goal

pub returns-in-Err : goal.returns-in-Err
unfolding answer_of found mapped
returns-in-Err c = packed_refused kind _ _ c.in-Err.ensures

pub returns-in-Err-field : goal.returns-in-Err-field
unfolding mapped kind_of number_of answer_of found
returns-in-Err-field c = sym (kind_cut _ _ (sym c.in-Err-field.ensures)) ∙ packed_given kind _ _ c.in-Ok.ensures

pub returns-then-bit-eq0 : goal.returns-then-bit-eq0
unfolding mapped kind_of answer_of found
returns-then-bit-eq0 c = sym (kind_change _ _ (sym c.in-Ok-field.ensures) (eq-eqb _ 0 c.if-bit-eq0.true)) ∙ packed_given kind _ _ c.in-Ok.ensures

pub returns : goal.returns
unfolding mapped kind_of answer_of found
returns c = sym (kind_probe _ _ (sym c.in-Ok-field.ensures) (ne_eqb _ 0 c.if-bit-eq0.false)) ∙ packed_given kind _ _ c.in-Ok.ensures
