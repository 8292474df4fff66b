-- `recovery::checked_number` meets its contract: one equation for each answer. Assumes nothing.
use mathlib.Core.Path.{sym, ap, ◌∙◌}
use Rattle.std.specs.Prelude.{Ok}
use Rattle.checker.specs.Answers.{answer_of}
use Rattle.recovery.specs.Numbers.{checked_number}
use Rattle.recovery.proofs.checked_number.Goals as goal

pub returns-in-Ok-true : goal.returns-in-Ok-true
unfolding answer_of checked_number
returns-in-Ok-true c = sym (ap checked_number (ap answer_of (c.in-Ok-true.is ∙ ap Ok c.in-Ok-true.field-0-test)))

pub returns-in-Ok-false : goal.returns-in-Ok-false
unfolding answer_of checked_number
returns-in-Ok-false c = sym (ap checked_number (ap answer_of (c.in-Ok-false.is ∙ ap Ok c.in-Ok-false.field-0-test)))

pub returns-in-Err : goal.returns-in-Err
unfolding answer_of checked_number
returns-in-Err c = c.from.ensures ∙ sym (ap checked_number (ap answer_of c.in-Err.is))
