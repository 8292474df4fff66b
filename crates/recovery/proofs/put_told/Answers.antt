-- `recovery::put_told` meets its contract, case by case. Assumes nothing.
use mathlib.Core.Path.{refl, sym, ap, ◌∙◌}
use Rattle.std.specs.Prelude.{Ok}
use Rattle.runner.specs.Answers.{told_of}
use Rattle.runner.specs.declared.answer.Told.{Told}
use Rattle.recovery.specs.Numbers.{told_numbers}
use Rattle.recovery.proofs.NumberLaws.{told_cast, told_numbers_law, told_refused}
use Rattle.recovery.proofs.put_told.Goals as goal

pub returns-in-Ok-Act : goal.returns-in-Ok-Act
unfolding told_of told_numbers
returns-in-Ok-Act c = let w = c.in-Ok-Act in
    told_numbers_law _ _ (sym (ap told_of w.is ∙ ap (λ (t : Told). told_of (Ok t)) (rw w.is at w.field-0-is))) _ _ refl

pub returns-in-Ok-End : goal.returns-in-Ok-End
unfolding told_of
returns-in-Ok-End c = let w = c.in-Ok-End in
    told_numbers_law _ _ (sym (ap told_of w.is ∙ ap (λ (t : Told). told_of (Ok t)) (rw w.is at w.field-0-is))) _ _ (told_cast w.holds)

pub returns-in-Err : goal.returns-in-Err
unfolding told_of
returns-in-Err c = let t = told_refused _ _ (sym (ap told_of c.in-Err.is)) _ in (c.from.ensures ∙ t.0, t.1)
