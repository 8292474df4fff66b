-- `reader::epistemic_node` meets its contract: a sheet by its length, and each return by the law of its case (FieldLaws of `format`). Assumes nothing.
use mathlib.Core.Path.{sym, ◌∙◌}
use native.Mathlib.Omega.{arith}
use borrow.Author.Tests.{eq-eqb, ne_eqb}
use Rattle.format.proofs.FieldLaws.{epistemic_cut, known_first, not_known_first, all_of_first, any_of_first}
use Rattle.format.specs.Format.{mapped, epistemic_node}
use Rattle.reader.specs.Answers.{number_of, answer_of, found, epistemic_node_of}
use Rattle.reader.proofs.PackedLaws.{packed_given, packed_refused}
use Rattle.reader.proofs.nodes.epistemic_node.Goals as goal

pub returns-in-Err : goal.returns-in-Err
unfolding answer_of found mapped
returns-in-Err c = packed_refused epistemic_node _ _ c.in-Err.ensures

pub returns-in-Err-field : goal.returns-in-Err-field
unfolding mapped epistemic_node_of number_of answer_of found
returns-in-Err-field c = sym (epistemic_cut _ _ (sym c.in-Err-field.ensures)) ∙ packed_given epistemic_node _ _ c.in-Ok.ensures

pub returns-in-0 : goal.returns-in-0
unfolding mapped epistemic_node_of answer_of found
returns-in-0 c = let tag = c.in-Ok-field.value.0 in
    sym (known_first _ _ (sym c.in-Ok-field.ensures) (eq-eqb tag 0 (omega arith))) ∙ packed_given epistemic_node _ _ c.in-Ok.ensures

pub returns-in-1 : goal.returns-in-1
unfolding mapped epistemic_node_of answer_of found
returns-in-1 c = let tag = c.in-Ok-field.value.0 in
    sym (not_known_first _ _ (sym c.in-Ok-field.ensures) (ne_eqb tag 0 (λ e. omega arith)) (eq-eqb tag 1 (omega arith))) ∙ packed_given epistemic_node _ _ c.in-Ok.ensures

pub returns-in-2 : goal.returns-in-2
unfolding mapped epistemic_node_of answer_of found
returns-in-2 c = let tag = c.in-Ok-field.value.0 in
    sym (all_of_first _ _ (sym c.in-Ok-field.ensures) (ne_eqb tag 0 (λ e. omega arith)) (ne_eqb tag 1 (λ e. omega arith)) (eq-eqb tag 2 (omega arith))) ∙ packed_given epistemic_node _ _ c.in-Ok.ensures

pub returns-in_default : goal.returns-in_default
unfolding mapped epistemic_node_of answer_of found
returns-in_default c = let tag = c.in-Ok-field.value.0 in
    sym (any_of_first _ _ (sym c.in-Ok-field.ensures) (ne_eqb tag 0 (λ e. omega arith)) (ne_eqb tag 1 (λ e. omega arith)) (ne_eqb tag 2 (λ e. omega arith))) ∙ packed_given epistemic_node _ _ c.in-Ok.ensures
