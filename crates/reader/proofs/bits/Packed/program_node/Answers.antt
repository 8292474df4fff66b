-- `reader::Packed::program_node` meets its contract: each return by the law of its case (FieldLaws of `format`). Assumes nothing.
use mathlib.Core.Path.{sym}
use borrow.Author.Tests.{eq-eqb, ne_eqb}
use Rattle.format.proofs.FieldLaws.{program_cut, end_first, act_many, number_cut, act_first, branch_many, branch_first, loop_first}
use Rattle.format.specs.Format.{mapped}
use Rattle.reader.specs.Answers.{number_of, found, program_node_of}
use Rattle.reader.proofs.bits.Packed.program_node.Goals as goal

pub returns-in-Err : goal.returns-in-Err
unfolding mapped program_node_of number_of found
returns-in-Err c = sym (program_cut c.args.acts c.args.branches _ _ (sym c.in-Err.ensures))

pub returns-then-tag-eq0 : goal.returns-then-tag-eq0
unfolding mapped program_node_of found
returns-then-tag-eq0 c = sym (end_first c.args.acts c.args.branches _ _ (sym c.in-Ok.ensures) (eq-eqb _ 0 c.if-tag-eq0.true))

pub returns-then-acts-ge-ACTION_NODES : goal.returns-then-acts-ge-ACTION_NODES
unfolding mapped program_node_of number_of found
returns-then-acts-ge-ACTION_NODES c = sym (act_many c.args.acts c.args.branches _ _ (sym c.in-Ok.ensures) (ne_eqb _ 0 c.if-tag-eq0.false) (eq-eqb _ 1 c.if-tag-eq1.true) c.if-acts-ge-ACTION_NODES.true)

pub returns-in-Err-field : goal.returns-in-Err-field
unfolding mapped program_node_of number_of found
returns-in-Err-field c = sym (number_cut c.args.acts c.args.branches _ _ (sym c.in-Ok.ensures) (ne_eqb _ 0 c.if-tag-eq0.false) (eq-eqb _ 1 c.if-tag-eq1.true) c.if-acts-ge-ACTION_NODES.false (sym c.in-Err-field.ensures))

pub returns-then-tag-eq1 : goal.returns-then-tag-eq1
unfolding mapped program_node_of found
returns-then-tag-eq1 c = sym (act_first c.args.acts c.args.branches _ _ (sym c.in-Ok.ensures) (ne_eqb _ 0 c.if-tag-eq0.false) (eq-eqb _ 1 c.if-tag-eq1.true) c.if-acts-ge-ACTION_NODES.false (sym c.in-Ok-field.ensures))

pub returns-then-branches-ge-BRANCH_NODES : goal.returns-then-branches-ge-BRANCH_NODES
unfolding mapped program_node_of number_of found
returns-then-branches-ge-BRANCH_NODES c = sym (branch_many c.args.acts c.args.branches _ _ (sym c.in-Ok.ensures) (ne_eqb _ 0 c.if-tag-eq0.false) (ne_eqb _ 1 c.if-tag-eq1.false) (eq-eqb _ 2 c.if-tag-eq2.true) c.if-branches-ge-BRANCH_NODES.true)

pub returns-then-tag-eq2 : goal.returns-then-tag-eq2
unfolding mapped program_node_of found
returns-then-tag-eq2 c = sym (branch_first c.args.acts c.args.branches _ _ (sym c.in-Ok.ensures) (ne_eqb _ 0 c.if-tag-eq0.false) (ne_eqb _ 1 c.if-tag-eq1.false) (eq-eqb _ 2 c.if-tag-eq2.true) c.if-branches-ge-BRANCH_NODES.false)

pub returns : goal.returns
unfolding mapped program_node_of number_of found
returns c = sym (loop_first c.args.acts c.args.branches _ _ (sym c.in-Ok.ensures) (ne_eqb _ 0 c.if-tag-eq0.false) (ne_eqb _ 1 c.if-tag-eq1.false) (ne_eqb _ 2 c.if-tag-eq2.false))
