-- `routine::conditions::fill_formula` and `fill_parts` meet their contracts. The measure is twice the levels left, and one more for a formula. Assumes nothing.
use mathlib.Core.Path.{sym}
use mathlib.Core.Bool.{true, false}
use native.Mathlib.Omega.{arith}
use Rattle.format.specs.Format.{mapped}
use Rattle.format.proofs.ReaderLaws.{found_as}
use Rattle.reader.specs.Answers.{found, epistemic_node_of}
use Rattle.routine.specs.Memory.{Small}
use Rattle.routine.specs.Filling.{pair}
use Rattle.routine.proofs.ConditionLaws.{formula_parts, node_room, parts_room, join_room, size_small, laid_atom, second_written, laid_parts}
use Rattle.routine.proofs.conditions.+fill_formula_fill_parts.Goals as goal

pub fill_formula-fill_atom-requires : goal.fill_formula-fill_atom-requires
unfolding Small
fill_formula-fill_atom-requires t c =
    let room = node_room _ _ _ _ c.requires in (room.0, room.1, omega (arith, room.1))

pub fill_formula-fill_atom-requires-in-NotKnown : goal.fill_formula-fill_atom-requires-in-NotKnown
unfolding Small
fill_formula-fill_atom-requires-in-NotKnown t c =
    let room = node_room _ _ _ _ c.requires in (room.0, room.1, omega (arith, room.1))

pub fill_formula-fill_parts-requires : goal.fill_formula-fill_parts-requires
unfolding found mapped epistemic_node_of
fill_formula-fill_parts-requires t c =
    let room = c.requires in
    (omega (arith, c.decreases), parts_room _ _ _ _ room (formula_parts c.args.packed.now c.args.n c.args.left c.args.from.at c.requires.levels (sym (found_as epistemic_node_of c.in-Ok.ensures c.in-AllOf.is)) room.formula room.next room.read))

pub fill_formula-fill_parts-requires-in-AnyOf : goal.fill_formula-fill_parts-requires-in-AnyOf
unfolding found mapped epistemic_node_of
fill_formula-fill_parts-requires-in-AnyOf t c =
    let room = c.requires in
    (omega (arith, c.decreases), parts_room _ _ _ _ room (formula_parts c.args.packed.now c.args.n c.args.left c.args.from.at c.requires.levels (sym (found_as epistemic_node_of c.in-Ok.ensures c.in-AnyOf.is)) room.formula room.next room.read))

pub fill_formula-returns-in_default : goal.fill_formula-returns-in_default
unfolding found mapped
fill_formula-returns-in_default t c =
    absurd (formula_parts c.args.packed.now c.args.n c.args.left c.args.from.at c.requires.levels c.in_default.ensures c.requires.formula c.requires.next c.requires.read)

pub fill_formula-returns-in-Known : goal.fill_formula-returns-in-Known
unfolding found mapped epistemic_node_of
fill_formula-returns-in-Known t c f q e =
    laid_atom _ _ _ c.args.from f _ q _ _ true c.fill_atom.ensures (formula_parts c.args.packed.now c.args.n c.args.left c.args.from.at c.requires.levels (sym (found_as epistemic_node_of c.in-Ok.ensures c.in-Known.is)) f q e)

pub fill_formula-returns-in-NotKnown : goal.fill_formula-returns-in-NotKnown
unfolding found mapped epistemic_node_of
fill_formula-returns-in-NotKnown t c f q e =
    laid_atom _ _ _ c.args.from f _ q _ _ false c.fill_atom-in-NotKnown.ensures (formula_parts c.args.packed.now c.args.n c.args.left c.args.from.at c.requires.levels (sym (found_as epistemic_node_of c.in-Ok.ensures c.in-NotKnown.is)) f q e)

pub fill_formula-returns-in-AllOf : goal.fill_formula-returns-in-AllOf
unfolding pair found mapped epistemic_node_of
fill_formula-returns-in-AllOf t c f q e =
    let h = (formula_parts c.args.packed.now c.args.n c.args.left c.args.from.at c.requires.levels (sym (found_as epistemic_node_of c.in-Ok.ensures c.in-AllOf.is)) f q e).parts in rw (sym h.is) (c.fill_parts.ensures h.first h.second h.middle q h.first_read h.second_read)

pub fill_formula-returns-in-AnyOf : goal.fill_formula-returns-in-AnyOf
unfolding pair found mapped epistemic_node_of
fill_formula-returns-in-AnyOf t c f q e =
    let h = (formula_parts c.args.packed.now c.args.n c.args.left c.args.from.at c.requires.levels (sym (found_as epistemic_node_of c.in-Ok.ensures c.in-AnyOf.is)) f q e).parts in rw (sym h.is) (c.fill_parts-in-AnyOf.ensures h.first h.second h.middle q h.first_read h.second_read)

pub fill_parts-put_node-requires : goal.fill_parts-put_node-requires
unfolding Small
fill_parts-put_node-requires t c =
    let room = c.requires in
    let first = (c.fill_formula-first.ensures room.first room.middle room.first_read).0 in
    let second = (second_written _ _ c.args.left c.args.from room.first room.second c.args.at room.middle room.next room.first_read room.second_read _ _ _ _ first c.fill_formula-second.ensures).0 in
    (omega (arith, join_room _ _ _ _ c.requires), size_small _ _ _ _ c.requires second)

pub fill_parts-returns : goal.fill_parts-returns
fill_parts-returns t c f g m q e₁ e₂ =
    laid_parts _ _ c.args.left c.args.from f g c.args.at m q e₁ e₂ c.args.all _ _ _ _ _ _ c.fill_formula-first.ensures c.fill_formula-second.ensures c.put_node.ensures
