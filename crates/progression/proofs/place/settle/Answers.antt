-- `progression::place::settle` meets its contract. The loop's invariant: the program settles where it settles from node i on. The measure is what is left of the nodes.
-- Assumes nothing.
use Prim.Native.Nat.{◌<◌}
use mathlib.Core.Path.{sym, ap, subst, ◌∙◌}
use mathlib.Core.Bool.{true, false}
use mathlib.Core.Logic.{inl, inr}
use native.Mathlib.Omega.{arith}
use Rattle.states.specs.declared.States.{States}
use Rattle.states.specs.Sets.{of_words}
use Rattle.states.proofs.SetLaws.{words_back}
use Rattle.routine.specs.declared.memory.Node.{Node}
use Rattle.routine.specs.Memory.{Small}
use Rattle.progression.specs.declared.place.Place.{Place}
use Rattle.progression.specs.Machine.{known_by, holds_at, at_node, settled, Inside}
use Rattle.progression.proofs.MachineLaws.{goes_by, goes_branch, goes_past, settled_goes, at_end, AskedFor, branch_asks, end_asks}
use borrow.Enum.Refused.{opened}
use Rattle.progression.proofs.place.settle.Goals as goal
use Rattle.progression.proofs.place.settle.Goals.{in-Branch, in_default-node}

pub loop-i-init : goal.loop-i-init
loop-i-init c = settled_goes _ _ _ _

pub returns-in-Act : goal.returns-in-Act
unfolding Inside Small at_node
returns-in-Act c =
    let of_set = ap (λ (s : States). settled c.args.nodes.now c.args.sets.now s c.args.at) (ap of_words c.words-words.ensures ∙ words_back c.args.set) in
    (sym (c.loop-i.invariant ∙ goes_by _ _ c.loop-i.i (omega arith) (Node.Act _ _) (sym c.in-Act.is ∙ c.node_at-node.ensures.0)) ∙ of_set, (omega arith, (subst Small c.in-Act.is c.node_at-node.ensures.1).0))

pub overflow_add-i-in-Jump : goal.overflow_add-i-in-Jump
unfolding Small
overflow_add-i-in-Jump c = let s : c.in-Jump.skip < 65536 = subst Small c.in-Jump.is c.node_at-node.ensures.1 in omega arith

pub loop-i-preserved-in-Jump : goal.loop-i-preserved-in-Jump
unfolding at_node
loop-i-preserved-in-Jump c = c.loop-i.invariant ∙ goes_by _ _ c.loop-i.i (omega arith) (Node.Jump _) (sym c.in-Jump.is ∙ c.node_at-node.ensures.0)

pub returns-in_default-node-2 : goal.returns-in_default-node-2
unfolding Inside
returns-in_default-node-2 c =
    let asked : AskedFor c.node_at-node.result c.match-node-2.node c.loop-i.i c.match-node-2.asked =
    elim c.match-node-2.branch [
      | in-Branch w ↦ inl (w.in-Branch.met, w.in-Branch.unmet, w.in-Branch.is, w.node-is, w.asked-is)
      | in_default-node w ↦ inr (opened w.in_default-node.in_default-node-own.keys2, w.node-is, w.asked-is)
    ] in
    let of_set = ap (λ (s : States). settled c.args.nodes.now c.args.sets.now s c.args.at) (ap of_words c.words-words.ensures ∙ words_back c.args.set) in
    let a = c.args in
    let end = end_asks _ _ _ _ asked (opened c.in_default.in_default-own.keys3) (opened c.in_default-node-2.in_default-node-2-own.keys2) in (
      ap Place.End (c.formula_holds-holds.ensures ∙ ap (holds_at a.nodes.now (known_by a.sets.now (of_words c.words-words.result))) end.1)
          ∙ sym (c.loop-i.invariant ∙ goes_by _ _ c.loop-i.i (omega arith) _ c.node_at-node.ensures.0 ∙ at_end _ _ c.loop-i.i _ end.0)
          ∙ of_set,
      tt,
    )

pub overflow_add-i-then-holds-2 : goal.overflow_add-i-then-holds-2
unfolding Small
overflow_add-i-then-holds-2 c =
    let asked : AskedFor c.node_at-node.result c.match-node-2.node c.loop-i.i c.match-node-2.asked =
    elim c.match-node-2.branch [
      | in-Branch w ↦ inl (w.in-Branch.met, w.in-Branch.unmet, w.in-Branch.is, w.node-is, w.asked-is)
      | in_default-node w ↦ inr (opened w.in_default-node.in_default-node-own.keys2, w.node-is, w.asked-is)
    ] in
    let branched = branch_asks _ _ _ _ _ _ asked c.in-Branch-node.is in
    let small : (c.in-Branch-node.met < 65536) × (c.in-Branch-node.unmet < 65536) = subst Small (sym branched.0) c.node_at-node.ensures.1 in
    omega (arith, small)

pub loop-i-preserved-then-holds : goal.loop-i-preserved-then-holds
loop-i-preserved-then-holds c =
    let asked : AskedFor c.node_at-node.result c.match-node-2.node c.loop-i.i c.match-node-2.asked =
    elim c.match-node-2.branch [
      | in-Branch w ↦ inl (w.in-Branch.met, w.in-Branch.unmet, w.in-Branch.is, w.node-is, w.asked-is)
      | in_default-node w ↦ inr (opened w.in_default-node.in_default-node-own.keys2, w.node-is, w.asked-is)
    ] in
    let branched = branch_asks _ _ _ _ _ _ asked c.in-Branch-node.is in
    let told = c.formula_holds-holds.ensures ∙ ap (holds_at c.args.nodes.now (known_by c.args.sets.now (of_words c.words-words.result))) branched.1 in
    c.loop-i.invariant ∙ goes_branch _ _ c.loop-i.i (omega arith) _ _ (branched.0 ∙ c.node_at-node.ensures.0) true (sym c.if-holds.true ∙ told)

pub overflow_add-i-else-holds-2 : goal.overflow_add-i-else-holds-2
unfolding Small
overflow_add-i-else-holds-2 c =
    let asked : AskedFor c.node_at-node.result c.match-node-2.node c.loop-i.i c.match-node-2.asked =
    elim c.match-node-2.branch [
      | in-Branch w ↦ inl (w.in-Branch.met, w.in-Branch.unmet, w.in-Branch.is, w.node-is, w.asked-is)
      | in_default-node w ↦ inr (opened w.in_default-node.in_default-node-own.keys2, w.node-is, w.asked-is)
    ] in
    let branched = branch_asks _ _ _ _ _ _ asked c.in-Branch-node.is in
    let small : (c.in-Branch-node.met < 65536) × (c.in-Branch-node.unmet < 65536) = subst Small (sym branched.0) c.node_at-node.ensures.1 in
    omega (arith, small)

pub loop-i-preserved : goal.loop-i-preserved
loop-i-preserved c =
    let asked : AskedFor c.node_at-node.result c.match-node-2.node c.loop-i.i c.match-node-2.asked =
    elim c.match-node-2.branch [
      | in-Branch w ↦ inl (w.in-Branch.met, w.in-Branch.unmet, w.in-Branch.is, w.node-is, w.asked-is)
      | in_default-node w ↦ inr (opened w.in_default-node.in_default-node-own.keys2, w.node-is, w.asked-is)
    ] in
    let branched = branch_asks _ _ _ _ _ _ asked c.in-Branch-node.is in
    let told = c.formula_holds-holds.ensures ∙ ap (holds_at c.args.nodes.now (known_by c.args.sets.now (of_words c.words-words.result))) branched.1 in
    c.loop-i.invariant ∙ goes_branch _ _ c.loop-i.i (omega arith) _ _ (branched.0 ∙ c.node_at-node.ensures.0) false (sym c.if-holds.false ∙ told)

pub returns : goal.returns
unfolding Inside
returns c =
    let of_set = ap (λ (s : States). settled c.args.nodes.now c.args.sets.now s c.args.at) (ap of_words c.words-words.ensures ∙ words_back c.args.set) in
    (sym (c.loop-i.invariant ∙ goes_past _ _ c.loop-i.i (omega arith)) ∙ of_set, tt)
