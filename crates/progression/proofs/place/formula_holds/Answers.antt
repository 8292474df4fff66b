-- `progression::place::formula_holds` meets its contract: by the law of the node that stands there. Assumes nothing.
use Prim.Native.Nat.{◌<◌}
use mathlib.Core.Path.{sym, subst, ◌∙◌}
use native.Mathlib.Omega.{arith}
use Rattle.routine.specs.Memory.{Small, node_most}
use Rattle.progression.proofs.MachineLaws.{atom_holds_law, parts_told, join_inside, no_formula}
use borrow.Enum.Refused.{opened}
use Rattle.progression.proofs.place.formula_holds.Goals as goal

pub overflow_add-at : goal.overflow_add-at
unfolding Small
overflow_add-at c = let inside : (c.args.at < node_most) × (c.in-Join.size < 65536) = (join_inside _ _ _ _ (sym c.in-Join.is ∙ c.node_at.ensures.0), subst Small c.in-Join.is c.node_at.ensures.1) in omega (arith, inside)

pub overflow_add-at-then-all : goal.overflow_add-at-then-all
unfolding Small
overflow_add-at-then-all c = let inside : (c.args.at < node_most) × (c.in-Join.size < 65536) = (join_inside _ _ _ _ (sym c.in-Join.is ∙ c.node_at.ensures.0), subst Small c.in-Join.is c.node_at.ensures.1) in omega (arith, inside)

pub overflow_add-at-then-all-2 : goal.overflow_add-at-then-all-2
unfolding Small
overflow_add-at-then-all-2 c = let inside : (c.args.at < node_most) × (c.in-Join.size < 65536) = (join_inside _ _ _ _ (sym c.in-Join.is ∙ c.node_at.ensures.0), subst Small c.in-Join.is c.node_at.ensures.1) in omega (arith, inside)

pub returns-then-all : goal.returns-then-all
returns-then-all c = c.all_hold.ensures
    ∙ parts_told _ _ _ _ _ (sym c.in-Join.is ∙ c.node_at.ensures.0) _ (sym c.if-all.true)

pub overflow_add-at-in-Join : goal.overflow_add-at-in-Join
unfolding Small
overflow_add-at-in-Join c = let inside : (c.args.at < node_most) × (c.in-Join.size < 65536) = (join_inside _ _ _ _ (sym c.in-Join.is ∙ c.node_at.ensures.0), subst Small c.in-Join.is c.node_at.ensures.1) in omega (arith, inside)

pub overflow_add-at-in-Join-2 : goal.overflow_add-at-in-Join-2
unfolding Small
overflow_add-at-in-Join-2 c = let inside : (c.args.at < node_most) × (c.in-Join.size < 65536) = (join_inside _ _ _ _ (sym c.in-Join.is ∙ c.node_at.ensures.0), subst Small c.in-Join.is c.node_at.ensures.1) in omega (arith, inside)

pub overflow_add-at-in-Join-3 : goal.overflow_add-at-in-Join-3
unfolding Small
overflow_add-at-in-Join-3 c = let inside : (c.args.at < node_most) × (c.in-Join.size < 65536) = (join_inside _ _ _ _ (sym c.in-Join.is ∙ c.node_at.ensures.0), subst Small c.in-Join.is c.node_at.ensures.1) in omega (arith, inside)

pub returns-in-Atom : goal.returns-in-Atom
returns-in-Atom c = c.atom_holds.ensures ∙ atom_holds_law _ _ _ _ _ (sym c.in-Atom.is ∙ c.node_at.ensures.0)

pub returns-else-all : goal.returns-else-all
returns-else-all c = c.one_holds.ensures
    ∙ parts_told _ _ _ _ _ (sym c.in-Join.is ∙ c.node_at.ensures.0) _ (sym c.if-all.false)

pub returns-in_default : goal.returns-in_default
returns-in_default c = no_formula _ _ _ _ c.node_at.ensures.0 (opened c.in_default.in_default-own.keys3)
