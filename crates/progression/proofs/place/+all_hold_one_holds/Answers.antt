-- `progression::place::all_hold` and `one_holds` meet their contracts. Each loop's invariant: the parts from the first node on hold as those from node i on. The measure
-- of the recursion is the levels left. Assumes nothing.
use Prim.Native.Nat.{ℕ, ◌<◌}
use mathlib.Core.Path.{◌≡◌, sym, subst, ◌∙◌}
use mathlib.Core.Bool.{Bool}
use native.Mathlib.Omega.{arith}
use Rattle.routine.specs.declared.memory.Node.{Node}
use Rattle.routine.specs.Memory.{Small}
use Rattle.progression.proofs.MachineLaws.{parts_none, parts_to_law, atom_decides, atom_passes, alike_passes, other_decides, other_passes, none_stands, none_left, join_inside}
use borrow.Enum.Refused.{opened}
use Rattle.progression.proofs.place.+all_hold_one_holds.Goals as goal

-- The size of a part's parts is small.
small : (x : Node) (both : Bool) (inner : ℕ) → x ≡ Node.Join both inner → Small x → inner < 65536
unfolding Small
small x both inner e s = subst Small e s

pub all_hold-returns-then-left-eq0 : goal.all_hold-returns-then-left-eq0
all_hold-returns-then-left-eq0 t c = parts_none _ _ _ _ _ _ c.if-left-eq0.true

pub all_hold-loop-i-init : goal.all_hold-loop-i-init
all_hold-loop-i-init t c = parts_to_law _ _ _ _ _ _ (omega arith)

pub all_hold-returns-then-not-atom_holds : goal.all_hold-returns-then-not-atom_holds
all_hold-returns-then-not-atom_holds t c = sym (c.loop-i.invariant ∙ atom_decides _ _ _ _ _ c.loop-i.i (omega arith) _ _ (sym c.in-Atom.is ∙ c.node_at.ensures.0) _ c.atom_holds.ensures (c.if-not-atom_holds.true))

pub all_hold-loop-i-preserved-in-Atom : goal.all_hold-loop-i-preserved-in-Atom
all_hold-loop-i-preserved-in-Atom t c = c.loop-i.invariant ∙ atom_passes _ _ _ _ _ c.loop-i.i (omega arith) _ _ (sym c.in-Atom.is ∙ c.node_at.ensures.0) _ c.atom_holds.ensures (c.if-not-atom_holds.false)

pub all_hold-overflow_add-i-then-not-all : goal.all_hold-overflow_add-i-then-not-all
all_hold-overflow_add-i-then-not-all t c = omega (arith, join_inside _ _ _ _ (sym c.in-Join.is ∙ c.node_at.ensures.0), small _ _ _ c.in-Join.is c.node_at.ensures.1)

pub all_hold-returns-then-not-one_holds : goal.all_hold-returns-then-not-one_holds
all_hold-returns-then-not-one_holds t c = sym (c.loop-i.invariant ∙ other_decides _ _ _ _ _ c.loop-i.i (omega arith) _ _ _ (sym c.in-Join.is ∙ c.node_at.ensures.0) (c.if-not-all.true) c.lesser-stop.ensures _ c.one_holds.ensures (c.if-not-one_holds.true))

pub all_hold-overflow_add-i-then-not-all-2 : goal.all_hold-overflow_add-i-then-not-all-2
all_hold-overflow_add-i-then-not-all-2 t c = omega (arith, join_inside _ _ _ _ (sym c.in-Join.is ∙ c.node_at.ensures.0), small _ _ _ c.in-Join.is c.node_at.ensures.1)

pub all_hold-loop-i-preserved-then-not-all : goal.all_hold-loop-i-preserved-then-not-all
all_hold-loop-i-preserved-then-not-all t c = c.loop-i.invariant ∙ other_passes _ _ _ _ _ c.loop-i.i (omega arith) _ _ _ (sym c.in-Join.is ∙ c.node_at.ensures.0) (c.if-not-all.true) c.lesser-stop.ensures _ c.one_holds.ensures (c.if-not-one_holds.false)

pub all_hold-loop-i-preserved : goal.all_hold-loop-i-preserved
all_hold-loop-i-preserved t c = c.loop-i.invariant ∙ alike_passes _ _ _ _ _ c.loop-i.i (omega arith) _ _ (sym c.in-Join.is ∙ c.node_at.ensures.0) (c.if-not-all.false)

pub all_hold-returns-in_default : goal.all_hold-returns-in_default
all_hold-returns-in_default t c = sym (c.loop-i.invariant ∙ none_stands _ _ _ _ _ c.loop-i.i (omega arith) _ c.node_at.ensures.0 (opened c.in_default.in_default-own.keys3))

pub all_hold-returns : goal.all_hold-returns
all_hold-returns t c = sym (c.loop-i.invariant ∙ none_left _ _ _ _ _ c.loop-i.i (omega arith))

pub one_holds-returns-then-left-eq0 : goal.one_holds-returns-then-left-eq0
one_holds-returns-then-left-eq0 t c = parts_none _ _ _ _ _ _ c.if-left-eq0.true

pub one_holds-loop-i-init : goal.one_holds-loop-i-init
one_holds-loop-i-init t c = parts_to_law _ _ _ _ _ _ (omega arith)

pub one_holds-returns-then-atom_holds : goal.one_holds-returns-then-atom_holds
one_holds-returns-then-atom_holds t c = sym (c.loop-i.invariant ∙ atom_decides _ _ _ _ _ c.loop-i.i (omega arith) _ _ (sym c.in-Atom.is ∙ c.node_at.ensures.0) _ c.atom_holds.ensures c.if-atom_holds.true)

pub one_holds-loop-i-preserved-in-Atom : goal.one_holds-loop-i-preserved-in-Atom
one_holds-loop-i-preserved-in-Atom t c = c.loop-i.invariant ∙ atom_passes _ _ _ _ _ c.loop-i.i (omega arith) _ _ (sym c.in-Atom.is ∙ c.node_at.ensures.0) _ c.atom_holds.ensures c.if-atom_holds.false

pub one_holds-overflow_add-i-then-all : goal.one_holds-overflow_add-i-then-all
one_holds-overflow_add-i-then-all t c = omega (arith, join_inside _ _ _ _ (sym c.in-Join.is ∙ c.node_at.ensures.0), small _ _ _ c.in-Join.is c.node_at.ensures.1)

pub one_holds-returns-then-all_hold : goal.one_holds-returns-then-all_hold
one_holds-returns-then-all_hold t c = sym (c.loop-i.invariant ∙ other_decides _ _ _ _ _ c.loop-i.i (omega arith) _ _ _ (sym c.in-Join.is ∙ c.node_at.ensures.0) c.if-all.true c.lesser-stop.ensures _ c.all_hold.ensures c.if-all_hold.true)

pub one_holds-overflow_add-i-then-all-2 : goal.one_holds-overflow_add-i-then-all-2
one_holds-overflow_add-i-then-all-2 t c = omega (arith, join_inside _ _ _ _ (sym c.in-Join.is ∙ c.node_at.ensures.0), small _ _ _ c.in-Join.is c.node_at.ensures.1)

pub one_holds-loop-i-preserved-then-all : goal.one_holds-loop-i-preserved-then-all
one_holds-loop-i-preserved-then-all t c = c.loop-i.invariant ∙ other_passes _ _ _ _ _ c.loop-i.i (omega arith) _ _ _ (sym c.in-Join.is ∙ c.node_at.ensures.0) c.if-all.true c.lesser-stop.ensures _ c.all_hold.ensures c.if-all_hold.false

pub one_holds-loop-i-preserved : goal.one_holds-loop-i-preserved
one_holds-loop-i-preserved t c = c.loop-i.invariant ∙ alike_passes _ _ _ _ _ c.loop-i.i (omega arith) _ _ (sym c.in-Join.is ∙ c.node_at.ensures.0) c.if-all.false

pub one_holds-returns-in_default : goal.one_holds-returns-in_default
one_holds-returns-in_default t c = sym (c.loop-i.invariant ∙ none_stands _ _ _ _ _ c.loop-i.i (omega arith) _ c.node_at.ensures.0 (opened c.in_default.in_default-own.keys3))

pub one_holds-returns : goal.one_holds-returns
one_holds-returns t c = sym (c.loop-i.invariant ∙ none_left _ _ _ _ _ c.loop-i.i (omega arith))
