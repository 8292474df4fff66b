-- `routine::actions::fill_actions` meets its contract. The loop's invariant: the actions from `a` on stand at `p`, and if their sets and their heads are written where they are left to be, all are. The measure is the actions that are left. Assumes nothing.
use Prim.Native.Nat.{ℕ, ◌-◌, ◌≤◌}
use mathlib.Core.Path.{◌≡◌}
use mathlib.Core.List.{List}
use lib.ListN.{length}
use Rattle.format.specs.Syntax.{Action}
use Rattle.format.specs.Standing.{ActionsAt}
use Rattle.routine.proofs.ActionLaws.{ActionsLeft}
use Rattle.routine.proofs.actions.fill_actions.Given as goal

abbrev pub invariant-loop-a : goal.invariant-loop-a
invariant-loop-a l = (l.a ≤ l.count)
    × ((actions : List Action) (q : ℕ) → ActionsAt l.packed l.n actions l.at q → length actions ≡ l.count → ActionsLeft l.packed l.n l.space l.count l.initial.heads l.heads l.initial.sets l.sets l.p q l.k l.a actions)

abbrev pub decreases-loop-a : goal.decreases-loop-a
decreases-loop-a l = l.count - l.a
