-- `routine::actions::fill_replies` meets its contract. The loop's invariant: the replies from i on stand at `p`, and if their tables are written where they are left to be, all are. The measure is the replies that are left. Assumes nothing.
use Prim.Native.Nat.{ℕ, ◌-◌, ◌≤◌}
use mathlib.Core.Path.{◌≡◌}
use mathlib.Core.List.{List}
use lib.ListN.{length}
use Rattle.format.specs.Syntax.{Objective}
use Rattle.format.specs.Standing.{RepliesAt}
use Rattle.routine.proofs.ActionLaws.{RepliesLeft}
use Rattle.routine.proofs.actions.fill_replies.Given as goal

abbrev pub invariant-loop-i : goal.invariant-loop-i
invariant-loop-i l = (l.i ≤ l.m) × ((fs : List Objective) (q : ℕ) → RepliesAt l.packed l.n fs l.at q → length fs ≡ l.m → RepliesLeft l.packed l.n l.m l.k l.initial.sets l.sets l.p q l.i fs)

abbrev pub decreases-loop-i : goal.decreases-loop-i
decreases-loop-i l = l.m - l.i
