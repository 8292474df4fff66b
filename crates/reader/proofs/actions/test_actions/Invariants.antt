-- `reader::actions::test_actions` meets its contract. The loop's invariant: the tests of the actions that are left decide as those of all. The measure is how many are left. Assumes nothing.
use Prim.Native.Nat.{ℕ, ◌-◌, ◌≤◌}
use mathlib.Core.Path.{◌≡◌}
use mathlib.Core.List.{List}
use Rattle.states.specs.Sets.{members}
use Rattle.format.specs.Syntax.{Action}
use Rattle.format.specs.Format.{got, action_list}
use Rattle.reader.proofs.TestLaws.{Left}
use Rattle.reader.proofs.actions.test_actions.Given as goal

abbrev pub invariant-loop-i : goal.invariant-loop-i
invariant-loop-i l = (l.i ≤ l.k) × ((actions : List Action) (end : ℕ) → action_list l.n l.k l.packed l.at ≡ got actions end → Left (members l.space) l.n l.packed actions end l.p (l.k - l.i))

abbrev pub decreases-loop-i : goal.decreases-loop-i
decreases-loop-i l = l.k - l.i
