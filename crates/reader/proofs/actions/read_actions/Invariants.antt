-- `reader::actions::read_actions` meets its contract. The loop's invariant: the actions that are left end where all of them end. The measure is how many are left. Assumes nothing.
use Prim.Native.Nat.{◌-◌, ◌≤◌}
use mathlib.Core.Path.{◌≡◌}
use Rattle.format.specs.Format.{mapped, action_list}
use Rattle.reader.specs.Method.{ending}
use Rattle.reader.proofs.actions.read_actions.Given as goal

abbrev pub invariant-loop-i : goal.invariant-loop-i
invariant-loop-i l = (l.i ≤ l.k) × (mapped ending (action_list l.n (l.k - l.i) l.packed l.p) ≡ mapped ending (action_list l.n l.k l.packed l.at))

abbrev pub decreases-loop-i : goal.decreases-loop-i
decreases-loop-i l = l.k - l.i
