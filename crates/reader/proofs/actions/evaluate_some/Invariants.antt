-- `reader::actions::evaluate_some` meets its contract. The loop's invariant: the set and the formulas that are left tell what all of them tell. The measure is how many are left. Assumes nothing.
use Prim.Native.Nat.{◌-◌, ◌≤◌}
use mathlib.Core.Path.{◌≡◌}
use Rattle.states.specs.Sets.{member, set_of}
use Rattle.format.specs.Format.{mapped, objectives}
use Rattle.reader.proofs.TestLaws.{joined_to}
use Rattle.reader.specs.Method.{some_holds}
use Rattle.reader.proofs.actions.evaluate_some.Given as goal

abbrev pub invariant-loop-i : goal.invariant-loop-i
invariant-loop-i l = (l.i ≤ l.m) × (l.set ≡ set_of (member l.set)) × (mapped (joined_to l.set) (objectives l.n (l.m - l.i) l.packed l.p) ≡ mapped some_holds (objectives l.n l.m l.packed l.at))

abbrev pub decreases-loop-i : goal.decreases-loop-i
decreases-loop-i l = l.m - l.i
