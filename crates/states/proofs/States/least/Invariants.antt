-- `states::States::least` meets its contract. The loop's invariant: the least state of the set is the first from s on. The measure is what is left of the 256 states. Assumes nothing.
use Prim.Native.Nat.{◌-◌, ◌≤◌}
use mathlib.Core.Path.{◌≡◌}
use Rattle.states.specs.Sets.{members, least_of}
use Rattle.states.proofs.SetLaws.{least_from}
use Rattle.states.proofs.States.least.Given as goal

abbrev pub invariant-loop-s : goal.invariant-loop-s
invariant-loop-s l = (l.s ≤ 256) × (least_of (members l.self) ≡ least_from l.self l.s)

abbrev pub decreases-loop-s : goal.decreases-loop-s
decreases-loop-s l = 256 - l.s
