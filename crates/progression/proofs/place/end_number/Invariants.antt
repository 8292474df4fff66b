-- `place::end_number` meets its contract. The loop's invariant: what the nodes that are left say is what all say. Assumes nothing.
use Prim.Native.Nat.{◌-◌}
use mathlib.Core.Path.{◌≡◌}
use Rattle.routine.specs.Memory.{node_most, node_at}
use Rattle.progression.specs.Machine.{end_from, end_number}
use Rattle.progression.proofs.place.end_number.Given as goal

abbrev pub invariant-loop-i : goal.invariant-loop-i
invariant-loop-i l = end_number l.nodes ≡ end_from (node_at l.nodes) (node_most - l.i) l.i
