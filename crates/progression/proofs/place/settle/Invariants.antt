-- `progression::place::settle` meets its contract. The loop's invariant: the program settles where it settles from node i on. The measure is what is left of the nodes.
-- Assumes nothing.
use Prim.Native.Nat.{◌-◌}
use mathlib.Core.Path.{◌≡◌}
use Rattle.states.specs.Sets.{of_words}
use Rattle.routine.specs.Memory.{node_most, node_at}
use Rattle.progression.specs.Machine.{known_by, holds_at, settled}
use Rattle.progression.proofs.MachineLaws.{goes_to}
use Rattle.progression.proofs.place.settle.Given as goal

abbrev pub invariant-loop-i : goal.invariant-loop-i
invariant-loop-i l = settled l.nodes l.sets (of_words l.words) l.at ≡ goes_to (node_at l.nodes) (holds_at l.nodes (known_by l.sets (of_words l.words))) l.i

abbrev pub decreases-loop-i : goal.decreases-loop-i
decreases-loop-i l = node_most - l.i
