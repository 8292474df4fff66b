-- The loop's invariant of `read_input`: the state is that of a stream, and the tables and the memory keep their lengths. The measure is what is left to read at most.
use Rattle.std.proofs.Common.{◌≡◌, length}
use Rattle.planfigures.specs.Input.{Reached}
use Rattle.planfigures.proofs.EndLaws.{to_read}
use Rattle.planfigures.proofs.read_input.Given as goal

abbrev pub invariant-loop-stdin : goal.invariant-loop-stdin
invariant-loop-stdin l = (length l.memory ≡ length l.fn.memory) × Reached l.state

abbrev pub decreases-loop-stdin : goal.decreases-loop-stdin
decreases-loop-stdin l = to_read l.state
