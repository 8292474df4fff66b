-- The loop's invariant of `read_input`: what was read lies within the slice. The measure is the room that is left.
use Rattle.std.proofs.Common.{◌≤◌, ◌-◌, length}
use Rattle.planverify.proofs.read_input.Given as goal

abbrev pub invariant-loop-n : goal.invariant-loop-n
invariant-loop-n l = l.done ≤ length l.sheet

abbrev pub decreases-loop-n : goal.decreases-loop-n
decreases-loop-n l = length l.sheet - l.done
