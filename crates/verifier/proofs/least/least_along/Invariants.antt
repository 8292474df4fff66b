-- `verifier::least::least_along` meets its contract. The loop's invariant: what is shown up to place k with what the least run shows from there on is the whole, and the other bytes are as they were. The measure is the entries that are left. Assumes nothing.
use Rattle.std.proofs.Common.{◌-◌, ◌≤◌, length}
use Rattle.verifier.proofs.FeasibleLaws.{At}
use Rattle.verifier.proofs.least.least_along.Given as goal

abbrev pub invariant-loop-k : goal.invariant-loop-k
invariant-loop-k l = (l.k ≤ length l.path) × At l.heads l.sets l.path (length l.path) l.initial.shown l.initial.s l.shown l.k l.s

abbrev pub decreases-loop-k : goal.decreases-loop-k
decreases-loop-k l = length l.path - l.k
