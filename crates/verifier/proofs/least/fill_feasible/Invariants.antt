-- `verifier::least::fill_feasible` meets its contract. The loop's invariant: what is left is the path's first bytes, the feasible sets behind them are written, and the set is that behind the last of them.
-- The measure is the number of bytes that are left. Assumes nothing.
use Rattle.std.proofs.Common.{◌≡◌, ◌≤◌, length, take}
use Rattle.verifier.specs.Least.{FeasibleFrom}
use Rattle.verifier.proofs.FeasibleLaws.{rest}
use Rattle.verifier.proofs.least.fill_feasible.Given as goal

abbrev pub invariant-loop-rest : goal.invariant-loop-rest
invariant-loop-rest l = (length l.rest ≤ length l.path) × (l.rest ≡ take (length l.rest) l.path) × (length l.feasible ≡ 260)
    × FeasibleFrom l.heads l.sets l.path (length l.path) (length l.rest) l.feasible × (l.set ≡ rest l.heads l.sets l.path (length l.path) (length l.rest))

abbrev pub decreases-loop-rest : goal.decreases-loop-rest
decreases-loop-rest l = length l.rest
