-- `Begun::settled` meets its contract. The loop copies what is kept, byte by byte. Assumes nothing.
use Rattle.std.proofs.Common.{◌≡◌, ◌-◌, ◌≤◌}
use Rattle.release.specs.Framing.{first_of, most_begun}
use Rattle.release.proofs.framing.Begun.settled.Given as goal

abbrev pub invariant-loop-i : goal.invariant-loop-i
invariant-loop-i l = (l.i ≤ l.kept) × (l.bytes ≡ first_of most_begun (first_of l.i l.from))

abbrev pub decreases-loop-i : goal.decreases-loop-i
decreases-loop-i l = l.kept - l.i
