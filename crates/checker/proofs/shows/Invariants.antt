-- `checker::shows` meets its contract. The loop's invariant: the whole trace shows what the bytes that are left show from the set, the node and the run's own state reached.
-- The measure is the number of bytes that are left. Assumes nothing.
use Prim.Native.Nat.{◌%◌}
use mathlib.Core.Path.{◌≡◌}
use lib.ListN.{length}
use Rattle.checker.specs.Shown.{shows_from}
use Rattle.checker.proofs.shows.Given as goal

abbrev pub invariant-loop-rest : goal.invariant-loop-rest
invariant-loop-rest l = (length l.rest % 2 ≡ length l.initial.rest % 2)
    × (shows_from l.heads l.nodes l.sets l.initial.set l.initial.at l.initial.own l.initial.rest ≡ shows_from l.heads l.nodes l.sets l.set l.at l.own l.rest)

abbrev pub decreases-loop-rest : goal.decreases-loop-rest
decreases-loop-rest l = length l.rest
