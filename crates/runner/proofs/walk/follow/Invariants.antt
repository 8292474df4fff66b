-- `walk::follow` meets its contract. The loop's invariant: all replies lead where those that are left lead from the set and the node reached. Assumes nothing.
use mathlib.Core.Path.{◌≡◌}
use lib.ListN.{drop}
use Rattle.runner.specs.Walks.{stands_from}
use Rattle.runner.proofs.walk.follow.Given as goal

abbrev pub invariant-loop-reply : goal.invariant-loop-reply
invariant-loop-reply l = stands_from l.heads l.nodes l.sets l.initial.set l.initial.at l.replies ≡ stands_from l.heads l.nodes l.sets l.set l.at (drop l.reply-index l.replies)
