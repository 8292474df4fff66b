-- `verifier::least::meeting` meets its contract. The loop's invariant: the set has the states below s whose sets have a state of the given one. The measure is what is left of the 256 states. Assumes nothing.
use Rattle.std.proofs.Common.{◌≡◌, ◌-◌, ◌≤◌}
use Rattle.verifier.proofs.FeasibleLaws.{up_to_set, meets}
use Rattle.verifier.proofs.least.meeting.Given as goal

abbrev pub invariant-loop-s : goal.invariant-loop-s
invariant-loop-s l = (l.s ≤ 256) × (l.all ≡ up_to_set (meets l.sets l.first l.set) l.s)

abbrev pub decreases-loop-s : goal.decreases-loop-s
decreases-loop-s l = 256 - l.s
