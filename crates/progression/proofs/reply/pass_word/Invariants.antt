-- `progression::pass_word` meets its contract: state by state, the lowest first. Assumes nothing.
use Rattle.progression.proofs.PassLaws.{Evaluated}
use Rattle.progression.proofs.reply.pass_word.Given as goal

abbrev pub invariant-loop-left : goal.invariant-loop-left
invariant-loop-left l = Evaluated l.states l.reply l.initial.evaluations l.left l.kept l.evaluations

abbrev pub decreases-loop-left : goal.decreases-loop-left
decreases-loop-left l = l.left
