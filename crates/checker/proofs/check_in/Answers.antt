-- `checker::check_in` meets its contract: the sheet is prepared in the lent tables, and the trace is judged by them. Assumes nothing.
use Rattle.reader.specs.Answers as read
use Rattle.checker.specs.Answers.{answer_of}
use Rattle.checker.proofs.CheckLaws.{refused_checked, ready_checked}
use Rattle.checker.proofs.check_in.Goals as goal

pub returns-in-Err : goal.returns-in-Err
unfolding answer_of read.answer_of
returns-in-Err c = let p = c.in-Err.ensures in (refused_checked _ _ _ p.0, p.1)

pub returns-in-Ok : goal.returns-in-Ok
unfolding answer_of read.answer_of
returns-in-Ok c = let p = c.in-Ok.ensures in (ready_checked _ _ _ p.0 _ _ _ _ _ _ p.1 _ c.shows.ensures (c.told-heads, c.told-nodes, c.told-sets), p.1)
