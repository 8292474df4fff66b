-- `routine::memory::put_head` meets its contract: the three stores are the writing of the head's numbers. Assumes nothing.
use Rattle.routine.proofs.WriteLaws.{three_stores}
use Rattle.routine.proofs.memory.put_head.Goals as goal

pub returns : goal.returns
returns c = three_stores _ _ _ _ _
