-- `routine::memory::put_cells` meets its contract: the three stores are the writing of the three numbers. Assumes nothing.
use Rattle.routine.proofs.WriteLaws.{three_stores}
use Rattle.routine.proofs.memory.put_cells.Goals as goal

pub returns : goal.returns
returns c = three_stores _ _ _ _ _
