-- `Record::next` meets its contract. Assumes nothing.
use Rattle.runner.proofs.calls.Record.next.Goals as goal

pub returns : goal.returns
returns c = let next = c.next_in.ensures in (next.0, next.1)
