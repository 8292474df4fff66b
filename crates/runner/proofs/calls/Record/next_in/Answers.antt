-- `Record::next_in` meets its contract: what is told where the record's replies lead. Assumes nothing.
use mathlib.Core.Path.{refl}
use Rattle.runner.proofs.WalkLaws.{told_is}
use Rattle.runner.proofs.calls.Record.next_in.Goals as goal

pub returns : goal.returns
returns c = let stood = c.stand_in-walked.ensures in
    (told_is _ _ _ _ (c.told-heads, c.told-nodes, c.told-sets) _ _ _ stood.1 _ stood.0 _ c.tell-answer.ensures, refl, stood.1)
