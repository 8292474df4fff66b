-- `verifier::memo::remember` meets its contract: four stores, and the words of the set behind them. Assumes nothing.
use Rattle.verifier.proofs.MemoLaws.{slot_stored}
use Rattle.verifier.proofs.memo.remember.Goals as goal

pub returns : goal.returns
returns c = slot_stored _ _ _ c.args.slot c.put.ensures
