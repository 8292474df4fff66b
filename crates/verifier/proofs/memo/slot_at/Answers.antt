-- `verifier::memo::slot_at` meets its contract: the eight words are those of the slot. Assumes nothing.
use Rattle.verifier.proofs.MemoLaws.{slot_with}
use Rattle.verifier.proofs.memo.slot_at.Goals as goal

pub returns : goal.returns
returns c = slot_with _ _ _ c.at.ensures
