-- `verifier::search::count_passed` meets its contract: it compares what is more with what the budget leaves. Assumes nothing.
use Rattle.std.proofs.Common.{arith}
use Rattle.verifier.proofs.MemoLaws.{passed_reaching, over_reaching}
use Rattle.verifier.proofs.search.count_passed.Goals as goal

pub returns-then-left-more : goal.returns-then-left-more
returns-then-left-more c = over_reaching _ _ (omega arith)

pub returns : goal.returns
returns c = passed_reaching _ _ (omega arith)
