-- `verifier::search` meets its contract. The loop's invariant: the replies from `reply` on with the count reached give what all replies give from the beginning. The measure is the number of
-- actions that there is room for behind `depth`. What the slots of the memory say is so before and after: a slot is written where all replies have passed. Assumes nothing.
use Rattle.std.proofs.Common.{◌≡◌, ◌+◌, ◌-◌, ◌≤◌, length, take}
use Rattle.verifier.specs.Search.{searched}
use Rattle.verifier.specs.Memo.{Sound}
use Rattle.verifier.proofs.PathLaws.{replies_from}
use Rattle.verifier.proofs.search.+search.Given as goal

abbrev pub invariant-loop-reply : goal.invariant-loop-reply
invariant-loop-reply l = (l.reply ≤ l.replies) × (l.counted ≤ l.budget) × (length l.path ≡ length l.initial.path) × (take l.depth l.path ≡ take l.depth l.initial.path)
    × (replies_from l.heads l.nodes l.sets l.budget (searched l.heads l.nodes l.sets l.budget (64 - (l.depth + 1)) l.onward) l.set l.action l.replies 0 l.count
    ≡ replies_from l.heads l.nodes l.sets l.budget (searched l.heads l.nodes l.sets l.budget (64 - (l.depth + 1)) l.onward) l.set l.action l.replies l.reply l.counted)
    × Sound l.heads l.nodes l.sets l.budget l.memo

abbrev pub decreases-loop-reply : goal.decreases-loop-reply
decreases-loop-reply l = l.replies - l.reply

abbrev pub decreases-search : goal.decreases-search
decreases-search l = 64 - l.depth
