-- `verifier::least::preimage` meets its contract: each return by the law of its case (proofs/FeasibleLaws.antt). Assumes nothing.
use Rattle.std.proofs.Common.{◌∙◌, arith}
use Rattle.verifier.proofs.FeasibleLaws.{preimage_none, preimage_rows, preimage_same}
use Rattle.verifier.proofs.least.preimage.Goals as goal

pub returns-then-head-reply : goal.returns-then-head-reply
returns-then-head-reply c = c.empty.ensures ∙ preimage_none _ _ _ _ _ _ c.head_at-head.ensures.0 c.if-head-reply.true

pub returns-then-head : goal.returns-then-head
returns-then-head c = let h = c.head_at-head in
    c.meeting.ensures ∙ preimage_rows _ _ _ _ _ h.result h.ensures.0 _ _ (omega arith) c.set_at.ensures c.intersect-answered.ensures c.if-head.true

pub returns : goal.returns
returns c = let h = c.head_at-head in
    preimage_same _ _ _ _ _ h.result h.ensures.0 _ _ (omega arith) c.set_at.ensures c.intersect-answered.ensures c.if-head.false
