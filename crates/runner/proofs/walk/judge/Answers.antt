-- `walk::judge` meets its contract: the head of the action tells how many replies it has, and the pass whether it is possible. Assumes nothing.
use Rattle.runner.proofs.StandLaws.{no_reply, impossible, possible}
use Rattle.runner.proofs.walk.judge.Goals as goal

pub returns-then-head-reply : goal.returns-then-head-reply
returns-then-head-reply c = no_reply _ _ _ _ _ _ c.head_at-head.ensures.0 c.if-head-reply.true

pub returns-then-passed : goal.returns-then-passed
returns-then-passed c = possible _ _ _ _ _ _ c.head_at-head.ensures.0 c.if-head-reply.false _ c.pass-passed.ensures c.if-passed.true

pub returns : goal.returns
returns c = impossible _ _ _ _ _ _ c.head_at-head.ensures.0 c.if-head-reply.false _ c.pass-passed.ensures c.if-passed.false
