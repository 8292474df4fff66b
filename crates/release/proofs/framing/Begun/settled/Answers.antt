-- `Begun::settled` meets its contract. The loop copies what is kept, byte by byte. Assumes nothing.
use Rattle.std.proofs.Common.{arith}
use Rattle.release.specs.Framing.{most_begun}
use Rattle.release.proofs.FillLaws.{lesser_is, copy_start, copy_next, settled_is}
use Rattle.release.proofs.framing.Begun.settled.Goals as goal

pub loop-i-init : goal.loop-i-init
loop-i-init c = (omega arith, copy_start most_begun _)

pub loop-i-preserved : goal.loop-i-preserved
loop-i-preserved c = (omega arith, copy_next most_begun _ _ _ c.loop-i.invariant.1)

pub returns : goal.returns
returns c = let l = c in
    let s = l in
    settled_is s.args.self _ _ _ _ _ s.size-size.ensures.0 (lesser_is _ _ _ l.lesser-held.ensures) (lesser_is _ _ _ l.lesser-kept.ensures) (omega (arith, c.loop-i-test.false, c.loop-i.invariant.0)) c.loop-i.invariant.1
