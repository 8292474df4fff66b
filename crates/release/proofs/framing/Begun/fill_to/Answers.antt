-- `Begun::fill_to` meets its contract. The loop adds the bytes that are kept, one by one. Assumes nothing.
use Rattle.std.proofs.Common.{◌≡◌, ◌-◌, ◌<◌, length, ap, arith}
use Rattle.release.specs.declared.framing.Begun.{Begun}
use Rattle.release.specs.Framing.{first_of, most_begun}
use Rattle.release.specs.Filling.{gathered}
use Rattle.release.proofs.FillLaws.{lesser_is, more_step, more_end, filled_to, filled_already}
use Rattle.release.proofs.framing.Begun.fill_to.Goals as goal

pub returns-then-goal-held : goal.returns-then-goal-held
returns-then-goal-held c o e = filled_already o _ _ _ e c.if-goal-held.true

pub loop-i-preserved : goal.loop-i-preserved
loop-i-preserved c = let l = c.loop-i in
    let within : l.i - c.args.self.held < length c.args.piece.now =
    omega (arith, l.invariant.0, c.loop-i-test.true, (lesser_is _ _ _ c.lesser-kept.ensures).0, (lesser_is _ _ _ c.lesser-more.ensures).1) in
    (omega arith, omega (arith, l.invariant.0, c.loop-i-test.true), λ o s e. more_step most_begun o c.args.piece.now _ _ _ s l.invariant.0 within (l.invariant.2 o s e))

pub returns : goal.returns
returns c o e =
    let l = c.loop-i in
    let a = c.args in
    let long : a.self.held ≡ length o = unfold gathered in (ap (λ (b : Begun). b.held) e) in
    let kept : a.self.bytes ≡ first_of most_begun o = unfold gathered in (ap (λ (b : Begun). b.bytes) e) in
    filled_to o _ _ _ _ _ long c.if-goal-held.false (lesser_is _ _ _ c.lesser-more.ensures)
    (more_end most_begun o a.piece.now _ _ _ _ _ long (lesser_is _ _ _ c.lesser-more.ensures).1 (lesser_is _ _ _ c.lesser-kept.ensures) l.invariant.0 l.invariant.1 c.loop-i-test.false (l.invariant.2 o long kept))
