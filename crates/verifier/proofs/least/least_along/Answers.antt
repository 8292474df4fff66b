-- `verifier::least::least_along` meets its contract. The loop's invariant: what is shown up to place k with what the least run shows from there on is the whole, and the other bytes are as they were. The measure is the entries that are left. Assumes nothing.
use Rattle.std.proofs.Common.{◌≡◌, ◌+◌, length, refl, ◌∙◌, arith, length-set}
use Rattle.routine.proofs.MemoryLaws.{set_in}
use Rattle.verifier.proofs.FeasibleLaws.{filled_is, at_more, shown_all}
use Rattle.verifier.proofs.least.least_along.Goals as goal

pub loop-k-preserved : goal.loop-k-preserved
loop-k-preserved c = let s = c in
    let a = s.args in
    let l = c.loop-k in
    let more = c.loop-k-test.true in
    let n : length l.shown ≡ length a.shown.now = l.invariant.1.size ∙ length-set a.shown.now 0 c.least-s.result in
    let w = filled_is a.heads.now a.sets.now a.path.now (length a.path.now) a.feasible.now (l.k + 1) _ s.requires.2 (omega (arith, more)) (c.at-later.ensures ∙ set_in _ _ (omega (arith, more, s.requires.0))) in (
      omega (arith, more),
      at_more a.heads.now a.sets.now a.path.now (length a.path.now) _ _ l.shown l.k l.s _ _ _ _ _ _ _ more (omega (arith, n, more, s.requires.0, s.requires.1))
          refl refl c.one.ensures c.step-after.ensures w c.intersect-in-loop-k.ensures c.least-s-in-loop-k.ensures l.invariant.1,
    )

pub returns : goal.returns
returns c = let s = c in
    let a = s.args in
    let l = c.loop-k in
    let n : length l.shown ≡ length a.shown.now = l.invariant.1.size ∙ length-set a.shown.now 0 c.least-s.result in
    let w = filled_is a.heads.now a.sets.now a.path.now (length a.path.now) a.feasible.now 0 _ s.requires.2 (omega arith) (c.at.ensures ∙ set_in _ 0 (omega arith)) in
    shown_all a.heads.now a.sets.now a.path.now (length a.path.now) a.start _ _ a.shown.now l.shown _ l.k l.s (omega (arith, s.requires.1)) (omega (arith, n, s.requires.0, s.requires.1)) (omega arith) w
    c.intersect.ensures c.least-s.ensures l.invariant.1
