-- `walk::walk` meets its contract: the sheet is prepared in the lent tables, and these tell where the replies lead. Assumes nothing.
use mathlib.Core.Path.{sym, ◌∙◌}
use native.Mathlib.Omega.{arith}
use Rattle.reader.specs.Answers.{answer_of}
use Rattle.runner.proofs.RecordLaws.{padded_within}
use Rattle.runner.proofs.StandLaws.{walk_refused, walk_unpadded, walk_followed}
use Rattle.runner.proofs.walk.walk.Goals as goal

pub returns-then-not-is_padded : goal.returns-then-not-is_padded
unfolding answer_of
returns-then-not-is_padded c = let p = c in
    (walk_unpadded _ _ _ _ _ _ _ c.in-Ok.ensures.0 c.told-replies _ c.is_padded.ensures (c.if-not-is_padded.true), p.prepare.ensures.1)

pub shared_ref_as_front-follow : goal.shared_ref_as_front-follow
shared_ref_as_front-follow c = omega (arith, c.told-replies, padded_within _ _ _ (sym c.is_padded.ensures ∙ c.if-not-is_padded.false))

pub returns-in-Err : goal.returns-in-Err
unfolding answer_of
returns-in-Err c = let p = c in
    (walk_refused _ _ _ _ _ _ _ c.in-Err.ensures.0, p.prepare.ensures.1)

pub returns-else-not-is_padded : goal.returns-else-not-is_padded
unfolding answer_of
returns-else-not-is_padded c = let p = c in (
  walk_followed _ _ _ _ _ _ _ c.in-Ok.ensures.0 c.told-replies _
      c.is_padded.ensures (c.if-not-is_padded.false) _ c.follow.ensures,
  p.prepare.ensures.1,
)
