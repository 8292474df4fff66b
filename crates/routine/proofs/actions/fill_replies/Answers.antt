-- `routine::actions::fill_replies` meets its contract. The loop's invariant: the replies from i on stand at `p`, and if their tables are written where they are left to be, all are. The measure is the replies that are left. Assumes nothing.
use native.Mathlib.Omega.{arith}
use Rattle.reader.specs.Answers.{in_theory}
use Rattle.reader.specs.Answers as read
use Rattle.routine.proofs.EvaluatedLaws.{found, never_refused}
use Rattle.routine.proofs.ActionLaws.{replies_here, replies_last}
use Rattle.routine.proofs.actions.fill_replies.Goals as goal

pub returns-in_default : goal.returns-in_default
unfolding read.found in_theory
returns-in_default c = λ fs q h l.
    let x = replies_here _ _ _ _ _ _ fs c.loop-i-test.true (c.loop-i.invariant.1 fs q h l) in
    never_refused _ _ _ _ c.in_default.ensures x.0 x.1 x.2

pub loop-i-preserved : goal.loop-i-preserved
unfolding read.found in_theory
loop-i-preserved c = let l = c.loop-i in (
  omega arith,
  λ fs q h e.
      let x = replies_here _ _ _ _ _ _ fs c.loop-i-test.true (l.invariant.1 fs q h e) in
      x.3 _ _ _ (found _ _ _ _ c.in-Ok.ensures x.0 x.1 x.2) c.put_set.ensures,
)

pub returns : goal.returns
returns c = λ fs q h l. replies_last _ _ _ _ _ _ fs c.loop-i-test.false (c.loop-i.invariant.1 fs q h l)
