-- `reader::actions::test_actions` meets its contract. The loop's invariant: the tests of the actions that are left decide as those of all. The measure is how many are left. Assumes nothing.
use native.Mathlib.Omega.{arith}
use Rattle.states.specs.Sets.{members}
use Rattle.reader.specs.Answers.{answer_of}
use Rattle.reader.proofs.TestLaws.{left_all, left_more, left_fails, left_none}
use Rattle.reader.proofs.actions.test_actions.Goals as goal

pub loop-i-init : goal.loop-i-init
loop-i-init c = let a = c.args in (omega arith, λ actions end e. left_all (members a.space) a.n a.packed.now actions end a.at a.k e)

pub returns-in-Err : goal.returns-in-Err
unfolding answer_of
returns-in-Err c = λ actions end e.
    let a = c.args in
    let l = c.loop-i in
    left_fails (members a.space) a.n a.packed.now actions end (omega arith) (l.invariant.1 actions end e) _ c.test_action.ensures c.in-Err.is

pub loop-i-preserved : goal.loop-i-preserved
loop-i-preserved c = (
  omega arith,
  λ actions end e.
      let a = c.args in
      let l = c.loop-i in
      left_more (members a.space) a.n a.packed.now actions end (omega arith) (l.invariant.1 actions end e) _ c.test_action.ensures c.in-Ok.is,
)

pub returns : goal.returns
unfolding answer_of
returns c = λ actions end e.
    let a = c.args in
    let l = c.loop-i in
    left_none (members a.space) a.n a.packed.now actions end l.p a.k l.i (omega arith) (l.invariant.1 actions end e)
