-- `routine::actions::fill_actions` meets its contract. The loop's invariant: the actions from `a` on stand at `p`, and if their sets and their heads are written where they are left to be, all are. The measure is the actions that are left. Assumes nothing.
use native.Mathlib.Omega.{arith}
use Rattle.routine.proofs.ActionLaws.{actions_here, actions_last}
use Rattle.routine.proofs.actions.fill_actions.Goals as goal

pub fill_action-laid-requires : goal.fill_action-laid-requires
fill_action-laid-requires c = let w = c.requires in
    let x = actions_here _ _ _ _ _ _ w.next w.actions _ _ _ _ _ c.loop-a-test.true (c.loop-a.invariant.1 w.actions w.next w.stand w.all) in
    (omega (arith, w.few, c.loop-a-test.true), record { action = x.action; next = x.end; stands = x.stands; room = omega (arith, x.room, w.room) })

pub loop-a-preserved : goal.loop-a-preserved
loop-a-preserved c = (
  omega arith,
  λ actions q h l.
      let x = actions_here _ _ _ _ _ _ q actions _ _ _ _ _ c.loop-a-test.true (c.loop-a.invariant.1 actions q h l) in
      x.later _ _ _ (c.fill_action-laid.ensures x.action x.end x.stands),
)

pub returns : goal.returns
returns c = λ actions q h l. actions_last _ _ _ _ _ _ q actions _ _ _ _ _ c.loop-a-test.false (c.loop-a.invariant.1 actions q h l)
