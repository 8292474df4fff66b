-- `routine::actions::fill_rows` meets its contract. The loop's invariant: if the rows from `state` on are written where they are left to be, all are. The measure is the states that are left. Assumes nothing.
use Prim.Native.Nat.{◌+◌}
use mathlib.Core.Path.{◌∙◌}
use native.Mathlib.Omega.{arith}
use Rattle.routine.proofs.ActionLaws.{rows_first, rows_next, rows_last}
use Rattle.routine.proofs.actions.fill_rows.Goals as goal

pub loop-state-init : goal.loop-state-init
loop-state-init c = (omega arith, λ f q h. rows_first _ f _ _)

pub loop-state-preserved : goal.loop-state-preserved
loop-state-preserved c = let a = c.args in
    let l = c.loop-state in (
      omega arith,
      λ f q h. rows_next a.space f a.k l.state _ _ c.row-next.result (omega arith) (c.row-next.ensures f q h) c.put_set.ensures ∙ l.invariant.1 f q h,
    )

pub returns-2 : goal.returns-2
returns-2 c = let a = c.args in
    let l = c.loop-state in
    λ f q h.
    rows_last a.space f a.k (l.state + 1) _ (omega arith)
    ∙ rows_next a.space f a.k l.state _ _ c.row-next.result (omega arith) (c.row-next.ensures f q h) c.put_set.ensures
    ∙ l.invariant.1 f q h
