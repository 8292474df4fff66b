-- `reader::actions::leads_on` meets its contract. The outer loop's invariant: each state before `state` has a next state. The inner loop's: no next state before `next` is in the row. The measures are the states that are left. Assumes nothing.
use Prim.Native.Nat.{ℕ, ◌+◌, ◌<◌}
use mathlib.Core.Path.{◌≡◌, sym, subst, ◌∙◌}
use mathlib.Core.Bool.{false}
use native.Mathlib.Omega.{arith}
use Rattle.states.specs.Sets.{member}
use Rattle.reader.proofs.TestLaws.{Tried, tried_outside, tried_found, tried_stuck, tried_all, none_more}
use Rattle.reader.proofs.actions.leads_on.Goals as goal
use Rattle.reader.proofs.actions.leads_on.Goals.{else-loop-next-test, then-loop-next-test+else-has+else-next-lt255}

pub states-preserved : goal.states-preserved
states-preserved c = let a = c.args in
    let l = c.loop-next in
    let o = c.states in (
      omega arith,
      λ f end k.
          subst (λ (x : ℕ). Tried f a.space (x + 1)) (sym l.invariant.0)
          (tried_found f a.space (o.invariant.1 f end k) (omega arith) (c.states_after.ensures f end k) c.intersect-row.ensures (sym c.has-in-loop-next.ensures ∙ c.if-has.true)),
    )

pub returns-in-states : goal.returns-in-states
returns-in-states c = let a = c.args in
    let l = c.loop-next in
    let o = c.states in
    let row = c.intersect-row.result in
    let none : ((t : ℕ) → t < 256 → member row t ≡ false) = elim c.loop-next-test.branch [
      | else-loop-next-test w ↦ λ t i. l.invariant.2 t (omega arith)
      | then-loop-next-test+else-has+else-next-lt255 w ↦ λ t i. none_more row l.next l.invariant.2 (sym w.has-in-loop-next.ensures ∙ w.if-has.false) t (omega arith)
    ] in
    λ f end k.
    sym (tried_stuck f a.space o.state c.states_after.result row (omega arith) (sym c.has.ensures ∙ c.if-not-has.false) (c.states_after.ensures f end k) c.intersect-row.ensures none)

pub returns-then-not-has : goal.returns-then-not-has
returns-then-not-has c = let a = c.args in
    let o = c.states in
    let last : o.state + 1 ≡ 256 = omega arith in
    λ f end k. sym (tried_all f a.space (subst (λ (x : ℕ). Tried f a.space x) last (tried_outside f a.space (o.invariant.1 f end k) (sym c.has.ensures ∙ c.if-not-has.true))))

pub returns-then-has : goal.returns-then-has
returns-then-has c = let a = c.args in
    let o = c.states in
    let last : o.state + 1 ≡ 256 = omega arith in
    λ f end k.
    sym (tried_all f a.space (subst (λ (x : ℕ). Tried f a.space x) last
    (tried_found f a.space (o.invariant.1 f end k) (omega arith) (c.states_after.ensures f end k) c.intersect-row.ensures (sym c.has-in-loop-next.ensures ∙ c.if-has.true))))
