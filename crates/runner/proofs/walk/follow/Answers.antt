-- `walk::follow` meets its contract: at the end no reply is taken, a reply that leaves no state leads nowhere, and any other leads on. Assumes nothing.
use mathlib.Core.Path.{sym, subst, ◌∙◌}
use native.Mathlib.Omega.{arith}
use Rattle.progression.specs.declared.place.Place.{Place}
use Rattle.progression.specs.Machine.{Inside}
use Rattle.runner.proofs.StandLaws.{ends_before, no_state, steps_on, all_read}
use Rattle.runner.proofs.walk.follow.Goals as goal

pub returns-in_default : goal.returns-in_default
returns-in_default c =
    let a = c.args in
    let l = c.loop-reply in
    sym (l.invariant ∙ ends_before _ _ _ a.replies.now l.set _ _ c.loop-reply-test.true _ (sym c.settle.ensures.0 ∙ c.in_default.is))

pub returns-then-is_empty : goal.returns-then-is_empty
returns-then-is_empty c =
    let a = c.args in
    let l = c.loop-reply in
    let settles = sym c.settle.ensures.0 ∙ c.in-Act.is in
    sym (l.invariant ∙ no_state _ _ _ a.replies.now l.set _ _ c.loop-reply-test.true _ _ settles _ c.step-set.ensures _ c.is_empty.ensures c.if-is_empty.true)

pub overflow_add-at : goal.overflow_add-at
unfolding Inside
overflow_add-at c =
    let inside : Inside (Place.Act c.in-Act.node c.in-Act.action) = subst Inside c.in-Act.is c.settle.ensures.1 in
    omega (arith, inside.0)

pub loop-reply-preserved : goal.loop-reply-preserved
loop-reply-preserved c =
    let a = c.args in
    let l = c.loop-reply in
    let settles = sym c.settle.ensures.0 ∙ c.in-Act.is in
    l.invariant ∙ steps_on _ _ _ a.replies.now l.set _ _ c.loop-reply-test.true _ _ settles _ c.step-set.ensures _ c.is_empty.ensures c.if-is_empty.false

pub returns : goal.returns
returns c =
    let a = c.args in
    let l = c.loop-reply in
    all_read _ _ _ a.replies.now l.set l.at l.reply-index _ c.settle-place.ensures.0 c.loop-reply-test.false ∙ sym l.invariant
