-- `checker::shows` meets its contract. The loop's invariant: the whole trace shows what the bytes that are left show from the set, the node and the run's own state reached.
-- The measure is the number of bytes that are left. Assumes nothing.
use Prim.Native.Nat.{◌≤◌}
use mathlib.Core.Path.{sym, ap, subst, ◌∙◌}
use mathlib.Core.Bool.{Bool, ◌&&◌}
use native.Mathlib.Omega.{arith}
use lib.ListN.{length}
use Rattle.semantics.specs.Verdict.{longest_trace}
use Rattle.progression.specs.declared.place.Place.{Place}
use Rattle.progression.specs.Machine.{Inside}
use Rattle.checker.specs.Shown.{end_fails, shows_by}
use Rattle.checker.proofs.TraceLaws.{even_length, above_length, trace_length, shows_nothing, behind_length, no_byte, no_start, starts, ends_before, other_action, no_step, goes_on_law, one_left, all_read}
use Rattle.checker.proofs.shows.Goals as goal

pub returns-then-trace-eq0 : goal.returns-then-trace-eq0
returns-then-trace-eq0 c = sym (even_length _ _ c.if-trace-eq0.true)

pub returns-in_default : goal.returns-in_default
returns-in_default c = let a = c.args in
    sym (shows_nothing _ _ (no_byte a.heads.now a.nodes.now a.sets.now a.start a.trace.now c.in_default.len_below))

pub returns-then-trace-gt-TRACE : goal.returns-then-trace-gt-TRACE
returns-then-trace-gt-TRACE c = sym (above_length _ _ c.if-trace-gt-TRACE.true)

pub returns-then-not-has : goal.returns-then-not-has
returns-then-not-has c = let a = c.args in
    sym (shows_nothing _ _ (no_start a.heads.now a.nodes.now a.sets.now a.start a.trace.now c.in-len1-up.len_at_least (sym c.has.ensures ∙ c.if-not-has.true)))

pub returns-in-End : goal.returns-in-End
returns-in-End c = let a = c.args in
    let l = c.loop-rest in
    let left = starts a.heads.now a.nodes.now a.sets.now a.start a.trace.now c.in-len1-up.len_at_least (sym c.has.ensures ∙ c.if-not-has.false) _ c.one-own.ensures ∙ l.invariant.1 in
    sym (shows_nothing _ _ (left ∙ ends_before _ _ _ l.rest.now l.set l.at l.own c.in-len2-up.len_at_least _ (sym c.settle.ensures.0 ∙ c.in-End.is)))

pub returns-then-action-b : goal.returns-then-action-b
returns-then-action-b c = let a = c.args in
    let l = c.loop-rest in
    let left = starts a.heads.now a.nodes.now a.sets.now a.start a.trace.now c.in-len1-up.len_at_least (sym c.has.ensures ∙ c.if-not-has.false) _ c.one-own.ensures ∙ l.invariant.1 in
    let settles = sym c.settle.ensures.0 ∙ c.in-Act.is in
    sym (shows_nothing _ _ (left ∙ other_action _ _ _ l.rest.now l.set l.at l.own c.in-len2-up.len_at_least _ _ settles c.if-action-b.true))

pub returns-then-not-has-2 : goal.returns-then-not-has-2
returns-then-not-has-2 c = let a = c.args in
    let l = c.loop-rest in
    let left = starts a.heads.now a.nodes.now a.sets.now a.start a.trace.now c.in-len1-up.len_at_least (sym c.has.ensures ∙ c.if-not-has.false) _ c.one-own.ensures ∙ l.invariant.1 in
    let settles = sym c.settle.ensures.0 ∙ c.in-Act.is in
    sym (shows_nothing _ _ (left ∙ no_step _ _ _ l.rest.now l.set l.at l.own c.in-len2-up.len_at_least _ _ settles c.if-action-b.false _ c.step.ensures
    (sym c.has-in-Act.ensures ∙ c.if-not-has-2.true)))

pub overflow_add-at : goal.overflow_add-at
unfolding Inside
overflow_add-at c = let inside : Inside (Place.Act c.in-Act.node c.in-Act.action) = subst Inside c.in-Act.is c.settle.ensures.1 in
    omega (arith, inside.0)

pub loop-rest-preserved : goal.loop-rest-preserved
loop-rest-preserved c = let l = c.loop-rest in
    let settles = sym c.settle.ensures.0 ∙ c.in-Act.is in (
      omega (arith, l.invariant.0, behind_length 2 l.rest.now, c.in-len2-up.len_at_least),
      l.invariant.1 ∙ goes_on_law _ _ _ l.rest.now l.set l.at l.own c.in-len2-up.len_at_least _ _ settles c.if-action-b.false _ c.step.ensures
          (sym c.has-in-Act.ensures ∙ c.if-not-has-2.false) _ c.step-set.ensures _ c.one-own-in-Act.ensures,
    )

pub returns-in_default-rest-2 : goal.returns-in_default-rest-2
returns-in_default-rest-2 c = let a = c.args in
    let l = c.loop-rest in
    let left = starts a.heads.now a.nodes.now a.sets.now a.start a.trace.now c.in-len1-up.len_at_least (sym c.has.ensures ∙ c.if-not-has.false) _ c.one-own.ensures ∙ l.invariant.1 in
    sym (shows_nothing _ _ (left ∙ one_left _ _ _ l.rest.now l.set l.at l.own c.in_default-rest.len_below c.in_default-rest-2.len_at_least))

pub returns-in-Act-last : goal.returns-in-Act-last
unfolding end_fails
returns-in-Act-last c = let a = c.args in
    let l = c.loop-rest in
    let left = starts a.heads.now a.nodes.now a.sets.now a.start a.trace.now c.in-len1-up.len_at_least (sym c.has.ensures ∙ c.if-not-has.false) _ c.one-own.ensures ∙ l.invariant.1 in
    sym (shows_nothing _ _ (left ∙ all_read _ _ _ l.rest.now l.set l.at l.own _ (sym c.settle-last.ensures.0 ∙ c.in-Act-last.is) c.in-empty.len_below))

pub returns-in-End-last : goal.returns-in-End-last
unfolding end_fails
returns-in-End-last c = let a = c.args in
    let l = c.loop-rest in
    let left = starts a.heads.now a.nodes.now a.sets.now a.start a.trace.now c.in-len1-up.len_at_least (sym c.has.ensures ∙ c.if-not-has.false) _ c.one-own.ensures ∙ l.invariant.1 in
    let short : length a.trace.now ≤ longest_trace = omega (arith, c.if-trace-gt-TRACE.false) in
    let fits = trace_length (length a.trace.now) (λ even. omega (arith, even, l.invariant.0, behind_length 1 a.trace.now, c.in-empty.len_below, c.in-len1-up.len_at_least)) short in
    sym (ap (λ (b : Bool). b && shows_by a.heads.now a.nodes.now a.sets.now a.start a.trace.now) fits ∙ left
    ∙ all_read _ _ _ l.rest.now l.set l.at l.own _ (sym c.settle-last.ensures.0 ∙ c.in-End-last.is) c.in-empty.len_below)
