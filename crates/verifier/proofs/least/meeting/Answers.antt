-- `verifier::least::meeting` meets its contract. The loop's invariant: the set has the states below s whose sets have a state of the given one. The measure is what is left of the 256 states. Assumes nothing.
use Rattle.std.proofs.Common.{◌≡◌, ◌+◌, true, false, ◌∙◌, arith}
use Rattle.verifier.proofs.FeasibleLaws.{up_to_set, set_done, set_without, set_with, meets, meets_test, not_either}
use Rattle.verifier.proofs.least.meeting.Goals as goal
use Rattle.verifier.proofs.least.meeting.Goals.{then-not-is_empty, else-not-is_empty}
use mathlib.Core.Bool.{not}
use mathlib.Core.Path.{ap}

pub loop-s-preserved : goal.loop-s-preserved
loop-s-preserved c = let a = c.args in
    let l = c.loop-s in
    let none = meets_test a.sets.now a.first a.set l.s _ _ _ c.set_at-row.ensures c.intersect.ensures c.is_empty.ensures in (
      omega arith,
      elim c.if-not-is_empty.branch [
        | then-not-is_empty w ↦ w.all-is ∙ w.with-all.ensures ∙ set_with (meets a.sets.now a.first a.set) l.s (omega arith) (not_either _ _ true none (ap not w.if-not-is_empty.true)) l.all l.invariant.1
        | else-not-is_empty w ↦ w.all-is ∙ l.invariant.1 ∙ set_without (meets a.sets.now a.first a.set) l.s (not_either _ _ false none (ap not w.if-not-is_empty.false))
      ],
    )

pub returns : goal.returns
returns c = c.loop-s.invariant.1 ∙ set_done _ c.loop-s.s (omega arith)

pub returns-after-not-is_empty : goal.returns-after-not-is_empty
returns-after-not-is_empty c = let a = c.args in
    let l = c.loop-s in
    let none = meets_test a.sets.now a.first a.set l.s _ _ _ c.set_at-row.ensures c.intersect.ensures c.is_empty.ensures in
    let all : c.if-not-is_empty.all ≡ up_to_set (meets a.sets.now a.first a.set) (l.s + 1) = elim c.if-not-is_empty.branch [
      | then-not-is_empty w ↦ w.all-is ∙ w.with-all.ensures ∙ set_with (meets a.sets.now a.first a.set) l.s (omega arith) (not_either _ _ true none (ap not w.if-not-is_empty.true)) l.all l.invariant.1
      | else-not-is_empty w ↦ w.all-is ∙ l.invariant.1 ∙ set_without (meets a.sets.now a.first a.set) l.s (not_either _ _ false none (ap not w.if-not-is_empty.false))
    ] in
    all ∙ set_done _ (l.s + 1) (omega arith)
