-- `progression::pass_word` meets its contract: state by state, the lowest first. Assumes nothing.
use mathlib.Core.Path.{◌≡◌}
use native.Mathlib.Omega.{arith}
use Rattle.progression.proofs.PassLaws.{none_evaluated, all_kept, all_counted, lowest_fits, few_before, lowest_kept, lowest_dropped}
use Rattle.progression.proofs.reply.pass_word.Goals as goal
use Rattle.progression.proofs.reply.pass_word.Goals.{then-holds, else-holds}

pub loop-left-init : goal.loop-left-init
loop-left-init c = none_evaluated _ _ _ c.ranges.states.fits

pub loop-left-preserved : goal.loop-left-preserved
loop-left-preserved c = let inv = c.loop-left.invariant in
    let some = c.loop-left-test.true in
    let look = c.evaluate-holds.ensures in
    elim c.if-holds.branch [
      | then-holds u ↦ lowest_kept _ _ _ _ _ _ inv some _ look.0 _ _ look.1 u.if-holds.true u.kept-is
      | else-holds u ↦ lowest_dropped _ _ _ _ _ _ inv some _ look.0 _ _ look.1 u.if-holds.false u.kept-is
    ]

pub returns : goal.returns
returns c = let l = c.loop-left in
    let none : l.left ≡ 0 = omega arith in
    (all_kept _ _ _ _ _ _ l.invariant none c.ranges.states.fits c.ranges.reply.fits, all_counted _ _ _ _ _ _ l.invariant none)

pub evaluate-holds-requires : goal.evaluate-holds-requires
evaluate-holds-requires c = let inv = c.loop-left.invariant in
    let some = c.loop-left-test.true in
    (lowest_fits _ _ _ _ _ _ inv some, few_before _ _ _ _ _ _ inv some c.ranges.states.fits c.requires)
