-- `progression::gather_word` meets its contract. The loop's invariant: what is gathered and what the bits that are left give is the whole. The measure is the word that is left. Assumes nothing.
use mathlib.Core.Path.{sym, subst, ◌∙◌}
use mathlib.Core.Bool.{false, ◌||◌}
use native.Mathlib.Omega.{arith}
use Rattle.states.specs.Sets.{member}
use Rattle.states.proofs.BitLaws.{cleared_less}
use Rattle.states.proofs.SetLaws.{Fitting, fitting_set_of}
use Rattle.progression.proofs.GatherLaws.{gather_start, gather_more, gather_end}
use Rattle.progression.proofs.steps.gather_word.Goals as goal

pub loop-left-init : goal.loop-left-init
loop-left-init c = let e = c.empty-all.ensures in
    (c.ranges.word.fits, subst Fitting (sym e) (fitting_set_of (λ s. false)), gather_start _ _ _ e _)

pub loop-left-preserved : goal.loop-left-preserved
loop-left-preserved c = let l = c.loop-left in
    let n = c.loop-left-test.true in
    let u = c.union-all.ensures in (
      omega (arith, cleared_less l.left n),
      subst Fitting (sym u) (fitting_set_of (λ s. member l.all s || member c.set_at.result s)),
      gather_more _ _ _ _ _ l.left n l.invariant.0 c.set_at.ensures u ∙ l.invariant.2,
    )

pub returns : goal.returns
returns c = let a = c.args in
    let l = c.loop-left in
    gather_end a.sets.now a.first l.all l.invariant.1 l.left (omega arith) ∙ l.invariant.2
