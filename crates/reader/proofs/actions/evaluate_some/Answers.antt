-- `reader::actions::evaluate_some` meets its contract. The loop's invariant: the set and the formulas that are left tell what all of them tell. The measure is how many are left. Assumes nothing.
use mathlib.Core.Path.{sym, ◌∙◌}
use native.Mathlib.Omega.{arith}
use Rattle.reader.proofs.TestLaws.{set_own, some_start, some_more, some_refused, some_end}
use Rattle.reader.specs.Answers.{found, in_theory}
use Rattle.reader.proofs.actions.evaluate_some.Goals as goal

pub loop-i-init : goal.loop-i-init
loop-i-init c = let a = c.args in
    (omega arith, set_own _ _ c.empty-set.ensures, some_start a.n a.packed.now a.at a.m c.empty-set.result c.empty-set.ensures)

pub returns-in-Err : goal.returns-in-Err
unfolding found in_theory
returns-in-Err c = let a = c.args in
    let l = c.loop-i in
    sym (some_refused a.n a.packed.now l.p a.m l.i l.set (omega arith) (sym c.in-Err.ensures)) ∙ l.invariant.2

pub loop-i-preserved : goal.loop-i-preserved
unfolding found in_theory
loop-i-preserved c = let a = c.args in
    let l = c.loop-i in (
      omega arith,
      set_own _ _ c.union-set.ensures,
      sym (some_more a.n a.packed.now l.p a.m l.i l.set _ _ _ (omega arith) (sym c.in-Ok.ensures) c.union-set.ensures)
          ∙ l.invariant.2,
    )

pub returns : goal.returns
unfolding found
returns c = let a = c.args in
    let l = c.loop-i in
    sym (some_end a.n a.packed.now l.p a.m l.i l.set (omega arith) l.invariant.1) ∙ l.invariant.2
