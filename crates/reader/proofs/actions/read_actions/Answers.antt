-- `reader::actions::read_actions` meets its contract. The loop's invariant: the actions that are left end where all of them end. The measure is how many are left. Assumes nothing.
use mathlib.Core.Path.{sym, ◌∙◌}
use native.Mathlib.Omega.{arith}
use Rattle.reader.proofs.TestLaws.{list_more, list_refused, list_end}
use Rattle.reader.specs.Method.{end_read}
use Rattle.reader.proofs.actions.read_actions.Goals as goal

pub returns-in-Err : goal.returns-in-Err
unfolding end_read
returns-in-Err c = let a = c.args in
    let l = c.loop-i in
    sym (list_refused a.n a.packed.now l.p a.k l.i (omega arith) (sym c.in-Err.ensures)) ∙ l.invariant.1

pub loop-i-preserved : goal.loop-i-preserved
unfolding end_read
loop-i-preserved c = let a = c.args in
    let l = c.loop-i in (
      omega arith,
      sym (list_more a.n a.packed.now l.p a.k l.i (omega arith) (sym c.in-Ok.ensures)) ∙ l.invariant.1,
    )

pub returns : goal.returns
unfolding end_read
returns c = let a = c.args in
    let l = c.loop-i in
    sym (list_end a.n a.packed.now l.p a.k l.i (omega arith)) ∙ l.invariant.1
