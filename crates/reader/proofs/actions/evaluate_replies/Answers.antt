-- `reader::actions::evaluate_replies` meets its contract: the replies behind their count. Assumes nothing.
use mathlib.Core.Path.{sym, ap, ◌∙◌}
use Rattle.format.specs.Format.{mapped}
use Rattle.format.proofs.ReaderLaws.{replies_refused, replies_counted}
use Rattle.reader.specs.Answers.{found}
use Rattle.reader.specs.Method.{some_holds}
use Rattle.reader.proofs.actions.evaluate_replies.Goals as goal

pub returns-in-Err : goal.returns-in-Err
unfolding found mapped
returns-in-Err c = let a = c.args in
    sym (ap (mapped some_holds) (replies_refused a.n a.packed.now a.at (sym c.in-Err.ensures)))

pub returns : goal.returns
unfolding found
returns c = let a = c.args in
    c.evaluate_some.ensures ∙ sym (ap (mapped some_holds) (replies_counted a.n a.packed.now a.at (sym c.in-Ok.ensures)))
