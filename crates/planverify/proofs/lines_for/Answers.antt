-- `lines_for` meets its contract: what `print` writes, or nothing. Assumes nothing.
use mathlib.Core.Path.{ap, ◌∙◌}
use lib.ListN.{length}
use Rattle.lists.specs.Lists.{write}
use Rattle.planverify.proofs.InputLaws.{lines_read, lines_failed}
use borrow.Author.Rules.{rules}
use Rattle.planverify.proofs.lines_for.Goals as goal

pub returns-in-Ok : goal.returns-in-Ok
returns-in-Ok c =
    let p = c.print.ensures in
    let e = lines_read _ _ _ c.in-Ok.is in
    (p.0 ∙ ap length e, p.1 ∙ ap (write _ 0) e, p.2)

pub returns-in-Err : goal.returns-in-Err
returns-in-Err c =
    let e = lines_failed _ _ _ _ c.in-Err.is in
    (e.0, e.1, search rules)
