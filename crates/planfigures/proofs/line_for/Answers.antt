-- `line_for` meets its contract: what `print_figures` writes, or nothing. Assumes nothing.
use mathlib.Core.Path.{ap, ◌∙◌}
use lib.ListN.{length}
use borrow.Author.Rules.{rules}
use Rattle.lists.specs.Lists.{write}
use Rattle.planfigures.proofs.InputLaws.{line_read, line_failed}
use Rattle.planfigures.proofs.line_for.Goals as goal

pub returns-in-Ok : goal.returns-in-Ok
returns-in-Ok c =
    let p = c.print_figures.ensures in
    let e = line_read _ _ _ _ c.in-Ok.is c.end-figures.ensures.0 c.numbers.ensures in
    (p.0 ∙ ap length e, p.1 ∙ ap (write _ 0) e, p.2)

pub returns-in-Err : goal.returns-in-Err
returns-in-Err c =
    let e = line_failed _ _ _ c.in-Err.is in
    (e.0, e.1, search rules)
