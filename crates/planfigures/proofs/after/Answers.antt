-- `after` meets its contract: the cases of the definition, in the order of the code. Assumes nothing.
use mathlib.Core.Path.{ap, ◌∙◌}
use Rattle.std.specs.Prelude.{Err}
use Rattle.std.proofs.lemmas.Result.{err_from_is_err_and}
use Rattle.planfigures.proofs.InputLaws.{after_failed, after_end, after_some}
use Rattle.planfigures.proofs.after.Goals as goal

pub returns-in_err-came : goal.returns-in_err-came
returns-in_err-came c =
    let p = err_from_is_err_and c.from_residual.result c.from_residual.ensures.1 in
    p.1 ∙ ap Err p.2 ∙ after_failed _ _ c.in_err-came.was

pub returns-then-came-eq0 : goal.returns-then-came-eq0
returns-then-came-eq0 c = after_end _ _ c.in_ok-came.was c.if-came-eq0.true

pub returns : goal.returns
returns c = after_some _ _ c.in_ok-came.was c.if-came-eq0.false
