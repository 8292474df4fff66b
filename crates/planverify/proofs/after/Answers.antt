-- `after` meets its contract: the cases of the definition, in the order of the code. Assumes nothing.
use mathlib.Core.Path.{ap, ◌∙◌}
use Rattle.std.specs.Prelude.{Err}
use Rattle.std.proofs.lemmas.Result.{err_from_is_err_and}
use Rattle.planverify.proofs.InputLaws.{after_failed, after_end, after_more, after_full}
use Rattle.planverify.proofs.after.Goals as goal

pub returns-in_err-put : goal.returns-in_err-put
returns-in_err-put c =
    let p = err_from_is_err_and c.from_residual.result c.from_residual.ensures.1 in
    p.1 ∙ ap Err p.2 ∙ after_failed _ _ _ _ c.in_err-put.was

pub returns-then-put-eq0 : goal.returns-then-put-eq0
returns-then-put-eq0 c = after_end _ _ _ _ c.in_ok-put.was c.if-put-eq0.true

pub returns-then-n-most : goal.returns-then-n-most
returns-then-n-most c = after_more _ _ _ _ c.in_ok-put.was c.if-put-eq0.false c.if-n-most.true

pub returns : goal.returns
returns c = after_full _ _ _ _ c.in_ok-put.was c.if-put-eq0.false c.if-n-most.false
