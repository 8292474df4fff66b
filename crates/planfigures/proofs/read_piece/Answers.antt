-- `read_piece` meets its contract: the bytes that are fed are the first of the memory, as many as `read` put there. Assumes nothing.
use mathlib.Core.Path.{sym, ap, ◌∙◌}
use lib.Seq.{length-take-le}
use Rattle.std.specs.Prelude.{Ok}
use Rattle.std.proofs.lemmas.Result.{err_from_is_err_and}
use Rattle.planfigures.proofs.InputLaws.{came_within, brought_step, brought_end, brought_failed}
use Rattle.planfigures.proofs.read_piece.Goals as goal

pub returns-in_err-came : goal.returns-in_err-came
returns-in_err-came c =
    let p = err_from_is_err_and c.from_residual.result c.from_residual.ensures.1 in
    brought_failed _ _ _ _ p.1

pub returns-in_default : goal.returns-in_default
returns-in_default c = brought_end _ _ _

pub slice_bounds-feed-end : goal.slice_bounds-feed-end
slice_bounds-feed-end c = (came_within _ _ _ _ c.after.ensures c.read-got.ensures.bound (c.in_ok-came.was ∙ ap Ok c.in-Some.is)).1

pub slice_bounds-feed-end-2 : goal.slice_bounds-feed-end-2
slice_bounds-feed-end-2 c = sym (length-take-le _ _ (came_within _ _ _ _ c.after.ensures c.read-got.ensures.bound (c.in_ok-came.was ∙ ap Ok c.in-Some.is)).1)

pub returns : goal.returns
returns c =
    let w = came_within _ _ _ _ c.after.ensures c.read-got.ensures.bound (c.in_ok-came.was ∙ ap Ok c.in-Some.is) in
    brought_step _ _ _ _ _ w c.feed-fed.ensures.1
