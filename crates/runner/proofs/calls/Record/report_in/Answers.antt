-- `Record::report_in` meets its contract: the reply is judged where the record's replies lead, and an accepted one stands behind them: there is room, since behind 64 replies of a run
-- there is no action. Assumes nothing.
use native.Mathlib.Omega.{arith}
use mathlib.Core.Path.{sym, ◌∙◌}
use Rattle.runner.specs.Answers.{reported_of}
use Rattle.runner.proofs.CallLaws.{after_refused, has_room, after_accepted}
use Rattle.runner.proofs.WalkLaws.{report_of, report_is}
use Rattle.runner.proofs.Sizes.{sheet_size, replies_size}
use Rattle.runner.proofs.calls.Record.report_in.Goals as goal

pub returns-in-Err : goal.returns-in-Err
unfolding report_of reported_of
returns-in-Err c = let stood = c.stand_in-walked.ensures in
    let e = report_is _ _ _ _ (c.told-heads, c.told-nodes, c.told-sets) _ _ _ stood.1 _ _ stood.0 _ (sym c.in-Err.is ∙ c.add.ensures) in (e, after_refused _ _ _ e, stood.1)

pub bounds-next-next : goal.bounds-next-next
unfolding report_of reported_of
bounds-next-next c = let stood = c.stand_in-walked.ensures in
    omega (
      arith,
      has_room _ _ (sheet_size c.args.self _ c.well_formed.0) (replies_size c.args.self _ c.well_formed.0)
          (report_is _ _ _ _ (c.told-heads, c.told-nodes, c.told-sets) _ _ _ stood.1 _ _ stood.0 _ (sym c.in-Ok.is ∙ c.add.ensures)),
    )

pub overflow_add-next : goal.overflow_add-next
unfolding report_of reported_of
overflow_add-next c = let stood = c.stand_in-walked.ensures in
    omega (
      arith,
      has_room _ _ (sheet_size c.args.self _ c.well_formed.0) (replies_size c.args.self _ c.well_formed.0)
          (report_is _ _ _ _ (c.told-heads, c.told-nodes, c.told-sets) _ _ _ stood.1 _ _ stood.0 _ (sym c.in-Ok.is ∙ c.add.ensures)),
    )

pub returns-in-Ok : goal.returns-in-Ok
unfolding report_of reported_of
returns-in-Ok c = let stood = c.stand_in-walked.ensures in
    let e = report_is _ _ _ _ (c.told-heads, c.told-nodes, c.told-sets) _ _ _ stood.1 _ _ stood.0 _ (sym c.in-Ok.is ∙ c.add.ensures) in
    let kept = after_accepted _ _ (sheet_size c.args.self _ c.well_formed.0) (replies_size c.args.self _ c.well_formed.0) e in (e, kept, stood.1)
