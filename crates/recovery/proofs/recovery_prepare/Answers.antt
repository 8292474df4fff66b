-- `recovery::recovery_prepare` meets its contract: the tables are those of `routine::prepare`, and the start set's words follow its answer. Assumes nothing.
use mathlib.Core.Path.{◌∙◌}
use Rattle.reader.specs.Answers.{answer_of}
use Rattle.recovery.proofs.NumberLaws.{tables_refused, tables_ready}
use Rattle.recovery.proofs.recovery_prepare.Goals as goal

pub returns-in-Err : goal.returns-in-Err
unfolding answer_of
returns-in-Err c = let p = c.in-Err.ensures in
    let l = tables_refused _ _ p.0 _ in
    (c.from.ensures ∙ l.0, l.1, p.1)

pub returns-in-Ok : goal.returns-in-Ok
unfolding answer_of
returns-in-Ok c = let p = c.in-Ok.ensures in
    let l = tables_ready _ _ p.0 _ _ c.words.ensures in
    (l.0, l.1, p.1)
