-- `verify_in` meets its contract: answer, trace memory, tables and memo are those of the definitions, refusals included. Assumes nothing.
use Rattle.reader.specs.Answers.{answer_of}
use Rattle.verifier.proofs.AnswerLaws.{short_answered, refused_answered, ready_answered}
use Rattle.verifier.proofs.verdict.verify_in.Goals as goal

pub returns-then-trace-lt-TRACE : goal.returns-then-trace-lt-TRACE
returns-then-trace-lt-TRACE c = short_answered _ _ _ _ _ _ _ (c.told-heads, c.told-nodes, c.told-sets) c.if-trace-lt-TRACE.true

pub returns-in-Err : goal.returns-in-Err
unfolding answer_of
returns-in-Err c = refused_answered _ _ _ _ _ _ _ (c.told-heads, c.told-nodes, c.told-sets) c.if-trace-lt-TRACE.false _ _ _ _ c.in-Err.ensures _ c.from.ensures

pub returns-in-Ok : goal.returns-in-Ok
unfolding answer_of
returns-in-Ok c = ready_answered _ _ _ _ _ _ _ (c.told-heads, c.told-nodes, c.told-sets) c.if-trace-lt-TRACE.false _ _ _ _ c.in-Ok.ensures _ _ _ c.decide.ensures
