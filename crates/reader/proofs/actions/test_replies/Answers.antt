-- `reader::actions::test_replies` meets its contract: where the replies end, and the test that refuses with 15. Assumes nothing.
use mathlib.Core.Path.{sym, ◌∙◌}
use Rattle.states.specs.Sets.{members}
use Rattle.format.specs.Syntax.{probe}
use Rattle.format.specs.Format.{replies_over, has_reply, unless}
use Rattle.format.proofs.ReaderLaws.{mapped_got, mapped_fault}
use Rattle.reader.specs.Answers.{answer_of, number_of, found}
use Rattle.reader.specs.Method.{some_holds}
use Rattle.reader.proofs.TestLaws.{tested_got, tested_fault, covered, test_passes, test_fails}
use Rattle.reader.proofs.actions.test_replies.Goals as goal

pub returns-then-is_empty : goal.returns-then-is_empty
unfolding answer_of found
returns-then-is_empty c = let a = c.args in
    let w = mapped_got some_holds (replies_over a.n a.packed.now a.at) (sym c.in-Ok.ensures) in
    test_passes 15 _ (c.is_empty.ensures ∙ covered a.space _ _ c.difference.ensures w.0 (sym w.2)) c.if-is_empty.true ∙ sym (tested_got (λ fs. unless (has_reply (members a.space) (probe fs)) 15) w.1)

pub returns-in-Err : goal.returns-in-Err
unfolding answer_of found
returns-in-Err c = let a = c.args in
    tested_fault (λ fs. unless (has_reply (members a.space) (probe fs)) 15) (mapped_fault some_holds (replies_over a.n a.packed.now a.at) (sym c.in-Err.ensures))

pub returns : goal.returns
unfolding answer_of number_of found
returns c = let a = c.args in
    let w = mapped_got some_holds (replies_over a.n a.packed.now a.at) (sym c.in-Ok.ensures) in
    test_fails 15 _ (c.is_empty.ensures ∙ covered a.space _ _ c.difference.ensures w.0 (sym w.2)) c.if-is_empty.false ∙ sym (tested_got (λ fs. unless (has_reply (members a.space) (probe fs)) 15) w.1)
