-- `verifier::memo::recall` meets its contract: it tells what the slot tells. Assumes nothing.
use Rattle.std.proofs.Common.{ap, ◌∙◌}
use Rattle.verifier.specs.declared.memo.Slot.{Slot}
use Rattle.verifier.specs.Memo.{recalled}
use Rattle.verifier.proofs.MemoLaws.{recalled_passed, recalled_nothing}
use Rattle.verifier.proofs.memo.recall.Goals as goal

pub returns-then-same_node-equals : goal.returns-then-same_node-equals
returns-then-same_node-equals c = let s = c in
    let a = s.args in
    recalled_passed s.slot_at-slot.result a.set a.onward a.action a.depth _ c.equals.ensures c.if-same_node-equals.true
    ∙ ap (λ (k : Slot). recalled k a.set a.onward a.action a.depth) s.slot_at-slot.ensures

pub returns : goal.returns
returns c = let s = c in
    let a = s.args in
    recalled_nothing s.slot_at-slot.result a.set a.onward a.action a.depth _ c.equals.ensures c.if-same_node-equals.false
    ∙ ap (λ (k : Slot). recalled k a.set a.onward a.action a.depth) s.slot_at-slot.ensures
