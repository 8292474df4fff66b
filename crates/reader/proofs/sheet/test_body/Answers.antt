-- `reader::sheet::test_body` meets its contract: the tests behind the fields, by what each tells (proofs/BodyLaws.antt). Assumes nothing.
use mathlib.Core.Path.{◌≡◌, sym, ap, ◌∙◌}
use mathlib.Core.Bool.{◌&&◌}
use borrow.Author.Tests.{not-true, not-false}
use Rattle.states.specs.declared.States.{States}
use Rattle.states.specs.Sets.{member, set_of}
use Rattle.reader.specs.Answers.{number_of, answer_of, without_value}
use Rattle.reader.specs.Method.{header_of}
use Rattle.std.specs.Prelude.{Result}
use Prim.Native.Nat.{ℕ}
use Rattle.reader.specs.declared.refusal.Refusal.{Refusal}
use Rattle.reader.proofs.BodyLaws.{unpadded, stateless, startless, actions_tested}
use Rattle.reader.proofs.sheet.test_body.Goals as goal

-- The states in common, by what the start set is.
common_is : (start space : States) {common set : States} → common ≡ set_of (λ s. member start s && member space s) → start ≡ set → common ≡ set_of (λ s. member set s && member space s)
common_is start space e f = e ∙ ap (λ (x : States). set_of (λ s. member x s && member space s)) f

pub returns-then-not-is_padding : goal.returns-then-not-is_padding
unfolding answer_of number_of header_of
returns-then-not-is_padding c = λ constraint sheet s e u.
    let b = c in
    sym (unpadded (header_of b.args.h constraint) b.requires b.args.packed.now b.args.h.at sheet _ e (sym c.is_padding.ensures ∙ c.if-not-is_padding.true))

pub returns-then-is_empty : goal.returns-then-is_empty
unfolding answer_of number_of header_of
returns-then-is_empty c = λ constraint sheet s e u.
    let b = c in
    let padded = sym c.is_padding.ensures ∙ c.if-not-is_padding.false in
    sym (stateless (header_of b.args.h constraint) b.requires b.args.packed.now b.args.h.at sheet _ e padded s (not-true _ (sym c.is_empty.ensures ∙ c.if-is_empty.true)))

pub returns-then-is_empty-2 : goal.returns-then-is_empty-2
unfolding answer_of number_of header_of
returns-then-is_empty-2 c = λ constraint sheet s e u.
    let b = c in
    let padded = sym c.is_padding.ensures ∙ c.if-not-is_padding.false in
    let some = not-false _ (sym c.is_empty.ensures ∙ c.if-is_empty.false) in
    sym (startless (header_of b.args.h constraint) b.requires b.args.packed.now b.args.h.at sheet _ e padded s some (common_is _ _ c.intersect.ensures u) (not-true _ (sym c.is_empty-2.ensures ∙ c.if-is_empty-2.true)))

pub returns-in-Err : goal.returns-in-Err
unfolding answer_of without_value header_of
returns-in-Err c = λ constraint sheet s e u.
    let a = c.args in
    let padded = sym c.is_padding.ensures ∙ c.if-not-is_padding.false in
    let some = not-false _ (sym c.is_empty.ensures ∙ c.if-is_empty.false) in
    let starts = not-false _ (sym c.is_empty-2.ensures ∙ c.if-is_empty-2.false) in
    ap (λ (x : Result ℕ Refusal). without_value (answer_of x)) (sym c.in-Err.is)
    ∙ actions_tested (header_of a.h constraint) c.requires a.packed.now a.h.at sheet _ e padded s some (common_is _ _ c.intersect.ensures u) starts c.test_actions.result c.test_actions.ensures

pub returns : goal.returns
unfolding answer_of without_value header_of
returns c = λ constraint sheet s e u.
    let a = c.args in
    let padded = sym c.is_padding.ensures ∙ c.if-not-is_padding.false in
    let some = not-false _ (sym c.is_empty.ensures ∙ c.if-is_empty.false) in
    let starts = not-false _ (sym c.is_empty-2.ensures ∙ c.if-is_empty-2.false) in
    ap (λ (x : Result ℕ Refusal). without_value (answer_of x)) (sym c.in-Ok.is)
    ∙ actions_tested (header_of a.h constraint) c.requires a.packed.now a.h.at sheet _ e padded s some (common_is _ _ c.intersect.ensures u) starts c.test_actions.result c.test_actions.ensures
