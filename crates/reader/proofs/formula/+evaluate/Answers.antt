-- `reader::evaluate` meets its contract: each return by the law of the first node that led there. The measure is the levels left. Assumes nothing.
use mathlib.Core.Bool.{true, false}
use mathlib.Core.Path.{◌≡◌, sym, ap, ◌∙◌}
use Prim.Native.Nat.{ℕ, ◌-◌}
use mathlib.Core.List.{List}
use Rattle.states.specs.declared.States.{States}
use Rattle.reader.specs.declared.formula.View.{View}
use Rattle.reader.specs.declared.nodes.ObjectiveNode.{ObjectiveNode}
use Rattle.reader.specs.declared.nodes.Connective.{Connective}
use Rattle.std.proofs.Common.{Option, None, Some}
use Rattle.format.specs.Format.{got, mapped, field, objective}
use Rattle.format.proofs.ReaderLaws.{found_as, objective_none, objective_cut, objective_tag}
use Rattle.reader.proofs.EvaluationLaws.{behind, set_constant, set_fact, set_new, set_outside, set_not, not_refused, set_two, first_refused, second_refused, from_of, to_of, read_true, facts_true}
use Rattle.reader.specs.Answers.{number_of, found, in_theory, states_in}
use Rattle.reader.specs.Method.{tag_of}
use Rattle.reader.proofs.formula.+evaluate.Goals.{in-Not, in-Two}
use Rattle.reader.proofs.formula.+evaluate.Goals as goal

-- The formula's set is that which the first node and what stands behind it say.
whole : (n left at : ℕ) (bytes : List ℕ) (view : View) (next : ℕ) {node first : ObjectiveNode} → (left ≡ 0 → ⊥) → got (tag_of node) next ≡ field 3 bytes at → node ≡ first
    → mapped (states_in view) (objective n (in_theory view) left bytes at)
    ≡ behind (from_of view) (to_of view) n (in_theory view) (objective n (in_theory view) (left - 1)) bytes next first
whole n left at bytes view next some read is = ap (mapped (states_in view)) (objective_tag n (in_theory view) bytes at left some (found_as tag_of read is)) ∙ read_true view _

pub returns-then-left-eq0 : goal.returns-then-left-eq0
unfolding found number_of mapped
returns-then-left-eq0 t c = let a = c.args in
    sym (ap (mapped (states_in a.view)) (objective_none a.n (in_theory a.view) a.packed.now a.at a.left c.if-left-eq0.true))

pub returns-in-Err : goal.returns-in-Err
unfolding found number_of mapped
returns-in-Err t c = let a = c.args in
    let cut = sym c.in-Err.ensures in
    sym (ap (mapped (states_in a.view)) (objective_cut a.n (in_theory a.view) a.packed.now a.at a.left c.if-left-eq0.false cut))

pub returns-in-Constant : goal.returns-in-Constant
unfolding found number_of mapped
returns-in-Constant t c =
    let a = c.args in
    let w = whole a.n a.left a.at a.packed.now a.view c.in-Ok.value.1 c.if-left-eq0.false c.in-Ok.ensures c.in-Constant.is in
    ap (λ (x : States). got x c.in-Ok.value.1) c.uniform.ensures ∙ sym (w ∙ set_constant (from_of a.view) (to_of a.view) a.n (in_theory a.view) (objective a.n (in_theory a.view) (a.left - 1)) a.packed.now c.in-Ok.value.1 c.in-Constant.value)

pub returns-in-Fact : goal.returns-in-Fact
unfolding found number_of mapped
returns-in-Fact t c =
    let a = c.args in
    let w = whole a.n a.left a.at a.packed.now a.view c.in-Ok.value.1 c.if-left-eq0.false c.in-Ok.ensures c.in-Fact.is in
    c.evaluate_fact.ensures ∙ facts_true a.view false _ ∙ sym (w ∙ set_fact (from_of a.view) (to_of a.view) a.n (in_theory a.view) (objective a.n (in_theory a.view) (a.left - 1)) a.packed.now c.in-Ok.value.1)

pub returns-then-is_theory : goal.returns-then-is_theory
unfolding found number_of mapped
returns-then-is_theory t c =
    let a = c.args in
    let w = whole a.n a.left a.at a.packed.now a.view c.in-Ok.value.1 c.if-left-eq0.false c.in-Ok.ensures c.in-NewFact.is in
    c.evaluate_fact-then-is_theory.ensures ∙ facts_true a.view true _ ∙ sym (w ∙ set_new (from_of a.view) (to_of a.view) a.n (in_theory a.view) (objective a.n (in_theory a.view) (a.left - 1)) a.packed.now c.in-Ok.value.1 (sym c.is_theory.ensures ∙ c.if-is_theory.true))

pub returns-in-NewFact : goal.returns-in-NewFact
unfolding found number_of mapped
returns-in-NewFact t c =
    let a = c.args in
    let w = whole a.n a.left a.at a.packed.now a.view c.in-Ok.value.1 c.if-left-eq0.false c.in-Ok.ensures c.in-NewFact.is in
    sym (w ∙ set_outside (from_of a.view) (to_of a.view) a.n (in_theory a.view) (objective a.n (in_theory a.view) (a.left - 1)) a.packed.now c.in-Ok.value.1 (sym c.is_theory.ensures ∙ c.if-is_theory.false))

-- The first node of a formula with parts, by what joins two of them, if it has two.
first_of : Option Connective → ObjectiveNode
first_of None = ObjectiveNode.Not
first_of (Some connective) = ObjectiveNode.Two connective

pub returns-in-Err-evaluate : goal.returns-in-Err-evaluate
unfolding found number_of mapped
returns-in-Err-evaluate t c =
    let a = c.args in
    let p = objective a.n (in_theory a.view) (a.left - 1) in
    let none = sym (read_true a.view (p a.packed.now c.in-Ok.value.1)) ∙ sym c.in-Err-evaluate.ensures in
    elim c.match-node.branch [
      | in-Not w ↦ sym (whole a.n a.left a.at a.packed.now a.view c.in-Ok.value.1 c.if-left-eq0.false c.in-Ok.ensures w.in-Not.is
          ∙ not_refused (from_of a.view) (to_of a.view) a.n (in_theory a.view) p a.packed.now c.in-Ok.value.1 none)
      | in-Two w ↦ sym (whole a.n a.left a.at a.packed.now a.view c.in-Ok.value.1 c.if-left-eq0.false c.in-Ok.ensures w.in-Two.is
          ∙ first_refused (from_of a.view) (to_of a.view) a.n (in_theory a.view) p a.packed.now c.in-Ok.value.1 w.in-Two.connective none)
    ]

pub returns-in_default : goal.returns-in_default
unfolding first_of found number_of mapped
returns-in_default t c =
    let a = c.args in
    let is : c.in-Ok.value.0 ≡ first_of c.match-node.joins = elim c.match-node.branch [ in-Not w ↦ w.in-Not.is ∙ ap first_of (sym w.joins-is) | in-Two w ↦ w.in-Two.is ∙ ap first_of (sym w.joins-is) ] in
    let w = whole a.n a.left a.at a.packed.now a.view c.in-Ok.value.1 c.if-left-eq0.false c.in-Ok.ensures (is ∙ ap first_of c.in_default.is) in
    let p = objective a.n (in_theory a.view) (a.left - 1) in
    let f = sym (read_true a.view (p a.packed.now c.in-Ok.value.1)) ∙ sym c.in-Ok-evaluate.ensures in
    ap (λ (x : States). got x c.in-Ok-evaluate.value.1) c.complement.ensures ∙ sym (w ∙ set_not (from_of a.view) (to_of a.view) a.n (in_theory a.view) p a.packed.now c.in-Ok.value.1 f)

pub returns-in-Err-evaluate-2 : goal.returns-in-Err-evaluate-2
unfolding first_of found number_of mapped
returns-in-Err-evaluate-2 t c =
    let a = c.args in
    let is : c.in-Ok.value.0 ≡ first_of c.match-node.joins = elim c.match-node.branch [ in-Not w ↦ w.in-Not.is ∙ ap first_of (sym w.joins-is) | in-Two w ↦ w.in-Two.is ∙ ap first_of (sym w.joins-is) ] in
    let w = whole a.n a.left a.at a.packed.now a.view c.in-Ok.value.1 c.if-left-eq0.false c.in-Ok.ensures (is ∙ ap first_of c.in-Some.is) in
    let p = objective a.n (in_theory a.view) (a.left - 1) in
    let f = sym (read_true a.view (p a.packed.now c.in-Ok.value.1)) ∙ sym c.in-Ok-evaluate.ensures in
    let none = sym (read_true a.view (p a.packed.now c.in-Ok-evaluate.value.1)) ∙ sym c.in-Err-evaluate-2.ensures in
    sym (w ∙ second_refused (from_of a.view) (to_of a.view) a.n (in_theory a.view) p a.packed.now c.in-Ok.value.1 c.in-Some.connective f none)

pub returns : goal.returns
unfolding first_of found number_of mapped
returns t c =
    let a = c.args in
    let is : c.in-Ok.value.0 ≡ first_of c.match-node.joins = elim c.match-node.branch [ in-Not w ↦ w.in-Not.is ∙ ap first_of (sym w.joins-is) | in-Two w ↦ w.in-Two.is ∙ ap first_of (sym w.joins-is) ] in
    let w = whole a.n a.left a.at a.packed.now a.view c.in-Ok.value.1 c.if-left-eq0.false c.in-Ok.ensures (is ∙ ap first_of c.in-Some.is) in
    let p = objective a.n (in_theory a.view) (a.left - 1) in
    let f = sym (read_true a.view (p a.packed.now c.in-Ok.value.1)) ∙ sym c.in-Ok-evaluate.ensures in
    let s = sym (read_true a.view (p a.packed.now c.in-Ok-evaluate.value.1)) ∙ sym c.in-Ok-evaluate-2.ensures in
    ap (λ (x : States). got x c.in-Ok-evaluate-2.value.1) c.joined.ensures ∙ sym (w ∙ set_two (from_of a.view) (to_of a.view) a.n (in_theory a.view) p a.packed.now c.in-Ok.value.1 c.in-Some.connective f s)
