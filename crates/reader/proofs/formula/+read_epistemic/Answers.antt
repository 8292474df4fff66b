-- `reader::formula::read_epistemic` meets its contract: each return by the law of the first node that led there. The measure is the levels left. Assumes nothing.
use Prim.Native.Nat.{ℕ}
use mathlib.Core.Path.{◌≡◌, sym, ap, ◌∙◌}
use mathlib.Core.Logic.{◌⊎◌, ⊎_elim, inl, inr}
use Rattle.format.specs.Format.{Read, got, mapped, EpistemicNode}
use Rattle.format.proofs.ReaderLaws.{found_as, epistemic_none}
use Rattle.reader.specs.Answers.{number_of, found, epistemic_node_of, in_theory}
use Rattle.reader.specs.declared.nodes.EpistemicNode.{EpistemicNode as EpistemicFound}
use Rattle.reader.specs.Method.{end_read, ending}
use Rattle.reader.proofs.EndLaws.{node_refused, known_ends, not_known_ends, pair_refused, pair_ends}
use Rattle.reader.proofs.formula.+read_epistemic.Goals as goal

pub returns-then-left-eq0 : goal.returns-then-left-eq0
unfolding end_read number_of mapped
returns-then-left-eq0 t c = let a = c.args in
    sym (ap (mapped ending) (epistemic_none a.n a.packed.now a.at a.left c.if-left-eq0.true))

pub returns-in-Err : goal.returns-in-Err
unfolding end_read found mapped
returns-in-Err t c = let a = c.args in
    sym (node_refused a.n a.left a.packed.now a.at c.if-left-eq0.false (sym c.in-Err.ensures))

-- A first node that is one of two.
either : {node p q : EpistemicFound} {end : ℕ} {x : Read EpistemicNode} → got (epistemic_node_of node) end ≡ x → (node ≡ p) ⊎ (node ≡ q)
    → (x ≡ got (epistemic_node_of p) end) ⊎ (x ≡ got (epistemic_node_of q) end)
either e = ⊎_elim (λ h. inl (found_as epistemic_node_of e h)) (λ h. inr (found_as epistemic_node_of e h))

pub returns-in-Known : goal.returns-in-Known
unfolding found mapped epistemic_node_of in_theory
returns-in-Known t c = let a = c.args in
    c.read_objective.ensures
    ∙ ⊎_elim (λ e. sym (known_ends a.n a.left a.packed.now a.at c.if-left-eq0.false e)) (λ e. sym (not_known_ends a.n a.left a.packed.now a.at c.if-left-eq0.false e))
    (either c.in-Ok.ensures c.in-Known.is)

pub returns-in-Err-read_epistemic : goal.returns-in-Err-read_epistemic
unfolding end_read found mapped epistemic_node_of
returns-in-Err-read_epistemic t c = let a = c.args in
    sym (pair_refused a.n a.left a.packed.now a.at c.if-left-eq0.false (either c.in-Ok.ensures c.in-AllOf.is) (sym c.in-Err-read_epistemic.ensures))

pub returns-in-Ok-read_epistemic : goal.returns-in-Ok-read_epistemic
unfolding end_read found mapped epistemic_node_of
returns-in-Ok-read_epistemic t c = let a = c.args in
    c.read_epistemic-in-AllOf.ensures
    ∙ sym (pair_ends a.n a.left a.packed.now a.at c.if-left-eq0.false (either c.in-Ok.ensures c.in-AllOf.is) (sym c.in-Ok-read_epistemic.ensures))
