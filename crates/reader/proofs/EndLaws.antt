-- Laws of where a reading ends, whatever is made of it; and where an epistemic formula ends, by its first node. Assumes nothing.
use Prim.Native.Nat.{ℕ, ◌-◌}
use mathlib.Core.Path.{◌≡◌, ap, ◌∙◌}
use mathlib.Core.Logic.{◌⊎◌, ⊎_elim}
use mathlib.Core.List.{List}
use mathlib.Core.Bool.{false}
use Rattle.format.specs.Syntax.{known, not_known, all_of, any_of}
use Rattle.format.specs.Format.{Read, got, fault, mapped, objective, known_node, not_known_node, all_of_node, any_of_node, epistemic_node, epistemic}
use Rattle.format.proofs.ReaderLaws.{mapped_got, mapped_fault, mapped_twice, epistemic_refused, epistemic_node_law, known_behind, not_known_behind, all_of_behind, any_of_behind, all_of_refused, any_of_refused}
use Rattle.reader.specs.Method.{ending}

-- Where a value was made, the reading ends.
pub also_ends : {A B : Type 0} (g : A → B) (o : Read A) {b : B} {q : ℕ} → mapped g o ≡ got b q → mapped ending o ≡ got tt q
unfolding mapped ending
also_ends g o e = ap (mapped ending) (mapped_got g o e).1

-- Where a reading ends doesn't depend on what is made of it.
pub ends_mapped : {A B : Type 0} (f : A → B) (x : Read A) → mapped ending (mapped f x) ≡ mapped ending x
unfolding ending
ends_mapped f x = mapped_twice f ending x

-- An epistemic formula with levels left.
module _ (n d : ℕ) (bytes : List ℕ) (p : ℕ) (some : d ≡ 0 → ⊥) where
  -- It is refused where its first node is.
  pub node_refused : {r : ℕ} → epistemic_node bytes p ≡ fault r → mapped ending (epistemic n d bytes p) ≡ fault r
  unfolding mapped
  node_refused e = ap (mapped ending) (epistemic_refused n bytes p d some e)

  module _ {q : ℕ} where
    -- Known and not known end with their objective formula.
    pub known_ends : epistemic_node bytes p ≡ got known_node q → mapped ending (epistemic n d bytes p) ≡ mapped ending (objective n false (d - 1) bytes q)
    known_ends e = ap (mapped ending) (epistemic_node_law n bytes p d some e ∙ known_behind _ _ bytes q) ∙ ends_mapped known (objective n false (d - 1) bytes q)

    pub not_known_ends : epistemic_node bytes p ≡ got not_known_node q → mapped ending (epistemic n d bytes p) ≡ mapped ending (objective n false (d - 1) bytes q)
    not_known_ends e = ap (mapped ending) (epistemic_node_law n bytes p d some e ∙ not_known_behind _ _ bytes q) ∙ ends_mapped not_known (objective n false (d - 1) bytes q)

    -- And and or are refused with their first part, and end with their second.
    module _ (e : (epistemic_node bytes p ≡ got all_of_node q) ⊎ (epistemic_node bytes p ≡ got any_of_node q)) where
      pub pair_refused : {r : ℕ} → mapped ending (epistemic n (d - 1) bytes q) ≡ fault r → mapped ending (epistemic n d bytes p) ≡ fault r
      unfolding mapped
      pair_refused f =
          let first = mapped_fault ending (epistemic n (d - 1) bytes q) f in
          ⊎_elim (λ h. ap (mapped ending) (epistemic_node_law n bytes p d some h ∙ all_of_refused _ _ bytes q first))
          (λ h. ap (mapped ending) (epistemic_node_law n bytes p d some h ∙ any_of_refused _ _ bytes q first)) e

      pub pair_ends : {i : ℕ} → mapped ending (epistemic n (d - 1) bytes q) ≡ got tt i → mapped ending (epistemic n d bytes p) ≡ mapped ending (epistemic n (d - 1) bytes i)
      pair_ends {i} f =
          let first = mapped_got ending (epistemic n (d - 1) bytes q) f in
          ⊎_elim
          (λ h. ap (mapped ending) (epistemic_node_law n bytes p d some h ∙ all_of_behind _ _ bytes q first.1) ∙ ends_mapped (all_of first.0) (epistemic n (d - 1) bytes i))
          (λ h. ap (mapped ending) (epistemic_node_law n bytes p d some h ∙ any_of_behind _ _ bytes q first.1) ∙ ends_mapped (any_of first.0) (epistemic n (d - 1) bytes i)) e
