-- Laws of the header as the code reads it: the states of the constraint as a set, and what is kept of the whole. Assumes nothing.
use Prim.Native.Nat.{ℕ, ◌<◌, ◌^◌}
use mathlib.Core.Path.{◌≡◌, refl, sym, ap, ap₂, ◌∙◌}
use mathlib.Core.List.{List}
use mathlib.Core.Bool.{Bool, true, false, ◌&&◌}
use lib.Dec.{ltb}
use borrow.Author.Tests.{eq-eqb, ne_eqb}
use Rattle.std.specs.Prelude.{if◌then◌else◌}
use Rattle.lists.proofs.ListLaws.{and_true}
use Rattle.states.specs.declared.States.{States}
use Rattle.states.specs.Sets.{member, set_of}
use Rattle.states.proofs.SetLaws.{member_set_of, set_cong}
use Rattle.format.specs.Syntax.{Objective, top}
use Rattle.format.specs.Truth.{in_space, truth, holds}
use Rattle.format.specs.Format.{Answer, gives, refused, Read, got, fault, mapped, deepest, is_edition, objective, constraint_over, Header}
use Rattle.format.proofs.FieldLaws.{constraint_stands, constraint_absent}
use Rattle.format.proofs.ReaderLaws.{mapped_got, mapped_fault}
use Rattle.reader.specs.Answers.{edition_taken, space_set, spaced, states_in}
use Rattle.reader.specs.declared.formula.View.{View}

-- A number that is taken is that of an edition that is read, and one that isn't is refused with 3.
module _ (number : ℕ) where
  pub taken_is : {k : ℕ} → gives k ≡ edition_taken number → (k ≡ number) × (is_edition k ≡ true)
  unfolding edition_taken
  taken_is {k} e = go (is_edition number) refl e
    where
      go : (b : Bool) → is_edition number ≡ b → gives k ≡ (if b then gives number else refused 3) → (k ≡ number) × (is_edition k ≡ true)
      go true t f = let same : k ≡ number = cc in (same, ap is_edition same ∙ t)
      go false t f = absurd cc

  pub taken_out : {r : ℕ} → ◌≡◌ {A = Answer ℕ} (refused r) (edition_taken number) → (r ≡ 3) × (is_edition number ≡ false)
  unfolding edition_taken
  taken_out {r} e = go (is_edition number) refl e
    where
      go : (b : Bool) → is_edition number ≡ b → ◌≡◌ {A = Answer ℕ} (refused r) (if b then gives number else refused 3) → (r ≡ 3) × (is_edition number ≡ false)
      go true t f = absurd cc
      go false t f = (cc, t)

-- The states of the constraint at a position.
module _ (edition n : ℕ) (bytes : List ℕ) (p : ℕ) where
  -- An edition without one: all states over n facts.
  pub space_all : {all : States} → (edition ≡ 2 → ⊥) → all ≡ set_of (λ s. ltb s (2 ^ n)) → got all p ≡ mapped (space_set n) (constraint_over edition n bytes p)
  unfolding space_set in_space holds truth mapped
  space_all other e =
      ap (λ (x : States). got x p) (e ∙ set_cong (λ s. ltb s (2 ^ n)) (in_space n top) (λ s l. and_true (ltb s (2 ^ n))))
      ∙ sym (ap (mapped (space_set n)) (constraint_absent edition n bytes p (ne_eqb edition 2 other)))

  module _ (e : edition ≡ 2) where
    -- A constraint that is refused.
    pub space_refused : {r : ℕ} → mapped (states_in View.States) (objective n false deepest bytes p) ≡ fault r → fault r ≡ mapped (space_set n) (constraint_over edition n bytes p)
    unfolding mapped
    space_refused f =
        sym (ap (mapped (space_set n)) (constraint_stands edition n bytes p (eq-eqb edition 2 e) ∙ mapped_fault (states_in View.States) (objective n false deepest bytes p) f))

    -- One that is read: of all states over n facts those in which it holds.
    pub space_read : {set all common : States} {q : ℕ} → mapped (states_in View.States) (objective n false deepest bytes p) ≡ got set q → all ≡ set_of (λ s. ltb s (2 ^ n))
        → common ≡ set_of (λ s. member all s && member set s) → got common q ≡ mapped (space_set n) (constraint_over edition n bytes p)
    unfolding mapped space_set in_space holds states_in
    space_read {set} {all} {common} {q} f g k =
        let w = mapped_got (states_in View.States) (objective n false deepest bytes p) f in
        let c = w.0 in
        let below-is : ((s : ℕ) → s < 256 → member all s ≡ ltb s (2 ^ n)) = λ s l. ap (λ (x : States). member x s) g ∙ member_set_of (λ s. ltb s (2 ^ n)) s l in
        let held : ((s : ℕ) → s < 256 → member set s ≡ truth c s s) = λ s l. ap (λ (x : States). member x s) (sym w.2) ∙ member_set_of (λ s. truth c s s) s l in
        ap (λ (x : States). got x q) (k ∙ set_cong (λ s. member all s && member set s) (in_space n c) (λ s l. ap₂ (λ (a b : Bool). a && b) (below-is s l) (held s l)))
        ∙ sym (ap (mapped (space_set n)) (constraint_stands edition n bytes p (eq-eqb edition 2 e) ∙ w.1))

-- What is kept of a header.
pub header_spaced : {o : Read Header} {edition n k p : ℕ} {space : States} (constraint : Objective) → space_set n constraint ≡ space
    → o ≡ got (record { edition = edition; facts = n; constraint = constraint; actions = k }) p
    → got (record { edition = edition; facts = n; space = space; actions = k }) p ≡ mapped spaced o
unfolding spaced mapped
header_spaced {edition = edition} {n} {k} {p} constraint e f =
    ap (λ (x : States). got (record { edition = edition; facts = n; space = x; actions = k }) p) (sym e) ∙ sym (ap (mapped spaced) f)
