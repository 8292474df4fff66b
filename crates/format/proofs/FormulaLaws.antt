-- Laws of the objective formulas that specs/Format.antt reads: more levels read them alike, and they end inside the bytes. Assumes nothing.
use Prim.Native.Nat.{ℕ, zero, suc, ◌+◌, ◌*◌, ◌≤◌}
use mathlib.Core.Path.{◌≡◌, refl}
use mathlib.Core.List.{List}
use mathlib.Core.Bool.{Bool}
use native.Mathlib.Omega.{arith}
use lib.Dec.{ltb, eqb}
use lib.ListN.{length}
use Rattle.format.specs.Syntax.{Objective, bottom, top, fact, new_fact, negation, conjunction, disjunction, equivalence}
use Rattle.format.specs.Format.{got, Reader, ◌>>=◌, give, field, fact_number, objective_behind, objective}
use Rattle.format.proofs.FormatLaws.{Finds, finds_give, finds_refuse, finds_if, finds_check, finds_behind, Keeps, keeps_if, keeps_refuse, keeps_behind, keeps_levels, finds_field}

-- What is read alike is kept.
kept : {A : Type 0} (m : Reader A) → Keeps m m
kept m bytes p a q e = e

-- Two parts and a value made of them.
abbrev both : {A B : Type 0} → Reader A → (A → A → B) → Reader B
both part make = part >>= λ f. part >>= λ g. give (make f g)

both_keeps : {A B : Type 0} (part part' : Reader A) (make : A → A → B) → Keeps part part' → Keeps (both part make) (both part' make)
both_keeps part part' make keeps = keeps_behind part part' _ _ keeps (λ f. keeps_behind part part' _ _ keeps (λ g. kept (give (make f g))))

-- One level of an objective formula, whose parts another reader keeps.
objective_behind_keeps : (n : ℕ) (theory : Bool) (part part' : Reader Objective) → Keeps part part' → (tag : ℕ)
    → Keeps (objective_behind n theory part tag) (objective_behind n theory part' tag)
unfolding objective_behind
objective_behind_keeps n theory part part' keeps tag =
    keeps_if (eqb tag 0) _ _ _ _ (kept _)
    (keeps_if (eqb tag 1) _ _ _ _ (kept _)
    (keeps_if (eqb tag 2) _ _ _ _ (kept _)
    (keeps_if (eqb tag 3) _ _ _ _ (kept _)
    (keeps_if (eqb tag 4) _ _ _ _ (keeps_behind part part' _ _ keeps (λ f. kept (give (negation f))))
    (keeps_if (eqb tag 5) _ _ _ _ (both_keeps part part' conjunction keeps)
    (keeps_if (eqb tag 6) _ _ _ _ (both_keeps part part' disjunction keeps)
    (both_keeps part part' equivalence keeps)))))))

objective_more : (n : ℕ) (theory : Bool) (d : ℕ) → Keeps (objective n theory d) (objective n theory (suc d))
unfolding objective
objective_more n theory zero = keeps_refuse 8 (objective n theory 1)
objective_more n theory (suc d) = keeps_behind (field 3) (field 3) _ _ (kept (field 3)) (objective_behind_keeps n theory (objective n theory d) (objective n theory (suc d)) (objective_more n theory d))

-- An objective formula that is read is read alike with more levels.
pub objective_levels : (n : ℕ) (theory : Bool) (d d' : ℕ) → d ≤ d' → Keeps (objective n theory d) (objective n theory d')
objective_levels n theory = keeps_levels (objective n theory) (objective_more n theory)

-- From a position inside the bytes on, and still inside.
abbrev Onward : {A : Type 0} → List ℕ → ℕ → A → ℕ → Type 0
Onward bytes p a q = (p ≤ q) × (q ≤ 8 * length bytes)

-- A fact number ends inside the bytes.
number_onward : (n : ℕ) (bytes : List ℕ) (p : ℕ) → Finds bytes p (Onward bytes p) (fact_number n)
unfolding fact_number
number_onward n bytes p =
    finds_field bytes p (Onward bytes p) 3 (p + 3) refl _ (λ i e low.
    finds_check bytes (p + 3) (Onward bytes p) (ltb i n) 6 _ (λ t. finds_give bytes (p + 3) (Onward bytes p) i (omega arith, low)))

-- One level of an objective formula, whose parts end inside the bytes.
objective_behind_onward : (n : ℕ) (theory : Bool) (part : Reader Objective) (bytes : List ℕ) → ((p : ℕ) (f : Objective) (q : ℕ) → part bytes p ≡ got f q → (p ≤ q) × (q ≤ 8 * length bytes)) → (p : ℕ) → p ≤ 8 * length bytes → (tag : ℕ)
    → Finds bytes p (Onward bytes p) (objective_behind n theory part tag)
unfolding objective_behind
objective_behind_onward n theory part bytes onward p low tag =
    finds_if bytes p Q (eqb tag 0) _ _ (λ t. finds_give bytes p Q bottom (omega arith, low))
    (λ t. finds_if bytes p Q (eqb tag 1) _ _ (λ u. finds_give bytes p Q top (omega arith, low))
    (λ u. finds_if bytes p Q (eqb tag 2) _ _ (λ v. number fact)
    (λ v. finds_if bytes p Q (eqb tag 3) _ _ (λ w. finds_check bytes p Q theory 7 _ (λ x. number new_fact))
    (λ w. finds_if bytes p Q (eqb tag 4) _ _ (λ x. finds_behind bytes p Q part _ (λ f r e. let g = onward p f r e in finds_give bytes r Q (negation f) g))
    (λ x. finds_if bytes p Q (eqb tag 5) _ _ (λ y. two conjunction)
    (λ y. finds_if bytes p Q (eqb tag 6) _ _ (λ z. two disjunction)
    (λ z. two equivalence)))))))
  where
    Q : Objective → ℕ → Type 0
    Q = Onward bytes p

    number : (make : ℕ → Objective) → Finds bytes p Q (fact_number n >>= λ i. give (make i))
    number make = finds_behind bytes p Q (fact_number n) _ (λ i r e. finds_give bytes r Q (make i) ((number_onward n bytes p).found i r e))

    two : (make : Objective → Objective → Objective) → Finds bytes p Q (both part make)
    two make =
        finds_behind bytes p Q part _ (λ f r e. finds_behind bytes r Q part _ (λ g r' e'.
        let x = onward p f r e in
        let y = onward r g r' e' in
        finds_give bytes r' Q (make f g) (omega arith, omega arith)))

-- An objective formula that is read takes 3 bits at least, and ends inside the bytes.
pub objective_onward : (n : ℕ) (theory : Bool) (d : ℕ) (bytes : List ℕ) (p : ℕ) → Finds bytes p (λ f q. (p + 3 ≤ q) × (q ≤ 8 * length bytes)) (objective n theory d)
unfolding objective
objective_onward n theory zero bytes p = finds_refuse bytes p _ 8
objective_onward n theory (suc d) bytes p =
    finds_field bytes p _ 3 (p + 3) refl _ (λ tag e low.
    objective_behind_onward n theory (objective n theory d) bytes (λ i f q h. let w = (objective_onward n theory d bytes i).found f q h in (omega arith, w.1)) (p + 3) low tag)
