-- Laws of the sets that packed objective formulas have: by the first node, from the sets of the parts. Assumes nothing.
use Prim.Native.Nat.{ℕ, ◌≤◌}
use mathlib.Core.Path.{◌≡◌, refl, sym, ap, ap₂, ◌∙◌}
use mathlib.Core.List.{List}
use mathlib.Core.Bool.{Bool, true, false, not, ◌&&◌, ◌||◌, beq}
use lib.ListN.{length}
use Rattle.states.specs.declared.States.{States}
use Rattle.states.specs.Sets.{member, set_of}
use Rattle.states.proofs.SetLaws.{member_set_of, set_cong}
use Rattle.reader.specs.declared.formula.View.{View}
use Rattle.format.specs.Syntax.{Objective, fact, new_fact, negation, conjunction, disjunction, equivalence}
use Rattle.format.specs.Truth.{truth}
use Rattle.format.specs.Format.{Read, got, fault, Reader, ◌>>=◌, mapped, give, refuse, check, most_bytes, deepest, fact_number, objective_behind, objective, of_sheet}
use Rattle.reader.specs.Answers.{in_theory, states_in}
use Rattle.reader.specs.Method.{fact_of, tag_of, joins}
use Rattle.reader.specs.declared.nodes.ObjectiveNode.{ObjectiveNode}
use Rattle.reader.specs.declared.nodes.Connective.{Connective}
use Rattle.format.proofs.FormatLaws.{behind_got, behind_fault}
use Rattle.format.specs.Standing.{ObjectiveAt}
use Rattle.format.proofs.ReaderLaws.{mapped_got, mapped_fault, mapped_same, mapped_give, sheet_short}

module _ (from to : ℕ → ℕ) where
  -- The set of the states t at whose two states, `from t` and `to t`, a formula is true.
  abbrev pub true_at : Objective → States
  true_at f = set_of (λ t. truth f (from t) (to t))

  -- A negation has the states that its part doesn't have.
  true_not : (f : Objective) → true_at (negation f) ≡ set_of (λ t. not (member (true_at f) t))
  unfolding truth
  true_not f =
      set_cong (λ t. not (truth f (from t) (to t))) (λ t. not (member (true_at f) t))
      (λ t h. ap not (sym (member_set_of (λ t. truth f (from t) (to t)) t h)))

  -- A formula of two parts has its states by theirs, if its truth goes by theirs.
  true_two : (make : Objective → Objective → Objective) (op : Bool → Bool → Bool) (f g : Objective)
      → ((x y : ℕ) → truth (make f g) x y ≡ op (truth f x y) (truth g x y)) → true_at (make f g) ≡ set_of (λ t. op (member (true_at f) t) (member (true_at g) t))
  true_two make op f g e =
      set_cong (λ t. truth (make f g) (from t) (to t)) (λ t. op (member (true_at f) t) (member (true_at g) t))
      (λ t h. e (from t) (to t) ∙ ap₂ op (sym (member_set_of (λ t. truth f (from t) (to t)) t h)) (sym (member_set_of (λ t. truth g (from t) (to t)) t h)))

  module _ (n : ℕ) (theory : Bool) (part : Reader Objective) (bytes : List ℕ) (q : ℕ) where
    -- The set of what is read behind a first node.
    abbrev pub behind : ObjectiveNode → Read States
    behind node = mapped true_at (objective_behind n theory part (tag_of node) bytes q)

    -- False and true.
    pub set_constant : (value : Bool) → behind (ObjectiveNode.Constant value) ≡ got (set_of (λ t. value)) q
    unfolding objective_behind mapped truth tag_of
    set_constant false = refl
    set_constant true = refl

    -- A fact.
    pub set_fact : behind ObjectiveNode.Fact ≡ mapped (λ i. true_at (fact_of false i)) (fact_number n bytes q)
    unfolding objective_behind fact_of tag_of
    set_fact = mapped_give true_at (fact_number n) fact bytes q

    -- A new fact, in a theory.
    pub set_new : theory ≡ true → behind ObjectiveNode.NewFact ≡ mapped (λ i. true_at (fact_of true i)) (fact_number n bytes q)
    unfolding objective_behind check fact_of tag_of
    set_new h = rw h (mapped_give true_at (fact_number n) new_fact bytes q)

    -- A new fact outside a theory is refused.
    pub set_outside : theory ≡ false → behind ObjectiveNode.NewFact ≡ fault 7
    unfolding objective_behind check refuse mapped tag_of
    set_outside h = rw h

    -- A negation, from its part's set; the refusal of the part stands.
    pub set_not : {a : States} {p : ℕ} → mapped true_at (part bytes q) ≡ got a p → behind ObjectiveNode.Not ≡ got (set_of (λ t. not (member a t))) p
    unfolding objective_behind mapped tag_of
    set_not {a} {p} h =
        let first = mapped_got true_at (part bytes q) h in
        mapped_give true_at part negation bytes q ∙ ap (mapped (λ f. true_at (negation f))) first.1
        ∙ ap (λ (x : States). got x p) (true_not first.0 ∙ ap (λ (x : States). set_of (λ t. not (member x t))) first.2)

    pub not_refused : {r : ℕ} → mapped true_at (part bytes q) ≡ fault r → behind ObjectiveNode.Not ≡ fault r
    unfolding objective_behind mapped tag_of
    not_refused h = ap (mapped true_at) (behind_fault part (λ f. give (negation f)) bytes q (mapped_fault true_at (part bytes q) h))

    -- The reader of a formula of two parts.
    abbrev two : (Objective → Objective → Objective) → Reader Objective
    two make = part >>= λ f. part >>= λ g. give (make f g)

    two_read : (make : Objective → Objective → Objective) {f g : Objective} {p e : ℕ} → part bytes q ≡ got f p → part bytes p ≡ got g e → two make bytes q ≡ got (make f g) e
    unfolding give
    two_read make {f} {g} {p} {e} h k = behind_got part (λ f. part >>= λ g. give (make f g)) bytes q h ∙ behind_got part (λ g. give (make f g)) bytes p k

    two_set : (make : Objective → Objective → Objective) (op : Bool → Bool → Bool)
        → ((f g : Objective) (x y : ℕ) → truth (make f g) x y ≡ op (truth f x y) (truth g x y))
        → {a b : States} {p e : ℕ} → mapped true_at (part bytes q) ≡ got a p → mapped true_at (part bytes p) ≡ got b e
        → mapped true_at (two make bytes q) ≡ got (set_of (λ t. op (member a t) (member b t))) e
    unfolding mapped
    two_set make op same {a} {b} {p} {e} h k =
        let first = mapped_got true_at (part bytes q) h in
        let second = mapped_got true_at (part bytes p) k in
        ap (mapped true_at) (two_read make first.1 second.1)
        ∙ ap (λ (x : States). got x e)
        (true_two make op first.0 second.0 (same first.0 second.0)
        ∙ ap₂ (λ (x y : States). set_of (λ t. op (member x t) (member y t))) first.2 second.2)

    -- A formula of two parts, from their sets.
    pub set_two : (connective : Connective) {a b : States} {p e : ℕ} → mapped true_at (part bytes q) ≡ got a p → mapped true_at (part bytes p) ≡ got b e
        → behind (ObjectiveNode.Two connective) ≡ got (set_of (λ t. joins connective (member a t) (member b t))) e
    unfolding objective_behind truth tag_of joins
    set_two Connective.And h k = two_set conjunction ◌&&◌ (λ f g x y. refl) h k
    set_two Connective.Or h k = two_set disjunction ◌||◌ (λ f g x y. refl) h k
    set_two Connective.Same h k = two_set equivalence beq (λ f g x y. refl) h k

    -- The refusal of its first part stands,
    pub first_refused : (connective : Connective) {r : ℕ} → mapped true_at (part bytes q) ≡ fault r → behind (ObjectiveNode.Two connective) ≡ fault r
    unfolding objective_behind mapped tag_of
    first_refused connective {r} h = go connective
      where
        none : (make : Objective → Objective → Objective) → mapped true_at (two make bytes q) ≡ fault r
        none make = ap (mapped true_at) (behind_fault part (λ f. part >>= λ g. give (make f g)) bytes q (mapped_fault true_at (part bytes q) h))

        go : (c : Connective) → behind (ObjectiveNode.Two c) ≡ fault r
        go Connective.And = none conjunction
        go Connective.Or = none disjunction
        go Connective.Same = none equivalence

    -- and that of its second.
    pub second_refused : (connective : Connective) {a : States} {p r : ℕ} → mapped true_at (part bytes q) ≡ got a p → mapped true_at (part bytes p) ≡ fault r
        → behind (ObjectiveNode.Two connective) ≡ fault r
    unfolding objective_behind mapped tag_of
    second_refused connective {a} {p} {r} h k = go connective
      where
        none : (make : Objective → Objective → Objective) → mapped true_at (two make bytes q) ≡ fault r
        none make =
            let first = mapped_got true_at (part bytes q) h in
            ap (mapped true_at)
            (behind_got part (λ f. part >>= λ g. give (make f g)) bytes q first.1
            ∙ behind_fault part (λ g. give (make first.0 g)) bytes p (mapped_fault true_at (part bytes p) k))

        go : (c : Connective) → behind (ObjectiveNode.Two c) ≡ fault r
        go Connective.And = none conjunction
        go Connective.Or = none disjunction
        go Connective.Same = none equivalence

-- The state and the next state at which a view has a formula evaluated for its state t.
unfoldable pub from_of : View → ℕ → ℕ
from_of View.States t = t
from_of (View.Next s) t = s

unfoldable pub to_of : View → ℕ → ℕ
to_of View.States t = t
to_of (View.Next s) t = t

-- The set of a formula in a view is the set of the states at which it is true there.
pub states_true : (view : View) (f : Objective) → states_in view f ≡ true_at (from_of view) (to_of view) f
unfolding states_in from_of to_of
states_true View.States f = refl
states_true (View.Next s) f = refl

-- So are the sets that are read.
pub read_true : (view : View) (x : Read Objective) → mapped (states_in view) x ≡ mapped (true_at (from_of view) (to_of view)) x
read_true view x = mapped_same (states_in view) (true_at (from_of view) (to_of view)) (states_true view) x

pub facts_true : (view : View) (fresh : Bool) (x : Read ℕ) → mapped (λ i. states_in view (fact_of fresh i)) x ≡ mapped (λ i. true_at (from_of view) (to_of view) (fact_of fresh i)) x
facts_true view fresh x = mapped_same (λ i. states_in view (fact_of fresh i)) (λ i. true_at (from_of view) (to_of view) (fact_of fresh i)) (λ i. states_true view (fact_of fresh i)) x

-- What `objective_states` promises of a formula that stands: its set in the view, and where it ends.
pub standing_evaluated : (bytes : List ℕ) (n : ℕ) (view : View) (f : Objective) (p q : ℕ) → length bytes ≤ most_bytes → ObjectiveAt bytes n (in_theory view) f p q
    → mapped (states_in view) (of_sheet (objective n (in_theory view) deepest) bytes p) ≡ got (states_in view f) q
unfolding mapped
standing_evaluated bytes n view f p q short e = ap (mapped (states_in view)) (sym (sheet_short (objective n (in_theory view) deepest) bytes p short e))
