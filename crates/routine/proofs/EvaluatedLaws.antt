-- What evaluating gives where a formula stands. Assumes nothing.
use Prim.Native.Nat.{ℕ}
use mathlib.Core.Path.{◌≡◌, refl, ap, ◌∙◌}
use mathlib.Core.List.{List}
use native.Mathlib.Omega.{arith}
use Rattle.states.specs.declared.States.{States}
use Rattle.states.specs.Sets.{set_of}
use Rattle.format.specs.Syntax.{Objective}
use Rattle.format.specs.Truth.{holds}
use Rattle.format.specs.Format.{Read, got, fault, deepest, mapped, objective}
use Rattle.format.specs.Standing.{ObjectiveAt}
use Rattle.reader.specs.Answers.{in_theory, states_in}
use Rattle.reader.specs.declared.formula.View.{View}

module _ (bytes : List ℕ) (n : ℕ) (view : View) (p : ℕ) where
  abbrev evaluated : Read States
  evaluated = mapped (states_in view) (objective n (in_theory view) deepest bytes p)

  standing : (f : Objective) (q : ℕ) → ObjectiveAt bytes n (in_theory view) f p q → evaluated ≡ got (states_in view f) q
  unfolding mapped
  standing f q h = ap (mapped (states_in view)) h

  -- Its set and where it ends.
  pub found : {set : States} {end : ℕ} → got set end ≡ evaluated → (f : Objective) (q : ℕ) → ObjectiveAt bytes n (in_theory view) f p q → (set ≡ states_in view f) × (end ≡ q)
  found {set} {end} e f q h = let x : got set end ≡ got (states_in view f) q = e ∙ standing f q h in (cc, cc)

  -- No refusal.
  pub never_refused : {k : ℕ} {A : Type 0} → fault k ≡ evaluated → (f : Objective) (q : ℕ) → ObjectiveAt bytes n (in_theory view) f p q → A
  never_refused {k} e f q h =
      let x : ◌≡◌ {A = Read States} (fault k) (got (states_in view f) q) = e ∙ standing f q h in
      let z : ◌≡◌ {A = ℕ} 0 1 = cc in absurd (omega arith)

-- The states in which a formula holds, as their set in the view of all states.
pub states_hold : (f : Objective) → states_in View.States f ≡ set_of (λ s. holds f s)
unfolding states_in holds
states_hold f = refl
