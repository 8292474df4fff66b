-- Programs to be run one after the other: what is left of them at the next action or at the end, and that this keeps the policy. Assumes nothing.
use mathlib.Core.Path.{◌≡◌, refl}
use mathlib.Core.List.{List, [], ◌∷◌}
use mathlib.Core.Bool.{Bool, true, false}
use Rattle.std.specs.Prelude.{if◌then◌else◌}
use Rattle.format.specs.Syntax.{Epistemic, Program, end, act, branch, Sheet}
use Rattle.semantics.specs.Runs.{History, holds_after}
use Rattle.semantics.specs.Routine.{Policy, done, policy}

-- The policy of programs that are run one after the other.
unfoldable pub policies : Sheet → List Program → History → Policy
unfolding policy
policies sheet [] h = done
policies sheet (p ∷ ps) h = policy sheet p (policies sheet ps) h

-- What is left when a program, and the programs ps behind it, come to an action or to the end, by the truth of the conditions; `onward` is what is left if the
-- program ends.
unfoldable pub left_of : (truth : Epistemic → Bool) → Program → (ps onward : List Program) → List Program
left_of truth end ps onward = onward
left_of truth (act a rest) ps onward = act a rest ∷ ps
left_of truth (branch f y z rest) ps onward =
    if truth f then left_of truth y (rest ∷ ps) (left_of truth rest ps onward) else left_of truth z (rest ∷ ps) (left_of truth rest ps onward)

unfoldable pub all_left : (truth : Epistemic → Bool) → List Program → List Program
unfolding left_of
all_left truth [] = []
all_left truth (p ∷ ps) = left_of truth p ps (all_left truth ps)

-- The policy stays the same.
module _ (sheet : Sheet) (h : History) where
  left_policy : (p : Program) (ps onward : List Program) → policies sheet onward h ≡ policies sheet ps h
      → policies sheet (left_of (holds_after sheet h) p ps onward) h ≡ policy sheet p (policies sheet ps) h
  unfolding left_of policies policy
  left_policy end ps onward e = e
  left_policy (act a rest) ps onward e = refl
  left_policy (branch f y z rest) ps onward e =
      go (holds_after sheet h f) (left_policy y (rest ∷ ps) _ (left_policy rest ps onward e)) (left_policy z (rest ∷ ps) _ (left_policy rest ps onward e))
    where
      on : Program → List Program
      on x = left_of (holds_after sheet h) x (rest ∷ ps) (left_of (holds_after sheet h) rest ps onward)

      go : (b : Bool) → policies sheet (on y) h ≡ policy sheet y (policies sheet (rest ∷ ps)) h → policies sheet (on z) h ≡ policy sheet z (policies sheet (rest ∷ ps)) h
          → policies sheet (if b then on y else on z) h ≡ (if b then policy sheet y (policy sheet rest (policies sheet ps)) h else policy sheet z (policy sheet rest (policies sheet ps)) h)
      go true u v = u
      go false u v = v

  pub all_policy : (ps : List Program) → policies sheet (all_left (holds_after sheet h) ps) h ≡ policies sheet ps h
  unfolding all_left policies
  all_policy [] = refl
  all_policy (p ∷ ps) = left_policy p ps (all_left (holds_after sheet h) ps) (all_policy ps)

-- What is left is nothing, or begins with an action.
unfoldable pub Begun : List Program → Type 0
Begun [] = Unit {0}
Begun (end ∷ ps) = ⊥
Begun (act a rest ∷ ps) = Unit {0}
Begun (branch f y z rest ∷ ps) = ⊥

module _ (truth : Epistemic → Bool) where
  left_begun : (p : Program) (ps onward : List Program) → Begun onward → Begun (left_of truth p ps onward)
  unfolding left_of Begun
  left_begun end ps onward b = b
  left_begun (act a rest) ps onward b = tt
  left_begun (branch f y z rest) ps onward b =
      go (truth f) (left_begun y (rest ∷ ps) _ (left_begun rest ps onward b)) (left_begun z (rest ∷ ps) _ (left_begun rest ps onward b))
    where
      on : Program → List Program
      on x = left_of truth x (rest ∷ ps) (left_of truth rest ps onward)

      go : (c : Bool) → Begun (on y) → Begun (on z) → Begun (if c then on y else on z)
      go true u v = u
      go false u v = v

  pub all_begun : (ps : List Program) → Begun (all_left truth ps)
  unfolding all_left Begun
  all_begun [] = tt
  all_begun (p ∷ ps) = left_begun p ps (all_left truth ps) (all_begun ps)

-- The same by the same truths.
module _ (t u : Epistemic → Bool) (same : (f : Epistemic) → t f ≡ u f) where
  left_same : (p : Program) (ps onward onward' : List Program) → onward ≡ onward' → left_of t p ps onward ≡ left_of u p ps onward'
  unfolding left_of
  left_same end ps onward onward' e = e
  left_same (act a rest) ps onward onward' e = refl
  left_same (branch f y z rest) ps onward onward' e =
      rw (same f, left_same y (rest ∷ ps) _ _ (left_same rest ps onward onward' e), left_same z (rest ∷ ps) _ _ (left_same rest ps onward onward' e))

  pub all_same : (ps : List Program) → all_left t ps ≡ all_left u ps
  unfolding all_left
  all_same [] = refl
  all_same (p ∷ ps) = left_same p ps (all_left t ps) (all_left u ps) (all_same ps)
