-- Following the routine. Document 01, "Runs and what is known".
use Rattle.std.specs.Prelude.{if◌then◌else◌, ℕ, List, [], ◌∷◌, Bool, true, false, ◌&&◌, ◌≡◌, eqb}
use Rattle.format.specs.Syntax.{Program, end, act, branch, Sheet}
use Rattle.semantics.specs.Runs.{History, extended, IsRun, Holds, holds_after}

-- A program with its branches decided: nothing is left, or the next action, and what is left after each of its replies, by the reply's number. (2013, "Operational
-- Semantics": a condition is "evaluated in the current knowledge state", the progression by the feedback that came. 2013's Definition 4, the standard policy that a
-- program induces, asks behind a probe what is known, "if Kφ1 .. elseif Kφ2 ..": where replies overlap an earlier one can be known too, and it then goes on as
-- after that one. Cases.antt, `overlapping`, is such a sheet.)
pub data Policy : Type 0 where
  done : Policy
  perform : (a : ℕ) → (after : ℕ → Policy) → Policy

-- What a program has to do after history h, where `onward` is what follows its end: "a branch goes to its then-program if its condition holds after the
-- history so far, else to its else-program, and afterwards to its rest". (2012, 2013: the else-program whenever the condition doesn't hold, known to fail or not.)
unfoldable pub policy : Sheet → Program → (onward : History → Policy) → History → Policy
unfolding holds_after
policy sheet end onward h = onward h
policy sheet (act a rest) onward h = perform a (λ r. policy sheet rest onward (extended h a r))
policy sheet (branch f p q rest) onward h =
    if holds_after sheet h f then policy sheet p (policy sheet rest onward) h else policy sheet q (policy sheet rest onward) h

-- The whole program, from the empty history to its end.
unfoldable pub routine : Sheet → Policy
unfolding policy
routine sheet = policy sheet sheet.program (λ h. done) []

-- "A run follows the routine if each action is the program's next". It depends on the run's history alone.
unfoldable pub Follows : Policy → History → Type 0
Follows done [] = Unit {0}
Follows done (e ∷ h) = ⊥
Follows (perform a after) [] = Unit {0}
Follows (perform a after) (e ∷ h) = (e.action ≡ a) × Follows (after e.reply) h

-- The same as a test.
unfoldable pub follows : Policy → History → Bool
follows done [] = true
follows done (e ∷ h) = false
follows (perform a after) [] = true
follows (perform a after) (e ∷ h) = eqb e.action a && follows (after e.reply) h

-- "It is full when nothing is left."
unfoldable pub is_full : Policy → History → Bool
is_full done h = true
is_full (perform a after) [] = false
is_full (perform a after) (e ∷ h) = is_full (after e.reply) h

-- A run that follows the routine; a full one.
unfoldable pub Following : Sheet → History → (run : List ℕ) → Type 0
Following sheet h run = IsRun sheet h run × Follows (routine sheet) h

unfoldable pub Full : Sheet → History → (run : List ℕ) → Type 0
Full sheet h run = Following sheet h run × (is_full (routine sheet) h ≡ true)

-- "A full run fails the goal if the goal doesn't hold after its history." (2013: the goal is tested in the last knowledge state.)
unfoldable pub Failing : Sheet → History → (run : List ℕ) → Type 0
Failing sheet h run = Full sheet h run × (Holds sheet h sheet.goal → ⊥)
