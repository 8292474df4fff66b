-- The method: what a trace shows by a routine's tables. An auditor of the promises needs none of it; proofs/ShownLaws.antt shows its agreement.
use Rattle.std.specs.Prelude.{ℕ, ◌+◌, ◌/◌, ◌%◌, ◌≡◌, refl, Bool, true, not, ◌&&◌}
use mathlib.Core.List.{List, [], ◌∷◌}
use Rattle.std.proofs.Math.Bool.{false}
use Rattle.std.proofs.Math.Dec.{eqb}
use Rattle.states.specs.declared.States.{States}
use Rattle.states.specs.Sets.{member, set_of}
use Rattle.format.specs.Syntax.{top, fact, negation, known, Program, end, act, probe, Sheet}
use Rattle.routine.specs.Tables.{sheet_heads, node_cells, set_words, low}
use Rattle.progression.specs.declared.place.Place.{Place}
use Rattle.progression.specs.Machine.{settled, stepped}

-- Whether an end is reached at which the goal fails.
unfoldable pub end_fails : Place → Bool
end_fails (Place.Act node action) = false
end_fails (Place.End holds) = not holds

-- Over a routine's tables, whatever numbers are in the memory.
module _ (heads nodes sets : List ℕ) where
  -- Whether the bytes behind a state show a full run from there that fails: node `at` is reached, the states of a set are possible, and the run's own state is the one
  -- state of `own`, one of them. Each two bytes are the routine's next action with a reply, and a state to which that leads from the run's own.
  unfoldable pub goes_on : Place → (action reply t : ℕ) → (own set : States) → (onward : States → (at : ℕ) → Bool) → Bool
  unfolding stepped member
  goes_on (Place.End holds) action reply t own set onward = false
  goes_on (Place.Act node next) action reply t own set onward =
      eqb next action && (member (stepped heads sets own next reply) t && onward (stepped heads sets set next reply) (node + 1))

  -- (`settled` stays shut with it: a step of this opens no table.)
  unfoldable pub shows_from : (set : States) (at : ℕ) (own : States) → List ℕ → Bool
  unfolding goes_on end_fails set_of
  shows_from set at own [] = end_fails (settled nodes sets set at)
  shows_from set at own (b ∷ []) = false
  shows_from set at own (b ∷ t ∷ rest) = goes_on (settled nodes sets set at) (b / 8) (b % 8) t own set (λ after next. shows_from after next (set_of (λ u. eqb u t)) rest)

  -- Whether a trace shows such a run from a start state.
  unfoldable pub shows_by : (start : States) → List ℕ → Bool
  unfolding shows_from member set_of
  shows_by start [] = false
  shows_by start (s ∷ rest) = member start s && shows_from start 0 (set_of (λ u. eqb u s)) rest

-- Examples, evaluated.
-- One fact, which action 0 asks for. The start formula is true, and the goal is that the fact is known.
asks : Program → Sheet
asks program = record { facts = 1; constraint = top; actions = probe (fact 0 ∷ negation (fact 0) ∷ []) ∷ []; start = top; goal = known (fact 0); program = program }

shown : Program → (trace : List ℕ) → Bool
unfolding asks sheet_heads node_cells set_words settled shows_by
shown program trace = shows_by (sheet_heads (asks program)) (node_cells (asks program)) (set_words (asks program)) (low 3) trace

-- Asked once, reply 1 in state 0: "a full run following the routine whose history fails the goal".
denied_shown : shown (act 0 end) (0 ∷ 1 ∷ 0 ∷ []) ≡ true
unfolding shown
denied_shown = refl

-- Reply 0 in state 1: the fact is known after this history.
told_not_shown : shown (act 0 end) (1 ∷ 0 ∷ 1 ∷ []) ≡ false
unfolding shown
told_not_shown = refl

-- Reply 1, true in state 0, behind a start in state 1: a probe "changes no fact", so that no run has these states.
no_run_not_shown : shown (act 0 end) (1 ∷ 1 ∷ 0 ∷ []) ≡ false
unfolding shown
no_run_not_shown = refl

-- Not asked: the fact isn't known, though it holds in the run's own state.
own_state_shown : shown end (1 ∷ []) ≡ true
unfolding shown
own_state_shown = refl
