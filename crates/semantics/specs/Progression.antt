-- The method: progression (2013), "keep the states where the reply holds; gather all next states". An auditor of the promises needs none of it;
-- proofs/ProgressionLaws.antt shows its agreement with runs.
use Rattle.std.specs.Prelude.{ℕ, List, [], ◌∷◌, Bool, not, ◌&&◌, ◌||◌}
use Rattle.lists.specs.Lists.{exists, every, keep}
use Rattle.format.specs.Syntax.{Sheet, Epistemic, known, not_known, all_of, any_of}
use Rattle.format.specs.Truth.{is_state, states, holds}
use Rattle.semantics.specs.Runs.{Entry, History, step, start_states}

-- The states to which an entry leads from some state of a list, in order.
unfoldable pub progress : Sheet → (from : List ℕ) → Entry → List ℕ
unfolding keep exists states step
progress sheet from e = keep (λ t. exists (λ s. step sheet e s t) from) (states sheet)

-- The states possible after a history, from those possible before it, and from the start. (2013: the knowledge state.)
unfoldable pub possible_from : Sheet → (from : List ℕ) → History → List ℕ
unfolding progress
possible_from sheet from [] = from
possible_from sheet from (e ∷ h) = possible_from sheet (progress sheet from e) h

unfoldable pub possible : Sheet → History → List ℕ
unfolding possible_from start_states
possible sheet h = possible_from sheet (start_states sheet) h

-- Truth of an epistemic formula in a knowledge state.
unfoldable pub satisfies : (set : List ℕ) → Epistemic → Bool
unfolding every holds
satisfies set (known f) = every (holds f) set
satisfies set (not_known f) = not (every (holds f) set)
satisfies set (all_of f g) = satisfies set f && satisfies set g
satisfies set (any_of f g) = satisfies set f || satisfies set g

-- The same sets as tests on numbers, as the bits of words hold them; only states pass.
unfoldable pub start_set : Sheet → (t : ℕ) → Bool
unfolding is_state holds
start_set sheet t = is_state sheet t && holds sheet.start t

unfoldable pub next_set : Sheet → (set : ℕ → Bool) → Entry → (t : ℕ) → Bool
unfolding is_state exists states step
next_set sheet set e t = is_state sheet t && exists (λ s. set s && step sheet e s t) (states sheet)

unfoldable pub set_after : Sheet → (set : ℕ → Bool) → History → (t : ℕ) → Bool
unfolding next_set
set_after sheet set [] = set
set_after sheet set (e ∷ h) = set_after sheet (next_set sheet set e) h
