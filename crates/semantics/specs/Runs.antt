-- Runs, histories, and what is known after a history. Document 01, "Runs and what is known". "This definition carries no set of states forward."
use Rattle.std.specs.Prelude.{ℕ, ◌≡◌, ◌⊎◌, Bool, true, false, not, ◌&&◌, ◌||◌, eqb}
use mathlib.Core.List.{List, [], ◌∷◌, ◌++◌, map, flat_map}
use Rattle.lists.specs.Lists.{every, exists, keep, nonempty}
use Rattle.format.specs.Syntax.{Objective, Epistemic, known, not_known, all_of, any_of, Sheet, action_of}
use Rattle.format.specs.Truth.{is_state, states, holds, allowed}

-- An entry of a history: an action's number and the number of its reply, "a change's reply being 0".
pub record Entry : Type 0 where
  pub action : ℕ
  pub reply : ℕ

abbrev pub entry : (a r : ℕ) → Entry
entry a r = record { action = a; reply = r }

-- A history is "its list of actions and replies".
abbrev pub History : Type 0
History = List Entry

-- A history with one entry more, and the replies of a history.
abbrev pub extended : History → (a r : ℕ) → History
extended h a r = h ++ (entry a r ∷ [])

abbrev pub replies : History → List ℕ
replies h = map (λ (e : Entry). e.reply) h

-- The step from state s to state t that an entry records: "after a change, one that the theory allows; after a probe, the same state, with a reply
-- true in it". Named here and nowhere else.
unfoldable pub step : Sheet → Entry → (s t : ℕ) → Bool
unfolding action_of allowed
step sheet e s t = allowed (action_of sheet e.action) s e.reply t

-- "A run is a start state, then a state after each action". A run is the list of its states; `Steps` is what follows state s.
unfoldable pub Steps : Sheet → (s : ℕ) → History → (rest : List ℕ) → Type 0
Steps sheet s [] [] = Unit {0}
Steps sheet s [] (t ∷ rest) = ⊥
Steps sheet s (e ∷ h) [] = ⊥
Steps sheet s (e ∷ h) (t ∷ rest) = (is_state sheet t ≡ true) × (step sheet e s t ≡ true) × Steps sheet t h rest

unfoldable pub IsRun : Sheet → History → (run : List ℕ) → Type 0
unfolding Steps
IsRun sheet h [] = ⊥
IsRun sheet h (s ∷ rest) = (is_state sheet s ≡ true) × (holds sheet.start s ≡ true) × Steps sheet s h rest

-- The last state of a run; of the states that follow s.
unfoldable pub last_from : (s : ℕ) (rest : List ℕ) → ℕ
last_from s [] = s
last_from s (t ∷ rest) = last_from t rest

unfoldable pub last_state : (run : List ℕ) → ℕ
unfolding last_from
last_state [] = 0
last_state (s ∷ rest) = last_from s rest

-- "A formula is known after a history if it holds in the last state of every run with that history." (2013: in every state of the knowledge state.)
unfoldable pub Known : Sheet → History → Objective → Type 0
Known sheet h f = (run : List ℕ) → IsRun sheet h run → holds f (last_state run) ≡ true

-- A state is still possible after a history if some run with that history ends in it. (2013: it is in the knowledge state.)
unfoldable pub Possible : Sheet → History → (t : ℕ) → Type 0
Possible sheet h t = (run : List ℕ) × IsRun sheet h run × (last_state run ≡ t)

-- "And, or, not read as usual."
unfoldable pub Holds : Sheet → History → Epistemic → Type 0
unfolding Known
Holds sheet h (known f) = Known sheet h f
Holds sheet h (not_known f) = Known sheet h f → ⊥
Holds sheet h (all_of f g) = Holds sheet h f × Holds sheet h g
Holds sheet h (any_of f g) = Holds sheet h f ⊎ Holds sheet h g

-- The same by enumeration, so that it can be evaluated; proofs/RunLaws.antt shows that both agree.
-- The states in which a run may start, and those to which an entry leads from state s, in order.
unfoldable pub start_states : Sheet → List ℕ
unfolding keep states holds
start_states sheet = keep (holds sheet.start) (states sheet)

unfoldable pub next_states : Sheet → Entry → (s : ℕ) → List ℕ
unfolding keep states step
next_states sheet e s = keep (step sheet e s) (states sheet)

-- The runs with history h that go on from state s, and all runs with history h, in the order of their states: the least run stands first.
unfoldable pub runs_from : Sheet → (s : ℕ) → History → List (List ℕ)
unfolding next_states flat_map
runs_from sheet s [] = (s ∷ []) ∷ []
runs_from sheet s (e ∷ h) = map (λ run. s ∷ run) (flat_map (λ t. runs_from sheet t h) (next_states sheet e s))

unfoldable pub runs : Sheet → History → List (List ℕ)
unfolding runs_from start_states flat_map
runs sheet h = flat_map (λ s. runs_from sheet s h) (start_states sheet)

unfoldable pub known_after : Sheet → History → Objective → Bool
unfolding every holds last_state runs
known_after sheet h f = every (λ run. holds f (last_state run)) (runs sheet h)

unfoldable pub holds_after : Sheet → History → Epistemic → Bool
unfolding known_after
holds_after sheet h (known f) = known_after sheet h f
holds_after sheet h (not_known f) = not (known_after sheet h f)
holds_after sheet h (all_of f g) = holds_after sheet h f && holds_after sheet h g
holds_after sheet h (any_of f g) = holds_after sheet h f || holds_after sheet h g

-- Whether a state is still possible, and the states still possible, each once and in order (proofs/RunLaws.antt, `possible_sorted`). What the method gathers are
-- these (proofs/ProgressionLaws.antt, `method_states`).
unfoldable pub is_possible : Sheet → History → (t : ℕ) → Bool
unfolding exists last_state runs
is_possible sheet h t = exists (λ run. eqb (last_state run) t) (runs sheet h)

unfoldable pub possible_states : Sheet → History → List ℕ
unfolding keep is_possible states
possible_states sheet h = keep (is_possible sheet h) (states sheet)

-- Whether some run has a history.
unfoldable pub occurs : Sheet → History → Bool
unfolding nonempty runs
occurs sheet h = nonempty (runs sheet h)

-- Whether a list of states is a run with a history.
unfoldable pub is_steps : Sheet → (s : ℕ) → History → (rest : List ℕ) → Bool
unfolding is_state step
is_steps sheet s [] [] = true
is_steps sheet s [] (t ∷ rest) = false
is_steps sheet s (e ∷ h) [] = false
is_steps sheet s (e ∷ h) (t ∷ rest) = is_state sheet t && step sheet e s t && is_steps sheet t h rest

unfoldable pub is_run : Sheet → History → (run : List ℕ) → Bool
unfolding is_state holds is_steps
is_run sheet h [] = false
is_run sheet h (s ∷ rest) = is_state sheet s && holds sheet.start s && is_steps sheet s h rest
