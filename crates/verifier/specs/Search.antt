-- The method: the search through the histories over a routine's tables, whatever numbers are in the memory. An auditor of the promises needs none of it;
-- proofs/SearchLaws.antt shows its agreement with the histories of runs that follow the routine.
use Rattle.std.specs.Prelude.{if◌then◌else◌, ◌≡◌, ℕ, zero, suc, ◌+◌, ◌*◌, ◌%◌, true, false, List, [], ◌∷◌, ◌++◌, map, length, take, nat_eq, refl}
use Rattle.format.specs.Format.{most_acts}
use Rattle.lists.specs.Lists.{up_from, below, nonempty}
use Rattle.states.specs.declared.States.{States}
use Rattle.states.specs.Sets.{members}
use Rattle.format.specs.Syntax.{top, fact, negation, Epistemic, known, any_of, end, act, probe, Sheet}
use Rattle.semantics.specs.Runs.{Entry, entry, History}
use Rattle.routine.specs.Memory.{head_at}
use Rattle.routine.specs.Tables.{sheet_heads, node_cells, set_words, low}
use Rattle.progression.specs.declared.place.Place.{Place}
use Rattle.progression.specs.Machine.{settled, stepped}
use Rattle.verifier.specs.declared.search.Searched.{Searched}

-- What a search finds: all histories passed and n were counted; a history failed, the last of n counted, shown by what follows the history at which the
-- search began; or the count exceeds the budget.
pub data Found : Type 0 where
  passed : (n : ℕ) → Found
  failed : (n : ℕ) (rest : History) → Found
  over : Found

-- The same with one entry more before it.
unfoldable pub behind : Entry → Found → Found
behind e (passed n) = passed n
behind e (failed n rest) = failed n (e ∷ rest)
behind e over = over

-- The search goes on with the count where all passed.
unfoldable pub and_then : Found → (onward : (c : ℕ) → Found) → Found
and_then (passed n) onward = onward n
and_then (failed n rest) onward = failed n rest
and_then over onward = over

-- "a smaller reply before a larger"
unfoldable pub each_reply : (each : (r c : ℕ) → Found) → (rs : List ℕ) (c : ℕ) → Found
unfolding and_then
each_reply each [] c = passed c
each_reply each (r ∷ rs) c = and_then (each r c) (each_reply each rs)

-- At an end the goal decides; an action is searched.
unfoldable pub at_place : Place → (acts : (node action : ℕ) → Found) → (c : ℕ) → Found
at_place (Place.End true) acts c = passed c
at_place (Place.End false) acts c = failed c []
at_place (Place.Act node action) acts c = acts node action

module _ (heads nodes sets : List ℕ) (budget : ℕ) where
  -- A reply after which some state is possible is counted, "a history standing before its extensions", and searched; where the count is the budget already, it exceeds it.
  unfoldable pub visit : (onward : States → (c : ℕ) → Found) → States → (action r c : ℕ) → Found
  unfolding nonempty members stepped behind
  visit onward set action r c =
      if nonempty (members (stepped heads sets set action r)) then
      (if nat_eq c budget then over else behind (entry action r) (onward (stepped heads sets set action r) (c + 1)))
      else passed c

  -- All replies to an action, where `onward` searches behind each.
  unfoldable pub answered : (onward : States → (c : ℕ) → Found) → States → (action c : ℕ) → Found
  unfolding each_reply visit up_from head_at
  answered onward set action c = each_reply (visit onward set action) (below (head_at heads action).count) c

  -- The search from node `at` on with the states of a set possible, c histories being counted, for at most `left` actions. (No routine has more than 64 in a run; on any
  -- other memory the search leaves off as if the budget were exceeded.)
  unfoldable pub searched : (left at : ℕ) → States → (c : ℕ) → Found
  unfolding at_place settled answered
  searched zero at set c = at_place (settled nodes sets set at) (λ node action. over) c
  searched (suc left) at set c = at_place (settled nodes sets set at) (λ node action. answered (searched left (node + 1)) set action c) c

-- "one byte (action times 8 plus reply)". On any memory it fits a byte; action numbers of a sheet are below 32, replies below 8.
unfoldable pub path_byte : (action reply : ℕ) → ℕ
path_byte action reply = action % 32 * 8 + reply % 8

-- The bytes of the history that failed.
unfoldable pub path_bytes : Found → List ℕ
unfolding path_byte
path_bytes (passed n) = []
path_bytes (failed n rest) = map (λ (e : Entry). path_byte e.action e.reply) rest
path_bytes over = []

-- What the code says, `depth` actions behind the start.
unfoldable pub searched_of : (depth : ℕ) → Found → Searched
searched_of depth (passed n) = Searched.Passed n
searched_of depth (failed n rest) = Searched.Failed n (depth + length rest)
searched_of depth over = Searched.Over

-- The code's answer, and the path behind it: what stood in its first `depth` places stands there still, and behind it the bytes of the history that failed, if one did.
pub record SearchedBy (depth : ℕ) (before after : List ℕ) (r : Searched) (found : Found) : Type 0 where
  pub answer : r ≡ searched_of depth found
  pub size : length after ≡ length before
  pub path : take (depth + length (path_bytes found)) after ≡ take depth before ++ path_bytes found

-- Examples, evaluated.
-- One fact, which action 0 asks for; the program asks once. The start formula is true.
unfoldable pub asked : Epistemic → Sheet
asked goal = record { facts = 1; constraint = top; actions = probe (fact 0 ∷ negation (fact 0) ∷ []) ∷ []; start = top; goal = goal; program = act 0 end }

-- The search from the start of such a sheet, where both states are possible and nothing is counted.
found : (goal : Epistemic) (budget : ℕ) → Found
unfolding asked sheet_heads node_cells set_words searched
found goal budget = searched (sheet_heads (asked goal)) (node_cells (asked goal)) (set_words (asked goal)) budget most_acts 0 (low 3) 0

-- The goal that the fact is known holds after reply 0 and fails after reply 1: that is the first failing history, and the count has both, "up to and including the first
-- that does". It equals the budget, so that it does not exceed it.
count_is_budget : found (known (fact 0)) 2 ≡ failed 2 (entry 0 1 ∷ [])
unfolding found
count_is_budget = refl

-- "stopped" is answered "if and only if that count exceeds the budget".
count_exceeds : found (known (fact 0)) 1 ≡ over
unfolding found
count_exceeds = refl

-- "all of them if no full one fails the goal": the fact known, or its negation.
all_passed : found (any_of (known (fact 0)) (known (negation (fact 0)))) 2 ≡ passed 2
unfolding found
all_passed = refl

-- Action 5 with reply 3.
action_and_reply : path_byte 5 3 ≡ 43
unfolding path_byte
action_and_reply = refl
