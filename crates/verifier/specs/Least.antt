-- The method: the least run with a history over a routine's tables, by what is feasible backward, and least forward. An auditor of the promises needs none of it;
-- proofs/LeastLaws.antt shows that it is the first run with the history.
use Rattle.std.specs.Prelude.{◌≡◌, ℕ, zero, suc, ◌+◌, ◌-◌, ◌/◌, ◌%◌, ◌≤◌, true, ◌&&◌, List, [], ◌∷◌, nat_eq, slice_index}
use Rattle.lists.specs.Lists.{up_from, below, exists}
use Rattle.states.specs.declared.States.{States}
use Rattle.states.specs.Sets.{member, set_of, members, least_of}
use Rattle.semantics.specs.Runs.{Entry, entry, History}
use Rattle.routine.specs.Memory.{set_at}
use Rattle.progression.specs.Machine.{stepped}

-- The history that k bytes of a path show, from place `at` on.
unfoldable pub path_from : (path : List ℕ) (at k : ℕ) → History
path_from path at zero = []
path_from path at (suc k) = entry (slice_index path at / 8) (slice_index path at % 8) ∷ path_from path (at + 1) k

module _ (heads sets : List ℕ) where
  -- The states to which an entry leads from state s.
  unfoldable pub after : Entry → (s : ℕ) → States
  unfolding stepped set_of
  after e s = stepped heads sets (set_of (λ u. nat_eq u s)) e.action e.reply

  -- The preimage of a set under an entry: the states from which it leads to a state of the set.
  unfoldable pub preimage : Entry → States → States
  unfolding set_of exists member after up_from
  preimage e later = set_of (λ s. exists (λ t. member (after e s) t && member later t) (below 256))

  -- The states from which a whole history can be gone.
  unfoldable pub feasible : History → States
  unfolding preimage set_of
  feasible [] = set_of (λ s. true)
  feasible (e ∷ h) = preimage e (feasible h)

  -- The least state of a set from which a history can be gone, and so on: the least run from a set of start states.
  unfoldable pub least_on : States → History → ℕ
  unfolding least_of members set_of member feasible
  least_on from h = least_of (members (set_of (λ s. member from s && member (feasible h) s)))

  unfoldable pub least_states : States → History → List ℕ
  unfolding least_on after
  least_states from [] = least_on from [] ∷ []
  least_states from (e ∷ h) = least_on from (e ∷ h) ∷ least_states (after e (least_on from (e ∷ h))) h

  -- From place k on a memory holds the states from which the rest of a path can be gone.
  unfoldable pub FeasibleFrom : (path : List ℕ) (len k : ℕ) (memory : List ℕ) → Type 0
  FeasibleFrom path len k memory = (j : ℕ) → k ≤ j → j ≤ len → set_at memory j ≡ feasible (path_from path j (len - j))
