-- The method: what the search remembers of places from which everything passed. An auditor of the promises needs none of it;
-- proofs/MemoLaws.antt shows that what is recalled is what the search would find.
use Rattle.std.specs.Prelude.{if◌then◌else◌, ◌≡◌, ℕ, ◌+◌, ◌*◌, ◌<◌, ◌≤◌, Bool, ◌&&◌, List, [], ◌∷◌, length, ◌==◌, nat_le, nat_lt, slice_index, Option, Some, None, refl}
use Rattle.states.specs.Sets.{words, words_at, same_states}
use Rattle.format.specs.Format.{most_acts}
use Rattle.states.specs.declared.States.{States}
use Rattle.format.specs.Syntax.{fact, negation, Epistemic, known, any_of}
use Rattle.routine.specs.Tables.{sheet_heads, node_cells, set_words, low}
use Rattle.verifier.specs.declared.memo.Slot.{Slot}
use Rattle.verifier.specs.Answers.{slot_most, slot_size}
use Rattle.verifier.specs.Search.{Found, passed, over, answered, searched, asked}

-- Slot j of a memory.
unfoldable pub slot_at : (memory : List ℕ) (j : ℕ) → Slot
unfolding words_at
slot_at memory j = record {
  onward = slice_index memory (slot_size * j);
  action = slice_index memory (slot_size * j + 1);
  depth = slice_index memory (slot_size * j + 2);
  behind = slice_index memory (slot_size * j + 3);
  set = words_at memory (slot_size * j + 4);
}

-- A slot as its words.
unfoldable pub slot_words : Slot → List ℕ
unfolding words
slot_words k = k.onward ∷ k.action ∷ k.depth ∷ k.behind ∷ words k.set

-- A slot serves a place: its node, its action and its set are the same, and there was as much room for actions or less.
unfoldable pub serves : Slot → States → (onward action depth : ℕ) → Bool
unfolding same_states
serves k set onward action depth =
    (k.onward == onward) && k.action == action && same_states k.set set && nat_le depth k.depth

-- What a slot tells of a place.
unfoldable pub recalled : Slot → States → (onward action depth : ℕ) → Option ℕ
unfolding serves
recalled k set onward action depth = if serves k set onward action depth then Some k.behind else None

-- So many histories counted, none of which fails; or the budget exceeded.
unfoldable pub reaching : (budget n : ℕ) → Found
reaching budget n = if nat_lt budget n then over else passed n

module _ (heads nodes sets : List ℕ) (budget : ℕ) where
  -- What a slot says is so: with as much room for actions or more, and from any count on, all replies to its action pass, with as many histories as it says; or they exceed
  -- the budget. (No replies lead on to node 0: a slot with that node is empty and says nothing.)
  unfoldable pub SlotSound : Slot → Type 0
  SlotSound k =
      0 < k.onward → (left c : ℕ) → most_acts ≤ left + 1 + k.depth → c ≤ budget
      → answered heads nodes sets budget (searched heads nodes sets budget left k.onward) k.set k.action c ≡ reaching budget (c + k.behind)

  -- What every slot says is so.
  pub record Sound (memory : List ℕ) : Type 0 where
    pub size : length memory ≡ slot_size * slot_most
    pub slots : (j : ℕ) → j < slot_most → SlotSound (slot_at memory j)

-- Examples, evaluated.
-- Two histories behind an action 0 whose replies lead on to node 5, after three actions, states 0 and 1 being possible.
slot : Slot
slot = record { onward = 5; action = 0; depth = 3; behind = 2; set = low 3 }

-- They are recalled after three actions, and after fewer: there is more room then.
recalled_here : recalled slot (low 3) 5 0 3 ≡ Some 2
unfolding slot recalled
recalled_here = refl

recalled_earlier : recalled slot (low 3) 5 0 1 ≡ Some 2
unfolding slot recalled
recalled_earlier = refl

-- After more actions there is less room; another set, node or action is another place; and an empty slot tells nothing.
not_later : recalled slot (low 3) 5 0 4 ≡ None
unfolding slot recalled
not_later = refl

not_another_set : recalled slot (low 2) 5 0 3 ≡ None
unfolding slot recalled
not_another_set = refl

not_another_node : recalled slot (low 3) 6 0 3 ≡ None
unfolding slot recalled
not_another_node = refl

not_another_action : recalled slot (low 3) 5 1 3 ≡ None
unfolding slot recalled
not_another_action = refl

not_empty : recalled (slot_at [] 0) (low 0) 5 0 0 ≡ None
unfolding recalled slot_at
not_empty = refl

-- The words of a slot stand in its order.
slot_read : slot_at (slot_words slot) 0 ≡ slot
unfolding slot slot_at slot_words
slot_read = refl

-- So it is on the sheet on which action 0 asks for the one fact, the goal being that it is known or its negation is (node 4, behind the jump and the goal's three nodes; the end is node 5): from a count of 4 on, both replies are counted, and
-- pass; with a budget of 5 that exceeds it.
telling : Epistemic
telling = any_of (known (fact 0)) (known (negation (fact 0)))

behind_slot : (budget : ℕ) → Found
unfolding asked telling slot sheet_heads node_cells set_words answered searched
behind_slot budget =
    let sheet = asked telling in
    answered (sheet_heads sheet) (node_cells sheet) (set_words sheet) budget (searched (sheet_heads sheet) (node_cells sheet) (set_words sheet) budget 60 slot.onward) slot.set slot.action 4

says_so : behind_slot 6 ≡ reaching 6 (4 + slot.behind)
unfolding behind_slot reaching
says_so = refl

exceeds : behind_slot 5 ≡ reaching 5 (4 + slot.behind)
unfolding behind_slot reaching
exceeds = refl

-- A count that equals the budget doesn't exceed it.
within : reaching 6 6 ≡ passed 6
unfolding reaching
within = refl

beyond : reaching 5 6 ≡ over
unfolding reaching
beyond = refl
