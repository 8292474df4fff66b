-- What the box knows after a list of replies: the states still possible, and the place in the program's text. Document 02, "The record keeps what the box knows". No promise speaks of it yet. An auditor of the promises needs none of it.
use Rattle.std.specs.Prelude.{if◌then◌else◌, ℕ, ◌+◌, ◌≡◌, refl, List, [], ◌∷◌, ◌++◌, map, Bool, true, false}
use Rattle.format.specs.Syntax.{top, fact, negation, known, Program, end, act, branch, action_nodes, change, probe, Sheet}
use Rattle.semantics.specs.Runs.{History, extended, holds_after, is_possible}
use Rattle.semantics.specs.Routine.{routine}
use Rattle.semantics.specs.Replies.{history_of}

-- "The set of possible states": whether a state is the last of a run with the history that the routine's actions and the replies make, before the effect of the next
-- action. (2013: whether it is in the knowledge state.)
unfoldable pub possible_after : Sheet → (rs : List ℕ) → (t : ℕ) → Bool
unfolding is_possible history_of routine
possible_after sheet rs t = is_possible sheet (history_of (routine sheet) rs) t

-- The actions of a program's action nodes "in reading order" (document 01: "epistemic formula, then-program, else-program, rest"): entry k is that of node k.
unfoldable pub node_actions : Program → List ℕ
node_actions end = []
node_actions (act a rest) = a ∷ node_actions rest
node_actions (branch f p q rest) = node_actions p ++ (node_actions q ++ node_actions rest)

-- "The number of the next action node, counted from 0 in reading order": that at which a program stands after history h and then the replies rs, its own first action node
-- being number c. `onward` tells it where the program ends before that. Branches go as in `policy`.
unfoldable pub next_node : Sheet → Program → (c : ℕ) → (onward : History → List ℕ → ℕ) → History → (rs : List ℕ) → ℕ
unfolding holds_after action_nodes
next_node sheet end c onward h rs = onward h rs
next_node sheet (act a rest) c onward h [] = c
next_node sheet (act a rest) c onward h (r ∷ rs) = next_node sheet rest (c + 1) onward (extended h a r) rs
next_node sheet (branch f p q rest) c onward h rs =
    if holds_after sheet h f then next_node sheet p c (next_node sheet rest (c + action_nodes p + action_nodes q) onward) h rs
    else next_node sheet q (c + action_nodes p) (next_node sheet rest (c + action_nodes p + action_nodes q) onward) h rs

-- "The program position": that number, "or at the end the number of all action nodes".
unfoldable pub position : Sheet → (rs : List ℕ) → ℕ
unfolding next_node action_nodes
position sheet rs = next_node sheet sheet.program 0 (λ h later. action_nodes sheet.program) [] rs

-- Examples, evaluated. One fact, of which nothing is known. Action 0 asks for it (reply 0: it is true; 1: it is false), action 1 may change it. Ask; if the fact is known do
-- nothing, else change it and ask, if it is known then by nothing and else by a change; in any case ask at last. So there are action nodes 0 to 4.
asking : Sheet
asking = record {
  facts = 1;
  constraint = top;
  actions = probe (fact 0 ∷ negation (fact 0) ∷ []) ∷ change top ∷ [];
  start = top;
  goal = known (fact 0);
  program = act 0 (branch (known (fact 0)) end (act 1 (act 0 (branch (known (fact 0)) end (act 1 end) end))) (act 0 end));
}

-- At first the first; behind reply 0 the last, since the then-program has no node and the rest's comes behind the else-program's; behind reply 1 the else-program's first.
first_node : position asking [] ≡ 0
unfolding asking position
first_node = refl

rest_node : position asking (0 ∷ []) ≡ 4
unfolding asking position
rest_node = refl

else_node : position asking (1 ∷ []) ≡ 1
unfolding asking position
else_node = refl

inner_node : position asking (1 ∷ 0 ∷ 1 ∷ []) ≡ 3
unfolding asking position
inner_node = refl

-- At the end the number of all.
end_node : position asking (0 ∷ 0 ∷ []) ≡ 5
unfolding asking position
end_node = refl

asking_nodes : node_actions asking.program ≡ 0 ∷ 1 ∷ 0 ∷ 1 ∷ 0 ∷ []
unfolding asking node_actions
asking_nodes = refl

-- Both states are possible at first, after reply 1 the one in which the fact is false, and after the change both again. (State 2 is none.)
possible_first : map (possible_after asking []) (0 ∷ 1 ∷ 2 ∷ []) ≡ true ∷ true ∷ false ∷ []
unfolding asking possible_after
possible_first = refl

possible_then : map (possible_after asking (1 ∷ [])) (0 ∷ 1 ∷ 2 ∷ []) ≡ true ∷ false ∷ false ∷ []
unfolding asking possible_after
possible_then = refl

possible_changed : map (possible_after asking (1 ∷ 0 ∷ [])) (0 ∷ 1 ∷ 2 ∷ []) ≡ true ∷ true ∷ false ∷ []
unfolding asking possible_after
possible_changed = refl
