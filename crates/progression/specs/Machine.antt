-- The tables as a machine, whatever numbers are in the memory: where the program settles, one step of the set of possible states, and one pass over it when a reply comes in.
use Rattle.std.specs.Prelude.{if◌then◌else◌, ℕ, zero, suc, ◌+◌, ◌-◌, ◌<◌, min, ◌≡◌, refl, List, [], ◌∷◌, Bool, true, false, not, ◌&&◌, ◌||◌, ltb, length}
use Rattle.std.specs.Bool.{beq}
use Rattle.lists.specs.Lists.{up_from, below, every, exists}
use Rattle.states.specs.declared.States.{States}
use Rattle.states.specs.Sets.{member, set_of, members}
use Rattle.format.specs.Syntax.{top, fact, negation, Epistemic, known, not_known, all_of, any_of, end, act, branch, change, probe, Sheet}
use Rattle.format.specs.Format.{deepest}
use Rattle.semantics.specs.Replies.{Told, to_do, at_end}
use Rattle.routine.specs.declared.memory.Node.{Node}
use Rattle.routine.specs.declared.memory.Head.{Head}
use Rattle.routine.specs.Memory.{node_most, set_at, node_at, head_at}
use Rattle.routine.specs.Tables.{goal_node, sheet_heads, node_cells, set_words, low}
use Rattle.progression.specs.declared.place.Place.{Place}
use Rattle.progression.specs.declared.reply.Passed.{Passed}

-- What a place means: "the action to do, or that the routine is at its end and whether the goal holds". (Its node says where the program goes on.)
unfoldable pub place_of : Place → Told
place_of (Place.Act node action) = to_do action
place_of (Place.End holds) = at_end holds

-- Whether every state of a set is in set k of a memory: "A formula is known after a history if it holds in the last state of every run with that history." (2013: in every state of the knowledge
-- state.)
unfoldable pub known_by : (sets : List ℕ) → States → (k : ℕ) → Bool
unfolding every member set_at members
known_by sets set k = every (member (set_at sets k)) (members set)

-- An atom, "known" or "not known" of set k.
unfoldable pub atom_holds : (is_known : ℕ → Bool) (positive : Bool) (k : ℕ) → Bool
atom_holds is_known true k = is_known k
atom_holds is_known false k = not (is_known k)

-- Two parts: "And, or, not read as usual."
unfoldable pub joined : (all first second : Bool) → Bool
joined true first second = first && second
joined false first second = first || second

-- What a node says of the parts of a formula from it on, joined by "and" (`all`) or "or". `rest` tells of those behind it, so many nodes further. A part that is joined in
-- the same way stands for its parts; `inner` tells of one that is joined the other way, by how many nodes its parts have. Other nodes are no part.
unfoldable pub part_node : (is_known : ℕ → Bool) (all : Bool) (inner rest : ℕ → Bool) → Node → Bool
unfolding atom_holds joined
part_node is_known all inner rest (Node.Atom positive k) = joined all (atom_holds is_known positive k) (rest 0)
part_node is_known all inner rest (Node.Join both size) = if beq both all then rest 0 else joined all (inner size) (rest size)
part_node is_known all inner rest (Node.Act a number) = false
part_node is_known all inner rest (Node.Branch met unmet) = false
part_node is_known all inner rest (Node.Jump skip) = false
part_node is_known all inner rest (Node.End count) = false

-- Whether all parts hold (`all`), or one of them, that stand in `size` nodes from node i on, the first `skip` nodes being skipped. `inner` tells it of the parts of one
-- that is joined the other way: how many nodes they have, cut at the last of the `size`, and from which on.
unfoldable pub parts_in : (node : ℕ → Node) (is_known : ℕ → Bool) (all : Bool) (inner : (size i : ℕ) → Bool) (size skip i : ℕ) → Bool
unfolding part_node
parts_in node is_known all inner zero skip i = all
parts_in node is_known all inner (suc size) (suc skip) i = parts_in node is_known all inner size skip (suc i)
parts_in node is_known all inner (suc size) zero i = part_node is_known all (λ n. inner (min n size) (suc i)) (λ skip. parts_in node is_known all inner size skip (suc i)) (node i)

-- The same in a memory. `left` levels are left, of which a part that is joined the other way takes one; a part that needs more doesn't hold. ("Depth 16 is the deepest
-- allowed.")
unfoldable pub parts_hold : (nodes : List ℕ) (is_known : ℕ → Bool) (left : ℕ) (all : Bool) (size i : ℕ) → Bool
unfolding parts_in node_at
parts_hold nodes is_known zero all size i = false
parts_hold nodes is_known (suc left) all size i = parts_in (node_at nodes) is_known all (parts_hold nodes is_known left (not all)) size 0 i

-- What the first node of a formula says, where `parts` tells of its parts. Other nodes are no formula.
unfoldable pub formula_node : (is_known : ℕ → Bool) (parts : (all : Bool) (size : ℕ) → Bool) → Node → Bool
unfolding atom_holds
formula_node is_known parts (Node.Atom positive k) = atom_holds is_known positive k
formula_node is_known parts (Node.Join all size) = parts all size
formula_node is_known parts (Node.Act a number) = false
formula_node is_known parts (Node.Branch met unmet) = false
formula_node is_known parts (Node.Jump skip) = false
formula_node is_known parts (Node.End count) = false

-- Whether the formula at node i holds, by what is known. Where no formula stands nothing holds.
unfoldable pub holds_at : (nodes : List ℕ) (is_known : ℕ → Bool) (i : ℕ) → Bool
unfolding formula_node parts_hold node_at
holds_at nodes is_known i = formula_node is_known (λ all size. parts_hold nodes is_known (deepest - 1) all size (i + 1)) (node_at nodes i)

-- A node is where the program settles, or it leads on, so many nodes further. `formula` tells whether the formula at a node holds: a branch goes by that behind it, the
-- end by the goal. A node of a formula is an end too.
unfoldable pub at_node : (formula : ℕ → Bool) → Node → (i : ℕ) → (onward : (skip : ℕ) → Place) → Place
at_node formula (Node.Act a number) i onward = Place.Act i a
at_node formula (Node.Branch met unmet) i onward = onward (if formula (i + 1) then met else unmet)
at_node formula (Node.Jump skip) i onward = onward skip
at_node formula (Node.End count) i onward = Place.End (formula goal_node)
at_node formula (Node.Join all size) i onward = Place.End (formula goal_node)
at_node formula (Node.Atom positive k) i onward = Place.End (formula goal_node)

-- Where the program settles from node i on, the first `skip` nodes being skipped: at the program's next action, or at its end. `left` nodes are left from node i on.
-- Each node leads further forward, and behind the last is an end at which the goal fails.
unfoldable pub settled_from : (node : ℕ → Node) (formula : ℕ → Bool) (left skip i : ℕ) → Place
unfolding at_node
settled_from node formula zero skip i = Place.End false
settled_from node formula (suc left) (suc skip) i = settled_from node formula left skip (suc i)
settled_from node formula (suc left) zero i = at_node formula (node i) i (λ skip. settled_from node formula left skip (suc i))

unfoldable pub settled : (nodes sets : List ℕ) → States → (at : ℕ) → Place
unfolding settled_from holds_at node_at known_by
settled nodes sets set at = settled_from (node_at nodes) (holds_at nodes (known_by sets set)) node_most at 0

-- How many action nodes there are: what the first end among the nodes from node i on says, of which `left` are left; 0 without one.
unfoldable pub end_or : Node → (rest : ℕ) → ℕ
end_or (Node.End count) rest = count
end_or (Node.Act a number) rest = rest
end_or (Node.Branch met unmet) rest = rest
end_or (Node.Jump skip) rest = rest
end_or (Node.Join all size) rest = rest
end_or (Node.Atom positive k) rest = rest

unfoldable pub end_from : (node : ℕ → Node) (left i : ℕ) → ℕ
unfolding end_or
end_from node zero i = 0
end_from node (suc left) i = end_or (node i) (end_from node left (suc i))

unfoldable pub end_number : (nodes : List ℕ) → ℕ
unfolding end_from node_at
end_number nodes = end_from (node_at nodes) node_most 0

-- The number of an action node, as the node says it.
unfoldable pub number_in : Node → ℕ
number_in (Node.Act a number) = number
number_in (Node.Branch met unmet) = 0
number_in (Node.Jump skip) = 0
number_in (Node.End count) = 0
number_in (Node.Join all size) = 0
number_in (Node.Atom positive k) = 0

-- The program position at a place: "the number of the next action node, counted from 0 in reading order, or at the end the number of all action nodes".
unfoldable pub position_at : (nodes : List ℕ) → Place → ℕ
unfolding number_in end_number node_at
position_at nodes (Place.Act node action) = number_in (node_at nodes node)
position_at nodes (Place.End holds) = end_number nodes

-- An action node where it settles is one of the memory, and its action fits 16 bits.
unfoldable pub Inside : Place → Type 0
Inside (Place.Act i a) = (i < node_most) × (a < 65536)
Inside (Place.End holds) = Unit {0}

-- The states that are in set `first` + s for some state s of a set. (2013: all next states are gathered.)
unfoldable pub gathered : (sets : List ℕ) (first : ℕ) → States → States
unfolding set_of exists member set_at up_from
gathered sets first set = set_of (λ t. exists (λ s. member set s && member (set_at sets (first + s)) t) (below 256))

-- The effect of an action: the states in the rows of the possible states, if it has rows, else the same. ("after a change, one that the theory allows"; "after a probe, the same state".)
unfoldable pub effect : (sets : List ℕ) → Head → States → States
unfolding gathered
effect sets head set = if ltb head.rows head.replies then gathered sets head.rows set else set

-- The states in which a reply of an action is true, by its table. A reply that the action hasn't is true in none.
unfoldable pub reply_states : (sets : List ℕ) → Head → (reply : ℕ) → States
unfolding set_of set_at
reply_states sets head reply = if ltb reply head.count then set_at sets (head.replies + reply) else set_of (λ t. false)

-- The states of a set that are kept by a reply: those in which it is true. (2013: the states where the reply holds are kept.)
unfoldable pub kept_by : (set reply : States) → States
unfolding set_of member
kept_by set reply = set_of (λ t. member set t && member reply t)

-- The states possible after an action and its reply: first the effect, then the reply.
unfoldable pub stepped : (heads sets : List ℕ) → States → (action reply : ℕ) → States
unfolding kept_by effect reply_states head_at
stepped heads sets set action reply = kept_by (effect sets (head_at heads action) set) (reply_states sets (head_at heads action) reply)

-- Document 02, "One pass when a reply comes in", over the states of a set: "the states kept are exactly those of the set in which the reply is true; it is impossible exactly
-- when there is none; and the pass answers how often it evaluated the reply, which is once for each state of the set."
unfoldable pub passed_over : (set reply : States) → Passed
unfolding kept_by exists member members
passed_over set reply = record { kept = kept_by set reply; possible = exists (member reply) (members set); evaluations = length (members set) }

-- The same for a reply of an action.
unfoldable pub passed_by : (heads sets : List ℕ) → States → (action reply : ℕ) → Passed
unfolding passed_over reply_states head_at
passed_by heads sets set action reply = passed_over set (reply_states sets (head_at heads action) reply)

-- Examples, evaluated.
-- One fact. Action 0 may change it, action 1 asks for it. If it is known, do action 0, else action 1, and then action 1 again. The goal: it is known.
small : Sheet
small = record {
  facts = 1;
  constraint = top;
  actions = change top ∷ probe (fact 0 ∷ negation (fact 0) ∷ []) ∷ [];
  start = top;
  goal = known (fact 0);
  program = branch (known (fact 0)) (act 0 end) (act 1 end) (act 1 end);
}

-- Where both states are possible neither the fact nor its negation is known: the else-program is taken. Its node is 6: before it stand the jump over the goal, the goal,
-- the branch, its condition, the then-program and the jump behind that.
else_taken : settled (node_cells small) (set_words small) (low 3) 0 ≡ Place.Act 6 1
unfolding small node_cells settled set_words
else_taken = refl

-- Where the fact is known the then-program is taken; behind it the jump leads over the else-program to the rest at node 7.
then_taken : settled (node_cells small) (set_words small) (low 2) 0 ≡ Place.Act 4 0
unfolding small node_cells settled set_words
then_taken = refl

rest_reached : settled (node_cells small) (set_words small) (low 2) 5 ≡ Place.Act 7 1
unfolding small node_cells settled set_words
rest_reached = refl

-- At the end the goal is judged by the set: it fails where one possible state denies the fact.
goal_fails : settled (node_cells small) (set_words small) (low 3) 8 ≡ Place.End false
unfolding small node_cells settled set_words
goal_fails = refl

goal_holds : settled (node_cells small) (set_words small) (low 2) 8 ≡ Place.End true
unfolding small node_cells settled set_words
goal_holds = refl

-- The positions there: the then-program's action node is number 0, the else-program's 1 and the rest's 2; at the end it is 3, that of all.
else_position : position_at (node_cells small) (Place.Act 6 1) ≡ 1
unfolding small node_cells position_at
else_position = refl

rest_position : position_at (node_cells small) (Place.Act 7 1) ≡ 2
unfolding small node_cells position_at
rest_position = refl

end_position : position_at (node_cells small) (Place.End true) ≡ 3
unfolding small node_cells position_at
end_position = refl

-- The same sheet with another goal, judged at its end where the states of a set are possible.
judged_by : Epistemic → States → Place
unfolding small node_cells settled set_words
judged_by goal set =
    let sheet : Sheet = record { facts = 1; constraint = top; actions = []; start = top; goal = goal; program = end } in
    settled (node_cells sheet) (set_words sheet) set 0

-- "And" wants both parts, "or" one; the second part decides where the first doesn't.
one_of_two : judged_by (all_of (known top) (known (fact 0))) (low 3) ≡ Place.End false
unfolding judged_by
one_of_two = refl

other_of_two : judged_by (any_of (known (fact 0)) (not_known (fact 0))) (low 3) ≡ Place.End true
unfolding judged_by
other_of_two = refl

-- A part that is joined in the same way stands for its parts.
one_of_three : judged_by (all_of (all_of (known top) (known (fact 0))) (known top)) (low 3) ≡ Place.End false
unfolding judged_by
one_of_three = refl

-- A part that is joined the other way is judged by itself, and the parts behind it too.
and_in_or : judged_by (any_of (all_of (known (fact 0)) (known top)) (known top)) (low 3) ≡ Place.End true
unfolding judged_by
and_in_or = refl

-- What stands behind it is no part of it.
or_before_and : judged_by (all_of (any_of (known (fact 0)) (known (fact 0))) (known top)) (low 3) ≡ Place.End false
unfolding judged_by
or_before_and = refl

-- A first part of several nodes is skipped as a whole.
second_behind : judged_by (all_of (any_of (known top) (known (fact 0))) (not_known (fact 0))) (low 2) ≡ Place.End false
unfolding judged_by
second_behind = refl

-- The effect of a change that may lead anywhere, on the one state possible; of a probe there is none.
change_effect : effect (set_words small) (head_at (sheet_heads small) 0) (low 2) ≡ low 3
unfolding small sheet_heads effect set_words head_at
change_effect = refl

probe_effect : effect (set_words small) (head_at (sheet_heads small) 1) (low 2) ≡ low 2
unfolding small sheet_heads effect set_words head_at
probe_effect = refl

-- A reply that one possible state denies keeps the other; one that the action doesn't have keeps none.
reply_kept : stepped (sheet_heads small) (set_words small) (low 3) 1 0 ≡ low 2
unfolding small sheet_heads stepped set_words
reply_kept = refl

no_such_reply : stepped (sheet_heads small) (set_words small) (low 3) 1 2 ≡ low 0
unfolding small sheet_heads stepped set_words
no_such_reply = refl

-- One pass: of both states the reply "the fact is true" keeps one, after two evaluations, the other reply the other, and a change's reply both; of the state that denies it
-- the first keeps none, after one; of no state none, after none. Nor is a reply possible that the action doesn't have.
one_kept : passed_by (sheet_heads small) (set_words small) (low 3) 1 0 ≡ record { kept = low 2; possible = true; evaluations = 2 }
unfolding small sheet_heads passed_by set_words
one_kept = refl

other_kept : passed_by (sheet_heads small) (set_words small) (low 3) 1 1 ≡ record { kept = low 1; possible = true; evaluations = 2 }
unfolding small sheet_heads passed_by set_words
other_kept = refl

both_kept : passed_by (sheet_heads small) (set_words small) (low 3) 0 0 ≡ record { kept = low 3; possible = true; evaluations = 2 }
unfolding small sheet_heads passed_by set_words
both_kept = refl

none_kept : passed_by (sheet_heads small) (set_words small) (low 1) 1 0 ≡ record { kept = low 0; possible = false; evaluations = 1 }
unfolding small sheet_heads passed_by set_words
none_kept = refl

none_there : passed_by (sheet_heads small) (set_words small) (low 0) 1 0 ≡ record { kept = low 0; possible = false; evaluations = 0 }
unfolding small sheet_heads passed_by set_words
none_there = refl

no_reply_kept : passed_by (sheet_heads small) (set_words small) (low 3) 1 2 ≡ record { kept = low 0; possible = false; evaluations = 2 }
unfolding small sheet_heads passed_by set_words
no_reply_kept = refl
