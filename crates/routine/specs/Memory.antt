-- What stands in the memory of a routine's tables, whatever numbers are in it: sets of states, nodes of the program and of its formulas, heads of actions.
use Rattle.std.specs.Prelude.{if◌then◌else◌, ℕ, ◌+◌, ◌*◌, ◌<◌, ◌≡◌, List, [], ◌∷◌, Bool, true, false, ltb, eqb, length, get_or}
use Rattle.states.specs.declared.States.{States}
use Rattle.states.specs.Sets.{words_at, set_of}
use Rattle.routine.specs.declared.memory.Node.{Node}
use Rattle.routine.specs.declared.memory.Head.{Head}

-- A truth value as a number.
unfoldable pub flag : Bool → ℕ
flag true = 1
flag false = 0

-- A node as three numbers.
unfoldable pub cells : Node → List ℕ
unfolding flag
cells (Node.Act a number) = 0 ∷ a ∷ number ∷ []
cells (Node.Branch met unmet) = 1 ∷ met ∷ unmet ∷ []
cells (Node.Jump skip) = 2 ∷ skip ∷ 0 ∷ []
cells (Node.Join all size) = 3 ∷ size ∷ flag all ∷ []
cells (Node.Atom positive k) = 4 ∷ k ∷ flag positive ∷ []
cells (Node.End count) = 5 ∷ count ∷ 0 ∷ []

-- The numbers of a node fit 16 bits.
unfoldable pub Small : Node → Type 0
Small (Node.Act a number) = (a < 65536) × (number < 65536)
Small (Node.Branch met unmet) = (met < 65536) × (unmet < 65536)
Small (Node.Jump skip) = skip < 65536
Small (Node.Join all size) = size < 65536
Small (Node.Atom positive k) = k < 65536
Small (Node.End count) = count < 65536

-- The limits of the memory: heads, nodes, sets.
abbrev pub head_most : ℕ
head_most = 31

abbrev pub node_most : ℕ
node_most = 4096

abbrev pub set_most : ℕ
set_most = 10240

-- Memories of the lengths that their types fix.
abbrev pub Sized : (heads nodes sets : List ℕ) → Type 0
Sized heads nodes sets = (length heads ≡ 3 * head_most) × (length nodes ≡ 3 * node_most) × (length sets ≡ 4 * set_most)

-- Set k of a memory; past the last the empty one.
unfoldable pub set_at : (sets : List ℕ) (k : ℕ) → States
unfolding words_at set_of
set_at sets k =
    if ltb k set_most then words_at sets (4 * k)
    else set_of (λ s. false)

-- The node that three numbers are. A flag other than 1 counts as 0.
unfoldable pub node_of : (kind operand second : ℕ) → Node
node_of kind operand second =
    if eqb kind 0 then Node.Act operand second
    else if eqb kind 1 then Node.Branch operand second
    else if eqb kind 2 then Node.Jump operand
    else if eqb kind 3 then Node.Join (eqb second 1) operand
    else if eqb kind 4 then Node.Atom (eqb second 1) operand
    else Node.End operand

-- Node i of a memory; past the last an end.
unfoldable pub node_at : (nodes : List ℕ) (i : ℕ) → Node
unfolding node_of
node_at nodes i = if ltb i node_most then node_of (get_or nodes (3 * i) 0) (get_or nodes (3 * i + 1) 0) (get_or nodes (3 * i + 2) 0) else Node.End 0

-- The head of action a in a memory; past the last one without replies.
unfoldable pub head_at : (heads : List ℕ) (a : ℕ) → Head
head_at heads a =
    if ltb a head_most then record { rows = get_or heads (3 * a) 0; replies = get_or heads (3 * a + 1) 0; count = get_or heads (3 * a + 2) 0 }
    else record { rows = 0; replies = 0; count = 0 }
