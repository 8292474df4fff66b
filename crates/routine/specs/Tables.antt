-- A sheet as tables: which sets of states, which nodes and which heads it has. Every formula is evaluated into sets here, and never again in a step.
use Rattle.std.specs.Prelude.{ℕ, suc, ◌+◌, ◌≡◌, refl, Bool, true, false, ◌&&◌, ltb, take}
use mathlib.Core.List.{List, [], ◌∷◌, ◌++◌, map, flat_map}
use Rattle.std.proofs.Math.ListN.{length}
use Rattle.lists.specs.Lists.{up_from, below, write}
use Rattle.states.specs.declared.States.{States}
use Rattle.states.specs.Sets.{words, set_of}
use Rattle.format.specs.Syntax.{top, fact, negation, Epistemic, known, not_known, all_of, any_of, Program, end, act, branch, Action, change, probe, action_nodes, reply_count, Sheet}
use Rattle.format.specs.Truth.{is_state, holds, truth, reply_holds}
use Rattle.format.specs.Format.{Answer, gives, on_accepted, given_or}
use Rattle.routine.specs.declared.memory.Node.{Node}
use Rattle.routine.specs.Memory.{cells}

-- The table of each reply: the states after the effect in which it is true. ("after a probe, the same state, with a reply true in it"; 2013: the states where the reply holds.)
unfoldable pub reply_tables : Action → List States
unfolding set_of up_from reply_holds reply_count
reply_tables a = map (λ r. set_of (λ t. reply_holds a r t)) (below (reply_count a))

-- The other tables of actions, over a space of states.
module _ (space : ℕ → Bool) where
  -- The rows of an action that changes facts: for each number s below 256 the states that may follow state s, "after a change, one that the theory allows". (2013: its
  -- next states.) A probe "changes no fact" and has none.
  unfoldable pub rows : Action → List States
  unfolding set_of up_from truth
  rows (change theory) = map (λ s. set_of (λ t. space s && space t && truth theory s t)) (below 256)
  rows (probe replies) = []

  -- The sets of an action.
  unfoldable pub action_sets : Action → List States
  unfolding rows reply_tables
  action_sets a = rows a ++ reply_tables a

  -- The heads of actions whose sets stand one behind the other from set k on.
  unfoldable pub head_cells : (k : ℕ) → List Action → List ℕ
  unfolding rows action_sets reply_count
  head_cells k [] = []
  head_cells k (a ∷ later) = k ∷ (k + length (rows a)) ∷ reply_count a ∷ head_cells (k + length (action_sets a)) later

-- The atoms of an epistemic formula: its parts "known" and "not known". (2013: epistemic atoms.)
unfoldable pub atoms : Epistemic → ℕ
atoms (known f) = 1
atoms (not_known f) = 1
atoms (all_of f g) = atoms f + atoms g
atoms (any_of f g) = atoms f + atoms g

-- The sets of the atoms, left to right: the states in which the objective formula holds, so that it is known where these are all that are possible.
unfoldable pub atom_sets : Epistemic → List States
unfolding set_of holds
atom_sets (known f) = set_of (λ s. holds f s) ∷ []
atom_sets (not_known f) = set_of (λ s. holds f s) ∷ []
atom_sets (all_of f g) = atom_sets f ++ atom_sets g
atom_sets (any_of f g) = atom_sets f ++ atom_sets g

-- The nodes of an epistemic formula: "known and not known count as nodes"; "and" and "or" do too.
unfoldable pub formula_size : Epistemic → ℕ
formula_size (known f) = 1
formula_size (not_known f) = 1
formula_size (all_of f g) = suc (formula_size f + formula_size g)
formula_size (any_of f g) = suc (formula_size f + formula_size g)

-- They stand in reading order, the sets of the atoms from set k on. "And" and "or" tell how many nodes stand behind them, those of both parts.
unfoldable pub formula_nodes : Epistemic → (k : ℕ) → List Node
unfolding atoms formula_size
formula_nodes (known f) k = Node.Atom true k ∷ []
formula_nodes (not_known f) k = Node.Atom false k ∷ []
formula_nodes (all_of f g) k = Node.Join true (formula_size f + formula_size g) ∷ (formula_nodes f k ++ formula_nodes g (k + atoms f))
formula_nodes (any_of f g) k = Node.Join false (formula_size f + formula_size g) ∷ (formula_nodes f k ++ formula_nodes g (k + atoms f))

-- The nodes of a program, the atoms of its conditions, and their sets, in reading order.
unfoldable pub size : Program → ℕ
unfolding formula_size
size end = 0
size (act a rest) = suc (size rest)
size (branch f y z rest) = suc (formula_size f + (size y + suc (size z + size rest)))

unfoldable pub program_atoms : Program → ℕ
unfolding atoms
program_atoms end = 0
program_atoms (act a rest) = program_atoms rest
program_atoms (branch f y z rest) = atoms f + (program_atoms y + (program_atoms z + program_atoms rest))

unfoldable pub program_sets : Program → List States
unfolding atom_sets
program_sets end = []
program_sets (act a rest) = program_sets rest
program_sets (branch f y z rest) = atom_sets f ++ (program_sets y ++ (program_sets z ++ program_sets rest))

-- The nodes of a program in reading order ("branch (epistemic formula, then-program, else-program, rest)"), its sets from set k on, its first action node being number c of all. At its
-- end it goes on with the node behind its last. "a branch goes to its then-program if its condition holds after the history so far, else to its else-program, and
-- afterwards to its rest": behind the branch stands its condition, and is skipped; where it holds the then-program follows, behind whose end a jump leads over the
-- else-program to the rest; else the then-program and this jump are skipped too, and behind the else-program stands the rest. So every jump goes forward.
unfoldable pub program_nodes : Program → (k c : ℕ) → List Node
unfolding formula_nodes formula_size atoms size program_atoms action_nodes
program_nodes end k c = []
program_nodes (act a rest) k c = Node.Act a c ∷ program_nodes rest k (c + 1)
program_nodes (branch f y z rest) k c =
    Node.Branch (formula_size f) (formula_size f + suc (size y))
    ∷ (formula_nodes f k
    ++ (program_nodes y (k + atoms f) c
    ++ (Node.Jump (size z)
    ∷ (program_nodes z (k + atoms f + program_atoms y) (c + action_nodes y)
    ++ program_nodes rest (k + atoms f + program_atoms y + program_atoms z) (c + action_nodes y + action_nodes z)))))

-- The sets of a sheet: those of its actions, of its goal and of its conditions.
unfoldable pub sheet_action_sets : Sheet → List States
unfolding flat_map action_sets is_state
sheet_action_sets sheet = flat_map (action_sets (is_state sheet)) sheet.actions

unfoldable pub sheet_sets : Sheet → List States
unfolding sheet_action_sets program_sets atom_sets
sheet_sets sheet = sheet_action_sets sheet ++ (atom_sets sheet.goal ++ program_sets sheet.program)

-- The node from which on the goal stands.
abbrev pub goal_node : ℕ
goal_node = 1

-- The nodes of a goal and a program, in the sheet's order, their sets from set k on: a jump over the goal, which stands from node 1 on, the program, and the end.
abbrev pub routine_nodes : (goal : Epistemic) (program : Program) (k : ℕ) → List Node
routine_nodes goal program k =
    Node.Jump (formula_size goal) ∷ (formula_nodes goal k ++ (program_nodes program (k + atoms goal) 0 ++ (Node.End (action_nodes program) ∷ [])))

-- The nodes of a sheet.
unfoldable pub sheet_nodes : Sheet → List Node
unfolding sheet_action_sets formula_nodes formula_size atoms program_nodes action_nodes
sheet_nodes sheet = routine_nodes sheet.goal sheet.program (length (sheet_action_sets sheet))

-- The heads of a sheet's actions.
unfoldable pub sheet_heads : Sheet → List ℕ
unfolding head_cells is_state
sheet_heads sheet = head_cells (is_state sheet) 0 sheet.actions

-- The start set: the states in which the start formula holds, where every run begins. (2013: the initial knowledge state.)
unfoldable pub sheet_start : Sheet → States
unfolding set_of is_state holds
sheet_start sheet = set_of (λ s. is_state sheet s && holds sheet.start s)

-- The start set of an accepted sheet, or the number of the refusal.
unfoldable pub start_of : Answer Sheet → Answer States
unfolding sheet_start on_accepted
start_of answer = on_accepted (λ (sheet : Sheet). gives (sheet_start sheet)) answer

-- A memory after a sheet was prepared: what the sheet has is written from its first place on; a refused sheet leaves it as it was.
unfoldable pub prepared : (Sheet → List ℕ) → Answer Sheet → (memory : List ℕ) → List ℕ
unfolding given_or write
prepared has answer memory = given_or memory (λ (sheet : Sheet). write memory 0 (has sheet)) answer

-- What a sheet has in each memory.
unfoldable pub set_words : Sheet → List ℕ
unfolding flat_map words sheet_sets
set_words sheet = flat_map words (sheet_sets sheet)

unfoldable pub node_cells : Sheet → List ℕ
unfolding flat_map cells sheet_nodes
node_cells sheet = flat_map cells (sheet_nodes sheet)

-- The three memories after a call that prepares a sheet: its tables, written into what they held; a refusal leaves them as they were.
abbrev pub TablesAfter : Answer Sheet → (heads nodes sets heads' nodes' sets' : List ℕ) → Type 0
TablesAfter answer heads nodes sets heads' nodes' sets' =
    (heads' ≡ prepared sheet_heads answer heads) × (nodes' ≡ prepared node_cells answer nodes) × (sets' ≡ prepared set_words answer sets)

-- Examples, evaluated.
-- A set of states below 64, by its word.
abbrev pub low : ℕ → States
low w = record { w0 = w; w1 = 0; w2 = 0; w3 = 0 }

-- One fact and a theory that mentions no new fact: each state may follow each. Behind the last state a row is empty.
free_rows : take 3 (rows (λ s. ltb s 2) (change top)) ≡ low 3 ∷ low 3 ∷ low 0 ∷ []
unfolding rows
free_rows = refl

-- A change has 256 rows and the one reply 0; a probe has a table for each reply. So the heads.
two_heads : head_cells (λ s. ltb s 2) 0 (change top ∷ probe (fact 0 ∷ negation (fact 0) ∷ []) ∷ []) ≡ 0 ∷ 256 ∷ 1 ∷ 257 ∷ 257 ∷ 2 ∷ []
unfolding head_cells
two_heads = refl

-- A branch skips its condition, or that, the then-program and the jump behind it; the jump skips the else-program, and the rest stands behind that. The action nodes
-- are numbered in reading order.
branch_nodes_example : program_nodes (branch (known (fact 0)) (act 8 end) (act 6 (act 8 end)) (act 7 end)) 5 0
    ≡ Node.Branch 1 3 ∷ Node.Atom true 5 ∷ Node.Act 8 0 ∷ Node.Jump 2 ∷ Node.Act 6 1 ∷ Node.Act 8 2 ∷ Node.Act 7 3 ∷ []
unfolding program_nodes
branch_nodes_example = refl

-- A condition with both connectives, in reading order.
condition_nodes : formula_nodes (all_of (any_of (not_known (fact 1)) (known (fact 2))) (known (fact 0))) 4
    ≡ Node.Join true 4 ∷ Node.Join false 2 ∷ Node.Atom false 4 ∷ Node.Atom true 5 ∷ Node.Atom true 6 ∷ []
unfolding formula_nodes
condition_nodes = refl
