-- What a sheet says, as data. Document 01, "The sheet".
use Rattle.std.specs.Prelude.{ℕ, suc, ◌+◌, List, [], length, get_or}

-- An objective formula. A new fact is the value after a change, and stands in theories only.
pub data Objective : Type 0 where
  bottom top : Objective
  fact new_fact : ℕ → Objective
  negation : Objective → Objective
  conjunction disjunction equivalence : Objective → Objective → Objective

-- An epistemic formula: an objective formula is known, or isn't; two epistemic formulas hold both, or one of them does.
pub data Epistemic : Type 0 where
  known not_known : Objective → Epistemic
  all_of any_of : Epistemic → Epistemic → Epistemic

-- A program: the end; an action by its number, and the rest; a branch, with its condition, then-program, else-program and rest.
-- (2013: a while-free knowledge-based program. A loop is refused when it is read, so it has no form here.)
pub data Program : Type 0 where
  end : Program
  act : ℕ → Program → Program
  branch : Epistemic → Program → Program → Program → Program

-- The action nodes and the branch nodes of a program.
unfoldable pub action_nodes : Program → ℕ
action_nodes end = 0
action_nodes (act a rest) = suc (action_nodes rest)
action_nodes (branch f p q rest) = action_nodes p + action_nodes q + action_nodes rest

unfoldable pub branch_nodes : Program → ℕ
branch_nodes end = 0
branch_nodes (act a rest) = branch_nodes rest
branch_nodes (branch f p q rest) = suc (branch_nodes p + branch_nodes q + branch_nodes rest)

-- An action: a change with its theory, or a probe with its replies, numbered from 0. (2013: an ontic and an epistemic action.)
pub data Action : Type 0 where
  change : Objective → Action
  probe : List Objective → Action

-- How many replies an action has. A change has one, 0.
unfoldable pub reply_count : Action → ℕ
reply_count (change theory) = 1
reply_count (probe replies) = length replies

-- A sheet. Its states satisfy its constraint (document 02); its actions are numbered from 0.
pub record Sheet : Type 0 where
  pub facts : ℕ
  pub constraint : Objective
  pub actions : List Action
  pub start : Objective
  pub goal : Epistemic
  pub program : Program

-- An action of a sheet by its number. A number that the sheet doesn't have stands for a probe without replies, which no run contains.
unfoldable pub action_of : Sheet → ℕ → Action
action_of sheet a = get_or sheet.actions a (probe [])
