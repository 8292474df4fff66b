-- The method: what the parts of `prepare` do, for the contracts of inner functions. An auditor of the promises needs none of it. Parts of a sheet stand in its bytes as
-- format/specs/Standing.antt says.
use Rattle.std.specs.Prelude.{ℕ, ◌+◌, ◌-◌, ◌*◌, ◌≤◌, Bool, true, false, ◌&&◌, ◌≡◌, length}
use mathlib.Core.List.{List, [], ◌∷◌, ◌++◌, flat_map, map}
use Rattle.states.specs.declared.States.{States}
use Rattle.states.specs.Sets.{words, member, set_of}
use Rattle.format.specs.Syntax.{Objective, Epistemic, all_of, any_of, Program, action_nodes, Action, change, Sheet}
use Rattle.format.specs.Truth.{truth, holds}
use Rattle.format.specs.Format.{got, gives, deepest, most_acts, epistemic, reading}
use Rattle.format.specs.Standing.{ObjectiveAt, RepliesAt, ActionAt, ActionsAt, ProgramAt}
use Rattle.routine.specs.declared.memory.Node.{Node}
use Rattle.routine.specs.declared.actions.Laid.{Laid}
use Rattle.routine.specs.declared.conditions.Filled.{Filled}
use Rattle.lists.specs.Lists.{write}
use Rattle.routine.specs.Memory.{cells, head_most, node_most, set_most}
use Rattle.routine.specs.Tables.{rows, action_sets, head_cells, atoms, atom_sets, formula_size, formula_nodes, size, program_atoms, program_sets, program_nodes, routine_nodes}

-- The head of an action is written as that of action a and its sets from set k on, and r is where they end.
abbrev pub ActionWritten : (space : States) (a k : ℕ) (heads heads' sets sets' : List ℕ) (r : Laid) (x : Action) (q : ℕ) → Type 0
ActionWritten space a k heads heads' sets sets' r x q =
    (r ≡ record { at = q; set = k + length (action_sets (member space) x) })
    × (heads' ≡ write heads (3 * a) (head_cells (member space) k (x ∷ [])))
    × (sets' ≡ write sets (4 * k) (flat_map words (action_sets (member space) x)))

-- Two formulas joined by "and" or "or".
unfoldable pub pair : (all : Bool) → Epistemic → Epistemic → Epistemic
pair true f g = all_of f g
pair false f g = any_of f g

-- How far the tables are written behind a formula or a program that ends at q.
abbrev pub behind_formula : Filled → Epistemic → (q : ℕ) → Filled
behind_formula from f q = record { at = q; node = from.node + formula_size f; set = from.set + atoms f; acts = from.acts }

abbrev pub behind_program : Filled → Program → (q : ℕ) → Filled
behind_program from x q = record { at = q; node = from.node + size x; set = from.set + program_atoms x; acts = from.acts + action_nodes x }

-- Its nodes and its sets are written, and r is how far.
abbrev pub FormulaWritten : Filled → (f : Epistemic) (q : ℕ) (nodes nodes' sets sets' : List ℕ) → Filled → Type 0
FormulaWritten from f q nodes nodes' sets sets' r =
    (r ≡ behind_formula from f q)
    × (nodes' ≡ write nodes (3 * from.node) (flat_map cells (formula_nodes f from.set)))
    × (sets' ≡ write sets (4 * from.set) (flat_map words (atom_sets f)))

abbrev pub ProgramWritten : Filled → (x : Program) (q : ℕ) (nodes nodes' sets sets' : List ℕ) → Filled → Type 0
ProgramWritten from x q nodes nodes' sets sets' r =
    (r ≡ behind_program from x q)
    × (nodes' ≡ write nodes (3 * from.node) (flat_map cells (program_nodes x from.set from.acts)))
    × (sets' ≡ write sets (4 * from.set) (flat_map words (program_sets x)))

module _ (bytes : List ℕ) (n : ℕ) where
  -- A position is where the theory at another ends.
  abbrev pub TheoryEnds : (at r : ℕ) → Type 0
  TheoryEnds at r = (f : Objective) (q : ℕ) → ObjectiveAt bytes n true f at q → r ≡ q

  -- A set is the row of a state.
  abbrev pub RowIs : (at : ℕ) (space : States) (s : ℕ) → States → Type 0
  RowIs at space s r = (f : Objective) (q : ℕ) → ObjectiveAt bytes n true f at q → r ≡ set_of (λ t. member space s && member space t && truth f s t)

  -- The rows of a theory are written from set k on.
  abbrev pub RowsFill : (at : ℕ) (space : States) (k : ℕ) (sets after : List ℕ) → Type 0
  RowsFill at space k sets after =
      (f : Objective) (q : ℕ) → ObjectiveAt bytes n true f at q → after ≡ write sets (4 * k) (flat_map words (rows (member space) (change f)))

  -- m replies stand at a position, and their tables have room from set k on.
  pub record Replies (at m k : ℕ) : Type 0 where
    pub formulas : List Objective
    pub next : ℕ
    pub stand : RepliesAt bytes n formulas at next
    pub all : length formulas ≡ m
    pub room : k + m ≤ set_most

  -- Their tables are written, and r is where they end.
  abbrev pub RepliesFill : (at m k : ℕ) (sets after : List ℕ) (r : ℕ) → Type 0
  RepliesFill at m k sets after r =
      (fs : List Objective) (q : ℕ) → RepliesAt bytes n fs at q → length fs ≡ m → (r ≡ q) × (after ≡ write sets (4 * k) (flat_map words (map (λ (f : Objective). set_of (λ t. holds f t)) fs)))

  module _ (space : States) where
    -- An action stands at a position, and its sets have room from set k on.
    pub record ActionRoom (at k : ℕ) : Type 0 where
      pub action : Action
      pub next : ℕ
      pub stands : ActionAt bytes n action at next
      pub room : k + length (action_sets (member space) action) ≤ set_most

    -- Its head and its sets are written.
    abbrev pub ActionFills : (at a k : ℕ) (heads heads' sets sets' : List ℕ) (r : Laid) → Type 0
    ActionFills at a k heads heads' sets sets' r = (x : Action) (q : ℕ) → ActionAt bytes n x at q → ActionWritten space a k heads heads' sets sets' r x q

    -- So many actions stand at a position, at most 31, and their sets have room.
    pub record ActionsRoom (at count : ℕ) : Type 0 where
      pub actions : List Action
      pub next : ℕ
      pub stand : ActionsAt bytes n actions at next
      pub all : length actions ≡ count
      pub few : count ≤ head_most
      pub room : length (flat_map (action_sets (member space)) actions) ≤ set_most

    -- Their heads and their sets are written.
    abbrev pub ActionsFill : (at count : ℕ) (heads heads' sets sets' : List ℕ) (r : Laid) → Type 0
    ActionsFill at count heads heads' sets sets' r =
        (actions : List Action) (q : ℕ) → ActionsAt bytes n actions at q → length actions ≡ count
        → (r ≡ record { at = q; set = length (flat_map (action_sets (member space)) actions) })
        × (heads' ≡ write heads 0 (head_cells (member space) 0 actions))
        × (sets' ≡ write sets 0 (flat_map words (flat_map (action_sets (member space)) actions)))

  -- The node and the set of an atom are written whose objective formula stands at a position, and r is how far.
  abbrev pub AtomFills : (at : ℕ) (from : Filled) (node : Node) (nodes nodes' sets sets' : List ℕ) → Filled → Type 0
  AtomFills at from node nodes nodes' sets sets' r =
      (f : Objective) (q : ℕ) → ObjectiveAt bytes n false f at q
      → (r ≡ record { at = q; node = from.node + 1; set = from.set + 1; acts = from.acts })
      × (nodes' ≡ write nodes (3 * from.node) (cells node))
      × (sets' ≡ write sets (4 * from.set) (words (set_of (λ s. holds f s))))

  -- An epistemic formula of at most `left` levels is read at a position, and its nodes and its sets have room.
  pub record FormulaRoom (left : ℕ) (from : Filled) : Type 0 where
    pub formula : Epistemic
    pub next : ℕ
    pub read : epistemic n left bytes from.at ≡ got formula next
    pub levels : left ≤ deepest
    pub nodes_room : from.node + formula_size formula ≤ node_most
    pub sets_room : from.set + atoms formula ≤ set_most

  -- They are written.
  abbrev pub FormulaFills : (left : ℕ) (from : Filled) (nodes nodes' sets sets' : List ℕ) → Filled → Type 0
  FormulaFills left from nodes nodes' sets sets' r =
      (f : Epistemic) (q : ℕ) → epistemic n left bytes from.at ≡ got f q → FormulaWritten from f q nodes nodes' sets sets' r

  -- Two parts are read at a position, with one level less, and there is room for a node, for theirs and for their sets.
  pub record PartsRoom (left : ℕ) (from : Filled) (at : ℕ) : Type 0 where
    pub first : Epistemic
    pub second : Epistemic
    pub middle : ℕ
    pub next : ℕ
    pub first_read : epistemic n (left - 1) bytes at ≡ got first middle
    pub second_read : epistemic n (left - 1) bytes middle ≡ got second next
    pub some : 1 ≤ left
    pub levels : left ≤ deepest
    pub nodes_room : from.node + 1 + formula_size first + formula_size second ≤ node_most
    pub sets_room : from.set + atoms first + atoms second ≤ set_most

  -- They are written, joined.
  abbrev pub PartsFill : (left : ℕ) (from : Filled) (at : ℕ) (all : Bool) (nodes nodes' sets sets' : List ℕ) → Filled → Type 0
  PartsFill left from at all nodes nodes' sets sets' r =
      (f g : Epistemic) (m q : ℕ) → epistemic n (left - 1) bytes at ≡ got f m → epistemic n (left - 1) bytes m ≡ got g q
      → FormulaWritten from (pair all f g) q nodes nodes' sets sets' r

  -- A program stands at a position, and its nodes and its sets have room.
  pub record ProgramRoom (from : Filled) : Type 0 where
    pub program : Program
    pub next : ℕ
    pub stands : ProgramAt bytes n program from.at next
    pub nodes_room : from.node + size program ≤ node_most
    pub sets_room : from.set + program_atoms program ≤ set_most
    pub acts_room : from.acts + action_nodes program ≤ most_acts

  -- They are written.
  abbrev pub ProgramFills : (from : Filled) (nodes nodes' sets sets' : List ℕ) → Filled → Type 0
  ProgramFills from nodes nodes' sets sets' r = (x : Program) (q : ℕ) → ProgramAt bytes n x from.at q → ProgramWritten from x q nodes nodes' sets sets' r

  -- A goal is read at a position and a program stands behind it, and their nodes and their sets have room.
  pub record RoutineRoom (at k : ℕ) : Type 0 where
    pub goal : Epistemic
    pub program : Program
    pub middle : ℕ
    pub next : ℕ
    pub read : epistemic n deepest bytes at ≡ got goal middle
    pub stands : ProgramAt bytes n program middle next
    pub nodes_room : formula_size goal + size program + 2 ≤ node_most
    pub sets_room : k + (atoms goal + program_atoms program) ≤ set_most
    pub acts_room : action_nodes program ≤ most_acts

  -- They are written.
  abbrev pub RoutineFills : (at k : ℕ) (nodes nodes' sets sets' : List ℕ) → Type 0
  RoutineFills at k nodes nodes' sets sets' =
      (goal : Epistemic) (program : Program) (middle next : ℕ) → epistemic n deepest bytes at ≡ got goal middle → ProgramAt bytes n program middle next
      → (nodes' ≡ write nodes 0 (flat_map cells (routine_nodes goal program k)))
      × (sets' ≡ write sets (4 * k) (flat_map words (atom_sets goal ++ program_sets program)))

-- A sheet is accepted.
pub record Acceptable (bytes : List ℕ) : Type 0 where
  pub sheet : Sheet
  pub read : reading bytes ≡ gives sheet
