-- How many sets and nodes formulas and programs have, and how many bits these take. Assumes nothing.
use Prim.Native.Nat.{ℕ, suc, ◌+◌, ◌*◌, ◌≤◌}
use mathlib.Core.Path.{◌≡◌, refl, ap}
use mathlib.Core.List.{List, ◌∷◌, ◌++◌}
use mathlib.Core.Bool.{false}
use native.Mathlib.Omega.{arith}
use lib.ListN.{length, length-append}
use Rattle.format.specs.Syntax.{Epistemic, known, not_known, all_of, any_of, Program, end, act, branch, action_nodes}
use Rattle.format.specs.Format.{deepest, known_node, not_known_node, all_of_node, any_of_node, end_node, act_node, branch_node}
use Rattle.format.proofs.StandingLaws.{epistemic_node_inside, program_node_inside}
use Rattle.format.specs.Standing.{EpistemicAt, ProgramAt}
use Rattle.format.proofs.FormulaLaws.{objective_onward}
use Rattle.routine.specs.declared.memory.Node.{Node}
use Rattle.routine.specs.Tables.{atoms, atom_sets, formula_size, formula_nodes, size, program_atoms, program_sets, program_nodes}

-- A formula has as many nodes as its size, and a set for each atom.
pub formula_length : (f : Epistemic) (k : ℕ) → length (formula_nodes f k) ≡ formula_size f
unfolding formula_nodes formula_size
formula_length (known f) k = refl
formula_length (not_known f) k = refl
formula_length (all_of f g) k = omega (arith, length-append (formula_nodes f k) (formula_nodes g (k + atoms f)), formula_length f k, formula_length g (k + atoms f))
formula_length (any_of f g) k = omega (arith, length-append (formula_nodes f k) (formula_nodes g (k + atoms f)), formula_length f k, formula_length g (k + atoms f))

pub atom_sets_length : (f : Epistemic) → length (atom_sets f) ≡ atoms f
unfolding atom_sets atoms
atom_sets_length (known f) = refl
atom_sets_length (not_known f) = refl
atom_sets_length (all_of f g) = omega (arith, length-append (atom_sets f) (atom_sets g), atom_sets_length f, atom_sets_length g)
atom_sets_length (any_of f g) = omega (arith, length-append (atom_sets f) (atom_sets g), atom_sets_length f, atom_sets_length g)

-- It has one of each at least.
pub some_node : (f : Epistemic) → 1 ≤ formula_size f
unfolding formula_size
some_node (known f) = omega arith
some_node (not_known f) = omega arith
some_node (all_of f g) = omega arith
some_node (any_of f g) = omega arith

pub some_atom : (f : Epistemic) → 1 ≤ atoms f
unfolding atoms
some_atom (known f) = omega arith
some_atom (not_known f) = omega arith
some_atom (all_of f g) = omega (arith, some_atom f)
some_atom (any_of f g) = omega (arith, some_atom f)

-- A program has as many nodes as its size, and a set for each atom.
pub nodes_length : (p : Program) (k c : ℕ) → length (program_nodes p k c) ≡ size p
unfolding program_nodes size
nodes_length end k c = refl
nodes_length (act a rest) k c = ap suc (nodes_length rest k (c + 1))
nodes_length (branch f y z rest) k c =
    let k₁ = k + atoms f in
    let k₂ = k + atoms f + program_atoms y in
    let k₃ = k + atoms f + program_atoms y + program_atoms z in
    let c₁ = c + action_nodes y in
    let c₂ = c + action_nodes y + action_nodes z in
    let later = program_nodes z k₂ c₁ ++ program_nodes rest k₃ c₂ in
    omega (
      arith,
      length-append (formula_nodes f k) (program_nodes y k₁ c ++ (Node.Jump (size z) ∷ later)),
      length-append (program_nodes y k₁ c) (Node.Jump (size z) ∷ later),
      length-append (program_nodes z k₂ c₁) (program_nodes rest k₃ c₂),
      formula_length f k,
      nodes_length y k₁ c,
      nodes_length z k₂ c₁,
      nodes_length rest k₃ c₂,
    )

pub program_sets_length : (p : Program) → length (program_sets p) ≡ program_atoms p
unfolding program_sets program_atoms
program_sets_length end = refl
program_sets_length (act a rest) = program_sets_length rest
program_sets_length (branch f y z rest) =
    omega (
      arith,
      length-append (atom_sets f) (program_sets y ++ (program_sets z ++ program_sets rest)),
      length-append (program_sets y) (program_sets z ++ program_sets rest),
      length-append (program_sets z) (program_sets rest),
      atom_sets_length f,
      program_sets_length y,
      program_sets_length z,
      program_sets_length rest,
    )

-- What they take of the sheet: an atom 5 bits at least, "and" and "or" 2.
module _ (bytes : List ℕ) (n : ℕ) where
  pub formula_bits : (f : Epistemic) (p q : ℕ) → EpistemicAt bytes n f p q → (p + 5 * atoms f ≤ q) × (p + 2 * formula_size f ≤ q)
  unfolding EpistemicAt atoms formula_size
  formula_bits (known f) p q s =
      let i = (epistemic_node_inside bytes p).found known_node s.0 s.1 in
      let h = (objective_onward n false deepest bytes s.0).found f q s.2 in
      (omega (arith, i.0, h.0), omega (arith, i.0, h.0))
  formula_bits (not_known f) p q s =
      let i = (epistemic_node_inside bytes p).found not_known_node s.0 s.1 in
      let h = (objective_onward n false deepest bytes s.0).found f q s.2 in
      (omega (arith, i.0, h.0), omega (arith, i.0, h.0))
  formula_bits (all_of f g) p q s =
      let i = (epistemic_node_inside bytes p).found all_of_node s.0 s.1 in
      let a = formula_bits f s.0 s.2 s.3 in
      let b = formula_bits g s.2 q s.4 in
      (omega (arith, i.0, a.0, b.0), omega (arith, i.0, a.1, b.1))
  formula_bits (any_of f g) p q s =
      let i = (epistemic_node_inside bytes p).found any_of_node s.0 s.1 in
      let a = formula_bits f s.0 s.2 s.3 in
      let b = formula_bits g s.2 q s.4 in
      (omega (arith, i.0, a.0, b.0), omega (arith, i.0, a.1, b.1))

  -- A program 2 bits for each of its nodes, those of its jumps being taken by the ends before and behind them, and 2 for its end.
  pub program_bits : (program : Program) (p q : ℕ) → ProgramAt bytes n program p q → (p + 5 * program_atoms program ≤ q) × (p + 2 * size program + 2 ≤ q)
  unfolding ProgramAt program_atoms size
  program_bits end p q s = let i = (program_node_inside bytes p).found end_node q s in (omega (arith, i.0), omega (arith, i.0))
  program_bits (act a rest) p q s =
      let i = (program_node_inside bytes p).found (act_node a) s.0 s.1 in
      let r = program_bits rest s.0 q s.2 in
      (omega (arith, i.0, r.0), omega (arith, i.0, r.1))
  program_bits (branch f y z rest) p q s =
      let parts = s.2 in
      let i = (program_node_inside bytes p).found branch_node s.0 s.1 in
      let c = formula_bits f s.0 parts.then_at parts.condition_stands in
      let t = program_bits y parts.then_at parts.else_at parts.then_stands in
      let e = program_bits z parts.else_at parts.rest_at parts.else_stands in
      let r = program_bits rest parts.rest_at q parts.rest_stands in
      (omega (arith, i.0, c.0, t.0, e.0, r.0), omega (arith, i.0, c.1, t.1, e.1, r.1))
