-- Laws of epistemic formulas: how the first node tells the parts of one that is read, and how its nodes and sets are written part by part. Assumes nothing.
use Prim.Native.Nat.{ℕ, suc, ◌+◌, ◌-◌, ◌*◌, ◌≤◌, ◌<◌}
use mathlib.Core.Path.{◌≡◌, sym, ap, subst, ◌∙◌}
use mathlib.Core.List.{List, ◌∷◌, ◌++◌, flat_map}
use mathlib.Core.Bool.{Bool, true, false}
use native.Mathlib.Omega.{arith}
use Rattle.format.specs.Syntax.{Objective, Epistemic, known, not_known, all_of, any_of}
use Rattle.format.specs.Format.{Read, got, fault, objective, EpistemicNode, known_node, not_known_node, all_of_node, any_of_node, epistemic_node, epistemic_behind, epistemic, deepest}
use Rattle.format.proofs.ReaderLaws.{Pair, epistemic_split, known_split, not_known_split, all_of_split, any_of_split}
use Rattle.format.specs.Standing.{ObjectiveAt}
use Rattle.format.proofs.FormulaLaws.{objective_levels}
use Rattle.routine.specs.declared.memory.Node.{Node}
use Rattle.routine.specs.declared.conditions.Filled.{Filled}
use Rattle.states.specs.Sets.{words}
use Rattle.lists.specs.Lists.{write}
use Rattle.routine.specs.Memory.{cells, node_most, set_most}
use Rattle.routine.specs.Tables.{atoms, atom_sets, formula_size, formula_nodes}
use Rattle.routine.specs.Filling.{pair, AtomFills, FormulaRoom, FormulaFills, PartsRoom, FormulaWritten, behind_formula}
use Rattle.routine.proofs.SizeLaws.{formula_length, atom_sets_length, some_node, some_atom}
use Rattle.routine.proofs.WriteLaws.{spread_one, spread_on, node_before, words_four, cells_three}

module _ (bytes : List ℕ) (n left : ℕ) where
  -- A formula of an atom whose objective formula stands from p to q.
  pub record AtomAt (make : Objective → Epistemic) (f : Epistemic) (p q : ℕ) : Type 0 where
    pub inner : Objective
    pub is : f ≡ make inner
    pub stands : ObjectiveAt bytes n false inner p q

  -- A formula of two parts that are read from p to q, with one level less.
  pub record PairAt (make : Epistemic → Epistemic → Epistemic) (f : Epistemic) (p q : ℕ) : Type 0 where
    pub parts : Pair (objective n false (left - 1)) (epistemic n (left - 1)) bytes p f q make
    pub many : formula_size f ≡ suc (formula_size parts.first + formula_size parts.second)
    pub sets_many : atoms f ≡ atoms parts.first + atoms parts.second
    pub some : 1 ≤ left

  -- The parts of a formula that ends at q, by what its first node is.
  abbrev pub Parts : Read EpistemicNode → (f : Epistemic) (q : ℕ) → Type 0
  Parts (got known_node p) f q = AtomAt known f p q
  Parts (got not_known_node p) f q = AtomAt not_known f p q
  Parts (got all_of_node p) f q = PairAt all_of f p q
  Parts (got any_of_node p) f q = PairAt any_of f p q
  Parts (fault r) f q = ⊥

module _ (bytes : List ℕ) (n : ℕ) where
  -- A formula behind its first node.
  parts_behind : (left : ℕ) → left ≤ deepest → 1 ≤ left → (r : ℕ) (f : Epistemic) (q : ℕ) (h : EpistemicNode)
      → epistemic_behind (objective n false (left - 1)) (epistemic n (left - 1)) h bytes r ≡ got f q → Parts bytes n left (got h r) f q
  parts_behind left l some r f q known_node e = let w = known_split _ _ bytes r f q e in record { inner = w.0; is = sym w.2; stands = objective_levels n false (left - 1) deepest (omega arith) bytes r w.0 q w.1 }
  parts_behind left l some r f q not_known_node e = let w = not_known_split _ _ bytes r f q e in record { inner = w.0; is = sym w.2; stands = objective_levels n false (left - 1) deepest (omega arith) bytes r w.0 q w.1 }
  parts_behind left l some r f q all_of_node e =
      let w = all_of_split _ _ bytes r f q e in
      record { parts = w; many = unfold formula_size in (ap formula_size (sym w.is)); sets_many = unfold atoms in (ap atoms (sym w.is)); some = some }
  parts_behind left l some r f q any_of_node e =
      let w = any_of_split _ _ bytes r f q e in
      record { parts = w; many = unfold formula_size in (ap formula_size (sym w.is)); sets_many = unfold atoms in (ap atoms (sym w.is)); some = some }

  -- The parts of a formula that is read, by what `epistemic_node` answers.
  pub formula_parts : (left at : ℕ) {h : Read EpistemicNode} → left ≤ deepest → h ≡ epistemic_node bytes at
      → (f : Epistemic) (q : ℕ) → epistemic n left bytes at ≡ got f q → Parts bytes n left h f q
  formula_parts left at l e f q r =
      let w = epistemic_split n bytes at left f q r in
      subst (λ x. Parts bytes n left x f q) (sym w.3 ∙ sym e) (parts_behind left l w.0 w.2 f q w.1 w.4)

-- The atom that says of an objective formula that it is known, or that it isn't.
abbrev atom_of : (positive : Bool) → Objective → Epistemic
atom_of true = known
atom_of false = not_known

-- Where the parts of a node are written: behind it.
abbrev pub parts_from : Filled → (p : ℕ) → Filled
parts_from from p = record { at = p; node = from.node + 1; set = from.set; acts = from.acts }

module _ (bytes : List ℕ) (n left : ℕ) (from : Filled) where
  -- An atom is one node and one set.
  module _ (f : Epistemic) (p q : ℕ) (nodes sets : List ℕ) {nodes' sets' : List ℕ} {r : Filled} where
    pub laid_atom : (positive : Bool) → AtomFills bytes n p from (Node.Atom positive from.set) nodes nodes' sets sets' r → AtomAt bytes n left (atom_of positive) f p q → FormulaWritten from f q nodes nodes' sets sets' r
    unfolding atoms atom_sets formula_size formula_nodes
    laid_atom true fills h = let a = fills h.inner q h.stands in rw h.is (a.0, spread_one cells _ nodes (3 * from.node) a.1, spread_one words _ sets (4 * from.set) a.2)
    laid_atom false fills h = let a = fills h.inner q h.stands in rw h.is (a.0, spread_one cells _ nodes (3 * from.node) a.1, spread_one words _ sets (4 * from.set) a.2)

  -- Of two parts the first is written behind where the node goes, the second behind the first, and then the node.
  module _ (first second : Epistemic) (p middle q : ℕ) (first_read : epistemic n (left - 1) bytes p ≡ got first middle) (second_read : epistemic n (left - 1) bytes middle ≡ got second q) where
    abbrev pub first_behind : Filled
    first_behind = behind_formula (parts_from from p) first middle

    abbrev second_behind_law : Filled
    second_behind_law = behind_formula first_behind second q

    -- What the second part writes, from where the first ends.
    pub second_written : (nodes₁ nodes₂ sets₁ sets₂ : List ℕ) {x y : Filled} → x ≡ first_behind → FormulaFills bytes n (left - 1) x nodes₁ nodes₂ sets₁ sets₂ y
        → FormulaWritten first_behind second q nodes₁ nodes₂ sets₁ sets₂ y
    second_written nodes₁ nodes₂ sets₁ sets₂ {y = y} is later =
        subst (λ (v : Filled). FormulaFills bytes n (left - 1) v nodes₁ nodes₂ sets₁ sets₂ y) is later second q second_read

    -- The node tells the size of both parts.
    size_is : {y : Filled} → y ≡ second_behind_law → y.node - (from.node + 1) ≡ formula_size first + formula_size second
    size_is is = omega (arith, ap (λ (v : Filled). v.node) is)

    laid_pair : (all : Bool) (nodes nodes₁ nodes₂ sets sets₁ sets₂ : List ℕ) {nodes₃ : List ℕ} {x y : Filled}
        → FormulaFills bytes n (left - 1) (parts_from from p) nodes nodes₁ sets sets₁ x
        → FormulaFills bytes n (left - 1) x nodes₁ nodes₂ sets₁ sets₂ y
        → nodes₃ ≡ write nodes₂ (3 * from.node) (cells (Node.Join all (y.node - (from.node + 1))))
        → (y ≡ record { at = q; node = from.node + suc (formula_size first + formula_size second); set = from.set + (atoms first + atoms second); acts = from.acts })
        × (nodes₃ ≡ write nodes (3 * from.node) (flat_map cells (Node.Join all (formula_size first + formula_size second) ∷ (formula_nodes first from.set ++ formula_nodes second (from.set + atoms first)))))
        × (sets₂ ≡ write sets (4 * from.set) (flat_map words (atom_sets first ++ atom_sets second)))
    laid_pair all nodes nodes₁ nodes₂ sets sets₁ sets₂ {nodes₃ = nodes₃} earlier later put =
        let fs = formula_nodes first from.set in
        let gs = formula_nodes second (from.set + atoms first) in
        let a = earlier first middle first_read in
        let b = second_written nodes₁ nodes₂ sets₁ sets₂ a.0 later in
        let i : from.node + 1 + formula_size first + formula_size second ≡ from.node + suc (formula_size first + formula_size second) = omega arith in
        let j : from.set + atoms first + atoms second ≡ from.set + (atoms first + atoms second) = omega arith in (
          b.0 ∙ rw (i, j),
          node_before nodes nodes₂ nodes₃ from.node (Node.Join all (formula_size first + formula_size second)) (fs ++ gs)
              (spread_on 3 cells cells_three nodes nodes₁ nodes₂ (from.node + 1) (from.node + 1 + formula_size first) fs gs a.1 b.1 (ap (λ (v : ℕ). from.node + 1 + v) (formula_length first from.set)))
              (put ∙ ap (λ (v : ℕ). write nodes₂ (3 * from.node) (cells (Node.Join all v))) (size_is b.0)),
          spread_on 4 words words_four sets sets₁ sets₂ from.set (from.set + atoms first) (atom_sets first) (atom_sets second) a.2 b.2
              (ap (λ (v : ℕ). from.set + v) (atom_sets_length first)),
        )

    pub laid_parts : (all : Bool) (nodes nodes₁ nodes₂ sets sets₁ sets₂ : List ℕ) {nodes₃ : List ℕ} {x y : Filled}
        → FormulaFills bytes n (left - 1) (parts_from from p) nodes nodes₁ sets sets₁ x
        → FormulaFills bytes n (left - 1) x nodes₁ nodes₂ sets₁ sets₂ y
        → nodes₃ ≡ write nodes₂ (3 * from.node) (cells (Node.Join all (y.node - (from.node + 1))))
        → FormulaWritten from (pair all first second) q nodes nodes₃ sets sets₂ y
    unfolding pair atoms atom_sets formula_size formula_nodes
    laid_parts true nodes nodes₁ nodes₂ sets sets₁ sets₂ earlier later put = laid_pair true nodes nodes₁ nodes₂ sets sets₁ sets₂ earlier later put
    laid_parts false nodes nodes₁ nodes₂ sets sets₁ sets₂ earlier later put = laid_pair false nodes nodes₁ nodes₂ sets sets₁ sets₂ earlier later put

  -- There is room for a node and for a set; for two parts.
  module _ (room : FormulaRoom bytes n left from) where
    pub node_room : (from.node < node_most) × (from.set < set_most)
    node_room = (omega (arith, room.nodes_room, some_node room.formula), omega (arith, room.sets_room, some_atom room.formula))

    pub parts_room : {make : Epistemic → Epistemic → Epistemic} {p : ℕ} → PairAt bytes n left make room.formula p room.next → PartsRoom bytes n left from p
    parts_room h =
        record {
          first = h.parts.first;
          second = h.parts.second;
          middle = h.parts.middle;
          next = room.next;
          first_read = h.parts.first_read;
          second_read = h.parts.second_read;
          some = h.some;
          levels = room.levels;
          nodes_room = omega (arith, room.nodes_room, h.many);
          sets_room = omega (arith, room.sets_room, h.sets_many);
        }

  module _ {p : ℕ} (room : PartsRoom bytes n left from p) where
    pub join_room : from.node + 1 ≤ node_most
    join_room = omega (arith, room.nodes_room)

    module _ {y : Filled} (is : y ≡ behind_formula (behind_formula (parts_from from p) room.first room.middle) room.second room.next) where
      pub size_small : y.node - (from.node + 1) < 65536
      size_small = omega (arith, room.nodes_room, ap (λ (v : Filled). v.node) is)
