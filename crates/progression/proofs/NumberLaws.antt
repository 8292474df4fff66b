-- The program position by the nodes: the number of an action node, and that of all, which the first end among the nodes says. Assumes nothing.
use Prim.Native.Nat.{ℕ, suc, ◌+◌, ◌-◌, ◌≤◌, ◌<◌}
use native.Mathlib.Omega.{arith}
use native.Mathlib.Numerals.{add-one}
use mathlib.Core.Path.{◌≡◌, refl, sym, ap, ◌∙◌}
use mathlib.Core.Logic.{inl, inr}
use mathlib.Core.Bool.{Bool}
use mathlib.Core.List.{List, [], ◌∷◌}
use types.Run.{OneOf}
use denote.Enum.Declared.{tag_of}
use Rattle.routine.specs.declared.memory.Node.{Node}
use Rattle.routine.specs.Memory.{node_at}
use Rattle.routine.specs.contracts.memory.Node.{the_type}
use Rattle.progression.specs.declared.place.Place.{Place}
use Rattle.progression.specs.Machine.{end_or, end_from, end_number, number_in, position_at}

-- A node by its tag: no end.
no_end : (x : Node) → OneOf (0 ∷ 1 ∷ 2 ∷ 4 ∷ 5 ∷ []) (tag_of the_type x) → (rest : ℕ) → end_or x rest ≡ rest
unfolding end_or
no_end (Node.Act a number) t rest = refl
no_end (Node.Branch met unmet) t rest = refl
no_end (Node.Jump skip) t rest = refl
no_end (Node.Join all size) t rest = refl
no_end (Node.Atom positive k) t rest = refl
no_end (Node.End count) t rest = absurd (never t)
  where
    never : OneOf (0 ∷ 1 ∷ 2 ∷ 4 ∷ 5 ∷ []) 3 → ⊥
    never (inl e) = omega arith
    never (inr (inl e)) = omega arith
    never (inr (inr (inl e))) = omega arith
    never (inr (inr (inr (inl e)))) = omega arith
    never (inr (inr (inr (inr e)))) = omega arith

module _ (node : ℕ → Node) (stop i : ℕ) where
  abbrev behind : ℕ
  behind = end_from node (stop - (i + 1)) (i + 1)

  -- The nodes that are left, by the first of them.
  pub one_node : i < stop → (x : Node) → x ≡ node i → end_from node (stop - i) i ≡ end_or x behind
  unfolding end_from
  one_node l x e =
      let n : stop - i ≡ suc (stop - (i + 1)) = omega arith in
      ap (λ (m : ℕ). end_from node m i) n ∙ ap (λ (j : ℕ). end_or (node i) (end_from node (stop - (i + 1)) j)) (sym (add-one i)) ∙ ap (λ (y : Node). end_or y behind) (sym e)

  -- It is an end; it is none; there is none.
  pub end_here : i < stop → (x : Node) → x ≡ node i → (count : ℕ) → x ≡ Node.End count → end_from node (stop - i) i ≡ count
  unfolding end_or
  end_here l x e count is = one_node l x e ∙ ap (λ (y : Node). end_or y behind) is

  pub end_later : i < stop → (x : Node) → x ≡ node i → OneOf (0 ∷ 1 ∷ 2 ∷ 4 ∷ 5 ∷ []) (tag_of the_type x) → end_from node (stop - i) i ≡ behind
  end_later l x e t = one_node l x e ∙ no_end x t behind

  pub end_none : stop ≤ i → end_from node (stop - i) i ≡ 0
  unfolding end_from
  end_none l = let n : stop - i ≡ 0 = omega arith in ap (λ (m : ℕ). end_from node m i) n

-- The position at an action node, by what stands there, and at the end.
module _ (nodes : List ℕ) (place : Place) where
  pub act_position : (i a : ℕ) → place ≡ Place.Act i a → (x : Node) → x ≡ node_at nodes i → number_in x ≡ position_at nodes place
  unfolding position_at
  act_position i a e x at = ap number_in at ∙ sym (ap (position_at nodes) e)

  pub end_position : (holds : Bool) → place ≡ Place.End holds → end_number nodes ≡ position_at nodes place
  unfolding position_at
  end_position holds e = sym (ap (position_at nodes) e)

pub number_act : (x : Node) (a number : ℕ) → x ≡ Node.Act a number → number ≡ number_in x
unfolding number_in
number_act x a number e = sym (ap number_in e)

-- A node by its tag: no action node.
pub number_none : (x : Node) → OneOf (1 ∷ 2 ∷ 3 ∷ 4 ∷ 5 ∷ []) (tag_of the_type x) → 0 ≡ number_in x
unfolding number_in
number_none (Node.Branch met unmet) t = refl
number_none (Node.Jump skip) t = refl
number_none (Node.End count) t = refl
number_none (Node.Join all size) t = refl
number_none (Node.Atom positive k) t = refl
number_none (Node.Act a number) t = absurd (never t)
  where
    never : OneOf (1 ∷ 2 ∷ 3 ∷ 4 ∷ 5 ∷ []) 0 → ⊥
    never (inl e) = omega arith
    never (inr (inl e)) = omega arith
    never (inr (inr (inl e))) = omega arith
    never (inr (inr (inr (inl e)))) = omega arith
    never (inr (inr (inr (inr e)))) = omega arith
