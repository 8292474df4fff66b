-- Formulas and programs that stand among the nodes of a memory: whether they hold, and where they settle. Assumes nothing.
use Prim.Native.Nat.{ℕ, suc, ◌+◌, ◌-◌, ◌<◌, ◌≤◌, min}
use mathlib.Core.Path.{◌≡◌, refl, ap, subst, sym, ◌∙◌}
use mathlib.Core.Logic.{◌⊎◌, inl, inr}
use mathlib.Core.List.{List, [], ◌∷◌, ◌++◌}
use mathlib.Core.Bool.{Bool, true, false, not, beq}
use native.Mathlib.Omega.{arith}
use lib.ListN.{length, get_or, length-append, get_or-append}
use Rattle.lists.specs.Lists.{every}
use Rattle.std.specs.Prelude.{if◌then◌else◌}
use Rattle.lists.proofs.ListLaws.{not_both, every_same, append_past}
use Rattle.states.specs.declared.States.{States}
use Rattle.states.specs.Sets.{member, set_of, members}
use Rattle.states.proofs.SetLaws.{member_set_of, members_mem}
use Rattle.format.specs.Syntax.{Objective, Epistemic, known, not_known, all_of, any_of, Program, end, act, branch, action_nodes}
use Rattle.format.specs.Truth.{holds}
use Rattle.format.specs.Format.{deepest}
use Rattle.format.proofs.FormatLaws.{NumbersBelow}
use Rattle.format.proofs.ReaderLaws.{Levels}
use Rattle.format.proofs.StandingLaws.{Shallow}
use Rattle.semantics.specs.Progression.{satisfies}
use Rattle.routine.specs.declared.memory.Node.{Node}
use Rattle.routine.specs.Memory.{node_most, node_at, set_at}
use Rattle.routine.specs.Tables.{atoms, atom_sets, formula_size, formula_nodes, size, program_atoms, program_sets, program_nodes, goal_node}
use Rattle.routine.proofs.SizeLaws.{formula_length, atom_sets_length, nodes_length, program_sets_length}
use Rattle.routine.proofs.TableLaws.{no_states, no_node}
use Rattle.progression.specs.declared.place.Place.{Place}
use Rattle.progression.specs.Machine.{known_by, atom_holds, joined, parts_hold, holds_at, at_node}
use Rattle.progression.proofs.MachineLaws.{goes_to, goes_by, parts_atom, parts_alike, parts_other, parts_to_law, parts_left, none_left, joined_none, atom_holds_law, join_holds}
use Rattle.progression.proofs.PolicyLaws.{left_of, all_left}

-- Items stand one behind the other from place i on, where `get` tells what stands at a place.
abbrev pub Row : {A : Type 0} (get : ℕ → A) (d : A) (i : ℕ) → List A → Type 0
Row get d i xs = (j : ℕ) → j < length xs → get (i + j) ≡ get_or xs j d

module _ {A : Type 0} (get : ℕ → A) (d : A) (i : ℕ) where
  pub row_left : (xs ys : List A) → Row get d i (xs ++ ys) → Row get d i xs
  row_left xs ys r j l = r j (omega (arith, length-append xs ys)) ∙ get_or-append xs ys d j l

  pub row_right : (xs ys : List A) (k : ℕ) → i + length xs ≡ k → Row get d i (xs ++ ys) → Row get d k ys
  row_right xs ys k e r j l =
      let f : k + j ≡ i + (length xs + j) = omega (arith, e) in
      ap get f ∙ r (length xs + j) (omega (arith, length-append xs ys)) ∙ append_past xs ys d j

  pub row_first : (x : A) (xs : List A) → Row get d i (x ∷ xs) → get i ≡ x
  row_first x xs r = let e : i ≡ i + 0 = omega arith in ap get e ∙ r 0 (omega arith)

-- A formula's table has every state of a set exactly if the formula holds in each.
pub table_known : (table : ℕ → States) (set : States) (k : ℕ) (f : Objective) → table k ≡ set_of (λ s. holds f s) → every (member (table k)) (members set) ≡ every (holds f) (members set)
table_known table set k f e =
    every_same (member (table k)) (holds f) (members set) (λ s m. ap (λ (u : States). member u s) e ∙ member_set_of (λ t. holds f t) s (members_mem set m).0)

-- A formula has a level, and is as shallow if more levels are left.
some_level : (f : Epistemic) (left : ℕ) → Levels f left → 0 < left
unfolding Levels
some_level (known f) left d = omega arith
some_level (not_known f) left d = omega arith
some_level (all_of f g) left d = omega (arith, d.0)
some_level (any_of f g) left d = omega (arith, d.0)

more_levels : (f : Epistemic) (left : ℕ) → Levels f (left - 1) → Levels f left
unfolding Levels
more_levels (known f) left d = omega arith
more_levels (not_known f) left d = omega arith
more_levels (all_of f g) left d = (omega (arith, d.0), more_levels f (left - 1) d.1, more_levels g (left - 1) d.2)
more_levels (any_of f g) left d = (omega (arith, d.0), more_levels f (left - 1) d.1, more_levels g (left - 1) d.2)

-- Parts joined in the same way, one behind the other.
joined_twice : (both all x y rest : Bool) → beq both all ≡ true → joined all x (joined all y rest) ≡ joined all (joined both x y) rest
unfolding joined
joined_twice true true true y rest t = refl
joined_twice true true false y rest t = refl
joined_twice false false true y rest t = refl
joined_twice false false false y rest t = refl
joined_twice true false x y rest t = absurd (not_both t refl)
joined_twice false true x y rest t = absurd (not_both t refl)

differing : (both all : Bool) → beq both all ≡ false → not all ≡ both
differing true true f = absurd (not_both refl f)
differing true false f = refl
differing false true f = refl
differing false false f = absurd (not_both refl f)

module _ (nodes sets : List ℕ) (set : States) where
  -- A formula stands from node i on, and its sets from set k on.
  abbrev FormulaAt : (i k : ℕ) → Epistemic → Type 0
  FormulaAt i k f = Row (node_at nodes) no_node i (formula_nodes f k) × Row (set_at sets) no_states k (atom_sets f)

  -- Where two parts stand behind a node.
  parts : (f g : Epistemic) (i k : ℕ) (x : Node) → Row (node_at nodes) no_node i (x ∷ (formula_nodes f k ++ formula_nodes g (k + atoms f)))
      → Row (set_at sets) no_states k (atom_sets f ++ atom_sets g) → FormulaAt (i + 1) k f × FormulaAt (i + 1 + formula_size f) (k + atoms f) g
  parts f g i k x r s =
      let later : Row (node_at nodes) no_node (i + 1) (formula_nodes f k ++ formula_nodes g (k + atoms f)) =
      row_right (node_at nodes) no_node i (x ∷ []) (formula_nodes f k ++ formula_nodes g (k + atoms f)) (i + 1) (omega arith) r in (
        (
          row_left (node_at nodes) no_node (i + 1) (formula_nodes f k) _ later,
          row_left (set_at sets) no_states k (atom_sets f) _ s,
        ),
        (
          row_right (node_at nodes) no_node (i + 1) (formula_nodes f k) _ (i + 1 + formula_size f) (omega (arith, formula_length f k)) later,
          row_right (set_at sets) no_states k (atom_sets f) (atom_sets g) (k + atoms f) (omega (arith, atom_sets_length f)) s,
        ),
      )

  abbrev sat : Epistemic → Bool
  sat = satisfies (members set)

  -- The parts from node i to an end, where `left` levels are left.
  abbrev parts_of : (left : ℕ) (all : Bool) (stop i : ℕ) → Bool
  parts_of = parts_left nodes (known_by sets set)

  -- A formula at node i is a part: it is joined with those behind it.
  abbrev IsPart : (left i : ℕ) → Epistemic → Type 0
  IsPart left i f = (all : Bool) (stop : ℕ) → i + formula_size f ≤ stop → parts_of left all stop i ≡ joined all (sat f) (parts_of left all stop (i + formula_size f))

  -- It is one wherever it stands, if its levels are left.
  abbrev AlwaysPart : Epistemic → Type 0
  AlwaysPart f = (left i k : ℕ) → Levels f left → FormulaAt i k f → IsPart left i f

  -- If two formulas are, then they are joined behind a node, and so is what it makes of them, joined in the same way as the parts around it or the other way.
  module _ (both : Bool) (f g : Epistemic) (p : AlwaysPart f) (q : AlwaysPart g) (i k : ℕ) (r : Row (node_at nodes) no_node i (Node.Join both (formula_size f + formula_size g) ∷ (formula_nodes f k ++ formula_nodes g (k + atoms f)))) (s : Row (set_at sets) no_states k (atom_sets f ++ atom_sets g)) where
    here : Node.Join both (formula_size f + formula_size g) ≡ node_at nodes i
    here = sym (row_first (node_at nodes) no_node i _ (formula_nodes f k ++ formula_nodes g (k + atoms f)) r)

    first : (left : ℕ) → Levels f left → IsPart left (i + 1) f
    first left d = p left (i + 1) k d (parts f g i k _ r s).0

    second : (left : ℕ) → Levels g left → IsPart left (i + 1 + formula_size f) g
    second left d = q left (i + 1 + formula_size f) (k + atoms f) d (parts f g i k _ r s).1

    two_hold : (left : ℕ) → Levels f left → Levels g left → (all : Bool) → parts_hold nodes (known_by sets set) left all (formula_size f + formula_size g) (i + 1) ≡ joined all (sat f) (sat g)
    two_hold left d e all =
        let stop = i + 1 + (formula_size f + formula_size g) in
        let n : formula_size f + formula_size g ≡ stop - (i + 1) = omega arith in
        ap (λ (v : ℕ). parts_hold nodes (known_by sets set) left all v (i + 1)) n ∙ parts_to_law nodes (known_by sets set) left all stop (i + 1) (some_level f left d) ∙ first left d all stop (omega arith)
        ∙ ap (joined all (sat f))
        (second left e all stop (omega arith) ∙ ap (joined all (sat g)) (none_left nodes (known_by sets set) left all stop _ (omega arith)) ∙ joined_none all (sat g))

    join_part : (left : ℕ) → Levels f (left - 1) → Levels g (left - 1) → (all : Bool) (stop : ℕ) → i + suc (formula_size f + formula_size g) ≤ stop
        → parts_of left all stop i ≡ joined all (joined both (sat f) (sat g)) (parts_of left all stop (i + suc (formula_size f + formula_size g)))
    join_part left d e all stop l = go (beq both all) refl
      where
        last : i + 1 + formula_size f + formula_size g ≡ i + suc (formula_size f + formula_size g)
        last = omega arith

        behind : i + 1 + (formula_size f + formula_size g) ≡ i + suc (formula_size f + formula_size g)
        behind = omega arith

        go : (b : Bool) → beq both all ≡ b → parts_of left all stop i ≡ joined all (joined both (sat f) (sat g)) (parts_of left all stop (i + suc (formula_size f + formula_size g)))
        go true t =
            parts_alike (node_at nodes) (known_by sets set) all (parts_hold nodes (known_by sets set) (left - 1) (not all)) stop i (omega arith) both (formula_size f + formula_size g) here t
            ∙ first left (more_levels f left d) all stop (omega arith)
            ∙ ap (joined all (sat f)) (second left (more_levels g left e) all stop (omega arith) ∙ ap (λ (j : ℕ). joined all (sat g) (parts_of left all stop j)) last)
            ∙ joined_twice both all (sat f) (sat g) (parts_of left all stop (i + suc (formula_size f + formula_size g))) t
        go false t =
            let m : min (formula_size f + formula_size g) (stop - (i + 1)) ≡ formula_size f + formula_size g = omega arith in
            parts_other (node_at nodes) (known_by sets set) all (parts_hold nodes (known_by sets set) (left - 1) (not all)) stop i (omega arith) both (formula_size f + formula_size g) here t
            ∙ ap (λ (x : Bool). joined all x (parts_of left all stop (i + 1 + (formula_size f + formula_size g))))
            (ap (λ (n : ℕ). parts_hold nodes (known_by sets set) (left - 1) (not all) n (i + 1)) m ∙ two_hold (left - 1) d e (not all) ∙ ap (λ (x : Bool). joined x (sat f) (sat g)) (differing both all t))
            ∙ ap (λ (j : ℕ). joined all (joined both (sat f) (sat g)) (parts_of left all stop j)) behind

    -- As a formula of its own it holds as they do, joined.
    join_alone : Levels f (deepest - 1) → Levels g (deepest - 1) → holds_at nodes (known_by sets set) i ≡ joined both (sat f) (sat g)
    join_alone d e = sym (join_holds nodes (known_by sets set) i both (formula_size f + formula_size g) here) ∙ two_hold (deepest - 1) d e both

  -- So every formula is.
  is_part : (f : Epistemic) → AlwaysPart f
  unfolding formula_nodes formula_size atom_sets Levels satisfies atom_holds joined known_by
  is_part (known f) left i k d at = λ all stop l.
      parts_atom (node_at nodes) (known_by sets set) all (parts_hold nodes (known_by sets set) (left - 1) (not all)) stop i (omega arith) true k (sym (row_first (node_at nodes) no_node i _ [] at.0))
      ∙ ap (λ (x : Bool). joined all x (parts_of left all stop (i + 1))) (table_known (set_at sets) set k f (row_first (set_at sets) no_states k _ [] at.1))
  is_part (not_known f) left i k d at = λ all stop l.
      parts_atom (node_at nodes) (known_by sets set) all (parts_hold nodes (known_by sets set) (left - 1) (not all)) stop i (omega arith) false k (sym (row_first (node_at nodes) no_node i _ [] at.0))
      ∙ ap (λ (x : Bool). joined all (not x) (parts_of left all stop (i + 1))) (table_known (set_at sets) set k f (row_first (set_at sets) no_states k _ [] at.1))
  is_part (all_of f g) left i k d at = join_part true f g (is_part f) (is_part g) i k at.0 at.1 left d.1 d.2
  is_part (any_of f g) left i k d at = join_part false f g (is_part f) (is_part g) i k at.0 at.1 left d.1 d.2

  -- A formula holds on its nodes as it does in the knowledge state.
  pub formula_holds : (f : Epistemic) (i k : ℕ) → Levels f deepest → FormulaAt i k f → holds_at nodes (known_by sets set) i ≡ satisfies (members set) f
  unfolding formula_nodes atom_sets Levels satisfies atom_holds joined known_by
  formula_holds (known f) i k d (r, s) =
      sym (atom_holds_law nodes (known_by sets set) i true k (sym (row_first (node_at nodes) no_node i _ [] r))) ∙ table_known (set_at sets) set k f (row_first (set_at sets) no_states k _ [] s)
  formula_holds (not_known f) i k d (r, s) =
      sym (atom_holds_law nodes (known_by sets set) i false k (sym (row_first (node_at nodes) no_node i _ [] r))) ∙ ap not (table_known (set_at sets) set k f (row_first (set_at sets) no_states k _ [] s))
  formula_holds (all_of f g) i k d (r, s) = join_alone true f g (is_part f) (is_part g) i k r s d.1 d.2
  formula_holds (any_of f g) i k d (r, s) = join_alone false f g (is_part f) (is_part g) i k r s d.1 d.2

-- What stands in a memory: the end of the program at node `end_at`; there are `count` actions.
module _ (nodes sets : List ℕ) (end_at count : ℕ) where
  abbrev pub NodesAt : ℕ → List Node → Type 0
  NodesAt i xs = Row (node_at nodes) no_node i xs × (i + length xs ≤ node_most)

  abbrev pub SetsAt : ℕ → List States → Type 0
  SetsAt k xs = Row (set_at sets) no_states k xs

  pub nodes_left : (i : ℕ) (xs ys : List Node) → NodesAt i (xs ++ ys) → NodesAt i xs
  nodes_left i xs ys r = (row_left (node_at nodes) no_node i xs ys r.0, omega (arith, r.1, length-append xs ys))

  pub nodes_right : (i : ℕ) (xs ys : List Node) (k : ℕ) → i + length xs ≡ k → NodesAt i (xs ++ ys) → NodesAt k ys
  nodes_right i xs ys k e r = (row_right (node_at nodes) no_node i xs ys k e r.0, omega (arith, r.1, e, length-append xs ys))

  sets_right : (k : ℕ) (xs ys : List States) (j : ℕ) → k + length xs ≡ j → SetsAt k (xs ++ ys) → SetsAt j ys
  sets_right k = row_right (set_at sets) no_states k

  sets_left : (k : ℕ) (xs ys : List States) → SetsAt k (xs ++ ys) → SetsAt k xs
  sets_left k = row_left (set_at sets) no_states k

  abbrev pub Leads : (i out : ℕ) → Type 0
  Leads i out = (i ≡ out) ⊎ ((skip : ℕ) × (node_at nodes i ≡ Node.Jump skip) × (i < node_most) × (i + 1 + skip ≡ out))

  -- Programs to be run one after the other stand from node i on; behind the last stands the end.
  unfoldable pub ProgramsAt : (i : ℕ) → List Program → Type 0
  ProgramsAt i [] = i ≡ end_at
  ProgramsAt i (p ∷ ps) =
      (k : ℕ) × (c : ℕ) × (out : ℕ) × NodesAt i (program_nodes p k c) × SetsAt k (program_sets p) × NumbersBelow count p × Shallow p × Leads (i + size p) out × ProgramsAt out ps

  record BranchAt (i : ℕ) (f : Epistemic) (y z rest : Program) (ps : List Program) : Type 0 where
    pub first_set : ℕ
    pub inside : i < node_most
    pub here : node_at nodes i ≡ Node.Branch (formula_size f) (formula_size f + suc (size y))
    pub condition : Row (node_at nodes) no_node (i + 1) (formula_nodes f first_set) × SetsAt first_set (atom_sets f)
    pub shallow : Levels f deepest
    pub then_stands : ProgramsAt (i + 1 + formula_size f) (y ∷ rest ∷ ps)
    pub else_stands : ProgramsAt (i + 1 + (formula_size f + suc (size y))) (z ∷ rest ∷ ps)

  branch_parts : (i : ℕ) (f : Epistemic) (y z rest : Program) (ps : List Program) → ProgramsAt i (branch f y z rest ∷ ps) → BranchAt i f y z rest ps
  unfolding ProgramsAt program_nodes program_sets size NumbersBelow Shallow
  branch_parts i f y z rest ps at =
      let k = at.0 in
      let c = at.1 in
      let k₁ = k + atoms f in
      let k₂ = k₁ + program_atoms y in
      let k₃ = k₂ + program_atoms z in
      let fs = formula_nodes f k in
      let ys = program_nodes y k₁ c in
      let zs = program_nodes z k₂ (c + action_nodes y) in
      let rs = program_nodes rest k₃ (c + action_nodes y + action_nodes z) in
      let jump : List Node = Node.Jump (size z) ∷ [] in
      let then_at = i + 1 + formula_size f in
      let jump-at = then_at + size y in
      let else_at = i + 1 + (formula_size f + suc (size y)) in
      let rest_at = else_at + size z in
      let n₀ : NodesAt (i + 1) (fs ++ (ys ++ (jump ++ (zs ++ rs)))) = nodes_right i (Node.Branch (formula_size f) (formula_size f + suc (size y)) ∷ []) (fs ++ (ys ++ (jump ++ (zs ++ rs)))) (i + 1) (omega arith) at.3 in
      let n₁ : NodesAt then_at (ys ++ (jump ++ (zs ++ rs))) = nodes_right (i + 1) fs (ys ++ (jump ++ (zs ++ rs))) then_at (omega (arith, formula_length f k)) n₀ in
      let n₂ : NodesAt jump-at (jump ++ (zs ++ rs)) = nodes_right then_at ys (jump ++ (zs ++ rs)) jump-at (omega (arith, nodes_length y k₁ c)) n₁ in
      let n₃ : NodesAt else_at (zs ++ rs) = nodes_right jump-at jump (zs ++ rs) else_at (omega arith) n₂ in
      let n₄ : NodesAt rest_at rs = nodes_right else_at zs rs rest_at (omega (arith, nodes_length z k₂ (c + action_nodes y))) n₃ in
      let s₁ : SetsAt k₁ (program_sets y ++ (program_sets z ++ program_sets rest)) = sets_right k (atom_sets f) _ k₁ (omega (arith, atom_sets_length f)) at.4 in
      let s₂ : SetsAt k₂ (program_sets z ++ program_sets rest) = sets_right k₁ (program_sets y) _ k₂ (omega (arith, program_sets_length y)) s₁ in
      let s₃ : SetsAt k₃ (program_sets rest) = sets_right k₂ (program_sets z) _ k₃ (omega (arith, program_sets_length z)) s₂ in
      let e : i + suc (formula_size f + (size y + suc (size z + size rest))) ≡ rest_at + size rest = omega arith in
      let rest_stands : ProgramsAt rest_at (rest ∷ ps) = (k₃, c + action_nodes y + action_nodes z, at.2, n₄, s₃, at.5.2, at.6.3, subst (λ (v : ℕ). Leads v at.2) e at.7, at.8) in
      record {
        first_set = k;
        inside = omega (arith, at.3.1);
        here = row_first (node_at nodes) no_node i _ (fs ++ (ys ++ (jump ++ (zs ++ rs)))) at.3.0;
        condition = (row_left (node_at nodes) no_node (i + 1) fs _ n₀.0, sets_left k (atom_sets f) _ at.4);
        shallow = at.6.0;
        then_stands = (
          k₁,
          c,
          rest_at,
          nodes_left then_at ys (jump ++ (zs ++ rs)) n₁,
          sets_left k₁ (program_sets y) _ s₁,
          at.5.0,
          at.6.1,
          inr (size z, row_first (node_at nodes) no_node jump-at (Node.Jump (size z)) (zs ++ rs) n₂.0, omega (arith, n₂.1), omega arith),
          rest_stands,
        );
        else_stands = (k₂, c + action_nodes y, rest_at, nodes_left else_at zs rs n₃, sets_left k₂ (program_sets z) _ s₂, at.5.1, at.6.2, inl refl, rest_stands);
      }

  module _ (set : States) where
    abbrev goes : ℕ → Place
    goes = goes_to (node_at nodes) (holds_at nodes (known_by sets set))

    by : (i : ℕ) (x : Node) → i < node_most → node_at nodes i ≡ x → goes i ≡ at_node (holds_at nodes (known_by sets set)) x i (λ skip. goes (i + 1 + skip))
    by i x l e = goes_by (node_at nodes) (holds_at nodes (known_by sets set)) i l x (sym e)

    leads_go : (i out : ℕ) → Leads i out → goes i ≡ goes out
    unfolding at_node
    leads_go i out (inl e) = ap goes e
    leads_go i out (inr jump) = by i _ jump.2 jump.1 ∙ ap goes jump.3

    pub record Settles (i : ℕ) (ps : List Program) : Type 0 where
      pub place : ℕ
      pub stands : ProgramsAt place ps
      pub same : goes i ≡ goes place

    settles_from : (i j : ℕ) (ps : List Program) → goes i ≡ goes j → Settles j ps → Settles i ps
    settles_from i j ps e s = record { place = s.place; stands = s.stands; same = e ∙ s.same }

    -- A branch goes to its then-program if its condition holds, else to its else-program.
    branch_goes : (i : ℕ) (f : Epistemic) (y z rest : Program) (ps : List Program) → BranchAt i f y z rest ps
        → goes i ≡ goes (i + 1 + (if satisfies (members set) f then formula_size f else formula_size f + suc (size y)))
    unfolding at_node
    branch_goes i f y z rest ps b =
        by i _ b.inside b.here
        ∙ ap (λ (x : Bool). goes (i + 1 + (if x then formula_size f else formula_size f + suc (size y)))) (formula_holds nodes sets set f (i + 1) b.first_set b.shallow b.condition)

    program_settles : (p : Program) (ps onward : List Program) → ((i : ℕ) → ProgramsAt i ps → Settles i onward) → (i : ℕ) → ProgramsAt i (p ∷ ps)
        → Settles i (left_of (satisfies (members set)) p ps onward)
    unfolding left_of ProgramsAt size
    program_settles end ps onward later i at =
        let e : i ≡ i + 0 = omega arith in
        settles_from i at.2 onward (ap goes e ∙ leads_go (i + 0) at.2 at.7) (later at.2 at.8)
    program_settles (act a rest) ps onward later i at = record { place = i; stands = at; same = refl }
    program_settles (branch f y z rest) ps onward later i at =
        go (satisfies (members set) f) (branch_goes i f y z rest ps parts)
        (program_settles y (rest ∷ ps) _ (program_settles rest ps onward later) (i + 1 + formula_size f) parts.then_stands)
        (program_settles z (rest ∷ ps) _ (program_settles rest ps onward later) (i + 1 + (formula_size f + suc (size y))) parts.else_stands)
      where
        parts : BranchAt i f y z rest ps
        parts = branch_parts i f y z rest ps at

        on : Program → List Program
        on x = left_of (satisfies (members set)) x (rest ∷ ps) (left_of (satisfies (members set)) rest ps onward)

        go : (b : Bool) → goes i ≡ goes (i + 1 + (if b then formula_size f else formula_size f + suc (size y))) → Settles (i + 1 + formula_size f) (on y)
            → Settles (i + 1 + (formula_size f + suc (size y))) (on z) → Settles i (if b then on y else on z)
        go true e u v = settles_from i (i + 1 + formula_size f) (on y) e u
        go false e u v = settles_from i (i + 1 + (formula_size f + suc (size y))) (on z) e v

    pub programs_settle : (ps : List Program) (i : ℕ) → ProgramsAt i ps → Settles i (all_left (satisfies (members set)) ps)
    unfolding all_left
    programs_settle [] i at = record { place = i; stands = at; same = refl }
    programs_settle (p ∷ ps) i at = program_settles p ps (all_left (satisfies (members set)) ps) (programs_settle ps) i at

    -- An action is where the program settles, and what follows it stands behind it.
    pub action_settles : (a : ℕ) (rest : Program) (ps : List Program) (i : ℕ) → ProgramsAt i (act a rest ∷ ps) → (goes i ≡ Place.Act i a) × ProgramsAt (i + 1) (rest ∷ ps) × (a < count)
    unfolding ProgramsAt program_nodes program_sets size NumbersBelow Shallow at_node
    action_settles a rest ps i at =
        let e : i + suc (size rest) ≡ i + 1 + size rest = omega arith in
        let node = Node.Act a at.1 in
        let later = program_nodes rest at.0 (at.1 + 1) in (
          by i node (omega (arith, at.3.1)) (row_first (node_at nodes) no_node i node later at.3.0),
          (at.0, at.1 + 1, at.2, nodes_right i (node ∷ []) later (i + 1) refl at.3, at.4, at.5.1, at.6, subst (λ (v : ℕ). Leads v at.2) e at.7, at.8),
          at.5.0,
        )

    -- At the end the goal is judged by the set.
    pub goal_settles : (goal : Epistemic) (k c : ℕ) → Levels goal deepest → NodesAt end_at (Node.End c ∷ []) → Row (node_at nodes) no_node goal_node (formula_nodes goal k) → SetsAt k (atom_sets goal)
        → goes end_at ≡ Place.End (satisfies (members set) goal)
    unfolding at_node
    goal_settles goal k c d r g s =
        by end_at _ (omega (arith, r.1)) (row_first (node_at nodes) no_node end_at (Node.End c) [] r.0) ∙ ap Place.End (formula_holds nodes sets set goal goal_node k d (g, s))
