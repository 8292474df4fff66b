-- Laws of the machine: what is known, what holds, and where the program settles. Assumes nothing.
use Prim.Native.Nat.{ℕ, zero, suc, ◌+◌, ◌-◌, ◌≤◌, ◌<◌, min}
use mathlib.Core.Path.{◌≡◌, refl, sym, ap, subst, ◌∙◌}
use mathlib.Core.List.{List, [], ◌∷◌}
use mathlib.Core.Bool.{Bool, true, false, not, ◌&&◌, beq}
use mathlib.Core.Logic.{◌⊎◌, ⊎_elim, inl, inr}
use native.Mathlib.Omega.{arith}
use types.Run.{OneOf}
use denote.Enum.Declared.{tag_of}
use lib.Dec.{ltb}
use borrow.Author.Tests.{not-true, ltb-true, ltb-false}
use Rattle.lists.specs.Lists.{every, nonempty}
use Rattle.std.specs.Prelude.{if◌then◌else◌}
use Rattle.lists.proofs.ListLaws.{two_cases, same_test, not_both, both_true, and_both, every_mem, mem_every, mem_nonempty, nonempty_mem}
use Rattle.states.proofs.SetLaws.{member_set_of, members_mem, mem_members}
use Rattle.states.specs.declared.States.{States}
use Rattle.states.specs.Sets.{member, set_of, members}
use Rattle.format.specs.Format.{deepest}
use Rattle.routine.specs.declared.memory.Node.{Node}
use Rattle.routine.specs.contracts.memory.Node.{the_type}
use Rattle.routine.specs.Memory.{node_most, set_at, node_at}
use Rattle.routine.proofs.MemoryLaws.{past}
use Rattle.routine.specs.Tables.{goal_node}
use Rattle.progression.specs.declared.place.Place.{Place}
use Rattle.progression.specs.Machine.{known_by, atom_holds, joined, part_node, parts_in, parts_hold, formula_node, holds_at, at_node, settled_from, settled}

-- What a node leads to, by where it leads on.
at_node_same : (formula : ℕ → Bool) (node : Node) (i : ℕ) (f g : ℕ → Place) → ((skip : ℕ) → f skip ≡ g skip) → at_node formula node i f ≡ at_node formula node i g
unfolding at_node
at_node_same formula (Node.Act a number) i f g h = refl
at_node_same formula (Node.Branch met unmet) i f g h = h (if formula (i + 1) then met else unmet)
at_node_same formula (Node.Jump skip) i f g h = h skip
at_node_same formula (Node.End count) i f g h = refl
at_node_same formula (Node.Join all size) i f g h = refl
at_node_same formula (Node.Atom positive k) i f g h = refl

-- Skipping nodes is going on behind them.
module _ {A : Type 0} (f : (left skip i : ℕ) → A) (z : A) (none : (skip i : ℕ) → f zero skip i ≡ z) (more : (left skip i : ℕ) → f (suc left) (suc skip) i ≡ f left skip (suc i)) where
  skipped : (left skip i l j : ℕ) → l ≡ left - skip → j ≡ i + skip → f left skip i ≡ f l 0 j
  skipped zero skip i l j e d = let n : l ≡ 0 = omega arith in none skip i ∙ sym (none 0 j) ∙ rw n
  skipped (suc left) (suc skip) i l j e d = more left skip i ∙ skipped left skip (suc i) l j (omega arith) (omega arith)
  skipped (suc left) zero i l j e d =
      let n : l ≡ suc left = omega arith in
      let k : j ≡ i = omega arith in
      rw (n, k)

module _ (node : ℕ → Node) (formula : ℕ → Bool) where
  settled_skipped : (left skip i l j : ℕ) → l ≡ left - skip → j ≡ i + skip → settled_from node formula left skip i ≡ settled_from node formula l 0 j
  unfolding settled_from
  settled_skipped = skipped (settled_from node formula) (Place.End false) (λ skip i. refl) (λ left skip i. refl)

  settled_here : (left i : ℕ) → settled_from node formula (suc left) 0 i ≡ at_node formula (node i) i (λ skip. settled_from node formula left skip (suc i))
  unfolding settled_from
  settled_here left i = refl

  -- An action at which the program settles stands behind the nodes that are skipped, among those that are left.
  forward : (left skip i j a : ℕ) → settled_from node formula left skip i ≡ Place.Act j a → (i + skip ≤ j) × (j < i + left)
  unfolding settled_from
  forward zero skip i j a e = let z : ◌≡◌ {A = ℕ} 0 1 = cc in absurd (omega arith)
  forward (suc left) (suc skip) i j a e = let r = forward left skip (suc i) j a e in (omega arith, omega arith)
  forward (suc left) zero i j a e = go (node i) (λ skip h. forward left skip (suc i) j a h) e
    where
      further : (skip : ℕ) → (suc i + skip ≤ j) × (j < suc i + left) → (i + 0 ≤ j) × (j < i + suc left)
      further skip r = (omega arith, omega arith)

      no_end : (b : Bool) → Place.End b ≡ Place.Act j a → (i + 0 ≤ j) × (j < i + suc left)
      no_end b h = let z : ◌≡◌ {A = ℕ} 0 1 = cc in absurd (omega arith)

      go : (x : Node) → ((skip : ℕ) → settled_from node formula left skip (suc i) ≡ Place.Act j a → (suc i + skip ≤ j) × (j < suc i + left))
          → at_node formula x i (λ skip. settled_from node formula left skip (suc i)) ≡ Place.Act j a → (i + 0 ≤ j) × (j < i + suc left)
      go (Node.Act b number) on h = let p : i ≡ j = cc in (omega arith, omega arith)
      go (Node.Branch met unmet) on h = further (if formula (i + 1) then met else unmet) (on (if formula (i + 1) then met else unmet) h)
      go (Node.Jump skip) on h = further skip (on skip h)
      go (Node.End count) on h = no_end (formula goal_node) h
      go (Node.Join all size) on h = no_end (formula goal_node) h
      go (Node.Atom positive k) on h = no_end (formula goal_node) h

  -- Where the program settles from node i on.
  abbrev pub goes_to : ℕ → Place
  goes_to i = settled_from node formula (node_most - i) 0 i

  -- A node that is there is where it settles, or leads on by whether the formula behind it holds.
  goes_on_law : (i : ℕ) → i < node_most → goes_to i ≡ at_node formula (node i) i (λ skip. goes_to (i + 1 + skip))
  goes_on_law i h =
      let l : node_most - i ≡ suc (node_most - (i + 1)) = omega arith in
      ap (λ (left : ℕ). settled_from node formula left 0 i) l ∙ settled_here (node_most - (i + 1)) i
      ∙ at_node_same formula (node i) i (λ skip. settled_from node formula (node_most - (i + 1)) skip (suc i)) (λ skip. goes_to (i + 1 + skip))
      (λ skip. settled_skipped (node_most - (i + 1)) skip (suc i) (node_most - (i + 1 + skip)) (i + 1 + skip) (omega arith) (omega arith))

  pub goes_by : (i : ℕ) → i < node_most → (x : Node) → x ≡ node i → goes_to i ≡ at_node formula x i (λ skip. goes_to (i + 1 + skip))
  goes_by i h x e = goes_on_law i h ∙ ap (λ (y : Node). at_node formula y i (λ skip. goes_to (i + 1 + skip))) (sym e)

  -- A branch leads on by whether its condition holds.
  pub goes_branch : (i : ℕ) → i < node_most → (met unmet : ℕ) → Node.Branch met unmet ≡ node i → (b : Bool) → b ≡ formula (i + 1) → goes_to i ≡ goes_to (i + 1 + (if b then met else unmet))
  unfolding at_node
  goes_branch i h met unmet e b p = goes_by i h (Node.Branch met unmet) e ∙ ap (λ (x : Bool). goes_to (i + 1 + (if x then met else unmet))) (sym p)

  -- Behind the last node it ends, and the goal fails.
  pub goes_past : (i : ℕ) → node_most ≤ i → goes_to i ≡ Place.End false
  unfolding settled_from
  goes_past i h = let e : node_most - i ≡ 0 = omega arith in rw e

-- The place that a program reaches from a node on.
pub settled_goes : (nodes sets : List ℕ) (set : States) (at : ℕ) → settled nodes sets set at ≡ goes_to (node_at nodes) (holds_at nodes (known_by sets set)) at
unfolding settled
settled_goes nodes sets set at = settled_skipped (node_at nodes) (holds_at nodes (known_by sets set)) node_most at 0 (node_most - at) at refl (omega arith)

-- An action that it reaches stands at that node or behind it.
pub settled_forward : (nodes sets : List ℕ) (set : States) (at i a : ℕ) → settled nodes sets set at ≡ Place.Act i a → (at ≤ i) × (i < node_most)
unfolding settled
settled_forward nodes sets set at i a e = let r = forward (node_at nodes) (holds_at nodes (known_by sets set)) node_most at 0 i a e in (omega arith, omega arith)

-- The parts from a node on, joined by "and" (`all`) or "or".
module _ (node : ℕ → Node) (isKnown : ℕ → Bool) (all : Bool) (inner : (size i : ℕ) → Bool) where
  parts_skipped : (size skip i l j : ℕ) → l ≡ size - skip → j ≡ i + skip → parts_in node isKnown all inner size skip i ≡ parts_in node isKnown all inner l 0 j
  unfolding parts_in
  parts_skipped = skipped (parts_in node isKnown all inner) all (λ skip i. refl) (λ size skip i. refl)

  parts_here : (size i : ℕ) → parts_in node isKnown all inner (suc size) 0 i ≡ part_node isKnown all (λ n. inner (min n size) (suc i)) (λ skip. parts_in node isKnown all inner size skip (suc i)) (node i)
  unfolding parts_in
  parts_here size i = refl

  -- What a node says, by what is said of the parts behind it.
  part_same : (most i : ℕ) (x : Node) {f g : ℕ → Bool} → ((skip : ℕ) → f skip ≡ g skip)
      → part_node isKnown all (λ n. inner (min n most) (suc i)) f x ≡ part_node isKnown all (λ n. inner (min n most) (i + 1)) g x
  unfolding part_node
  part_same most i (Node.Atom positive k) h = ap (joined all (atom_holds isKnown positive k)) (h 0)
  part_same most i (Node.Join both size) h = let s : suc i ≡ i + 1 = omega arith in λ j. if beq both all then h 0 j else joined all (inner (min size most) (s j)) (h size j)
  part_same most i (Node.Act a number) h = refl
  part_same most i (Node.Branch met unmet) h = refl
  part_same most i (Node.Jump skip) h = refl
  part_same most i (Node.End count) h = refl

  -- The parts from node i to an end.
  abbrev parts_to : (end i : ℕ) → Bool
  parts_to end i = parts_in node isKnown all inner (end - i) 0 i

  parts_by : (end i : ℕ) → i < end → (x : Node) → x ≡ node i → parts_to end i ≡ part_node isKnown all (λ n. inner (min n (end - (i + 1))) (i + 1)) (λ skip. parts_to end (i + 1 + skip)) x
  parts_by end i h x e =
      let l : end - i ≡ suc (end - (i + 1)) = omega arith in
      ap (λ (n : ℕ). parts_in node isKnown all inner n 0 i) l ∙ parts_here (end - (i + 1)) i
      ∙ ap (part_node isKnown all (λ n. inner (min n (end - (i + 1))) (suc i)) (λ skip. parts_in node isKnown all inner (end - (i + 1)) skip (suc i))) (sym e)
      ∙ part_same (end - (i + 1)) i x (λ skip. parts_skipped (end - (i + 1)) skip (suc i) (end - (i + 1 + skip)) (i + 1 + skip) (omega arith) (omega arith))

  -- Behind the last there is no part that fails of all, and none that holds of some.
  parts_past : (end i : ℕ) → end ≤ i → parts_to end i ≡ all
  unfolding parts_in
  parts_past end i h = let e : end - i ≡ 0 = omega arith in rw e

  -- An atom; a part joined in the same way; one joined the other way.
  pub parts_atom : (end i : ℕ) → i < end → (positive : Bool) (k : ℕ) → Node.Atom positive k ≡ node i → parts_to end i ≡ joined all (atom_holds isKnown positive k) (parts_to end (i + 1))
  unfolding part_node
  parts_atom end i h positive k e = let j : i + 1 + 0 ≡ i + 1 = omega arith in parts_by end i h (Node.Atom positive k) e ∙ ap (λ (v : ℕ). joined all (atom_holds isKnown positive k) (parts_to end v)) j

  pub parts_alike : (end i : ℕ) → i < end → (both : Bool) (size : ℕ) → Node.Join both size ≡ node i → beq both all ≡ true → parts_to end i ≡ parts_to end (i + 1)
  unfolding part_node
  parts_alike end i h both size e t =
      let j : i + 1 + 0 ≡ i + 1 = omega arith in
      parts_by end i h (Node.Join both size) e ∙ ap (λ (b : Bool). if b then parts_to end (i + 1 + 0) else joined all (inner (min size (end - (i + 1))) (i + 1)) (parts_to end (i + 1 + size))) t ∙ ap (parts_to end) j

  pub parts_other : (end i : ℕ) → i < end → (both : Bool) (size : ℕ) → Node.Join both size ≡ node i → beq both all ≡ false
      → parts_to end i ≡ joined all (inner (min size (end - (i + 1))) (i + 1)) (parts_to end (i + 1 + size))
  unfolding part_node
  parts_other end i h both size e f =
      parts_by end i h (Node.Join both size) e ∙ ap (λ (b : Bool). if b then parts_to end (i + 1 + 0) else joined all (inner (min size (end - (i + 1))) (i + 1)) (parts_to end (i + 1 + size))) f

-- A part that decides, or doesn't; one that is joined with none.
decided : (all x rest : Bool) → x ≡ not all → joined all x rest ≡ not all
unfolding joined
decided true x rest e = rw e
decided false x rest e = rw e

undecided : (all x rest : Bool) → x ≡ all → joined all x rest ≡ rest
unfolding joined
undecided true x rest e = rw e
undecided false x rest e = rw e

pub joined_none : (all x : Bool) → joined all x all ≡ x
unfolding joined
joined_none true true = refl
joined_none true false = refl
joined_none false true = refl
joined_none false false = refl

-- Two ways to join that are the same, and two that aren't.
same_way : (all : Bool) → beq all all ≡ true
same_way true = refl
same_way false = refl

other_way : (all : Bool) → beq (not all) all ≡ false
other_way true = refl
other_way false = refl

-- A node by its tag: none of a formula.
none_of : (n : ℕ) → 4 ≤ n → OneOf (0 ∷ 1 ∷ 2 ∷ 3 ∷ []) n → ⊥
none_of n h (inl e) = omega arith
none_of n h (inr (inl e)) = omega arith
none_of n h (inr (inr (inl e))) = omega arith
none_of n h (inr (inr (inr e))) = omega arith

no_part : (isKnown : ℕ → Bool) (all : Bool) (inner rest : ℕ → Bool) (x : Node) → OneOf (0 ∷ 1 ∷ 2 ∷ 3 ∷ []) (tag_of the_type x) → part_node isKnown all inner rest x ≡ false
unfolding part_node
no_part isKnown all inner rest (Node.Act a number) t = refl
no_part isKnown all inner rest (Node.Branch met unmet) t = refl
no_part isKnown all inner rest (Node.Jump skip) t = refl
no_part isKnown all inner rest (Node.End count) t = refl
no_part isKnown all inner rest (Node.Join both size) t = absurd (none_of 4 (omega arith) t)
no_part isKnown all inner rest (Node.Atom positive k) t = absurd (none_of 5 (omega arith) t)

formula_none : (isKnown : ℕ → Bool) (parts : Bool → ℕ → Bool) (x : Node) → OneOf (0 ∷ 1 ∷ 2 ∷ 3 ∷ []) (tag_of the_type x) → formula_node isKnown parts x ≡ false
unfolding formula_node
formula_none isKnown parts (Node.Act a number) t = refl
formula_none isKnown parts (Node.Branch met unmet) t = refl
formula_none isKnown parts (Node.Jump skip) t = refl
formula_none isKnown parts (Node.End count) t = refl
formula_none isKnown parts (Node.Join all size) t = absurd (none_of 4 (omega arith) t)
formula_none isKnown parts (Node.Atom positive k) t = absurd (none_of 5 (omega arith) t)

-- The parts in a memory, where a level is left, and where none is.
module _ (nodes : List ℕ) (isKnown : ℕ → Bool) where
  pub parts_none : (left : ℕ) (all : Bool) (size i : ℕ) → left ≡ 0 → false ≡ parts_hold nodes isKnown left all size i
  unfolding parts_hold
  parts_none left all size i e = rw e

  pub parts_to_law : (left : ℕ) (all : Bool) (end i : ℕ) → 0 < left → parts_hold nodes isKnown left all (end - i) i ≡ parts_to (node_at nodes) isKnown all (parts_hold nodes isKnown (left - 1) (not all)) end i
  unfolding parts_hold
  parts_to_law (suc left) all end i h = let l : suc left - 1 ≡ left = omega arith in rw l
  parts_to_law zero all end i h = absurd (omega arith)

  -- The parts from node i to an end, where `left` levels are left for those that are joined the other way.
  abbrev pub parts_left : (left : ℕ) (all : Bool) (end i : ℕ) → Bool
  parts_left left all = parts_to (node_at nodes) isKnown all (parts_hold nodes isKnown (left - 1) (not all))

  module _ (left : ℕ) (all : Bool) (end i : ℕ) (h : i < end) where
    -- By an atom, of which `holds` is told.
    pub atom_decides : (positive : Bool) (k : ℕ) → Node.Atom positive k ≡ node_at nodes i → (holds : Bool) → holds ≡ atom_holds isKnown positive k → holds ≡ not all → parts_left left all end i ≡ not all
    atom_decides positive k e holds t d = parts_atom (node_at nodes) isKnown all (parts_hold nodes isKnown (left - 1) (not all)) end i h positive k e ∙ decided all _ _ (sym t ∙ d)

    pub atom_passes : (positive : Bool) (k : ℕ) → Node.Atom positive k ≡ node_at nodes i → (holds : Bool) → holds ≡ atom_holds isKnown positive k → holds ≡ all → parts_left left all end i ≡ parts_left left all end (i + 1)
    atom_passes positive k e holds t d = parts_atom (node_at nodes) isKnown all (parts_hold nodes isKnown (left - 1) (not all)) end i h positive k e ∙ undecided all _ _ (sym t ∙ d)

    -- By a part that is joined in the same way.
    pub alike_passes : (both : Bool) (size : ℕ) → Node.Join both size ≡ node_at nodes i → both ≡ all → parts_left left all end i ≡ parts_left left all end (i + 1)
    alike_passes both size e b =
        parts_alike (node_at nodes) isKnown all (parts_hold nodes isKnown (left - 1) (not all)) end i h both size e (ap (λ (x : Bool). beq x all) b ∙ same_way all)

    -- By one that is joined the other way, of which `holds` is told by its nodes before node `stop`.
    module _ (both : Bool) (size stop : ℕ) (e : Node.Join both size ≡ node_at nodes i) (b : both ≡ not all) (s : stop ≡ min (i + 1 + size) end) (holds : Bool) (t : holds ≡ parts_hold nodes isKnown (left - 1) (not all) (stop - (i + 1)) (i + 1)) where
      other_is : parts_left left all end i ≡ joined all holds (parts_left left all end (i + 1 + size))
      other_is =
          let m : stop - (i + 1) ≡ min size (end - (i + 1)) = omega arith in
          parts_other (node_at nodes) isKnown all (parts_hold nodes isKnown (left - 1) (not all)) end i h both size e (ap (λ (x : Bool). beq x all) b ∙ other_way all)
          ∙ ap (λ (x : Bool). joined all x (parts_left left all end (i + 1 + size))) (sym (t ∙ ap (λ (n : ℕ). parts_hold nodes isKnown (left - 1) (not all) n (i + 1)) m))

      pub other_decides : holds ≡ not all → parts_left left all end i ≡ not all
      other_decides d = other_is ∙ decided all _ _ d

      pub other_passes : holds ≡ all → parts_left left all end i ≡ parts_left left all end (i + 1 + size)
      other_passes d = other_is ∙ undecided all _ _ d

    -- By a node that is no part.
    pub none_stands : (x : Node) → x ≡ node_at nodes i → OneOf (0 ∷ 1 ∷ 2 ∷ 3 ∷ []) (tag_of the_type x) → parts_left left all end i ≡ false
    none_stands x e t = parts_by (node_at nodes) isKnown all (parts_hold nodes isKnown (left - 1) (not all)) end i h x e ∙ no_part isKnown all _ _ x t

  -- Behind the last.
  pub none_left : (left : ℕ) (all : Bool) (end i : ℕ) → end ≤ i → parts_left left all end i ≡ all
  none_left left all = parts_past (node_at nodes) isKnown all (parts_hold nodes isKnown (left - 1) (not all))

  -- What holds at a node, by what stands there.
  holds_by : (i : ℕ) (x : Node) → x ≡ node_at nodes i → formula_node isKnown (λ all size. parts_hold nodes isKnown (deepest - 1) all size (i + 1)) x ≡ holds_at nodes isKnown i
  unfolding holds_at
  holds_by i x e = ap (formula_node isKnown (λ all size. parts_hold nodes isKnown (deepest - 1) all size (i + 1))) e

  pub atom_holds_law : (i : ℕ) (positive : Bool) (k : ℕ) → Node.Atom positive k ≡ node_at nodes i → atom_holds isKnown positive k ≡ holds_at nodes isKnown i
  unfolding formula_node
  atom_holds_law i positive k e = holds_by i (Node.Atom positive k) e

  pub join_holds : (i : ℕ) (all : Bool) (size : ℕ) → Node.Join all size ≡ node_at nodes i → parts_hold nodes isKnown (deepest - 1) all size (i + 1) ≡ holds_at nodes isKnown i
  unfolding formula_node
  join_holds i all size e = holds_by i (Node.Join all size) e

  -- The same, of the nodes to an end, where the connective is told apart from the node.
  pub parts_told : (i : ℕ) (all : Bool) (size : ℕ) → Node.Join all size ≡ node_at nodes i → (told : Bool) → told ≡ all
      → parts_hold nodes isKnown (deepest - 1) told (i + 1 + size - (i + 1)) (i + 1) ≡ holds_at nodes isKnown i
  parts_told i all size e told t =
      let n : i + 1 + size - (i + 1) ≡ size = omega arith in
      (λ j. parts_hold nodes isKnown (deepest - 1) (t j) (n j) (i + 1)) ∙ join_holds i all size e

  -- A node that is none of a formula.
  pub no_formula : (i : ℕ) (x : Node) → x ≡ node_at nodes i → OneOf (0 ∷ 1 ∷ 2 ∷ 3 ∷ []) (tag_of the_type x) → false ≡ holds_at nodes isKnown i
  no_formula i x e t = sym (formula_none isKnown (λ all size. parts_hold nodes isKnown (deepest - 1) all size (i + 1)) x t) ∙ holds_by i x e

-- An atom holds exactly if its flag says whether its formula is known.
pub atom_known : (isKnown : ℕ → Bool) (positive : Bool) (k : ℕ) → beq (isKnown k) positive ≡ atom_holds isKnown positive k
unfolding atom_holds
atom_known isKnown true k = same (isKnown k)
  where
    same : (x : Bool) → beq x true ≡ x
    same true = refl
    same false = refl
atom_known isKnown false k = other (isKnown k)
  where
    other : (x : Bool) → beq x false ≡ not x
    other true = refl
    other false = refl

-- A node that isn't the end stands inside the memory.
node_inside : (nodes : List ℕ) (i : ℕ) (x : Node) → x ≡ node_at nodes i → (x ≡ Node.End 0 → ⊥) → i < node_most
unfolding node_at
node_inside nodes i x e n = go (ltb i node_most) refl
  where
    go : (b : Bool) → ltb i node_most ≡ b → i < node_most
    go true t = ltb-true i node_most t
    go false f = absurd (n (e ∙ sym (past node_most i _ _ (ltb-false i node_most f))))

pub join_inside : (nodes : List ℕ) (i : ℕ) (all : Bool) (size : ℕ) → Node.Join all size ≡ node_at nodes i → i < node_most
join_inside nodes i all size e = node_inside nodes i (Node.Join all size) e (λ f. let z : ◌≡◌ {A = ℕ} 0 1 = cc in omega arith)

-- A node by its tag: an end, none of the program's others.
none_of_program : (n : ℕ) → n < 3 → OneOf (3 ∷ 4 ∷ 5 ∷ []) n → ⊥
none_of_program n h (inl e) = omega arith
none_of_program n h (inr (inl e)) = omega arith
none_of_program n h (inr (inr e)) = omega arith

pub at_end : (formula : ℕ → Bool) (x : Node) (i : ℕ) (onward : ℕ → Place) → OneOf (3 ∷ 4 ∷ 5 ∷ []) (tag_of the_type x) → at_node formula x i onward ≡ Place.End (formula goal_node)
unfolding at_node
at_end formula (Node.Act a number) i onward t = absurd (none_of_program 0 (omega arith) t)
at_end formula (Node.Branch met unmet) i onward t = absurd (none_of_program 1 (omega arith) t)
at_end formula (Node.Jump skip) i onward t = absurd (none_of_program 2 (omega arith) t)
at_end formula (Node.End count) i onward t = refl
at_end formula (Node.Join all size) i onward t = refl
at_end formula (Node.Atom positive k) i onward t = refl

-- Where a formula is asked for: behind a branch, or at the goal's node by a node that is none. `node` is the node as it is told again.
abbrev pub AskedFor : (found node : Node) (i asked : ℕ) → Type 0
AskedFor found node i asked =
    ((m : ℕ) × (u : ℕ) × (found ≡ Node.Branch m u) × (node ≡ Node.Branch m u) × (asked ≡ i + 1)) ⊎ (OneOf (0 ∷ 2 ∷ 3 ∷ 4 ∷ 5 ∷ []) (tag_of the_type found) × (node ≡ found) × (asked ≡ goal_node))

no_branch : (x : Node) (m u : ℕ) → x ≡ Node.Branch m u → OneOf (0 ∷ 2 ∷ 3 ∷ 4 ∷ 5 ∷ []) (tag_of the_type x) → ⊥
no_branch x m u e t = none 1 (omega arith) (subst (λ (y : Node). OneOf (0 ∷ 2 ∷ 3 ∷ 4 ∷ 5 ∷ []) (tag_of the_type y)) e t)
  where
    none : (n : ℕ) → n ≡ 1 → OneOf (0 ∷ 2 ∷ 3 ∷ 4 ∷ 5 ∷ []) n → ⊥
    none n h (inl e) = omega arith
    none n h (inr (inl e)) = omega arith
    none n h (inr (inr (inl e))) = omega arith
    none n h (inr (inr (inr (inl e)))) = omega arith
    none n h (inr (inr (inr (inr e)))) = omega arith

pub branch_asks : (found node : Node) (i asked met unmet : ℕ) → AskedFor found node i asked → node ≡ Node.Branch met unmet → (Node.Branch met unmet ≡ found) × (asked ≡ i + 1)
branch_asks found node i asked met unmet (inl (m, u, f, e, a)) n = (sym n ∙ e ∙ sym f, a)
branch_asks found node i asked met unmet (inr (t, e, a)) n = absurd (no_branch found met unmet (sym e ∙ n) t)

pub end_asks : (found node : Node) (i asked : ℕ) → AskedFor found node i asked → OneOf (1 ∷ 3 ∷ 4 ∷ 5 ∷ []) (tag_of the_type found) → OneOf (0 ∷ 2 ∷ 3 ∷ 4 ∷ 5 ∷ []) (tag_of the_type node)
    → OneOf (3 ∷ 4 ∷ 5 ∷ []) (tag_of the_type found) × (asked ≡ goal_node)
end_asks found node i asked (inl (m, u, f, e, a)) k t = absurd (no_branch node m u e t)
end_asks found node i asked (inr (t, e, a)) k n = (both (tag_of the_type found) k t, a)
  where
    both : (n : ℕ) → OneOf (1 ∷ 3 ∷ 4 ∷ 5 ∷ []) n → OneOf (0 ∷ 2 ∷ 3 ∷ 4 ∷ 5 ∷ []) n → OneOf (3 ∷ 4 ∷ 5 ∷ []) n
    both n (inr l) t = l
    both n (inl e) (inl d) = absurd (omega arith)
    both n (inl e) (inr (inl d)) = absurd (omega arith)
    both n (inl e) (inr (inr (inl d))) = absurd (omega arith)
    both n (inl e) (inr (inr (inr (inl d)))) = absurd (omega arith)
    both n (inl e) (inr (inr (inr (inr d)))) = absurd (omega arith)

-- What is known in a set: no state of it is outside the other set.
module _ (sets : List ℕ) (set : States) (k : ℕ) where
  known_every : known_by sets set k ≡ every (member (set_at sets k)) (members set)
  unfolding known_by
  known_every = refl

  pub known_empty : (other outside : States) → other ≡ set_at sets k → outside ≡ set_of (λ s. member set s && not (member other s))
      → not (nonempty (members outside)) ≡ known_by sets set k
  known_empty other outside o e = go (nonempty (members outside)) refl ∙ ap (λ (x : States). every (member x) (members set)) o ∙ sym known_every
    where
      is : (s : ℕ) → s < 256 → member outside s ≡ (member set s && not (member other s))
      is s h = ap (λ (x : States). member x s) e ∙ member_set_of (λ s. member set s && not (member other s)) s h

      go : (b : Bool) → nonempty (members outside) ≡ b → not b ≡ every (member other) (members set)
      go true t =
          let r = nonempty_mem (members outside) t in
          let m = members_mem outside r.1 in
          let out = both_true (member set r.0) (not (member other r.0)) (sym (is r.0 m.0) ∙ m.1) in
          same_test false (every (member other) (members set)) (λ f. not_both f refl)
          (λ h. not_both (every_mem (member other) (members set) h (mem_members set r.0 m.0 out.0)) (not-true (member other r.0) out.1))
      go false f =
          sym (mem_every (member other) (members set)
          (λ s m. let k = members_mem set m in
          ⊎_elim (λ t. t)
          (λ n. not_both
          (mem_nonempty (members outside) (mem_members outside s k.0 (is s k.0 ∙ and_both (member set s) (not (member other s)) k.1 (ap not n)))) f)
          (two_cases (member other s))))
