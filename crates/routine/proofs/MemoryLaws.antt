-- Laws of what stands in a memory: a set, a head, a node, and past the last. Assumes nothing.
use Prim.Native.Nat.{ℕ, ◌+◌, ◌*◌, ◌≤◌, ◌<◌}
use mathlib.Core.Path.{◌≡◌}
use mathlib.Core.List.{List}
use mathlib.Core.Bool.{Bool, true, false}
use lib.Dec.{eqb, ltb}
use Rattle.std.specs.Prelude.{if◌then◌else◌}
use lib.ListN.{get_or, replicate, length-replicate}
use borrow.Author.Tests.{lt-ltb, le-ltb, ne_eqb}
use Rattle.routine.specs.declared.memory.Node.{Node}
use Rattle.routine.specs.Memory.{Small, head_most, node_most, set_most, set_at, node_of, Sized}
use Rattle.states.specs.Sets.{words_at}

-- Arrays that were made for the tables have the lengths of their types.
pub fresh_sized : Sized (replicate (3 * head_most) 0) (replicate (3 * node_most) 0) (replicate (4 * set_most) 0)
fresh_sized = (length-replicate {A = ℕ} (3 * head_most) 0, length-replicate {A = ℕ} (3 * node_most) 0, length-replicate {A = ℕ} (4 * set_most) 0)

-- A set of a memory.
pub set_in : (sets : List ℕ) (k : ℕ) → k < set_most
    → words_at sets (4 * k) ≡ set_at sets k
unfolding set_at
set_in sets k h = rw (lt-ltb k set_most h)

-- What three numbers of a memory make, a head or a node, where these are read one by one.
pub three_in : {A : Type 0} (make : ℕ → ℕ → ℕ → A) (other : A) (memory : List ℕ) (most i x y z : ℕ) → i < most
    → x ≡ get_or memory (3 * i) 0 → y ≡ get_or memory (3 * i + 1) 0 → z ≡ get_or memory (3 * i + 2) 0
    → make x y z ≡ (if ltb i most then make (get_or memory (3 * i) 0) (get_or memory (3 * i + 1) 0) (get_or memory (3 * i + 2) 0) else other)
three_in make other memory most i x y z h p q r = rw (lt-ltb i most h, p, q, r)

-- Past the last set, head or node.
pub past : {A : Type 0} (most i : ℕ) (inside other : A) → most ≤ i → other ≡ (if ltb i most then inside else other)
past most i inside other h = rw (le-ltb i most h)

-- The node that three numbers are, by the first of them.
pub node_is : (n kind operand second : ℕ) → kind ≡ n → node_of n operand second ≡ node_of kind operand second
node_is n kind operand second e = rw e

pub node_else : (kind operand second : ℕ) → (kind ≡ 0 → ⊥) → (kind ≡ 1 → ⊥) → (kind ≡ 2 → ⊥) → (kind ≡ 3 → ⊥) → (kind ≡ 4 → ⊥)
    → Node.End operand ≡ node_of kind operand second
unfolding node_of
node_else kind operand second a b c d e = rw (ne_eqb kind 0 a, ne_eqb kind 1 b, ne_eqb kind 2 c, ne_eqb kind 3 d, ne_eqb kind 4 e)

-- What holds of both ways of a test.
by_test : (P : Node → Type 0) (b : Bool) (x y : Node) → P x → P y → P (if b then x else y)
by_test P true x y p q = p
by_test P false x y p q = q

-- The numbers of a node are small where the numbers that it is are.
pub node_small : (kind operand second : ℕ) → operand < 65536 → second < 65536 → Small (node_of kind operand second)
unfolding node_of Small
node_small kind operand second p q =
    by_test Small (eqb kind 0) _ _ (p, q) (by_test Small (eqb kind 1) _ _ (p, q) (by_test Small (eqb kind 2) _ _ p (by_test Small (eqb kind 3) _ _ p
    (by_test Small (eqb kind 4) _ _ p p))))
