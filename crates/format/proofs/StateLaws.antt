-- Laws of states, of replies, and of what a theory leaves free. Assumes nothing.
use Prim.Native.Nat.{ℕ, zero, suc, ◌+◌, ◌<◌, ◌≤◌, ◌^◌}
use mathlib.Core.Path.{◌≡◌, refl, ap, ◌∙◌}
use mathlib.Core.List.{[], Memᴰ}
use mathlib.Core.Bool.{Bool, true, false, not, ◌&&◌, ◌||◌}
use native.Mathlib.Omega.{arith}
use native.Mathlib.Decide.{dec_lt}
use lib.Dec.{ltb}
use lib.Pow.{pow_mono}
use lib.ListN.{length, get_or-eq_default}
use borrow.Author.Tests.{eqb-true, eq-eqb, ltb-true, lt-ltb, le-ltb}
use Rattle.lists.specs.Lists.{up_from, below, keep, Sorted}
use Rattle.std.specs.Prelude.{if◌then◌else◌}
use Rattle.lists.proofs.ListLaws.{not_both, both_true, and_both, or_left, or_right, keep_mem, mem_keep, mem_up_from}
use Rattle.lists.proofs.OrderLaws.{sorted_keep, sorted_up_from}
use Rattle.format.specs.Syntax.{Objective, bottom, top, fact, new_fact, negation, conjunction, disjunction, equivalence, Action, change, probe, reply_count, Sheet}
use Rattle.format.specs.Truth.{in_space, space_of, is_state, states, fact_in, truth, holds, mentions_new, moves, reply_holds}

module _ (sheet : Sheet) where
  -- The states of a sheet are those over its facts that satisfy its constraint.
  pub state_test : (s : ℕ) → is_state sheet s ≡ in_space sheet.facts sheet.constraint s
  unfolding is_state
  state_test s = refl

  abbrev space : ℕ → Bool
  space = in_space sheet.facts sheet.constraint

  state_parts : (s : ℕ) → is_state sheet s ≡ true → (ltb s (2 ^ sheet.facts) ≡ true) × (holds sheet.constraint s ≡ true)
  unfolding is_state
  state_parts s e = both_true (ltb s (2 ^ sheet.facts)) (holds sheet.constraint s) e

  -- A state is below 2^n, and satisfies the constraint; and no other number is one.
  pub state_below : (s : ℕ) → is_state sheet s ≡ true → s < 2 ^ sheet.facts
  state_below s e = ltb-true s (2 ^ sheet.facts) (state_parts s e).0

  pub state_constrained : (s : ℕ) → is_state sheet s ≡ true → holds sheet.constraint s ≡ true
  state_constrained s e = (state_parts s e).1

  pub constrained_state : (s : ℕ) → s < 2 ^ sheet.facts → holds sheet.constraint s ≡ true → is_state sheet s ≡ true
  unfolding is_state
  constrained_state s l e = and_both (ltb s (2 ^ sheet.facts)) (holds sheet.constraint s) (lt-ltb s (2 ^ sheet.facts) l) e

  -- A state over at most 8 facts is a byte.
  pub state_byte : sheet.facts ≤ 8 → (s : ℕ) → is_state sheet s ≡ true → s < 256
  state_byte few s e = let h : 2 ^ sheet.facts ≤ 2 ^ 8 = pow_mono few in omega (arith, h, state_below s e)

  -- The listed states are the states, and are in order.
  pub listed_state : {s : ℕ} → Memᴰ s (states sheet) → is_state sheet s ≡ true
  unfolding states is_state
  listed_state m = (keep_mem space (below (2 ^ sheet.facts)) m).1

  pub state_listed : (s : ℕ) → is_state sheet s ≡ true → Memᴰ s (states sheet)
  unfolding states is_state
  state_listed s e = mem_keep space (below (2 ^ sheet.facts)) (mem_up_from 0 (2 ^ sheet.facts) s (omega arith) (omega (arith, state_below s e))) e

  pub states_sorted : Sorted ◌<◌ (states sheet)
  unfolding states
  states_sorted = sorted_keep ◌<◌ space (below (2 ^ sheet.facts)) (sorted_up_from 0 (2 ^ sheet.facts))

-- Past a bound no number is kept by a test that none there passes.
module _ (test : ℕ → Bool) (m : ℕ) (past : (s : ℕ) → m ≤ s → test s ≡ false) where
  keep_none : (a j : ℕ) → m ≤ a → keep test (up_from a j) ≡ []
  unfolding keep up_from
  keep_none a zero h = refl
  keep_none a (suc j) h = rw (past a h) (keep_none (suc a) j (omega arith))

  keep_below : (a k w : ℕ) → k ≤ w → m ≤ a + k → keep test (up_from a w) ≡ keep test (up_from a k)
  unfolding keep up_from
  keep_below a zero w l h = keep_none a w (omega arith)
  keep_below a (suc k) zero l h = absurd (omega arith)
  keep_below a (suc k) (suc w) l h = rw (keep_below (suc a) k w (omega arith) (omega arith))

-- The states over at most 8 facts, among the bytes.
pub space_bytes : (n : ℕ) (constraint : Objective) → n ≤ 8 → keep (in_space n constraint) (below 256) ≡ space_of n constraint
unfolding space_of in_space
space_bytes n constraint few =
    let h : 2 ^ n ≤ 2 ^ 8 = pow_mono few in keep_below (in_space n constraint) (2 ^ n) (λ s l. rw (le-ltb s (2 ^ n) l)) 0 (2 ^ n) 256 h (omega arith)

pub states_bytes : (sheet : Sheet) → sheet.facts ≤ 8 → keep (is_state sheet) (below 256) ≡ states sheet
unfolding states is_state
states_bytes sheet few = space_bytes sheet.facts sheet.constraint few

-- With the constraint "true" all numbers below 2^n are states.
keep_all : (m a k : ℕ) → a + k ≤ m → keep (λ s. ltb s m && true) (up_from a k) ≡ up_from a k
unfolding keep up_from
keep_all m a zero l = refl
keep_all m a (suc k) l = rw (lt-ltb a m (omega arith), keep_all m (suc a) k (omega arith))

pub all_states : (sheet : Sheet) → sheet.constraint ≡ top → states sheet ≡ below (2 ^ sheet.facts)
unfolding states space_of in_space holds truth
all_states sheet e = ap (space_of sheet.facts) e ∙ keep_all (2 ^ sheet.facts) 0 (2 ^ sheet.facts) (omega arith)

-- A reply that an action gives is one of its replies.
pub reply_exists : (a : Action) (r t : ℕ) → reply_holds a r t ≡ true → r < reply_count a
unfolding reply_holds reply_count holds truth
reply_exists (change theory) r t e = let z : r ≡ 0 = eqb-true r 0 e in omega arith
reply_exists (probe replies) r t e = go (dec_lt r (length replies))
  where
    go : Dec (r < length replies) → r < length replies
    go (yes p) = p
    go (no p) = not_both e (ap (λ (f : Objective). holds f t) (get_or-eq_default replies bottom {n = r} (omega arith)))

-- The truth of a theory, and so the step of a change, depends on no other fact of the next state: "A fact that it doesn't mention as new is free".
module _ (s t u : ℕ) where
  abbrev Agree : (Objective → Type 0)
  Agree f = (i : ℕ) → mentions_new f i ≡ true → fact_in t i ≡ fact_in u i

  left : (f g : Objective) → ((i : ℕ) → mentions_new f i || mentions_new g i ≡ true → fact_in t i ≡ fact_in u i) → (Agree f → truth f s t ≡ truth f s u) → truth f s t ≡ truth f s u
  left f g h k = k (λ i m. h i (or_left (mentions_new f i) (mentions_new g i) m))

  right : (f g : Objective) → ((i : ℕ) → mentions_new f i || mentions_new g i ≡ true → fact_in t i ≡ fact_in u i) → (Agree g → truth g s t ≡ truth g s u) → truth g s t ≡ truth g s u
  right f g h k = k (λ i m. h i (or_right (mentions_new f i) (mentions_new g i) m))

  truth_free : (f : Objective) → Agree f → truth f s t ≡ truth f s u
  unfolding truth mentions_new
  truth_free bottom h = refl
  truth_free top h = refl
  truth_free (fact j) h = refl
  truth_free (new_fact j) h = h j (eq-eqb j j refl)
  truth_free (negation f) h = ap not (truth_free f h)
  truth_free (conjunction f g) h = rw (left f g h (truth_free f), right f g h (truth_free g))
  truth_free (disjunction f g) h = rw (left f g h (truth_free f), right f g h (truth_free g))
  truth_free (equivalence f g) h = rw (left f g h (truth_free f), right f g h (truth_free g))

  pub moves_free : (theory : Objective) → ((i : ℕ) → mentions_new theory i ≡ true → fact_in t i ≡ fact_in u i) → moves (change theory) s t ≡ moves (change theory) s u
  unfolding moves
  moves_free theory h = truth_free theory h
