-- Laws of gathering the sets that a word's bits or a set's states number, and of one step. Assumes nothing.
use Prim.Native.Nat.{ℕ, zero, suc, ◌+◌, ◌-◌, ◌*◌, ◌^◌, ◌≤◌, ◌<◌}
use mathlib.Core.Path.{◌≡◌, refl, sym, ap, ap₂, ◌∙◌}
use mathlib.Core.Logic.{⊎_elim}
use mathlib.Core.List.{List, [], ◌∷◌, ◌++◌, Memᴰ}
use mathlib.Core.Bool.{Bool, true, false, not, ◌&&◌, ◌||◌}
use native.Mathlib.Omega.{arith}
use native.Mathlib.Decide.{ℕ_discrete}
use borrow.Author.Tests.{lt-ltb, le-ltb, ne_eqb}
use lib.Dec.{eqb, ltb}
use lib.Bits.{bit_and}
use lib.Count.{count_trailing_zeros}
use Rattle.lists.specs.Lists.{up_from, below, exists}
use Rattle.std.specs.Prelude.{if◌then◌else◌}
use Rattle.lists.proofs.ListLaws.{or_assoc, or_none, exists_same, same_test, not_both, both_true, and_both, one_true, or_left, or_right, exists_mem, mem_exists, up_from_mem, mem_up_from, up_from_append}
use Rattle.states.specs.declared.States.{States}
use Rattle.states.specs.Sets.{bit, word, member, set_of}
use Rattle.states.proofs.BitLaws.{bit_none, lowest_set, bit_cleared}
use Rattle.states.proofs.SetLaws.{Fitting, in_word, member_set_of, set_is, set_cong}
use Rattle.routine.specs.declared.memory.Head.{Head}
use Rattle.routine.specs.Memory.{set_at, head_at}
use Rattle.progression.specs.Machine.{gathered, effect, reply_states, kept_by, stepped}

-- An element among the numbers from a on is among the first j of them or behind those.
exists_append : (test : ℕ → Bool) (xs ys : List ℕ) → exists test (xs ++ ys) ≡ (exists test xs || exists test ys)
unfolding exists
exists_append test [] ys = refl
exists_append test (x ∷ xs) ys = ap (λ (b : Bool). test x || b) (exists_append test xs ys) ∙ sym (or_assoc (test x) (exists test xs) (exists test ys))

exists_split : (test : ℕ → Bool) (a j k : ℕ) → exists test (up_from a (j + k)) ≡ (exists test (up_from a j) || exists test (up_from (a + j) k))
exists_split test a j k = ap (exists test) (up_from_append a j k) ∙ exists_append test (up_from a j) (up_from (a + j) k)

exists_from : (test : ℕ → Bool) (a j k : ℕ) → exists test (up_from (a + j) k) ≡ exists (λ b. test (a + b)) (up_from j k)
unfolding exists up_from
exists_from test a j zero = refl
exists_from test a j (suc k) =
    let e : suc (a + j) ≡ a + suc j = omega arith in
    ap (λ (b : Bool). test (a + j) || b) (ap (λ (i : ℕ). exists test (up_from i k)) e ∙ exists_from test a (suc j) k)

-- A state that passes a test is in one of the four words.
exists_words : (test : ℕ → Bool)
    → exists test (below 256) ≡ ((exists (λ b. test (0 + b)) (below 64) || exists (λ b. test (64 + b)) (below 64)) || (exists (λ b. test (128 + b)) (below 64) || exists (λ b. test (192 + b)) (below 64)))
exists_words test =
    exists_split test 0 128 128
    ∙ ap₂ ◌||◌
    (exists_split test 0 64 64 ∙ ap₂ ◌||◌ (exists_from test 0 0 64) (exists_from test 64 0 64))
    (exists_split test 128 64 64 ∙ ap₂ ◌||◌ (exists_from test 128 0 64) (exists_from test 192 0 64))

-- A bit of a word passes a test where the lowest set bit does or one of the others.
lowest_or_other : (test : ℕ → Bool) (w : ℕ) → (w ≡ 0 → ⊥) → w < 2 ^ 64
    → (test (count_trailing_zeros 64 w) || exists (λ b. bit (bit_and w (w - 1)) b && test b) (below 64)) ≡ exists (λ b. bit w b && test b) (below 64)
lowest_or_other test w n h =
    same_test (test low || exists others (below 64)) (exists all (below 64)) (λ e. ⊎_elim first later (one_true (test low) (exists others (below 64)) e)) back
  where
    low : ℕ
    low = count_trailing_zeros 64 w

    others : ℕ → Bool
    others b = bit (bit_and w (w - 1)) b && test b

    all : ℕ → Bool
    all b = bit w b && test b

    is : (low < 64) × (bit w low ≡ true)
    is = lowest_set 64 w n h

    first : test low ≡ true → exists all (below 64) ≡ true
    first e = mem_exists all (below 64) (mem_up_from 0 64 low (omega arith) is.0) (and_both (bit w low) (test low) is.1 e)

    later : exists others (below 64) ≡ true → exists all (below 64) ≡ true
    later e =
        let r = exists_mem others (below 64) e in
        let t = both_true (bit (bit_and w (w - 1)) r.0) (test r.0) r.2 in
        let u = both_true (bit w r.0) (not (eqb r.0 low)) (sym (bit_cleared w r.0 n h) ∙ t.0) in
        mem_exists all (below 64) r.1 (and_both (bit w r.0) (test r.0) u.0 t.1)

    found : (b : ℕ) → Memᴰ b (below 64) → bit w b ≡ true → test b ≡ true → Dec (b ≡ low) → (test low || exists others (below 64)) ≡ true
    found b m x t (yes e) = or_left (test low) (exists others (below 64)) (ap test (sym e) ∙ t)
    found b m x t (no d) =
        or_right (test low) (exists others (below 64))
        (mem_exists others (below 64) m
        (and_both (bit (bit_and w (w - 1)) b) (test b) (bit_cleared w b n h ∙ and_both (bit w b) (not (eqb b low)) x (ap not (ne_eqb b low d))) t))

    back : exists all (below 64) ≡ true → (test low || exists others (below 64)) ≡ true
    back e =
        let r = exists_mem all (below 64) e in
        let t = both_true (bit w r.0) (test r.0) r.2 in
        found r.0 r.1 t.0 t.1 (ℕ_discrete r.0 low)

module _ (sets : List ℕ) (first : ℕ) where
  -- Whether a state is in set `first` + b for some bit b of a word.
  abbrev pub in_some : (w t : ℕ) → Bool
  in_some w t = exists (λ b. bit w b && member (set_at sets (first + b)) t) (below 64)

  -- Gathering by the bits of a word: nothing yet, the set of the lowest bit that is left, no bit left.
  pub gather_start : (none : States) → none ≡ set_of (λ s. false) → (w : ℕ) → set_of (λ t. member none t || in_some w t) ≡ set_of (in_some w)
  gather_start none e w =
      set_cong (λ t. member none t || in_some w t) (in_some w)
      (λ t h. ap (λ (b : Bool). b || in_some w t) (ap (λ (x : States). member x t) e ∙ member_set_of (λ s. false) t h))

  pub gather_more : (all row more : States) (w : ℕ) → (w ≡ 0 → ⊥) → w < 2 ^ 64
      → row ≡ set_at sets (first + count_trailing_zeros 64 w) → more ≡ set_of (λ s. member all s || member row s)
      → set_of (λ t. member more t || in_some (bit_and w (w - 1)) t) ≡ set_of (λ t. member all t || in_some w t)
  gather_more all row more w n h r m =
      set_cong (λ t. member more t || in_some (bit_and w (w - 1)) t) (λ t. member all t || in_some w t)
      (λ t l. ap (λ (b : Bool). b || in_some (bit_and w (w - 1)) t)
      (ap (λ (x : States). member x t) m ∙ member_set_of (λ s. member all s || member row s) t l ∙ ap (λ (x : States). member all t || member x t) r)
      ∙ or_assoc (member all t) (member (set_at sets (first + count_trailing_zeros 64 w)) t) (in_some (bit_and w (w - 1)) t)
      ∙ ap (λ (b : Bool). member all t || b) (lowest_or_other (λ b. member (set_at sets (first + b)) t) w n h))

  pub gather_end : (all : States) → Fitting all → (w : ℕ) → w ≡ 0 → all ≡ set_of (λ t. member all t || in_some w t)
  gather_end all fit w e =
      set_is (λ t. member all t || in_some w t) all fit (λ t h. sym (ap (λ (b : Bool). member all t || b) (none t) ∙ or_none (member all t)))
    where
      none : (t : ℕ) → in_some w t ≡ false
      none t =
          same_test (in_some w t) false
          (λ x. let r = exists_mem (λ b. bit w b && member (set_at sets (first + b)) t) (below 64) x in
          not_both (both_true (bit w r.0) (member (set_at sets (first + r.0)) t) r.2).0 (ap (λ (v : ℕ). bit v r.0) e ∙ bit_none r.0))
          (λ x. not_both x refl)

-- Gathering by the states of a set is gathering by the bits of its four words.
module _ (sets : List ℕ) (first : ℕ) (set : States) where
  gathered_test : gathered sets first set ≡ set_of (λ t. exists (λ s. member set s && member (set_at sets (first + s)) t) (below 256))
  unfolding gathered
  gathered_test = refl

  -- The states of word i.
  in_part : (i j t : ℕ) → first + i * 64 ≡ j
      → exists (λ b. member set (i * 64 + b) && member (set_at sets (first + (i * 64 + b))) t) (below 64) ≡ in_some sets j (word set i) t
  in_part i j t h =
      exists_same (λ b. member set (i * 64 + b) && member (set_at sets (first + (i * 64 + b))) t) (λ b. bit (word set i) b && member (set_at sets (j + b)) t) (below 64)
      (λ b m. let e : first + (i * 64 + b) ≡ j + b = omega arith in
      ap₂ ◌&&◌ (in_word set i b (up_from_mem 0 64 m).1) (ap (λ (k : ℕ). member (set_at sets k) t) e))

  pub gather_words : (a b c d x y : States) → a ≡ set_of (in_some sets first set.w0) → b ≡ set_of (in_some sets (first + 64) set.w1)
      → c ≡ set_of (in_some sets (first + 128) set.w2) → d ≡ set_of (in_some sets (first + 192) set.w3)
      → x ≡ set_of (λ s. member a s || member b s) → y ≡ set_of (λ s. member c s || member d s)
      → set_of (λ s. member x s || member y s) ≡ gathered sets first set
  unfolding word
  gather_words a b c d x y ea eb ec ed ex ey =
      set_cong (λ s. member x s || member y s) (λ t. exists (λ s. member set s && member (set_at sets (first + s)) t) (below 256))
      (λ t h. ap₂ ◌||◌
      (both a b x (in_some sets first set.w0) (in_some sets (first + 64) set.w1) ea eb ex t h)
      (both c d y (in_some sets (first + 128) set.w2) (in_some sets (first + 192) set.w3) ec ed ey t h)
      ∙ sym (exists_words (λ s. member set s && member (set_at sets (first + s)) t)
      ∙ ap₂ ◌||◌ (ap₂ ◌||◌ (in_part 0 first t (omega arith)) (in_part 1 (first + 64) t refl)) (ap₂ ◌||◌ (in_part 2 (first + 128) t refl) (in_part 3 (first + 192) t refl))))
      ∙ sym gathered_test
    where
      both : (a b x : States) (p q : ℕ → Bool) → a ≡ set_of p → b ≡ set_of q → x ≡ set_of (λ s. member a s || member b s)
          → (t : ℕ) → t < 256 → member x t ≡ (p t || q t)
      both a b x p q ea eb ex t h =
          ap (λ (z : States). member z t) ex ∙ member_set_of (λ s. member a s || member b s) t h
          ∙ ap₂ ◌||◌ (ap (λ (z : States). member z t) ea ∙ member_set_of p t h) (ap (λ (z : States). member z t) eb ∙ member_set_of q t h)

-- A choice by a test that passes, and by one that fails.
chosen : {A : Type 0} {b : Bool} {x : A} (y : A) → b ≡ true → x ≡ (if b then x else y)
chosen {A} {b} {x} y e = ap (λ (c : Bool). if c then x else y) (sym e)

passed : {A : Type 0} {b : Bool} (x : A) {y : A} → b ≡ false → y ≡ (if b then x else y)
passed {A} {b} x {y} e = ap (λ (c : Bool). if c then x else y) (sym e)

-- The effect of an action with rows, and of one without.
module _ (sets : List ℕ) (head : Head) (set : States) where
  effect_choice : (if ltb head.rows head.replies then gathered sets head.rows set else set) ≡ effect sets head set
  unfolding effect
  effect_choice = refl

  pub effect_rows : head.rows < head.replies → gathered sets head.rows set ≡ effect sets head set
  effect_rows h = chosen set (lt-ltb head.rows head.replies h) ∙ effect_choice

  pub effect_none : head.replies ≤ head.rows → set ≡ effect sets head set
  effect_none h = passed (gathered sets head.rows set) (le-ltb head.rows head.replies h) ∙ effect_choice

-- The states in which a reply is true that the action has, and one that it hasn't.
module _ (sets : List ℕ) (head : Head) (reply : ℕ) where
  table_choice : (if ltb reply head.count then set_at sets (head.replies + reply) else set_of (λ t. false)) ≡ reply_states sets head reply
  unfolding reply_states
  table_choice = refl

  pub true_nowhere : head.count ≤ reply → set_of (λ t. false) ≡ reply_states sets head reply
  true_nowhere h = passed (set_at sets (head.replies + reply)) (le-ltb reply head.count h) ∙ table_choice

  pub true_by_table : reply < head.count → set_at sets (head.replies + reply) ≡ reply_states sets head reply
  true_by_table h = chosen (set_of (λ t. false)) (lt-ltb reply head.count h) ∙ table_choice

-- The same by a head that was read.
module _ (sets : List ℕ) (head at : Head) (is : head ≡ at) where
  pub read_rows : (set : States) → head.rows < head.replies → gathered sets head.rows set ≡ effect sets at set
  read_rows set h = effect_rows sets head set h ∙ ap (λ (x : Head). effect sets x set) is

  pub read_same : (set : States) → head.replies ≤ head.rows → set ≡ effect sets at set
  read_same set h = effect_none sets head set h ∙ ap (λ (x : Head). effect sets x set) is

  module _ (reply : ℕ) where
    pub read_nowhere : head.count ≤ reply → set_of (λ t. false) ≡ reply_states sets at reply
    read_nowhere h = true_nowhere sets head reply h ∙ ap (λ (x : Head). reply_states sets x reply) is

    pub read_table : reply < head.count → set_at sets (head.replies + reply) ≡ reply_states sets at reply
    read_table h = true_by_table sets head reply h ∙ ap (λ (x : Head). reply_states sets x reply) is

-- A step: the effect, and of its states those that the reply keeps.
pub step_halves : (heads sets : List ℕ) (set : States) (action reply : ℕ) (after table : States) → after ≡ effect sets (head_at heads action) set
    → table ≡ reply_states sets (head_at heads action) reply → set_of (λ t. member after t && member table t) ≡ stepped heads sets set action reply
unfolding stepped kept_by
step_halves heads sets set action reply after table a t = ap₂ (λ (x y : States). set_of (λ t. member x t && member y t)) a t

-- The same by a head that was read: a reply that the action has, and one that it hasn't.
module _ (heads sets : List ℕ) (set : States) (action reply : ℕ) (head : Head) (is : head ≡ head_at heads action) where
  pub step_kept : (after row : States) → reply < head.count → after ≡ effect sets head set → row ≡ set_at sets (head.replies + reply)
      → set_of (λ t. member after t && member row t) ≡ stepped heads sets set action reply
  step_kept after row h e r =
      step_halves heads sets set action reply after row (e ∙ ap (λ (x : Head). effect sets x set) is) (r ∙ read_table sets head (head_at heads action) is reply h)

  pub step_none : head.count ≤ reply → set_of (λ t. false) ≡ stepped heads sets set action reply
  step_none h =
      set_cong (λ t. false) (λ t. member after t && member (set_of (λ u. false)) t)
      (λ t l. sym (ap (λ (b : Bool). member after t && b) (member_set_of (λ u. false) t l) ∙ and_false (member after t)))
      ∙ step_halves heads sets set action reply after (set_of (λ u. false)) refl (read_nowhere sets head (head_at heads action) is reply h)
    where
      after : States
      after = effect sets (head_at heads action) set

      and_false : (b : Bool) → (b && false) ≡ false
      and_false true = refl
      and_false false = refl
