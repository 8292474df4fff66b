-- Laws of sets of states: the set that a test gives, the members of a set, and sets made word by word. Assumes nothing.
use Prim.Native.Nat.{ℕ, zero, suc, ◌+◌, ◌-◌, ◌*◌, ◌/◌, ◌%◌, ◌^◌, ◌≤◌, ◌<◌}
use mathlib.Core.Path.{◌≡◌, refl, subst, sym, ap, ap₂, ◌∙◌}
use mathlib.Core.Bool.{Bool, true, false, not, ◌&&◌}
use mathlib.Core.List.{List, [], ◌∷◌, Memᴰ}
use native.Mathlib.Omega.{arith}
use native.Mathlib.Numerals.{add-one}
use lib.Dec.{eqb}
use lib.ListN.{length, get_or, set, get_or-eq_default}
use lib.Seq.{set_out}
use lib.Bits.{bit_or}
use borrow.Author.Tests.{eq-eqb, ne_eqb, eqb-true}
use Rattle.lists.specs.Lists.{up_from, below, keep, nonempty, write}
use Rattle.std.specs.Prelude.{if◌then◌else◌}
use Rattle.lists.proofs.ListLaws.{same_test, not_both, both_true, and_both, keep_mem, mem_keep, keep_same, mem_nonempty, nonempty_mem, up_from_mem, mem_up_from}
use Rattle.states.specs.declared.States.{States}
use Rattle.states.specs.Sets.{bit, words, words_at, of_words, word, member, word_of, set_of, members, same_states, least_of}
use Rattle.states.proofs.BitLaws.{bit_none, bit_pow, bits_equal, or_none, word_lt, word_bit}

-- The words of a set are that set.
pub words_back : (set : States) → of_words (words set) ≡ set
unfolding words of_words
words_back set = refl

-- Sets are the same exactly if the test says so.
pub same_states_law : (a b : States) → same_states a b ≡ true → a ≡ b
unfolding same_states
same_states_law a b e =
    let t₂ = both_true (eqb a.w0 b.w0 && eqb a.w1 b.w1 && eqb a.w2 b.w2) (eqb a.w3 b.w3) e in
    let t₁ = both_true (eqb a.w0 b.w0 && eqb a.w1 b.w1) (eqb a.w2 b.w2) t₂.0 in
    let t₀ = both_true (eqb a.w0 b.w0) (eqb a.w1 b.w1) t₁.0 in
    let e₀ = eqb-true a.w0 b.w0 t₀.0 in
    let e₁ = eqb-true a.w1 b.w1 t₀.1 in
    let e₂ = eqb-true a.w2 b.w2 t₁.1 in
    let e₃ = eqb-true a.w3 b.w3 t₂.1 in
    λ i. record { w0 = e₀ i; w1 = e₁ i; w2 = e₂ i; w3 = e₃ i }

pub states_same : (a b : States) → a ≡ b → same_states a b ≡ true
unfolding same_states
states_same a b e =
    and_both _ _
    (and_both _ _ (and_both _ _ (eq-eqb _ _ (ap (λ (s : States). s.w0) e)) (eq-eqb _ _ (ap (λ (s : States). s.w1) e))) (eq-eqb _ _ (ap (λ (s : States). s.w2) e)))
    (eq-eqb _ _ (ap (λ (s : States). s.w3) e))

-- What holds of each of four.
pub four : (P : ℕ → Type 0) → P 0 → P 1 → P 2 → P 3 → (i : ℕ) → i < 4 → P i
four P a b c d zero h = a
four P a b c d (suc zero) h = b
four P a b c d (suc (suc zero)) h = c
four P a b c d (suc (suc (suc zero))) h = d
four P a b c d (suc (suc (suc (suc i)))) h = absurd (omega arith)

-- Each word fits 64 bits, as the words of a value of the code do.
abbrev pub Fitting : States → Type 0
Fitting set = (set.w0 < 2 ^ 64) × (set.w1 < 2 ^ 64) × (set.w2 < 2 ^ 64) × (set.w3 < 2 ^ 64)

-- So does word i.
fitting_word : (set : States) → Fitting set → (i : ℕ) → i < 4 → word set i < 2 ^ 64
unfolding word
fitting_word set h = four (λ i. word set i < 2 ^ 64) h.0 h.1 h.2 h.3

-- A state is a bit of its word.
pub member_bit : (set : States) (s : ℕ) → member set s ≡ bit (word set (s / 64)) (s % 64)
unfolding member
member_bit set s = refl

-- Bit k of word i is state 64 i + k.
pub in_word : (set : States) (i k : ℕ) → k < 64 → member set (i * 64 + k) ≡ bit (word set i) k
in_word set i k h =
    let d : (i * 64 + k) / 64 ≡ i = omega arith in
    let m : (i * 64 + k) % 64 ≡ k = omega arith in
    member_bit set (i * 64 + k) ∙ ap₂ (λ (x y : ℕ). bit (word set x) y) d m

-- No state past the words is in a set.
pub member_above : (set : States) (s : ℕ) → 256 ≤ s → member set s ≡ false
unfolding word
member_above set s h =
    let out : word set (s / 64) ≡ 0 = get_or-eq_default (set.w0 ∷ set.w1 ∷ set.w2 ∷ set.w3 ∷ []) 0 {n = s / 64} (omega arith) in
    member_bit set s ∙ ap (λ (x : ℕ). bit x (s % 64)) out ∙ bit_none (s % 64)

-- The set of four words.
abbrev pub four_words : (x y z w : ℕ) → States
four_words x y z w = record { w0 = x; w1 = y; w2 = z; w3 = w }

-- Behind the last word there is no state.
pub none_behind : (ws : List ℕ) (i : ℕ) → length ws ≤ i → set_of (λ s. false) ≡ words_at ws i
unfolding set_of words_at
none_behind ws i h =
    let none : ((j : ℕ) → length ws ≤ j → 0 ≡ get_or ws j 0) = λ j l. sym (get_or-eq_default ws 0 {n = j} l) in
    λ k. four_words (none i h k) (none (i + 1) (omega arith) k) (none (i + 2) (omega arith) k) (none (i + 3) (omega arith) k)

-- The words of a set stored one behind the other are a writing; behind the last word nothing is written.
pub put_words : (xs us vs ws zs : List ℕ) (i : ℕ) (s : States) → us ≡ set xs i s.w0 → vs ≡ set us (i + 1) s.w1 → ws ≡ set vs (i + 2) s.w2 → zs ≡ set ws (i + 3) s.w3
    → zs ≡ write xs i (words s)
unfolding write words
put_words xs us vs ws zs i s a b c d =
    let e : i + 2 ≡ i + 1 + 1 = omega arith in
    let f : i + 3 ≡ i + 1 + 1 + 1 = omega arith in
    let ab = b ∙ ap (λ (ys : List ℕ). set ys (i + 1) s.w1) a in
    let bc = c ∙ ap₂ (λ (ys : List ℕ) (j : ℕ). set ys j s.w2) ab e in
    d ∙ ap₂ (λ (ys : List ℕ) (j : ℕ). set ys j s.w3) bc f

written_none : (xs : List ℕ) (i : ℕ) (ys : List ℕ) → length xs ≤ i → write xs i ys ≡ xs
unfolding write
written_none xs i [] h = refl
written_none xs i (y ∷ ys) h = ap (λ (us : List ℕ). write us (i + 1) ys) (set_out xs i y h) ∙ written_none xs (i + 1) ys (omega arith)

pub put_none : (xs : List ℕ) (i : ℕ) (s : States) → length xs ≤ i → xs ≡ write xs i (words s)
put_none xs i s h = sym (written_none xs i (words s) h)

-- Two sets are equal where their words are.
set_ext : (a b : States) → ((i : ℕ) → i < 4 → word a i ≡ word b i) → a ≡ b
unfolding word
set_ext a b h =
    ap₂ (λ (x y : ℕ). four_words x y a.w2 a.w3) (h 0 (omega arith)) (h 1 (omega arith))
    ∙ ap₂ (λ (x y : ℕ). four_words b.w0 b.w1 x y) (h 2 (omega arith)) (h 3 (omega arith))

module _ (test : ℕ → Bool) where
  -- The words of the set that a test gives.
  words_set_of : set_of test ≡ four_words (word_of 64 (λ k. test k)) (word_of 64 (λ k. test (64 + k))) (word_of 64 (λ k. test (128 + k))) (word_of 64 (λ k. test (192 + k)))
  unfolding set_of
  words_set_of = refl

  -- They fit.
  pub fitting_set_of : Fitting (set_of test)
  fitting_set_of =
      rw words_set_of
      (word_lt 64 (λ k. test k), word_lt 64 (λ k. test (64 + k)), word_lt 64 (λ k. test (128 + k)), word_lt 64 (λ k. test (192 + k)))

  -- Their bits are the tests of the states.
  bit_set_of : (k : ℕ) → k < 64 → (i : ℕ) → i < 4 → bit (word (set_of test) i) k ≡ test (i * 64 + k)
  unfolding word
  bit_set_of k h =
      let e : k ≡ 0 * 64 + k = omega arith in
      subst (λ (u : States). (i : ℕ) → i < 4 → bit (word u i) k ≡ test (i * 64 + k)) (sym words_set_of)
      (four (λ i. bit (word (four_words (word_of 64 (λ k. test k)) (word_of 64 (λ k. test (64 + k))) (word_of 64 (λ k. test (128 + k))) (word_of 64 (λ k. test (192 + k)))) i) k ≡ test (i * 64 + k))
      (word_bit 64 (λ k. test k) k h ∙ ap test e)
      (word_bit 64 (λ k. test (64 + k)) k h)
      (word_bit 64 (λ k. test (128 + k)) k h)
      (word_bit 64 (λ k. test (192 + k)) k h))

  -- A state is in the set where it passes the test.
  pub member_set_of : (s : ℕ) → s < 256 → member (set_of test) s ≡ test s
  member_set_of s h =
      let e : s / 64 * 64 + s % 64 ≡ s = omega arith in
      member_bit (set_of test) s ∙ bit_set_of (s % 64) (omega arith) (s / 64) (omega arith) ∙ ap test e

-- A set whose members are those that pass a test is the set of the test.
pub set_is : (p : ℕ → Bool) (set : States) → Fitting set → ((s : ℕ) → s < 256 → member set s ≡ p s) → set ≡ set_of p
set_is p set fit h =
    set_ext set (set_of p)
    (λ i hi. bits_equal 64 (word set i) (word (set_of p) i) (fitting_word set fit i hi) (fitting_word (set_of p) (fitting_set_of p) i hi)
    (λ k hk. sym (in_word set i k hk) ∙ h (i * 64 + k) (omega arith) ∙ sym (bit_set_of p k hk i hi)))

-- Tests that agree on the states give the same set.
pub set_cong : (p q : ℕ → Bool) → ((s : ℕ) → s < 256 → p s ≡ q s) → set_of p ≡ set_of q
set_cong p q h = set_is q (set_of p) (fitting_set_of p) (λ s hs. member_set_of p s hs ∙ h s hs)

-- The members of a set are the states below 256 that are in it.
members_keep : (set : States) → members set ≡ keep (member set) (below 256)
unfolding members
members_keep set = refl

-- A member is a state below 256 that is in the set.
pub members_mem : (set : States) {s : ℕ} → Memᴰ s (members set) → (s < 256) × (member set s ≡ true)
members_mem set m =
    let r = keep_mem (member set) (below 256) (rw members_keep at m) in
    ((up_from_mem 0 256 r.0).1, r.1)

-- A state below 256 that is in the set is a member.
pub mem_members : (set : States) (s : ℕ) → s < 256 → member set s ≡ true → Memᴰ s (members set)
mem_members set s h e = rw members_keep (mem_keep (member set) (below 256) (mem_up_from 0 256 s (omega arith) (omega arith)) e)

-- The members of the set that a test gives are the states that pass it.
pub members_set_of : (p : ℕ → Bool) → members (set_of p) ≡ keep p (below 256)
members_set_of p = members_keep (set_of p) ∙ keep_same (member (set_of p)) p (below 256) (λ s m. member_set_of p s (up_from_mem 0 256 m).1)

-- The set that an operation on words makes of two sets, word by word.
abbrev pub by_word : (op : ℕ → ℕ → ℕ) → States → States → States
by_word op a b = four_words (op a.w0 b.w0) (op a.w1 b.w1) (op a.w2 b.w2) (op a.w3 b.w3)

-- If the operation acts on each bit as f does, and its words fit, then f tells the members of that set from those of the two.
module _ (op : ℕ → ℕ → ℕ) (f : Bool → Bool → Bool)
    (bits : (x y k : ℕ) → x < 2 ^ 64 → y < 2 ^ 64 → k < 64 → bit (op x y) k ≡ f (bit x k) (bit y k))
    (bound : (x y : ℕ) → x < 2 ^ 64 → y < 2 ^ 64 → op x y < 2 ^ 64) where
  pub pointwise : (a b : States) → Fitting a → Fitting b → by_word op a b ≡ set_of (λ s. f (member a s) (member b s))
  unfolding word
  pointwise a b ha hb =
      set_is (λ s. f (member a s) (member b s)) (by_word op a b)
      (bound _ _ ha.0 hb.0, bound _ _ ha.1 hb.1, bound _ _ ha.2 hb.2, bound _ _ ha.3 hb.3)
      (λ s h. member_bit (by_word op a b) s ∙ rule (s % 64) (omega arith) (s / 64) (omega arith) ∙ sym (ap₂ f (member_bit a s) (member_bit b s)))
    where
      rule : (k : ℕ) → k < 64 → (i : ℕ) → i < 4 → bit (word (by_word op a b) i) k ≡ f (bit (word a i) k) (bit (word b i) k)
      rule k h =
          four (λ i. bit (word (by_word op a b) i) k ≡ f (bit (word a i) k) (bit (word b i) k))
          (bits _ _ k ha.0 hb.0 h) (bits _ _ k ha.1 hb.1 h) (bits _ _ k ha.2 hb.2 h) (bits _ _ k ha.3 hb.3 h)

-- The bits of a word that is 2^j if a test passes, and else 0.
bit_one : (b : Bool) (j k : ℕ) → bit (if b then 2 ^ j else 0) k ≡ (b && eqb k j)
bit_one true j k = bit_pow j k
bit_one false j k = bit_none k

-- A set with 2^(s mod 64) in word s div 64, and 0 in the others, is the set of s alone.
pub one_is : (set : States) (s : ℕ) → Fitting set → ((i : ℕ) → i < 4 → word set i ≡ (if eqb i (s / 64) then 2 ^ (s % 64) else 0)) → set ≡ set_of (λ t. eqb t s)
one_is set s fit h = set_is (λ t. eqb t s) set fit
    (λ t ht. member_bit set t ∙ ap (λ (x : ℕ). bit x (t % 64)) (h (t / 64) (omega arith)) ∙ bit_one (eqb (t / 64) (s / 64)) (s % 64) (t % 64) ∙ same t)
  where
    same : (t : ℕ) → (eqb (t / 64) (s / 64) && eqb (t % 64) (s % 64)) ≡ eqb t s
    same t = same_test (eqb (t / 64) (s / 64) && eqb (t % 64) (s % 64)) (eqb t s)
        (λ e. let r = both_true (eqb (t / 64) (s / 64)) (eqb (t % 64) (s % 64)) e in
        eq-eqb t s (omega (arith, eqb-true (t / 64) (s / 64) r.0, eqb-true (t % 64) (s % 64) r.1)))
        (λ e. let q : t ≡ s = eqb-true t s e in
        and_both (eqb (t / 64) (s / 64)) (eqb (t % 64) (s % 64)) (eq-eqb (t / 64) (s / 64) (ap (λ (x : ℕ). x / 64) q)) (eq-eqb (t % 64) (s % 64) (ap (λ (x : ℕ). x % 64) q)))

-- The words joined by `|`.
abbrev pub joined : States → ℕ
joined set = bit_or (bit_or (bit_or set.w0 set.w1) set.w2) set.w3

-- If they are 0, no state is in the set.
no_member : (set : States) → joined set ≡ 0 → (s : ℕ) → s < 256 → member set s ≡ false
unfolding word
no_member set e s h =
    let x = or_none (bit_or (bit_or set.w0 set.w1) set.w2) set.w3 e in
    let y = or_none (bit_or set.w0 set.w1) set.w2 x.0 in
    let z = or_none set.w0 set.w1 y.0 in
    let none : word set (s / 64) ≡ 0 = four (λ i. word set i ≡ 0) z.0 z.1 y.1 x.1 (s / 64) (omega arith) in
    member_bit set s ∙ ap (λ (x : ℕ). bit x (s % 64)) none ∙ bit_none (s % 64)

-- Those of the empty set are 0.
joined_none : joined (set_of (λ s. false)) ≡ 0
unfolding set_of
joined_none = refl

-- They are 0 just where the set has no members.
pub empty_joined : (set : States) → Fitting set → eqb (joined set) 0 ≡ not (nonempty (members set))
empty_joined set fit = go (nonempty (members set)) refl
  where
    go : (b : Bool) → nonempty (members set) ≡ b → eqb (joined set) 0 ≡ not b
    go true e =
        let r = nonempty_mem (members set) e in
        let m = members_mem set r.1 in
        ne_eqb (joined set) 0 (λ z. not_both m.1 (no_member set z r.0 m.0))
    go false e =
        let out : ((s : ℕ) → s < 256 → member set s ≡ false) = λ s h.
        same_test (member set s) false (λ t. sym e ∙ mem_nonempty (members set) (mem_members set s h t)) (λ t. not_both t refl) in
        eq-eqb (joined set) 0 (ap joined (set_is (λ s. false) set fit out) ∙ joined_none)

-- The first member from a state on; 0 if there is none.
abbrev pub least_from : States → ℕ → ℕ
least_from set s = least_of (keep (member set) (up_from s (256 - s)))

module _ (set : States) where
  -- From state 0 on it is the least.
  pub least_start : least_of (members set) ≡ least_from set 0
  least_start = ap least_of (members_keep set)

  -- The states from s on are s and those from s + 1 on.
  from : (s : ℕ) → s < 256 → up_from s (256 - s) ≡ s ∷ up_from (s + 1) (256 - (s + 1))
  unfolding up_from
  from s h =
      let e : 256 - s ≡ suc (256 - (s + 1)) = omega arith in
      ap (up_from s) e ∙ ap (λ (t : ℕ). s ∷ up_from t (256 - (s + 1))) (sym (add-one s))

  -- A state that is in the set is the first from it on.
  pub least_here : (s : ℕ) → s < 256 → member set s ≡ true → least_from set s ≡ s
  unfolding keep least_of
  least_here s h e = rw (from s h, e)

  -- One that isn't is passed over.
  pub least_later : (s : ℕ) → s < 256 → member set s ≡ false → least_from set s ≡ least_from set (s + 1)
  unfolding keep
  least_later s h e = rw (from s h, e)

  -- Past the states there is none.
  pub least_end : least_from set 256 ≡ 0
  unfolding keep up_from least_of
  least_end = refl
