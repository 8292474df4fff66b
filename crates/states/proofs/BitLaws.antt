-- Laws of a word's bits: what the operations on words do to bit k, a word by its bits, and the word that a test gives. Assumes nothing.
use Prim.Native.Nat.{ℕ, zero, suc, ◌+◌, ◌-◌, ◌*◌, ◌/◌, ◌%◌, ◌^◌, ◌<◌}
use mathlib.Core.Path.{◌≡◌, refl, sym, ap, ◌∙◌}
use mathlib.Core.Bool.{Bool, true, false, not, ◌&&◌, ◌||◌, beq}
use native.Mathlib.Nat.{pow-suc, mod-eq_of_lt}
use native.Mathlib.Omega.{arith}
use lib.Pow.{pow-lt, shr-shr}
use lib.Dec.{eqb, eqb-zero-suc, eqb-suc-zero, eqb-suc-suc}
use lib.Count.{count_trailing_zeros}
use lib.Bits.{bit_and, bit_or, bit_xor, and_shr, and_mod, or_shr, or_mod, xor_shr, xor_mod, or_add_and, and_le_l, and_le_r}
use Rattle.std.specs.Prelude.{if◌then◌else◌}
use Rattle.states.specs.Sets.{bit, word_of}

-- The lowest bit.
pub bit_zero : (x : ℕ) → bit x zero ≡ eqb (x % 2) 1
unfolding bit
bit_zero x = let e : x / 1 ≡ x = omega arith in ap (λ (y : ℕ). eqb (y % 2) 1) e

-- The bits above it are those of the half.
pub bit_suc : (x k : ℕ) → bit x (suc k) ≡ bit (x / 2) k
unfolding bit
bit_suc x k =
    let e : suc k ≡ 1 + k = omega arith in
    ap (λ (y : ℕ). eqb (y % 2) 1) (ap (λ (j : ℕ). x / 2 ^ j) e ∙ sym (shr-shr x 1 k))

-- An operation that works on each bit by itself is known by what it does to 0 and 1.
module _ (op : ℕ → ℕ → ℕ) (f : Bool → Bool → Bool)
    (shr : (a b k : ℕ) → op a b / 2 ^ k ≡ op (a / 2 ^ k) (b / 2 ^ k))
    (low : (a b k : ℕ) → op a b % 2 ^ k ≡ op (a % 2 ^ k) (b % 2 ^ k))
    (on-00 : eqb (op 0 0) 1 ≡ f false false) (on-01 : eqb (op 0 1) 1 ≡ f false true)
    (on-10 : eqb (op 1 0) 1 ≡ f true false) (on-11 : eqb (op 1 1) 1 ≡ f true true) where
  -- It does so on digits.
  digit : (x y : ℕ) → x < 2 → y < 2 → eqb (op x y) 1 ≡ f (eqb x 1) (eqb y 1)
  digit zero zero h k = on-00
  digit zero (suc zero) h k = on-01
  digit (suc zero) zero h k = on-10
  digit (suc zero) (suc zero) h k = on-11
  digit zero (suc (suc y)) h k = absurd (omega arith)
  digit (suc zero) (suc (suc y)) h k = absurd (omega arith)
  digit (suc (suc x)) y h k = absurd (omega arith)

  -- It does so on bit k.
  bit_op : (a b k : ℕ) → bit (op a b) k ≡ f (bit a k) (bit b k)
  unfolding bit
  bit_op a b k =
      ap (λ (y : ℕ). eqb (y % 2) 1) (shr a b k)
      ∙ ap (λ (y : ℕ). eqb y 1) (low (a / 2 ^ k) (b / 2 ^ k) 1)
      ∙ digit (a / 2 ^ k % 2) (b / 2 ^ k % 2) (omega arith) (omega arith)

-- A bit of `a & b` is set where both are.
pub bit_of_and : (a b k : ℕ) → bit (bit_and a b) k ≡ (bit a k && bit b k)
bit_of_and = bit_op bit_and ◌&&◌ and_shr and_mod refl refl refl refl

-- A bit of `a | b` is set where one is.
pub bit_of_or : (a b k : ℕ) → bit (bit_or a b) k ≡ (bit a k || bit b k)
bit_of_or = bit_op bit_or ◌||◌ or_shr or_mod refl refl refl refl

-- A bit of `a ^ b` is set where the two differ.
pub bit_of_xor : (a b k : ℕ) → bit (bit_xor a b) k ≡ not (beq (bit a k) (bit b k))
bit_of_xor = bit_op bit_xor (λ x y. not (beq x y)) xor_shr xor_mod refl refl refl refl

-- Two digits that add up to 1 are unlike.
not_digit : (x y : ℕ) → x + y ≡ 1 → eqb x 1 ≡ not (eqb y 1)
not_digit zero zero e = absurd (omega arith)
not_digit zero (suc zero) e = refl
not_digit (suc zero) zero e = refl
not_digit zero (suc (suc y)) e = absurd (omega arith)
not_digit (suc zero) (suc y) e = absurd (omega arith)
not_digit (suc (suc x)) y e = absurd (omega arith)

-- A bit of `!x`, at a width of w bits, is set where x's is not.
pub bit_not : (w x k : ℕ) → x < 2 ^ w → k < w → bit ((2 ^ w - 1) - x) k ≡ not (bit x k)
bit_not zero x k hx hk = absurd (omega arith)
bit_not (suc w) x zero hx hk =
    let p : 2 ^ suc w ≡ 2 ^ w * 2 = pow-suc 2 w in
    let e : ((2 ^ suc w - 1) - x) % 2 + x % 2 ≡ 1 = omega arith in
    bit_zero ((2 ^ suc w - 1) - x) ∙ not_digit (((2 ^ suc w - 1) - x) % 2) (x % 2) e ∙ ap not (sym (bit_zero x))
bit_not (suc w) x (suc k) hx hk =
    let p : 2 ^ suc w ≡ 2 ^ w * 2 = pow-suc 2 w in
    let e : ((2 ^ suc w - 1) - x) / 2 ≡ (2 ^ w - 1) - x / 2 = omega arith in
    bit_suc ((2 ^ suc w - 1) - x) k ∙ ap (λ (y : ℕ). bit y k) e
    ∙ bit_not w (x / 2) k (omega arith) (omega arith) ∙ ap not (sym (bit_suc x k))

-- 0 has no bit.
pub bit_none : (k : ℕ) → bit 0 k ≡ false
bit_none zero = bit_zero 0
bit_none (suc k) = bit_suc 0 k ∙ bit_none k

-- 2^j has bit j alone.
pub bit_pow : (j k : ℕ) → bit (2 ^ j) k ≡ eqb k j
bit_pow zero zero = bit_zero 1
bit_pow zero (suc k) = bit_suc 1 k ∙ bit_none k ∙ sym (eqb-suc-zero k)
bit_pow (suc j) zero =
    let p : 2 ^ suc j ≡ 2 ^ j * 2 = pow-suc 2 j in
    let e : 2 ^ suc j % 2 ≡ 0 = omega arith in
    bit_zero (2 ^ suc j) ∙ ap (λ (y : ℕ). eqb y 1) e ∙ sym (eqb-zero-suc j)
bit_pow (suc j) (suc k) =
    let p : 2 ^ suc j ≡ 2 ^ j * 2 = pow-suc 2 j in
    let e : 2 ^ suc j / 2 ≡ 2 ^ j = omega arith in
    bit_suc (2 ^ suc j) k ∙ ap (λ (y : ℕ). bit y k) e ∙ bit_pow j k ∙ sym (eqb-suc-suc k j)

-- `1u64 << k` is 2^k.
pub shifted_one : (k : ℕ) → k < 64 → 1 * 2 ^ k % 2 ^ 64 ≡ 2 ^ k
shifted_one k h =
    let e : 1 * 2 ^ k ≡ 2 ^ k = omega arith in
    ap (λ (x : ℕ). x % 2 ^ 64) e ∙ mod-eq_of_lt (pow-lt h)

-- The digit of a test.
abbrev num : Bool → ℕ
num b = if b then 1 else 0

-- It is 0 or 1.
num_lt : (b : Bool) → num b < 2
num_lt true = omega arith
num_lt false = omega arith

-- The test of the digit of a test.
num_test : (b : Bool) → eqb (num b) 1 ≡ b
num_test true = refl
num_test false = refl

-- The digit of the test of a digit.
test_num : (d : ℕ) → d < 2 → num (eqb d 1) ≡ d
test_num zero h = refl
test_num (suc zero) h = refl
test_num (suc (suc d)) h = absurd (omega arith)

-- The lowest bit as a number.
low_digit : (x : ℕ) → num (bit x zero) ≡ x % 2
low_digit x = ap num (bit_zero x) ∙ test_num (x % 2) (omega arith)

-- Two words of w bits are equal where their bits are.
pub bits_equal : (w x y : ℕ) → x < 2 ^ w → y < 2 ^ w → ((k : ℕ) → k < w → bit x k ≡ bit y k) → x ≡ y
bits_equal zero x y hx hy h = omega arith
bits_equal (suc w) x y hx hy h =
    let p : 2 ^ suc w ≡ 2 ^ w * 2 = pow-suc 2 w in
    let low : x % 2 ≡ y % 2 = sym (low_digit x) ∙ ap num (h zero (omega arith)) ∙ low_digit y in
    let up : x / 2 ≡ y / 2 =
    bits_equal w (x / 2) (y / 2) (omega arith) (omega arith)
    (λ k hk. sym (bit_suc x k) ∙ h (suc k) (omega arith) ∙ bit_suc y k) in
    omega arith

-- `a | b` is 0 only where both are.
pub or_none : (a b : ℕ) → bit_or a b ≡ 0 → (a ≡ 0) × (b ≡ 0)
or_none a b e = omega (arith, or_add_and a b, and_le_l a b, and_le_r a b)

-- The word of w bits that a test gives is below 2^w.
pub word_lt : (w : ℕ) (test : ℕ → Bool) → word_of w test < 2 ^ w
unfolding word_of
word_lt zero test = omega arith
word_lt (suc w) test =
    let e : 2 ^ suc w ≡ 2 ^ w * 2 = pow-suc 2 w in
    let h : word_of w (λ k. test (suc k)) < 2 ^ w = word_lt w (λ k. test (suc k)) in
    let b : num (test 0) < 2 = num_lt (test 0) in
    omega arith

-- Its bit k is the test of k.
pub word_bit : (w : ℕ) (test : ℕ → Bool) (k : ℕ) → k < w → bit (word_of w test) k ≡ test k
unfolding word_of
word_bit zero test k h = absurd (omega arith)
word_bit (suc w) test zero h =
    let b : num (test 0) < 2 = num_lt (test 0) in
    let e : (num (test 0) + word_of w (λ k. test (suc k)) * 2) % 2 ≡ num (test 0) = omega arith in
    bit_zero (num (test 0) + word_of w (λ k. test (suc k)) * 2) ∙ ap (λ (x : ℕ). eqb x 1) e ∙ num_test (test 0)
word_bit (suc w) test (suc k) h =
    let b : num (test 0) < 2 = num_lt (test 0) in
    let e : (num (test 0) + word_of w (λ k. test (suc k)) * 2) / 2 ≡ word_of w (λ k. test (suc k)) = omega arith in
    bit_suc (num (test 0) + word_of w (λ k. test (suc k)) * 2) k ∙ ap (λ (x : ℕ). bit x k) e ∙ word_bit w (λ k. test (suc k)) k (omega arith)

-- The zeros below the lowest set bit: none of an odd word, of an even one those of the half and one more.
trailing_odd : (w x : ℕ) → x % 2 ≡ 1 → count_trailing_zeros (suc w) x ≡ 0
unfolding count_trailing_zeros
trailing_odd w x e = rw e

trailing_even : (w x : ℕ) → x % 2 ≡ 0 → count_trailing_zeros (suc w) x ≡ suc (count_trailing_zeros w (x / 2))
unfolding count_trailing_zeros
trailing_even w x e = rw e

-- A word other than 0, of w bits, has a lowest set bit: so many zeros are below it.
pub lowest_set : (w x : ℕ) → (x ≡ 0 → ⊥) → x < 2 ^ w → (count_trailing_zeros w x < w) × (bit x (count_trailing_zeros w x) ≡ true)
lowest_set zero x n h = absurd (n (omega arith))
lowest_set (suc w) x n h = go (x % 2) refl (λ m. lowest_set w (x / 2) m (omega (arith, pow-suc 2 w)))
  where
    go : (d : ℕ) → x % 2 ≡ d → ((x / 2 ≡ 0 → ⊥) → (count_trailing_zeros w (x / 2) < w) × (bit (x / 2) (count_trailing_zeros w (x / 2)) ≡ true))
        → (count_trailing_zeros (suc w) x < suc w) × (bit x (count_trailing_zeros (suc w) x) ≡ true)
    go zero e half =
        let r = half (λ z. n (omega arith)) in
        rw (trailing_even w x e) (omega arith, bit_suc x (count_trailing_zeros w (x / 2)) ∙ r.1)
    go (suc zero) e half = rw (trailing_odd w x e) (omega arith, bit_zero x ∙ ap (λ (d : ℕ). eqb d 1) e)
    go (suc (suc d)) e half = absurd (omega arith)

-- A test joined with itself.
and_same : (b : Bool) → (b && b) ≡ (b && true)
and_same true = refl
and_same false = refl

-- One less clears it, and keeps the bits above it.
below_lowest : (w x k : ℕ) → (x ≡ 0 → ⊥) → x < 2 ^ w → (bit x k && bit (x - 1) k) ≡ (bit x k && not (eqb k (count_trailing_zeros w x)))
below_lowest zero x k n h = absurd (n (omega arith))
below_lowest (suc w) x k n h = go (x % 2) refl k (λ j m. below_lowest w (x / 2) j m (omega (arith, pow-suc 2 w)))
  where
    go : (d : ℕ) → x % 2 ≡ d → (k : ℕ)
        → ((j : ℕ) → (x / 2 ≡ 0 → ⊥) → (bit (x / 2) j && bit (x / 2 - 1) j) ≡ (bit (x / 2) j && not (eqb j (count_trailing_zeros w (x / 2)))))
        → (bit x k && bit (x - 1) k) ≡ (bit x k && not (eqb k (count_trailing_zeros (suc w) x)))
    go zero e zero half = rw (bit_zero x, e)
    go zero e (suc k) half =
        let u : (x - 1) / 2 ≡ x / 2 - 1 = omega arith in
        rw (bit_suc x k, bit_suc (x - 1) k, u, trailing_even w x e, eqb-suc-suc) (half k (λ z. n (omega arith)))
    go (suc zero) e zero half =
        let u : (x - 1) % 2 ≡ 0 = omega arith in
        rw (bit_zero x, bit_zero (x - 1), e, u, trailing_odd w x e)
    go (suc zero) e (suc k) half =
        let u : (x - 1) / 2 ≡ x / 2 = omega arith in
        rw (bit_suc x k, bit_suc (x - 1) k, u, trailing_odd w x e, eqb-suc-zero) (and_same (bit (x / 2) k))
    go (suc (suc d)) e k half = absurd (omega arith)

-- `x & (x - 1)` is x without its lowest set bit, and so less than x.
pub bit_cleared : (x k : ℕ) → (x ≡ 0 → ⊥) → x < 2 ^ 64 → bit (bit_and x (x - 1)) k ≡ (bit x k && not (eqb k (count_trailing_zeros 64 x)))
bit_cleared x k n h = bit_of_and x (x - 1) k ∙ below_lowest 64 x k n h

pub cleared_less : (x : ℕ) → (x ≡ 0 → ⊥) → bit_and x (x - 1) < x
cleared_less x n = omega (arith, and_le_r x (x - 1))
