-- Laws of the printed decimal numbers of specs/Printing.antt: their digits, and the number that they say. Assumes nothing.
use Prim.Native.Nat.{ℕ, zero, suc, ◌+◌, ◌-◌, ◌*◌, ◌/◌, ◌%◌, ◌≤◌, ◌<◌}
use mathlib.Core.Path.{◌≡◌, refl, ap}
use mathlib.Core.List.{List, [], ◌∷◌, ◌++◌}
use mathlib.Core.Bool.{Bool, true, false}
use native.Mathlib.Omega.{arith}
use lib.Dec.{ltb}
use borrow.Author.Tests.{ltb-true, ltb-false, lt-ltb, le-ltb}
use Rattle.std.specs.Prelude.{if◌then◌else◌}
use Rattle.semantics.specs.Printing.{digit, decimal_within, decimal}

-- The bound on the digits doesn't matter above the number.
within_same : (d e n : ℕ) → n < d → n < e → decimal_within d n ≡ decimal_within e n
unfolding decimal_within
within_same zero e n h i = absurd (omega arith)
within_same (suc d) zero n h i = absurd (omega arith)
within_same (suc d) (suc e) n h i = go (ltb n 10) refl (λ m. within_same d e (n / 10) (omega (arith, m)) (omega (arith, m)))
  where
    go : (b : Bool) → ltb n 10 ≡ b → (10 ≤ n → decimal_within d (n / 10) ≡ decimal_within e (n / 10))
        → (if b then [] else decimal_within d (n / 10)) ++ (digit (n % 10) ∷ []) ≡ (if b then [] else decimal_within e (n / 10)) ++ (digit (n % 10) ∷ [])
    go true t below = refl
    go false t below = rw (below (ltb-false n 10 t))

-- A number below 10 is its digit.
pub decimal_small : (n : ℕ) → n < 10 → decimal n ≡ digit n ∷ []
unfolding decimal decimal_within
decimal_small n h = let e : n % 10 ≡ n = omega arith in rw (e, lt-ltb n 10 h)

-- Any other is the decimal of its tenth, and the digit of what is left.
pub decimal_more : (n : ℕ) → 10 ≤ n → decimal n ≡ decimal (n / 10) ++ (digit (n % 10) ∷ [])
unfolding decimal decimal_within
decimal_more n h = rw (le-ltb n 10 h) (ap (λ (ds : List ℕ). ds ++ (digit (n % 10) ∷ [])) (within_same n (suc (n / 10)) (n / 10) (omega arith) (omega arith)))

-- The number that decimal digits say, the high digits first: each digit multiplies what stands before it, `high`, by ten, and is added.
unfoldable pub value_onto : (high : ℕ) (digits : List ℕ) → ℕ
value_onto high [] = high
value_onto high (b ∷ rest) = value_onto (high * 10 + (b - 0x30)) rest

unfoldable pub value_of : (digits : List ℕ) → ℕ
unfolding value_onto
value_of digits = value_onto 0 digits

-- A digit more at the end.
value_last : (high : ℕ) (ds : List ℕ) (b : ℕ) → value_onto high (ds ++ (b ∷ [])) ≡ value_onto high ds * 10 + (b - 0x30)
unfolding value_onto
value_last high [] b = refl
value_last high (c ∷ ds) b = value_last (high * 10 + (c - 0x30)) ds b

-- A decimal digit says its number.
digit_value : (d : ℕ) → d < 10 → digit d - 0x30 ≡ d
unfolding digit
digit_value d h = rw (lt-ltb d 10 h) (omega arith)

-- The decimal of a number below d says the number.
value_below : (d n : ℕ) → n < d → value_of (decimal n) ≡ n
unfolding value_of
value_below zero n h = absurd (omega arith)
value_below (suc d) n h = go (ltb n 10) refl (λ m. value_below d (n / 10) (omega (arith, m)))
  where
    go : (b : Bool) → ltb n 10 ≡ b → (10 ≤ n → value_onto 0 (decimal (n / 10)) ≡ n / 10) → value_onto 0 (decimal n) ≡ n
    go true t below = let l = ltb-true n 10 t in rw (decimal_small n l) (omega (arith, digit_value n l))
    go false t below =
        let l = ltb-false n 10 t in
        rw (decimal_more n l) (omega (arith, value_last 0 (decimal (n / 10)) (digit (n % 10)), below l, digit_value (n % 10) (omega arith)))

-- A number's decimal says the number.
pub decimal_value : (n : ℕ) → value_of (decimal n) ≡ n
decimal_value n = value_below (suc n) n (omega arith)
