-- Laws of the bits of packed fields: those of two bytes side by side, and the k bits that a field has there. Assumes nothing.
use Prim.Native.Nat.{ℕ, zero, suc, ◌+◌, ◌-◌, ◌*◌, ◌/◌, ◌%◌, ◌^◌, ◌≤◌, ◌<◌}
use mathlib.Core.Path.{◌≡◌, refl, sym, ap, ap₂, ◌∙◌}
use mathlib.Core.List.{List}
use native.Mathlib.Omega.{arith}
use native.Mathlib.Decide.{dec_lt}
use lib.ListN.{get_or}
use lib.Pow.{shl-shr, shr-shr, field, mod-mod-pow}
use Rattle.format.specs.Bits.{bit_at, bits_onto, bits_at}

-- A bit below the cut is not changed by it.
low_bit : (n w m : ℕ) → m < w → n % 2 ^ w / 2 ^ m % 2 ≡ n / 2 ^ m % 2
low_bit n w m h =
    let e : w ≡ suc (w - suc m) + m = omega arith in
    let f : suc (w - suc m) ≡ (w - suc m) + 1 = omega arith in
    ap (λ (x : ℕ). n % 2 ^ x / 2 ^ m % 2) e
    ∙ ap (λ (x : ℕ). x % 2) (field n (suc (w - suc m)) m)
    ∙ ap (λ (x : ℕ). n / 2 ^ m % 2 ^ x % 2) f
    ∙ mod-mod-pow (n / 2 ^ m) (w - suc m) 1

-- Byte i and the byte after it.
module _ (bytes : List ℕ) (i : ℕ) where
  -- The 16 bits of the two, side by side, are those from byte i on.
  pub window_bits : get_or bytes (i + 1) 0 < 256 → (q : ℕ) → q < 16 → (get_or bytes i 0 * 256 + get_or bytes (i + 1) 0) / 2 ^ (15 - q) % 2 ≡ bit_at bytes (8 * i + q)
  unfolding bit_at
  window_bits small q h = go (dec_lt q 8)
    where
      a : ℕ
      a = get_or bytes i 0

      b : ℕ
      b = get_or bytes (i + 1) 0

      n : ℕ
      n = a * 256 + b

      go : Dec (q < 8) → n / 2 ^ (15 - q) % 2 ≡ get_or bytes ((8 * i + q) / 8) 0 / 2 ^ (7 - (8 * i + q) % 8) % 2
      go (yes l) =
          let d : i ≡ (8 * i + q) / 8 = omega arith in
          let m : 7 - q ≡ 7 - (8 * i + q) % 8 = omega arith in
          let e : 15 - q ≡ 8 + (7 - q) = omega arith in
          let f : n / 2 ^ 8 ≡ a = omega arith in
          ap (λ (x : ℕ). n / 2 ^ x % 2) e ∙ ap (λ (x : ℕ). x % 2) (sym (shr-shr n 8 (7 - q)))
          ∙ ap (λ (x : ℕ). x / 2 ^ (7 - q) % 2) f ∙ ap₂ (λ (x y : ℕ). get_or bytes x 0 / 2 ^ y % 2) d m
      go (no l) =
          let d : i + 1 ≡ (8 * i + q) / 8 = omega arith in
          let m : 15 - q ≡ 7 - (8 * i + q) % 8 = omega arith in
          let f : n % 2 ^ 8 ≡ b = omega arith in
          sym (low_bit n 8 (15 - q) (omega arith)) ∙ ap (λ (x : ℕ). x / 2 ^ (15 - q) % 2) f
          ∙ ap₂ (λ (x y : ℕ). get_or bytes x 0 / 2 ^ y % 2) d m

-- One bit more doubles the number and is added.
onto_more : (bytes : List ℕ) (high p k : ℕ) → bits_onto bytes high p (suc k) ≡ bits_onto bytes high p k * 2 + bit_at bytes (p + k)
unfolding bits_onto
onto_more bytes high p zero = let e : p ≡ p + 0 = omega arith in ap (λ (x : ℕ). high * 2 + bit_at bytes x) e
onto_more bytes high p (suc k) =
    let e : p + 1 + k ≡ p + suc k = omega arith in
    onto_more bytes (high * 2 + bit_at bytes p) (p + 1) k ∙ ap (λ (x : ℕ). bits_onto bytes (high * 2 + bit_at bytes p) (p + 1) k * 2 + bit_at bytes x) e

bits_more : (bytes : List ℕ) (p k : ℕ) → bits_at bytes p (suc k) ≡ bits_at bytes p k * 2 + bit_at bytes (p + k)
unfolding bits_at
bits_more bytes p k = onto_more bytes 0 p k

bits_none : (bytes : List ℕ) (p : ℕ) → bits_at bytes p 0 ≡ 0
unfolding bits_at bits_onto
bits_none bytes p = refl

-- A number w whose 16 bits are those from the byte of position p on.
module _ (bytes : List ℕ) (p w : ℕ) (window : (q : ℕ) → q < 16 → w / 2 ^ (15 - q) % 2 ≡ bit_at bytes (8 * (p / 8) + q)) where
  -- The bits before p shifted out of it.
  abbrev pub cut : ℕ
  cut = w * 2 ^ (p % 8) % 2 ^ 64 % 2 ^ 16

  -- Its bits, from the top, are those from p on.
  one_bit : (k : ℕ) → k < 8 → cut / 2 ^ (15 - k) % 2 ≡ bit_at bytes (p + k)
  one_bit k h =
      let e : 15 - k ≡ p % 8 + (15 - (p % 8 + k)) = omega arith in
      let at : 8 * (p / 8) + (p % 8 + k) ≡ p + k = omega arith in
      low_bit (w * 2 ^ (p % 8) % 2 ^ 64) 16 (15 - k) (omega arith)
      ∙ low_bit (w * 2 ^ (p % 8)) 64 (15 - k) (omega arith)
      ∙ ap (λ (x : ℕ). w * 2 ^ (p % 8) / 2 ^ x % 2) e
      ∙ ap (λ (x : ℕ). x % 2) (sym (shr-shr (w * 2 ^ (p % 8)) (p % 8) (15 - (p % 8 + k))))
      ∙ ap (λ (x : ℕ). x / 2 ^ (15 - (p % 8 + k)) % 2) (shl-shr w (p % 8))
      ∙ window (p % 8 + k) (omega arith)
      ∙ ap (bit_at bytes) at

  -- Its top k bits, at most 8, are the field of k bits at p.
  pub window_field : (k : ℕ) → k ≤ 8 → cut / 2 ^ (16 - k) ≡ bits_at bytes p k
  window_field zero h = omega (arith, bits_none bytes p)
  window_field (suc k) h =
      let e : 15 - k ≡ 16 - suc k = omega arith in
      let f : (15 - k) + 1 ≡ 16 - k = omega arith in
      let half : cut / 2 ^ (15 - k) / 2 ≡ cut / 2 ^ (16 - k) = shr-shr cut (15 - k) 1 ∙ ap (λ (x : ℕ). cut / 2 ^ x) f in
      let g : cut / 2 ^ (15 - k) ≡ bits_at bytes p k * 2 + bit_at bytes (p + k) = omega (arith, window_field k (omega arith), one_bit k (omega arith)) in
      ap (λ (x : ℕ). cut / 2 ^ x) (sym e) ∙ g ∙ sym (bits_more bytes p k)
