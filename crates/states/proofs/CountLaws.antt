-- The states of a set are as many as the ones of its words; a word without its lowest set bit has one fewer. Assumes nothing.
use Prim.Native.Nat.{ℕ, zero, suc, ◌+◌, ◌-◌, ◌*◌, ◌/◌, ◌%◌, ◌^◌, ◌≤◌, ◌<◌, min}
use mathlib.Core.Path.{◌≡◌, refl, sym, ap, ap₂, subst, ◌∙◌}
use mathlib.Core.Bool.{Bool}
use mathlib.Core.List.{List, ◌++◌}
use native.Mathlib.Nat.{pow-suc}
use native.Mathlib.Omega.{arith}
use lib.Dec.{eqb}
use lib.ListN.{length}
use lib.Count.{ones, ones_step, ones_cat}
use lib.Bits.{bit_and, and_step, and_self}
use Rattle.lists.specs.Lists.{up_from, below, keep}
use Rattle.lists.proofs.ListLaws.{kept_length, kept_most, up_from_length, up_from_append}
use Rattle.states.specs.declared.States.{States}
use Rattle.states.specs.Sets.{bit, member, members}
use Rattle.states.proofs.BitLaws.{bit_zero, bit_suc}
use Rattle.states.proofs.SetLaws.{Fitting, in_word}

-- A word's ones are as many as the numbers of a range that pass a test which its bits tell.
ones_kept : (w x a : ℕ) (test : ℕ → Bool) → x < 2 ^ w → ((k : ℕ) → k < w → test (a + k) ≡ bit x k) → length (keep test (up_from a w)) ≡ ones x
unfolding keep up_from ones
ones_kept zero x a test h same = let e : x ≡ 0 = omega arith in rw e
ones_kept (suc w) x a test h same =
    go (x % 2) refl (let e : a + 0 ≡ a = omega arith in ap test (sym e) ∙ same 0 (omega arith) ∙ bit_zero x)
    (ones_kept w (x / 2) (suc a) test (omega (arith, pow-suc 2 w))
    (λ k l. let e : suc a + k ≡ a + suc k = omega arith in ap test e ∙ same (suc k) (omega arith) ∙ bit_suc x k))
  where
    go : (d : ℕ) → x % 2 ≡ d → test a ≡ eqb (x % 2) 1 → length (keep test (up_from (suc a) w)) ≡ ones (x / 2) → length (keep test (up_from a (suc w))) ≡ ones x
    go zero e first later = rw (first, e) (later ∙ omega (arith, ones_step x))
    go (suc zero) e first later = rw (first, e) (omega (arith, ones_step x, later))
    go (suc (suc d)) e first later = absurd (omega arith)

-- The states of a set, word by word.
module _ (set : States) where
  pub members_ones : Fitting set → length (members set) ≡ ones set.w0 + ones set.w1 + (ones set.w2 + ones set.w3)
  unfolding members
  members_ones fit =
      ap (λ (l : List ℕ). length (keep (member set) l)) parts ∙ kept_length (member set) (up_from 0 64 ++ up_from 64 64) (up_from 128 64 ++ up_from 192 64)
      ∙ ap₂ (λ (x y : ℕ). x + y)
      (kept_length (member set) (up_from 0 64) (up_from 64 64) ∙ ap₂ (λ (x y : ℕ). x + y) (one 0 set.w0 fit.0 (λ k l. in_word set 0 k l)) (one 1 set.w1 fit.1 (λ k l. in_word set 1 k l)))
      (kept_length (member set) (up_from 128 64) (up_from 192 64) ∙ ap₂ (λ (x y : ℕ). x + y) (one 2 set.w2 fit.2 (λ k l. in_word set 2 k l)) (one 3 set.w3 fit.3 (λ k l. in_word set 3 k l)))
    where
      parts : below 256 ≡ (up_from 0 64 ++ up_from 64 64) ++ (up_from 128 64 ++ up_from 192 64)
      parts = up_from_append 0 128 128 ∙ ap₂ (λ (x y : List ℕ). x ++ y) (up_from_append 0 64 64) (up_from_append 128 64 64)

      one : (i x : ℕ) → x < 2 ^ 64 → ((k : ℕ) → k < 64 → member set (i * 64 + k) ≡ bit x k) → length (keep (member set) (up_from (i * 64) 64)) ≡ ones x
      one i x l same = ones_kept 64 x (i * 64) (member set) l same

-- A set has at most 256.
pub members_most : (set : States) → length (members set) ≤ 256
unfolding members
members_most set = subst (λ (n : ℕ). length (keep (member set) (below 256)) ≤ n) (up_from_length 0 256) (kept_most (member set) (below 256))

-- Twice a number has as many ones.
ones_double : (y : ℕ) → ones (y * 2) ≡ ones y
unfolding ones
ones_double y = let e : y * 2 ≡ y * 2 ^ 1 + 0 = omega arith in ap ones e ∙ ones_cat 1 y 0 (omega arith) ∙ omega arith

-- A word without its lowest set bit has one fewer.
pub ones_cleared : (w x : ℕ) → (x ≡ 0 → ⊥) → x < 2 ^ w → ones (bit_and x (x - 1)) + 1 ≡ ones x
ones_cleared zero x n h = absurd (n (omega arith))
ones_cleared (suc w) x n h = go (x % 2) refl (λ m. ones_cleared w (x / 2) m (omega (arith, pow-suc 2 w)))
  where
    go : (d : ℕ) → x % 2 ≡ d → ((x / 2 ≡ 0 → ⊥) → ones (bit_and (x / 2) (x / 2 - 1)) + 1 ≡ ones (x / 2)) → ones (bit_and x (x - 1)) + 1 ≡ ones x
    go zero e half =
        let u : (x - 1) / 2 ≡ x / 2 - 1 = omega arith in
        let v : (x - 1) % 2 ≡ 1 = omega arith in
        let a : bit_and x (x - 1) ≡ bit_and (x / 2) (x / 2 - 1) * 2 =
        and_step x (x - 1) ∙ ap₂ (λ (p q : ℕ). bit_and (x / 2) p * 2 + min q ((x - 1) % 2)) u e ∙ ap (λ (q : ℕ). bit_and (x / 2) (x / 2 - 1) * 2 + min 0 q) v ∙ omega arith in
        omega (arith, ap ones a ∙ ones_double (bit_and (x / 2) (x / 2 - 1)), half (λ z. n (omega arith)), ones_step x)
    go (suc zero) e half =
        let u : (x - 1) / 2 ≡ x / 2 = omega arith in
        let v : (x - 1) % 2 ≡ 0 = omega arith in
        let a : bit_and x (x - 1) ≡ x / 2 * 2 =
        and_step x (x - 1) ∙ ap₂ (λ (p q : ℕ). bit_and (x / 2) p * 2 + min (x % 2) q) u v ∙ ap₂ (λ (p q : ℕ). p * 2 + min q 0) (and_self (x / 2)) e ∙ omega arith in
        omega (arith, ap ones a ∙ ones_double (x / 2), ones_step x)
    go (suc (suc d)) e half = absurd (omega arith)
