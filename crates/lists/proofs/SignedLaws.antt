-- Laws of a signed number of 64 bits as code tests it, read back from the bits of a local. Assumes nothing.
use mathlib.Core.Path.{◌≡◌, refl, sym, ap, subst, ◌∙◌}
use mathlib.Core.Bool.{Bool, false}
use lib.Dec.{T}
use lib.IntN.{ℤ, pos, negsuc, nat_abs}
use lib.Signed.{lt_z, non_neg}
use mir.Syntax.{w64}
use mir.Val.{SFits, Fits, of_z, to_z}
use mir.ValLaws.{of_z_fits, to_z-of_z}
use Rattle.lists.proofs.ListLaws.{not_both}

fitting : (z : ℤ) → SFits w64 z → lt_z z (pos 0) ≡ false → T (non_neg z) × Fits w64 (nat_abs z)
fitting (pos n) f l = (tt, of_z_fits w64 (pos n) f)
fitting (negsuc k) f l = not_both refl l

abbrev pub held : ℤ → ℤ
held z = to_z w64 (of_z w64 z)

module _ (z : ℤ) (f : SFits w64 z) where
  pub held_same : held z ≡ z
  held_same = to_z-of_z w64 z f

  -- Whether it is below 0, and that it fits if it isn't.
  pub held_below : (b : Bool) → lt_z (held z) (pos 0) ≡ b → lt_z z (pos 0) ≡ b
  held_below b t = sym (ap (λ (y : ℤ). lt_z y (pos 0)) held_same) ∙ t

  pub held_fits : lt_z (held z) (pos 0) ≡ false → T (non_neg (held z)) × Fits w64 (nat_abs (held z))
  held_fits l = subst (λ (y : ℤ). T (non_neg y) × Fits w64 (nat_abs y)) (sym held_same) (fitting z f (held_below false l))
