-- Laws of a reader of a sheet, by what the code packs. Assumes nothing.
use Prim.Native.Nat.{ℕ, ◌≤◌}
use mathlib.Core.Path.{◌≡◌, sym, ap, ◌∙◌}
use mathlib.Core.List.{List}
use mathlib.Core.Bool.{Bool, true, false}
use native.Mathlib.Omega.{arith}
use borrow.Author.Tests.{le-leb}
use lib.Dec.{leb}
use lib.ListN.{length}
use Rattle.std.specs.Prelude.{if◌then◌else◌}
use Rattle.format.specs.Format.{gives, refused, fault, Reader, most_bytes, of_sheet}
use Rattle.reader.specs.Answers.{packed}

-- The bytes that are packed are the bytes.
pub packed_is : (bytes : List ℕ) {kept : List ℕ} → gives kept ≡ packed bytes → kept ≡ bytes
unfolding packed
packed_is bytes {kept} e = go (leb (length bytes) most_bytes) e
  where
    go : (b : Bool) → gives kept ≡ (if b then gives bytes else refused 1) → kept ≡ bytes
    go true f = cc
    go false f = let z : ◌≡◌ {A = ℕ} 0 1 = cc in absurd (omega arith)

module _ {A : Type 0} (m : Reader A) (bytes : List ℕ) (p : ℕ) where
  -- Bytes that are few enough are read,
  pub packed_given : {kept : List ℕ} → gives kept ≡ packed bytes → m kept p ≡ of_sheet m bytes p
  unfolding packed of_sheet
  packed_given {kept} e = go (leb (length bytes) most_bytes) e
    where
      go : (b : Bool) → gives kept ≡ (if b then gives bytes else refused 1) → m kept p ≡ (if b then m bytes p else fault 1)
      go true f = let same : kept ≡ bytes = cc in ap (λ (x : List ℕ). m x p) same
      go false f = let z : ◌≡◌ {A = ℕ} 0 1 = cc in absurd (omega arith)

  -- and of others the refusal stands.
  pub packed_refused : {k : ℕ} → refused k ≡ packed bytes → fault k ≡ of_sheet m bytes p
  unfolding packed of_sheet
  packed_refused {k} e = go (leb (length bytes) most_bytes) e
    where
      go : (b : Bool) → refused k ≡ (if b then gives bytes else refused 1) → fault k ≡ (if b then m bytes p else fault 1)
      go true f = let z : ◌≡◌ {A = ℕ} 0 1 = cc in absurd (omega arith)
      go false f = let same : k ≡ 1 = cc in ap fault same

  -- Packed bytes are a sheet's.
  pub packed_sheet : {kept : List ℕ} → gives kept ≡ packed bytes → m kept p ≡ of_sheet m kept p
  packed_sheet e = packed_given e ∙ ap (λ (x : List ℕ). of_sheet m x p) (sym (packed_is bytes e))

  -- So are all that are few enough.
  pub few_sheet : {kept : List ℕ} → kept ≡ bytes → length bytes ≤ most_bytes → of_sheet m kept p ≡ m bytes p
  unfolding of_sheet
  few_sheet {kept} same few = ap (λ (x : List ℕ). of_sheet m x p) same ∙ rw (le-leb (length bytes) most_bytes few)
