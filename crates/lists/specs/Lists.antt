-- Lists of numbers, tests over lists, order, and what is written into a list. Nothing here is of document 01; its definitions are written with these.
use Rattle.std.specs.Prelude.{if◌then◌else◌, ℕ, zero, suc, ◌+◌, ◌<◌, ◌≡◌, ◌⊎◌, Bool, true, false, ◌&&◌, ◌||◌, set}
use mathlib.Core.List.{List, [], ◌∷◌, Memᴰ}

-- k numbers from a on: a, a + 1, ..
unfoldable pub up_from : (a k : ℕ) → List ℕ
up_from a zero = []
up_from a (suc k) = a ∷ up_from (suc a) k

-- The numbers below k, in order.
abbrev pub below : ℕ → List ℕ
below k = up_from 0 k

module _ {A : Type 0} where
  -- Whether every element passes a test, and whether there is one that does.
  unfoldable pub every : (A → Bool) → List A → Bool
  every test [] = true
  every test (x ∷ xs) = test x && every test xs

  unfoldable pub exists : (A → Bool) → List A → Bool
  exists test [] = false
  exists test (x ∷ xs) = test x || exists test xs

  -- The elements that pass a test, in order.
  unfoldable pub keep : (A → Bool) → List A → List A
  keep test [] = []
  keep test (x ∷ xs) = if test x then x ∷ keep test xs else keep test xs

  -- The elements up to and including the first that passes a test; all of them if none does.
  unfoldable pub up_to : (A → Bool) → List A → List A
  up_to test [] = []
  up_to test (x ∷ xs) = if test x then x ∷ [] else x ∷ up_to test xs

  -- Whether a list has an element.
  unfoldable pub nonempty : List A → Bool
  nonempty [] = false
  nonempty (x ∷ xs) = true

  -- Each element stands in relation to all that follow it: a list in order, without repetition if nothing stands in relation to itself.
  unfoldable pub Sorted : (A → A → Type 0) → List A → Type 0
  Sorted R [] = Unit {0}
  Sorted R (x ∷ xs) = ((y : A) → Memᴰ y xs → R x y) × Sorted R xs

-- The order of lists of numbers in which the first difference decides; a list stands before its extensions.
unfoldable pub Before : List ℕ → List ℕ → Type 0
Before [] [] = ⊥
Before [] (y ∷ ys) = Unit {0}
Before (x ∷ xs) [] = ⊥
Before (x ∷ xs) (y ∷ ys) = (x < y) ⊎ ((x ≡ y) × Before xs ys)

-- Numbers written into a memory from place i on, one after the other; the others keep their values.
unfoldable pub write : (memory : List ℕ) (i : ℕ) (numbers : List ℕ) → List ℕ
write memory i [] = memory
write memory i (x ∷ xs) = write (set memory i x) (i + 1) xs

-- Numbers below a bound.
unfoldable pub AllUnder : (bound : ℕ) → List ℕ → Type 0
AllUnder bound [] = Unit {0}
AllUnder bound (x ∷ xs) = (x < bound) × AllUnder bound xs
