-- Laws of order: lists in order, the first element that passes a test, and the order of lists of numbers. Assumes nothing.
use Prim.Native.Nat.{ℕ, zero, suc, ◌<◌}
use mathlib.Core.Path.{◌≡◌, refl, sym, ap, subst, ◌∙◌}
use mathlib.Core.List.Memᴰ
use mathlib.Core.List.{List, [], ◌∷◌, ◌++◌, map, flat_map, Memᴰ}
use mathlib.Core.Logic.{◌⊎◌, inl, inr, ⊎_elim}
use mathlib.Core.Bool.{Bool, true, false}
use native.Mathlib.Omega.{arith}
use Rattle.lists.specs.Lists.{up_from, keep, up_to, Sorted, Before}
use Rattle.std.specs.Prelude.{if◌then◌else◌}
use Rattle.lists.proofs.ListLaws.{not_both, keep_mem, flat_mem, up_from_mem}

-- What stands up to the first element that passes a test stands in the list.
pub up_to_mem : {A : Type 0} (test : A → Bool) {a : A} (xs : List A) → Memᴰ a (up_to test xs) → Memᴰ a xs
unfolding up_to
up_to_mem test [] m = m
up_to_mem {A} test {a} (x ∷ xs) m = go (test x) (λ k. up_to_mem test xs k) m
  where
    go : (b : Bool) → (Memᴰ a (up_to test xs) → Memᴰ a xs) → Memᴰ a (if b then x ∷ [] else x ∷ up_to test xs) → Memᴰ a (x ∷ xs)
    go true d k = ⊎_elim (λ (p : a ≡ x). Memᴰ.head p) (λ j. absurd (Memᴰ.not-nil j)) (Memᴰ.cases_cons k)
    go false d k = ⊎_elim (λ (p : a ≡ x). Memᴰ.head p) (λ j. Memᴰ.tail (d j)) (Memᴰ.cases_cons k)

module _ {A : Type 0} (R : A → A → Type 0) where
  pub sorted_append : (xs ys : List A) → Sorted R xs → Sorted R ys → ((x y : A) → Memᴰ x xs → Memᴰ y ys → R x y) → Sorted R (xs ++ ys)
  unfolding Sorted
  sorted_append [] ys p q h = q
  sorted_append (x ∷ xs) ys p q h = (
    λ y m. ⊎_elim (λ k. p.0 y k) (λ k. h x y (Memᴰ.head refl) k) (Memᴰ.append_cases xs m),
    sorted_append xs ys p.1 q (λ a b m k. h a b (Memᴰ.tail m) k),
  )

  pub sorted_keep : (test : A → Bool) (xs : List A) → Sorted R xs → Sorted R (keep test xs)
  unfolding Sorted keep
  sorted_keep test [] p = tt
  sorted_keep test (x ∷ xs) p = go (test x) (λ y m. p.0 y (keep_mem test xs m).0) (sorted_keep test xs p.1)
    where
      go : (b : Bool) → ((y : A) → Memᴰ y (keep test xs) → R x y) → Sorted R (keep test xs) → Sorted R (if b then x ∷ keep test xs else keep test xs)
      go true h q = (h, q)
      go false h q = q

  pub sorted_up_to : (test : A → Bool) (xs : List A) → Sorted R xs → Sorted R (up_to test xs)
  unfolding Sorted up_to
  sorted_up_to test [] p = tt
  sorted_up_to test (x ∷ xs) p = go (test x) (λ y m. p.0 y (up_to_mem test xs m)) (sorted_up_to test xs p.1)
    where
      go : (b : Bool) → ((y : A) → Memᴰ y (up_to test xs) → R x y) → Sorted R (up_to test xs) → Sorted R (if b then x ∷ [] else x ∷ up_to test xs)
      go true h q = (λ y m. absurd (Memᴰ.not-nil m), tt)
      go false h q = (h, q)

-- Numbers in order.
pub sorted_up_from : (a k : ℕ) → Sorted ◌<◌ (up_from a k)
unfolding Sorted up_from
sorted_up_from a zero = tt
sorted_up_from a (suc k) = (λ n m. (up_from_mem (suc a) k m).0, sorted_up_from (suc a) k)

-- Lists laid end to end are in order if each is, and if what stands in a list stands before what stands in a later one.
module _ {A B : Type 0} (R : A → A → Type 0) (Q : B → B → Type 0) where
  pub sorted_flat : (f : A → List B) (xs : List A) → Sorted R xs → ((a : A) → Sorted Q (f a)) → ((a b : A) → R a b → (x y : B) → Memᴰ x (f a) → Memᴰ y (f b) → Q x y)
      → Sorted Q (flat_map f xs)
  unfolding Sorted flat_map
  sorted_flat f [] p q h = tt
  sorted_flat f (a ∷ xs) p q h =
      sorted_append Q (f a) (flat_map f xs) (q a) (sorted_flat f xs p.1 q h)
      (λ x y m k. let r = flat_mem f xs k in h a r.0 (p.0 r.0 r.1) x y m r.2)

  pub sorted_map : (g : A → B) → ((a b : A) → R a b → Q (g a) (g b)) → (xs : List A) → Sorted R xs → Sorted Q (map g xs)
  unfolding Sorted
  sorted_map g h [] p = tt
  sorted_map g h (a ∷ xs) p = (
    λ y m. let r = Memᴰ.of_map g xs m in subst (λ (z : B). Q (g a) z) r.2 (h a r.0 (p.0 r.0 r.1)),
    sorted_map g h xs p.1,
  )

-- The elements of a list in order up to the first that passes a test are those that no passing element stands before.
module _ {A : Type 0} (R : A → A → Type 0) (test : A → Bool) where
  abbrev pub UpToPassing : List A → A → Type 0
  UpToPassing xs x = (y : A) → Memᴰ y xs → test y ≡ true → (x ≡ y) ⊎ R x y

  pub up_to_first : (xs : List A) → Sorted R xs → (x : A) → Memᴰ x (up_to test xs) → UpToPassing xs x
  unfolding up_to Sorted
  up_to_first [] s x m = absurd (Memᴰ.not-nil m)
  up_to_first (z ∷ zs) s x m = go (test z) refl (λ k. up_to_first zs s.1 x k) m
    where
      first : x ≡ z → (y : A) → (y ≡ z) ⊎ Memᴰ y zs → (x ≡ y) ⊎ R x y
      first e y (inl q) = inl (e ∙ sym q)
      first e y (inr k) = inr (subst (λ (a : A). R a y) (sym e) (s.0 y k))

      later : test z ≡ false → UpToPassing zs x → (y : A) → test y ≡ true → (y ≡ z) ⊎ Memᴰ y zs → (x ≡ y) ⊎ R x y
      later e h y t (inl q) = not_both t (ap test q ∙ e)
      later e h y t (inr k) = h y k t

      go : (b : Bool) → test z ≡ b → (Memᴰ x (up_to test zs) → UpToPassing zs x)
          → Memᴰ x (if b then z ∷ [] else z ∷ up_to test zs) → UpToPassing (z ∷ zs) x
      go true e d k y i t =
          ⊎_elim (λ (p : x ≡ z). first p y (Memᴰ.cases_cons i)) (λ j. absurd (Memᴰ.not-nil j)) (Memᴰ.cases_cons k)
      go false e d k y i t =
          ⊎_elim (λ (p : x ≡ z). first p y (Memᴰ.cases_cons i)) (λ j. later e (d j) y t (Memᴰ.cases_cons i)) (Memᴰ.cases_cons k)

  pub mem_up_to : ((x y : A) → R x y → R y x → ⊥) → (xs : List A) → Sorted R xs → (x : A) → Memᴰ x xs → UpToPassing xs x → Memᴰ x (up_to test xs)
  unfolding up_to Sorted
  mem_up_to asym [] s x m h = m
  mem_up_to asym (z ∷ zs) s x m h =
      go (test z) refl (λ k. mem_up_to asym zs s.1 x k (λ y j t. h y (Memᴰ.tail j) t)) (Memᴰ.cases_cons m)
    where
      go : (b : Bool) → test z ≡ b → (Memᴰ x zs → Memᴰ x (up_to test zs)) → (x ≡ z) ⊎ Memᴰ x zs → Memᴰ x (if b then z ∷ [] else z ∷ up_to test zs)
      go true e d (inl p) = Memᴰ.head p
      go true e d (inr k) =
          ⊎_elim (λ (p : x ≡ z). Memᴰ.head p) (λ r. absurd (asym x z r (s.0 x k))) (h z (Memᴰ.head refl) e)
      go false e d (inl p) = Memᴰ.head p
      go false e d (inr k) = Memᴰ.tail (d k)

-- The order of lists of numbers: it looks past a common beginning, and of two lists at most one stands before the other, so that none stands before itself.
pub before_behind : (xs ys zs : List ℕ) → Before ys zs → Before (xs ++ ys) (xs ++ zs)
unfolding Before
before_behind [] ys zs b = b
before_behind (x ∷ xs) ys zs b = inr (refl, before_behind xs ys zs b)

pub before_asym : (xs ys : List ℕ) → Before xs ys → Before ys xs → ⊥
unfolding Before
before_asym [] [] b c = b
before_asym [] (y ∷ ys) b c = c
before_asym (x ∷ xs) [] b c = b
before_asym (x ∷ xs) (y ∷ ys) b c = ⊎_elim
    (λ (l : x < y). ⊎_elim (λ (k : y < x). omega arith) (λ k. let e : y ≡ x = k.0 in omega arith) c)
    (λ l. ⊎_elim (λ (k : y < x). let e : x ≡ y = l.0 in omega arith) (λ k. before_asym xs ys l.1 k.1) c)
    b
