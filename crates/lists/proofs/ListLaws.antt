-- Laws of tests and of lists: what a test tells, and who is a member. Assumes nothing.
use Prim.Native.Nat.{ℕ, zero, suc, ◌+◌, ◌≤◌, ◌<◌}
use mathlib.Core.Path.{◌≡◌, refl, sym, ap, ap₂, subst, ◌∙◌}
use mathlib.Core.List.Memᴰ
use mathlib.Core.List.{List, [], ◌∷◌, ◌++◌, map, flat_map, head_d, Memᴰ}
use mathlib.Core.Logic.{◌⊎◌, inl, inr, ⊎_elim}
use mathlib.Core.Bool.{Bool, true, false, not, ◌&&◌, ◌||◌}
use native.Mathlib.Omega.{arith}
use lib.ListN.{length, get_or, drop, length-append}
use lib.Seq.{drop-cons}
use native.Mathlib.Nat.{eq-or-lt_of_le}
use Rattle.lists.specs.Lists.{up_from, every, exists, keep, nonempty, AllUnder}
use Rattle.std.specs.Prelude.{if◌then◌else◌}

-- A test's two cases.
pub two_cases : (b : Bool) → (b ≡ true) ⊎ (b ≡ false)
two_cases true = inl refl
two_cases false = inr refl

-- Two tests that pass together are equal.
pub same_test : (a b : Bool) → (a ≡ true → b ≡ true) → (b ≡ true → a ≡ true) → a ≡ b
same_test true b p q = sym (p refl)
same_test false true p q = q refl
same_test false false p q = refl

-- A test doesn't both fail and pass.
pub not_both : {b : Bool} {A : Type 0} → b ≡ true → b ≡ false → A
not_both p q = let z : ◌≡◌ {A = ℕ} 0 1 = cc in absurd (omega arith)

-- One that can't pass fails, and one that can't fail passes.
pub is_false : (b : Bool) → (b ≡ true → ⊥) → b ≡ false
is_false true h = absurd (h refl)
is_false false h = refl

pub is_true : (b : Bool) → (b ≡ false → ⊥) → b ≡ true
is_true true h = refl
is_true false h = absurd (h refl)

pub and_true : (b : Bool) → b ≡ (b && true)
and_true true = refl
and_true false = refl

pub both_true : (a b : Bool) → a && b ≡ true → (a ≡ true) × (b ≡ true)
both_true true b e = (refl, e)
both_true false b e = let z : ◌≡◌ {A = ℕ} 0 1 = cc in absurd (omega arith)

pub and_both : (a b : Bool) → a ≡ true → b ≡ true → a && b ≡ true
and_both a b p q = rw (p, q)

pub one_true : (a b : Bool) → a || b ≡ true → (a ≡ true) ⊎ (b ≡ true)
one_true true b e = inl refl
one_true false b e = inr e

pub or_left : (a b : Bool) → a ≡ true → a || b ≡ true
or_left a b p = rw p

pub or_right : (a b : Bool) → b ≡ true → a || b ≡ true
or_right true b p = refl
or_right false b p = p

module _ {A : Type 0} where
  -- What is kept is in the list and passes the test, and the other way round.
  pub kept_if : (b : Bool) {a x : A} {xs : List A} → Memᴰ a (if b then x ∷ xs else xs) → ((b ≡ true) × (a ≡ x)) ⊎ Memᴰ a xs
  kept_if true m = ⊎_elim (λ e. inl (refl, e)) (λ k. inr k) (Memᴰ.cases_cons m)
  kept_if false m = inr m

  pub keep_mem : (test : A → Bool) {a : A} (xs : List A) → Memᴰ a (keep test xs) → Memᴰ a xs × (test a ≡ true)
  unfolding keep
  keep_mem test [] m = absurd (Memᴰ.not-nil m)
  keep_mem test {a} (x ∷ xs) m =
      go (λ k. keep_mem test xs k) (kept_if (test x) m)
    where
      go : (Memᴰ a (keep test xs) → Memᴰ a xs × (test a ≡ true)) → ((test x ≡ true) × (a ≡ x)) ⊎ Memᴰ a (keep test xs) → Memᴰ a (x ∷ xs) × (test a ≡ true)
      go below (inl p) = (Memᴰ.head p.1, ap test p.1 ∙ p.0)
      go below (inr k) = (Memᴰ.tail (below k).0, (below k).1)

  pub mem_keep : (test : A → Bool) {a : A} (xs : List A) → Memᴰ a xs → test a ≡ true → Memᴰ a (keep test xs)
  unfolding keep
  mem_keep test [] m t = m
  mem_keep test {a} (x ∷ xs) m t = go (λ k. mem_keep test xs k t) (test x) refl (Memᴰ.cases_cons m)
    where
      go : (Memᴰ a xs → Memᴰ a (keep test xs)) → (b : Bool) → test x ≡ b → (a ≡ x) ⊎ Memᴰ a xs → Memᴰ a (if b then x ∷ keep test xs else keep test xs)
      go below true e (inl p) = Memᴰ.head p
      go below true e (inr k) = Memᴰ.tail (below k)
      go below false e (inl p) = let z : ◌≡◌ {A = ℕ} 0 1 = cc (ap test p) in absurd (omega arith)
      go below false e (inr k) = below k

  -- A test over a list, as a statement on its members.
  pub every_mem : (test : A → Bool) {a : A} (xs : List A) → every test xs ≡ true → Memᴰ a xs → test a ≡ true
  unfolding every
  every_mem test [] h m = absurd (Memᴰ.not-nil m)
  every_mem test {a} (x ∷ xs) h m =
      ⊎_elim (λ (p : a ≡ x). ap test p ∙ (both_true (test x) (every test xs) h).0) (λ k. every_mem test xs (both_true (test x) (every test xs) h).1 k) (Memᴰ.cases_cons m)

  pub mem_every : (test : A → Bool) (xs : List A) → ((a : A) → Memᴰ a xs → test a ≡ true) → every test xs ≡ true
  unfolding every
  mem_every test [] h = refl
  mem_every test (x ∷ xs) h = and_both (test x) (every test xs) (h x (Memᴰ.head refl)) (mem_every test xs (λ a m. h a (Memᴰ.tail m)))

  pub every_fails : (test : A → Bool) (xs : List A) → every test xs ≡ false → (a : A) × Memᴰ a xs × (test a ≡ false)
  unfolding every
  every_fails test [] h = let z : ◌≡◌ {A = ℕ} 0 1 = cc in absurd (omega arith)
  every_fails test (x ∷ xs) h = go (λ k. every_fails test xs k) (test x) refl h
    where
      go : (every test xs ≡ false → (a : A) × Memᴰ a xs × (test a ≡ false)) → (b : Bool) → test x ≡ b → b && every test xs ≡ false → (a : A) × Memᴰ a (x ∷ xs) × (test a ≡ false)
      go below true e k = let r = below k in (r.0, Memᴰ.tail r.1, r.2)
      go below false e k = (x, Memᴰ.head refl, e)

  pub exists_mem : (test : A → Bool) (xs : List A) → exists test xs ≡ true → (a : A) × Memᴰ a xs × (test a ≡ true)
  unfolding exists
  exists_mem test [] h = let z : ◌≡◌ {A = ℕ} 0 1 = cc in absurd (omega arith)
  exists_mem test (x ∷ xs) h = go (λ k. exists_mem test xs k) (one_true (test x) (exists test xs) h)
    where
      go : (exists test xs ≡ true → (a : A) × Memᴰ a xs × (test a ≡ true)) → (test x ≡ true) ⊎ (exists test xs ≡ true) → (a : A) × Memᴰ a (x ∷ xs) × (test a ≡ true)
      go below (inl p) = (x, Memᴰ.head refl, p)
      go below (inr k) = let r = below k in (r.0, Memᴰ.tail r.1, r.2)

  pub mem_exists : (test : A → Bool) {a : A} (xs : List A) → Memᴰ a xs → test a ≡ true → exists test xs ≡ true
  unfolding exists
  mem_exists test [] m t = absurd (Memᴰ.not-nil m)
  mem_exists test {a} (x ∷ xs) m t =
      ⊎_elim (λ (p : a ≡ x). or_left (test x) (exists test xs) (ap test (sym p) ∙ t)) (λ k. or_right (test x) (exists test xs) (mem_exists test xs k t)) (Memᴰ.cases_cons m)

-- A test over what is kept, as a test over the whole list; and two tests that agree on a list keep the same.
module _ {A : Type 0} where
  pub exists_keep : (test kept : A → Bool) (xs : List A) → exists test (keep kept xs) ≡ exists (λ x. kept x && test x) xs
  unfolding exists keep
  exists_keep test kept [] = refl
  exists_keep test kept (x ∷ xs) = go (kept x) (exists_keep test kept xs)
    where
      go : (b : Bool) → exists test (keep kept xs) ≡ exists (λ x. kept x && test x) xs
          → exists test (if b then x ∷ keep kept xs else keep kept xs) ≡ (b && test x || exists (λ x. kept x && test x) xs)
      go true h = ap (λ (r : Bool). test x || r) h
      go false h = h

  pub every_keep : (test kept : A → Bool) (xs : List A) → every test (keep kept xs) ≡ every (λ x. not (kept x) || test x) xs
  unfolding every keep
  every_keep test kept [] = refl
  every_keep test kept (x ∷ xs) = go (kept x) (every_keep test kept xs)
    where
      go : (b : Bool) → every test (keep kept xs) ≡ every (λ x. not (kept x) || test x) xs
          → every test (if b then x ∷ keep kept xs else keep kept xs) ≡ ((not b || test x) && every (λ x. not (kept x) || test x) xs)
      go true h = ap (λ (r : Bool). test x && r) h
      go false h = h

  pub keep_same : (f g : A → Bool) (xs : List A) → ((a : A) → Memᴰ a xs → f a ≡ g a) → keep f xs ≡ keep g xs
  unfolding keep
  keep_same f g [] h = refl
  keep_same f g (x ∷ xs) h = rw (h x (Memᴰ.head refl), keep_same f g xs (λ a m. h a (Memᴰ.tail m)))

-- Members of a list of lists laid end to end.
module _ {A B : Type 0} where
  pub flat_mem : (f : A → List B) {b : B} (xs : List A) → Memᴰ b (flat_map f xs) → (a : A) × Memᴰ a xs × Memᴰ b (f a)
  unfolding flat_map
  flat_mem f [] m = absurd (Memᴰ.not-nil m)
  flat_mem f {b} (x ∷ xs) m = go (λ k. flat_mem f xs k) (Memᴰ.append_cases (f x) m)
    where
      go : (Memᴰ b (flat_map f xs) → (a : A) × Memᴰ a xs × Memᴰ b (f a)) → Memᴰ b (f x) ⊎ Memᴰ b (flat_map f xs) → (a : A) × Memᴰ a (x ∷ xs) × Memᴰ b (f a)
      go below (inl k) = (x, Memᴰ.head refl, k)
      go below (inr k) = let r = below k in (r.0, Memᴰ.tail r.1, r.2)

  pub mem_flat : (f : A → List B) {a : A} {b : B} (xs : List A) → Memᴰ a xs → Memᴰ b (f a) → Memᴰ b (flat_map f xs)
  unfolding flat_map
  mem_flat f [] m k = absurd (Memᴰ.not-nil m)
  mem_flat f {a} {b} (x ∷ xs) m k =
      ⊎_elim (λ (p : a ≡ x). Memᴰ.append_left (flat_map f xs) (subst (λ (y : A). Memᴰ b (f y)) p k)) (λ j. Memᴰ.append_right (f x) (mem_flat f xs j k)) (Memᴰ.cases_cons m)

-- A list with a member is not empty, and the other way round.
pub mem_nonempty : {A : Type 0} {x : A} (xs : List A) → Memᴰ x xs → nonempty xs ≡ true
unfolding nonempty
mem_nonempty [] m = absurd (Memᴰ.not-nil m)
mem_nonempty (y ∷ xs) m = refl

pub nonempty_mem : {A : Type 0} (xs : List A) → nonempty xs ≡ true → (x : A) × Memᴰ x xs
unfolding nonempty
nonempty_mem [] e = not_both e refl
nonempty_mem (y ∷ xs) e = (y, Memᴰ.head refl)

-- The k numbers from a on.
pub up_from_mem : (a k : ℕ) {n : ℕ} → Memᴰ n (up_from a k) → (a ≤ n) × (n < a + k)
unfolding up_from
up_from_mem a zero m = absurd (Memᴰ.not-nil m)
up_from_mem a (suc k) {n} m =
    ⊎_elim (λ (p : n ≡ a). omega arith) (λ j. let r = up_from_mem (suc a) k j in omega arith) (Memᴰ.cases_cons m)

pub mem_up_from : (a k n : ℕ) → a ≤ n → n < a + k → Memᴰ n (up_from a k)
unfolding up_from
mem_up_from a zero n p q = absurd (omega arith)
mem_up_from a (suc k) n p q =
    ⊎_elim (λ (e : a ≡ n). Memᴰ.head (sym e)) (λ h. Memᴰ.tail (mem_up_from (suc a) k n h (omega arith))) (eq-or-lt_of_le p)

-- Tests joined by "or".
pub or_assoc : (a b c : Bool) → (a || b) || c ≡ (a || (b || c))
or_assoc true b c = refl
or_assoc false b c = refl

pub or_none : (a : Bool) → (a || false) ≡ a
or_none true = refl
or_none false = refl

-- Tests that agree on a list agree on all its elements, and on whether there is one.
pub every_same : {A : Type 0} (f g : A → Bool) (xs : List A) → ((a : A) → Memᴰ a xs → f a ≡ g a) → every f xs ≡ every g xs
unfolding every
every_same f g [] e = refl
every_same f g (x ∷ xs) e = ap₂ ◌&&◌ (e x (Memᴰ.head refl)) (every_same f g xs (λ a m. e a (Memᴰ.tail m)))

pub exists_same : {A : Type 0} (f g : A → Bool) (xs : List A) → ((a : A) → Memᴰ a xs → f a ≡ g a) → exists f xs ≡ exists g xs
unfolding exists
exists_same f g [] e = refl
exists_same f g (x ∷ xs) e = ap₂ ◌||◌ (e x (Memᴰ.head refl)) (exists_same f g xs (λ a m. e a (Memᴰ.tail m)))

-- What is kept by a test is kept behind a weaker one.
pub keep_within : {A : Type 0} (f g : A → Bool) (xs : List A) → ((a : A) → f a ≡ true → g a ≡ true) → keep f (keep g xs) ≡ keep f xs
unfolding keep
keep_within f g [] w = refl
keep_within f g (x ∷ xs) w = go (g x) refl (f x) refl (keep_within f g xs w)
  where
    go : (b : Bool) → g x ≡ b → (c : Bool) → f x ≡ c → keep f (keep g xs) ≡ keep f xs → keep f (if b then x ∷ keep g xs else keep g xs) ≡ (if c then x ∷ keep f xs else keep f xs)
    go true e true d h = rw d (ap (λ (ys : List _). x ∷ ys) h)
    go true e false d h = rw d h
    go false e true d h = not_both (w x d) e
    go false e false d h = h

-- An element behind the first of two lists.
pub append_past : {A : Type 0} (xs ys : List A) (d : A) (j : ℕ) → get_or (xs ++ ys) (length xs + j) d ≡ get_or ys j d
append_past [] ys d j = let e : 0 + j ≡ j = omega arith in ap (λ (v : ℕ). get_or ys v d) e
append_past (x ∷ xs) ys d j = let e : suc (length xs) + j ≡ suc (length xs + j) = omega arith in ap (λ (v : ℕ). get_or (x ∷ (xs ++ ys)) v d) e ∙ append_past xs ys d j

-- What is made of the k numbers from a on: so many, which one, and by what alone.
pub made_length : {A : Type 0} (make : ℕ → A) (a k : ℕ) → length (map make (up_from a k)) ≡ k
unfolding up_from
made_length make a zero = refl
made_length make a (suc k) = ap suc (made_length make (suc a) k)

pub made_get : {A : Type 0} (make : ℕ → A) (d : A) (a k j : ℕ) → j < k → get_or (map make (up_from a k)) j d ≡ make (a + j)
unfolding up_from
made_get make d a zero j l = absurd (omega arith)
made_get make d a (suc k) zero l = let e : a ≡ a + 0 = omega arith in ap make e
made_get make d a (suc k) (suc j) l = let e : suc a + j ≡ a + suc j = omega arith in made_get make d (suc a) k j (omega arith) ∙ ap make e

pub made_same : {A : Type 0} (f g : ℕ → A) (a k : ℕ) → ((s : ℕ) → s < a + k → f s ≡ g s) → map f (up_from a k) ≡ map g (up_from a k)
unfolding up_from
made_same f g a zero e = refl
made_same f g a (suc k) e = ap₂ (λ (x : _) (xs : List _). x ∷ xs) (e a (omega arith)) (made_same f g (suc a) k (λ s l. e s (omega arith)))

-- Lists laid end to end, and mapped: whether there is an element, and the first one.
module _ {A : Type 0} where
  pub some_append : (xs ys : List A) → nonempty (xs ++ ys) ≡ (nonempty xs || nonempty ys)
  unfolding nonempty
  some_append [] ys = refl
  some_append (x ∷ xs) ys = refl

  pub head_append : (d : A) (xs ys : List A) → nonempty xs ≡ true → head_d (xs ++ ys) d ≡ head_d xs d
  unfolding nonempty head_d
  head_append d [] ys e = not_both e refl
  head_append d (x ∷ xs) ys e = refl

  pub none_append : (xs ys : List A) → nonempty xs ≡ false → xs ++ ys ≡ ys
  unfolding nonempty
  none_append [] ys e = refl
  none_append (x ∷ xs) ys e = not_both refl e

-- What is kept of lists laid end to end, and how many; at most all are. The numbers from a on: how many, and in two parts.
pub keep_append : {A : Type 0} (test : A → Bool) (xs ys : List A) → keep test (xs ++ ys) ≡ keep test xs ++ keep test ys
unfolding keep
keep_append test [] ys = refl
keep_append {A} test (x ∷ xs) ys = go (test x) (keep_append test xs ys)
  where
    go : (b : Bool) → keep test (xs ++ ys) ≡ keep test xs ++ keep test ys
        → (if b then x ∷ keep test (xs ++ ys) else keep test (xs ++ ys)) ≡ (if b then x ∷ keep test xs else keep test xs) ++ keep test ys
    go true e = (ap (λ (zs : List A). x ∷ zs) e)
    go false e = e

pub kept_length : {A : Type 0} (test : A → Bool) (xs ys : List A) → length (keep test (xs ++ ys)) ≡ length (keep test xs) + length (keep test ys)
kept_length test xs ys = ap length (keep_append test xs ys) ∙ length-append (keep test xs) (keep test ys)

pub kept_most : {A : Type 0} (test : A → Bool) (xs : List A) → length (keep test xs) ≤ length xs
unfolding keep
kept_most test [] = omega arith
kept_most test (x ∷ xs) = go (test x) (kept_most test xs)
  where
    go : (b : Bool) → length (keep test xs) ≤ length xs → length (if b then x ∷ keep test xs else keep test xs) ≤ suc (length xs)
    go true e = (omega (arith, e))
    go false e = (omega (arith, e))

pub up_from_length : (a k : ℕ) → length (up_from a k) ≡ k
unfolding up_from
up_from_length a zero = refl
up_from_length a (suc k) = ap suc (up_from_length (suc a) k)

pub up_from_append : (a j k : ℕ) → up_from a (j + k) ≡ up_from a j ++ up_from (a + j) k
unfolding up_from
up_from_append a zero k = let e : a + 0 ≡ a = omega arith in let z : 0 + k ≡ k = omega arith in rw (e, z)
up_from_append a (suc j) k =
    let e : suc j + k ≡ suc (j + k) = omega arith in
    let f : suc a + j ≡ a + suc j = omega arith in
    ap (up_from a) e ∙ ap (λ (l : List ℕ). a ∷ l) (up_from_append (suc a) j k ∙ ap (λ (b : ℕ). up_from (suc a) j ++ up_from b k) f)

module _ {A B : Type 0} where
  pub some_flat : (f : A → List B) (xs : List A) → nonempty (flat_map f xs) ≡ exists (λ x. nonempty (f x)) xs
  unfolding flat_map exists nonempty
  some_flat f [] = refl
  some_flat f (x ∷ xs) = some_append (f x) (flat_map f xs) ∙ ap (λ (b : Bool). nonempty (f x) || b) (some_flat f xs)

  pub some_map : (g : A → B) (xs : List A) → nonempty (map g xs) ≡ nonempty xs
  unfolding nonempty
  some_map g [] = refl
  some_map g (x ∷ xs) = refl

  pub head_map : (g : A → B) (d : A) (b : B) (xs : List A) → nonempty xs ≡ true → head_d (map g xs) b ≡ g (head_d xs d)
  unfolding nonempty head_d
  head_map g d b [] e = not_both e refl
  head_map g d b (x ∷ xs) e = refl

-- What is kept of what was kept.
pub keep_keep : {A : Type 0} (test kept : A → Bool) (xs : List A) → keep test (keep kept xs) ≡ keep (λ x. kept x && test x) xs
unfolding keep
keep_keep test kept [] = refl
keep_keep test kept (x ∷ xs) = go (kept x) (test x) refl (keep_keep test kept xs)
  where
    go : (b t : Bool) → test x ≡ t → keep test (keep kept xs) ≡ keep (λ y. kept y && test y) xs
        → keep test (if b then x ∷ keep kept xs else keep kept xs) ≡ (if b && t then x ∷ keep (λ y. kept y && test y) xs else keep (λ y. kept y && test y) xs)
    go true true e h = rw (e, h)
    go true false e h = rw (e, h)
    go false t e h = h

-- Something is kept where an element passes the test.
pub nonempty_keep : {A : Type 0} (p : A → Bool) (xs : List A) → nonempty (keep p xs) ≡ exists p xs
unfolding nonempty keep exists
nonempty_keep p [] = refl
nonempty_keep p (x ∷ xs) = go (p x) (nonempty_keep p xs)
  where
    go : (b : Bool) → nonempty (keep p xs) ≡ exists p xs → nonempty (if b then x ∷ keep p xs else keep p xs) ≡ (b || exists p xs)
    go true h = refl
    go false h = h

-- Where no element passes a test, there is none that does.
pub exists_none : {A : Type 0} (test : A → Bool) (xs : List A) → ((a : A) → Memᴰ a xs → test a ≡ false) → exists test xs ≡ false
unfolding exists
exists_none test [] h = refl
exists_none test (x ∷ xs) h = rw (h x (Memᴰ.head refl), exists_none test xs (λ a m. h a (Memᴰ.tail m)))

-- What stands from a place of a list on.
pub drop_next : (xs : List ℕ) (k : ℕ) → k < length xs → drop k xs ≡ get_or xs k 0 ∷ drop (k + 1) xs
drop_next xs k l = let e : suc k ≡ k + 1 = omega arith in drop-cons xs k 0 l ∙ ap (λ (v : ℕ). get_or xs k 0 ∷ drop v xs) e

-- A number of a list whose numbers are all below a bound; past its end 0.
pub number_at : (xs : List ℕ) (i bound : ℕ) → 0 < bound → AllUnder bound xs → get_or xs i 0 < bound
unfolding AllUnder
number_at [] i bound h u = h
number_at (x ∷ xs) zero bound h u = u.0
number_at (x ∷ xs) (suc i) bound h u = number_at xs i bound h u.1
