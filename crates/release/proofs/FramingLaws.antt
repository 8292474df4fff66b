-- What is kept of the bytes that are begun: bytes that are added, the length that stands first, and what is held by it. Assumes nothing.
use Rattle.std.proofs.Common.{◌≡◌, ℕ, zero, suc, ◌+◌, ◌*◌, ◌<◌, ◌≤◌, Bool, true, false, ltb, ◌⊎◌, List, [], ◌∷◌, ◌++◌, length, get_or, take, set, replicate, sym, refl, ap, ◌∙◌, inl, inr, arith, length-append, length-set, length-take, get_or-set_other, get_or-take, get_or-set_same, ext_get_or, ltb-false, ltb-true, le-ltb, lt-ltb}
use native.Mathlib.Decide.{ℕ_discrete}
use lib.ListN.{length-replicate, get_or-replicate, get_or-append, get_or-eq_default}
use lib.Seq.{get_or-append_seam}
use Rattle.std.specs.Prelude.{if◌then◌else◌}
use Rattle.lists.proofs.ListLaws.{made_length, made_get}
use Rattle.release.specs.declared.framing.Begun.{Begun}
use Rattle.release.specs.Framing.{first_of, most_begun, length_of, size_of, kept_of, begun_of, held_in, opened}
use Rattle.release.specs.Filling.{gathered}

pub first_length : (m : ℕ) (xs : List ℕ) → length (first_of m xs) ≡ m
unfolding first_of
first_length m xs = made_length (λ i. get_or xs i 0) 0 m

pub first_get : (m : ℕ) (xs : List ℕ) (i : ℕ) → i < m → get_or (first_of m xs) i 0 ≡ get_or xs i 0
unfolding first_of
first_get m xs i h = made_get (λ j. get_or xs j 0) 0 0 m i h ∙ ap (λ (j : ℕ). get_or xs j 0) (omega arith)

-- Two that are alike byte by byte.
pub first_alike : (m : ℕ) (xs ys : List ℕ) → ((i : ℕ) → i < m → get_or xs i 0 ≡ get_or ys i 0) → first_of m xs ≡ first_of m ys
first_alike m xs ys same =
    ext_get_or 0 (first_of m xs) (first_of m ys) (first_length m xs ∙ sym (first_length m ys)) (λ i h.
    let k : i < m = omega (arith, h, first_length m xs) in
    first_get m xs i k ∙ same i k ∙ sym (first_get m ys i k))

first_all : (xs : List ℕ) → first_of (length xs) xs ≡ xs
first_all xs =
    ext_get_or 0 (first_of (length xs) xs) xs (first_length _ xs) (λ i h. first_get (length xs) xs i (omega (arith, h, first_length (length xs) xs)))

-- One byte more.
added_get : (o : List ℕ) (x : ℕ) (i : ℕ) → (i ≡ length o → ⊥) → get_or (o ++ (x ∷ [])) i 0 ≡ get_or o i 0
added_get o x i other = go (ltb i (length o)) refl
  where
    go : (b : Bool) → ltb i (length o) ≡ b → get_or (o ++ (x ∷ [])) i 0 ≡ get_or o i 0
    go true e = get_or-append o (x ∷ []) 0 i (ltb-true i (length o) e)
    go false e =
        let past : length o ≤ i = ltb-false i (length o) e in
        get_or-eq_default (o ++ (x ∷ [])) 0 (omega (arith, length-append o (x ∷ []), past, other)) ∙ sym (get_or-eq_default o 0 past)

pub store_next : (m : ℕ) (o : List ℕ) (x : ℕ) → set (first_of m o) (length o) x ≡ first_of m (o ++ (x ∷ []))
store_next m o x =
    ext_get_or 0 _ _ (length-set (first_of m o) (length o) x ∙ first_length m o ∙ sym (first_length m (o ++ (x ∷ [])))) (λ i h. go i (ℕ_discrete i (length o)) (omega (arith, h, length-set (first_of m o) (length o) x, first_length m o)))
  where
    go : (i : ℕ) → Dec (i ≡ length o) → i < m → get_or (set (first_of m o) (length o) x) i 0 ≡ get_or (first_of m (o ++ (x ∷ []))) i 0
    go i (yes e) k =
        ap (λ (j : ℕ). get_or (set (first_of m o) (length o) x) j 0) e
        ∙ get_or-set_same (first_of m o) (length o) x 0 (omega (arith, e, k, first_length m o))
        ∙ sym (first_get m (o ++ (x ∷ [])) i k ∙ ap (λ (j : ℕ). get_or (o ++ (x ∷ [])) j 0) e ∙ get_or-append_seam o x [] 0)
    go i (no other) k =
        get_or-set_other (first_of m o) (length o) i x 0 other ∙ first_get m o i k ∙ sym (first_get m (o ++ (x ∷ [])) i k ∙ added_get o x i other)

-- So many, and one more.
pub first_next : (xs : List ℕ) (i : ℕ) → first_of (i + 1) xs ≡ first_of i xs ++ (get_or xs i 0 ∷ [])
first_next xs i =
    ext_get_or 0 _ _ (first_length (i + 1) xs ∙ sym (length-append (first_of i xs) _ ∙ ap (λ (n : ℕ). n + 1) (first_length i xs))) (λ j h. go j (ℕ_discrete j i) (omega (arith, h, first_length (i + 1) xs)))
  where
    go : (j : ℕ) → Dec (j ≡ i) → j < i + 1 → get_or (first_of (i + 1) xs) j 0 ≡ get_or (first_of i xs ++ (get_or xs i 0 ∷ [])) j 0
    go j (yes e) k =
        first_get (i + 1) xs j k ∙ ap (λ (n : ℕ). get_or xs n 0) e
        ∙ sym (ap (λ (n : ℕ). get_or (first_of i xs ++ (get_or xs i 0 ∷ [])) n 0) (e ∙ sym (first_length i xs)) ∙ get_or-append_seam (first_of i xs) (get_or xs i 0) [] 0)
    go j (no other) k =
        let below : j < i = omega (arith, k, other) in
        first_get (i + 1) xs j k ∙ sym (get_or-append (first_of i xs) _ 0 j (omega (arith, below, first_length i xs)) ∙ first_get i xs j below)

-- What isn't kept doesn't matter.
pub first_kept : (m kept held : ℕ) (xs : List ℕ) → kept ≤ held → (kept ≡ held) ⊎ (kept ≡ m) → first_of m (first_of kept xs) ≡ first_of m (first_of held xs)
first_kept m kept held xs le (inl e) = ap (λ (k : ℕ). first_of m (first_of k xs)) e
first_kept m kept held xs le (inr e) =
    first_alike m _ _ (λ i h. first_get kept xs i (omega (arith, h, e)) ∙ sym (first_get held xs i (omega (arith, h, e, le))))

pub first_enough : (m : ℕ) (o ys : List ℕ) → m ≤ length o → first_of m (o ++ ys) ≡ first_of m o
first_enough m o ys le = first_alike m _ _ (λ i h. get_or-append o ys 0 i (omega (arith, h, le)))

-- The length that stands first.
pub size_alike : (xs ys : List ℕ) → get_or xs 0 0 ≡ get_or ys 0 0 → get_or xs 1 0 ≡ get_or ys 1 0 → size_of xs ≡ size_of ys
unfolding size_of length_of
size_alike xs ys a b = λ i. 2 + (256 * a i + b i)

pub size_first : (m : ℕ) (o : List ℕ) → 2 ≤ m → size_of (first_of m o) ≡ size_of o
size_first m o le = size_alike _ _ (first_get m o 0 (omega (arith, le))) (first_get m o 1 (omega (arith, le)))

pub size_append : (o ys : List ℕ) → 2 ≤ length o → size_of (o ++ ys) ≡ size_of o
size_append o ys le = size_alike _ _ (get_or-append o ys 0 0 (omega (arith, le))) (get_or-append o ys 0 1 (omega (arith, le)))

pub size_least : (o : List ℕ) → 2 ≤ size_of o
unfolding size_of
size_least o = omega arith

-- What is held by the bytes that were kept, and what the code keeps of these.
held_within : (b : Begun) → held_in b ≤ size_of b.bytes
unfolding held_in
held_within b = go (ltb (size_of b.bytes) b.held) refl
  where
    go : (t : Bool) → ltb (size_of b.bytes) b.held ≡ t → (if t then size_of b.bytes else b.held) ≤ size_of b.bytes
    go true e = omega arith
    go false e = ltb-false (size_of b.bytes) b.held e

pub held_least : (b : Begun) (r : ℕ) → r ≤ b.held → r ≤ size_of b.bytes → (r ≡ b.held) ⊎ (r ≡ size_of b.bytes) → r ≡ held_in b
unfolding held_in
held_least b r below within either = go (ltb (size_of b.bytes) b.held) refl either
  where
    go : (t : Bool) → ltb (size_of b.bytes) b.held ≡ t → (r ≡ b.held) ⊎ (r ≡ size_of b.bytes) → r ≡ (if t then size_of b.bytes else b.held)
    go true e (inl w) = omega (arith, w, ltb-true (size_of b.bytes) b.held e, within)
    go true e (inr w) = w
    go false e (inl w) = w
    go false e (inr w) = omega (arith, w, ltb-false (size_of b.bytes) b.held e, below)

pub held_some : (b : Begun) → 0 < b.held → 0 < held_in b
unfolding held_in
held_some b h = go (ltb (size_of b.bytes) b.held)
  where
    go : (t : Bool) → 0 < (if t then size_of b.bytes else b.held)
    go true = omega (arith, size_least b.bytes)
    go false = h

pub held_none : (b : Begun) → b.held ≤ 0 → held_in b ≤ 0
unfolding held_in
held_none b h = go (ltb (size_of b.bytes) b.held) refl
  where
    go : (t : Bool) → ltb (size_of b.bytes) b.held ≡ t → (if t then size_of b.bytes else b.held) ≤ 0
    go true e = omega (arith, h, ltb-true (size_of b.bytes) b.held e)
    go false e = h

pub opened_length : (b : Begun) → length (opened b) ≡ held_in b
unfolding opened
opened_length b = first_length (held_in b) b.bytes

-- What is opened is no more than its length says.
pub opened_within : (b : Begun) → length (opened b) ≤ size_of (opened b)
opened_within b = go (ltb (held_in b) 2) refl
  where
    go : (t : Bool) → ltb (held_in b) 2 ≡ t → length (opened b) ≤ size_of (opened b)
    go true e = omega (arith, opened_length b, ltb-true (held_in b) 2 e, size_least (opened b))
    go false e =
        let alike : size_of (opened b) ≡ size_of b.bytes = unfold opened in (size_first (held_in b) b.bytes (ltb-false (held_in b) 2 e)) in
        omega (arith, opened_length b, held_within b, alike)

-- What is kept: all, or of a sheet that is too long its length.
pub kept_short : (o : List ℕ) → size_of o ≤ most_begun → kept_of o ≡ o
unfolding kept_of
kept_short o h = ap (λ (b : Bool). if b then take 2 o else o) (le-ltb most_begun (size_of o) h)

kept_long : (o : List ℕ) → most_begun < size_of o → kept_of o ≡ take 2 o
unfolding kept_of
kept_long o h = ap (λ (b : Bool). if b then take 2 o else o) (lt-ltb most_begun (size_of o) h)

taken_past : (o : List ℕ) (i : ℕ) → 2 ≤ i → get_or (take 2 o) i 0 ≡ 0
taken_past o i h =
    let short : length (take 2 o) ≤ i = omega (arith, h, length-take 2 o) in
    get_or-eq_default (take 2 o) 0 short

kept_get : (o : List ℕ) (i : ℕ) → i < 2 → get_or (kept_of o) i 0 ≡ get_or o i 0
kept_get o i h = go (ltb most_begun (size_of o)) refl
  where
    go : (t : Bool) → ltb most_begun (size_of o) ≡ t → get_or (kept_of o) i 0 ≡ get_or o i 0
    go true e = ap (λ (z : List ℕ). get_or z i 0) (kept_long o (ltb-true most_begun (size_of o) e)) ∙ get_or-take 2 o i 0 h
    go false e = ap (λ (z : List ℕ). get_or z i 0) (kept_short o (ltb-false most_begun (size_of o) e))

size_stored : (o : List ℕ) → size_of (first_of most_begun (kept_of o)) ≡ size_of o
size_stored o = size_first most_begun (kept_of o) (omega arith) ∙ size_alike _ _ (kept_get o 0 (omega arith)) (kept_get o 1 (omega arith))

-- Two that are too long and have the same length.
pub kept_alike : (a b : List ℕ) → most_begun < size_of a → get_or a 0 0 ≡ get_or b 0 0 → get_or a 1 0 ≡ get_or b 1 0 → first_of most_begun (kept_of a) ≡ first_of most_begun (kept_of b)
kept_alike a b long x y =
    ap (first_of most_begun) (kept_long a long)
    ∙ first_alike most_begun (take 2 a) (take 2 b) (λ i h. go i)
    ∙ ap (first_of most_begun) (sym (kept_long b (omega (arith, long, size_alike a b x y))))
  where
    go : (i : ℕ) → get_or (take 2 a) i 0 ≡ get_or (take 2 b) i 0
    go zero = get_or-take 2 a 0 0 (omega arith) ∙ x ∙ sym (get_or-take 2 b 0 0 (omega arith))
    go (suc zero) = get_or-take 2 a 1 0 (omega arith) ∙ y ∙ sym (get_or-take 2 b 1 0 (omega arith))
    go (suc (suc i)) = taken_past a (suc (suc i)) (omega arith) ∙ sym (taken_past b (suc (suc i)) (omega arith))

-- The bytes that are begun, by what was kept of them: the first, and zeros.
pub held_again : (o : List ℕ) → length o ≤ size_of o → held_in (begun_of o) ≡ length o
unfolding begun_of
held_again o le =
    sym (held_least (begun_of o) (length o) (omega arith) (omega (arith, le, size_stored o)) (inl refl))

pub opened_again : (o : List ℕ) → length o ≤ size_of o → opened (begun_of o) ≡ first_of (length o) (first_of most_begun (kept_of o))
unfolding opened begun_of
opened_again o le = ap (λ (n : ℕ). first_of n (first_of most_begun (kept_of o))) (held_again o le)

-- Where all of them are kept they come back, and of one that is too long the length does.
back : (o kept : List ℕ) → length o ≤ most_begun → ((i : ℕ) → i < length o → get_or kept i 0 ≡ get_or o i 0) → first_of (length o) (first_of most_begun kept) ≡ o
back o kept short same =
    first_alike (length o) (first_of most_begun kept) o (λ i h. first_get most_begun kept i (omega (arith, h, short)) ∙ same i h) ∙ first_all o

pub opened_kept : (o : List ℕ) → length o ≤ size_of o → size_of o ≤ most_begun → opened (begun_of o) ≡ o
opened_kept o le short =
    opened_again o le ∙ back o (kept_of o) (omega (arith, le, short)) (λ i h. ap (λ (z : List ℕ). get_or z i 0) (kept_short o short))

pub opened_length_alone : (o : List ℕ) → length o ≤ size_of o → length o ≤ 2 → opened (begun_of o) ≡ o
opened_length_alone o le few = opened_again o le ∙ back o (kept_of o) (omega (arith, few)) (λ i h. kept_get o i (omega (arith, h, few)))

pub opened_get : (o : List ℕ) (i : ℕ) → length o ≤ size_of o → 2 ≤ length o → i < 2 → get_or (opened (begun_of o)) i 0 ≡ get_or o i 0
opened_get o i le some h =
    ap (λ (z : List ℕ). get_or z i 0) (opened_again o le)
    ∙ first_get (length o) (first_of most_begun (kept_of o)) i (omega (arith, h, some))
    ∙ first_get most_begun (kept_of o) i (omega (arith, h)) ∙ kept_get o i h

-- Nothing is begun.
pub first_none : (m : ℕ) → first_of m [] ≡ replicate m 0
first_none m =
    ext_get_or 0 _ _ (first_length m [] ∙ sym (length-replicate m 0)) (λ i h.
    let k : i < m = omega (arith, h, first_length m []) in
    first_get m [] i k ∙ sym (get_or-replicate m i 0 0 k))

pub gathered_none : gathered [] ≡ record { held = 0; bytes = replicate most_begun 0 }
unfolding gathered
gathered_none = λ i. record { held = 0; bytes = first_none most_begun i }

pub begun_none : begun_of [] ≡ gathered []
unfolding begun_of gathered
begun_none =
    let kept = kept_short [] (unfold size_of length_of in (omega arith)) in
    λ i. record { held = 0; bytes = first_of most_begun (kept i) }

pub begun_alike : (a b : List ℕ) → length a ≡ length b → first_of most_begun (kept_of a) ≡ first_of most_begun (kept_of b) → begun_of a ≡ begun_of b
unfolding begun_of
begun_alike a b long same = λ i. record { held = long i; bytes = same i }

-- What was gathered, as it is kept.
pub gathered_size : (b : Begun) (o : List ℕ) → b ≡ gathered o → size_of b.bytes ≡ size_of o
gathered_size b o e = ap (λ (z : Begun). size_of z.bytes) e ∙ unfold gathered in (size_first most_begun o (omega arith))

pub stored_all : (b : Begun) (o : List ℕ) → b ≡ gathered o → size_of o ≤ most_begun → b ≡ begun_of o
unfolding gathered begun_of
stored_all b o e h =
    let kept = sym (kept_short o h) in
    e ∙ (λ i. record { held = length o; bytes = first_of most_begun (kept i) })

pub stored_length : (o : List ℕ) → most_begun < size_of o
    → set (set (replicate most_begun 0) 0 (get_or (first_of most_begun o) 0 0)) 1 (get_or (first_of most_begun o) 1 0) ≡ first_of most_begun (kept_of o)
stored_length o h =
    let x = get_or (first_of most_begun o) 0 0 in
    let y = get_or (first_of most_begun o) 1 0 in
    ap (λ (z : List ℕ). set (set z 0 x) 1 y) (sym (first_none most_begun))
    ∙ ap (λ (z : List ℕ). set z 1 y) (store_next most_begun [] x)
    ∙ store_next most_begun (x ∷ []) y
    ∙ first_alike most_begun (x ∷ y ∷ []) (take 2 o) (λ i k. go i)
    ∙ ap (first_of most_begun) (sym (kept_long o h))
  where
    go : (i : ℕ) → get_or (get_or (first_of most_begun o) 0 0 ∷ get_or (first_of most_begun o) 1 0 ∷ []) i 0 ≡ get_or (take 2 o) i 0
    go zero = first_get most_begun o 0 (omega arith) ∙ sym (get_or-take 2 o 0 0 (omega arith))
    go (suc zero) = first_get most_begun o 1 (omega arith) ∙ sym (get_or-take 2 o 1 0 (omega arith))
    go (suc (suc i)) = sym (taken_past o (suc (suc i)) (omega arith))

pub stored_cut : (b : Begun) (o : List ℕ) → b ≡ gathered o → most_begun < size_of o
    → ◌≡◌ {A = Begun} (record { held = b.held; bytes = set (set (replicate most_begun 0) 0 (get_or b.bytes 0 0)) 1 (get_or b.bytes 1 0) }) (begun_of o)
unfolding gathered begun_of
stored_cut b o e h =
    let held = ap (λ (z : Begun). z.held) e in
    let bytes = ap (λ (z : Begun). set (set (replicate most_begun 0) 0 (get_or z.bytes 0 0)) 1 (get_or z.bytes 1 0)) e ∙ stored_length o h in
    λ i. record { held = held i; bytes = bytes i }
