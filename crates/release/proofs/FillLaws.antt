-- Filling what is begun from a piece: byte by byte, up to a number of bytes, and up to a whole sheet. Assumes nothing.
use Rattle.std.proofs.Common.{◌≡◌, ℕ, suc, ◌+◌, ◌-◌, ◌<◌, ◌≤◌, Bool, true, false, leb, ◌⊎◌, List, [], ◌∷◌, ◌++◌, length, get_or, take, drop, set, replicate, sym, refl, ap, ◌∙◌, subst, inl, inr, ⊎_elim, append_assoc, append-nil, arith, length-append, length-take-le, take-suc, take-append-drop, drop_of_length-le, take-add, leb-false, leb-true}
use Prim.Native.Nat.{min}
use Rattle.std.proofs.lemmas.List.{take_rest}
use Rattle.lists.specs.Lists.{up_from}
use Rattle.release.specs.declared.framing.Begun.{Begun}
use Rattle.release.specs.Framing.{first_of, most_begun, size_of, held_in, opened}
use Rattle.release.specs.Filling.{gathered, FilledTo, FilledUp}
use Rattle.release.proofs.FramingLaws.{first_length, first_none, store_next, first_next, first_kept, first_enough, size_append, size_least, held_least}

-- The lesser of two numbers is one of them and at most both.
pub lesser_is : (a b r : ℕ) → r ≡ min a b → (r ≤ a) × (r ≤ b) × ((r ≡ a) ⊎ (r ≡ b))
lesser_is a b r e = (omega (arith, e), omega (arith, e), go (leb a b) refl)
  where
    go : (t : Bool) → leb a b ≡ t → (r ≡ a) ⊎ (r ≡ b)
    go true t = let l : a ≤ b = leb-true a b t in inl (omega (arith, e))
    go false t = let l : b < a = leb-false a b t in inr (omega (arith, e))

-- Copying what is kept, byte by byte.
pub copy_start : (m : ℕ) (xs : List ℕ) → replicate m 0 ≡ first_of m (first_of 0 xs)
unfolding first_of up_from
copy_start m xs = sym (first_none m)

pub copy_next : (m : ℕ) (xs : List ℕ) (i : ℕ) (bytes : List ℕ) → bytes ≡ first_of m (first_of i xs) → set bytes i (get_or xs i 0) ≡ first_of m (first_of (i + 1) xs)
copy_next m xs i bytes e =
    (let at : i ≡ length (first_of i xs) = sym (first_length i xs) in λ k. set (e k) (at k) (get_or xs i 0))
    ∙ store_next m (first_of i xs) (get_or xs i 0)
    ∙ ap (first_of m) (sym (first_next xs i))

pub settled_is : (b : Begun) (size held kept i : ℕ) (bytes : List ℕ) → size ≡ size_of b.bytes
    → (held ≤ b.held) × (held ≤ size) × ((held ≡ b.held) ⊎ (held ≡ size)) → (kept ≤ held) × (kept ≤ most_begun) × ((kept ≡ held) ⊎ (kept ≡ most_begun))
    → i ≡ kept → bytes ≡ first_of most_begun (first_of i b.bytes) → ◌≡◌ {A = Begun} (record { held = held; bytes = bytes }) (gathered (opened b))
unfolding gathered opened
settled_is b size held kept i bytes s h k e w =
    let is : held ≡ held_in b =
    held_least b held h.0 (omega (arith, h.1, s)) (⊎_elim (λ (z : held ≡ b.held). inl z) (λ (z : held ≡ size). inr (z ∙ s)) h.2) in
    let same : bytes ≡ first_of most_begun (first_of (held_in b) b.bytes) =
    w ∙ ap (λ (n : ℕ). first_of most_begun (first_of n b.bytes)) e ∙ first_kept most_begun kept held b.bytes k.0 k.2 ∙ ap (λ (n : ℕ). first_of most_begun (first_of n b.bytes)) is in
    λ j. record { held = (is ∙ sym (first_length (held_in b) b.bytes)) j; bytes = same j }

-- Adding the bytes of a piece, one by one.
module _ (m : ℕ) (o piece : List ℕ) where
  taken_length : (k : ℕ) → k ≤ length piece → length (o ++ take k piece) ≡ length o + k
  taken_length k h = length-append o (take k piece) ∙ ap (λ (n : ℕ). length o + n) (length-take-le k piece h)

  more_next : (k i : ℕ) (bytes : List ℕ) → k < length piece → i ≡ length o + k → bytes ≡ first_of m (o ++ take k piece)
      → set bytes i (get_or piece k 0) ≡ first_of m (o ++ take (k + 1) piece)
  more_next k i bytes h p e =
      let here : i ≡ length (o ++ take k piece) = p ∙ sym (taken_length k (omega (arith, h))) in
      let one : k + 1 ≡ suc k = omega arith in
      let next : take (k + 1) piece ≡ take k piece ++ (get_or piece k 0 ∷ []) = ap (λ (n : ℕ). take n piece) one ∙ take-suc piece k 0 h in
      (λ j. set (e j) (here j) (get_or piece k 0))
      ∙ store_next m (o ++ take k piece) (get_or piece k 0)
      ∙ ap (first_of m) (append_assoc o (take k piece) (get_or piece k 0 ∷ []) ∙ ap (λ (z : List ℕ). o ++ z) (sym next))

  pub more_step : (held i : ℕ) (bytes : List ℕ) → held ≡ length o → held ≤ i → i - held < length piece → bytes ≡ first_of m (o ++ take (i - held) piece)
      → set bytes i (get_or piece (i - held) 0) ≡ first_of m (o ++ take (i + 1 - held) piece)
  more_step held i bytes l from h e =
      let next : (i - held) + 1 ≡ i + 1 - held = omega (arith, from) in
      more_next (i - held) i bytes h (omega (arith, l, from)) e ∙ ap (λ (n : ℕ). first_of m (o ++ take n piece)) next

  -- Past what is kept no more bytes are needed.
  more_enough : (k more : ℕ) → k ≤ more → more ≤ length piece → m ≤ length o + k → first_of m (o ++ take k piece) ≡ first_of m (o ++ take more piece)
  more_enough k more le fits enough =
      let sum : more ≡ k + (more - k) = omega (arith, le) in
      let split : take more piece ≡ take k piece ++ take (more - k) (drop k piece) =
      ap (λ (n : ℕ). take n piece) sum ∙ take-add k (more - k) piece in
      sym
      (ap (λ (z : List ℕ). first_of m (o ++ z)) split ∙ ap (first_of m) (sym (append_assoc o (take k piece) (take (more - k) (drop k piece))))
      ∙ first_enough m (o ++ take k piece) (take (more - k) (drop k piece)) (omega (arith, enough, taken_length k (omega (arith, le, fits)))))

  pub more_end : (held more kept i : ℕ) (bytes : List ℕ) → held ≡ length o → more ≤ length piece
      → (kept ≤ held + more) × (kept ≤ m) × ((kept ≡ held + more) ⊎ (kept ≡ m))
      → held ≤ i → i - held ≤ kept - held → kept ≤ i → bytes ≡ first_of m (o ++ take (i - held) piece) → bytes ≡ first_of m (o ++ take more piece)
  more_end held more kept i bytes l fits k from to past e =
      ⊎_elim
      (λ (z : kept ≡ held + more).
      let all : i - held ≡ more = omega (arith, z, from, to, past) in
      e ∙ ap (λ (n : ℕ). first_of m (o ++ take n piece)) all)
      (λ (z : kept ≡ m). e ∙ more_enough (i - held) more (omega (arith, from, to, k.0)) fits (omega (arith, z, from, past, l)))
      k.2

-- What was filled up to so many bytes.
pub filled_to : (o piece : List ℕ) (goal held more : ℕ) (bytes : List ℕ) → held ≡ length o → held < goal
    → (more ≤ goal - held) × (more ≤ length piece) × ((more ≡ goal - held) ⊎ (more ≡ length piece))
    → bytes ≡ first_of most_begun (o ++ take more piece)
    → FilledTo o piece goal (record { held = held + more; bytes = bytes }) (take (length piece - more) (drop more piece))
unfolding gathered
filled_to o piece goal held more bytes is short l e =
    let long = taken_length most_begun o piece more l.1 in
    let left = take_rest piece more in
    record {
      taken = take more piece;
      split = ap (λ (z : List ℕ). take more piece ++ z) left ∙ take-append-drop more piece;
      added = let all : held + more ≡ length (o ++ take more piece) = omega (arith, is, long) in λ j. record { held = all j; bytes = e j };
      most = λ h. omega (arith, long, l.0, short, is);
      stays = λ h. absurd (omega (arith, h, short, is));
      full =
          ⊎_elim
          (λ (z : more ≡ goal - held). inl (omega (arith, long, z, short, is)))
          (λ (z : more ≡ length piece). inr (left ∙ drop_of_length-le piece (omega (arith, z))))
          l.2;
    }

pub filled_already : (o piece : List ℕ) (goal : ℕ) (begun : Begun) → begun ≡ gathered o → goal ≤ begun.held → FilledTo o piece goal begun piece
unfolding gathered
filled_already o piece goal begun e enough =
    let same = append-nil o in
    let long : goal ≤ length o = subst (λ (n : ℕ). goal ≤ n) (ap (λ (b : Begun). b.held) e) enough in
    record {
      taken = [];
      split = refl;
      added = e ∙ ap gathered (sym same);
      most = λ h. omega (arith, h, ap (length {A = ℕ}) same);
      stays = λ h. refl;
      full = inl (omega (arith, long, ap (length {A = ℕ}) same));
    }

-- Of nothing nothing is taken.
none_taken : (taken rest piece : List ℕ) → taken ++ rest ≡ piece → piece ≡ [] → taken ≡ []
none_taken [] rest piece e p = refl
none_taken (x ∷ taken) rest piece e p = let z : ◌≡◌ {A = ℕ} 0 1 = cc in absurd (omega arith)

-- First the length and then its sheet.
module _ (o piece : List ℕ) (b : Begun) (left : List ℕ) (within : length o ≤ size_of o) (f : FilledTo o piece 2 b left) where
  abbrev one : List ℕ
  one = o ++ f.taken

  one_within : length one ≤ size_of one
  one_within = go (leb 2 (length o)) refl
    where
      go : (b : Bool) → leb 2 (length o) ≡ b → length one ≤ size_of one
      go true e =
          let same : one ≡ o = ap (λ (z : List ℕ). o ++ z) (f.stays (leb-true 2 (length o) e)) ∙ append-nil o in
          subst (λ (z : List ℕ). length z ≤ size_of z) (sym same) within
      go false e = omega (arith, f.most (omega (arith, leb-false 2 (length o) e)), size_least one)

  module _ (goal : ℕ) (r : Begun) (rest : List ℕ) (g : goal ≡ size_of one) (s : FilledTo one left goal r rest) where
    abbrev two : List ℕ
    two = one ++ s.taken

    -- The second time adds nothing where the length isn't whole.
    two_size : size_of two ≡ size_of one
    two_size =
        ⊎_elim
        (λ (z : 2 ≤ length one). size_append one s.taken z)
        (λ (z : left ≡ []). ap size_of (ap (λ (y : List ℕ). one ++ y) (none_taken s.taken rest left s.split z) ∙ append-nil one))
        f.full

    two_is : two ≡ o ++ (f.taken ++ s.taken)
    two_is = append_assoc o f.taken s.taken

    two_within : length two ≤ size_of two
    two_within = omega (arith, s.most (omega (arith, one_within, g)), g, two_size)

    pub filled_up : FilledUp o piece r rest
    filled_up = record {
      taken = f.taken ++ s.taken;
      split = append_assoc f.taken s.taken rest ∙ ap (λ (z : List ℕ). f.taken ++ z) s.split ∙ f.split;
      added = s.added ∙ ap gathered two_is;
      most = subst (λ (z : List ℕ). length z ≤ size_of z) two_is two_within;
      full =
          ⊎_elim
          (λ (z : goal ≤ length two).
          let all : length two ≡ size_of two = omega (arith, z, g, two_size, two_within) in
          inl (subst (λ (x : List ℕ). length x ≡ size_of x) two_is all))
          inr
          s.full;
    }
