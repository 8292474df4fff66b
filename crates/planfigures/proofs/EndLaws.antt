-- Reading ends: with every piece another sheet is whole or more bytes are begun, and there are at most so many lengths and bytes of each. Assumes nothing.
use Prim.Native.Nat.{ℕ, zero, suc, ◌+◌, ◌-◌, ◌*◌, ◌<◌}
use mathlib.Core.Path.{◌≡◌, refl, sym, ap, ◌∙◌}
use mathlib.Core.Bool.{Bool, true, false, not}
use mathlib.Core.List.{List, [], ◌∷◌, ◌++◌}
use native.Mathlib.Omega.{arith}
use lib.Dec.{ltb}
use borrow.Author.Tests.{ltb-true, ltb-false, leb-false, not-true}
use lib.ListN.{length, take, drop, length-append}
use lib.Seq.{length-take-le, get_or-drop}
use Rattle.semantics.specs.Figures.{First, whole, none, first, Apart, apart, most_lengths}
use Rattle.semantics.proofs.FigureLaws.{first_some, first_cut, first_append, apart_none, apart_whole}
use Rattle.release.specs.declared.figures.Figures.{Figures}
use Rattle.release.specs.declared.feeding.Release.{Release}
use Rattle.release.specs.Counting.{no_figures}
use Rattle.release.specs.Feeding.{onward, state_of, is_done}
use Rattle.planfigures.specs.Input.{Followed, Bytes, Reached}

-- Bytes laid end to end, and the first of some.
bytes_append : (xs ys : List ℕ) → Bytes xs → Bytes ys → Bytes (xs ++ ys)
bytes_append [] ys h k i = k i
bytes_append (x ∷ xs) ys h k zero = h 0
bytes_append (x ∷ xs) ys h k (suc i) = bytes_append xs ys (λ j. h (suc j)) k i

bytes_take : (n : ℕ) (xs : List ℕ) → Bytes xs → Bytes (take n xs)
bytes_take zero xs h i = omega arith
bytes_take (suc n) [] h i = omega arith
bytes_take (suc n) (x ∷ xs) h zero = h 0
bytes_take (suc n) (x ∷ xs) h (suc i) = bytes_take n xs (λ j. h (suc j)) i

-- One byte more than a length and its sheet can have.
abbrev beyond : ℕ
beyond = 65_538

-- What stands first in a stream of bytes is cut, and then short, or it is whole.
data Begins (stream : List ℕ) : Type 0 where
  short : first stream ≡ none → length stream < beyond → Begins stream
  stands : (sheet rest : List ℕ) → first stream ≡ whole sheet rest → Bytes rest → Begins stream

begins : (stream : List ℕ) → Bytes stream → Begins stream
unfolding first
begins [] h = short refl (omega arith)
begins (b ∷ []) h = short refl (omega arith)
begins (b ∷ c ∷ rest) h = go (ltb (length rest) n) refl
  where
    n : ℕ
    n = 256 * b + c

    go : (t : Bool) → ltb (length rest) n ≡ t → Begins (b ∷ c ∷ rest)
    go true t = let l = ltb-true (length rest) n t in short (first_cut n rest l) (omega (arith, l, h 0, h 1))
    go false t =
        stands (take n rest) (drop n rest) (first_some n rest (ltb-false (length rest) n t)) (λ i. omega (arith, get_or-drop n rest i 0, h (suc (suc (n + i)))))

-- What is left to read at most, of so many lengths: of each whose sheet isn't whole so many bytes, but for those that are begun.
abbrev left : (lengths : ℕ) → Apart → ℕ
left lengths a = (lengths - length a.sheets) * beyond - length a.cut

-- One length more, whose sheet is whole, leaves as much.
one_less : (k : ℕ) (a b : Apart) → left k a < left k b
    → (suc k - suc (length a.sheets)) * beyond - length a.cut < (suc k - suc (length b.sheets)) * beyond - length b.cut
one_less k a b h =
    let e : suc k - suc (length a.sheets) ≡ k - length a.sheets = omega arith in
    let f : suc k - suc (length b.sheets) ≡ k - length b.sheets = omega arith in
    rw (e, f) h

-- It falls with every piece.
falls : (lengths : ℕ) (stream more : List ℕ) → Bytes stream → 0 < length more → length (apart lengths stream).sheets < lengths
    → left lengths (apart lengths (stream ++ more)) < left lengths (apart lengths stream)
falls zero stream more h m l = absurd (omega arith)
falls (suc k) stream more h m l = go (begins stream h) (λ rest b n. falls k rest more b m n)
  where
    -- The first sheet was cut. It still is, or it is whole now.
    cut : (f : First) → first (stream ++ more) ≡ f → length stream < beyond → left (suc k) (apart (suc k) (stream ++ more)) < left (suc k) (record { sheets = []; cut = stream })
    cut none e s = rw (apart_none k (stream ++ more) e) (omega (arith, length-append stream more))
    cut (whole sheet rest) e s = rw (apart_whole k (stream ++ more) sheet rest e) (omega arith)

    go : Begins stream
        → ((rest : List ℕ) → Bytes rest → length (apart k rest).sheets < k → left k (apart k (rest ++ more)) < left k (apart k rest))
        → left (suc k) (apart (suc k) (stream ++ more)) < left (suc k) (apart (suc k) stream)
    go (short e s) below = rw (apart_none k stream e) (cut (first (stream ++ more)) refl s)
    go (stands sheet rest e b) below =
        let a = apart_whole k stream sheet rest e in
        let n : length (apart k rest).sheets < k = omega (arith, ap (λ (x : Apart). length x.sheets) a) in
        rw (a, apart_whole k (stream ++ more) sheet (rest ++ more) (first_append stream more sheet rest e)) (one_less k (apart k (rest ++ more)) (apart k rest) (below rest b n))

-- The same of a state. (The number of lengths stays a variable while definitions are open.)
onward_lengths : (f : Figures) (lengths : ℕ) (bytes : List ℕ) → (onward f lengths bytes).lengths ≡ lengths + length (apart (most_lengths - lengths) bytes).sheets
unfolding onward
onward_lengths f lengths bytes = refl

onward_held : (f : Figures) (lengths : ℕ) (bytes : List ℕ) → (onward f lengths bytes).begun.held ≡ length (apart (most_lengths - lengths) bytes).cut
unfolding onward
onward_held f lengths bytes = refl

state_onward : (stream : List ℕ) → state_of stream ≡ onward no_figures 0 stream
unfolding state_of
state_onward stream = refl

abbrev pub to_read : Release → ℕ
to_read state = (most_lengths - state.lengths) * beyond - state.begun.held

state_left : (stream : List ℕ) → to_read (state_of stream) ≡ left most_lengths (apart most_lengths stream)
state_left stream = ap to_read (state_onward stream) ∙ rw (onward_lengths no_figures 0 stream, onward_held no_figures 0 stream) (omega arith)

done_not : (state : Release) → is_done state ≡ false → state.lengths < most_lengths
unfolding is_done
done_not state d = leb-false most_lengths state.lengths d

reads_on : (stream more : List ℕ) → Bytes stream → 0 < length more → is_done (state_of stream) ≡ false → to_read (state_of (stream ++ more)) < to_read (state_of stream)
reads_on stream more h m d =
    let l = done_not (state_of stream) d in
    let e = ap (λ (s : Release). s.lengths) (state_onward stream) ∙ onward_lengths no_figures 0 stream in
    omega (arith, state_left stream, state_left (stream ++ more), falls most_lengths stream more h m (omega (arith, l, e)))

-- The state that a call of `read` leads to that brought bytes is that of a stream too, and less is left to read.
module _ (before after : Release) (came : ℕ) (memory : List ℕ) (r : Reached before) (f : Followed before came memory after) where
  pub reached_on : Bytes memory → Reached after
  reached_on h = record {
    stream = r.stream ++ take came memory;
    bytes = bytes_append r.stream (take came memory) r.bytes (bytes_take came memory h);
    same = f.onward r.stream r.same;
  }

  pub less_to_read : (d : Bool) → d ≡ is_done before → not d ≡ true → to_read after < to_read before
  less_to_read d i t =
      let k = reads_on r.stream (take came memory) r.bytes (omega (arith, f.some, length-take-le came memory f.within)) (ap is_done (sym r.same) ∙ sym i ∙ not-true d t) in
      rw (f.onward r.stream r.same, r.same) k
