-- The state of a stream of bytes fits its memory: numbers of 64 bits, and bytes. Assumes nothing.
use Rattle.std.proofs.Common.{◌≡◌, ℕ, zero, suc, ◌+◌, ◌-◌, ◌*◌, ◌^◌, ◌<◌, ◌≤◌, Bool, true, false, ltb, List, [], ◌∷◌, ◌++◌, map, length, get_or, take, refl, arith}
use Rattle.lists.specs.Lists.{up_from, AllUnder}
use Rattle.std.specs.Prelude.{if◌then◌else◌}
use Rattle.lists.proofs.ListLaws.{number_at}
use Rattle.format.specs.Format.{reading}
use Rattle.semantics.specs.Figures.{apart, most_lengths, answer_to, answers_to, greater}
use Rattle.semantics.proofs.FigureLaws.{cut_none, sheets_most, cut_bytes, length_most}
use Rattle.release.specs.declared.figures.Figures.{Figures}
use Rattle.release.specs.declared.feeding.Release.{Release}
use Rattle.release.specs.Counting.{no_figures, plus, counted_one, counted}
use Rattle.release.specs.Framing.{first_of, most_begun, length_of, size_of, kept_of, begun_of, held_in, opened}
use Rattle.release.specs.Feeding.{standing, onward, fed, state_of}
use Rattle.release.proofs.FramingLaws.{first_length}
use Rattle.release.proofs.StreamLaws.{none_short}

-- A byte of bytes, and so many of them.
made_under : (f : ℕ → ℕ) (bound a k : ℕ) → ((i : ℕ) → f i < bound) → AllUnder bound (map f (up_from a k))
unfolding AllUnder up_from
made_under f bound a zero h = tt
made_under f bound a (suc k) h = (h a, made_under f bound (suc a) k h)

first_bytes : (m : ℕ) (xs : List ℕ) → AllUnder 256 xs → AllUnder 256 (first_of m xs)
unfolding first_of
first_bytes m xs h = made_under (λ i. get_or xs i 0) 256 0 m (λ i. number_at xs i 256 (omega arith) h)

taken_bytes : (n : ℕ) (xs : List ℕ) → AllUnder 256 xs → AllUnder 256 (take n xs)
unfolding AllUnder
taken_bytes zero xs h = tt
taken_bytes (suc n) [] h = tt
taken_bytes (suc n) (x ∷ xs) h = (h.0, taken_bytes n xs h.1)

kept_bytes : (xs : List ℕ) → AllUnder 256 xs → AllUnder 256 (kept_of xs)
unfolding kept_of
kept_bytes xs h = go (ltb most_begun (size_of xs))
  where
    go : (t : Bool) → AllUnder 256 (if t then take 2 xs else xs)
    go true = taken_bytes 2 xs h
    go false = h

-- What is cut is shorter than its length says, and that has 16 bits.
cut_short : (xs : List ℕ) → AllUnder 256 xs → length xs < size_of xs → length xs < 65538
cut_short xs h short =
    let size : size_of xs ≡ 2 + (256 * get_or xs 0 0 + get_or xs 1 0) = unfold size_of length_of in refl in
    omega (arith, short, size, number_at xs 0 256 (omega arith) h, number_at xs 1 256 (omega arith) h)

pub record Fitting (s : Release) : Type 0 where
  pub valid_fits : s.figures.valid < 2 ^ 64
  pub invalid_fits : s.figures.invalid < 2 ^ 64
  pub stopped_fits : s.figures.stopped < 2 ^ 64
  pub refused_fits : s.figures.refused < 2 ^ 64
  pub sum_fits : s.figures.sum < 2 ^ 64
  pub greatest_fits : s.figures.greatest < 2 ^ 64
  pub lengths_fit : s.lengths < 2 ^ 64
  pub held_fits : s.begun.held < 2 ^ 64
  pub begun_length : length s.begun.bytes ≡ most_begun
  pub begun_fits : AllUnder 256 s.begun.bytes

-- Counting keeps 64 bits.
plus_fits : (a b : ℕ) → plus a b < 2 ^ 64
unfolding plus
plus_fits a b = omega arith

abbrev FiguresFit : Figures → Type 0
FiguresFit f =
    (f.valid < 2 ^ 64) × (f.invalid < 2 ^ 64) × (f.stopped < 2 ^ 64) × (f.refused < 2 ^ 64) × (f.sum < 2 ^ 64) × (f.greatest < 2 ^ 64)

greater_fits : (a b : ℕ) → a < 2 ^ 64 → b ≤ 64 → greater a b < 2 ^ 64
unfolding greater
greater_fits a b h k = go (ltb a b)
  where
    go : (t : Bool) → (if t then b else a) < 2 ^ 64
    go true = omega (arith, k)
    go false = h

one_fits : (f : Figures) (bytes : List ℕ) → FiguresFit f → FiguresFit (counted_one f (answer_to (reading bytes)))
unfolding counted_one
one_fits f bytes h =
    (plus_fits _ _, plus_fits _ _, plus_fits _ _, plus_fits _ _, plus_fits _ _, greater_fits f.greatest _ h.5 (length_most bytes))

counted_fits : (f : Figures) (sheets : List (List ℕ)) → FiguresFit f → FiguresFit (counted f (answers_to sheets))
unfolding counted answers_to
counted_fits f [] h = h
counted_fits f (bytes ∷ sheets) h = counted_fits (counted_one f (answer_to (reading bytes))) sheets (one_fits f bytes h)

pub bytes_append : (xs ys : List ℕ) → AllUnder 256 xs → AllUnder 256 ys → AllUnder 256 (xs ++ ys)
unfolding AllUnder
bytes_append [] ys h k = k
bytes_append (x ∷ xs) ys h k = (h.0, bytes_append xs ys h.1 k)

onward_fits : (f : Figures) (lengths : ℕ) (bytes : List ℕ) → FiguresFit f → lengths < 2 ^ 64 → AllUnder 256 bytes → Fitting (onward f lengths bytes)
unfolding onward standing begun_of
onward_fits f lengths bytes h l u =
    let a = apart (most_lengths - lengths) bytes in
    let few = sheets_most (most_lengths - lengths) bytes in
    let g = counted_fits f a.sheets h in
    let cut = cut_bytes (most_lengths - lengths) bytes u in
    let short = cut_short a.cut cut (none_short a.cut (cut_none (most_lengths - lengths) bytes)) in
    record {
      valid_fits = g.0;
      invalid_fits = g.1;
      stopped_fits = g.2;
      refused_fits = g.3;
      sum_fits = g.4;
      greatest_fits = g.5;
      lengths_fit = omega (arith, few, l);
      held_fits = omega (arith, short);
      begun_length = first_length most_begun (kept_of a.cut);
      begun_fits = first_bytes most_begun (kept_of a.cut) (kept_bytes a.cut cut);
    }

pub fed_fits : (s : Release) (piece : List ℕ) → Fitting s → AllUnder 256 piece → Fitting (fed s piece)
unfolding fed opened
fed_fits s piece f u =
    onward_fits s.figures s.lengths (first_of (held_in s.begun) s.begun.bytes ++ piece)
    (f.valid_fits, f.invalid_fits, f.stopped_fits, f.refused_fits, f.sum_fits, f.greatest_fits) f.lengths_fit
    (bytes_append _ piece (first_bytes (held_in s.begun) s.begun.bytes f.begun_fits) u)

pub state_fits : (stream : List ℕ) → AllUnder 256 stream → Fitting (state_of stream)
unfolding state_of
state_fits stream h =
    onward_fits no_figures 0 stream (omega arith, omega arith, omega arith, omega arith, omega arith, omega arith) (omega arith) h
