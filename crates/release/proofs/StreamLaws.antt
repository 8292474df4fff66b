-- A stream that goes on from what is begun: by what stands first, and with the bytes of a long sheet forgotten. Assumes nothing.
use Rattle.std.proofs.Common.{◌≡◌, ℕ, zero, suc, ◌+◌, ◌-◌, ◌<◌, ◌≤◌, Bool, true, false, ltb, List, [], ◌∷◌, ◌++◌, map, length, get_or, take, drop, sym, refl, ap, ◌∙◌, arith, length-append, length-drop, length-take-le, drop-drop, take_at, drop_at, ltb-false, ltb-true}
use lib.ListN.{length-map, get_or-append}
use lib.Seq.{drop-append-add}
use Rattle.format.specs.Syntax.{Sheet}
use Rattle.format.specs.Format.{Answer, refused, most_bytes, reading}
use Rattle.semantics.specs.Verdict.{Verdict}
use Rattle.semantics.specs.Figures.{whole, none, behind_length, first, Apart, apart, most_lengths, answer_to, answers_to}
use Rattle.semantics.proofs.FigureLaws.{first_some, first_cut, apart_none, apart_whole, apart_append, behind, cut_none, reading_long, answers_append}
use Rattle.release.specs.declared.figures.Figures.{Figures}
use Rattle.release.specs.declared.feeding.Release.{Release}
use Rattle.release.specs.Counting.{no_figures, counted_one, counted}
use Rattle.release.specs.Framing.{most_begun, length_of, size_of, begun_of, opened}
use Rattle.release.specs.Feeding.{standing, onward, fed, state_of}
use Rattle.release.proofs.FramingLaws.{size_alike, size_append, kept_alike, begun_alike, held_again, opened_length, opened_kept, opened_length_alone, opened_get}

-- What stands first, by the length that does.
first_by_size : (o : List ℕ) → 2 ≤ length o → first o ≡ behind_length (length_of o) (drop 2 o)
unfolding first length_of
first_by_size [] h = absurd (omega (arith, h))
first_by_size (b ∷ []) h = absurd (omega (arith, h))
first_by_size (b ∷ c ∷ rest) h = refl

pub none_short : (o : List ℕ) → first o ≡ none → length o < size_of o
unfolding size_of
none_short [] e = omega arith
none_short (b ∷ []) e = omega arith
none_short (b ∷ c ∷ rest) e = go (ltb (length rest) (length_of (b ∷ c ∷ rest))) refl
  where
    n : ℕ
    n = length_of (b ∷ c ∷ rest)

    go : (t : Bool) → ltb (length rest) n ≡ t → length (b ∷ c ∷ rest) < 2 + n
    go true t = let h = ltb-true (length rest) n t in omega (arith, h)
    go false t =
        let w : none ≡ whole (take n rest) (drop n rest) =
        sym e ∙ first_by_size (b ∷ c ∷ rest) (omega arith) ∙ first_some n rest (ltb-false (length rest) n t) in
        let z : ◌≡◌ {A = ℕ} 0 1 = cc in
        absurd (omega (arith, z))

short_none : (o : List ℕ) → length o < size_of o → first o ≡ none
short_none [] h = unfold first in refl
short_none (b ∷ []) h = unfold first in refl
short_none (b ∷ c ∷ rest) h =
    let short : length rest < length_of (b ∷ c ∷ rest) = unfold size_of in (omega (arith, h)) in
    first_by_size (b ∷ c ∷ rest) (omega arith) ∙ first_cut (length_of (b ∷ c ∷ rest)) rest short

pub all_whole : (o y : List ℕ) → length o ≡ size_of o → first (o ++ y) ≡ whole (drop 2 o) y
unfolding size_of
all_whole [] y h = absurd (omega (arith, h))
all_whole (b ∷ []) y h = absurd (omega (arith, h))
all_whole (b ∷ c ∷ rest) y h =
    let n = length_of (b ∷ c ∷ rest) in
    let long : length rest ≡ n = omega (arith, h) in
    first_by_size (b ∷ c ∷ rest ++ y) (omega arith)
    ∙ first_some n (rest ++ y) (omega (arith, long, length-append rest y))
    ∙ (λ i. whole (take_at rest y n long i) (drop_at rest y n long i))

-- Taken apart behind so many lengths.
abbrev apart_from : (lengths : ℕ) (bytes : List ℕ) → Apart
apart_from lengths bytes = apart (most_lengths - lengths) bytes

from_done : (lengths : ℕ) (bytes : List ℕ) → most_lengths ≤ lengths → apart_from lengths bytes ≡ record { sheets = []; cut = [] }
from_done lengths bytes h =
    let none_left : most_lengths - lengths ≡ 0 = omega (arith, h) in
    ap (λ (k : ℕ). apart k bytes) none_left ∙ unfold apart in refl

left_one : (lengths : ℕ) → lengths < most_lengths → most_lengths - lengths ≡ suc (most_lengths - (lengths + 1))
left_one lengths h = omega (arith, h)

from_cut : (lengths : ℕ) (o : List ℕ) → lengths < most_lengths → length o < size_of o → apart_from lengths o ≡ record { sheets = []; cut = o }
from_cut lengths o h short = ap (λ (k : ℕ). apart k o) (left_one lengths h) ∙ apart_none (most_lengths - (lengths + 1)) o (short_none o short)

from_whole : (lengths : ℕ) (o y : List ℕ) → lengths < most_lengths → length o ≡ size_of o
    → apart_from lengths (o ++ y) ≡ record { sheets = drop 2 o ∷ (apart_from (lengths + 1) y).sheets; cut = (apart_from (lengths + 1) y).cut }
from_whole lengths o y h all =
    ap (λ (k : ℕ). apart k (o ++ y)) (left_one lengths h) ∙ apart_whole (most_lengths - (lengths + 1)) (o ++ y) (drop 2 o) y (all_whole o y all)

-- The state from there on, by what was taken apart.
abbrev state_by : Figures → (lengths : ℕ) → Apart → Release
state_by f lengths a = standing (counted f (answers_to a.sheets)) (lengths + length a.sheets) a.cut

onward_by : (f : Figures) (lengths : ℕ) (bytes : List ℕ) {a : Apart} → apart_from lengths bytes ≡ a → onward f lengths bytes ≡ state_by f lengths a
unfolding onward
onward_by f lengths bytes e = ap (state_by f lengths) e

nothing_counted : (f : Figures) (lengths : ℕ) (cut : List ℕ) → state_by f lengths (record { sheets = []; cut = cut }) ≡ standing f lengths cut
unfolding counted answers_to
nothing_counted f lengths cut =
    let same : lengths + 0 ≡ lengths = omega arith in
    ap (λ (n : ℕ). standing f n cut) same

pub onward_done : (f : Figures) (lengths : ℕ) (bytes : List ℕ) → most_lengths ≤ lengths → onward f lengths bytes ≡ standing f lengths []
onward_done f lengths bytes h = onward_by f lengths bytes (from_done lengths bytes h) ∙ nothing_counted f lengths []

pub onward_cut : (f : Figures) (lengths : ℕ) (o : List ℕ) → lengths < most_lengths → length o < size_of o → onward f lengths o ≡ standing f lengths o
onward_cut f lengths o h short = onward_by f lengths o (from_cut lengths o h short) ∙ nothing_counted f lengths o

pub onward_whole : (f : Figures) (lengths : ℕ) (o y : List ℕ) → lengths < most_lengths → length o ≡ size_of o
    → onward f lengths (o ++ y) ≡ onward (counted_one f (answer_to (reading (drop 2 o)))) (lengths + 1) y
unfolding counted answers_to
onward_whole f lengths o y h all =
    let a = apart_from (lengths + 1) y in
    let g = counted_one f (answer_to (reading (drop 2 o))) in
    let sum : lengths + suc (length a.sheets) ≡ (lengths + 1) + length a.sheets = omega arith in
    onward_by f lengths (o ++ y) (from_whole lengths o y h all)
    ∙ ap (λ (n : ℕ). standing (counted g (answers_to a.sheets)) n a.cut) sum
    ∙ sym (onward_by g (lengths + 1) y refl)

-- The sheets that are read from there on.
abbrev pub read_from : (lengths : ℕ) (bytes : List ℕ) → List (Answer Sheet)
read_from lengths bytes = map reading (apart_from lengths bytes).sheets

read_by : (lengths : ℕ) (bytes : List ℕ) {a : Apart} → apart_from lengths bytes ≡ a → read_from lengths bytes ≡ map reading a.sheets
read_by lengths bytes e = ap (λ (a : Apart). map reading a.sheets) e

pub read_done : (lengths : ℕ) (bytes : List ℕ) → most_lengths ≤ lengths → read_from lengths bytes ≡ []
read_done lengths bytes h = read_by lengths bytes (from_done lengths bytes h)

pub read_cut : (lengths : ℕ) (o : List ℕ) → lengths < most_lengths → length o < size_of o → read_from lengths o ≡ []
read_cut lengths o h short = read_by lengths o (from_cut lengths o h short)

pub read_whole : (lengths : ℕ) (o y : List ℕ) → lengths < most_lengths → length o ≡ size_of o → read_from lengths (o ++ y) ≡ reading (drop 2 o) ∷ read_from (lengths + 1) y
read_whole lengths o y h all = read_by lengths (o ++ y) (from_whole lengths o y h all)

-- Answers counted one after the other.
counted_append : (f : Figures) (us vs : List (Answer Verdict)) → counted f (us ++ vs) ≡ counted (counted f us) vs
unfolding counted
counted_append f [] vs = refl
counted_append f (u ∷ us) vs = counted_append (counted_one f u) us vs

-- A stream that goes on behind what it cuts.
onward_on : (f : Figures) (lengths : ℕ) (x y : List ℕ)
    → onward (counted f (answers_to (apart_from lengths x).sheets)) (lengths + length (apart_from lengths x).sheets) ((apart_from lengths x).cut ++ y) ≡ onward f lengths (x ++ y)
onward_on f lengths x y =
    let a = apart_from lengths x in
    let g = counted f (answers_to a.sheets) in
    let k = lengths + length a.sheets in
    let b = behind (most_lengths - lengths) a y in
    let left : most_lengths - k ≡ (most_lengths - lengths) - length a.sheets = omega arith in
    let same : apart_from k (a.cut ++ y) ≡ b = ap (λ (n : ℕ). apart n (a.cut ++ y)) left in
    let sum : k + length b.sheets ≡ lengths + length (a.sheets ++ b.sheets) = omega (arith, length-append a.sheets b.sheets) in
    let count : counted g (answers_to b.sheets) ≡ counted f (answers_to (a.sheets ++ b.sheets)) =
    sym (ap (counted f) (answers_append a.sheets b.sheets) ∙ counted_append f (answers_to a.sheets) (answers_to b.sheets)) in
    onward_by g k (a.cut ++ y) same
    ∙ (λ i. standing (count i) (sum i) b.cut)
    ∙ sym (onward_by f lengths (x ++ y) (apart_append (most_lengths - lengths) x y))

-- Two streams that are read alike: the same readings, and what is kept of the cut.
pub record Alike (a b : Apart) : Type 0 where
  pub read : map reading a.sheets ≡ map reading b.sheets
  pub cut_kept : begun_of a.cut ≡ begun_of b.cut

answers_by : (sheets : List (List ℕ)) → answers_to sheets ≡ map answer_to (map reading sheets)
unfolding answers_to
answers_by [] = refl
answers_by (bytes ∷ sheets) = ap (λ (us : List (Answer Verdict)). answer_to (reading bytes) ∷ us) (answers_by sheets)

alike_state : (f : Figures) (lengths : ℕ) (a b : Apart) → Alike a b → state_by f lengths a ≡ state_by f lengths b
unfolding standing
alike_state f lengths a b same =
    let answers : answers_to a.sheets ≡ answers_to b.sheets = answers_by a.sheets ∙ ap (map answer_to) same.read ∙ sym (answers_by b.sheets) in
    let long : length a.sheets ≡ length b.sheets =
    sym (length-map a.sheets reading) ∙ ap (length {A = Answer Sheet}) same.read ∙ length-map b.sheets reading in
    let kept = same.cut_kept in
    λ i. record { figures = counted f (answers i); lengths = lengths + long i; begun = kept i }

-- What stands first where something is begun, by how much of it is there.
module _ (o y : List ℕ) (n : ℕ) (some : 2 ≤ length o) (is : length_of o ≡ n) (within : length o ≤ 2 + n) where
  abbrev rest : List ℕ
  rest = drop 2 (o ++ y)

  rest_length : length rest ≡ length o + length y - 2
  rest_length = length-drop 2 (o ++ y) ∙ ap (λ (k : ℕ). k - 2) (length-append o y)

  by_rest : first (o ++ y) ≡ behind_length n rest
  by_rest =
      let there : length_of (o ++ y) ≡ n =
      (let e : 2 + length_of (o ++ y) ≡ 2 + length_of o = unfold size_of in (size_append o y some) in omega (arith, e, is)) in
      first_by_size (o ++ y) (omega (arith, some, length-append o y)) ∙ ap (λ (k : ℕ). behind_length k rest) there

  begun_cut : length o + length y < 2 + n → first (o ++ y) ≡ none
  begun_cut h = by_rest ∙ first_cut n rest (omega (arith, h, rest_length, some))

  begun_whole : 2 + n ≤ length o + length y → first (o ++ y) ≡ whole (take n rest) (drop (2 + n - length o) y)
  begun_whole h =
      let seam : 2 + n ≡ length o + (2 + n - length o) = omega (arith, within) in
      by_rest ∙ first_some n rest (omega (arith, h, rest_length))
      ∙ ap (whole (take n rest)) (drop-drop n 2 (o ++ y) ∙ ap (λ (k : ℕ). drop k (o ++ y)) seam ∙ drop-append-add o y (2 + n - length o))

  begun_long : 2 + n ≤ length o + length y → most_bytes < n → reading (take n rest) ≡ refused 1
  begun_long h long = reading_long (take n rest) (omega (arith, long, length-take-le n rest (omega (arith, h, rest_length))))

-- Bytes of a sheet that is too long don't matter.
module _ (o : List ℕ) (cut : first o ≡ none) (long : most_begun < size_of o) (some : 2 ≤ length o) where
  abbrev forgotten : List ℕ
  forgotten = opened (begun_of o)

  short : length o < size_of o
  short = none_short o cut

  as_long : length forgotten ≡ length o
  as_long = opened_length (begun_of o) ∙ held_again o (omega (arith, short))

  high : get_or forgotten 0 0 ≡ get_or o 0 0
  high = opened_get o 0 (omega (arith, short)) some (omega arith)

  low : get_or forgotten 1 0 ≡ get_or o 1 0
  low = opened_get o 1 (omega (arith, short)) some (omega arith)

  same_length : length_of forgotten ≡ length_of o
  same_length =
      let e : 2 + length_of forgotten ≡ 2 + length_of o = unfold size_of in (size_alike forgotten o high low) in
      omega (arith, e)

  too_long : most_bytes < length_of o
  too_long = let e : most_begun < 2 + length_of o = unfold size_of in long in omega (arith, e)

  module _ (y : List ℕ) where
    abbrev n : ℕ
    n = length_of o

    within : length o ≤ 2 + n
    within = let e : length o < 2 + n = unfold size_of in short in omega (arith, e)

    both_cut : (k : ℕ) → length o + length y < 2 + n → Alike (apart (suc k) (forgotten ++ y)) (apart (suc k) (o ++ y))
    both_cut k h =
        let one = apart_none k (forgotten ++ y) (begun_cut forgotten y n (omega (arith, some, as_long)) same_length (omega (arith, within, as_long)) (omega (arith, h, as_long))) in
        let two = apart_none k (o ++ y) (begun_cut o y n some refl within h) in
        let lengths : length (forgotten ++ y) ≡ length (o ++ y) = omega (arith, length-append forgotten y, length-append o y, as_long) in
        let there : 0 < length o = omega (arith, some) in
        let after : 1 < length o = omega (arith, some) in
        let first_byte = get_or-append forgotten y 0 0 (omega (arith, there, as_long)) ∙ high ∙ sym (get_or-append o y 0 0 there) in
        let second-byte = get_or-append forgotten y 0 1 (omega (arith, after, as_long)) ∙ low ∙ sym (get_or-append o y 0 1 after) in
        let sized : size_of (forgotten ++ y) ≡ size_of o = size_append forgotten y (omega (arith, some, as_long)) ∙ size_alike forgotten o high low in
        let kept : begun_of (forgotten ++ y) ≡ begun_of (o ++ y) =
        begun_alike (forgotten ++ y) (o ++ y) lengths (kept_alike (forgotten ++ y) (o ++ y) (omega (arith, long, sized)) first_byte second-byte) in
        record {
          read = ap (λ (a : Apart). map reading a.sheets) one ∙ sym (ap (λ (a : Apart). map reading a.sheets) two);
          cut_kept = ap (λ (a : Apart). begun_of a.cut) one ∙ kept ∙ sym (ap (λ (a : Apart). begun_of a.cut) two);
        }

    both_whole : (k : ℕ) → 2 + n ≤ length o + length y → Alike (apart (suc k) (forgotten ++ y)) (apart (suc k) (o ++ y))
    both_whole k h =
        let l : 2 + n - length forgotten ≡ 2 + n - length o = ap (λ (z : ℕ). 2 + n - z) as_long in
        let enough : 2 + n ≤ length forgotten + length y = omega (arith, h, as_long) in
        let there : 2 ≤ length forgotten = omega (arith, some, as_long) in
        let inside : length forgotten ≤ 2 + n = omega (arith, within, as_long) in
        let one = apart_whole k (forgotten ++ y) _ _ (begun_whole forgotten y n there same_length inside enough ∙ ap (λ (z : ℕ). whole (take n (drop 2 (forgotten ++ y))) (drop z y)) l) in
        let two = apart_whole k (o ++ y) _ _ (begun_whole o y n some refl within h) in
        let read : reading (take n (drop 2 (forgotten ++ y))) ≡ reading (take n (drop 2 (o ++ y))) =
        begun_long forgotten y n there same_length inside enough too_long ∙ sym (begun_long o y n some refl within h too_long) in
        record {
          read =
              ap (λ (a : Apart). map reading a.sheets) one
              ∙ ap (λ (r : Answer Sheet). r ∷ map reading (apart k (drop (2 + n - length o) y)).sheets) read
              ∙ sym (ap (λ (a : Apart). map reading a.sheets) two);
          cut_kept = ap (λ (a : Apart). begun_of a.cut) (one) ∙ sym (ap (λ (a : Apart). begun_of a.cut) two);
        }

    long_forgotten : (k : ℕ) → Alike (apart k (forgotten ++ y)) (apart k (o ++ y))
    long_forgotten zero = unfold apart in (record { read = refl; cut_kept = refl })
    long_forgotten (suc k) = go (ltb (length o + length y) (2 + n)) refl
      where
        go : (t : Bool) → ltb (length o + length y) (2 + n) ≡ t → Alike (apart (suc k) (forgotten ++ y)) (apart (suc k) (o ++ y))
        go true t = both_cut k (ltb-true (length o + length y) (2 + n) t)
        go false t = both_whole k (ltb-false (length o + length y) (2 + n) t)

-- What was kept goes on as the bytes that were begun do.
kept_on : (f : Figures) (lengths : ℕ) (o y : List ℕ) → first o ≡ none → onward f lengths (opened (begun_of o) ++ y) ≡ onward f lengths (o ++ y)
kept_on f lengths o y cut = go (ltb most_begun (size_of o)) refl (ltb (length o) 2) refl
  where
    within : length o ≤ size_of o
    within = let h = none_short o cut in omega (arith, h)

    go : (t : Bool) → ltb most_begun (size_of o) ≡ t → (u : Bool) → ltb (length o) 2 ≡ u → onward f lengths (opened (begun_of o) ++ y) ≡ onward f lengths (o ++ y)
    go false t u v = ap (λ (z : List ℕ). onward f lengths (z ++ y)) (opened_kept o within (ltb-false most_begun (size_of o) t))
    go true t true v = ap (λ (z : List ℕ). onward f lengths (z ++ y)) (opened_length_alone o within (let h = ltb-true (length o) 2 v in omega (arith, h)))
    go true t false v =
        onward_by f lengths (opened (begun_of o) ++ y) refl
        ∙ alike_state f lengths _ _ (long_forgotten o cut (ltb-true most_begun (size_of o) t) (ltb-false (length o) 2 v) y (most_lengths - lengths))
        ∙ sym (onward_by f lengths (o ++ y) refl)

-- A piece more: the state that belongs to the bytes so far, and the piece behind them.
fed_standing : (f : Figures) (lengths : ℕ) (o y : List ℕ) → fed (standing f lengths o) y ≡ onward f lengths (opened (begun_of o) ++ y)
unfolding fed standing
fed_standing f lengths o y = refl

fed_on : (f : Figures) (lengths : ℕ) (x y : List ℕ) → fed (onward f lengths x) y ≡ onward f lengths (x ++ y)
fed_on f lengths x y =
    let a = apart_from lengths x in
    let g = counted f (answers_to a.sheets) in
    let k = lengths + length a.sheets in
    ap (λ (s : Release). fed s y) (onward_by f lengths x refl)
    ∙ fed_standing g k a.cut y
    ∙ kept_on g k a.cut y (cut_none (most_lengths - lengths) x)
    ∙ onward_on f lengths x y

pub state_on : (stream piece : List ℕ) → fed (state_of stream) piece ≡ state_of (stream ++ piece)
unfolding state_of
state_on stream piece = fed_on no_figures 0 stream piece
