-- Counted from zero, the code's figures are document 02's: none of them reaches 64 bits. Assumes nothing.
use Rattle.std.proofs.Common.{◌≡◌, ℕ, ◌+◌, ◌^◌, ◌<◌, ◌≤◌, Bool, true, false, leb, List, [], ◌∷◌, map, length, sym, refl, ap, ◌∙◌, arith}
use Rattle.lists.specs.Lists.{keep}
use Rattle.std.specs.Prelude.{if◌then◌else◌}
use Rattle.format.specs.Format.{Answer, gives, refused}
use Rattle.semantics.specs.Verdict.{Verdict, valid, invalid, stopped}
use Rattle.semantics.specs.Figures.{apart, most_lengths, cuts, answers_to, is_valid, is_invalid, is_stopped, is_refused, count_in, length_in, how_many, sum_of, greater, greatest_of, figures_of, figures}
use Rattle.semantics.proofs.FigureLaws.{cut_none, sheets_most, answers_length, sum_most, greater_left, greater_right, greater_assoc}
use Rattle.release.specs.declared.figures.Figures.{Figures}
use Rattle.release.specs.declared.feeding.Release.{Release}
use Rattle.release.specs.Counting.{meant_by, no_figures, plus, one, counted_one, counted, with_cut}
use Rattle.release.specs.Framing.{begun_of, opened}
use Rattle.release.specs.Feeding.{standing, onward, state_of, is_done, ended}
use Rattle.release.proofs.FramingLaws.{opened_length, held_again}
use Rattle.release.proofs.StreamLaws.{none_short}

plus_small : (a b : ℕ) → a + b < 2 ^ 64 → plus a b ≡ a + b
unfolding plus
plus_small a b h = omega (arith, h)

-- One more of a kind.
many_one : (test : Answer Verdict → Bool) (a : Answer Verdict) (rest : List (Answer Verdict)) → how_many test (a ∷ rest) ≡ one (test a) + how_many test rest
unfolding how_many keep
many_one test a rest = go (test a)
  where
    go : (b : Bool) → length (if b then a ∷ keep test rest else keep test rest) ≡ one b + length (keep test rest)
    go true = unfold one in (omega arith)
    go false = unfold one in (omega arith)

-- The length of one that isn't invalid is 0.
greatest_one : (a : Answer Verdict) (rest : List (Answer Verdict))
    → greatest_of (map length_in (keep is_invalid (a ∷ rest))) ≡ greater (length_in a) (greatest_of (map length_in (keep is_invalid rest)))
unfolding keep is_invalid greatest_of length_in
greatest_one (gives (valid c)) rest = sym (greater_right 0 _ (omega arith))
greatest_one (gives (invalid c l)) rest = refl
greatest_one (gives (stopped b)) rest = sym (greater_right 0 _ (omega arith))
greatest_one (refused r) rest = sym (greater_right 0 _ (omega arith))

-- Figures to which those of some answers are added, none of them reaching 64 bits.
pub record Grown (f : Figures) (answers : List (Answer Verdict)) (g : Figures) : Type 0 where
  pub valid_is : g.valid ≡ f.valid + how_many is_valid answers
  pub invalid_is : g.invalid ≡ f.invalid + how_many is_invalid answers
  pub stopped_is : g.stopped ≡ f.stopped + how_many is_stopped answers
  pub refused_is : g.refused ≡ f.refused + how_many is_refused answers
  pub sum_is : g.sum ≡ f.sum + sum_of (map count_in answers)
  pub greatest_is : g.greatest ≡ greater f.greatest (greatest_of (map length_in (keep is_invalid answers)))

-- Room for so many more.
abbrev pub Room : Figures → List (Answer Verdict) → Type 0
Room f answers =
    (f.valid + length answers < 2 ^ 64) × (f.invalid + length answers < 2 ^ 64) × (f.stopped + length answers < 2 ^ 64)
    × (f.refused + length answers < 2 ^ 64) × (f.sum + sum_of (map count_in answers) < 2 ^ 64)

one_most : (b : Bool) → one b ≤ 1
unfolding one
one_most true = omega arith
one_most false = omega arith

module _ (f : Figures) (a : Answer Verdict) (rest : List (Answer Verdict)) (room : Room f (a ∷ rest)) where
  abbrev g : Figures
  g = counted_one f a

  sum_first : sum_of (map count_in (a ∷ rest)) ≡ count_in a + sum_of (map count_in rest)
  sum_first = unfold sum_of in refl

  valid_one : g.valid ≡ f.valid + one (is_valid a)
  valid_one = unfold counted_one in (plus_small f.valid (one (is_valid a)) (omega (arith, one_most (is_valid a), room.0)))

  invalid_one : g.invalid ≡ f.invalid + one (is_invalid a)
  invalid_one = unfold counted_one in (plus_small f.invalid (one (is_invalid a)) (omega (arith, one_most (is_invalid a), room.1)))

  stopped_one : g.stopped ≡ f.stopped + one (is_stopped a)
  stopped_one = unfold counted_one in (plus_small f.stopped (one (is_stopped a)) (omega (arith, one_most (is_stopped a), room.2)))

  refused_one : g.refused ≡ f.refused + one (is_refused a)
  refused_one = unfold counted_one in (plus_small f.refused (one (is_refused a)) (omega (arith, one_most (is_refused a), room.3)))

  sum_one : g.sum ≡ f.sum + count_in a
  sum_one = unfold counted_one in (plus_small f.sum (count_in a) (omega (arith, room.4, sum_first)))

  greatest_grown : g.greatest ≡ greater f.greatest (length_in a)
  greatest_grown = unfold counted_one in refl

  room_left : Room g rest
  room_left = (
    omega (arith, valid_one, one_most (is_valid a), room.0),
    omega (arith, invalid_one, one_most (is_invalid a), room.1),
    omega (arith, stopped_one, one_most (is_stopped a), room.2),
    omega (arith, refused_one, one_most (is_refused a), room.3),
    omega (arith, sum_one, sum_first, room.4),
  )

  grown_one : (h : Figures) → Grown g rest h → Grown f (a ∷ rest) h
  grown_one h k = record {
    valid_is = omega (arith, k.valid_is, valid_one, many_one is_valid a rest);
    invalid_is = omega (arith, k.invalid_is, invalid_one, many_one is_invalid a rest);
    stopped_is = omega (arith, k.stopped_is, stopped_one, many_one is_stopped a rest);
    refused_is = omega (arith, k.refused_is, refused_one, many_one is_refused a rest);
    sum_is = omega (arith, k.sum_is, sum_one, sum_first);
    greatest_is =
        k.greatest_is ∙ ap (λ (n : ℕ). greater n (greatest_of (map length_in (keep is_invalid rest)))) greatest_grown
        ∙ greater_assoc f.greatest (length_in a) (greatest_of (map length_in (keep is_invalid rest)))
        ∙ ap (greater f.greatest) (sym (greatest_one a rest));
  }

counted_grown : (f : Figures) (answers : List (Answer Verdict)) → Room f answers → Grown f answers (counted f answers)
unfolding counted
counted_grown f [] room = unfold how_many keep sum_of greatest_of in (record {
  valid_is = omega arith;
  invalid_is = omega arith;
  stopped_is = omega arith;
  refused_is = omega arith;
  sum_is = omega arith;
  greatest_is = sym (greater_left f.greatest 0 (omega arith));
})
counted_grown f (a ∷ rest) room = grown_one f a rest room _ (counted_grown (counted_one f a) rest (room_left f a rest room))

many_most : (test : Answer Verdict → Bool) (answers : List (Answer Verdict)) → how_many test answers ≤ length answers
unfolding how_many keep
many_most test [] = omega arith
many_most test (a ∷ rest) =
    let first : how_many test (a ∷ rest) ≡ one (test a) + how_many test rest = many_one test a rest in
    let more = many_most test rest in
    unfold how_many keep in (omega (arith, first, more, one_most (test a)))

-- From zero, so many sheets being counted.
module _ (sheets : List (List ℕ)) (few : length sheets ≤ most_lengths) where
  abbrev answers : List (Answer Verdict)
  answers = answers_to sheets

  room_first : Room no_figures answers
  room_first =
      let long = answers_length sheets in
      let most = sum_most sheets in
      (omega (arith, long, few), omega (arith, long, few), omega (arith, long, few), omega (arith, long, few), omega (arith, most, few))

  -- No more are refused than there are.
  refused_most : how_many is_refused answers ≤ most_lengths
  refused_most = let most = many_most is_refused answers in let long = answers_length sheets in omega (arith, most, long, few)

  pub counted_figures : (cut : ℕ) → cut ≤ 1 → meant_by (with_cut cut (counted no_figures answers)) ≡ figures_of answers cut
  unfolding meant_by with_cut figures_of
  counted_figures cut c =
      let k = counted_grown no_figures answers room_first in
      let v : (counted no_figures answers).valid ≡ how_many is_valid answers = let e = k.valid_is in omega (arith, e) in
      let i : (counted no_figures answers).invalid ≡ how_many is_invalid answers = let e = k.invalid_is in omega (arith, e) in
      let t : (counted no_figures answers).stopped ≡ how_many is_stopped answers = let e = k.stopped_is in omega (arith, e) in
      let r : (counted no_figures answers).refused ≡ how_many is_refused answers = let e = k.refused_is in omega (arith, e) in
      let p : plus (counted no_figures answers).refused cut ≡ how_many is_refused answers + cut =
      ap (λ (n : ℕ). plus n cut) r ∙ plus_small (how_many is_refused answers) cut (omega (arith, refused_most, c)) in
      let s : (counted no_figures answers).sum ≡ sum_of (map count_in answers) = let e = k.sum_is in omega (arith, e) in
      let g = k.greatest_is ∙ greater_right 0 (greatest_of (map length_in (keep is_invalid answers))) (omega arith) in
      λ j. record { valid = v j; invalid = i j; stopped = t j; refused = p j; sum = s j; greatest = g j }

-- What is begun is cut at the end.
same_cuts : (xs ys : List ℕ) → length xs ≡ length ys → cuts xs ≡ cuts ys
unfolding cuts
same_cuts [] [] e = refl
same_cuts [] (y ∷ ys) e = absurd (omega (arith, e))
same_cuts (x ∷ xs) [] e = absurd (omega (arith, e))
same_cuts (x ∷ xs) (y ∷ ys) e = refl

cuts_most : (xs : List ℕ) → cuts xs ≤ 1
unfolding cuts
cuts_most [] = omega arith
cuts_most (x ∷ xs) = omega arith

-- At the end of a stream the figures are those of the definition on the whole of it.
pub ended_figures : (stream : List ℕ) → meant_by (ended (state_of stream)) ≡ figures stream
unfolding state_of onward standing ended figures
ended_figures stream =
    let a = apart most_lengths stream in
    let short = none_short a.cut (cut_none most_lengths stream) in
    let same : cuts (opened (begun_of a.cut)) ≡ cuts a.cut =
    same_cuts (opened (begun_of a.cut)) a.cut (opened_length (begun_of a.cut) ∙ held_again a.cut (omega (arith, short))) in
    ap (λ (c : ℕ). meant_by (with_cut c (counted no_figures (answers_to a.sheets)))) same
    ∙ counted_figures a.sheets (sheets_most most_lengths stream) (cuts a.cut) (cuts_most a.cut)

-- Nothing more is looked at once so many lengths are read with their sheets.
pub state_done : (stream : List ℕ) → is_done (state_of stream) ≡ leb most_lengths (length (apart most_lengths stream).sheets)
unfolding is_done state_of onward standing
state_done stream =
    let same : 0 + length (apart most_lengths stream).sheets ≡ length (apart most_lengths stream).sheets = omega arith in
    ap (leb most_lengths) same

-- What was promised of the end.
pub at_end : (self : Release) (r : Figures) → r ≡ ended self → (r ≡ ended self) × ((stream : List ℕ) → self ≡ state_of stream → meant_by r ≡ figures stream)
at_end self r e = (e, λ stream s. ap meant_by (e ∙ ap ended s) ∙ ended_figures stream)
