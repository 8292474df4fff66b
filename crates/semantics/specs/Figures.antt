-- The release figures of a stream of sheets. Document 02, "Release figures for a whole product line".
use Rattle.std.specs.Prelude.{if◌then◌else◌, ℕ, zero, suc, ◌+◌, ◌*◌, ◌/◌, ◌%◌, ◌≤◌, ◌≡◌, refl, List, [], ◌∷◌, ◌++◌, map, Bool, true, false, ltb, length, take, drop, replicate}
use Rattle.lists.specs.Lists.{keep}
use Rattle.format.specs.Syntax.{Sheet}
use Rattle.format.specs.Format.{Answer, gives, refused, reading}
use Rattle.semantics.specs.Verdict.{Verdict, valid, invalid, stopped, outcome_of, verdict_of}
use Rattle.semantics.specs.Printing.{numbers_line}

-- A stream of sheets: "each after a 16-bit length, most significant byte first".
unfoldable pub framed : (sheets : List (List ℕ)) → List ℕ
framed [] = []
framed (sheet ∷ rest) = length sheet / 256 ∷ length sheet % 256 ∷ sheet ++ framed rest

-- No sheet is longer than a length can say.
unfoldable pub AllSaid : (sheets : List (List ℕ)) → Type 0
AllSaid [] = Unit {0}
AllSaid (sheet ∷ rest) = (length sheet ≤ 65_535) × AllSaid rest

-- How any bytes are taken apart again. What stands first: a whole sheet and what follows it; or none, the stream being empty or its end cutting a length or a sheet.
pub data First : Type 0 where
  whole : (sheet rest : List ℕ) → First
  none : First

-- Behind a length of n.
unfoldable pub behind_length : (n : ℕ) (rest : List ℕ) → First
behind_length n rest = if ltb (length rest) n then none else whole (take n rest) (drop n rest)

unfoldable pub first : (stream : List ℕ) → First
unfolding behind_length
first [] = none
first (b ∷ []) = none
first (b ∷ c ∷ rest) = behind_length (256 * b + c) rest

-- A stream taken apart: its whole sheets, in order, and the bytes of a length or sheet that the end cuts, [] if it cuts none.
pub record Apart : Type 0 where
  pub sheets : List (List ℕ)
  pub cut : List ℕ

-- The first sheet, and what is behind it taken apart.
unfoldable pub apart_behind : (stream : List ℕ) → First → (List ℕ → Apart) → Apart
apart_behind stream none behind = record { sheets = []; cut = stream }
apart_behind stream (whole sheet rest) behind = record { sheets = sheet ∷ (behind rest).sheets; cut = (behind rest).cut }

-- "Up to the end of the input, which may be empty"; so many lengths are read, and what follows isn't looked at.
unfoldable pub apart : (lengths : ℕ) (stream : List ℕ) → Apart
unfolding apart_behind first
apart zero stream = record { sheets = []; cut = [] }
apart (suc lengths) stream = apart_behind stream (first stream) (apart lengths)

-- "Reading ends after 65,535 lengths."
abbrev pub most_lengths : ℕ
most_lengths = 65_535

-- "A length or sheet cut by the end of input counts as one".
unfoldable pub cuts : (cut : List ℕ) → ℕ
cuts [] = 0
cuts (b ∷ rest) = 1

-- The lengths begun: those of the whole sheets, and one that is cut or whose sheet is.
unfoldable pub lengths_begun : (stream : List ℕ) → ℕ
unfolding apart cuts
lengths_begun stream = let a = apart most_lengths stream in length a.sheets + cuts a.cut

-- "Each gets budget 1,000,000": the verifier's answer to a sheet that is read so.
abbrev pub release_budget : ℕ
release_budget = 1_000_000

unfoldable pub answer_to : Answer Sheet → Answer Verdict
unfolding outcome_of verdict_of
answer_to sheet = verdict_of (outcome_of sheet release_budget)

-- The answers to the whole sheets. (One of more than 1,024 bytes is refused, whatever bytes.)
unfoldable pub answers_to : (sheets : List (List ℕ)) → List (Answer Verdict)
unfolding answer_to reading
answers_to sheets = map (λ bytes. answer_to (reading bytes)) sheets

-- "Valid, invalid, stopped and refused".
unfoldable pub is_valid : Answer Verdict → Bool
is_valid (gives (valid c)) = true
is_valid (gives (invalid c l)) = false
is_valid (gives (stopped b)) = false
is_valid (refused r) = false

unfoldable pub is_invalid : Answer Verdict → Bool
is_invalid (gives (valid c)) = false
is_invalid (gives (invalid c l)) = true
is_invalid (gives (stopped b)) = false
is_invalid (refused r) = false

unfoldable pub is_stopped : Answer Verdict → Bool
is_stopped (gives (valid c)) = false
is_stopped (gives (invalid c l)) = false
is_stopped (gives (stopped b)) = true
is_stopped (refused r) = false

unfoldable pub is_refused : Answer Verdict → Bool
is_refused (gives (valid c)) = false
is_refused (gives (invalid c l)) = false
is_refused (gives (stopped b)) = false
is_refused (refused r) = true

-- "The counts C in those answers (a stopped one's is its budget, a refused one adds 0; L is not added)".
unfoldable pub count_in : Answer Verdict → ℕ
count_in (gives (valid c)) = c
count_in (gives (invalid c l)) = c
count_in (gives (stopped b)) = b
count_in (refused r) = 0

-- The L of an invalid one.
unfoldable pub length_in : Answer Verdict → ℕ
length_in (gives (valid c)) = 0
length_in (gives (invalid c l)) = l
length_in (gives (stopped b)) = 0
length_in (refused r) = 0

-- How many pass a test, the sum, and the greatest, "0 if there is none".
unfoldable pub how_many : {A : Type 0} → (A → Bool) → List A → ℕ
unfolding keep
how_many test xs = length (keep test xs)

unfoldable pub sum_of : List ℕ → ℕ
sum_of [] = 0
sum_of (x ∷ xs) = x + sum_of xs

unfoldable pub greater : (a b : ℕ) → ℕ
greater a b = if ltb a b then b else a

unfoldable pub greatest_of : List ℕ → ℕ
unfolding greater
greatest_of [] = 0
greatest_of (x ∷ xs) = greater x (greatest_of xs)

-- "Six decimal numbers .. how many were valid, invalid, stopped and refused, the sum of the counts .., and the greatest L among the invalid".
pub record Figures : Type 0 where
  pub valid : ℕ
  pub invalid : ℕ
  pub stopped : ℕ
  pub refused : ℕ
  pub sum : ℕ
  pub greatest : ℕ

-- Of the verifier's answers, and of so many that were cut: each "counts as one refused".
unfoldable pub figures_of : (answers : List (Answer Verdict)) (cut : ℕ) → Figures
unfolding how_many is_valid is_invalid is_stopped is_refused sum_of count_in greatest_of length_in keep
figures_of answers cut = record {
  valid = how_many is_valid answers;
  invalid = how_many is_invalid answers;
  stopped = how_many is_stopped answers;
  refused = how_many is_refused answers + cut;
  sum = sum_of (map count_in answers);
  greatest = greatest_of (map length_in (keep is_invalid answers));
}

-- The figures of a stream.
unfoldable pub figures : (stream : List ℕ) → Figures
unfolding apart answers_to figures_of cuts
figures stream = let a = apart most_lengths stream in figures_of (answers_to a.sheets) (cuts a.cut)

-- The figures of two streams together: the sums, and the greater of the sixth.
unfoldable pub together : (f g : Figures) → Figures
unfolding greater
together f g = record {
  valid = f.valid + g.valid;
  invalid = f.invalid + g.invalid;
  stopped = f.stopped + g.stopped;
  refused = f.refused + g.refused;
  sum = f.sum + g.sum;
  greatest = greater f.greatest g.greatest;
}

-- "It prints one line of six decimal numbers with single spaces", in this order.
unfoldable pub figure_numbers : Figures → List ℕ
figure_numbers f = f.valid ∷ f.invalid ∷ f.stopped ∷ f.refused ∷ f.sum ∷ f.greatest ∷ []

unfoldable pub figures_line : (stream : List ℕ) → List ℕ
unfolding numbers_line figure_numbers figures
figures_line stream = numbers_line (figure_numbers (figures stream))

-- Examples, evaluated. One of each kind and one that is cut: the sum has a stopped one's budget and no L, the greatest L is that of the invalid.
mixed : figure_numbers (figures_of (gives (valid 30) ∷ gives (invalid 2 1) ∷ gives (stopped 1_000_000) ∷ refused 12 ∷ gives (invalid 5 4) ∷ gives (invalid 1 3) ∷ []) 1)
    ≡ 1 ∷ 3 ∷ 1 ∷ 2 ∷ 1_000_038 ∷ 4 ∷ []
unfolding figure_numbers figures_of
mixed = refl

-- A sheet of one byte, one of none, and one that is cut; the second length is the last that is read; a length is cut; the most significant byte is the first.
cut_sheet : apart 3 (0 ∷ 1 ∷ 9 ∷ 0 ∷ 0 ∷ 0 ∷ 2 ∷ 7 ∷ []) ≡ record { sheets = (9 ∷ []) ∷ [] ∷ []; cut = 0 ∷ 2 ∷ 7 ∷ [] }
unfolding apart
cut_sheet = refl

last_length : apart 2 (0 ∷ 1 ∷ 9 ∷ 0 ∷ 0 ∷ 0 ∷ 2 ∷ 7 ∷ []) ≡ record { sheets = (9 ∷ []) ∷ [] ∷ []; cut = [] }
unfolding apart
last_length = refl

cut_length : lengths_begun (0 ∷ 0 ∷ 5 ∷ []) ≡ 2
unfolding lengths_begun
cut_length = refl

first_byte : apart 1 (1 ∷ 0 ∷ replicate 256 7) ≡ record { sheets = replicate 256 7 ∷ []; cut = [] }
unfolding apart
first_byte = refl

-- The line of an empty input.
empty_stream : figures_line [] ≡ 0x30 ∷ 0x20 ∷ 0x30 ∷ 0x20 ∷ 0x30 ∷ 0x20 ∷ 0x30 ∷ 0x20 ∷ 0x30 ∷ 0x20 ∷ 0x30 ∷ 0x0A ∷ []
unfolding figures_line
empty_stream = refl
