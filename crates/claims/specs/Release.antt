-- Document 02's figures, "Release figures for a whole product line", sentence by sentence.
use Rattle.std.specs.Prelude.{ℕ, ◌+◌, ◌*◌, ◌≤◌, ◌<◌, ◌≡◌, ◌↔◌, List, [], ◌∷◌, ◌++◌, map, true, length, replicate, get_or}
use Rattle.lists.specs.Lists.{AllUnder}
use Rattle.format.specs.Format.{Answer, refused, most_bytes, reading}
use Rattle.semantics.specs.Verdict.{Verdict, LongEnough}
use Rattle.semantics.specs.Printing.{numbers_line}
use Rattle.semantics.specs.Figures.{framed, AllSaid, lengths_begun, count_in, sum_of, greater, figures_of, Figures, figures, figure_numbers, figures_line}
use Rattle.release.specs.Framing.{most_begun}
use Rattle.runner.specs.Calls.{Form}
use Rattle.recovery.specs.Arguments.{state_width}
use Rattle.claims.specs.Library.{Library, Gave, ToVerify, AfterVerify, AfterPrint, ToFeed, AfterFeed, ToFinish, ToLine}

-- What the end of the input cuts: a length, or a sheet that has fewer bytes than its length says.
pub data Cut : List ℕ → Type 0 where
  length_cut : (high : ℕ) → Cut (high ∷ [])
  sheet_cut : (high low : ℕ) (bytes : List ℕ) → length bytes < 256 * high + low → Cut (high ∷ low ∷ bytes)

-- A stream of at most 65,535 sheets and nothing else; of fewer, and behind them one that is cut; or of so many, and whatever follows.
pub data Parts (sheets : List (List ℕ)) : (rest : List ℕ) (cut : ℕ) → Type 0 where
  all_whole : length sheets ≤ 65_535 → Parts sheets [] 0
  one_cut : (rest : List ℕ) → length sheets < 65_535 → Cut rest → Parts sheets rest 1
  all_read : (rest : List ℕ) → length sheets ≡ 65_535 → Parts sheets rest 0

-- One refused, and no other.
abbrev pub one_refused : Figures
one_refused = record { valid = 0; invalid = 0; stopped = 0; refused = 1; sum = 0; greatest = 0 }

-- The numbers of two streams together: the sums of the first five, and the greater of the sixth.
unfoldable pub both_numbers : (one two : List ℕ) → List ℕ
unfolding greater
both_numbers one two =
    (get_or one 0 0 + get_or two 0 0) ∷ (get_or one 1 0 + get_or two 1 0) ∷ (get_or one 2 0 + get_or two 2 0) ∷ (get_or one 3 0 + get_or two 3 0)
    ∷ (get_or one 4 0 + get_or two 4 0) ∷ greater (get_or one 5 0) (get_or two 5 0) ∷ []

module _ {ℓ} (library : Library {ℓ}) where
  -- What lies in the two memories of the state after the bytes of a stream were fed in pieces, however it was cut into these: zeros at
  -- first, and then what each call leaves.
  pub data Fed : (stream numbers begun : List ℕ) → Type ℓ where
    nothing : Fed [] (replicate state_width 0) (replicate most_begun 0)
    piece : {stream : List ℕ} (x : ToFeed) (y : AfterFeed) → Fed stream x.numbers x.begun → Gave library.feed x y
        → Fed (stream ++ x.piece) y.numbers y.begun

  -- The numbers that a call gave where the stream ends.
  pub record Figured (stream numbers : List ℕ) : Type ℓ where
    pub asked : ToFinish
    pub fed : Fed stream asked.numbers asked.begun
    pub gave : Gave library.finish asked numbers

  -- "Each gets budget 1,000,000": the verifier's own answers to sheets, by a call for each.
  pub data Answered : (sheets : List (List ℕ)) (answers : List (Answer Verdict)) → Type ℓ where
    none : Answered [] []
    next : {sheets : List (List ℕ)} {answers : List (Answer Verdict)} (form : Form) (x : ToVerify) (y : AfterVerify)
        → Gave (library.verify form) x y → x.budget ≡ 1_000_000 → LongEnough x.trace → Answered sheets answers
        → Answered (x.sheet ∷ sheets) (y.answer ∷ answers)

  pub record Release : Type ℓ where
    -- "A program reads sheets from standard input, each after a 16-bit length, most significant byte first, up to the end of the input,
    -- which may be empty. Each gets budget 1,000,000, and reading ends after 65,535 lengths. It prints .. how many were valid, invalid,
    -- stopped and refused, the sum of the counts C in those answers (a stopped one's is its budget, a refused one adds 0; L is not
    -- added), and the greatest L among the invalid, 0 if there is none. A length or sheet cut by the end of input counts as one
    -- refused." (The numbers are the figures of the verifier's own answers and of what is cut, whatever the pieces.)
    pub figures_right : (sheets : List (List ℕ)) (rest : List ℕ) (cut : ℕ) → Parts sheets rest cut
        → (answers : List (Answer Verdict)) → Answered sheets answers
        → (numbers : List ℕ) → Figured (framed sheets ++ rest) numbers → numbers ≡ figure_numbers (figures_of answers cut)
    -- (Every input is such a stream; and the definition gives the same of any numbers.)
    pub every_input : (stream : List ℕ) → AllUnder 256 stream → (sheets : List (List ℕ)) × (rest : List ℕ) × (cut : ℕ)
        × AllSaid sheets × Parts sheets rest cut × (stream ≡ framed sheets ++ rest)
    pub figures_defined : (stream numbers : List ℕ) → Figured stream numbers → numbers ≡ figure_numbers (figures stream)
    -- (Whatever the pieces, the state is the same.)
    pub pieces_same : (stream numbers numbers' begun begun' : List ℕ) → Fed stream numbers begun → Fed stream numbers' begun'
        → (numbers ≡ numbers') × (begun ≡ begun')
    -- (A call that feeds says exactly then that nothing more is looked at, when 65,535 lengths are read with their sheets.)
    pub done_exactly : (stream : List ℕ) (x : ToFeed) (y : AfterFeed) → Fed stream x.numbers x.begun → Gave library.feed x y
        → AllUnder 256 (stream ++ x.piece) → (y.done ≡ true) ↔ ((sheets : List (List ℕ)) × (rest : List ℕ) × (length sheets ≡ 65_535)
        × (stream ++ x.piece ≡ framed sheets ++ rest))
    -- "It prints one line of six decimal numbers with single spaces". (An empty input prints `0 0 0 0 0 0`.)
    pub line_right : (stream numbers : List ℕ) → Figured stream numbers → (x : ToLine) (y : AfterPrint) → x.figures ≡ numbers
        → Gave library.line x y → y.lines ≡ figures_line stream
    pub empty_line : (numbers : List ℕ) → Figured [] numbers
        → numbers_line numbers ≡ 0x30 ∷ 0x20 ∷ 0x30 ∷ 0x20 ∷ 0x30 ∷ 0x20 ∷ 0x30 ∷ 0x20 ∷ 0x30 ∷ 0x20 ∷ 0x30 ∷ 0x0A ∷ []
    -- (A length of 0 is a whole sheet, refused by 2; one above 1,024 is one refused, whatever its bytes, and whether they are cut or not.)
    pub empty_sheet : (reading [] ≡ refused 2) × (figures (framed ([] ∷ [])) ≡ one_refused)
    pub long_sheet : (high low : ℕ) (bytes : List ℕ) → most_bytes < 256 * high + low → length bytes ≤ 256 * high + low
        → figures (high ∷ low ∷ bytes) ≡ one_refused
    -- "The four figures add up to the number of lengths begun,
    pub add_up : (stream : List ℕ) (valid invalid stopped refused sum greatest : ℕ)
        → Figured stream (valid ∷ invalid ∷ stopped ∷ refused ∷ sum ∷ greatest ∷ [])
        → valid + invalid + stopped + refused ≡ lengths_begun stream
    pub begun_right : (sheets : List (List ℕ)) (rest : List ℕ) (cut : ℕ) → Parts sheets rest cut
        → lengths_begun (framed sheets ++ rest) ≡ length sheets + cut
    -- and the sum is that of the verifier's own answers."
    pub sum_right : (sheets : List (List ℕ)) (rest : List ℕ) (cut : ℕ) → Parts sheets rest cut
        → (answers : List (Answer Verdict)) → Answered sheets answers → (valid invalid stopped refused sum greatest : ℕ)
        → Figured (framed sheets ++ rest) (valid ∷ invalid ∷ stopped ∷ refused ∷ sum ∷ greatest ∷ [])
        → sum ≡ sum_of (map count_in answers)
    -- (Streams that are verified side by side: whole sheets and what is laid behind them, together at most 65,535 lengths.)
    pub side_by_side : (sheets : List (List ℕ)) (rest : List ℕ) → length sheets + lengths_begun rest ≤ 65_535
        → (one two both : List ℕ) → Figured (framed sheets) one → Figured rest two → Figured (framed sheets ++ rest) both
        → both ≡ both_numbers one two
