-- The lines that `planverify` prints, as bytes. Document 01, "The trace checker and the command".
use Rattle.std.specs.Prelude.{if◌then◌else◌, ℕ, zero, suc, ◌+◌, ◌/◌, ◌%◌, List, [], ◌∷◌, ◌++◌, ltb}
use Rattle.format.specs.Format.{Answer, gives, refused, reading}
use Rattle.semantics.specs.Verdict.{Verdict, valid, invalid, stopped, outcome_of, verdict_of, shown_by}

-- The bytes of a space and of a line feed.
abbrev pub space : ℕ
space = 0x20

abbrev pub line_feed : ℕ
line_feed = 0x0A

-- The digit of a number below 16, lower-case.
unfoldable pub digit : ℕ → ℕ
digit d = if ltb d 10 then 0x30 + d else 0x57 + d

-- A number in decimal, without leading zeros. The first argument bounds the number of digits; proofs/PrintingLaws.antt has the equations without it.
unfoldable pub decimal_within : (digits n : ℕ) → List ℕ
unfolding digit
decimal_within zero n = []
decimal_within (suc digits) n =
    let higher = decimal_within digits (n / 10) in
    (if ltb n 10 then [] else higher) ++ (digit (n % 10) ∷ [])

unfoldable pub decimal : ℕ → List ℕ
unfolding decimal_within
decimal n = decimal_within (suc n) n

-- Bytes, "two lower-case hexadecimal digits a byte, single spaces between".
unfoldable pub hexadecimal : List ℕ → List ℕ
unfolding digit
hexadecimal [] = []
hexadecimal (b ∷ []) = digit (b / 16) ∷ digit (b % 16) ∷ []
hexadecimal (b ∷ c ∷ rest) = digit (b / 16) ∷ digit (b % 16) ∷ space ∷ hexadecimal (c ∷ rest)

-- The words "valid", "invalid", "stopped" and "refused".
abbrev pub valid_word : List ℕ
valid_word = 0x76 ∷ 0x61 ∷ 0x6C ∷ 0x69 ∷ 0x64 ∷ []

abbrev pub invalid_word : List ℕ
invalid_word = 0x69 ∷ 0x6E ∷ valid_word

abbrev pub stopped_word : List ℕ
stopped_word = 0x73 ∷ 0x74 ∷ 0x6F ∷ 0x70 ∷ 0x70 ∷ 0x65 ∷ 0x64 ∷ []

abbrev pub refused_word : List ℕ
refused_word = 0x72 ∷ 0x65 ∷ 0x66 ∷ 0x75 ∷ 0x73 ∷ 0x65 ∷ 0x64 ∷ []

-- A number behind a space, and a line's end.
abbrev pub behind_space : ℕ → List ℕ
behind_space n = space ∷ decimal n

abbrev pub end_line : List ℕ
end_line = line_feed ∷ []

-- What an answer prints, with the trace that is shown: "`valid C`, `invalid C L`, `stopped C` or `refused R`", "all decimal; each line ends with
-- a line feed. After `invalid` a second line gives the trace".
unfoldable pub printed_for : Answer Verdict → (shown : List ℕ) → List ℕ
unfolding decimal hexadecimal
printed_for (refused r) shown = refused_word ++ behind_space r ++ end_line
printed_for (gives (valid c)) shown = valid_word ++ behind_space c ++ end_line
printed_for (gives (stopped b)) shown = stopped_word ++ behind_space b ++ end_line
printed_for (gives (invalid c l)) shown = invalid_word ++ behind_space c ++ behind_space l ++ end_line ++ hexadecimal shown ++ end_line

-- A line of decimal numbers "with single spaces" (document 02).
unfoldable pub spaced : List ℕ → List ℕ
unfolding decimal
spaced [] = []
spaced (n ∷ []) = decimal n
spaced (n ∷ m ∷ rest) = decimal n ++ (space ∷ spaced (m ∷ rest))

unfoldable pub numbers_line : List ℕ → List ℕ
unfolding spaced
numbers_line numbers = spaced numbers ++ end_line

-- The bytes that are lent for the lines, in which those of every sheet have room.
abbrev pub most_lines : ℕ
most_lines = 512

-- What `planverify` prints for the bytes of its standard input, "budget 1,000,000".
unfoldable pub printed : (bytes : List ℕ) → List ℕ
unfolding printed_for outcome_of reading verdict_of shown_by
printed bytes = let o = outcome_of (reading bytes) 1_000_000 in printed_for (verdict_of o) (shown_by o)
