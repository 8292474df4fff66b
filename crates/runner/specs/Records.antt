-- The record, and what loading, "Next" and "Report" make of it. Document 01, "The runner" and "From the memory and the record".
use Rattle.std.specs.Prelude.{if◌then◌else◌, ℕ, ◌-◌, List, [], ◌∷◌, ◌++◌, ◌≡◌, refl, Bool, true, false, ◌&&◌, leb, eqb, length, replicate, take, drop}
use Rattle.lists.specs.Lists.{every}
use Rattle.format.specs.Syntax.{Sheet}
use Rattle.format.specs.Format.{Answer, gives, refused, on_accepted, given_or, most_bytes, most_acts, reading}
use Rattle.semantics.specs.Replies.{Told, to_do, at_end, told, reported, are_of_run}
use Rattle.semantics.specs.Cases.{sheet1, sheet2}
use Rattle.runner.specs.declared.calls.Record.{Record}
use Rattle.runner.specs.Answers.{rejection_number, bad_record}

-- "Bytes past the lengths are 0": bytes, and zeros behind them up to a length.
unfoldable pub padded : (l : ℕ) → List ℕ → List ℕ
padded l xs = xs ++ replicate (l - length xs) 0

unfoldable pub are_zero : List ℕ → Bool
unfolding every
are_zero xs = every (λ b. eqb b 0) xs

-- "The record holds a 1,024-byte sheet, its length, 64 reply bytes and their count": that of a sheet's bytes and some replies.
-- Loading and an accepted report give such records, and 31 refuses all others (HeldLaws, `held_record`, for arrays of the lengths that their types fix).
unfoldable pub record_of : (bytes rs : List ℕ) → Record
unfolding padded
record_of bytes rs = record { sheet = padded most_bytes bytes; len = length bytes; replies = padded most_acts rs; count = length rs }

-- "A refused loading returns a record of zeros."
unfoldable pub zeros : Record
zeros = record { sheet = replicate most_bytes 0; len = 0; replies = replicate most_acts 0; count = 0 }

-- "Loading gives a record with no replies."
unfoldable pub loaded : (bytes : List ℕ) → Record
unfolding given_or record_of zeros reading
loaded bytes = given_or zeros (λ sheet. record_of bytes []) (reading bytes)

-- The bytes of a record's sheet, and its replies: those before the lengths.
unfoldable pub held_sheet : Record → List ℕ
held_sheet r = take r.len r.sheet

unfoldable pub held_replies : Record → List ℕ
held_replies r = take r.count r.replies

-- A length is at most what an array holds, and no "byte past a length isn't 0".
unfoldable pub is_padded : (most : ℕ) (bytes : List ℕ) (n : ℕ) → Bool
unfolding are_zero
is_padded most bytes n = leb n most && are_zero (drop n bytes)

-- What 31 asks of the sheet and its length: the sheet, unless "the record's sheet would be refused", as one of more than 1,024 bytes is, or a byte past the length isn't 0.
unfoldable pub sheet_in : Record → Answer Sheet
unfolding is_padded reading held_sheet rejection_number
sheet_in r = if is_padded most_bytes r.sheet r.len then reading (held_sheet r) else bad_record

-- What 31 asks of replies and their count: a byte past the count is 0, "the reply count is above 64" isn't so, and the replies are "those of a run following the routine".
unfoldable pub are_replies : Sheet → (replies : List ℕ) (count : ℕ) → Bool
unfolding is_padded are_of_run
are_replies sheet replies count = is_padded most_acts replies count && are_of_run sheet (take count replies)

-- What is given and passes a test; else 31.
unfoldable pub passing : {A : Type 0} → (A → Bool) → Answer A → Answer A
unfolding given_or rejection_number
passing test answer = given_or bad_record (λ a. if test a then gives a else bad_record) answer

-- The sheet of a record, or 31.
unfoldable pub held_by : Record → Answer Sheet
unfolding passing sheet_in are_replies
held_by r = passing (λ sheet. are_replies sheet r.replies r.count) (sheet_in r)

-- "Next" tells the action to do, or that the routine is at its end and whether the goal holds; it "gives only 31".
unfoldable pub next_on : Record → Answer Told
unfolding on_accepted told held_by held_replies
next_on r = on_accepted (λ sheet. gives (told sheet (held_replies r))) (held_by r)

-- "Report" adds one reply: the replies then. It gives 31, and then 32, 33, 34 "in that order".
unfoldable pub report_on : Record → (reply : ℕ) → Answer (List ℕ)
unfolding on_accepted reported held_by held_replies
report_on r reply = on_accepted (λ sheet. reported sheet (held_replies r) reply) (held_by r)

-- The record with the replies then; after a refusal "The record comes back unchanged".
unfoldable pub record_after : Record → (reply : ℕ) → Record
unfolding given_or record_of held_sheet report_on
record_after r reply = given_or r (record_of (held_sheet r)) (report_on r reply)

-- Examples, evaluated. The sheets of cases 1 and 2 of document 01: one fact, of which nothing is known, and action 0, which asks for it (reply 0: it is true; 1: it is
-- false) and is the whole routine. In case 1 the goal is that one knows whether the fact is true, in case 2 that one knows that it is. `twice` is case 2 with the action done twice.
abbrev twice : List ℕ
twice = 0x11 ∷ 0x0C ∷ 0x90 ∷ 0x88 ∷ 0x11 ∷ 0x04 ∷ 0x08 ∷ 0x00 ∷ []

-- No byte is no sheet: loading gives the record of zeros, which "Next" refuses.
nothing_loaded : loaded [] ≡ zeros
unfolding loaded
nothing_loaded = refl

zeros_refused : next_on zeros ≡ refused 31
unfolding next_on zeros
zeros_refused = refl

-- Case 1: loading gives no replies; action 0 is told.
loaded_empty : (loaded sheet1).count ≡ 0
unfolding loaded
loaded_empty = refl

first_told : next_on (loaded sheet1) ≡ gives (to_do 0)
unfolding next_on loaded
first_told = refl

-- Reply 0 is true in one of the two states still possible, and is accepted; with it the routine is at its end, and the goal holds.
one_state_enough : report_on (loaded sheet1) 0 ≡ gives (0 ∷ [])
unfolding report_on loaded
one_state_enough = refl

goal_told : next_on (record_after (loaded sheet1) 0) ≡ gives (at_end true)
unfolding next_on record_after loaded
goal_told = refl

-- Case 2: with reply 1 the goal fails.
failure_told : next_on (record_after (loaded sheet2) 1) ≡ gives (at_end false)
unfolding next_on record_after loaded
failure_told = refl

-- No third reply; no reply past the end; the second answer to the same question can't be the other one.
no_third_reply : report_on (loaded sheet1) 2 ≡ refused 33
unfolding report_on loaded
no_third_reply = refl

nothing_past_the_end : report_on (record_of sheet1 (0 ∷ [])) 0 ≡ refused 32
unfolding report_on record_of
nothing_past_the_end = refl

other_answer : report_on (record_of twice (0 ∷ [])) 1 ≡ refused 34
unfolding report_on record_of
other_answer = refl

same_answer : record_after (record_of twice (0 ∷ [])) 0 ≡ record_of twice (0 ∷ 0 ∷ [])
unfolding record_after record_of
same_answer = refl

-- "Tested in that order": a third reply then is 33, though no state allows it.
had_before_possible : report_on (record_of twice (0 ∷ [])) 2 ≡ refused 33
unfolding report_on record_of
had_before_possible = refl

-- After a refusal "The record comes back unchanged".
kept_on_refusal : record_after (record_of twice (0 ∷ [])) 1 ≡ record_of twice (0 ∷ [])
unfolding record_after record_of
kept_on_refusal = refl

-- 31: a byte that isn't 0 past a length; one reply more than the routine takes; replies of no run.
byte_past_length : next_on (record { sheet = padded most_bytes (sheet1 ++ (1 ∷ [])); len = 9; replies = padded most_acts []; count = 0 }) ≡ refused 31
unfolding next_on padded
byte_past_length = refl

reply_past_count : next_on (record { sheet = padded most_bytes sheet1; len = 9; replies = padded most_acts (1 ∷ []); count = 0 }) ≡ refused 31
unfolding next_on padded
reply_past_count = refl

one_reply_more : next_on (record_of sheet1 (0 ∷ 0 ∷ [])) ≡ refused 31
unfolding next_on record_of
one_reply_more = refl

replies_of_no_run : next_on (record_of twice (0 ∷ 1 ∷ [])) ≡ refused 31
unfolding next_on record_of
replies_of_no_run = refl
