-- Laws of answers as numbers. Assumes nothing.
use Prim.Native.Nat.{ℕ}
use mathlib.Core.Path.{◌≡◌, refl, sym, ap, subst, ◌∙◌}
use mathlib.Core.List.{List, [], ◌∷◌}
use mathlib.Core.Bool.{Bool, true, false}
use mir.Val.{bool_byte}
use native.Mathlib.Omega.{arith}
use Rattle.states.specs.declared.States.{States}
use Rattle.format.specs.Syntax.{Sheet}
use Rattle.format.specs.Format.{Answer, gives, refused}
use Rattle.reader.specs.declared.refusal.Refusal.{Refusal}
use Rattle.reader.specs.Answers.{number_of, answer_of, without_value, number_for}
use Rattle.states.specs.Sets.{words, of_words}
use Rattle.routine.specs.Tables.{start_of, TablesAfter}
use Rattle.progression.specs.declared.place.Place.{Place}
use Rattle.progression.specs.declared.reply.Passed.{Passed}
use Rattle.progression.specs.Machine.{stepped, passed_by, settled, known_by, Inside}
use Rattle.semantics.specs.Verdict.{Verdict, Verified}
use Rattle.verifier.specs.declared.verdict.Verdict.{Verdict as VerdictValue}
use Rattle.verifier.specs.declared.verdict.VerifyError.{VerifyError}
use Rattle.verifier.specs.Answers.{answer_of as verdict_of, verified_by}
use Rattle.verifier.proofs.AnswerLaws.{parts}
use Rattle.semantics.specs.Replies.{Told, at_end}
use Rattle.std.specs.Prelude.{Result, Ok, Err, MatchResult}
use Rattle.runner.specs.declared.answer.Rejection.{Rejection}
use Rattle.runner.specs.Answers.{rejection_number, reported_of}
use Rattle.runner.specs.declared.calls.Record.{Record}
use Rattle.runner.specs.Records.{sheet_in, next_on, report_on, record_after}
use Rattle.release.specs.declared.feeding.Release.{Release}
use Rattle.release.specs.Feeding.{fed, is_done, read_by, cleared_all, TablesAfterAll}
use Rattle.recovery.specs.Numbers.{memory_after, start_words, place_number, flag_number, verdict_numbers, lengths_of, told_numbers, release_numbers}

-- A truth value that the code casts to a number: yes and no; where a program settles at its end; and what is told there.
pub flag_cast : (b : Bool) → bool_byte b ≡ flag_number b
unfolding flag_number
flag_cast true = refl
flag_cast false = refl

pub place_cast : (b : Bool) → bool_byte b ≡ place_number (Place.End b)
unfolding place_number
place_cast true = refl
place_cast false = refl

pub told_cast : (b : Bool) → 1 ∷ bool_byte b ∷ [] ≡ told_numbers (at_end b)
unfolding told_numbers
told_cast true = refl
told_cast false = refl

-- An answer has the same number without its sheet.
number_without : {A : Type 0} (a : Answer A) → number_for (without_value a) ≡ number_for a
unfolding without_value number_for
number_without (gives x) = refl
number_without (refused r) = refl

-- An answer that is another's without the value has its number.
pub same_number : {A : Type 0} (answer : Answer (Unit {0})) (a : Answer A) → answer ≡ without_value a → number_for answer ≡ number_for a
same_number answer a e = ap number_for e ∙ number_without a

-- A refusal of the tables is that of the sheet, and leaves the memory of the start set as it was.
pub tables_refused : (a : Answer Sheet) (k : ℕ) → refused k ≡ start_of a → (memory : List ℕ) → (k ≡ number_for a) × (memory ≡ memory_after start_words a memory)
unfolding start_of number_for memory_after
tables_refused (gives sheet) k e memory = let w : ◌≡◌ {A = ℕ} 0 1 = cc in absurd (omega arith)
tables_refused (refused r) k e memory = (cc, refl)

-- A start set is that of an accepted sheet, and its words are written.
pub tables_ready : (a : Answer Sheet) (set : States) → gives set ≡ start_of a → (memory after : List ℕ) → after ≡ words set → (0 ≡ number_for a) × (after ≡ memory_after start_words a memory)
unfolding start_of number_for memory_after start_words
tables_ready (gives sheet) set e memory after h = (refl, cc)
tables_ready (refused r) set e memory after h = let w : ◌≡◌ {A = ℕ} 0 1 = cc in absurd (omega arith)

-- The words of a set that was lent are replaced by those after a step.
pub step_written : (heads sets memory after : List ℕ) (action reply : ℕ) (before result : States) → before ≡ of_words memory → result ≡ stepped heads sets before action reply
    → after ≡ words result → after ≡ words (stepped heads sets (of_words memory) action reply)
step_written heads sets memory after action reply before result b r w = w ∙ ap words (r ∙ ap (λ (s : States). stepped heads sets s action reply) b)

-- A pass over a set that was lent.
pub passed_lent : (heads sets memory : List ℕ) (action reply : ℕ) (before : States) (result : Passed) → before ≡ of_words memory → result ≡ passed_by heads sets before action reply
    → result ≡ passed_by heads sets (of_words memory) action reply
passed_lent heads sets memory action reply before result b r = r ∙ ap (λ (s : States). passed_by heads sets s action reply) b

-- The place where the program settles with a set that was lent.
pub place_settled : (nodes sets memory : List ℕ) (at : ℕ) (set : States) (place told : Place) → set ≡ of_words memory → told ≡ settled nodes sets set at → told ≡ place
    → place ≡ settled nodes sets (of_words memory) at
place_settled nodes sets memory at set place told s e t = sym t ∙ e ∙ ap (λ (u : States). settled nodes sets u at) s

-- Its number, and it stands inside the memory.
pub place_numbered : (nodes sets memory : List ℕ) (at : ℕ) (set : States) (place told : Place) → set ≡ of_words memory → (told ≡ settled nodes sets set at) × Inside told → told ≡ place
    → (place_number place ≡ place_number (settled nodes sets (of_words memory) at)) × Inside (settled nodes sets (of_words memory) at)
place_numbered nodes sets memory at set place told s e t =
    let is = place_settled nodes sets memory at set place told s e.0 t in
    (ap place_number is, subst Inside (t ∙ is) e.1)

-- Whether set k has every state of a set that was lent.
pub known_lent : (sets memory : List ℕ) (k : ℕ) (set : States) (told : Bool) → set ≡ of_words memory → told ≡ known_by sets set k → told ≡ known_by sets (of_words memory) k
known_lent sets memory k set told s e = e ∙ ap (λ (u : States). known_by sets u k) s

-- The numbers of a call of the verifier, from those of its answer.
pub verdict_numbers_law : (r : Result VerdictValue VerifyError) (memory : List ℕ) (v : Verified) → verified_by r memory ≡ v → (k : ℕ) (old after : List ℕ) → after ≡ memory_after verdict_numbers (verdict_of r) old → k ≡ number_for (verdict_of r)
    → (k ≡ number_for v.answer) × (memory ≡ v.memory) × (after ≡ memory_after verdict_numbers v.answer old)
verdict_numbers_law r memory v e k old after w n =
    let p = parts r memory v e in
    (n ∙ ap number_for p.0, p.1, w ∙ ap (λ (a : Answer Verdict). memory_after verdict_numbers a old) p.0)

-- What is told is written by its numbers; a refusal leaves their memory as it was.
pub told_numbers_law : (a : Answer Told) (t : Told) → gives t ≡ a → (old after : List ℕ) → after ≡ told_numbers t → (0 ≡ number_for a) × (after ≡ memory_after told_numbers a old)
unfolding number_for memory_after
told_numbers_law a t e old after w = (ap number_for e, w ∙ ap (λ (b : Answer Told). memory_after told_numbers b old) e)

pub told_refused : (a : Answer Told) (k : ℕ) → refused k ≡ a → (old : List ℕ) → (k ≡ number_for a) × (old ≡ memory_after told_numbers a old)
unfolding number_for memory_after
told_refused a k e old = (ap number_for e, ap (λ (b : Answer Told). memory_after told_numbers b old) e)

-- What is told of a record that was lent.
pub told_lent_law : (r lent : Record) (a : Answer Told) (n : ℕ) (old after : List ℕ) → r ≡ lent → a ≡ next_on r → n ≡ number_for a → after ≡ memory_after told_numbers a old
    → (n ≡ number_for (next_on lent)) × (after ≡ memory_after told_numbers (next_on lent) old)
told_lent_law r lent a n old after l e k m =
    let same = e ∙ ap next_on l in
    (k ∙ ap number_for same, m ∙ ap (λ (b : Answer Told). memory_after told_numbers b old) same)

-- Tables that were prepared for it.
pub tables_lent : (r lent : Record) → r ≡ lent → (heads nodes sets heads' nodes' sets' : List ℕ) → TablesAfter (sheet_in r) heads nodes sets heads' nodes' sets'
    → TablesAfter (sheet_in lent) heads nodes sets heads' nodes' sets'
tables_lent r lent l heads nodes sets heads' nodes' sets' t = subst (λ (x : Record). TablesAfter (sheet_in x) heads nodes sets heads' nodes' sets') l t

-- The parts of a record that lent memory keeps.
pub record_parts : (r kept : Record) → r ≡ kept → (r.sheet ≡ kept.sheet) × (r.replies ≡ kept.replies) × (lengths_of r ≡ lengths_of kept)
record_parts r kept e = (ap (λ (x : Record). x.sheet) e, ap (λ (x : Record). x.replies) e, ap lengths_of e)

-- What `code` gives for the reader's answer, and for the answer to a report.
pub answer_coded : (a : Result (Unit {0}) Refusal) (k : ℕ) → MatchResult a (λ u. k ≡ 0) (λ r. k ≡ number_of r) → k ≡ number_for (answer_of a)
unfolding answer_of number_for
answer_coded (Ok u) k e = e
answer_coded (Err r) k e = e

pub report_coded : (a : Result (Unit {0}) Rejection) (k : ℕ) → MatchResult a (λ u. k ≡ 0) (λ r. k ≡ rejection_number r) → k ≡ number_for (reported_of a)
unfolding reported_of number_for
report_coded (Ok u) k e = e
report_coded (Err r) k e = e

-- The number of a report on a record that was lent, and the parts of the record after it.
pub report_number : (r lent : Record) (reply : ℕ) (a : Answer (Unit {0})) → r ≡ lent → a ≡ without_value (report_on r reply) → number_for a ≡ number_for (report_on lent reply)
report_number r lent reply a l e = same_number a (report_on r reply) e ∙ ap (λ (x : Record). number_for (report_on x reply)) l

pub report_parts : (r lent kept : Record) (reply : ℕ) → r ≡ lent → kept ≡ record_after r reply
    → (kept.replies ≡ (record_after lent reply).replies) × (lengths_of kept ≡ lengths_of (record_after lent reply))
report_parts r lent kept reply l e =
    let after = e ∙ ap (λ (x : Record). record_after x reply) l in
    (ap (λ (x : Record). x.replies) after, ap lengths_of after)

-- The state of a stream that was lent, fed with a piece.
pub fed_lent : (state lent after : Release) (piece numbers begun : List ℕ) (r : ℕ) (b : Bool) → state ≡ lent → after ≡ fed state piece → numbers ≡ release_numbers after
    → begun ≡ after.begun.bytes → b ≡ is_done after → r ≡ flag_number b
    → (r ≡ flag_number (is_done (fed lent piece))) × (numbers ≡ release_numbers (fed lent piece)) × (begun ≡ (fed lent piece).begun.bytes)
fed_lent state lent after piece numbers begun r b l a n k d f =
    let same : after ≡ fed lent piece = a ∙ ap (λ (s : Release). fed s piece) l in
    (f ∙ ap flag_number (d ∙ ap is_done same), n ∙ ap release_numbers same, k ∙ ap (λ (s : Release). s.begun.bytes) same)

pub memo_fed : (state lent : Release) (piece : List ℕ) → state ≡ lent → (memo memo' : List ℕ) → memo' ≡ cleared_all (read_by state piece) memo → memo' ≡ cleared_all (read_by lent piece) memo
memo_fed state lent piece l memo memo' e = e ∙ ap (λ (s : Release). cleared_all (read_by s piece) memo) l

pub tables_fed : (state lent : Release) (piece : List ℕ) → state ≡ lent → (heads nodes sets heads' nodes' sets' : List ℕ)
    → TablesAfterAll (read_by state piece) heads nodes sets heads' nodes' sets' → TablesAfterAll (read_by lent piece) heads nodes sets heads' nodes' sets'
tables_fed state lent piece l heads nodes sets heads' nodes' sets' t =
    subst (λ (s : Release). TablesAfterAll (read_by s piece) heads nodes sets heads' nodes' sets') l t
