-- The terms of the demands: what a call is to leave, and what its answer is to mean.
use Rattle.std.specs.Prelude.{ℕ, ◌+◌, ◌*◌, ◌≡◌, ◌⊎◌, ◌↔◌, true, length, take, drop}
use mathlib.Core.List.{List, ◌++◌, Memᴰ}
use Rattle.lists.specs.Lists.{nonempty, Sorted, write}
use Rattle.format.specs.Syntax.{Objective, Epistemic, known, not_known, all_of, any_of, Program, end, act, branch, Sheet}
use Rattle.format.specs.Format.{Answer, gives, reading}
use Rattle.states.specs.Sets.{words, of_words}
use Rattle.reader.specs.Answers.{without_value}
use Rattle.semantics.specs.Runs.{History}
use Rattle.semantics.specs.Routine.{Following, Failing}
use Rattle.semantics.specs.Verdict.{history_count, invalid, trace, admitted, verified, HistoryBefore, TraceBefore}
use Rattle.semantics.specs.Checker.{checked}
use Rattle.semantics.specs.Printing.{printed, numbers_line}
use Rattle.semantics.specs.Figures.{figure_numbers}
use Rattle.verifier.specs.Answers.{cleared}
use Rattle.progression.specs.Machine.{passed_by}
use Rattle.runner.specs.Records.{loaded, sheet_in, next_on, report_on, record_after}
use Rattle.runner.specs.Calls.{Form, own, lent}
use Rattle.release.specs.Counting.{meant_by}
use Rattle.release.specs.Feeding.{fed, is_done, ended, read_by, cleared_all}
use Rattle.recovery.specs.Numbers.{memory_after, start_words, verdict_numbers, told_numbers, lent_release, release_numbers}
use Rattle.recovery.specs.Arguments.{Tables, tables_after, tables_after_all}
use Rattle.claims.specs.Library.{ToVerify, AfterVerify, ToCheck, AfterCheck, ToPrint, AfterPrint, ToPrepare, AfterPrepare}
use Rattle.claims.specs.Library.{ToPass, AfterPass}
use Rattle.claims.specs.Library.{ToLoad, AfterLoad, ToNext, AfterNext, ToReport, AfterReport}
use Rattle.claims.specs.Library.{ToFeed, AfterFeed, ToFinish, ToLine}

-- The trace memory has only its old bytes, and the answer is not "invalid"; or it begins with the trace of a failing run, and it is.
unfoldable pub OnlyOldBytes : ToVerify → AfterVerify → Type 0
OnlyOldBytes x y = (y.trace ≡ x.trace) × ((c l : ℕ) → y.answer ≡ gives (invalid c l) → ⊥)

pub record FailingTrace (x : ToVerify) (y : AfterVerify) : Type 0 where
  pub sheet : Sheet
  pub history : History
  pub run : List ℕ
  pub read : reading x.sheet ≡ gives sheet
  pub failing : Failing sheet history run
  pub said : y.answer ≡ gives (invalid (history_count sheet) (length history))
  pub shown : y.trace ≡ trace history run ++ drop (length (trace history run)) x.trace
  pub as_long : length y.trace ≡ length x.trace

-- The answers that document 01 fixes, and what is then in every memory that was lent. The form that works in lent tables leaves in them
-- those of the sheet, and the memo cleared; a refusal leaves them as they were.
unfoldable pub tables_left : Form → Answer Sheet → Tables → Tables
tables_left own answer t = t
tables_left lent answer t = tables_after answer t

unfoldable pub memo_left : Form → Answer Sheet → List ℕ → List ℕ
unfolding cleared
memo_left own answer memo = memo
memo_left lent answer memo = cleared answer memo

unfoldable pub verified_as : Form → ToVerify → AfterVerify
unfolding verified admitted memory_after verdict_numbers tables_left memo_left
verified_as form x = record {
  answer = (verified x.sheet x.budget x.trace).answer;
  trace = (verified x.sheet x.budget x.trace).memory;
  verdict = memory_after verdict_numbers (verified x.sheet x.budget x.trace).answer x.verdict;
  tables = tables_left form (admitted x.sheet x.trace) x.tables;
  memo = memo_left form (admitted x.sheet x.trace) x.memo;
}

unfoldable pub checked_as : Form → ToCheck → AfterCheck
unfolding checked tables_left reading
checked_as form x = record { answer = checked x.sheet x.trace; tables = tables_left form (reading x.sheet) x.tables }

unfoldable pub printed_as : ToPrint → AfterPrint
unfolding printed write
printed_as x = record { lines = printed x.sheet; out = write x.out 0 (printed x.sheet) }

unfoldable pub prepared_as : ToPrepare → AfterPrepare
unfolding without_value reading memory_after start_words
prepared_as x = record {
  answer = without_value (reading x.sheet);
  tables = tables_after (reading x.sheet) x.tables;
  start = memory_after start_words (reading x.sheet) x.start;
}

unfoldable pub passed_as : ToPass → AfterPass
unfolding passed_by words of_words
passed_as x =
    let passed = passed_by x.tables.heads x.tables.sets (of_words x.set) x.action x.reply in
    record { possible = passed.possible; kept = words passed.kept; evaluations = passed.evaluations }

unfoldable pub loaded_as : Form → ToLoad → AfterLoad
unfolding without_value reading loaded tables_left
loaded_as form x = record {
  answer = without_value (reading x.sheet);
  kept = loaded x.sheet;
  tables = tables_left form (reading x.sheet) x.tables;
}

unfoldable pub told_as : Form → ToNext → AfterNext
unfolding next_on memory_after told_numbers sheet_in tables_left
told_as form x = record {
  answer = next_on x.kept;
  kept = x.kept;
  told = memory_after told_numbers (next_on x.kept) x.told;
  tables = tables_left form (sheet_in x.kept) x.tables;
}

unfoldable pub reported_as : Form → ToReport → AfterReport
unfolding without_value report_on record_after sheet_in tables_left
reported_as form x = record {
  answer = without_value (report_on x.kept x.reply);
  kept = record_after x.kept x.reply;
  tables = tables_left form (sheet_in x.kept) x.tables;
}

-- Of the functions of a stream's figures, for any numbers in the memory of its state.
unfoldable pub fed_as : ToFeed → AfterFeed
unfolding lent_release is_done release_numbers fed read_by cleared_all
fed_as x =
    let state = lent_release x.numbers x.begun in
    record {
      done = is_done (fed state x.piece);
      numbers = release_numbers (fed state x.piece);
      begun = (fed state x.piece).begun.bytes;
      tables = tables_after_all (read_by state x.piece) x.tables;
      memo = cleared_all (read_by state x.piece) x.memo;
    }

unfoldable pub finished_as : ToFinish → List ℕ
unfolding figure_numbers meant_by ended lent_release
finished_as x = figure_numbers (meant_by (ended (lent_release x.numbers x.begun)))

unfoldable pub line_as : ToLine → AfterPrint
unfolding numbers_line write
line_as x = record { lines = numbers_line x.figures; out = write x.out 0 (numbers_line x.figures) }

-- Every memory that was lent is as it was.
unfoldable pub AsBefore : ToVerify → AfterVerify → Type 0
AsBefore x y = (y.trace ≡ x.trace) × (y.verdict ≡ x.verdict) × (y.tables ≡ x.tables) × (y.memo ≡ x.memo)

-- A formula that the sheet tests: under "known" or "not known" in the goal or in a condition of the program.
unfoldable pub Atom : Objective → Epistemic → Type 0
Atom f (known g) = f ≡ g
Atom f (not_known g) = f ≡ g
Atom f (all_of a b) = Atom f a ⊎ Atom f b
Atom f (any_of a b) = Atom f a ⊎ Atom f b

unfoldable pub Condition : Epistemic → Program → Type 0
Condition e end = ⊥
Condition e (act a rest) = Condition e rest
Condition e (branch c y z rest) = (e ≡ c) ⊎ (Condition e y ⊎ (Condition e z ⊎ Condition e rest))

unfoldable pub Tested : Objective → Sheet → Type 0
unfolding Atom Condition
Tested f sheet = Atom f sheet.goal ⊎ ((e : Epistemic) × Condition e sheet.program × Atom f e)

-- The number is that of the non-empty histories of runs that follow the routine, in order and so each once: all of them if no full one
-- fails the goal, else those up to and including the first that does.
pub record CountsHistories (sheet : Sheet) (count : ℕ) : Type 0 where
  pub histories : List History
  pub number : length histories ≡ count
  pub in_order : Sorted HistoryBefore histories
  pub exactly : (h : History) → Memᴰ h histories ↔ ((nonempty h ≡ true) × ((run : List ℕ) × Following sheet h run)
      × ((g : History) (other : List ℕ) → Failing sheet g other → (h ≡ g) ⊎ HistoryBefore h g))

-- "Some full run following the routine fails the goal."
unfoldable pub SomeRunFails : Sheet → Type 0
SomeRunFails sheet = (h : History) × (run : List ℕ) × Failing sheet h run

-- The trace memory begins with the trace of a failing run of l actions, and every other failing run comes later.
pub record LeastShown (sheet : Sheet) (l : ℕ) (memory : List ℕ) : Type 0 where
  pub history : History
  pub run : List ℕ
  pub failing : Failing sheet history run
  pub of_length : length history ≡ l
  pub shown : take (1 + 2 * l) memory ≡ trace history run
  pub others : (g : History) (other : List ℕ) → Failing sheet g other → ((g ≡ history) × (other ≡ run)) ⊎ TraceBefore history run g other
