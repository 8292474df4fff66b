-- Calls of the runner, one after the other on what keeps the record. Document 01, "The runner": "The first call gets the record that
-- loading the sheet returned; each later one gets the record that the call before it returned, refused or not; nobody else writes it
-- meanwhile."
use Rattle.std.specs.Prelude.{ℕ, ◌<◌, ◌^◌, ◌≡◌, refl, List, [], ◌∷◌, ◌++◌, Bool, true, length}
use Rattle.lists.specs.Lists.{AllUnder}
use Rattle.format.specs.Syntax.{Sheet}
use Rattle.format.specs.Format.{Answer, gives, refused, reading}
use Rattle.semantics.specs.Runs.{Entry, History, replies}
use Rattle.semantics.specs.Routine.{Following, Full}
use Rattle.semantics.specs.Replies.{Told, to_do, at_end}
use Rattle.semantics.specs.Cases.{sheet1}
use Rattle.runner.specs.declared.calls.Record.{Record}
use Rattle.runner.specs.Records.{loaded, next_on, report_on, record_after}

-- A call: loading the bytes of a sheet, "Next", or "Report" of a reply; in tables of the function's own, or in tables that the caller
-- lends.
pub data Call : Type 0 where
  load : (bytes : List ℕ) → Call
  next : Call
  report : (reply : ℕ) → Call

pub data Form : Type 0 where
  own : Form
  lent : Form

-- An answer: done, what "Next" tells, or a refusal with document 01's number.
pub data CallAnswer : Type 0 where
  done : CallAnswer
  act : (action : ℕ) → CallAnswer
  ended : (goal : Bool) → CallAnswer
  refuses : (number : ℕ) → CallAnswer

unfoldable pub done_or : {A : Type 0} → Answer A → CallAnswer
done_or (gives x) = done
done_or (refused k) = refuses k

unfoldable pub told_answer : Answer Told → CallAnswer
told_answer (gives (to_do a)) = act a
told_answer (gives (at_end goal)) = ended goal
told_answer (refused k) = refuses k

-- The answer to a call on a record, and the record after it.
unfoldable pub answer_on : Record → Call → CallAnswer
unfolding done_or told_answer reading next_on report_on
answer_on r (load bytes) = done_or (reading bytes)
answer_on r next = told_answer (next_on r)
answer_on r (report x) = done_or (report_on r x)

unfoldable pub record_left : Record → Call → Record
unfolding loaded record_after
record_left r (load bytes) = loaded bytes
record_left r next = r
record_left r (report x) = record_after r x

-- So the answers to a list of calls, by the record and the calls alone.
unfoldable pub answers_on : Record → List Call → List CallAnswer
unfolding answer_on record_left
answers_on r [] = []
answers_on r (c ∷ cs) = answer_on r c ∷ answers_on (record_left r c) cs

-- Document 01's case 1, evaluated: action 0 is told, a third reply is refused, reply 0 is accepted and ends the routine with the goal.
case_1 : answers_on (loaded sheet1) (next ∷ report 2 ∷ report 0 ∷ next ∷ report 0 ∷ [])
    ≡ act 0 ∷ refuses 33 ∷ done ∷ ended true ∷ refuses 32 ∷ []
unfolding answers_on loaded
case_1 = refl

-- What is passed of a call is bytes, and a sheet of under 2^63 of them.
unfoldable pub CallFits : Call → Type 0
unfolding AllUnder
CallFits (load bytes) = (length bytes < 2 ^ 63) × AllUnder (2 ^ 8) bytes
CallFits next = Unit {0}
CallFits (report x) = x < 2 ^ 8

unfoldable pub AllCallsFit : List (Form × Call) → Type 0
unfolding CallFits
AllCallsFit [] = Unit {0}
AllCallsFit (c ∷ cs) = CallFits c.1 × AllCallsFit cs

-- A runner: what keeps the record from call to call (the record itself, or memory that holds it), and what a call may do: its answer,
-- and what is kept then.
pub record Runner {ℓ} : Type (ℓ + 1) where
  pub Kept : Type ℓ
  pub record_in : Kept → Record
  pub does : Form → Call → Kept → CallAnswer → Kept → Type ℓ

-- A call with its answer.
pub record Event : Type 0 where
  pub form : Form
  pub call : Call
  pub answer : CallAnswer

-- "The replies accepted so far are taken from these calls and their answers, in order, and not from the record."
unfoldable pub accepted_one : Call → CallAnswer → List ℕ
accepted_one (load bytes) a = []
accepted_one next a = []
accepted_one (report x) done = x ∷ []
accepted_one (report x) (act action) = []
accepted_one (report x) (ended goal) = []
accepted_one (report x) (refuses number) = []

unfoldable pub accepted_in : List Event → List ℕ
unfolding accepted_one
accepted_in [] = []
accepted_in (e ∷ es) = accepted_one e.call e.answer ++ accepted_in es

-- "Next" and "Report" are the calls on a record; a list of them alone.
unfoldable pub OnRecord : Call → Type 0
OnRecord (load bytes) = ⊥
OnRecord next = Unit {0}
OnRecord (report x) = Unit {0}

unfoldable pub AllOnRecord : List Event → Type 0
unfolding OnRecord
AllOnRecord [] = Unit {0}
AllOnRecord (e ∷ es) = OnRecord e.call × AllOnRecord es

module _ {ℓ} (runner : Runner {ℓ}) where
  -- Calls that were made, each on what the call before it left.
  pub data Calls : runner.Kept → List Event → runner.Kept → Type ℓ where
    none : {k : runner.Kept} → Calls k [] k
    one : {k l m : runner.Kept} {es : List Event} (form : Form) (call : Call) (answer : CallAnswer) → runner.does form call k answer l
        → Calls l es m
        → Calls k (record { form = form; call = call; answer = answer } ∷ es) m
    -- Between two calls other memory may be written, and the record moved: "nobody else writes it meanwhile".
    meanwhile : {k l m : runner.Kept} {es : List Event} → runner.record_in k ≡ runner.record_in l → Calls l es m → Calls k es m

  -- "A record freshly loaded with the sheet."
  pub record Fresh (sheet : Sheet) : Type ℓ where
    pub bytes : List ℕ
    pub read : reading bytes ≡ gives sheet
    pub form : Form
    pub before : runner.Kept
    pub kept : runner.Kept
    pub did : runner.does form (load bytes) before done kept

  -- "Any list of "Next" and "Report" calls, refused ones included", from it.
  pub record Listed {sheet : Sheet} (fresh : Fresh sheet) : Type ℓ where
    pub events : List Event
    pub only : AllOnRecord events
    pub last : runner.Kept
    pub calls : Calls fresh.kept events last

-- The replies are those of a full run following the routine.
pub record FullReplies (sheet : Sheet) (rs : List ℕ) : Type 0 where
  pub history : History
  pub run : List ℕ
  pub full : Full sheet history run
  pub of_replies : replies history ≡ rs

-- "The action that comes next in every longer run following the routine whose replies begin with them."
unfoldable pub NextInLonger : Sheet → List ℕ → (a : ℕ) → Type 0
NextInLonger sheet rs a =
    (h : History) (e : Entry) (g : History) (run : List ℕ) → Following sheet (h ++ (e ∷ g)) run → replies h ≡ rs → e.action ≡ a
