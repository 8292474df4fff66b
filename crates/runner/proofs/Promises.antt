-- The runner by its contracts: what a call may do is what the contract of its function says, as it stands in the source. (`Learnt` of a function's generated `Reads` is
-- what a caller learns from the contract; weaken a contract, and this is refused.) Assumes nothing.
use Prim.Native.Nat.{ℕ}
use mathlib.Core.List.{List}
use mathlib.Core.Path.{◌≡◌, refl, sym, ap, ◌∙◌}
use contract.Lifetimes.{Lfts}
use denote.Triple.Entry.{Args}
use denote.Triple.Clauses.{Lasts, at_exit}
use Rattle.format.specs.Format.{Answer, gives, refused, reading}
use Rattle.std.specs.Prelude.{Result}
use Rattle.reader.specs.declared.refusal.Refusal.{Refusal}
use Rattle.reader.specs.Answers.{answer_of as read_of, without_value}
use Rattle.routine.specs.Tables.{TablesAfter}
use Rattle.runner.specs.declared.calls.Record.{Record}
use Rattle.runner.specs.declared.answer.Rejection.{Rejection}
use Rattle.runner.specs.declared.answer.Told.{Told}
use Rattle.runner.specs.declared.calls.After.{After}
use Rattle.runner.specs.Records.{loaded, sheet_in, next_on, report_on, record_after}
use Rattle.runner.specs.Answers.{told_of, reported_of}
use Rattle.runner.specs.Calls.{Call, Form, own, lent, CallAnswer, done_or, told_answer, answer_on, record_left, Runner}
use Rattle.runner.proofs.ListLaws.{RunnerContracts, load_answer, next_answer, report_answer, load_left, next_left, report_left}
use Rattle.runner.specs.contracts.calls.Record.load as load
use Rattle.runner.proofs.calls.Record.load.Reads as load-reads
use Rattle.runner.specs.contracts.calls.Record.load_in as load-in
use Rattle.runner.proofs.calls.Record.load_in.Reads as load-in-reads
use Rattle.runner.specs.contracts.calls.Record.next as next
use Rattle.runner.proofs.calls.Record.next.Reads as next-reads
use Rattle.runner.specs.contracts.calls.Record.next_in as next-in
use Rattle.runner.proofs.calls.Record.next_in.Reads as next-in-reads
use Rattle.runner.specs.contracts.calls.Record.report as report
use Rattle.runner.proofs.calls.Record.report.Reads as report-reads
use Rattle.runner.specs.contracts.calls.Record.report_in as report-in
use Rattle.runner.proofs.calls.Record.report_in.Reads as report-in-reads

-- What the calls give: an answer and the record to keep.
abbrev pub AfterLoad : Type 0
AfterLoad = After (Result (Unit {0}) Refusal)

abbrev pub AfterNext : Type 0
AfterNext = After (Result Told Rejection)

abbrev pub AfterReport : Type 0
AfterReport = After (Result (Unit {0}) Rejection)

-- `Record::load` of a lent sheet; `next` and `report` on a record.
abbrev pub LoadMay : (bytes : List ℕ) → AfterLoad → Type 0
LoadMay bytes l = (κs : Lfts 1) × (a : Args load.signature κs) × (ws : Lasts load.ended κs a) × (a.0.now ≡ bytes) × load-reads.Learnt κs a l (at_exit load.ended κs a ws)

abbrev pub NextMay : Record → AfterNext → Type 0
NextMay r t = (ws : Lasts next.ended tt (r, tt)) × next-reads.Learnt tt (r, tt) t (at_exit next.ended tt (r, tt) ws)

abbrev pub ReportMay : Record → (reply : ℕ) → AfterReport → Type 0
ReportMay r x t = (ws : Lasts report.ended tt (r, (x, tt))) × report-reads.Learnt tt (r, (x, tt)) t (at_exit report.ended tt (r, (x, tt)) ws)

-- The same with lent tables, of their sizes.
abbrev pub LoadInMay : (bytes : List ℕ) → AfterLoad → Type 0
LoadInMay bytes l = (κs : Lfts 4) × (a : Args load-in.signature κs) × (ws : Lasts load-in.ended κs a) × (a.0.now ≡ bytes) × load-in-reads.Learnt κs a l (at_exit load-in.ended κs a ws)

abbrev pub NextInMay : Record → AfterNext → Type 0
NextInMay r t =
    (κs : Lfts 3) × (a : Args next-in.signature κs) × (ws : Lasts next-in.ended κs a) × (a.0 ≡ r)
    × next-in-reads.Learnt κs a t (at_exit next-in.ended κs a ws)

abbrev pub ReportInMay : Record → (reply : ℕ) → AfterReport → Type 0
ReportInMay r x t =
    (κs : Lfts 3) × (a : Args report-in.signature κs) × (ws : Lasts report-in.ended κs a) × (a.0 ≡ r) × (a.1.0 ≡ x)
    × report-in-reads.Learnt κs a t (at_exit report-in.ended κs a ws)

-- What a call may do.
abbrev pub CallMay : Form → Call → Record → CallAnswer → Record → Type 0
CallMay own (Call.load bytes) r a q = (l : AfterLoad) × LoadMay bytes l × (a ≡ done_or (read_of l.answer)) × (q ≡ l.kept)
CallMay own Call.next r a q = (t : AfterNext) × NextMay r t × (a ≡ told_answer (told_of t.answer)) × (q ≡ t.kept)
CallMay own (Call.report x) r a q = (t : AfterReport) × ReportMay r x t × (a ≡ done_or (reported_of t.answer)) × (q ≡ t.kept)
CallMay lent (Call.load bytes) r a q = (l : AfterLoad) × LoadInMay bytes l × (a ≡ done_or (read_of l.answer)) × (q ≡ l.kept)
CallMay lent Call.next r a q = (t : AfterNext) × NextInMay r t × (a ≡ told_answer (told_of t.answer)) × (q ≡ t.kept)
CallMay lent (Call.report x) r a q = (t : AfterReport) × ReportInMay r x t × (a ≡ done_or (reported_of t.answer)) × (q ≡ t.kept)

abbrev pub promised_runner : Runner {0}
promised_runner = record { Kept = Record; record_in = λ r. r; does = CallMay }

-- What the contracts say.
load_promised : (bytes : List ℕ) (l : AfterLoad) → LoadMay bytes l → (read_of l.answer ≡ without_value (reading bytes)) × (l.kept ≡ loaded bytes)
load_promised bytes l c = (c.4.0 ∙ ap (λ (b : List ℕ). without_value (reading b)) c.3, c.4.1 ∙ ap loaded c.3)

next_promised : (r : Record) (t : AfterNext) → NextMay r t → (told_of t.answer ≡ next_on r) × (t.kept ≡ r)
next_promised r t c = c.1

report_promised : (r : Record) (x : ℕ) (t : AfterReport) → ReportMay r x t → (reported_of t.answer ≡ without_value (report_on r x)) × (t.kept ≡ record_after r x)
report_promised r x t c = c.1

load_in_promised : (bytes : List ℕ) (l : AfterLoad) → LoadInMay bytes l → (read_of l.answer ≡ without_value (reading bytes)) × (l.kept ≡ loaded bytes)
load_in_promised bytes l c = (c.4.0 ∙ ap (λ (b : List ℕ). without_value (reading b)) c.3, c.4.1 ∙ ap loaded c.3)

next_in_promised : (r : Record) (t : AfterNext) → NextInMay r t → (told_of t.answer ≡ next_on r) × (t.kept ≡ r)
next_in_promised r t c = (c.4.0 ∙ ap next_on c.3, c.4.1 ∙ c.3)

report_in_promised : (r : Record) (x : ℕ) (t : AfterReport) → ReportInMay r x t → (reported_of t.answer ≡ without_value (report_on r x)) × (t.kept ≡ record_after r x)
report_in_promised r x t c =
    (c.5.0 ∙ (λ i. without_value (report_on (c.3 i) (c.4 i))), c.5.1 ∙ (λ i. record_after (c.3 i) (c.4 i)))

-- So the answer and the record after it are those of the definitions.
done_without : {A : Type 0} (x : Answer A) → done_or (without_value x) ≡ done_or x
unfolding done_or without_value
done_without (gives a) = refl
done_without (refused k) = refl

abbrev Said : Record → Call → CallAnswer → Record → Type 0
Said r c a q = (a ≡ answer_on r c) × (q ≡ record_left r c)

load_said : (bytes : List ℕ) (r : Record) (a : CallAnswer) (q : Record) (l : AfterLoad) → a ≡ done_or (read_of l.answer) → q ≡ l.kept
    → (read_of l.answer ≡ without_value (reading bytes)) × (l.kept ≡ loaded bytes) → Said r (Call.load bytes) a q
load_said bytes r a q l said kept p =
    (said ∙ ap done_or p.0 ∙ done_without (reading bytes) ∙ sym (load_answer r bytes), kept ∙ p.1 ∙ sym (load_left r bytes))

next_said : (r : Record) (a : CallAnswer) (q : Record) (t : AfterNext) → a ≡ told_answer (told_of t.answer) → q ≡ t.kept
    → (told_of t.answer ≡ next_on r) × (t.kept ≡ r) → Said r Call.next a q
next_said r a q t said kept p = (said ∙ ap told_answer p.0 ∙ sym (next_answer r), kept ∙ p.1 ∙ sym (next_left r))

report_said : (x : ℕ) (r : Record) (a : CallAnswer) (q : Record) (t : AfterReport) → a ≡ done_or (reported_of t.answer) → q ≡ t.kept
    → (reported_of t.answer ≡ without_value (report_on r x)) × (t.kept ≡ record_after r x) → Said r (Call.report x) a q
report_said x r a q t said kept p =
    (said ∙ ap done_or p.0 ∙ done_without (report_on r x) ∙ sym (report_answer r x), kept ∙ p.1 ∙ sym (report_left r x))

call_said : (form : Form) (c : Call) (r : Record) (a : CallAnswer) (q : Record) → CallMay form c r a q → Said r c a q
call_said own (Call.load bytes) r a q m = load_said bytes r a q m.0 m.2 m.3 (load_promised bytes m.0 m.1)
call_said own Call.next r a q m = next_said r a q m.0 m.2 m.3 (next_promised r m.0 m.1)
call_said own (Call.report x) r a q m = report_said x r a q m.0 m.2 m.3 (report_promised r x m.0 m.1)
call_said lent (Call.load bytes) r a q m = load_said bytes r a q m.0 m.2 m.3 (load_in_promised bytes m.0 m.1)
call_said lent Call.next r a q m = next_said r a q m.0 m.2 m.3 (next_in_promised r m.0 m.1)
call_said lent (Call.report x) r a q m = report_said x r a q m.0 m.2 m.3 (report_in_promised r x m.0 m.1)

pub runner_contracts : RunnerContracts promised_runner
runner_contracts = record { answered = call_said }

-- Behind a call lent tables hold what `prepare` writes for the sheet.
module _ (κs : Lfts 4) (a : Args load-in.signature κs) (ws : Lasts load-in.ended κs a) (l : AfterLoad) (learnt : load-in-reads.Learnt κs a l (at_exit load-in.ended κs a ws)) where
  pub load_lent : TablesAfter (reading a.0.now) a.1.0.now a.1.1.0.now a.1.1.1.0.now
      (at_exit load-in.ended κs a ws).1.0.now (at_exit load-in.ended κs a ws).1.1.0.now (at_exit load-in.ended κs a ws).1.1.1.0.now
  load_lent = learnt.2

module _ (κs : Lfts 3) (a : Args next-in.signature κs) (ws : Lasts next-in.ended κs a) (t : AfterNext) (learnt : next-in-reads.Learnt κs a t (at_exit next-in.ended κs a ws)) where
  pub next_lent : TablesAfter (sheet_in a.0) a.1.0.now a.1.1.0.now a.1.1.1.0.now
      (at_exit next-in.ended κs a ws).1.0.now (at_exit next-in.ended κs a ws).1.1.0.now (at_exit next-in.ended κs a ws).1.1.1.0.now
  next_lent = learnt.2

module _ (κs : Lfts 3) (a : Args report-in.signature κs) (ws : Lasts report-in.ended κs a) (t : AfterReport) (learnt : report-in-reads.Learnt κs a t (at_exit report-in.ended κs a ws)) where
  pub report_lent : TablesAfter (sheet_in a.0) a.1.1.0.now a.1.1.1.0.now a.1.1.1.1.0.now
      (at_exit report-in.ended κs a ws).1.1.0.now (at_exit report-in.ended κs a ws).1.1.1.0.now (at_exit report-in.ended κs a ws).1.1.1.1.0.now
  report_lent = learnt.2
