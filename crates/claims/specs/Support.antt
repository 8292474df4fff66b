-- What supports the demands: there are the calls of which they speak, for all numbers of the machine's sizes, and one leads to the next.
use Rattle.std.specs.Prelude.{ℕ, ◌+◌, ◌^◌, ◌<◌, ◌≡◌, length}
use mathlib.Core.List.{List, [], ◌∷◌, map, flat_map}
use Rattle.lists.specs.Lists.{AllUnder}
use Rattle.format.specs.Format.{Answer, most_bytes, most_acts}
use Rattle.semantics.specs.Verdict.{Verdict}
use Rattle.semantics.specs.Printing.{most_lines}
use Rattle.progression.specs.declared.place.Place.{Place as Stop}
use Rattle.runner.specs.declared.calls.Record.{Record}
use Rattle.runner.specs.Calls.{Form, Call, answers_on, Event, AllCallsFit, Calls}
use Rattle.recovery.specs.Arguments.{Tables, set_width, heads_width, nodes_width, sets_width, memo_width, verdict_width, told_width}
use Rattle.recovery.specs.Arguments.{evaluations_width, state_width, figures_width}
use Rattle.release.specs.Framing.{most_begun}
use Rattle.claims.specs.Library.{Library, Gave, CanBeCalled}
use Rattle.claims.specs.Library.{ToVerify, ToPrepare, AfterPrepare, ToStep, ToPass, AfterPass, ToSettle, ToFeed, AfterFeed}
use Rattle.claims.specs.Release.{Figured, Answered}

-- Numbers of so many bits, and how many; bytes of a slice.
pub record Numbers (bits count : ℕ) (xs : List ℕ) : Type 0 where
  pub long : length xs ≡ count
  pub small : AllUnder (2 ^ bits) xs

pub record Bytes (xs : List ℕ) : Type 0 where
  pub short : length xs < 2 ^ 63
  pub small : AllUnder (2 ^ 8) xs

unfoldable pub AllBytes : List (List ℕ) → Type 0
AllBytes [] = Unit {0}
AllBytes (xs ∷ rest) = Bytes xs × AllBytes rest

-- Tables, a set, the arguments of each function and what lies in memory, of the machine's sizes.
pub record TablesFit (t : Tables) : Type 0 where
  pub heads : Numbers 16 heads_width t.heads
  pub nodes : Numbers 16 nodes_width t.nodes
  pub sets : Numbers 64 sets_width t.sets

abbrev pub SetFits : List ℕ → Type 0
SetFits set = Numbers 64 set_width set

pub record VerifyFits (x : ToVerify) : Type 0 where
  pub sheet : Bytes x.sheet
  pub budget : x.budget < 2 ^ 32
  pub trace : Bytes x.trace
  pub verdict : Numbers 64 verdict_width x.verdict
  pub tables : TablesFit x.tables
  pub memo : Numbers 64 memo_width x.memo

pub record RecordFits (r : Record) : Type 0 where
  pub sheet : Numbers 8 most_bytes r.sheet
  pub len : r.len < 2 ^ 64
  pub replies : Numbers 8 most_acts r.replies
  pub count : r.count < 2 ^ 64

module _ {ℓ} (library : Library {ℓ}) where
  pub record Support : Type ℓ where
    -- Whatever the bytes, the tables and the record, damaged or not, the call can be made.
    pub can_read : CanBeCalled library.read Bytes
    pub can_verify : (form : Form) → CanBeCalled (library.verify form) VerifyFits
    pub can_check : (form : Form) → CanBeCalled (library.check form) (λ x. Bytes x.sheet × Bytes x.trace × TablesFit x.tables)
    pub can_print : CanBeCalled library.print (λ x. Bytes x.sheet × Numbers 8 most_lines x.out)
    pub can_prepare : CanBeCalled library.prepare (λ x. Bytes x.sheet × TablesFit x.tables × SetFits x.start)
    pub can_step : CanBeCalled library.step (λ x. TablesFit x.tables × SetFits x.set × (x.action < 2 ^ 64) × (x.reply < 2 ^ 64))
    pub can_pass : CanBeCalled library.pass
        (λ x. TablesFit x.tables × SetFits x.set × (x.action < 2 ^ 64) × (x.reply < 2 ^ 64)
        × Numbers 64 evaluations_width x.evaluations)
    pub can_settle : CanBeCalled library.settle (λ x. TablesFit x.tables × SetFits x.set × (x.at < 2 ^ 64))
    pub can_know : CanBeCalled library.know (λ x. TablesFit x.tables × SetFits x.set × (x.formula < 2 ^ 64))
    pub can_load : (form : Form) → CanBeCalled (library.load form) (λ x. Bytes x.sheet × RecordFits x.kept × TablesFit x.tables)
    pub can_next : (form : Form) → CanBeCalled (library.next form)
        (λ x. RecordFits x.kept × Numbers 64 told_width x.told × TablesFit x.tables)
    pub can_report : (form : Form) → CanBeCalled (library.report form)
        (λ x. RecordFits x.kept × (x.reply < 2 ^ 8) × TablesFit x.tables)
    pub can_feed : CanBeCalled library.feed
        (λ x. Bytes x.piece × Numbers 64 state_width x.numbers × Numbers 8 most_begun x.begun × TablesFit x.tables
        × Numbers 64 memo_width x.memo)
    pub can_finish : CanBeCalled library.finish
        (λ x. Numbers 64 state_width x.numbers × Numbers 8 most_begun x.begun × Numbers 64 figures_width x.figures)
    pub can_line : CanBeCalled library.line (λ x. Numbers 64 figures_width x.figures × Numbers 8 most_lines x.out)
    -- One call leads to the next: what it gave is of these sizes again.
    pub prepared_fit : (x : ToPrepare) (y : AfterPrepare) → Gave library.prepare x y → TablesFit x.tables → SetFits x.start
        → TablesFit y.tables × SetFits y.start
    pub stepped_fit : (x : ToStep) (set : List ℕ) → Gave library.step x set → SetFits set
    pub passed_fit : (x : ToPass) (y : AfterPass) → Gave library.pass x y
        → SetFits y.kept × Numbers 64 evaluations_width (y.evaluations ∷ [])
    pub settled_fit : (x : ToSettle) (node a : ℕ) → Gave library.settle x (Stop.Act node a) → (node + 1 < 2 ^ 64) × (a < 2 ^ 64)
    pub fed_fit : (x : ToFeed) (y : AfterFeed) → Gave library.feed x y → Bytes x.piece → Numbers 64 state_width x.numbers
        → Numbers 8 most_begun x.begun → TablesFit x.tables → Numbers 64 memo_width x.memo
        → Numbers 64 state_width y.numbers × Numbers 8 most_begun y.begun × TablesFit y.tables × Numbers 64 memo_width y.memo
    -- Every record lies somewhere, damaged or not; and on the record of any memory every list of calls of bytes is made, each in its form.
    -- (Where there is no room for what else a call is lent, from another memory with that record: `meanwhile`.)
    pub kept_somewhere : (r : Record) → RecordFits r → ∥ ((k : library.runner.Kept) × (library.runner.record_in k ≡ r)) ∥₁
    pub lists_run : (cs : List (Form × Call)) → AllCallsFit cs → (k : library.runner.Kept)
        → ∥ ((es : List Event) × (l : library.runner.Kept) × Calls library.runner k es l
        × (map (λ (e : Event). (e.form, e.call)) es ≡ cs)) ∥₁
    -- The answers to a list of calls follow from the record and the calls alone.
    pub list_answers : (k l : library.runner.Kept) (es : List Event) → Calls library.runner k es l
        → map (λ (e : Event). e.answer) es ≡ answers_on (library.runner.record_in k) (map (λ (e : Event). e.call) es)
    -- So there are the calls that feed a stream of bytes, in these pieces or others, and give its figures; and those that answer for any
    -- sheets.
    pub streams_fed : (pieces : List (List ℕ)) → AllBytes pieces
        → ∥ ((numbers : List ℕ) × Figured library (flat_map (λ piece. piece) pieces) numbers) ∥₁
    pub sheets_answered : (sheets : List (List ℕ)) → AllBytes sheets
        → ∥ ((answers : List (Answer Verdict)) × Answered library sheets answers) ∥₁
