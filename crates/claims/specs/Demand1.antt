-- Demand 1, sentence by sentence.
use Rattle.std.specs.Prelude.{ℕ, ◌≡◌, ◌⊎◌, ◌↔◌, List, Bool}
use Rattle.states.specs.Sets.{words, of_words}
use Rattle.format.specs.Format.{Answer, refused, reading}
use Rattle.reader.specs.Answers.{without_value}
use Rattle.semantics.specs.Verdict.{LongEnough, short_memory}
use Rattle.progression.specs.declared.place.Place.{Place as Stop}
use Rattle.progression.specs.Machine.{stepped, settled, known_by}
use Rattle.runner.specs.Records.{zeros}
use Rattle.runner.specs.Calls.{Form}
use Rattle.claims.specs.Library.{Library, Gave, EveryCallEnds, ToVerify, AfterVerify, ToCheck, AfterCheck, ToPrint, AfterPrint}
use Rattle.claims.specs.Library.{ToPrepare, AfterPrepare, ToStep, ToPass, AfterPass, ToSettle, ToKnow}
use Rattle.claims.specs.Library.{ToLoad, AfterLoad, ToNext, AfterNext, ToReport, AfterReport}
use Rattle.claims.specs.Library.{ToFeed, AfterFeed, ToFinish, ToLine}
use Rattle.claims.specs.Terms.{OnlyOldBytes, FailingTrace, AsBefore}
use Rattle.claims.specs.Terms.{verified_as, checked_as, printed_as, prepared_as, passed_as, loaded_as, told_as, reported_as}
use Rattle.claims.specs.Terms.{fed_as, finished_as, line_as}

module _ {ℓ} (library : Library {ℓ}) where
  pub record Demand1 : Type ℓ where
    -- "The lent trace memory holds, after every call on every input, either the failing trace followed by its old bytes, or only its
    -- old bytes;
    pub memory_holds : (form : Form) (x : ToVerify) (y : AfterVerify) → Gave (library.verify form) x y
        → OnlyOldBytes x y ⊎ FailingTrace x y
    -- the runner's record after a refused call on it is the record before it;
    pub next_keeps : (form : Form) (x : ToNext) (y : AfterNext) → Gave (library.next form) x y → y.kept ≡ x.kept
    pub report_keeps : (form : Form) (x : ToReport) (y : AfterReport) → Gave (library.report form) x y → (n : ℕ) → y.answer ≡ refused n
        → y.kept ≡ x.kept
    -- every call ends,
    pub read_ends : EveryCallEnds library.read
    pub verify_ends : (form : Form) → EveryCallEnds (library.verify form)
    pub check_ends : (form : Form) → EveryCallEnds (library.check form)
    pub print_ends : EveryCallEnds library.print
    pub prepare_ends : EveryCallEnds library.prepare
    pub step_ends : EveryCallEnds library.step
    pub pass_ends : EveryCallEnds library.pass
    pub settle_ends : EveryCallEnds library.settle
    pub know_ends : EveryCallEnds library.know
    pub load_ends : (form : Form) → EveryCallEnds (library.load form)
    pub next_ends : (form : Form) → EveryCallEnds (library.next form)
    pub report_ends : (form : Form) → EveryCallEnds (library.report form)
    pub feed_ends : EveryCallEnds library.feed
    pub finish_ends : EveryCallEnds library.finish
    pub line_ends : EveryCallEnds library.line
    -- with an answer that document 01 fixes." (And with what it leaves in every memory.)
    pub read_fixed : (sheet : List ℕ) (a : Answer (Unit {0})) → Gave library.read sheet a → a ≡ without_value (reading sheet)
    pub verify_fixed : (form : Form) (x : ToVerify) (y : AfterVerify) → Gave (library.verify form) x y → y ≡ verified_as form x
    pub check_fixed : (form : Form) (x : ToCheck) (y : AfterCheck) → Gave (library.check form) x y → y ≡ checked_as form x
    pub print_fixed : (x : ToPrint) (y : AfterPrint) → Gave library.print x y → y ≡ printed_as x
    pub prepare_fixed : (x : ToPrepare) (y : AfterPrepare) → Gave library.prepare x y → y ≡ prepared_as x
    pub step_fixed : (x : ToStep) (set : List ℕ) → Gave library.step x set
        → set ≡ words (stepped x.tables.heads x.tables.sets (of_words x.set) x.action x.reply)
    pub pass_fixed : (x : ToPass) (y : AfterPass) → Gave library.pass x y → y ≡ passed_as x
    pub settle_fixed : (x : ToSettle) (stop : Stop) → Gave library.settle x stop
        → stop ≡ settled x.tables.nodes x.tables.sets (of_words x.set) x.at
    pub know_fixed : (x : ToKnow) (b : Bool) → Gave library.know x b → b ≡ known_by x.tables.sets (of_words x.set) x.formula
    pub load_fixed : (form : Form) (x : ToLoad) (y : AfterLoad) → Gave (library.load form) x y → y ≡ loaded_as form x
    pub next_fixed : (form : Form) (x : ToNext) (y : AfterNext) → Gave (library.next form) x y → y ≡ told_as form x
    pub report_fixed : (form : Form) (x : ToReport) (y : AfterReport) → Gave (library.report form) x y → y ≡ reported_as form x
    pub feed_fixed : (x : ToFeed) (y : AfterFeed) → Gave library.feed x y → y ≡ fed_as x
    pub finish_fixed : (x : ToFinish) (figures : List ℕ) → Gave library.finish x figures → figures ≡ finished_as x
    pub line_fixed : (x : ToLine) (y : AfterPrint) → Gave library.line x y → y ≡ line_as x
    -- A refusal leaves every memory as it was, but for the record of zeros after a refused loading. (After "Next" and "Report" lent
    -- tables are those of the record's sheet, if it is accepted, whatever the answer.)
    pub verify_refused : (form : Form) (x : ToVerify) (y : AfterVerify) → Gave (library.verify form) x y
        → (n : ℕ) → y.answer ≡ refused n → AsBefore x y
    pub check_refused : (form : Form) (x : ToCheck) (y : AfterCheck) → Gave (library.check form) x y
        → (n : ℕ) → y.answer ≡ refused n → y.tables ≡ x.tables
    pub prepare_refused : (x : ToPrepare) (y : AfterPrepare) → Gave library.prepare x y
        → (n : ℕ) → y.answer ≡ refused n → (y.tables ≡ x.tables) × (y.start ≡ x.start)
    pub load_refused : (form : Form) (x : ToLoad) (y : AfterLoad) → Gave (library.load form) x y
        → (n : ℕ) → y.answer ≡ refused n → (y.kept ≡ zeros) × (y.tables ≡ x.tables)
    pub next_refused : (form : Form) (x : ToNext) (y : AfterNext) → Gave (library.next form) x y
        → (n : ℕ) → y.answer ≡ refused n → y.told ≡ x.told
    -- 30 for "trace memory under 129 bytes (before anything else)", and for nothing else.
    pub short_exactly : (form : Form) (x : ToVerify) (y : AfterVerify) → Gave (library.verify form) x y
        → (y.answer ≡ short_memory) ↔ (LongEnough x.trace → ⊥)
