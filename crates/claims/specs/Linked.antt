-- What C links, as a library: the routine of each function (`Functions`; Program gives those of a program), its arguments, and what its number and the lent memory mean to the caller.
use Rattle.std.specs.Prelude.{ℕ, ◌≡◌, List, [], ◌∷◌, length, take}
use seplogic.Ra.Ura.{Ura}
use Rattle.std.specs.Int.{w8, w64}
use mir.Val.{Val, vint, vunit}
use prog.Memory.{Memory}
use prog.Wp.{Heap}
use prog.Model.{Model}
use prog.Routine.{Routine}
use Rattle.machine.specs.Calls.{Place, writes, Argument, Callable, Ended}
use Rattle.runner.specs.declared.calls.Record.{Record}
use Rattle.runner.specs.Calls as runner
use Rattle.runner.specs.Calls.{Form, own, lent, Call, CallAnswer, done_or, told_answer}
use Rattle.recovery.specs.Numbers.{verdict_numbers, told_numbers, DoneRead, ValueRead, CheckRead, FlagRead, PlaceRead}
use Rattle.recovery.specs.Arguments.{Tables, record_at}
use Rattle.recovery.specs.Arguments.{to_read, to_prepare, to_step, to_pass, to_settle, to_know, to_print}
use Rattle.recovery.specs.Arguments.{to_verify, to_verify_in, to_check, to_check_in, to_load, to_load_in, to_next, to_next_in, to_report, to_report_in}
use Rattle.recovery.specs.Arguments.{to_feed, to_end, to_line}
use Rattle.claims.specs.Library.{Function, Library}
use Rattle.claims.specs.Library.{ToVerify, AfterVerify, ToCheck, AfterCheck, ToPrint, AfterPrint}
use Rattle.claims.specs.Library.{ToPrepare, AfterPrepare, ToStep, ToPass, AfterPass, ToSettle, ToKnow}
use Rattle.claims.specs.Library.{ToLoad, AfterLoad, ToNext, AfterNext, ToReport, AfterReport}
use Rattle.claims.specs.Library.{ToFeed, AfterFeed, ToFinish, ToLine}

-- The compiled functions, each as the routine that a call of it runs.
pub record Functions : Type 0 where
  pub read : Routine
  pub verify : Routine
  pub verify_in : Routine
  pub check : Routine
  pub check_in : Routine
  pub print : Routine
  pub prepare : Routine
  pub step : Routine
  pub pass : Routine
  pub settle : Routine
  pub known : Routine
  pub load : Routine
  pub load_in : Routine
  pub next : Routine
  pub next_in : Routine
  pub report : Routine
  pub report_in : Routine
  pub feed : Routine
  pub finish : Routine
  pub line : Routine

-- The functions and their arguments in each form, with tables of their own or with those that are lent.
unfoldable pub verifier : Functions → Form → Routine
verifier fs own = fs.verify
verifier fs lent = fs.verify_in

unfoldable pub verifying : Form → (ℕ → Place) → (sheet : List ℕ) (budget : ℕ) (trace verdict : List ℕ) → Tables → (memo : List ℕ)
    → List Argument
verifying own p sheet budget trace verdict t memo = to_verify p sheet budget trace verdict
verifying lent p sheet budget trace verdict t memo = to_verify_in p sheet budget trace verdict t memo

unfoldable pub checker : Functions → Form → Routine
checker fs own = fs.check
checker fs lent = fs.check_in

unfoldable pub checking : Form → (ℕ → Place) → (sheet trace : List ℕ) → Tables → List Argument
checking own p sheet trace t = to_check p sheet trace
checking lent p sheet trace t = to_check_in p sheet trace t

unfoldable pub loader : Functions → Form → Routine
loader fs own = fs.load
loader fs lent = fs.load_in

unfoldable pub loading : Form → (ℕ → Place) → (sheet : List ℕ) → Record → Tables → List Argument
loading own p sheet r t = to_load p sheet r
loading lent p sheet r t = to_load_in p sheet r t

unfoldable pub teller : Functions → Form → Routine
teller fs own = fs.next
teller fs lent = fs.next_in

unfoldable pub telling : Form → (ℕ → Place) → Record → (told : List ℕ) → Tables → List Argument
telling own p r told t = to_next p r told
telling lent p r told t = to_next_in p r told t

unfoldable pub reporter : Functions → Form → Routine
reporter fs own = fs.report
reporter fs lent = fs.report_in

unfoldable pub reporting : Form → (ℕ → Place) → Record → (reply : ℕ) → Tables → List Argument
reporting own p r reply t = to_report p r reply
reporting lent p r reply t = to_report_in p r reply t

-- What the form that works in tables of its own isn't lent, it gives back as it was taken.
unfoldable pub SameIfOwn : Form → {A : Type 0} → (before after : A) → Type 0
SameIfOwn own before after = after ≡ before
SameIfOwn lent before after = Unit {0}

module _ {M : Type 1} (𝓤 : Ura M) (H : Heap 𝓤) (𝓜 : Model 𝓤 H) where
  -- A compiled function as a function of the library: its arguments for what it takes, and for what it gives its result and the memory that
  -- was lent.
  abbrev pub compiled : {Takes Gives : Type 0} → Routine → ((ℕ → Place) → Takes → List Argument)
      → ((ℕ → Place) → Takes → Gives → Val → List Argument → Type 0) → Function {1} Takes Gives
  compiled {Takes} {Gives} function arguments means = record {
    calls = λ (x : Takes). (p : ℕ → Place) × (others : List Argument) × Callable 𝓤 H 𝓜 (arguments p x) others;
    gave = λ x call (y : Gives). (result : Val) × (last : List Argument) × Ended 𝓤 H 𝓜 function call.2 result last
        × means call.0 x y result last;
  }

  -- What keeps a record from call to call: the machine's memory, and where the record lies in it.
  pub record InMemory : Type 1 where
    pub kept : Record
    pub place : ℕ → Place
    pub others : List Argument
    pub lies : Callable 𝓤 H 𝓜 (record_at writes writes (place 0) (place 1) (place 2) kept) others

  -- A call of the runner goes from the memory before it to the memory after it, and the record stays where it is. (What else the call is
  -- lent, a sheet, memory for what is told, tables, lies anywhere beside it.)
  pub record Between (k l : InMemory) (kept : Record) (before after : Memory) (i j m : Place) : Type 0 where
    pub from : k.lies.memory ≡ before
    pub to : l.lies.memory ≡ after
    pub sheet_at : (k.place 0 ≡ i) × (l.place 0 ≡ i)
    pub replies_at : (k.place 1 ≡ j) × (l.place 1 ≡ j)
    pub lengths_at : (k.place 2 ≡ m) × (l.place 2 ≡ m)
    pub left : l.kept ≡ kept

  module _ (fs : Functions) where
    -- The runner's three functions.
    abbrev pub load_calls : Form → Function {1} ToLoad AfterLoad
    load_calls form = compiled (loader fs form) (λ p (x : ToLoad). loading form p x.sheet x.kept x.tables)
        (λ p x (y : AfterLoad) result last. (k : ℕ) × (result ≡ vint w8 k) × (last ≡ loading form p x.sheet y.kept y.tables)
        × DoneRead k y.answer × SameIfOwn form x.tables y.tables)

    abbrev pub next_calls : Form → Function {1} ToNext AfterNext
    next_calls form = compiled (teller fs form) (λ p (x : ToNext). telling form p x.kept x.told x.tables)
        (λ p x (y : AfterNext) result last. (k : ℕ) × (result ≡ vint w8 k) × (last ≡ telling form p y.kept y.told y.tables)
        × ValueRead told_numbers k y.told y.answer × SameIfOwn form x.tables y.tables)

    abbrev pub report_calls : Form → Function {1} ToReport AfterReport
    report_calls form = compiled (reporter fs form) (λ p (x : ToReport). reporting form p x.kept x.reply x.tables)
        (λ p x (y : AfterReport) result last. (k : ℕ) × (result ≡ vint w8 k) × (last ≡ reporting form p y.kept x.reply y.tables)
        × DoneRead k y.answer × SameIfOwn form x.tables y.tables)

    pub data Does : Form → Call → InMemory → CallAnswer → InMemory → Type 1 where
      load : {k l : InMemory} (form : Form) (x : ToLoad) (y : AfterLoad) (call : (load_calls form).calls x)
          (gave : (load_calls form).gave x call y)
          → x.kept ≡ k.kept → Between k l y.kept call.2.memory gave.2.after.memory (call.0 1) (call.0 2) (call.0 3)
          → Does form (runner.load x.sheet) k (done_or y.answer) l
      next : {k l : InMemory} (form : Form) (x : ToNext) (y : AfterNext) (call : (next_calls form).calls x)
          (gave : (next_calls form).gave x call y)
          → x.kept ≡ k.kept → Between k l y.kept call.2.memory gave.2.after.memory (call.0 0) (call.0 1) (call.0 2)
          → Does form runner.next k (told_answer y.answer) l
      report : {k l : InMemory} (form : Form) (x : ToReport) (y : AfterReport) (call : (report_calls form).calls x)
          (gave : (report_calls form).gave x call y)
          → x.kept ≡ k.kept → Between k l y.kept call.2.memory gave.2.after.memory (call.0 0) (call.0 1) (call.0 2)
          → Does form (runner.report x.reply) k (done_or y.answer) l

    abbrev pub linked : Library {1}
    linked = record {
      read = compiled fs.read (λ p (sheet : List ℕ). to_read p sheet)
          (λ p sheet y result last. (k : ℕ) × (result ≡ vint w8 k) × (last ≡ to_read p sheet) × DoneRead k y);
      verify = λ form. compiled (verifier fs form)
          (λ p (x : ToVerify). verifying form p x.sheet x.budget x.trace x.verdict x.tables x.memo)
          (λ p x (y : AfterVerify) result last. (k : ℕ) × (result ≡ vint w8 k)
          × (last ≡ verifying form p x.sheet x.budget y.trace y.verdict y.tables y.memo)
          × ValueRead verdict_numbers k y.verdict y.answer
          × SameIfOwn form x.tables y.tables × SameIfOwn form x.memo y.memo);
      check = λ form. compiled (checker fs form) (λ p (x : ToCheck). checking form p x.sheet x.trace x.tables)
          (λ p x (y : AfterCheck) result last. (k : ℕ) × (result ≡ vint w8 k) × (last ≡ checking form p x.sheet x.trace y.tables)
          × CheckRead k y.answer × SameIfOwn form x.tables y.tables);
      print = compiled fs.print (λ p (x : ToPrint). to_print p x.sheet x.out)
          (λ p x (y : AfterPrint) result last. (k : ℕ) × (result ≡ vint w64 k) × (last ≡ to_print p x.sheet y.out)
          × (k ≡ length y.lines) × (y.lines ≡ take k y.out));
      prepare = compiled fs.prepare (λ p (x : ToPrepare). to_prepare p x.sheet x.tables x.start)
          (λ p x (y : AfterPrepare) result last. (k : ℕ) × (result ≡ vint w8 k) × (last ≡ to_prepare p x.sheet y.tables y.start)
          × DoneRead k y.answer);
      step = compiled fs.step (λ p (x : ToStep). to_step p x.tables x.set x.action x.reply)
          (λ p x set result last. (result ≡ vunit) × (last ≡ to_step p x.tables set x.action x.reply));
      pass = compiled fs.pass
          (λ p (x : ToPass). to_pass p x.tables x.set x.action x.reply x.evaluations)
          (λ p x (y : AfterPass) result last. (k : ℕ) × (result ≡ vint w8 k)
          × (last ≡ to_pass p x.tables y.kept x.action x.reply (y.evaluations ∷ [])) × FlagRead k y.possible);
      settle = compiled fs.settle (λ p (x : ToSettle). to_settle p x.tables x.set x.at)
          (λ p x y result last. (k : ℕ) × (result ≡ vint w64 k) × (last ≡ to_settle p x.tables x.set x.at) × PlaceRead k y);
      know = compiled fs.known (λ p (x : ToKnow). to_know p x.tables x.set x.formula)
          (λ p x y result last. (k : ℕ) × (result ≡ vint w8 k) × (last ≡ to_know p x.tables x.set x.formula) × FlagRead k y);
      feed = compiled fs.feed (λ p (x : ToFeed). to_feed p x.piece x.numbers x.begun x.tables x.memo)
          (λ p x (y : AfterFeed) result last. (k : ℕ) × (result ≡ vint w8 k)
          × (last ≡ to_feed p x.piece y.numbers y.begun y.tables y.memo) × FlagRead k y.done);
      finish = compiled fs.finish (λ p (x : ToFinish). to_end p x.numbers x.begun x.figures)
          (λ p x figures result last. (result ≡ vunit) × (last ≡ to_end p x.numbers x.begun figures));
      line = compiled fs.line (λ p (x : ToLine). to_line p x.figures x.out)
          (λ p x (y : AfterPrint) result last. (k : ℕ) × (result ≡ vint w64 k) × (last ≡ to_line p x.figures y.out)
          × (k ≡ length y.lines) × (y.lines ≡ take k y.out));
      load = load_calls;
      next = next_calls;
      report = report_calls;
      runner = record { Kept = InMemory; record_in = λ k. k.kept; does = Does };
    }
