-- What the demands speak of: functions, by what they take and give, their calls, and what a call gave.
use Rattle.std.specs.Prelude.{ℕ, List, Bool}
use Rattle.format.specs.Format.{Answer}
use Rattle.semantics.specs.Verdict.{Verdict}
use Rattle.semantics.specs.Replies.{Told}
use Rattle.progression.specs.declared.place.Place.{Place as Stop}
use Rattle.runner.specs.declared.calls.Record.{Record}
use Rattle.runner.specs.Calls.{Form, Runner}
use Rattle.recovery.specs.Arguments.{Tables}

-- A function: the calls with which it can be called on x, and, of such a call, what it gave.
pub record Function {ℓ} (Takes Gives : Type 0) : Type (ℓ + 1) where
  pub calls : Takes → Type ℓ
  pub gave : (x : Takes) → calls x → Gives → Type ℓ

module _ {ℓ} {Takes Gives : Type 0} (f : Function {ℓ} Takes Gives) where
  -- A call on x gave y.
  unfoldable pub Gave : Takes → Gives → Type ℓ
  Gave x y = (call : f.calls x) × f.gave x call y

  -- Every call ends: that call, with these arguments, from this memory.
  unfoldable pub EveryCallEnds : Type ℓ
  EveryCallEnds = (x : Takes) (call : f.calls x) → ∥ ((y : Gives) × f.gave x call y) ∥₁

  -- There is a call on every x of the right sizes.
  unfoldable pub CanBeCalled : (Takes → Type 0) → Type ℓ
  CanBeCalled Fits = (x : Takes) → Fits x → ∥ f.calls x ∥₁

-- What each takes and gives: numbers, and the numbers in memory that is lent, before and after the call. (Tables and memo are lent to the
-- form that works in lent tables alone; the other gives them back as they were taken.)
pub record ToVerify : Type 0 where
  pub sheet : List ℕ
  pub budget : ℕ
  pub trace : List ℕ
  pub verdict : List ℕ
  pub tables : Tables
  pub memo : List ℕ

pub record AfterVerify : Type 0 where
  pub answer : Answer Verdict
  pub trace : List ℕ
  pub verdict : List ℕ
  pub tables : Tables
  pub memo : List ℕ

pub record ToCheck : Type 0 where
  pub sheet : List ℕ
  pub trace : List ℕ
  pub tables : Tables

pub record AfterCheck : Type 0 where
  pub answer : Answer Bool
  pub tables : Tables

pub record ToPrint : Type 0 where
  pub sheet : List ℕ
  pub out : List ℕ

pub record AfterPrint : Type 0 where
  pub lines : List ℕ
  pub out : List ℕ

pub record ToPrepare : Type 0 where
  pub sheet : List ℕ
  pub tables : Tables
  pub start : List ℕ

pub record AfterPrepare : Type 0 where
  pub answer : Answer (Unit {0})
  pub tables : Tables
  pub start : List ℕ

pub record ToStep : Type 0 where
  pub tables : Tables
  pub set : List ℕ
  pub action : ℕ
  pub reply : ℕ

-- A set, a reply to an action, and memory for one number, how often the reply was evaluated.
pub record ToPass : Type 0 where
  pub tables : Tables
  pub set : List ℕ
  pub action : ℕ
  pub reply : ℕ
  pub evaluations : List ℕ

pub record AfterPass : Type 0 where
  pub possible : Bool
  pub kept : List ℕ
  pub evaluations : ℕ

pub record ToSettle : Type 0 where
  pub tables : Tables
  pub set : List ℕ
  pub at : ℕ

pub record ToKnow : Type 0 where
  pub tables : Tables
  pub set : List ℕ
  pub formula : ℕ

pub record ToLoad : Type 0 where
  pub sheet : List ℕ
  pub kept : Record
  pub tables : Tables

pub record AfterLoad : Type 0 where
  pub answer : Answer (Unit {0})
  pub kept : Record
  pub tables : Tables

pub record ToNext : Type 0 where
  pub kept : Record
  pub told : List ℕ
  pub tables : Tables

pub record AfterNext : Type 0 where
  pub answer : Answer Told
  pub kept : Record
  pub told : List ℕ
  pub tables : Tables

pub record ToReport : Type 0 where
  pub kept : Record
  pub reply : ℕ
  pub tables : Tables

pub record AfterReport : Type 0 where
  pub answer : Answer (Unit {0})
  pub kept : Record
  pub tables : Tables

-- A piece of a stream of sheets, and the stream's state in two memories, before and after it.
pub record ToFeed : Type 0 where
  pub piece : List ℕ
  pub numbers : List ℕ
  pub begun : List ℕ
  pub tables : Tables
  pub memo : List ℕ

pub record AfterFeed : Type 0 where
  pub done : Bool
  pub numbers : List ℕ
  pub begun : List ℕ
  pub tables : Tables
  pub memo : List ℕ

-- The state at the end of the stream, and memory for its figures.
pub record ToFinish : Type 0 where
  pub numbers : List ℕ
  pub begun : List ℕ
  pub figures : List ℕ

-- Figures, and memory for their line.
pub record ToLine : Type 0 where
  pub figures : List ℕ
  pub out : List ℕ

-- The library, and its runner: in Linked its calls are calls of load, next and report on the memory that keeps the record.
pub record Library {ℓ} : Type (ℓ + 1) where
  pub read : Function {ℓ} (List ℕ) (Answer (Unit {0}))
  pub verify : Form → Function {ℓ} ToVerify AfterVerify
  pub check : Form → Function {ℓ} ToCheck AfterCheck
  pub print : Function {ℓ} ToPrint AfterPrint
  pub prepare : Function {ℓ} ToPrepare AfterPrepare
  pub step : Function {ℓ} ToStep (List ℕ)
  pub pass : Function {ℓ} ToPass AfterPass
  pub settle : Function {ℓ} ToSettle Stop
  pub know : Function {ℓ} ToKnow Bool
  pub load : Form → Function {ℓ} ToLoad AfterLoad
  pub next : Form → Function {ℓ} ToNext AfterNext
  pub report : Form → Function {ℓ} ToReport AfterReport
  pub feed : Function {ℓ} ToFeed AfterFeed
  pub finish : Function {ℓ} ToFinish (List ℕ)
  pub line : Function {ℓ} ToLine AfterPrint
  pub runner : Runner {ℓ}
