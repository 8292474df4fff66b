-- What the contracts say, of any library: what a call gave is what the definitions say.
use Prim.Native.Nat.{ℕ}
use mathlib.Core.Path.{◌≡◌}
use mathlib.Core.List.{List}
use mathlib.Core.Bool.{Bool}
use Rattle.states.specs.Sets.{words, of_words}
use Rattle.format.specs.Format.{Answer, reading}
use Rattle.reader.specs.Answers.{without_value}
use Rattle.routine.specs.Memory.{Sized}
use Rattle.progression.specs.declared.place.Place.{Place as Stop}
use Rattle.progression.specs.Machine.{known_by, settled, stepped}
use Rattle.runner.specs.Calls.{Form}
use Rattle.runner.proofs.ListLaws.{RunnerContracts, Going}
use Rattle.claims.specs.Library.{Library, Gave}
use Rattle.claims.specs.Library.{ToVerify, AfterVerify, ToCheck, AfterCheck, ToPrepare, AfterPrepare, ToStep, ToPass, AfterPass, ToSettle, ToKnow, ToLoad, AfterLoad, ToNext, AfterNext, ToReport, AfterReport, AfterPrint, ToFeed, AfterFeed, ToFinish, ToLine}
use Rattle.claims.specs.Terms.{verified_as, checked_as, prepared_as, passed_as, loaded_as, told_as, reported_as, fed_as, finished_as, line_as}

pub record Contracts {ℓ} (library : Library {ℓ}) : Type ℓ where
  pub read_contract : (sheet : List ℕ) (a : Answer (Unit {0})) → Gave library.read sheet a → a ≡ without_value (reading sheet)
  pub verify_contract : (form : Form) (x : ToVerify) (y : AfterVerify) → Gave (library.verify form) x y → y ≡ verified_as form x
  pub check_contract : (form : Form) (x : ToCheck) (y : AfterCheck) → Gave (library.check form) x y → y ≡ checked_as form x
  pub prepare_contract : (x : ToPrepare) (y : AfterPrepare) → Gave library.prepare x y → y ≡ prepared_as x
  pub prepare_sized : (x : ToPrepare) (y : AfterPrepare) → Gave library.prepare x y → Sized x.tables.heads x.tables.nodes x.tables.sets
  pub step_contract : (x : ToStep) (set : List ℕ) → Gave library.step x set → set ≡ words (stepped x.tables.heads x.tables.sets (of_words x.set) x.action x.reply)
  pub pass_contract : (x : ToPass) (y : AfterPass) → Gave library.pass x y → y ≡ passed_as x
  pub settle_contract : (x : ToSettle) (stop : Stop) → Gave library.settle x stop → stop ≡ settled x.tables.nodes x.tables.sets (of_words x.set) x.at
  pub know_contract : (x : ToKnow) (b : Bool) → Gave library.know x b → b ≡ known_by x.tables.sets (of_words x.set) x.formula
  pub runner_contracts : RunnerContracts library.runner
  pub load_contract : (form : Form) (x : ToLoad) (y : AfterLoad) → Gave (library.load form) x y → y ≡ loaded_as form x
  pub next_contract : (form : Form) (x : ToNext) (y : AfterNext) → Gave (library.next form) x y → y ≡ told_as form x
  pub report_contract : (form : Form) (x : ToReport) (y : AfterReport) → Gave (library.report form) x y → y ≡ reported_as form x
  pub feed_contract : (x : ToFeed) (y : AfterFeed) → Gave library.feed x y → y ≡ fed_as x
  pub finish_contract : (x : ToFinish) (figures : List ℕ) → Gave library.finish x figures → figures ≡ finished_as x
  pub line_contract : (x : ToLine) (y : AfterPrint) → Gave library.line x y → y ≡ line_as x
  pub going : Going library.runner
