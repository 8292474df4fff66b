-- How the compiled functions are linked: a program with the crate's table, and with the tables that it needs, has the code of each
-- function that other crates can call. Written by tools/linking.py. Assumes nothing.
use mathlib.Core.Bool.{true}
use prog.Linked.{World, Tree, Holds, in_world}
use prog.LinkedThreads.{HasT}
use Rattle.progression.proofs.Linking as progression
use Rattle.reader.proofs.Linking as reader
use Rattle.routine.proofs.Linking as routine
use Rattle.states.proofs.Linking as states
use Rattle.runner.proofs.TheLink as link
use Rattle.runner.proofs.answer.U8FromRejection.from.Symbol as from-symbol
use Rattle.runner.proofs.calls.AfterClone.clone.Symbol as clone-symbol
use Rattle.runner.proofs.calls.Record.load.Symbol as load-symbol
use Rattle.runner.proofs.calls.Record.load_in.Symbol as load_in-symbol
use Rattle.runner.proofs.calls.Record.next.Symbol as next-symbol
use Rattle.runner.proofs.calls.Record.next_in.Symbol as next_in-symbol
use Rattle.runner.proofs.calls.Record.report.Symbol as report-symbol
use Rattle.runner.proofs.calls.Record.report_in.Symbol as report_in-symbol

abbrev pub table : Tree
table = link.table

-- The tables that a program needs.
abbrev pub Needs : World → Type 0
Needs W = Holds W "runner" table × progression.Needs W × reader.Needs W × routine.Needs W × states.Needs W

module _ (W : World) (needs : Needs W) where
  below : link.Below W
  below = (progression.effect_has W needs.1, (progression.pass_has W needs.1, (progression.settle_has W needs.1, (progression.step_has W needs.1, (reader.read_has W needs.2, (routine.head_at_has W needs.3, (routine.prepare_has W needs.3, (states.is_empty_has W needs.4, tt))))))))

  pub from_has : HasT (in_world W) true from-symbol.code
  from_has = link.linked-runner::answer::U8FromRejection::from W needs.0 below

  pub clone_has : HasT (in_world W) true clone-symbol.code
  clone_has = link.linked-runner::calls::AfterClone::clone W needs.0 below

  pub load_has : HasT (in_world W) true load-symbol.code
  load_has = link.linked-runner::calls::Record::load W needs.0 below

  pub load_in_has : HasT (in_world W) true load_in-symbol.code
  load_in_has = link.linked-runner::calls::Record::load_in W needs.0 below

  pub next_has : HasT (in_world W) true next-symbol.code
  next_has = link.linked-runner::calls::Record::next W needs.0 below

  pub next_in_has : HasT (in_world W) true next_in-symbol.code
  next_in_has = link.linked-runner::calls::Record::next_in W needs.0 below

  pub report_has : HasT (in_world W) true report-symbol.code
  report_has = link.linked-runner::calls::Record::report W needs.0 below

  pub report_in_has : HasT (in_world W) true report_in-symbol.code
  report_in_has = link.linked-runner::calls::Record::report_in W needs.0 below
