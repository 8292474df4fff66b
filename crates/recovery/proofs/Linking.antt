-- How the compiled functions are linked: a program with the crate's table, and with the tables that it needs, has the code of each
-- function that other crates can call. Written by tools/linking.py. Assumes nothing.
use mathlib.Core.Bool.{true}
use prog.Linked.{World, Tree, Holds, in_world}
use prog.LinkedThreads.{HasT}
use Rattle.checker.proofs.Linking as checker
use Rattle.printing.proofs.Linking as printing
use Rattle.progression.proofs.Linking as progression
use Rattle.reader.proofs.Linking as reader
use Rattle.release.proofs.Linking as release
use Rattle.routine.proofs.Linking as routine
use Rattle.runner.proofs.Linking as runner
use Rattle.states.proofs.Linking as states
use Rattle.verifier.proofs.Linking as verifier
use Rattle.recovery.proofs.TheLink as link
use Rattle.recovery.proofs.recovery_check.Symbol as recovery_check-symbol
use Rattle.recovery.proofs.recovery_check_in.Symbol as recovery_check_in-symbol
use Rattle.recovery.proofs.recovery_figures_end.Symbol as recovery_figures_end-symbol
use Rattle.recovery.proofs.recovery_figures_feed.Symbol as recovery_figures_feed-symbol
use Rattle.recovery.proofs.recovery_figures_print.Symbol as recovery_figures_print-symbol
use Rattle.recovery.proofs.recovery_known.Symbol as recovery_known-symbol
use Rattle.recovery.proofs.recovery_load.Symbol as recovery_load-symbol
use Rattle.recovery.proofs.recovery_load_in.Symbol as recovery_load_in-symbol
use Rattle.recovery.proofs.recovery_next.Symbol as recovery_next-symbol
use Rattle.recovery.proofs.recovery_next_in.Symbol as recovery_next_in-symbol
use Rattle.recovery.proofs.recovery_pass.Symbol as recovery_pass-symbol
use Rattle.recovery.proofs.recovery_prepare.Symbol as recovery_prepare-symbol
use Rattle.recovery.proofs.recovery_print.Symbol as recovery_print-symbol
use Rattle.recovery.proofs.recovery_read.Symbol as recovery_read-symbol
use Rattle.recovery.proofs.recovery_report.Symbol as recovery_report-symbol
use Rattle.recovery.proofs.recovery_report_in.Symbol as recovery_report_in-symbol
use Rattle.recovery.proofs.recovery_settle.Symbol as recovery_settle-symbol
use Rattle.recovery.proofs.recovery_step.Symbol as recovery_step-symbol
use Rattle.recovery.proofs.recovery_verify.Symbol as recovery_verify-symbol
use Rattle.recovery.proofs.recovery_verify_in.Symbol as recovery_verify_in-symbol

abbrev pub table : Tree
table = link.table

-- The tables that a program needs.
abbrev pub Needs : World → Type 0
Needs W = Holds W "recovery" table × checker.Needs W × printing.Needs W × progression.Needs W × reader.Needs W × release.Needs W × routine.Needs W × runner.Needs W × states.Needs W × verifier.Needs W

module _ (W : World) (needs : Needs W) where
  below : link.Below W
  below = (checker.check_has W needs.1, (checker.check_in_has W needs.1, (printing.print_has W needs.2, (printing.print_figures_has W needs.2, (progression.known_has W needs.3, (progression.pass_has W needs.3, (progression.settle_has W needs.3, (progression.step_has W needs.3, (reader.read_has W needs.4, (reader.from_has W needs.4, (release.end_has W needs.5, (release.feed_has W needs.5, (release.is_done_has W needs.5, (release.numbers_has W needs.5, (routine.prepare_has W needs.6, (runner.from_has W needs.7, (runner.load_has W needs.7, (runner.load_in_has W needs.7, (runner.next_has W needs.7, (runner.next_in_has W needs.7, (runner.report_has W needs.7, (runner.report_in_has W needs.7, (states.of_words_has W needs.8, (states.words_has W needs.8, (verifier.number_has W needs.9, (verifier.verify_has W needs.9, (verifier.verify_in_has W needs.9, tt)))))))))))))))))))))))))))

  pub recovery_check_has : HasT (in_world W) true recovery_check-symbol.code
  recovery_check_has = link.linked-recovery::recovery_check W needs.0 below

  pub recovery_check_in_has : HasT (in_world W) true recovery_check_in-symbol.code
  recovery_check_in_has = link.linked-recovery::recovery_check_in W needs.0 below

  pub recovery_figures_end_has : HasT (in_world W) true recovery_figures_end-symbol.code
  recovery_figures_end_has = link.linked-recovery::recovery_figures_end W needs.0 below

  pub recovery_figures_feed_has : HasT (in_world W) true recovery_figures_feed-symbol.code
  recovery_figures_feed_has = link.linked-recovery::recovery_figures_feed W needs.0 below

  pub recovery_figures_print_has : HasT (in_world W) true recovery_figures_print-symbol.code
  recovery_figures_print_has = link.linked-recovery::recovery_figures_print W needs.0 below

  pub recovery_known_has : HasT (in_world W) true recovery_known-symbol.code
  recovery_known_has = link.linked-recovery::recovery_known W needs.0 below

  pub recovery_load_has : HasT (in_world W) true recovery_load-symbol.code
  recovery_load_has = link.linked-recovery::recovery_load W needs.0 below

  pub recovery_load_in_has : HasT (in_world W) true recovery_load_in-symbol.code
  recovery_load_in_has = link.linked-recovery::recovery_load_in W needs.0 below

  pub recovery_next_has : HasT (in_world W) true recovery_next-symbol.code
  recovery_next_has = link.linked-recovery::recovery_next W needs.0 below

  pub recovery_next_in_has : HasT (in_world W) true recovery_next_in-symbol.code
  recovery_next_in_has = link.linked-recovery::recovery_next_in W needs.0 below

  pub recovery_pass_has : HasT (in_world W) true recovery_pass-symbol.code
  recovery_pass_has = link.linked-recovery::recovery_pass W needs.0 below

  pub recovery_prepare_has : HasT (in_world W) true recovery_prepare-symbol.code
  recovery_prepare_has = link.linked-recovery::recovery_prepare W needs.0 below

  pub recovery_print_has : HasT (in_world W) true recovery_print-symbol.code
  recovery_print_has = link.linked-recovery::recovery_print W needs.0 below

  pub recovery_read_has : HasT (in_world W) true recovery_read-symbol.code
  recovery_read_has = link.linked-recovery::recovery_read W needs.0 below

  pub recovery_report_has : HasT (in_world W) true recovery_report-symbol.code
  recovery_report_has = link.linked-recovery::recovery_report W needs.0 below

  pub recovery_report_in_has : HasT (in_world W) true recovery_report_in-symbol.code
  recovery_report_in_has = link.linked-recovery::recovery_report_in W needs.0 below

  pub recovery_settle_has : HasT (in_world W) true recovery_settle-symbol.code
  recovery_settle_has = link.linked-recovery::recovery_settle W needs.0 below

  pub recovery_step_has : HasT (in_world W) true recovery_step-symbol.code
  recovery_step_has = link.linked-recovery::recovery_step W needs.0 below

  pub recovery_verify_has : HasT (in_world W) true recovery_verify-symbol.code
  recovery_verify_has = link.linked-recovery::recovery_verify W needs.0 below

  pub recovery_verify_in_has : HasT (in_world W) true recovery_verify_in-symbol.code
  recovery_verify_in_has = link.linked-recovery::recovery_verify_in W needs.0 below
