-- How the compiled functions are linked: a program with the crate's table, and with the tables that it needs, has the code of each
-- function that other crates can call. Written by tools/linking.py. Assumes nothing.
use mathlib.Core.Bool.{true}
use prog.Linked.{World, Tree, Holds, in_world}
use prog.LinkedThreads.{HasT}
use Rattle.recovery.proofs.Linking as recovery
use Rattle.recovery_c.proofs.TheLink as link
use Rattle.recovery_c.proofs.recovery_check.Symbol as recovery_check-symbol
use Rattle.recovery_c.proofs.recovery_check_in.Symbol as recovery_check_in-symbol
use Rattle.recovery_c.proofs.recovery_figures_end.Symbol as recovery_figures_end-symbol
use Rattle.recovery_c.proofs.recovery_figures_feed.Symbol as recovery_figures_feed-symbol
use Rattle.recovery_c.proofs.recovery_figures_print.Symbol as recovery_figures_print-symbol
use Rattle.recovery_c.proofs.recovery_known.Symbol as recovery_known-symbol
use Rattle.recovery_c.proofs.recovery_load.Symbol as recovery_load-symbol
use Rattle.recovery_c.proofs.recovery_load_in.Symbol as recovery_load_in-symbol
use Rattle.recovery_c.proofs.recovery_next.Symbol as recovery_next-symbol
use Rattle.recovery_c.proofs.recovery_next_in.Symbol as recovery_next_in-symbol
use Rattle.recovery_c.proofs.recovery_pass.Symbol as recovery_pass-symbol
use Rattle.recovery_c.proofs.recovery_prepare.Symbol as recovery_prepare-symbol
use Rattle.recovery_c.proofs.recovery_print.Symbol as recovery_print-symbol
use Rattle.recovery_c.proofs.recovery_read.Symbol as recovery_read-symbol
use Rattle.recovery_c.proofs.recovery_report.Symbol as recovery_report-symbol
use Rattle.recovery_c.proofs.recovery_report_in.Symbol as recovery_report_in-symbol
use Rattle.recovery_c.proofs.recovery_settle.Symbol as recovery_settle-symbol
use Rattle.recovery_c.proofs.recovery_step.Symbol as recovery_step-symbol
use Rattle.recovery_c.proofs.recovery_verify.Symbol as recovery_verify-symbol
use Rattle.recovery_c.proofs.recovery_verify_in.Symbol as recovery_verify_in-symbol

abbrev pub table : Tree
table = link.table

-- The tables that a program needs.
abbrev pub Needs : World → Type 0
Needs W = Holds W "recovery_c" table × recovery.Needs W

module _ (W : World) (needs : Needs W) where
  below : link.Below W
  below = (recovery.recovery_check_has W needs.1, (recovery.recovery_check_in_has W needs.1, (recovery.recovery_figures_end_has W needs.1, (recovery.recovery_figures_feed_has W needs.1, (recovery.recovery_figures_print_has W needs.1, (recovery.recovery_known_has W needs.1, (recovery.recovery_load_has W needs.1, (recovery.recovery_load_in_has W needs.1, (recovery.recovery_next_has W needs.1, (recovery.recovery_next_in_has W needs.1, (recovery.recovery_pass_has W needs.1, (recovery.recovery_prepare_has W needs.1, (recovery.recovery_print_has W needs.1, (recovery.recovery_read_has W needs.1, (recovery.recovery_report_has W needs.1, (recovery.recovery_report_in_has W needs.1, (recovery.recovery_settle_has W needs.1, (recovery.recovery_step_has W needs.1, (recovery.recovery_verify_has W needs.1, (recovery.recovery_verify_in_has W needs.1, tt))))))))))))))))))))

  pub recovery_check_has : HasT (in_world W) true recovery_check-symbol.code
  recovery_check_has = link.linked-recovery_c::recovery_check W needs.0 below

  pub recovery_check_in_has : HasT (in_world W) true recovery_check_in-symbol.code
  recovery_check_in_has = link.linked-recovery_c::recovery_check_in W needs.0 below

  pub recovery_figures_end_has : HasT (in_world W) true recovery_figures_end-symbol.code
  recovery_figures_end_has = link.linked-recovery_c::recovery_figures_end W needs.0 below

  pub recovery_figures_feed_has : HasT (in_world W) true recovery_figures_feed-symbol.code
  recovery_figures_feed_has = link.linked-recovery_c::recovery_figures_feed W needs.0 below

  pub recovery_figures_print_has : HasT (in_world W) true recovery_figures_print-symbol.code
  recovery_figures_print_has = link.linked-recovery_c::recovery_figures_print W needs.0 below

  pub recovery_known_has : HasT (in_world W) true recovery_known-symbol.code
  recovery_known_has = link.linked-recovery_c::recovery_known W needs.0 below

  pub recovery_load_has : HasT (in_world W) true recovery_load-symbol.code
  recovery_load_has = link.linked-recovery_c::recovery_load W needs.0 below

  pub recovery_load_in_has : HasT (in_world W) true recovery_load_in-symbol.code
  recovery_load_in_has = link.linked-recovery_c::recovery_load_in W needs.0 below

  pub recovery_next_has : HasT (in_world W) true recovery_next-symbol.code
  recovery_next_has = link.linked-recovery_c::recovery_next W needs.0 below

  pub recovery_next_in_has : HasT (in_world W) true recovery_next_in-symbol.code
  recovery_next_in_has = link.linked-recovery_c::recovery_next_in W needs.0 below

  pub recovery_pass_has : HasT (in_world W) true recovery_pass-symbol.code
  recovery_pass_has = link.linked-recovery_c::recovery_pass W needs.0 below

  pub recovery_prepare_has : HasT (in_world W) true recovery_prepare-symbol.code
  recovery_prepare_has = link.linked-recovery_c::recovery_prepare W needs.0 below

  pub recovery_print_has : HasT (in_world W) true recovery_print-symbol.code
  recovery_print_has = link.linked-recovery_c::recovery_print W needs.0 below

  pub recovery_read_has : HasT (in_world W) true recovery_read-symbol.code
  recovery_read_has = link.linked-recovery_c::recovery_read W needs.0 below

  pub recovery_report_has : HasT (in_world W) true recovery_report-symbol.code
  recovery_report_has = link.linked-recovery_c::recovery_report W needs.0 below

  pub recovery_report_in_has : HasT (in_world W) true recovery_report_in-symbol.code
  recovery_report_in_has = link.linked-recovery_c::recovery_report_in W needs.0 below

  pub recovery_settle_has : HasT (in_world W) true recovery_settle-symbol.code
  recovery_settle_has = link.linked-recovery_c::recovery_settle W needs.0 below

  pub recovery_step_has : HasT (in_world W) true recovery_step-symbol.code
  recovery_step_has = link.linked-recovery_c::recovery_step W needs.0 below

  pub recovery_verify_has : HasT (in_world W) true recovery_verify-symbol.code
  recovery_verify_has = link.linked-recovery_c::recovery_verify W needs.0 below

  pub recovery_verify_in_has : HasT (in_world W) true recovery_verify_in-symbol.code
  recovery_verify_in_has = link.linked-recovery_c::recovery_verify_in W needs.0 below
