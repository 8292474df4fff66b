-- A program with the tables of the library's crates has the library's code. Assumes nothing.
use mathlib.Core.Bool.{true}
use prog.Linked.{World, Holds, in_world}
use prog.LinkedThreads.{HassT}
use Rattle.states.proofs.Linking as states
use Rattle.reader.proofs.Linking as reader
use Rattle.routine.proofs.Linking as routine
use Rattle.progression.proofs.Linking as progression
use Rattle.verifier.proofs.Linking as verifier
use Rattle.checker.proofs.Linking as checker
use Rattle.runner.proofs.Linking as runner
use Rattle.release.proofs.Linking as release
use Rattle.printing.proofs.Linking as printing
use Rattle.recovery.proofs.Linking as recovery
use Rattle.claims.specs.Program.{library_code}

abbrev pub HasTables : World → Type 0
HasTables W =
    Holds W "states" states.table
    × Holds W "reader" reader.table
    × Holds W "routine" routine.table
    × Holds W "progression" progression.table
    × Holds W "verifier" verifier.table
    × Holds W "checker" checker.table
    × Holds W "runner" runner.table
    × Holds W "release" release.table
    × Holds W "printing" printing.table
    × Holds W "recovery" recovery.table

module _ (W : World) (tables : HasTables W) where
  states_needs : states.Needs W
  states_needs = tables.0

  reader_needs : reader.Needs W
  reader_needs = (tables.1, states_needs)

  routine_needs : routine.Needs W
  routine_needs = (tables.2, reader_needs, states_needs)

  progression_needs : progression.Needs W
  progression_needs = (tables.3, routine_needs, states_needs)

  verifier_needs : verifier.Needs W
  verifier_needs = (tables.4, progression_needs, reader_needs, routine_needs, states_needs)

  checker_needs : checker.Needs W
  checker_needs = (tables.5, progression_needs, routine_needs, states_needs)

  runner_needs : runner.Needs W
  runner_needs = (tables.6, progression_needs, reader_needs, routine_needs, states_needs)

  release_needs : release.Needs W
  release_needs = (tables.7, progression_needs, verifier_needs)

  printing_needs : printing.Needs W
  printing_needs = (tables.8, verifier_needs)

  pub recovery_needs : recovery.Needs W
  recovery_needs = (tables.9, checker_needs, printing_needs, progression_needs, reader_needs, release_needs, routine_needs, runner_needs, states_needs, verifier_needs)

  pub library_there : HassT (in_world W) true library_code
  library_there = (recovery.recovery_read_has W recovery_needs, (recovery.recovery_verify_has W recovery_needs, (recovery.recovery_verify_in_has W recovery_needs, (recovery.recovery_check_has W recovery_needs, (recovery.recovery_check_in_has W recovery_needs, (recovery.recovery_print_has W recovery_needs, (recovery.recovery_prepare_has W recovery_needs, (recovery.recovery_step_has W recovery_needs, (recovery.recovery_pass_has W recovery_needs, (recovery.recovery_settle_has W recovery_needs, (recovery.recovery_known_has W recovery_needs, (recovery.recovery_load_has W recovery_needs, (recovery.recovery_load_in_has W recovery_needs, (recovery.recovery_next_has W recovery_needs, (recovery.recovery_next_in_has W recovery_needs, (recovery.recovery_report_has W recovery_needs, (recovery.recovery_report_in_has W recovery_needs, (recovery.recovery_figures_feed_has W recovery_needs, (recovery.recovery_figures_end_has W recovery_needs, (recovery.recovery_figures_print_has W recovery_needs, tt))))))))))))))))))))
