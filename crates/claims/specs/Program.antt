-- The functions that C links, in a program: what their names mean there; and the program that the crates make. (C calls the exports of the
-- static library, crate `recovery_c`, each of which calls the function of its name; `recovery_c/proofs` has the same of them.)
use mathlib.Core.List.{[], ◌∷◌}
use lib.Chars.{codes}
use prog.Routine.{Env}
use prog.Wired.{Codes, end, and, AllWired}
use prog.Linked.{World, in_world}
use prog.LinkedThreads.{tie_t}
use Rattle.states.proofs.Linking as states
use Rattle.reader.proofs.Linking as reader
use Rattle.routine.proofs.Linking as routine
use Rattle.progression.proofs.Linking as progression
use Rattle.verifier.proofs.Linking as verifier
use Rattle.checker.proofs.Linking as checker
use Rattle.runner.proofs.Linking as runner
use Rattle.release.proofs.Linking as release
use Rattle.printing.proofs.Linking as printing
use Rattle.recovery.proofs.Linking as recovery
use Rattle.recovery.proofs.recovery_read.Symbol as read-symbol
use Rattle.recovery.proofs.recovery_verify.Symbol as verify-symbol
use Rattle.recovery.proofs.recovery_verify_in.Symbol as verify-in-symbol
use Rattle.recovery.proofs.recovery_check.Symbol as check-symbol
use Rattle.recovery.proofs.recovery_check_in.Symbol as check-in-symbol
use Rattle.recovery.proofs.recovery_print.Symbol as print-symbol
use Rattle.recovery.proofs.recovery_prepare.Symbol as prepare-symbol
use Rattle.recovery.proofs.recovery_step.Symbol as step-symbol
use Rattle.recovery.proofs.recovery_pass.Symbol as pass-symbol
use Rattle.recovery.proofs.recovery_settle.Symbol as settle-symbol
use Rattle.recovery.proofs.recovery_known.Symbol as known-symbol
use Rattle.recovery.proofs.recovery_load.Symbol as load-symbol
use Rattle.recovery.proofs.recovery_load_in.Symbol as load-in-symbol
use Rattle.recovery.proofs.recovery_next.Symbol as next-symbol
use Rattle.recovery.proofs.recovery_next_in.Symbol as next-in-symbol
use Rattle.recovery.proofs.recovery_report.Symbol as report-symbol
use Rattle.recovery.proofs.recovery_report_in.Symbol as report-in-symbol
use Rattle.recovery.proofs.recovery_figures_feed.Symbol as feed-symbol
use Rattle.recovery.proofs.recovery_figures_end.Symbol as finish-symbol
use Rattle.recovery.proofs.recovery_figures_print.Symbol as line-symbol
use Rattle.claims.specs.Linked.{Functions}

-- What their names mean in a program.
abbrev pub functions_in : Env → Functions
functions_in γ = record {
  read = γ read-symbol.name;
  verify = γ verify-symbol.name;
  verify_in = γ verify-in-symbol.name;
  check = γ check-symbol.name;
  check_in = γ check-in-symbol.name;
  print = γ print-symbol.name;
  prepare = γ prepare-symbol.name;
  step = γ step-symbol.name;
  pass = γ pass-symbol.name;
  settle = γ settle-symbol.name;
  known = γ known-symbol.name;
  load = γ load-symbol.name;
  load_in = γ load-in-symbol.name;
  next = γ next-symbol.name;
  next_in = γ next-in-symbol.name;
  report = γ report-symbol.name;
  report_in = γ report-in-symbol.name;
  feed = γ feed-symbol.name;
  finish = γ finish-symbol.name;
  line = γ line-symbol.name;
}

-- Their code, with that of all that they call; and a program has it.
abbrev pub library_code : Codes
library_code =
    and read-symbol.code (and verify-symbol.code (and verify-in-symbol.code (and check-symbol.code (and check-in-symbol.code (
    and print-symbol.code (and prepare-symbol.code (and step-symbol.code (and pass-symbol.code (and settle-symbol.code (
    and known-symbol.code (and load-symbol.code (and load-in-symbol.code (and next-symbol.code (and next-in-symbol.code (
    and report-symbol.code (and report-in-symbol.code (and feed-symbol.code (and finish-symbol.code (and line-symbol.code end)))))))))))))))))))

abbrev pub HasLibrary : Env → Type 0
HasLibrary γ = AllWired γ library_code

-- The crates, each with the table of its compiled functions, and what names mean where they are linked.
abbrev pub crates : World
crates =
    (codes "states", states.table) ∷ (codes "reader", reader.table) ∷ (codes "routine", routine.table) ∷
    (codes "progression", progression.table) ∷ (codes "verifier", verifier.table) ∷ (codes "checker", checker.table) ∷
    (codes "runner", runner.table) ∷ (codes "release", release.table) ∷ (codes "printing", printing.table) ∷
    (codes "recovery", recovery.table) ∷ []

unfoldable pub program : Env
program = tie_t (in_world crates)
