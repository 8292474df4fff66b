-- The exports of the static library, in a program: what their names mean there, which code they have, and the program that the crates and these exports make, as the
-- archive has it; and what a call of each leaves. Assumes nothing.
use mathlib.Core.Bool.{true}
use mathlib.Core.List.{[], ◌∷◌}
use mathlib.Core.Path.{refl}
use lib.Chars.{codes}
use seplogic.Ra.Ura.{Ura}
use prog.Model.{Model}
use prog.Routine.{Env}
use prog.Wired.{Codes, node, end, and, AllWired}
use prog.Linked.{World, in_world}
use prog.LinkedThreads.{HassT, has-wired_t, tie_t, tie_t-follows, tie_t-threads}
use types.Logic.{Logic}
use contract.Running.{Running, strict}
use Rattle.recovery.proofs.Leaving as any
use Rattle.claims.specs.Linked.{Functions}
use Rattle.claims.specs.Program as library
use Rattle.claims.proofs.CallLaws.{Laws}
use Rattle.claims.proofs.Programs.{recovery_needs}
use Rattle.recovery_c.proofs.Linking as exports
use Rattle.recovery_c.proofs.recovery_read.Symbol as read-symbol
use Rattle.recovery_c.proofs.recovery_read.Met as read-met
use Rattle.recovery_c.proofs.recovery_verify.Symbol as verify-symbol
use Rattle.recovery_c.proofs.recovery_verify.Met as verify-met
use Rattle.recovery_c.proofs.recovery_verify_in.Symbol as verify-in-symbol
use Rattle.recovery_c.proofs.recovery_verify_in.Met as verify-in-met
use Rattle.recovery_c.proofs.recovery_check.Symbol as check-symbol
use Rattle.recovery_c.proofs.recovery_check.Met as check-met
use Rattle.recovery_c.proofs.recovery_check_in.Symbol as check-in-symbol
use Rattle.recovery_c.proofs.recovery_check_in.Met as check-in-met
use Rattle.recovery_c.proofs.recovery_print.Symbol as print-symbol
use Rattle.recovery_c.proofs.recovery_print.Met as print-met
use Rattle.recovery_c.proofs.recovery_prepare.Symbol as prepare-symbol
use Rattle.recovery_c.proofs.recovery_prepare.Met as prepare-met
use Rattle.recovery_c.proofs.recovery_step.Symbol as step-symbol
use Rattle.recovery_c.proofs.recovery_step.Met as step-met
use Rattle.recovery_c.proofs.recovery_pass.Symbol as pass-symbol
use Rattle.recovery_c.proofs.recovery_pass.Met as pass-met
use Rattle.recovery_c.proofs.recovery_settle.Symbol as settle-symbol
use Rattle.recovery_c.proofs.recovery_settle.Met as settle-met
use Rattle.recovery_c.proofs.recovery_known.Symbol as known-symbol
use Rattle.recovery_c.proofs.recovery_known.Met as known-met
use Rattle.recovery_c.proofs.recovery_load.Symbol as load-symbol
use Rattle.recovery_c.proofs.recovery_load.Met as load-met
use Rattle.recovery_c.proofs.recovery_load_in.Symbol as load-in-symbol
use Rattle.recovery_c.proofs.recovery_load_in.Met as load-in-met
use Rattle.recovery_c.proofs.recovery_next.Symbol as next-symbol
use Rattle.recovery_c.proofs.recovery_next.Met as next-met
use Rattle.recovery_c.proofs.recovery_next_in.Symbol as next-in-symbol
use Rattle.recovery_c.proofs.recovery_next_in.Met as next-in-met
use Rattle.recovery_c.proofs.recovery_report.Symbol as report-symbol
use Rattle.recovery_c.proofs.recovery_report.Met as report-met
use Rattle.recovery_c.proofs.recovery_report_in.Symbol as report-in-symbol
use Rattle.recovery_c.proofs.recovery_report_in.Met as report-in-met
use Rattle.recovery_c.proofs.recovery_figures_feed.Symbol as feed-symbol
use Rattle.recovery_c.proofs.recovery_figures_feed.Met as feed-met
use Rattle.recovery_c.proofs.recovery_figures_end.Symbol as finish-symbol
use Rattle.recovery_c.proofs.recovery_figures_end.Met as finish-met
use Rattle.recovery_c.proofs.recovery_figures_print.Symbol as line-symbol
use Rattle.recovery_c.proofs.recovery_figures_print.Met as line-met

-- What the exports' names mean in a program.
abbrev pub exports_in : Env → Functions
exports_in γ = record {
  read = γ read-symbol.name;
  verify = γ verify-symbol.name;
  verify_in = γ verify-in-symbol.name;
  check = γ check-symbol.name;
  check_in = γ check-in-symbol.name;
  print = γ print-symbol.name;
  prepare = γ prepare-symbol.name;
  step = γ step-symbol.name;
  pass = γ pass-symbol.name;
  settle = γ settle-symbol.name;
  known = γ known-symbol.name;
  load = γ load-symbol.name;
  load_in = γ load-in-symbol.name;
  next = γ next-symbol.name;
  next_in = γ next-in-symbol.name;
  report = γ report-symbol.name;
  report_in = γ report-in-symbol.name;
  feed = γ feed-symbol.name;
  finish = γ finish-symbol.name;
  line = γ line-symbol.name;
}

-- Their code, with that of all that they call; and a program has it.
abbrev pub export_code : Codes
export_code =
    and read-symbol.code (and verify-symbol.code (and verify-in-symbol.code (and check-symbol.code (and check-in-symbol.code (
    and print-symbol.code (and prepare-symbol.code (and step-symbol.code (and pass-symbol.code (and settle-symbol.code (
    and known-symbol.code (and load-symbol.code (and load-in-symbol.code (and next-symbol.code (and next-in-symbol.code (
    and report-symbol.code (and report-in-symbol.code (and feed-symbol.code (and finish-symbol.code (and line-symbol.code end)))))))))))))))))))

abbrev pub HasExports : Env → Type 0
HasExports γ = AllWired γ export_code

-- The crates with the exports, and what names mean where they are linked.
abbrev pub crates : World
crates = (codes "recovery_c", exports.table) ∷ library.crates

unfoldable pub program : Env
program = tie_t (in_world crates)

needs : exports.Needs crates
needs = (refl, recovery_needs crates (refl, refl, refl, refl, refl, refl, refl, refl, refl, refl))

exports_there : HassT (in_world crates) true export_code
exports_there = (exports.recovery_read_has crates needs, (exports.recovery_verify_has crates needs, (exports.recovery_verify_in_has crates needs, (exports.recovery_check_has crates needs, (exports.recovery_check_in_has crates needs, (exports.recovery_print_has crates needs, (exports.recovery_prepare_has crates needs, (exports.recovery_step_has crates needs, (exports.recovery_pass_has crates needs, (exports.recovery_settle_has crates needs, (exports.recovery_known_has crates needs, (exports.recovery_load_has crates needs, (exports.recovery_load_in_has crates needs, (exports.recovery_next_has crates needs, (exports.recovery_next_in_has crates needs, (exports.recovery_report_has crates needs, (exports.recovery_report_in_has crates needs, (exports.recovery_figures_feed_has crates needs, (exports.recovery_figures_end_has crates needs, (exports.recovery_figures_print_has crates needs, tt))))))))))))))))))))

pub program_has : HasExports program
unfolding program
program_has =
    let look = in_world crates in
    (has-wired_t look program (tie_t-follows look) (tie_t-threads look) (node [] [] export_code) (tt, tt, exports_there)).2

-- Each meets the contract of the library's function of its name.
module _ {M : Type 1} {𝓤 : Ura M} (𝓛 : Logic 𝓤) (𝓜 : Model 𝓤 𝓛.H) where
  open 𝓛 use {H}

  pub laws : (𝓡 : Running 𝓤 H 𝓜) → HasExports 𝓡.env → Laws 𝓛 𝓜 (exports_in 𝓡.env)
  laws 𝓡 has = let 𝓡' = strict 𝓤 H 𝓜 𝓡 in record {
    read_leaves = λ p. any.read_leaves 𝓛 𝓜 𝓡 p (𝓡.env read-symbol.name) (read-met.met 𝓤 𝓛 𝓜 𝓡' has.0);
    prepare_leaves = λ p. any.prepare_leaves 𝓛 𝓜 𝓡 p (𝓡.env prepare-symbol.name) (prepare-met.met 𝓤 𝓛 𝓜 𝓡' has.1.1.1.1.1.1.0);
    step_leaves = λ p. any.step_leaves 𝓛 𝓜 𝓡 p (𝓡.env step-symbol.name) (step-met.met 𝓤 𝓛 𝓜 𝓡' has.1.1.1.1.1.1.1.0);
    pass_leaves = λ p. any.pass_leaves 𝓛 𝓜 𝓡 p (𝓡.env pass-symbol.name) (pass-met.met 𝓤 𝓛 𝓜 𝓡' has.1.1.1.1.1.1.1.1.0);
    settle_leaves = λ p. any.settle_leaves 𝓛 𝓜 𝓡 p (𝓡.env settle-symbol.name) (settle-met.met 𝓤 𝓛 𝓜 𝓡' has.1.1.1.1.1.1.1.1.1.0);
    settle_inside = λ p. any.settle_inside 𝓛 𝓜 𝓡 p (𝓡.env settle-symbol.name) (settle-met.met 𝓤 𝓛 𝓜 𝓡' has.1.1.1.1.1.1.1.1.1.0);
    known_leaves = λ p. any.known_leaves 𝓛 𝓜 𝓡 p (𝓡.env known-symbol.name) (known-met.met 𝓤 𝓛 𝓜 𝓡' has.1.1.1.1.1.1.1.1.1.1.0);
    verify_leaves = λ p. any.verify_leaves 𝓛 𝓜 𝓡 p (𝓡.env verify-symbol.name) (verify-met.met 𝓤 𝓛 𝓜 𝓡' has.1.0);
    verify_in_leaves = λ p. any.verify_in_leaves 𝓛 𝓜 𝓡 p (𝓡.env verify-in-symbol.name) (verify-in-met.met 𝓤 𝓛 𝓜 𝓡' has.1.1.0);
    check_leaves = λ p. any.check_leaves 𝓛 𝓜 𝓡 p (𝓡.env check-symbol.name) (check-met.met 𝓤 𝓛 𝓜 𝓡' has.1.1.1.0);
    check_in_leaves = λ p. any.check_in_leaves 𝓛 𝓜 𝓡 p (𝓡.env check-in-symbol.name) (check-in-met.met 𝓤 𝓛 𝓜 𝓡' has.1.1.1.1.0);
    print_leaves = λ p. any.print_leaves 𝓛 𝓜 𝓡 p (𝓡.env print-symbol.name) (print-met.met 𝓤 𝓛 𝓜 𝓡' has.1.1.1.1.1.0);
    print_within = λ p. any.print_within 𝓛 𝓜 𝓡 p (𝓡.env print-symbol.name) (print-met.met 𝓤 𝓛 𝓜 𝓡' has.1.1.1.1.1.0);
    load_leaves = λ p. any.load_leaves 𝓛 𝓜 𝓡 p (𝓡.env load-symbol.name) (load-met.met 𝓤 𝓛 𝓜 𝓡' has.1.1.1.1.1.1.1.1.1.1.1.0);
    load_in_leaves = λ p. any.load_in_leaves 𝓛 𝓜 𝓡 p (𝓡.env load-in-symbol.name) (load-in-met.met 𝓤 𝓛 𝓜 𝓡' has.1.1.1.1.1.1.1.1.1.1.1.1.0);
    next_leaves = λ p. any.next_leaves 𝓛 𝓜 𝓡 p (𝓡.env next-symbol.name) (next-met.met 𝓤 𝓛 𝓜 𝓡' has.1.1.1.1.1.1.1.1.1.1.1.1.1.0);
    next_in_leaves = λ p. any.next_in_leaves 𝓛 𝓜 𝓡 p (𝓡.env next-in-symbol.name) (next-in-met.met 𝓤 𝓛 𝓜 𝓡' has.1.1.1.1.1.1.1.1.1.1.1.1.1.1.0);
    report_leaves = λ p. any.report_leaves 𝓛 𝓜 𝓡 p (𝓡.env report-symbol.name) (report-met.met 𝓤 𝓛 𝓜 𝓡' has.1.1.1.1.1.1.1.1.1.1.1.1.1.1.1.0);
    report_in_leaves = λ p. any.report_in_leaves 𝓛 𝓜 𝓡 p (𝓡.env report-in-symbol.name) (report-in-met.met 𝓤 𝓛 𝓜 𝓡' has.1.1.1.1.1.1.1.1.1.1.1.1.1.1.1.1.0);
    feed_leaves = λ p. any.feed_leaves 𝓛 𝓜 𝓡 p (𝓡.env feed-symbol.name) (feed-met.met 𝓤 𝓛 𝓜 𝓡' has.1.1.1.1.1.1.1.1.1.1.1.1.1.1.1.1.1.0);
    end_leaves = λ p. any.end_leaves 𝓛 𝓜 𝓡 p (𝓡.env finish-symbol.name) (finish-met.met 𝓤 𝓛 𝓜 𝓡' has.1.1.1.1.1.1.1.1.1.1.1.1.1.1.1.1.1.1.0);
    line_leaves = λ p. any.line_leaves 𝓛 𝓜 𝓡 p (𝓡.env line-symbol.name) (line-met.met 𝓤 𝓛 𝓜 𝓡' has.1.1.1.1.1.1.1.1.1.1.1.1.1.1.1.1.1.1.1.0);
    line_within = λ p. any.line_within 𝓛 𝓜 𝓡 p (𝓡.env line-symbol.name) (line-met.met 𝓤 𝓛 𝓜 𝓡' has.1.1.1.1.1.1.1.1.1.1.1.1.1.1.1.1.1.1.1.0);
  }
