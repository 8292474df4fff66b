-- What a call of each function leaves, for every model in which functions run and in every program that has the function's code: from any memory in which it can be made it ends, with the number, and with the numbers in every piece of
-- lent memory, that its contract says. A contract made weaker, or one that asks for something, is refused in Leaving. Assumes nothing.
use Prim.Native.Nat.{ℕ, ◌≤◌}
use mathlib.Core.List.{List, [], ◌∷◌}
use lib.ListN.{length}
use seplogic.Ra.Ura.{Ura}
use mir.Syntax.{w8, w64}
use mir.Val.{vint, vunit}
use base.Logic.{SProp, sep}
use prog.Memory.{Memory}
use prog.Model.{Model}
use types.Logic.{Logic}
use prog.Wired.{Wired}
use contract.Running.{Running, strict}
use contract.Adequate.{Satisfies}
use Rattle.machine.specs.Calls.{Place, AllFit, Owned}
use Rattle.machine.proofs.Passing.{Leaves}
use Rattle.lists.specs.Lists.{write}
use Rattle.states.specs.Sets.{words, of_words}
use Rattle.format.specs.Format.{reading}
use Rattle.reader.specs.Answers.{number_for}
use Rattle.semantics.specs.Verdict.{admitted, verified}
use Rattle.semantics.specs.Checker.{checked}
use Rattle.semantics.specs.Printing.{most_lines, printed, numbers_line}
use Rattle.semantics.specs.Figures.{figure_numbers}
use Rattle.progression.specs.Machine.{stepped, passed_by, settled, known_by, Inside}
use Rattle.verifier.specs.Answers.{cleared}
use Rattle.runner.specs.declared.calls.Record.{Record}
use Rattle.runner.specs.Records.{loaded, sheet_in, next_on, report_on, record_after}
use Rattle.release.specs.Counting.{meant_by}
use Rattle.release.specs.Feeding.{fed, is_done, ended, read_by, cleared_all}
use Rattle.recovery.specs.Numbers.{memory_after, start_words, place_number, flag_number, verdict_numbers, checked_number, told_numbers, lent_release, release_numbers}
use Rattle.recovery.specs.Arguments.{Tables, tables_after, to_read, to_prepare, to_step, to_pass, to_settle, to_know, to_verify, to_verify_in, to_check, to_check_in, to_print, to_load, to_load_in, to_next, to_next_in, to_report, to_report_in, tables_after_all, to_feed, to_end, to_line}
use Rattle.recovery.proofs.Leaving as any
use Rattle.recovery.proofs.recovery_read.Met as read-met
use Rattle.recovery.proofs.recovery_read.Symbol as read-symbol
use Rattle.recovery.proofs.recovery_prepare.Met as prepare-met
use Rattle.recovery.proofs.recovery_prepare.Symbol as prepare-symbol
use Rattle.recovery.proofs.recovery_step.Met as step-met
use Rattle.recovery.proofs.recovery_step.Symbol as step-symbol
use Rattle.recovery.proofs.recovery_pass.Met as pass-met
use Rattle.recovery.proofs.recovery_pass.Symbol as pass-symbol
use Rattle.recovery.proofs.recovery_settle.Met as settle-met
use Rattle.recovery.proofs.recovery_settle.Symbol as settle-symbol
use Rattle.recovery.proofs.recovery_known.Met as known-met
use Rattle.recovery.proofs.recovery_known.Symbol as known-symbol
use Rattle.recovery.proofs.recovery_verify.Met as verify-met
use Rattle.recovery.proofs.recovery_verify.Symbol as verify-symbol
use Rattle.recovery.proofs.recovery_verify_in.Met as verify-in-met
use Rattle.recovery.proofs.recovery_verify_in.Symbol as verify-in-symbol
use Rattle.recovery.proofs.recovery_check.Met as check-met
use Rattle.recovery.proofs.recovery_check.Symbol as check-symbol
use Rattle.recovery.proofs.recovery_check_in.Met as check-in-met
use Rattle.recovery.proofs.recovery_check_in.Symbol as check-in-symbol
use Rattle.recovery.proofs.recovery_print.Met as print-met
use Rattle.recovery.proofs.recovery_print.Symbol as print-symbol
use Rattle.recovery.proofs.recovery_load.Met as load-met
use Rattle.recovery.proofs.recovery_load.Symbol as load-symbol
use Rattle.recovery.proofs.recovery_load_in.Met as load-in-met
use Rattle.recovery.proofs.recovery_load_in.Symbol as load-in-symbol
use Rattle.recovery.proofs.recovery_next.Met as next-met
use Rattle.recovery.proofs.recovery_next.Symbol as next-symbol
use Rattle.recovery.proofs.recovery_next_in.Met as next-in-met
use Rattle.recovery.proofs.recovery_next_in.Symbol as next-in-symbol
use Rattle.recovery.proofs.recovery_report.Met as report-met
use Rattle.recovery.proofs.recovery_report.Symbol as report-symbol
use Rattle.recovery.proofs.recovery_report_in.Met as report-in-met
use Rattle.recovery.proofs.recovery_report_in.Symbol as report-in-symbol
use Rattle.recovery.proofs.recovery_figures_feed.Met as feed-met
use Rattle.recovery.proofs.recovery_figures_feed.Symbol as feed-symbol
use Rattle.recovery.proofs.recovery_figures_end.Met as end-met
use Rattle.recovery.proofs.recovery_figures_end.Symbol as end-symbol
use Rattle.recovery.proofs.recovery_figures_print.Met as line-met
use Rattle.recovery.proofs.recovery_figures_print.Symbol as line-symbol

module _ {M : Type 1} {𝓤 : Ura M} (𝓛 : Logic 𝓤) (𝓜 : Model 𝓤 𝓛.H) (𝓡 : Running 𝓤 𝓛.H 𝓜) (p : ℕ → Place) where
  open 𝓛 use {H}

  pub read_leaves : Wired 𝓡.env read-symbol.code → (sheet : List ℕ)
      → Leaves 𝓛 𝓜 (𝓡.env read-symbol.name) (to_read p sheet) (vint w8 (number_for (reading sheet))) (to_read p sheet)
  read_leaves wired = any.read_leaves 𝓛 𝓜 𝓡 p (𝓡.env read-symbol.name) (read-met.met 𝓤 𝓛 𝓜 (strict 𝓤 H 𝓜 𝓡) wired)

  pub prepare_leaves : Wired 𝓡.env prepare-symbol.code → (sheet : List ℕ) (t : Tables) (start : List ℕ)
      → Leaves 𝓛 𝓜 (𝓡.env prepare-symbol.name) (to_prepare p sheet t start) (vint w8 (number_for (reading sheet))) (to_prepare p sheet (tables_after (reading sheet) t) (memory_after start_words (reading sheet) start))
  prepare_leaves wired = any.prepare_leaves 𝓛 𝓜 𝓡 p (𝓡.env prepare-symbol.name) (prepare-met.met 𝓤 𝓛 𝓜 (strict 𝓤 H 𝓜 𝓡) wired)

  pub step_leaves : Wired 𝓡.env step-symbol.code → (t : Tables) (set : List ℕ) (action reply : ℕ)
      → Leaves 𝓛 𝓜 (𝓡.env step-symbol.name) (to_step p t set action reply) (vunit) (to_step p t (words (stepped t.heads t.sets (of_words set) action reply)) action reply)
  step_leaves wired = any.step_leaves 𝓛 𝓜 𝓡 p (𝓡.env step-symbol.name) (step-met.met 𝓤 𝓛 𝓜 (strict 𝓤 H 𝓜 𝓡) wired)

  pub pass_leaves : Wired 𝓡.env pass-symbol.code → (t : Tables) (set : List ℕ) (action reply : ℕ) (evaluations : List ℕ)
      → Leaves 𝓛 𝓜 (𝓡.env pass-symbol.name) (to_pass p t set action reply evaluations) (vint w8 (flag_number (passed_by t.heads t.sets (of_words set) action reply).possible))
      (to_pass p t (words (passed_by t.heads t.sets (of_words set) action reply).kept) action reply ((passed_by t.heads t.sets (of_words set) action reply).evaluations ∷ []))
  pass_leaves wired = any.pass_leaves 𝓛 𝓜 𝓡 p (𝓡.env pass-symbol.name) (pass-met.met 𝓤 𝓛 𝓜 (strict 𝓤 H 𝓜 𝓡) wired)

  pub settle_leaves : Wired 𝓡.env settle-symbol.code → (t : Tables) (set : List ℕ) (at : ℕ)
      → Leaves 𝓛 𝓜 (𝓡.env settle-symbol.name) (to_settle p t set at) (vint w64 (place_number (settled t.nodes t.sets (of_words set) at))) (to_settle p t set at)
  settle_leaves wired = any.settle_leaves 𝓛 𝓜 𝓡 p (𝓡.env settle-symbol.name) (settle-met.met 𝓤 𝓛 𝓜 (strict 𝓤 H 𝓜 𝓡) wired)

  -- And what it tells stands inside the memory.
  pub settle_inside : Wired 𝓡.env settle-symbol.code → (t : Tables) (set : List ℕ) (at : ℕ) → AllFit (to_settle p t set at) → (σ : Memory) (F : SProp 𝓤) → Satisfies 𝓤 H 𝓜 σ (sep 𝓤 (Owned 𝓤 H 𝓜 (to_settle p t set at)) F)
      → ∥ Inside (settled t.nodes t.sets (of_words set) at) ∥₁
  settle_inside wired = any.settle_inside 𝓛 𝓜 𝓡 p (𝓡.env settle-symbol.name) (settle-met.met 𝓤 𝓛 𝓜 (strict 𝓤 H 𝓜 𝓡) wired)

  pub known_leaves : Wired 𝓡.env known-symbol.code → (t : Tables) (set : List ℕ) (k : ℕ)
      → Leaves 𝓛 𝓜 (𝓡.env known-symbol.name) (to_know p t set k) (vint w8 (flag_number (known_by t.sets (of_words set) k))) (to_know p t set k)
  known_leaves wired = any.known_leaves 𝓛 𝓜 𝓡 p (𝓡.env known-symbol.name) (known-met.met 𝓤 𝓛 𝓜 (strict 𝓤 H 𝓜 𝓡) wired)

  pub verify_leaves : Wired 𝓡.env verify-symbol.code → (sheet : List ℕ) (budget : ℕ) (trace verdict : List ℕ)
      → Leaves 𝓛 𝓜 (𝓡.env verify-symbol.name) (to_verify p sheet budget trace verdict) (vint w8 (number_for (verified sheet budget trace).answer)) (to_verify p sheet budget (verified sheet budget trace).memory (memory_after verdict_numbers (verified sheet budget trace).answer verdict))
  verify_leaves wired = any.verify_leaves 𝓛 𝓜 𝓡 p (𝓡.env verify-symbol.name) (verify-met.met 𝓤 𝓛 𝓜 (strict 𝓤 H 𝓜 𝓡) wired)

  pub verify_in_leaves : Wired 𝓡.env verify-in-symbol.code → (sheet : List ℕ) (budget : ℕ) (trace verdict : List ℕ) (t : Tables) (memo : List ℕ)
      → Leaves 𝓛 𝓜 (𝓡.env verify-in-symbol.name) (to_verify_in p sheet budget trace verdict t memo) (vint w8 (number_for (verified sheet budget trace).answer)) (to_verify_in p sheet budget (verified sheet budget trace).memory (memory_after verdict_numbers (verified sheet budget trace).answer verdict) (tables_after (admitted sheet trace) t) (cleared (admitted sheet trace) memo))
  verify_in_leaves wired = any.verify_in_leaves 𝓛 𝓜 𝓡 p (𝓡.env verify-in-symbol.name) (verify-in-met.met 𝓤 𝓛 𝓜 (strict 𝓤 H 𝓜 𝓡) wired)

  pub check_leaves : Wired 𝓡.env check-symbol.code → (sheet trace : List ℕ)
      → Leaves 𝓛 𝓜 (𝓡.env check-symbol.name) (to_check p sheet trace) (vint w8 (checked_number (checked sheet trace))) (to_check p sheet trace)
  check_leaves wired = any.check_leaves 𝓛 𝓜 𝓡 p (𝓡.env check-symbol.name) (check-met.met 𝓤 𝓛 𝓜 (strict 𝓤 H 𝓜 𝓡) wired)

  pub check_in_leaves : Wired 𝓡.env check-in-symbol.code → (sheet trace : List ℕ) (t : Tables)
      → Leaves 𝓛 𝓜 (𝓡.env check-in-symbol.name) (to_check_in p sheet trace t) (vint w8 (checked_number (checked sheet trace))) (to_check_in p sheet trace (tables_after (reading sheet) t))
  check_in_leaves wired = any.check_in_leaves 𝓛 𝓜 𝓡 p (𝓡.env check-in-symbol.name) (check-in-met.met 𝓤 𝓛 𝓜 (strict 𝓤 H 𝓜 𝓡) wired)

  pub print_leaves : Wired 𝓡.env print-symbol.code → (sheet out : List ℕ)
      → Leaves 𝓛 𝓜 (𝓡.env print-symbol.name) (to_print p sheet out) (vint w64 (length (printed sheet))) (to_print p sheet (write out 0 (printed sheet)))
  print_leaves wired = any.print_leaves 𝓛 𝓜 𝓡 p (𝓡.env print-symbol.name) (print-met.met 𝓤 𝓛 𝓜 (strict 𝓤 H 𝓜 𝓡) wired)

  -- And the lines have room.
  pub print_within : Wired 𝓡.env print-symbol.code → (sheet out : List ℕ) → AllFit (to_print p sheet out) → (σ : Memory) (F : SProp 𝓤) → Satisfies 𝓤 H 𝓜 σ (sep 𝓤 (Owned 𝓤 H 𝓜 (to_print p sheet out)) F) → ∥ (length (printed sheet) ≤ most_lines) ∥₁
  print_within wired = any.print_within 𝓛 𝓜 𝓡 p (𝓡.env print-symbol.name) (print-met.met 𝓤 𝓛 𝓜 (strict 𝓤 H 𝓜 𝓡) wired)

  pub load_leaves : Wired 𝓡.env load-symbol.code → (sheet : List ℕ) (r : Record)
      → Leaves 𝓛 𝓜 (𝓡.env load-symbol.name) (to_load p sheet r) (vint w8 (number_for (reading sheet))) (to_load p sheet (loaded sheet))
  load_leaves wired = any.load_leaves 𝓛 𝓜 𝓡 p (𝓡.env load-symbol.name) (load-met.met 𝓤 𝓛 𝓜 (strict 𝓤 H 𝓜 𝓡) wired)

  pub load_in_leaves : Wired 𝓡.env load-in-symbol.code → (sheet : List ℕ) (r : Record) (t : Tables)
      → Leaves 𝓛 𝓜 (𝓡.env load-in-symbol.name) (to_load_in p sheet r t) (vint w8 (number_for (reading sheet))) (to_load_in p sheet (loaded sheet) (tables_after (reading sheet) t))
  load_in_leaves wired = any.load_in_leaves 𝓛 𝓜 𝓡 p (𝓡.env load-in-symbol.name) (load-in-met.met 𝓤 𝓛 𝓜 (strict 𝓤 H 𝓜 𝓡) wired)

  pub next_leaves : Wired 𝓡.env next-symbol.code → (r : Record) (told : List ℕ)
      → Leaves 𝓛 𝓜 (𝓡.env next-symbol.name) (to_next p r told) (vint w8 (number_for (next_on r))) (to_next p r (memory_after told_numbers (next_on r) told))
  next_leaves wired = any.next_leaves 𝓛 𝓜 𝓡 p (𝓡.env next-symbol.name) (next-met.met 𝓤 𝓛 𝓜 (strict 𝓤 H 𝓜 𝓡) wired)

  pub next_in_leaves : Wired 𝓡.env next-in-symbol.code → (r : Record) (told : List ℕ) (t : Tables)
      → Leaves 𝓛 𝓜 (𝓡.env next-in-symbol.name) (to_next_in p r told t) (vint w8 (number_for (next_on r))) (to_next_in p r (memory_after told_numbers (next_on r) told) (tables_after (sheet_in r) t))
  next_in_leaves wired = any.next_in_leaves 𝓛 𝓜 𝓡 p (𝓡.env next-in-symbol.name) (next-in-met.met 𝓤 𝓛 𝓜 (strict 𝓤 H 𝓜 𝓡) wired)

  pub report_leaves : Wired 𝓡.env report-symbol.code → (r : Record) (reply : ℕ)
      → Leaves 𝓛 𝓜 (𝓡.env report-symbol.name) (to_report p r reply) (vint w8 (number_for (report_on r reply))) (to_report p (record_after r reply) reply)
  report_leaves wired = any.report_leaves 𝓛 𝓜 𝓡 p (𝓡.env report-symbol.name) (report-met.met 𝓤 𝓛 𝓜 (strict 𝓤 H 𝓜 𝓡) wired)

  pub report_in_leaves : Wired 𝓡.env report-in-symbol.code → (r : Record) (reply : ℕ) (t : Tables)
      → Leaves 𝓛 𝓜 (𝓡.env report-in-symbol.name) (to_report_in p r reply t) (vint w8 (number_for (report_on r reply))) (to_report_in p (record_after r reply) reply (tables_after (sheet_in r) t))
  report_in_leaves wired = any.report_in_leaves 𝓛 𝓜 𝓡 p (𝓡.env report-in-symbol.name) (report-in-met.met 𝓤 𝓛 𝓜 (strict 𝓤 H 𝓜 𝓡) wired)

  pub feed_leaves : Wired 𝓡.env feed-symbol.code → (piece numbers begun : List ℕ) (t : Tables) (memo : List ℕ)
      → Leaves 𝓛 𝓜 (𝓡.env feed-symbol.name) (to_feed p piece numbers begun t memo) (vint w8 (flag_number (is_done (fed (lent_release numbers begun) piece)))) (to_feed p piece (release_numbers (fed (lent_release numbers begun) piece)) (fed (lent_release numbers begun) piece).begun.bytes (tables_after_all (read_by (lent_release numbers begun) piece) t) (cleared_all (read_by (lent_release numbers begun) piece) memo))
  feed_leaves wired = any.feed_leaves 𝓛 𝓜 𝓡 p (𝓡.env feed-symbol.name) (feed-met.met 𝓤 𝓛 𝓜 (strict 𝓤 H 𝓜 𝓡) wired)

  pub end_leaves : Wired 𝓡.env end-symbol.code → (numbers begun figures : List ℕ)
      → Leaves 𝓛 𝓜 (𝓡.env end-symbol.name) (to_end p numbers begun figures) (vunit) (to_end p numbers begun (figure_numbers (meant_by (ended (lent_release numbers begun)))))
  end_leaves wired = any.end_leaves 𝓛 𝓜 𝓡 p (𝓡.env end-symbol.name) (end-met.met 𝓤 𝓛 𝓜 (strict 𝓤 H 𝓜 𝓡) wired)

  pub line_leaves : Wired 𝓡.env line-symbol.code → (figures out : List ℕ)
      → Leaves 𝓛 𝓜 (𝓡.env line-symbol.name) (to_line p figures out) (vint w64 (length (numbers_line figures))) (to_line p figures (write out 0 (numbers_line figures)))
  line_leaves wired = any.line_leaves 𝓛 𝓜 𝓡 p (𝓡.env line-symbol.name) (line-met.met 𝓤 𝓛 𝓜 (strict 𝓤 H 𝓜 𝓡) wired)

  -- And the line has room.
  pub line_within : Wired 𝓡.env line-symbol.code → (figures out : List ℕ) → AllFit (to_line p figures out) → (σ : Memory) (F : SProp 𝓤) → Satisfies 𝓤 H 𝓜 σ (sep 𝓤 (Owned 𝓤 H 𝓜 (to_line p figures out)) F) → ∥ (length (numbers_line figures) ≤ most_lines) ∥₁
  line_within wired = any.line_within 𝓛 𝓜 𝓡 p (𝓡.env line-symbol.name) (line-met.met 𝓤 𝓛 𝓜 (strict 𝓤 H 𝓜 𝓡) wired)
