-- What a call of each function leaves, as a record, of any functions; and those of a program that has the library's code leave it. Assumes nothing.
use Prim.Native.Nat.{ℕ, ◌≤◌}
use mathlib.Core.List.{List, [], ◌∷◌}
use lib.ListN.{length}
use mir.Syntax.{w8, w64}
use mir.Val.{vint, vunit}
use base.Logic.{SProp, sep}
use seplogic.Ra.Ura.{Ura}
use prog.Model.{Model}
use types.Logic.{Logic}
use contract.Running.{Running}
use prog.Memory.{Memory}
use contract.Adequate.{Satisfies}
use Rattle.machine.specs.Calls.{Place, AllFit, Owned}
use Rattle.machine.proofs.Passing.{Leaves}
use Rattle.lists.specs.Lists.{write}
use Rattle.states.specs.Sets.{words, of_words}
use Rattle.format.specs.Format.{reading}
use Rattle.reader.specs.Answers.{number_for}
use Rattle.semantics.specs.Verdict.{admitted, verified}
use Rattle.semantics.specs.Checker.{checked}
use Rattle.semantics.specs.Printing.{most_lines, printed, numbers_line}
use Rattle.semantics.specs.Figures.{figure_numbers}
use Rattle.progression.specs.Machine.{stepped, passed_by, settled, known_by, Inside}
use Rattle.verifier.specs.Answers.{cleared}
use Rattle.runner.specs.declared.calls.Record.{Record}
use Rattle.runner.specs.Records.{loaded, sheet_in, next_on, report_on, record_after}
use Rattle.release.specs.Counting.{meant_by}
use Rattle.release.specs.Feeding.{fed, is_done, ended, read_by, cleared_all}
use Rattle.recovery.specs.Numbers.{memory_after, start_words, place_number, flag_number, verdict_numbers, checked_number, told_numbers, lent_release, release_numbers}
use Rattle.recovery.specs.Arguments.{Tables, tables_after, to_read, to_prepare, to_step, to_pass, to_settle, to_know, to_verify, to_verify_in, to_check, to_check_in, to_print, to_load, to_load_in, to_next, to_next_in, to_report, to_report_in, tables_after_all, to_feed, to_end, to_line}
use Rattle.recovery.proofs.CallLaws as calls
use Rattle.claims.specs.Linked.{Functions}
use Rattle.claims.specs.Program.{functions_in, HasLibrary}

module _ {M : Type 1} {𝓤 : Ura M} (𝓛 : Logic 𝓤) (𝓜 : Model 𝓤 𝓛.H) where
  open 𝓛 use {H}

  pub record Laws (fs : Functions) : Type 2 where
    pub read_leaves : (p : ℕ → Place) (sheet : List ℕ)
        → Leaves 𝓛 𝓜 fs.read (to_read p sheet) (vint w8 (number_for (reading sheet))) (to_read p sheet)
    pub prepare_leaves : (p : ℕ → Place) (sheet : List ℕ) (t : Tables) (start : List ℕ)
        → Leaves 𝓛 𝓜 fs.prepare (to_prepare p sheet t start) (vint w8 (number_for (reading sheet))) (to_prepare p sheet (tables_after (reading sheet) t) (memory_after start_words (reading sheet) start))
    pub step_leaves : (p : ℕ → Place) (t : Tables) (set : List ℕ) (action reply : ℕ)
        → Leaves 𝓛 𝓜 fs.step (to_step p t set action reply) (vunit) (to_step p t (words (stepped t.heads t.sets (of_words set) action reply)) action reply)
    pub pass_leaves : (p : ℕ → Place) (t : Tables) (set : List ℕ) (action reply : ℕ) (evaluations : List ℕ)
        → Leaves 𝓛 𝓜 fs.pass (to_pass p t set action reply evaluations) (vint w8 (flag_number (passed_by t.heads t.sets (of_words set) action reply).possible))
        (to_pass p t (words (passed_by t.heads t.sets (of_words set) action reply).kept) action reply ((passed_by t.heads t.sets (of_words set) action reply).evaluations ∷ []))
    pub settle_leaves : (p : ℕ → Place) (t : Tables) (set : List ℕ) (at : ℕ)
        → Leaves 𝓛 𝓜 fs.settle (to_settle p t set at) (vint w64 (place_number (settled t.nodes t.sets (of_words set) at))) (to_settle p t set at)
    pub settle_inside : (p : ℕ → Place) (t : Tables) (set : List ℕ) (at : ℕ) → AllFit (to_settle p t set at) → (σ : Memory) (F : SProp 𝓤) → Satisfies 𝓤 H 𝓜 σ (sep 𝓤 (Owned 𝓤 H 𝓜 (to_settle p t set at)) F)
        → ∥ Inside (settled t.nodes t.sets (of_words set) at) ∥₁
    pub known_leaves : (p : ℕ → Place) (t : Tables) (set : List ℕ) (k : ℕ)
        → Leaves 𝓛 𝓜 fs.known (to_know p t set k) (vint w8 (flag_number (known_by t.sets (of_words set) k))) (to_know p t set k)
    pub verify_leaves : (p : ℕ → Place) (sheet : List ℕ) (budget : ℕ) (trace verdict : List ℕ)
        → Leaves 𝓛 𝓜 fs.verify (to_verify p sheet budget trace verdict) (vint w8 (number_for (verified sheet budget trace).answer)) (to_verify p sheet budget (verified sheet budget trace).memory (memory_after verdict_numbers (verified sheet budget trace).answer verdict))
    pub verify_in_leaves : (p : ℕ → Place) (sheet : List ℕ) (budget : ℕ) (trace verdict : List ℕ) (t : Tables) (memo : List ℕ)
        → Leaves 𝓛 𝓜 fs.verify_in (to_verify_in p sheet budget trace verdict t memo) (vint w8 (number_for (verified sheet budget trace).answer)) (to_verify_in p sheet budget (verified sheet budget trace).memory (memory_after verdict_numbers (verified sheet budget trace).answer verdict) (tables_after (admitted sheet trace) t) (cleared (admitted sheet trace) memo))
    pub check_leaves : (p : ℕ → Place) (sheet trace : List ℕ)
        → Leaves 𝓛 𝓜 fs.check (to_check p sheet trace) (vint w8 (checked_number (checked sheet trace))) (to_check p sheet trace)
    pub check_in_leaves : (p : ℕ → Place) (sheet trace : List ℕ) (t : Tables)
        → Leaves 𝓛 𝓜 fs.check_in (to_check_in p sheet trace t) (vint w8 (checked_number (checked sheet trace))) (to_check_in p sheet trace (tables_after (reading sheet) t))
    pub print_leaves : (p : ℕ → Place) (sheet out : List ℕ)
        → Leaves 𝓛 𝓜 fs.print (to_print p sheet out) (vint w64 (length (printed sheet))) (to_print p sheet (write out 0 (printed sheet)))
    pub print_within : (p : ℕ → Place) (sheet out : List ℕ) → AllFit (to_print p sheet out) → (σ : Memory) (F : SProp 𝓤) → Satisfies 𝓤 H 𝓜 σ (sep 𝓤 (Owned 𝓤 H 𝓜 (to_print p sheet out)) F) → ∥ (length (printed sheet) ≤ most_lines) ∥₁
    pub load_leaves : (p : ℕ → Place) (sheet : List ℕ) (r : Record)
        → Leaves 𝓛 𝓜 fs.load (to_load p sheet r) (vint w8 (number_for (reading sheet))) (to_load p sheet (loaded sheet))
    pub load_in_leaves : (p : ℕ → Place) (sheet : List ℕ) (r : Record) (t : Tables)
        → Leaves 𝓛 𝓜 fs.load_in (to_load_in p sheet r t) (vint w8 (number_for (reading sheet))) (to_load_in p sheet (loaded sheet) (tables_after (reading sheet) t))
    pub next_leaves : (p : ℕ → Place) (r : Record) (told : List ℕ)
        → Leaves 𝓛 𝓜 fs.next (to_next p r told) (vint w8 (number_for (next_on r))) (to_next p r (memory_after told_numbers (next_on r) told))
    pub next_in_leaves : (p : ℕ → Place) (r : Record) (told : List ℕ) (t : Tables)
        → Leaves 𝓛 𝓜 fs.next_in (to_next_in p r told t) (vint w8 (number_for (next_on r))) (to_next_in p r (memory_after told_numbers (next_on r) told) (tables_after (sheet_in r) t))
    pub report_leaves : (p : ℕ → Place) (r : Record) (reply : ℕ)
        → Leaves 𝓛 𝓜 fs.report (to_report p r reply) (vint w8 (number_for (report_on r reply))) (to_report p (record_after r reply) reply)
    pub report_in_leaves : (p : ℕ → Place) (r : Record) (reply : ℕ) (t : Tables)
        → Leaves 𝓛 𝓜 fs.report_in (to_report_in p r reply t) (vint w8 (number_for (report_on r reply))) (to_report_in p (record_after r reply) reply (tables_after (sheet_in r) t))
    pub feed_leaves : (p : ℕ → Place) (piece numbers begun : List ℕ) (t : Tables) (memo : List ℕ)
        → Leaves 𝓛 𝓜 fs.feed (to_feed p piece numbers begun t memo) (vint w8 (flag_number (is_done (fed (lent_release numbers begun) piece)))) (to_feed p piece (release_numbers (fed (lent_release numbers begun) piece)) (fed (lent_release numbers begun) piece).begun.bytes (tables_after_all (read_by (lent_release numbers begun) piece) t) (cleared_all (read_by (lent_release numbers begun) piece) memo))
    pub end_leaves : (p : ℕ → Place) (numbers begun figures : List ℕ)
        → Leaves 𝓛 𝓜 fs.finish (to_end p numbers begun figures) (vunit) (to_end p numbers begun (figure_numbers (meant_by (ended (lent_release numbers begun)))))
    pub line_leaves : (p : ℕ → Place) (figures out : List ℕ)
        → Leaves 𝓛 𝓜 fs.line (to_line p figures out) (vint w64 (length (numbers_line figures))) (to_line p figures (write out 0 (numbers_line figures)))
    pub line_within : (p : ℕ → Place) (figures out : List ℕ) → AllFit (to_line p figures out) → (σ : Memory) (F : SProp 𝓤) → Satisfies 𝓤 H 𝓜 σ (sep 𝓤 (Owned 𝓤 H 𝓜 (to_line p figures out)) F) → ∥ (length (numbers_line figures) ≤ most_lines) ∥₁

  pub laws : (𝓡 : Running 𝓤 H 𝓜) → HasLibrary 𝓡.env → Laws (functions_in 𝓡.env)
  laws 𝓡 has = record {
    read_leaves = λ p. calls.read_leaves 𝓛 𝓜 𝓡 p has.0;
    prepare_leaves = λ p. calls.prepare_leaves 𝓛 𝓜 𝓡 p has.1.1.1.1.1.1.0;
    step_leaves = λ p. calls.step_leaves 𝓛 𝓜 𝓡 p has.1.1.1.1.1.1.1.0;
    pass_leaves = λ p. calls.pass_leaves 𝓛 𝓜 𝓡 p has.1.1.1.1.1.1.1.1.0;
    settle_leaves = λ p. calls.settle_leaves 𝓛 𝓜 𝓡 p has.1.1.1.1.1.1.1.1.1.0;
    settle_inside = λ p. calls.settle_inside 𝓛 𝓜 𝓡 p has.1.1.1.1.1.1.1.1.1.0;
    known_leaves = λ p. calls.known_leaves 𝓛 𝓜 𝓡 p has.1.1.1.1.1.1.1.1.1.1.0;
    verify_leaves = λ p. calls.verify_leaves 𝓛 𝓜 𝓡 p has.1.0;
    verify_in_leaves = λ p. calls.verify_in_leaves 𝓛 𝓜 𝓡 p has.1.1.0;
    check_leaves = λ p. calls.check_leaves 𝓛 𝓜 𝓡 p has.1.1.1.0;
    check_in_leaves = λ p. calls.check_in_leaves 𝓛 𝓜 𝓡 p has.1.1.1.1.0;
    print_leaves = λ p. calls.print_leaves 𝓛 𝓜 𝓡 p has.1.1.1.1.1.0;
    print_within = λ p. calls.print_within 𝓛 𝓜 𝓡 p has.1.1.1.1.1.0;
    load_leaves = λ p. calls.load_leaves 𝓛 𝓜 𝓡 p has.1.1.1.1.1.1.1.1.1.1.1.0;
    load_in_leaves = λ p. calls.load_in_leaves 𝓛 𝓜 𝓡 p has.1.1.1.1.1.1.1.1.1.1.1.1.0;
    next_leaves = λ p. calls.next_leaves 𝓛 𝓜 𝓡 p has.1.1.1.1.1.1.1.1.1.1.1.1.1.0;
    next_in_leaves = λ p. calls.next_in_leaves 𝓛 𝓜 𝓡 p has.1.1.1.1.1.1.1.1.1.1.1.1.1.1.0;
    report_leaves = λ p. calls.report_leaves 𝓛 𝓜 𝓡 p has.1.1.1.1.1.1.1.1.1.1.1.1.1.1.1.0;
    report_in_leaves = λ p. calls.report_in_leaves 𝓛 𝓜 𝓡 p has.1.1.1.1.1.1.1.1.1.1.1.1.1.1.1.1.0;
    feed_leaves = λ p. calls.feed_leaves 𝓛 𝓜 𝓡 p has.1.1.1.1.1.1.1.1.1.1.1.1.1.1.1.1.1.0;
    end_leaves = λ p. calls.end_leaves 𝓛 𝓜 𝓡 p has.1.1.1.1.1.1.1.1.1.1.1.1.1.1.1.1.1.1.0;
    line_leaves = λ p. calls.line_leaves 𝓛 𝓜 𝓡 p has.1.1.1.1.1.1.1.1.1.1.1.1.1.1.1.1.1.1.1.0;
    line_within = λ p. calls.line_within 𝓛 𝓜 𝓡 p has.1.1.1.1.1.1.1.1.1.1.1.1.1.1.1.1.1.1.1.0;
  }
