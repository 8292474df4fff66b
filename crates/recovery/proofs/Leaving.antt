-- What a call of any function leaves that meets the contract of one that C links, for every model: from any memory in which it can be made it ends, with the number, and with
-- the numbers in every piece of lent memory, that the contract says. A contract made weaker, or one that asks for something, is refused here. Assumes nothing.
use Prim.Native.Nat.{ℕ, ◌≤◌}
use mathlib.Core.List.{List, [], ◌∷◌, ◌++◌}
use mathlib.Core.Path.{◌≡◌, refl, ap, subst, ◌∙◌}
use mathlib.Core.Logic.{∥∥₁_map}
use lib.ListN.{length}
use seplogic.Ra.Ura.{Ura}
use mir.Syntax.{w8, w64}
use mir.Val.{Val, vint, vunit}
use base.Logic.{SProp, sep, id⊢}
use prog.Memory.{Memory}
use prog.Model.{Model}
use types.Logic.{Logic}
use prog.Routine.{Routine}
use denote.Triple.Spec.{Meets}
use contract.Running.{Running}
use contract.Adequate.{Satisfies}
use Rattle.machine.specs.Calls.{Place, reads, writes, number, value_of, values_of, Fits, AllFit, Owned}
use Rattle.machine.proofs.Passing.{bound, Leaves, so, said}
use Rattle.lists.specs.Lists.{write}
use Rattle.states.specs.Sets.{words, of_words}
use Rattle.format.specs.Format.{reading}
use Rattle.reader.specs.Answers.{number_for}
use Rattle.semantics.specs.Verdict.{admitted, verified}
use Rattle.semantics.specs.Checker.{checked}
use Rattle.semantics.specs.Printing.{most_lines, printed, numbers_line}
use Rattle.semantics.specs.Figures.{figure_numbers}
use Rattle.progression.specs.Machine.{stepped, passed_by, settled, known_by, Inside}
use Rattle.verifier.specs.Answers.{cleared}
use Rattle.runner.specs.declared.calls.Record.{Record}
use Rattle.runner.specs.Records.{loaded, sheet_in, next_on, report_on, record_after}
use Rattle.runner.proofs.HeldLaws.{kept_sheet}
use Rattle.release.specs.Counting.{meant_by}
use Rattle.release.specs.Feeding.{fed, is_done, ended, read_by, cleared_all}
use Rattle.recovery.specs.Numbers.{memory_after, start_words, place_number, flag_number, verdict_numbers, checked_number, lent_record, lengths_of, told_numbers, lent_release, release_numbers}
use Rattle.recovery.specs.Arguments.{Tables, tables_after, bytes_at, record_pieces, lent_tables, to_read, to_prepare, to_step, to_pass, to_settle, to_know, to_verify, to_verify_in, to_check, to_check_in, to_print, to_load, to_load_in, to_next, to_next_in, to_report, to_report_in, tables_after_all, to_feed, to_end, to_line}
use Rattle.recovery.specs.contracts.recovery_read as read
use Rattle.recovery.proofs.recovery_read.Reads as read-reads
use Rattle.recovery.specs.contracts.recovery_prepare as prepare
use Rattle.recovery.proofs.recovery_prepare.Reads as prepare-reads
use Rattle.recovery.specs.contracts.recovery_step as step
use Rattle.recovery.proofs.recovery_step.Reads as step-reads
use Rattle.recovery.specs.contracts.recovery_pass as pass
use Rattle.recovery.proofs.recovery_pass.Reads as pass-reads
use Rattle.recovery.specs.contracts.recovery_settle as settle
use Rattle.recovery.proofs.recovery_settle.Reads as settle-reads
use Rattle.recovery.specs.contracts.recovery_known as known
use Rattle.recovery.proofs.recovery_known.Reads as known-reads
use Rattle.recovery.specs.contracts.recovery_verify as verify
use Rattle.recovery.proofs.recovery_verify.Reads as verify-reads
use Rattle.recovery.specs.contracts.recovery_verify_in as verify-in
use Rattle.recovery.proofs.recovery_verify_in.Reads as verify-in-reads
use Rattle.recovery.specs.contracts.recovery_check as check
use Rattle.recovery.proofs.recovery_check.Reads as check-reads
use Rattle.recovery.specs.contracts.recovery_check_in as check-in
use Rattle.recovery.proofs.recovery_check_in.Reads as check-in-reads
use Rattle.recovery.specs.contracts.recovery_print as print
use Rattle.recovery.proofs.recovery_print.Reads as print-reads
use Rattle.recovery.specs.contracts.recovery_load as load
use Rattle.recovery.proofs.recovery_load.Reads as load-reads
use Rattle.recovery.specs.contracts.recovery_load_in as load-in
use Rattle.recovery.proofs.recovery_load_in.Reads as load-in-reads
use Rattle.recovery.specs.contracts.recovery_next as next
use Rattle.recovery.proofs.recovery_next.Reads as next-reads
use Rattle.recovery.specs.contracts.recovery_next_in as next-in
use Rattle.recovery.proofs.recovery_next_in.Reads as next-in-reads
use Rattle.recovery.specs.contracts.recovery_report as report
use Rattle.recovery.proofs.recovery_report.Reads as report-reads
use Rattle.recovery.specs.contracts.recovery_report_in as report-in
use Rattle.recovery.proofs.recovery_report_in.Reads as report-in-reads
use Rattle.recovery.specs.contracts.recovery_figures_feed as feed
use Rattle.recovery.proofs.recovery_figures_feed.Reads as feed-reads
use Rattle.recovery.specs.contracts.recovery_figures_end as end
use Rattle.recovery.proofs.recovery_figures_end.Reads as end_reads
use Rattle.recovery.specs.contracts.recovery_figures_print as line
use Rattle.recovery.proofs.recovery_figures_print.Reads as line_reads_lem

head_is : {v u : Val} → ◌≡◌ {A = List Val} (v ∷ []) (u ∷ []) → v ≡ u
head_is e = cc

module _ {M : Type 1} {𝓤 : Ura M} (𝓛 : Logic 𝓤) (𝓜 : Model 𝓤 𝓛.H) (𝓡 : Running 𝓤 𝓛.H 𝓜) (p : ℕ → Place) where
  open 𝓛 use {H}

  pub read_leaves : (function : Routine) → Meets 𝓛 read.signature (𝓡.returns function) (read.spec 𝓛 𝓜.mem 𝓡.returns) → (sheet : List ℕ)
      → Leaves 𝓛 𝓜 function (to_read p sheet) (vint w8 (number_for (reading sheet))) (to_read p sheet)
  unfolding values_of value_of
  read_leaves function met sheet fit σ F s =
      let args = to_read p sheet in
      ∥∥₁_map
      (said 𝓛 𝓜 𝓡 read.signature function (read.spec 𝓛 𝓜.mem 𝓡.returns) met (read.ended).kept args (bound args) (λ ns. tt)
      (λ ns. read-reads.Learnt (bound args ns).0 (bound args ns).3) (λ ns t. id⊢ 𝓤 _) (λ ns. refl) (λ ns. id⊢ 𝓤 _) (λ ns ws. ws) (λ ns ws. id⊢ 𝓤 _) fit σ F s)
      (λ q.
      let f = q.7 in
      so 𝓛 𝓜 function args σ F q.1 _ _ _ q.2 (head_is q.6.0 ∙ ap (vint w8) f) (refl) (q.5, q.8.0, q.8.1, q.8.2))

  pub prepare_leaves : (function : Routine) → Meets 𝓛 prepare.signature (𝓡.returns function) (prepare.spec 𝓛 𝓜.mem 𝓡.returns) → (sheet : List ℕ) (t : Tables) (start : List ℕ)
      → Leaves 𝓛 𝓜 function (to_prepare p sheet t start) (vint w8 (number_for (reading sheet))) (to_prepare p sheet (tables_after (reading sheet) t) (memory_after start_words (reading sheet) start))
  unfolding values_of value_of
  prepare_leaves function met sheet t start fit σ F s =
      let args = to_prepare p sheet t start in
      ∥∥₁_map
      (said 𝓛 𝓜 𝓡 prepare.signature function (prepare.spec 𝓛 𝓜.mem 𝓡.returns) met (prepare.ended).kept args (bound args) (λ ns. tt)
      (λ ns. prepare-reads.Learnt (bound args ns).0 (bound args ns).3) (λ ns t. id⊢ 𝓤 _) (λ ns. refl) (λ ns. id⊢ 𝓤 _) (λ ns ws. ws) (λ ns ws. id⊢ 𝓤 _) fit σ F s)
      (λ q.
      let f = q.7 in
      so 𝓛 𝓜 function args σ F q.1 _ _ _ q.2 (head_is q.6.0 ∙ ap (vint w8) f.0) (λ i. to_prepare p sheet (record { heads = f.2.0 i; nodes = f.2.1 i; sets = f.2.2 i }) (f.1 i)) (q.5, q.8.0, q.8.1, q.8.2))

  pub step_leaves : (function : Routine) → Meets 𝓛 step.signature (𝓡.returns function) (step.spec 𝓛 𝓜.mem 𝓡.returns) → (t : Tables) (set : List ℕ) (action reply : ℕ)
      → Leaves 𝓛 𝓜 function (to_step p t set action reply) (vunit) (to_step p t (words (stepped t.heads t.sets (of_words set) action reply)) action reply)
  unfolding values_of value_of
  step_leaves function met t set action reply fit σ F s =
      let args = to_step p t set action reply in
      ∥∥₁_map
      (said 𝓛 𝓜 𝓡 step.signature function (step.spec 𝓛 𝓜.mem 𝓡.returns) met (step.ended).kept args (bound args) (λ ns. tt)
      (λ ns. step-reads.Learnt (bound args ns).0 (bound args ns).3) (λ ns t. id⊢ 𝓤 _) (λ ns. refl) (λ ns. id⊢ 𝓤 _) (λ ns ws. ws) (λ ns ws. id⊢ 𝓤 _) fit σ F s)
      (λ q.
      let f = q.7 in
      so 𝓛 𝓜 function args σ F q.1 _ _ _ q.2 (head_is q.6) (λ i. to_step p t (f i) action reply) (q.5, q.8.0, q.8.1, q.8.2))

  pub pass_leaves : (function : Routine) → Meets 𝓛 pass.signature (𝓡.returns function) (pass.spec 𝓛 𝓜.mem 𝓡.returns) → (t : Tables) (set : List ℕ) (action reply : ℕ) (evaluations : List ℕ)
      → Leaves 𝓛 𝓜 function (to_pass p t set action reply evaluations) (vint w8 (flag_number (passed_by t.heads t.sets (of_words set) action reply).possible))
      (to_pass p t (words (passed_by t.heads t.sets (of_words set) action reply).kept) action reply ((passed_by t.heads t.sets (of_words set) action reply).evaluations ∷ []))
  unfolding values_of value_of
  pass_leaves function met t set action reply evaluations fit σ F s =
      let args = to_pass p t set action reply evaluations in
      ∥∥₁_map
      (said 𝓛 𝓜 𝓡 pass.signature function (pass.spec 𝓛 𝓜.mem 𝓡.returns) met (pass.ended).kept args (bound args) (λ ns. tt)
      (λ ns. pass-reads.Learnt (bound args ns).0 (bound args ns).3) (λ ns t. id⊢ 𝓤 _) (λ ns. refl) (λ ns. id⊢ 𝓤 _) (λ ns ws. ws) (λ ns ws. id⊢ 𝓤 _) fit σ F s)
      (λ q.
      let f = q.7 in
      so 𝓛 𝓜 function args σ F q.1 _ _ _ q.2 (head_is q.6.0 ∙ ap (vint w8) f.0) (λ i. to_pass p t (f.1 i) action reply (f.2 i)) (q.5, q.8.0, q.8.1, q.8.2))

  pub settle_leaves : (function : Routine) → Meets 𝓛 settle.signature (𝓡.returns function) (settle.spec 𝓛 𝓜.mem 𝓡.returns) → (t : Tables) (set : List ℕ) (at : ℕ)
      → Leaves 𝓛 𝓜 function (to_settle p t set at) (vint w64 (place_number (settled t.nodes t.sets (of_words set) at))) (to_settle p t set at)
  unfolding values_of value_of
  settle_leaves function met t set at fit σ F s =
      let args = to_settle p t set at in
      ∥∥₁_map
      (said 𝓛 𝓜 𝓡 settle.signature function (settle.spec 𝓛 𝓜.mem 𝓡.returns) met (settle.ended).kept args (bound args) (λ ns. tt)
      (λ ns. settle-reads.Learnt (bound args ns).0 (bound args ns).3) (λ ns t. id⊢ 𝓤 _) (λ ns. refl) (λ ns. id⊢ 𝓤 _) (λ ns ws. ws) (λ ns ws. id⊢ 𝓤 _) fit σ F s)
      (λ q.
      let f = q.7 in
      so 𝓛 𝓜 function args σ F q.1 _ _ _ q.2 (head_is q.6.0 ∙ ap (vint w64) f.0) (refl) (q.5, q.8.0, q.8.1, q.8.2))

  -- And what it tells stands inside the memory.
  pub settle_inside : (function : Routine) → Meets 𝓛 settle.signature (𝓡.returns function) (settle.spec 𝓛 𝓜.mem 𝓡.returns) → (t : Tables) (set : List ℕ) (at : ℕ) → AllFit (to_settle p t set at) → (σ : Memory) (F : SProp 𝓤) → Satisfies 𝓤 H 𝓜 σ (sep 𝓤 (Owned 𝓤 H 𝓜 (to_settle p t set at)) F)
      → ∥ Inside (settled t.nodes t.sets (of_words set) at) ∥₁
  unfolding values_of value_of
  settle_inside function met t set at fit σ F s =
      let args = to_settle p t set at in
      ∥∥₁_map
      (said 𝓛 𝓜 𝓡 settle.signature function (settle.spec 𝓛 𝓜.mem 𝓡.returns) met (settle.ended).kept args (bound args) (λ ns. tt)
      (λ ns. settle-reads.Learnt (bound args ns).0 (bound args ns).3) (λ ns t. id⊢ 𝓤 _) (λ ns. refl) (λ ns. id⊢ 𝓤 _) (λ ns ws. ws) (λ ns ws. id⊢ 𝓤 _) fit σ F s) (λ q. q.7.1)

  pub known_leaves : (function : Routine) → Meets 𝓛 known.signature (𝓡.returns function) (known.spec 𝓛 𝓜.mem 𝓡.returns) → (t : Tables) (set : List ℕ) (k : ℕ)
      → Leaves 𝓛 𝓜 function (to_know p t set k) (vint w8 (flag_number (known_by t.sets (of_words set) k))) (to_know p t set k)
  unfolding values_of value_of
  known_leaves function met t set k fit σ F s =
      let args = to_know p t set k in
      ∥∥₁_map
      (said 𝓛 𝓜 𝓡 known.signature function (known.spec 𝓛 𝓜.mem 𝓡.returns) met (known.ended).kept args (bound args) (λ ns. tt)
      (λ ns. known-reads.Learnt (bound args ns).0 (bound args ns).3) (λ ns t. id⊢ 𝓤 _) (λ ns. refl) (λ ns. id⊢ 𝓤 _) (λ ns ws. ws) (λ ns ws. id⊢ 𝓤 _) fit σ F s)
      (λ q.
      let f = q.7 in
      so 𝓛 𝓜 function args σ F q.1 _ _ _ q.2 (head_is q.6.0 ∙ ap (vint w8) f) (refl) (q.5, q.8.0, q.8.1, q.8.2))

  pub verify_leaves : (function : Routine) → Meets 𝓛 verify.signature (𝓡.returns function) (verify.spec 𝓛 𝓜.mem 𝓡.returns) → (sheet : List ℕ) (budget : ℕ) (trace verdict : List ℕ)
      → Leaves 𝓛 𝓜 function (to_verify p sheet budget trace verdict) (vint w8 (number_for (verified sheet budget trace).answer)) (to_verify p sheet budget (verified sheet budget trace).memory (memory_after verdict_numbers (verified sheet budget trace).answer verdict))
  unfolding values_of value_of
  verify_leaves function met sheet budget trace verdict fit σ F s =
      let args = to_verify p sheet budget trace verdict in
      ∥∥₁_map
      (said 𝓛 𝓜 𝓡 verify.signature function (verify.spec 𝓛 𝓜.mem 𝓡.returns) met (verify.ended).kept args (bound args) (λ ns. tt)
      (λ ns. verify-reads.Learnt (bound args ns).0 (bound args ns).3) (λ ns t. id⊢ 𝓤 _) (λ ns. refl) (λ ns. id⊢ 𝓤 _) (λ ns ws. ws) (λ ns ws. id⊢ 𝓤 _) fit σ F s)
      (λ q.
      let v = verified sheet budget trace in
      let f : (q.3 ≡ number_for v.answer) × (q.4.1.1.0 ≡ v.memory) × (q.4.1.1.1.0 ≡ memory_after verdict_numbers v.answer verdict) = q.7 in
      so 𝓛 𝓜 function args σ F q.1 _ _ _ q.2 (head_is q.6.0 ∙ ap (vint w8) f.0) (λ i. to_verify p sheet budget (f.1 i) (f.2 i)) (q.5, q.8.0, q.8.1, q.8.2))

  pub verify_in_leaves : (function : Routine) → Meets 𝓛 verify-in.signature (𝓡.returns function) (verify-in.spec 𝓛 𝓜.mem 𝓡.returns) → (sheet : List ℕ) (budget : ℕ) (trace verdict : List ℕ) (t : Tables) (memo : List ℕ)
      → Leaves 𝓛 𝓜 function (to_verify_in p sheet budget trace verdict t memo) (vint w8 (number_for (verified sheet budget trace).answer)) (to_verify_in p sheet budget (verified sheet budget trace).memory (memory_after verdict_numbers (verified sheet budget trace).answer verdict) (tables_after (admitted sheet trace) t) (cleared (admitted sheet trace) memo))
  unfolding values_of value_of AllFit Fits
  verify_in_leaves function met sheet budget trace verdict t memo fit σ F s =
      let args = to_verify_in p sheet budget trace verdict t memo in
      ∥∥₁_map
      (said 𝓛 𝓜 𝓡 verify-in.signature function (verify-in.spec 𝓛 𝓜.mem 𝓡.returns) met (verify-in.ended).kept args (bound args) (λ ns. tt)
      (λ ns. verify-in-reads.Learnt (bound args ns).0 (bound args ns).3) (λ ns t. id⊢ 𝓤 _) (λ ns. refl) (λ ns. id⊢ 𝓤 _) (λ ns ws. ws) (λ ns ws. id⊢ 𝓤 _) fit σ F s)
      (λ q.
      let f = q.7 in
      so 𝓛 𝓜 function args σ F q.1 _ _ _ q.2 (head_is q.6.0 ∙ ap (vint w8) f.0) (λ i. to_verify_in p sheet budget (f.1 i) (f.2 i) (record { heads = f.4.0 i; nodes = f.4.1 i; sets = f.4.2 i }) (f.3 i)) (q.5, q.8.0, q.8.1, q.8.2))

  pub check_leaves : (function : Routine) → Meets 𝓛 check.signature (𝓡.returns function) (check.spec 𝓛 𝓜.mem 𝓡.returns) → (sheet trace : List ℕ)
      → Leaves 𝓛 𝓜 function (to_check p sheet trace) (vint w8 (checked_number (checked sheet trace))) (to_check p sheet trace)
  unfolding values_of value_of
  check_leaves function met sheet trace fit σ F s =
      let args = to_check p sheet trace in
      ∥∥₁_map
      (said 𝓛 𝓜 𝓡 check.signature function (check.spec 𝓛 𝓜.mem 𝓡.returns) met (check.ended).kept args (bound args) (λ ns. tt)
      (λ ns. check-reads.Learnt (bound args ns).0 (bound args ns).3) (λ ns t. id⊢ 𝓤 _) (λ ns. refl) (λ ns. id⊢ 𝓤 _) (λ ns ws. ws) (λ ns ws. id⊢ 𝓤 _) fit σ F s)
      (λ q.
      let f = q.7 in
      so 𝓛 𝓜 function args σ F q.1 _ _ _ q.2 (head_is q.6.0 ∙ ap (vint w8) f) (refl) (q.5, q.8.0, q.8.1, q.8.2))

  pub check_in_leaves : (function : Routine) → Meets 𝓛 check-in.signature (𝓡.returns function) (check-in.spec 𝓛 𝓜.mem 𝓡.returns) → (sheet trace : List ℕ) (t : Tables)
      → Leaves 𝓛 𝓜 function (to_check_in p sheet trace t) (vint w8 (checked_number (checked sheet trace))) (to_check_in p sheet trace (tables_after (reading sheet) t))
  unfolding values_of value_of AllFit Fits
  check_in_leaves function met sheet trace t fit σ F s =
      let args = to_check_in p sheet trace t in
      ∥∥₁_map
      (said 𝓛 𝓜 𝓡 check-in.signature function (check-in.spec 𝓛 𝓜.mem 𝓡.returns) met (check-in.ended).kept args (bound args) (λ ns. tt)
      (λ ns. check-in-reads.Learnt (bound args ns).0 (bound args ns).3) (λ ns t. id⊢ 𝓤 _) (λ ns. refl) (λ ns. id⊢ 𝓤 _) (λ ns ws. ws) (λ ns ws. id⊢ 𝓤 _) fit σ F s)
      (λ q.
      let f = q.7 in
      so 𝓛 𝓜 function args σ F q.1 _ _ _ q.2 (head_is q.6.0 ∙ ap (vint w8) f.0) (λ i. to_check_in p sheet trace (record { heads = f.1.0 i; nodes = f.1.1 i; sets = f.1.2 i })) (q.5, q.8.0, q.8.1, q.8.2))

  pub print_leaves : (function : Routine) → Meets 𝓛 print.signature (𝓡.returns function) (print.spec 𝓛 𝓜.mem 𝓡.returns) → (sheet out : List ℕ)
      → Leaves 𝓛 𝓜 function (to_print p sheet out) (vint w64 (length (printed sheet))) (to_print p sheet (write out 0 (printed sheet)))
  unfolding values_of value_of
  print_leaves function met sheet out fit σ F s =
      let args = to_print p sheet out in
      ∥∥₁_map
      (said 𝓛 𝓜 𝓡 print.signature function (print.spec 𝓛 𝓜.mem 𝓡.returns) met (print.ended).kept args (bound args) (λ ns. tt)
      (λ ns. print-reads.Learnt (bound args ns).0 (bound args ns).3) (λ ns t. id⊢ 𝓤 _) (λ ns. refl) (λ ns. id⊢ 𝓤 _) (λ ns ws. ws) (λ ns ws. id⊢ 𝓤 _) fit σ F s)
      (λ q.
      let f = q.7 in
      so 𝓛 𝓜 function args σ F q.1 _ _ _ q.2 (head_is q.6.0 ∙ ap (vint w64) f.0) (λ i. to_print p sheet (f.1 i)) (q.5, q.8.0, q.8.1, q.8.2))

  -- And the lines have room.
  pub print_within : (function : Routine) → Meets 𝓛 print.signature (𝓡.returns function) (print.spec 𝓛 𝓜.mem 𝓡.returns) → (sheet out : List ℕ) → AllFit (to_print p sheet out) → (σ : Memory) (F : SProp 𝓤) → Satisfies 𝓤 H 𝓜 σ (sep 𝓤 (Owned 𝓤 H 𝓜 (to_print p sheet out)) F) → ∥ (length (printed sheet) ≤ most_lines) ∥₁
  unfolding values_of value_of
  print_within function met sheet out fit σ F s =
      let args = to_print p sheet out in
      ∥∥₁_map
      (said 𝓛 𝓜 𝓡 print.signature function (print.spec 𝓛 𝓜.mem 𝓡.returns) met (print.ended).kept args (bound args) (λ ns. tt)
      (λ ns. print-reads.Learnt (bound args ns).0 (bound args ns).3) (λ ns t. id⊢ 𝓤 _) (λ ns. refl) (λ ns. id⊢ 𝓤 _) (λ ns ws. ws) (λ ns ws. id⊢ 𝓤 _) fit σ F s) (λ q. subst (λ (k : ℕ). k ≤ most_lines) q.7.0 q.7.2)

  pub load_leaves : (function : Routine) → Meets 𝓛 load.signature (𝓡.returns function) (load.spec 𝓛 𝓜.mem 𝓡.returns) → (sheet : List ℕ) (r : Record)
      → Leaves 𝓛 𝓜 function (to_load p sheet r) (vint w8 (number_for (reading sheet))) (to_load p sheet (loaded sheet))
  unfolding values_of value_of
  load_leaves function met sheet r fit σ F s =
      let args = to_load p sheet r in
      ∥∥₁_map
      (said 𝓛 𝓜 𝓡 load.signature function (load.spec 𝓛 𝓜.mem 𝓡.returns) met (load.ended).kept args (bound args) (λ ns. tt)
      (λ ns. load-reads.Learnt (bound args ns).0 (bound args ns).3) (λ ns t. id⊢ 𝓤 _) (λ ns. refl) (λ ns. id⊢ 𝓤 _) (λ ns ws. ws) (λ ns ws. id⊢ 𝓤 _) fit σ F s)
      (λ q.
      let f = q.7 in
      so 𝓛 𝓜 function args σ F q.1 _ _ _ q.2 (head_is q.6.0 ∙ ap (vint w8) f.0) (λ i. bytes_at (p 0) sheet ∷ record_pieces writes writes (p 1) (p 2) (p 3) (f.1 i) (f.2 i) (f.3 i)) (q.5, q.8.0, q.8.1, q.8.2))

  pub load_in_leaves : (function : Routine) → Meets 𝓛 load-in.signature (𝓡.returns function) (load-in.spec 𝓛 𝓜.mem 𝓡.returns) → (sheet : List ℕ) (r : Record) (t : Tables)
      → Leaves 𝓛 𝓜 function (to_load_in p sheet r t) (vint w8 (number_for (reading sheet))) (to_load_in p sheet (loaded sheet) (tables_after (reading sheet) t))
  unfolding values_of value_of
  load_in_leaves function met sheet r t fit σ F s =
      let args = to_load_in p sheet r t in
      ∥∥₁_map
      (said 𝓛 𝓜 𝓡 load-in.signature function (load-in.spec 𝓛 𝓜.mem 𝓡.returns) met (load-in.ended).kept args (bound args) (λ ns. tt)
      (λ ns. load-in-reads.Learnt (bound args ns).0 (bound args ns).3) (λ ns t. id⊢ 𝓤 _) (λ ns. refl) (λ ns. id⊢ 𝓤 _) (λ ns ws. ws) (λ ns ws. id⊢ 𝓤 _) fit σ F s)
      (λ q.
      let f = q.7 in
      so 𝓛 𝓜 function args σ F q.1 _ _ _ q.2 (head_is q.6.0 ∙ ap (vint w8) f.0) (λ i. (bytes_at (p 0) sheet ∷ record_pieces writes writes (p 1) (p 2) (p 3) (f.1 i) (f.2 i) (f.3 i)) ++ lent_tables (p 4) (p 5) (p 6) (record { heads = f.4.0 i; nodes = f.4.1 i; sets = f.4.2 i })) (q.5, q.8.0, q.8.1, q.8.2))

  pub next_leaves : (function : Routine) → Meets 𝓛 next.signature (𝓡.returns function) (next.spec 𝓛 𝓜.mem 𝓡.returns) → (r : Record) (told : List ℕ)
      → Leaves 𝓛 𝓜 function (to_next p r told) (vint w8 (number_for (next_on r))) (to_next p r (memory_after told_numbers (next_on r) told))
  unfolding values_of value_of AllFit Fits lent_record lengths_of
  next_leaves function met r told fit σ F s =
      let args = to_next p r told in
      ∥∥₁_map
      (said 𝓛 𝓜 𝓡 next.signature function (next.spec 𝓛 𝓜.mem 𝓡.returns) met (next.ended).kept args (bound args) (λ ns. tt)
      (λ ns. next-reads.Learnt (bound args ns).0 (bound args ns).3) (λ ns t. id⊢ 𝓤 _) (λ ns. refl) (λ ns. id⊢ 𝓤 _) (λ ns ws. ws) (λ ns ws. id⊢ 𝓤 _) fit σ F s)
      (λ q.
      let f = q.7 in
      so 𝓛 𝓜 function args σ F q.1 _ _ _ q.2 (head_is q.6.0 ∙ ap (vint w8) f.0) (λ i. to_next p r (f.1 i)) (q.5, q.8.0, q.8.1, q.8.2))

  pub next_in_leaves : (function : Routine) → Meets 𝓛 next-in.signature (𝓡.returns function) (next-in.spec 𝓛 𝓜.mem 𝓡.returns) → (r : Record) (told : List ℕ) (t : Tables)
      → Leaves 𝓛 𝓜 function (to_next_in p r told t) (vint w8 (number_for (next_on r))) (to_next_in p r (memory_after told_numbers (next_on r) told) (tables_after (sheet_in r) t))
  unfolding values_of value_of AllFit Fits lent_record lengths_of
  next_in_leaves function met r told t fit σ F s =
      let args = to_next_in p r told t in
      ∥∥₁_map
      (said 𝓛 𝓜 𝓡 next-in.signature function (next-in.spec 𝓛 𝓜.mem 𝓡.returns) met (next-in.ended).kept args (bound args) (λ ns. tt)
      (λ ns. next-in-reads.Learnt (bound args ns).0 (bound args ns).3) (λ ns t. id⊢ 𝓤 _) (λ ns. refl) (λ ns. id⊢ 𝓤 _) (λ ns ws. ws) (λ ns ws. id⊢ 𝓤 _) fit σ F s)
      (λ q.
      let f = q.7 in
      so 𝓛 𝓜 function args σ F q.1 _ _ _ q.2 (head_is q.6.0 ∙ ap (vint w8) f.0) (λ i. to_next_in p r (f.1 i) (record { heads = f.2.0 i; nodes = f.2.1 i; sets = f.2.2 i })) (q.5, q.8.0, q.8.1, q.8.2))

  pub report_leaves : (function : Routine) → Meets 𝓛 report.signature (𝓡.returns function) (report.spec 𝓛 𝓜.mem 𝓡.returns) → (r : Record) (reply : ℕ)
      → Leaves 𝓛 𝓜 function (to_report p r reply) (vint w8 (number_for (report_on r reply))) (to_report p (record_after r reply) reply)
  unfolding values_of value_of AllFit Fits lent_record lengths_of
  report_leaves function met r reply fit σ F s =
      let args = to_report p r reply in
      ∥∥₁_map
      (said 𝓛 𝓜 𝓡 report.signature function (report.spec 𝓛 𝓜.mem 𝓡.returns) met (report.ended).kept args (bound args) (λ ns. tt)
      (λ ns. report-reads.Learnt (bound args ns).0 (bound args ns).3) (λ ns t. id⊢ 𝓤 _) (λ ns. refl) (λ ns. id⊢ 𝓤 _) (λ ns ws. ws) (λ ns ws. id⊢ 𝓤 _) fit σ F s)
      (λ q.
      let f = q.7 in
      so 𝓛 𝓜 function args σ F q.1 _ _ _ q.2 (head_is q.6.0 ∙ ap (vint w8) f.0) (λ i. record_pieces reads writes (p 0) (p 1) (p 2) (kept_sheet r fit.0 reply i) (f.1 i) (f.2 i) ++ (number w8 reply ∷ [])) (q.5, q.8.0, q.8.1, q.8.2))

  pub report_in_leaves : (function : Routine) → Meets 𝓛 report-in.signature (𝓡.returns function) (report-in.spec 𝓛 𝓜.mem 𝓡.returns) → (r : Record) (reply : ℕ) (t : Tables)
      → Leaves 𝓛 𝓜 function (to_report_in p r reply t) (vint w8 (number_for (report_on r reply))) (to_report_in p (record_after r reply) reply (tables_after (sheet_in r) t))
  unfolding values_of value_of AllFit Fits lent_record lengths_of
  report_in_leaves function met r reply t fit σ F s =
      let args = to_report_in p r reply t in
      ∥∥₁_map
      (said 𝓛 𝓜 𝓡 report-in.signature function (report-in.spec 𝓛 𝓜.mem 𝓡.returns) met (report-in.ended).kept args (bound args) (λ ns. tt)
      (λ ns. report-in-reads.Learnt (bound args ns).0 (bound args ns).3) (λ ns t. id⊢ 𝓤 _) (λ ns. refl) (λ ns. id⊢ 𝓤 _) (λ ns ws. ws) (λ ns ws. id⊢ 𝓤 _) fit σ F s)
      (λ q.
      let f = q.7 in
      so 𝓛 𝓜 function args σ F q.1 _ _ _ q.2 (head_is q.6.0 ∙ ap (vint w8) f.0) (λ i. (record_pieces reads writes (p 0) (p 1) (p 2) (kept_sheet r fit.0 reply i) (f.1 i) (f.2 i) ++ (number w8 reply ∷ [])) ++ lent_tables (p 3) (p 4) (p 5) (record { heads = f.3.0 i; nodes = f.3.1 i; sets = f.3.2 i })) (q.5, q.8.0, q.8.1, q.8.2))

  pub feed_leaves : (function : Routine) → Meets 𝓛 feed.signature (𝓡.returns function) (feed.spec 𝓛 𝓜.mem 𝓡.returns) → (piece numbers begun : List ℕ) (t : Tables) (memo : List ℕ)
      → Leaves 𝓛 𝓜 function (to_feed p piece numbers begun t memo) (vint w8 (flag_number (is_done (fed (lent_release numbers begun) piece)))) (to_feed p piece (release_numbers (fed (lent_release numbers begun) piece)) (fed (lent_release numbers begun) piece).begun.bytes (tables_after_all (read_by (lent_release numbers begun) piece) t) (cleared_all (read_by (lent_release numbers begun) piece) memo))
  unfolding values_of value_of AllFit Fits
  feed_leaves function met piece numbers begun t memo fit σ F s =
      let args = to_feed p piece numbers begun t memo in
      ∥∥₁_map
      (said 𝓛 𝓜 𝓡 feed.signature function (feed.spec 𝓛 𝓜.mem 𝓡.returns) met (feed.ended).kept args (bound args) (λ ns. tt)
      (λ ns. feed-reads.Learnt (bound args ns).0 (bound args ns).3) (λ ns t. id⊢ 𝓤 _) (λ ns. refl) (λ ns. id⊢ 𝓤 _) (λ ns ws. ws) (λ ns ws. id⊢ 𝓤 _) fit σ F s)
      (λ q.
      let f = q.7 in
      so 𝓛 𝓜 function args σ F q.1 _ _ _ q.2 (head_is q.6.0 ∙ ap (vint w8) f.0) (λ i. to_feed p piece (f.1 i) (f.2 i) (record { heads = f.4.0 i; nodes = f.4.1 i; sets = f.4.2 i }) (f.3 i)) (q.5, q.8.0, q.8.1, q.8.2))

  pub end_leaves : (function : Routine) → Meets 𝓛 end.signature (𝓡.returns function) (end.spec 𝓛 𝓜.mem 𝓡.returns) → (numbers begun figures : List ℕ)
      → Leaves 𝓛 𝓜 function (to_end p numbers begun figures) (vunit) (to_end p numbers begun (figure_numbers (meant_by (ended (lent_release numbers begun)))))
  unfolding values_of value_of
  end_leaves function met numbers begun figures fit σ F s =
      let args = to_end p numbers begun figures in
      ∥∥₁_map
      (said 𝓛 𝓜 𝓡 end.signature function (end.spec 𝓛 𝓜.mem 𝓡.returns) met (end.ended).kept args (bound args) (λ ns. tt)
      (λ ns. end_reads.Learnt (bound args ns).0 (bound args ns).3) (λ ns t. id⊢ 𝓤 _) (λ ns. refl) (λ ns. id⊢ 𝓤 _) (λ ns ws. ws) (λ ns ws. id⊢ 𝓤 _) fit σ F s)
      (λ q.
      let f = q.7 in
      so 𝓛 𝓜 function args σ F q.1 _ _ _ q.2 (head_is q.6) (λ i. to_end p numbers begun (f i)) (q.5, q.8.0, q.8.1, q.8.2))

  pub line_leaves : (function : Routine) → Meets 𝓛 line.signature (𝓡.returns function) (line.spec 𝓛 𝓜.mem 𝓡.returns) → (figures out : List ℕ)
      → Leaves 𝓛 𝓜 function (to_line p figures out) (vint w64 (length (numbers_line figures))) (to_line p figures (write out 0 (numbers_line figures)))
  unfolding values_of value_of
  line_leaves function met figures out fit σ F s =
      let args = to_line p figures out in
      ∥∥₁_map
      (said 𝓛 𝓜 𝓡 line.signature function (line.spec 𝓛 𝓜.mem 𝓡.returns) met (line.ended).kept args (bound args) (λ ns. tt)
      (λ ns. line_reads_lem.Learnt (bound args ns).0 (bound args ns).3) (λ ns t. id⊢ 𝓤 _) (λ ns. refl) (λ ns. id⊢ 𝓤 _) (λ ns ws. ws) (λ ns ws. id⊢ 𝓤 _) fit σ F s)
      (λ q.
      let f = q.7 in
      so 𝓛 𝓜 function args σ F q.1 _ _ _ q.2 (head_is q.6.0 ∙ ap (vint w64) f.0) (λ i. to_line p figures (f.1 i)) (q.5, q.8.0, q.8.1, q.8.2))

  -- And the line has room.
  pub line_within : (function : Routine) → Meets 𝓛 line.signature (𝓡.returns function) (line.spec 𝓛 𝓜.mem 𝓡.returns) → (figures out : List ℕ) → AllFit (to_line p figures out) → (σ : Memory) (F : SProp 𝓤) → Satisfies 𝓤 H 𝓜 σ (sep 𝓤 (Owned 𝓤 H 𝓜 (to_line p figures out)) F) → ∥ (length (numbers_line figures) ≤ most_lines) ∥₁
  unfolding values_of value_of
  line_within function met figures out fit σ F s =
      let args = to_line p figures out in
      ∥∥₁_map
      (said 𝓛 𝓜 𝓡 line.signature function (line.spec 𝓛 𝓜.mem 𝓡.returns) met (line.ended).kept args (bound args) (λ ns. tt)
      (λ ns. line_reads_lem.Learnt (bound args ns).0 (bound args ns).3) (λ ns t. id⊢ 𝓤 _) (λ ns. refl) (λ ns. id⊢ 𝓤 _) (λ ns ws. ws) (λ ns ws. id⊢ 𝓤 _) fit σ F s) (λ q. subst (λ (k : ℕ). k ≤ most_lines) q.7.0 q.7.2)
