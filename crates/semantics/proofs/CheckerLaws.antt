-- The trace checker says yes exactly to the traces of failing runs. Assumes nothing.
use Prim.Native.Nat.{ℕ, ◌+◌, ◌*◌, ◌/◌, ◌%◌}
use mathlib.Core.Path.{◌≡◌, refl, sym, ap, ◌∙◌}
use mathlib.Core.List.{List, [], ◌∷◌}
use mathlib.Core.Bool.{true, ◌&&◌}
use native.Mathlib.Omega.{arith}
use lib.Dec.{leb, eqb}
use lib.ListN.{length}
use borrow.Author.Tests.{eqb-true, eq-eqb, le-leb}
use Rattle.lists.proofs.ListLaws.{not_both, both_true, and_both}
use Rattle.format.specs.Syntax.{Sheet}
use Rattle.format.specs.Format.{Answer, gives, refused, on_accepted, reading}
use Rattle.semantics.specs.Runs.{History, Steps, IsRun, is_run}
use Rattle.semantics.specs.Routine.{routine, follows, Following, Full, Failing}
use Rattle.semantics.specs.Verdict.{fails, trace_from, trace, longest_trace}
use Rattle.semantics.specs.Checker.{shown_history, shown_states, shows_failing, is_trace_length, checked}
use Rattle.semantics.proofs.RunLaws.{tested_run, run_tested}
use Rattle.semantics.proofs.FollowLaws.{tested_follows, follows_tested}
use Rattle.semantics.proofs.VerdictLaws.{failing_fails, fails_failing}
use Rattle.semantics.proofs.AcceptedLaws.{EntriesFit, entries_fit, trace_length, trace_most}

-- The bytes behind the start state of a trace show its history and its states, and an even number of bytes is the trace of what it shows.
trace_shows : (sheet : Sheet) (s : ℕ) (h : History) (rest : List ℕ) → Steps sheet s h rest → EntriesFit h
    → (shown_history (trace_from h rest) ≡ h) × (shown_states (trace_from h rest) ≡ rest)
unfolding Steps EntriesFit trace_from shown_history shown_states
trace_shows sheet s [] [] p b = (refl, refl)
trace_shows sheet s [] (t ∷ rest) p b = absurd p
trace_shows sheet s (e ∷ h) [] p b = absurd p
trace_shows sheet s (e ∷ h) (t ∷ rest) p b =
    let q = trace_shows sheet t h rest p.2 b.2 in
    let x : (e.action * 8 + e.reply) / 8 ≡ e.action = omega (arith, b.1) in
    let y : (e.action * 8 + e.reply) % 8 ≡ e.reply = omega (arith, b.1) in
    (λ i. record { action = x i; reply = y i } ∷ q.0 i, λ i. t ∷ q.1 i)

shown_trace : (bytes : List ℕ) → length bytes % 2 ≡ 0 → trace_from (shown_history bytes) (shown_states bytes) ≡ bytes
unfolding trace_from shown_history shown_states
shown_trace [] e = refl
shown_trace (b ∷ []) e = absurd (omega arith)
shown_trace (b ∷ t ∷ rest) e =
    let q = shown_trace rest (omega arith) in
    let x : b / 8 * 8 + b % 8 ≡ b = omega arith in
    λ i. x i ∷ t ∷ q i

-- The start state and the states behind it are a run that the bytes show.
module _ (sheet : Sheet) where
  shows_run : (s : ℕ) (rest : List ℕ) → shows_failing sheet (s ∷ rest) ≡ true → Failing sheet (shown_history rest) (s ∷ shown_states rest)
  unfolding shows_failing Following
  shows_run s rest e =
      let h = shown_history rest in
      let run : List ℕ = s ∷ shown_states rest in
      let a = both_true (is_run sheet h run && follows (routine sheet) h) (fails sheet h) e in
      let b = both_true (is_run sheet h run) (follows (routine sheet) h) a.0 in
      fails_failing sheet h run (tested_run sheet h run b.0, tested_follows (routine sheet) h b.1) a.1

  run_shows : (h : History) (run : List ℕ) → EntriesFit h → Failing sheet h run → shows_failing sheet (trace h run) ≡ true
  unfolding shows_failing trace Failing Full Following IsRun
  run_shows h [] b f = absurd f.0.0.0
  run_shows h (s ∷ rest) b f =
      let q = trace_shows sheet s h rest f.0.0.0.2 b in
      rw (q.0, q.1, run_tested sheet h (s ∷ rest) f.0.0.0, follows_tested (routine sheet) h f.0.0.1) (failing_fails sheet h (s ∷ rest) f)

-- A refused sheet gets its number, and only a refused sheet gets one.
pub checked_refused : (bytes shown : List ℕ) (r : ℕ) → reading bytes ≡ refused r → checked bytes shown ≡ refused r
unfolding checked on_accepted
checked_refused bytes shown r e = rw e

pub checked_number_law : (bytes shown : List ℕ) (k : ℕ) → refused k ≡ checked bytes shown → reading bytes ≡ refused k
unfolding checked on_accepted
checked_number_law bytes shown k e = go (reading bytes) refl e
  where
    go : (x : Answer Sheet) → reading bytes ≡ x → refused k ≡ on_accepted (λ sheet. gives (is_trace_length (length shown) && shows_failing sheet shown)) x → reading bytes ≡ refused k
    go (gives sheet) r d = let z : ◌≡◌ {A = ℕ} 0 1 = cc in absurd (omega arith)
    go (refused j) r d = r ∙ cc

module _ (bytes : List ℕ) (sheet : Sheet) (read : reading bytes ≡ gives sheet) where
  -- The answer for an accepted sheet.
  pub checked_accepted : (shown : List ℕ) → checked bytes shown ≡ gives (is_trace_length (length shown) && shows_failing sheet shown)
  unfolding checked on_accepted
  checked_accepted shown = rw read

  -- It is yes exactly if the bytes are the trace of a full run following the routine whose history fails the goal.
  pub yes_failing : (shown : List ℕ) → checked bytes shown ≡ gives true → (h : History) × (run : List ℕ) × Failing sheet h run × (shown ≡ trace h run)
  unfolding is_trace_length trace
  yes_failing shown e = go shown (both_true (is_trace_length (length shown)) (shows_failing sheet shown) (let k = sym (checked_accepted shown) ∙ e in cc))
    where
      go : (bs : List ℕ) → (is_trace_length (length bs) ≡ true) × (shows_failing sheet bs ≡ true) → (h : History) × (run : List ℕ) × Failing sheet h run × (bs ≡ trace h run)
      go [] k = not_both k.0 refl
      go (s ∷ rest) k =
          let odd : length (s ∷ rest) % 2 ≡ 1 = eqb-true (length (s ∷ rest) % 2) 1 (both_true (eqb (length (s ∷ rest) % 2) 1) (leb (length (s ∷ rest)) longest_trace) k.0).0 in
          (shown_history rest, s ∷ shown_states rest, shows_run sheet s rest k.1, ap (λ (l : List ℕ). s ∷ l) (sym (shown_trace rest (omega arith))))

  -- The states that the bytes then show are those of a run.
  pub yes_run : (s : ℕ) (rest : List ℕ) → checked bytes (s ∷ rest) ≡ gives true → IsRun sheet (shown_history rest) (s ∷ shown_states rest)
  unfolding Failing Full Following
  yes_run s rest e =
      let shown = both_true (is_trace_length (length (s ∷ rest))) (shows_failing sheet (s ∷ rest)) (let k = sym (checked_accepted (s ∷ rest)) ∙ e in cc) in
      (shows_run sheet s rest shown.1).0.0.0

  pub failing_yes : (h : History) (run : List ℕ) → Failing sheet h run → checked bytes (trace h run) ≡ gives true
  unfolding is_trace_length Failing Full Following
  failing_yes h run f =
      let p : IsRun sheet h run = f.0.0.0 in
      let l : length (trace h run) % 2 ≡ 1 = omega (arith, trace_length sheet h run p) in
      checked_accepted (trace h run)
      ∙ ap gives (and_both (is_trace_length (length (trace h run))) (shows_failing sheet (trace h run))
      (and_both (eqb (length (trace h run) % 2) 1) (leb (length (trace h run)) longest_trace) (eq-eqb (length (trace h run) % 2) 1 l) (le-leb (length (trace h run)) longest_trace (trace_most bytes sheet read h run f.0.0)))
      (run_shows sheet h run (entries_fit bytes sheet read h run f.0.0) f))
