-- The checker's answer by what `prepare` answers. Assumes nothing.
use Prim.Native.Nat.{ℕ}
use mathlib.Core.Path.{◌≡◌, sym, ap, ◌∙◌}
use mathlib.Core.List.{List}
use mathlib.Core.Bool.{Bool, ◌&&◌}
use lib.ListN.{length}
use Rattle.states.specs.declared.States.{States}
use Rattle.format.specs.Format.{gives, refused, reading}
use Rattle.semantics.specs.Checker.{is_trace_length, checked}
use Rattle.semantics.proofs.CheckerLaws.{checked_refused, checked_accepted}
use Rattle.routine.specs.Memory.{Sized}
use Rattle.routine.specs.Tables.{start_of, TablesAfter}
use Rattle.routine.proofs.TableLaws.{Tabled, tables_tabled, ready_sheet, refused_sheet}
use Rattle.checker.specs.Shown.{shows_by}
use Rattle.checker.proofs.ShownLaws.{shown_failing}

module _ (bytes shown : List ℕ) where
  pub refused_checked : (r : ℕ) → refused r ≡ start_of (reading bytes) → refused r ≡ checked bytes shown
  refused_checked r e = sym (checked_refused bytes shown r (refused_sheet (reading bytes) r e))

  -- What the trace shows by the tables that were prepared is the answer.
  pub ready_checked : (start : States) → gives start ≡ start_of (reading bytes)
      → (heads nodes sets heads' nodes' sets' : List ℕ) → TablesAfter (reading bytes) heads nodes sets heads' nodes' sets'
      → (r : Bool) → r ≡ is_trace_length (length shown) && shows_by heads' nodes' sets' start shown
      → Sized heads nodes sets → gives r ≡ checked bytes shown
  ready_checked start e heads nodes sets heads' nodes' sets' tables r y z =
      let q = ready_sheet (reading bytes) start e in
      let sheet = q.0 in
      let tabled : Tabled sheet heads' nodes' sets' = tables_tabled bytes sheet q.1 heads nodes sets z heads' nodes' sets' tables in
      ap gives (y ∙ ap (λ (u : States). is_trace_length (length shown) && shows_by heads' nodes' sets' u shown) q.2 ∙ shown_failing bytes sheet q.1 heads' nodes' sets' tabled shown)
      ∙ sym (checked_accepted bytes sheet q.1 shown)
