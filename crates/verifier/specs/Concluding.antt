-- The method: the verdict and the trace memory by what the search finds. An auditor of the promises needs none of it; proofs/AnswerLaws.antt shows its agreement.
use Rattle.std.specs.Prelude.{ℕ, ◌%◌, List, map, length}
use Rattle.states.specs.declared.States.{States}
use Rattle.semantics.specs.Runs.{Entry, entry}
use Rattle.semantics.specs.Verdict.{trace, written}
use Rattle.verifier.specs.declared.verdict.Verdict.{Verdict}
use Rattle.verifier.specs.Search.{Found, passed, failed, over}
use Rattle.verifier.specs.Least.{least_states}

-- The verdict by what the search finds.
unfoldable pub verdict_for : (budget : ℕ) → Found → Verdict
verdict_for budget (passed n) = Verdict.Valid n
verdict_for budget (failed n h) = Verdict.Invalid n (length h)
verdict_for budget over = Verdict.Stopped budget

-- An entry as a byte shows it.
unfoldable pub shown_entry : Entry → Entry
shown_entry e = entry (e.action % 32) (e.reply % 8)

-- The trace memory by what the search finds: it begins with the trace of the least run with the history that failed.
unfoldable pub memory_for : (heads sets : List ℕ) (start : States) → Found → (old : List ℕ) → List ℕ
unfolding written trace least_states shown_entry
memory_for heads sets start (passed n) old = old
memory_for heads sets start (failed n h) old = written (trace (map shown_entry h) (least_states heads sets start (map shown_entry h))) old
memory_for heads sets start over old = old
