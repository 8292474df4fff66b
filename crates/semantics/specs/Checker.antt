-- The trace checker's answer. Document 01, "The trace checker and the command".
use Rattle.std.specs.Prelude.{ℕ, ◌/◌, ◌%◌, List, [], ◌∷◌, Bool, false, ◌&&◌, leb, eqb, length}
use Rattle.format.specs.Syntax.{Sheet}
use Rattle.format.specs.Format.{Answer, gives, on_accepted, reading}
use Rattle.semantics.specs.Runs.{History, entry, is_run}
use Rattle.semantics.specs.Routine.{routine, follows}
use Rattle.semantics.specs.Verdict.{fails, longest_trace}

-- The history and the states that the bytes behind a trace's start state show, two bytes an action.
unfoldable pub shown_history : List ℕ → History
shown_history [] = []
shown_history (b ∷ []) = []
shown_history (b ∷ t ∷ rest) = entry (b / 8) (b % 8) ∷ shown_history rest

unfoldable pub shown_states : List ℕ → List ℕ
shown_states [] = []
shown_states (b ∷ []) = []
shown_states (b ∷ t ∷ rest) = t ∷ shown_states rest

-- Whether a trace "is a full run following the routine whose history fails the goal, least or not".
unfoldable pub shows_failing : Sheet → (shown : List ℕ) → Bool
unfolding shown_history shown_states is_run follows routine fails
shows_failing sheet [] = false
shows_failing sheet (s ∷ rest) =
    let h : History = shown_history rest in
    is_run sheet h (s ∷ shown_states rest) && follows (routine sheet) h && fails sheet h

-- "a trace of even length or above 129 bytes is a no"
unfoldable pub is_trace_length : ℕ → Bool
is_trace_length l = eqb (l % 2) 1 && leb l longest_trace

-- The checker "takes a sheet and a trace and says yes", true, or no, false. "A refused sheet gets its number, before the trace is looked at."
unfoldable pub checked : (bytes shown : List ℕ) → Answer Bool
unfolding on_accepted is_trace_length shows_failing reading
checked bytes shown = on_accepted (λ sheet. gives (is_trace_length (length shown) && shows_failing sheet shown)) (reading bytes)
