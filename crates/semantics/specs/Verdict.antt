-- The verifier's answer and the trace memory. Document 01, "The verifier".
use Rattle.std.specs.Prelude.{if◌then◌else◌, ℕ, ◌+◌, ◌*◌, ◌≤◌, ◌≡◌, ◌⊎◌, Bool, not, ◌&&◌, ltb, length, drop}
use mathlib.Core.List.{List, [], ◌∷◌, ◌++◌, flat_map, head_d}
use Rattle.lists.specs.Lists.{up_from, below, keep, up_to, nonempty, Before}
use Rattle.format.specs.Syntax.{reply_count, Sheet, action_of}
use Rattle.format.specs.Format.{Answer, gives, refused, on_accepted, given_or, most_acts, reading}
use Rattle.semantics.specs.Runs.{History, extended, replies, runs, holds_after, occurs}
use Rattle.semantics.specs.Routine.{Policy, done, perform, routine, is_full}

-- The histories of runs that follow a policy behind history h, h itself first: "a history standing before its extensions and a smaller reply before a larger".
unfoldable pub histories_from : Sheet → Policy → History → List History
unfolding flat_map keep up_from reply_count action_of occurs
histories_from sheet done h = h ∷ []
histories_from sheet (perform a after) h =
    h ∷ flat_map (λ r. histories_from sheet (after r) (extended h a r)) (keep (λ r. occurs sheet (extended h a r)) (below (reply_count (action_of sheet a))))

-- The histories of runs that follow the routine. The empty history stands first, also where no run starts; an accepted sheet has a run (law `starts`).
unfoldable pub histories : Sheet → List History
unfolding histories_from routine
histories sheet = histories_from sheet (routine sheet) []

-- The order of histories, which is that of their replies.
abbrev pub HistoryBefore : (h g : History) → Type 0
HistoryBefore h g = Before (replies h) (replies g)

-- Whether a history that follows the routine is full and fails the goal.
unfoldable pub fails : Sheet → History → Bool
unfolding is_full routine holds_after
fails sheet h = is_full (routine sheet) h && not (holds_after sheet h sheet.goal)

-- The non-empty histories: "all of them if no full one fails the goal, else those up to and including the first that does".
unfoldable pub counted : Sheet → List History
unfolding keep nonempty up_to fails histories
counted sheet = keep nonempty (up_to (fails sheet) (histories sheet))

-- "Its count is the number of" these.
unfoldable pub history_count : Sheet → ℕ
unfolding counted
history_count sheet = length (counted sheet)

-- "The trace: start state; then for each action one byte (action times 8 plus reply) and one byte of state".
unfoldable pub trace_from : History → (rest : List ℕ) → List ℕ
trace_from [] rest = []
trace_from (e ∷ h) [] = []
trace_from (e ∷ h) (t ∷ rest) = (e.action * 8 + e.reply) ∷ t ∷ trace_from h rest

unfoldable pub trace : History → (run : List ℕ) → List ℕ
unfolding trace_from
trace h [] = []
trace h (s ∷ rest) = s ∷ trace_from h rest

-- "Traces are ordered by reply list, then by state list (start state first), the first difference deciding."
unfoldable pub TraceBefore : (h : History) (run : List ℕ) (g : History) (other : List ℕ) → Type 0
TraceBefore h run g other = HistoryBefore h g ⊎ ((replies h ≡ replies g) × Before run other)

-- The verdict: "valid" with the count c, "invalid" with the count c and the history's length l, or "stopped" with the budget b.
pub data Verdict : Type 0 where
  valid : (c : ℕ) → Verdict
  invalid : (c l : ℕ) → Verdict
  stopped : (b : ℕ) → Verdict

-- A verdict with the trace that it shows; only "invalid" shows one.
pub record Outcome : Type 0 where
  pub verdict : Verdict
  pub shown : List ℕ

-- The histories that fail, in order, and the first run with a history, which is the least.
unfoldable pub failures : Sheet → List History
unfolding keep fails histories
failures sheet = keep (fails sheet) (histories sheet)

unfoldable pub least_run : Sheet → History → List ℕ
unfolding head_d runs
least_run sheet h = head_d (runs sheet h) []

-- The outcome within the budget, from the count c and the histories that fail. "Of all failing full runs the least is shown": the first run of the first history
-- (proofs/VerdictLaws.antt, `invalid_means`).
unfoldable pub concluded : Sheet → (c : ℕ) → (failing : List History) → Outcome
unfolding trace least_run
concluded sheet c [] = record { verdict = valid c; shown = [] }
concluded sheet c (h ∷ later) = record { verdict = invalid c (length h); shown = trace h (least_run sheet h) }

-- "It answers "stopped" with the budget if and only if that count exceeds the budget".
unfoldable pub outcome : Sheet → (budget : ℕ) → Outcome
unfolding history_count failures concluded
outcome sheet budget =
    if ltb budget (history_count sheet) then record { verdict = stopped budget; shown = [] } else concluded sheet (history_count sheet) (failures sheet)

-- The outcome for what was read. A refused sheet gets its number.
unfoldable pub outcome_of : Answer Sheet → (budget : ℕ) → Answer Outcome
unfolding on_accepted outcome
outcome_of a budget = on_accepted (λ sheet. gives (outcome sheet budget)) a

-- Its verdict, or the number; and the trace that is shown, none with a refusal.
unfoldable pub verdict_of : Answer Outcome → Answer Verdict
unfolding on_accepted
verdict_of = on_accepted (λ o. gives o.verdict)

unfoldable pub shown_by : Answer Outcome → List ℕ
unfolding given_or
shown_by = given_or [] (λ o. o.shown)

-- The trace memory after a call: "the failing trace followed by its old bytes, or only its old bytes" (demand 1).
unfoldable pub written : (shown old : List ℕ) → List ℕ
written shown old = shown ++ drop (length shown) old

-- A call's answer, and the trace memory after it.
pub record Verified : Type 0 where
  pub answer : Answer Verdict
  pub memory : List ℕ

-- "1 + 2L bytes": the bytes of the longest trace there is, 129 (proofs/AcceptedLaws.antt, `trace_most`).
abbrev pub longest_trace : ℕ
longest_trace = 1 + 2 * most_acts

-- The trace memory is long enough: 30, "trace memory under 129 bytes", doesn't apply.
abbrev pub LongEnough : (memory : List ℕ) → Type 0
LongEnough memory = longest_trace ≤ length memory

-- 30: "trace memory under 129 bytes (before anything else)".
abbrev pub short_memory : {A : Type 0} → Answer A
short_memory = refused 30

-- The sheet that is verified, or why none is.
unfoldable pub admitted : (bytes old : List ℕ) → Answer Sheet
unfolding reading
admitted bytes old = if ltb (length old) longest_trace then short_memory else reading bytes

-- The verifier "takes a sheet, a budget (32 bits) and the trace memory".
unfoldable pub verified : (bytes : List ℕ) (budget : ℕ) (old : List ℕ) → Verified
unfolding outcome_of admitted verdict_of shown_by written
verified bytes budget old = let o = outcome_of (admitted bytes old) budget in record { answer = verdict_of o; memory = written (shown_by o) old }
