-- What the routine tells after a list of replies, and which further reply is accepted. Document 01, "The runner" and "From the memory and the record".
-- (The record stands with the runner.)
use Rattle.std.specs.Prelude.{if◌then◌else◌, ℕ, ◌≡◌, List, [], ◌∷◌, ◌++◌, Bool, ◌&&◌, ltb, eqb, length}
use Rattle.lists.specs.Lists.{exists, nonempty}
use Rattle.format.specs.Syntax.{reply_count, Sheet, action_of}
use Rattle.format.specs.Format.{Answer, gives, refused}
use Rattle.semantics.specs.Runs.{Entry, History, entry, replies, next_states, possible_states, holds_after, occurs}
use Rattle.semantics.specs.Routine.{Policy, done, perform, routine, Following}

-- What is left of a policy after a list of replies, and the history that its actions and these replies make. (Past its end a policy takes no reply.)
unfoldable pub left_after : Policy → List ℕ → Policy
left_after p [] = p
left_after done (r ∷ rs) = done
left_after (perform a after) (r ∷ rs) = left_after (after r) rs

unfoldable pub history_of : Policy → List ℕ → History
history_of p [] = []
history_of done (r ∷ rs) = []
history_of (perform a after) (r ∷ rs) = entry a r ∷ history_of (after r) rs

-- What "Next" tells: "the action to do, or that the routine is at its end and whether the goal holds".
pub data Told : Type 0 where
  to_do : (action : ℕ) → Told
  at_end : (goal : Bool) → Told

unfoldable pub told_by : Sheet → Policy → History → Told
unfolding holds_after
told_by sheet done h = at_end (holds_after sheet h sheet.goal)
told_by sheet (perform a after) h = to_do a

unfoldable pub told : Sheet → (rs : List ℕ) → Told
unfolding told_by left_after history_of routine
told sheet rs = told_by sheet (left_after (routine sheet) rs) (history_of (routine sheet) rs)

-- Whether an entry's reply is true in some state still possible. The reply is looked at after the action's effect, which for a probe is none: in some state to
-- which the entry leads from one that was possible before.
unfoldable pub still_possible : Sheet → History → Entry → Bool
unfolding exists possible_states next_states nonempty
still_possible sheet h e = exists (λ s. nonempty (next_states sheet e s)) (possible_states sheet h)

-- Reporting reply r after the replies rs: "adds one reply", or 32, routine at its end; 33, no such reply (for a change: not 0); 34, the reply is true in no state
-- still possible. "Tested in that order."
unfoldable pub reported_to : Sheet → Policy → History → (rs : List ℕ) (r : ℕ) → Answer (List ℕ)
unfolding reply_count action_of still_possible
reported_to sheet done h rs r = refused 32
reported_to sheet (perform a after) h rs r =
    if ltb r (reply_count (action_of sheet a)) then (if still_possible sheet h (entry a r) then gives (rs ++ (r ∷ [])) else refused 34) else refused 33

unfoldable pub reported : Sheet → (rs : List ℕ) (r : ℕ) → Answer (List ℕ)
unfolding reported_to left_after history_of routine
reported sheet rs r = reported_to sheet (left_after (routine sheet) rs) (history_of (routine sheet) rs) rs r

-- "A reply is accepted if its report isn't refused": the replies rs are accepted one after the other behind those before them.
unfoldable pub AcceptedBehind : Sheet → (before rs : List ℕ) → Type 0
AcceptedBehind sheet before [] = Unit {0}
AcceptedBehind sheet before (r ∷ rs) = (reported sheet before r ≡ gives (before ++ (r ∷ []))) × AcceptedBehind sheet (before ++ (r ∷ [])) rs

unfoldable pub AcceptedReplies : Sheet → (rs : List ℕ) → Type 0
AcceptedReplies sheet rs = AcceptedBehind sheet [] rs

-- The replies are "those of some run following the routine".
unfoldable pub RepliesOfRun : Sheet → (rs : List ℕ) → Type 0
RepliesOfRun sheet rs = (h : History) × (run : List ℕ) × Following sheet h run × (replies h ≡ rs)

-- The same as a test: the routine takes all of the replies, and some run has the history that its actions and they make. (ReplyLaws: `of_run`, `run_of`.)
unfoldable pub are_of_run : Sheet → (rs : List ℕ) → Bool
unfolding history_of routine occurs
are_of_run sheet rs = eqb (length (history_of (routine sheet) rs)) (length rs) && occurs sheet (history_of (routine sheet) rs)
