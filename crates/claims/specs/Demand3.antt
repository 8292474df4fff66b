-- Demand 3, sentence by sentence.
use Rattle.std.specs.Prelude.{ℕ, ◌≤◌, ◌<◌, ◌^◌, ◌≡◌, ◌⊎◌, ◌↔◌, List, [], ◌∷◌, ◌++◌, Bool, true, false}
use Rattle.states.specs.Sets.{set_of}
use Rattle.format.specs.Syntax.{Objective, Sheet}
use Rattle.format.specs.Truth.{holds}
use Rattle.format.specs.Format.{gives, reading}
use Rattle.semantics.specs.Runs.{History, IsRun, last_state, Holds}
use Rattle.semantics.specs.Replies.{RepliesOfRun}
use Rattle.semantics.specs.Verdict.{history_count, valid, invalid, stopped, LongEnough}
use Rattle.routine.specs.Memory.{set_at}
use Rattle.runner.specs.Calls.{Form, next, report, CallAnswer, done, act as acting, ended}
use Rattle.runner.specs.Calls.{accepted_in, Fresh, Listed, FullReplies, NextInLonger}
use Rattle.claims.specs.Library.{Library, ToVerify, AfterVerify, Gave}
use Rattle.claims.specs.Demand2.{Made, KnowGave, Carried}
use Rattle.claims.specs.Terms.{Tested, CountsHistories, SomeRunFails, LeastShown}

module _ {ℓ} (library : Library {ℓ}) where
  -- "Suppose a sheet is accepted, the trace memory is long enough and the budget is at least document 01's count, which the answer
  -- carries."
  pub record Verifying (sheet : Sheet) : Type ℓ where
    pub form : Form
    pub asked : ToVerify
    pub given : AfterVerify
    pub gave : Gave (library.verify form) asked given
    pub read : reading asked.sheet ≡ gives sheet
    pub enough : LongEnough asked.trace

  abbrev pub Counted : {sheet : Sheet} → Verifying sheet → Type 0
  Counted {sheet} v = history_count sheet ≤ v.asked.budget

  -- What "Next" and a further report do after a list of calls.
  abbrev pub NextSays : {sheet : Sheet} {fresh : Fresh library.runner sheet} → Listed library.runner fresh → CallAnswer → Type ℓ
  NextSays list a = (form : Form) × (k : library.runner.Kept) × library.runner.does form next list.last a k

  abbrev pub ReportSays : {sheet : Sheet} {fresh : Fresh library.runner sheet} → Listed library.runner fresh
      → (reply : ℕ) → CallAnswer → Type ℓ
  ReportSays list x a = (form : Form) × (k : library.runner.Kept) × library.runner.does form (report x) list.last a k

  pub record Demand3 : Type ℓ where
    -- "Document 01's count, which the answer carries": a number of histories.
    pub counts : {sheet : Sheet} → Verifying sheet → CountsHistories sheet (history_count sheet)
    pub carries : {sheet : Sheet} (v : Verifying sheet) (c : ℕ)
        → (v.given.answer ≡ gives (valid c)) ⊎ ((l : ℕ) × (v.given.answer ≡ gives (invalid c l))) → CountsHistories sheet c
    -- "A formula is known after a run exactly when it is true at the end of every run alike in actions and replies." (Every tested formula
    -- stands in the tables; set k there is that of the states in which it is true.)
    pub tested_stands : {sheet : Sheet} (m : Made library sheet) (f : Objective) → Tested f sheet
        → (k : ℕ) × (k < 2 ^ 64) × (set_at m.given.tables.sets k ≡ set_of (λ s. holds f s))
    pub known_exactly : {sheet : Sheet} (m : Made library sheet) (h : History) (run : List ℕ) → IsRun sheet h run
        → (set : List ℕ) → Carried library m h set → (k : ℕ) (f : Objective) → set_at m.given.tables.sets k ≡ set_of (λ s. holds f s)
        → (b : Bool) → KnowGave library m k set b
        → (b ≡ true) ↔ ((other : List ℕ) → IsRun sheet h other → holds f (last_state other) ≡ true)
    -- "The verdict is "invalid" exactly when some full run following the routine fails the goal, so read."
    pub invalid_exactly : {sheet : Sheet} (v : Verifying sheet) → Counted v
        → ((l : ℕ) × (v.given.answer ≡ gives (invalid (history_count sheet) l))) ↔ SomeRunFails sheet
    pub valid_exactly : {sheet : Sheet} (v : Verifying sheet) → Counted v
        → (v.given.answer ≡ gives (valid (history_count sheet))) ↔ (SomeRunFails sheet → ⊥)
    pub stopped_exactly : {sheet : Sheet} (v : Verifying sheet)
        → (v.given.answer ≡ gives (stopped v.asked.budget)) ↔ (v.asked.budget < history_count sheet)
    -- "The trace shown is such a run, and every other such run comes later in document 01's order."
    pub shown_least : {sheet : Sheet} (v : Verifying sheet) (c l : ℕ) → v.given.answer ≡ gives (invalid c l)
        → LeastShown sheet l v.given.trace
    -- "Take any list of "Next" and "Report" calls, refused ones included, from a record freshly loaded with the sheet. After the list a
    -- further report is accepted exactly when the replies accepted so far and then this one are those of some run following the routine."
    pub accepts : {sheet : Sheet} (fresh : Fresh library.runner sheet) (list : Listed library.runner fresh)
        → (x : ℕ) (a : CallAnswer) → ReportSays list x a → (a ≡ done) ↔ RepliesOfRun sheet (accepted_in list.events ++ (x ∷ []))
    -- ""Next" after the list tells the end exactly when the replies accepted so far are those of a full run following the routine,
    pub tells_end : {sheet : Sheet} (fresh : Fresh library.runner sheet) (list : Listed library.runner fresh)
        → (a : CallAnswer) → NextSays list a → ((goal : Bool) × (a ≡ ended goal)) ↔ FullReplies sheet (accepted_in list.events)
    -- and says that the goal holds exactly when it does after that run;
    pub tells_goal : {sheet : Sheet} (fresh : Fresh library.runner sheet) (list : Listed library.runner fresh)
        → (a : CallAnswer) → NextSays list a → (full : FullReplies sheet (accepted_in list.events))
        → (a ≡ ended true) ↔ Holds sheet full.history sheet.goal
    -- else it tells the action that comes next in every longer run following the routine whose replies begin with them." (There is one.)
    pub tells_action : {sheet : Sheet} (fresh : Fresh library.runner sheet) (list : Listed library.runner fresh)
        → (a : CallAnswer) → NextSays list a → (FullReplies sheet (accepted_in list.events) → ⊥)
        → (action : ℕ) × (a ≡ acting action) × NextInLonger sheet (accepted_in list.events) action
        × ((x : ℕ) × RepliesOfRun sheet (accepted_in list.events ++ (x ∷ [])))
    -- "The verdict is "valid" exactly when "Next" says after no such list that the goal fails."
    pub valid_told : {sheet : Sheet} (v : Verifying sheet) → Counted v → (fresh : Fresh library.runner sheet)
        → (v.given.answer ≡ gives (valid (history_count sheet)))
        ↔ ((list : Listed library.runner fresh) (a : CallAnswer) → NextSays list a → a ≡ ended false → ⊥)
