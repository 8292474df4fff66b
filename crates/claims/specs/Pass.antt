-- Document 02's "One pass when a reply comes in", sentence by sentence.
use Rattle.std.specs.Prelude.{ℕ, ◌<◌, ◌≡◌, ◌↔◌, List, true, false, length}
use Rattle.states.specs.Sets.{member, members, of_words}
use Rattle.format.specs.Syntax.{Objective, change, probe, reply_count, Sheet, action_of}
use Rattle.format.specs.Truth.{is_state, moves, reply_holds}
use Rattle.format.specs.Format.{gives, refused}
use Rattle.semantics.specs.Runs.{History, extended, Possible}
use Rattle.semantics.specs.Routine.{routine}
use Rattle.semantics.specs.Replies.{to_do, told, history_of}
use Rattle.routine.specs.Memory.{head_at}
use Rattle.progression.specs.Machine.{reply_states}
use Rattle.runner.specs.Records.{held_by, held_replies}
use Rattle.runner.specs.Calls.{Form}
use Rattle.claims.specs.Library.{Library, Gave, ToPass, AfterPass, ToReport, AfterReport}
use Rattle.claims.specs.Demand2.{Made, Carried}

-- A state is in a set that was lent; and the reply is true in it, by the tables that were lent, whatever they hold.
unfoldable pub In : (set : List ℕ) → ℕ → Type 0
unfolding member of_words
In set s = member (of_words set) s ≡ true

unfoldable pub TrueIn : ToPass → ℕ → Type 0
unfolding member reply_states head_at
TrueIn x s = member (reply_states x.tables.sets (head_at x.tables.heads x.action) x.reply) s ≡ true

-- The states that are possible after a history and the effect of an action, which for a probe is none.
unfoldable pub AfterEffect : Sheet → History → (action : ℕ) → ℕ → Type 0
unfolding is_state moves Possible
AfterEffect sheet h action t = (is_state sheet t ≡ true) × ((s : ℕ) × Possible sheet h s × (moves (action_of sheet action) s t ≡ true))

module _ {ℓ} (library : Library {ℓ}) where
  -- A call of the pass on the tables of an accepted sheet, for an action of the sheet.
  pub record Passing {sheet : Sheet} (m : Made library sheet) : Type ℓ where
    pub asked : ToPass
    pub given : AfterPass
    pub gave : Gave library.pass asked given
    pub on_tables : asked.tables ≡ m.given.tables
    pub action_of_sheet : asked.action < length sheet.actions

  pub record Pass : Type ℓ where
    -- "However it is done now, one pass over the possible states shall tell whether a reply is still possible and keep the states in which
    -- it holds. Its contract says, for any set of states and any reply: the states kept are exactly those of the set in which the reply is
    -- true;
    pub kept_exactly : (x : ToPass) (y : AfterPass) → Gave library.pass x y → (s : ℕ) → In y.kept s ↔ (In x.set s × TrueIn x s)
    -- it is impossible exactly when there is none;
    pub impossible_exactly : (x : ToPass) (y : AfterPass) → Gave library.pass x y
        → (y.possible ≡ false) ↔ ((s : ℕ) → In x.set s → TrueIn x s → ⊥)
    -- and the pass answers how often it evaluated the reply, which is once for each state of the set."
    pub evaluations_right : (x : ToPass) (y : AfterPass) → Gave library.pass x y → y.evaluations ≡ length (members (of_words x.set))
    -- (On the tables of an accepted sheet the states kept are exactly those in which that action's reply is true, and it is impossible
    -- exactly when there is none. Where the set is that of the states possible after the action's effect, those kept are the states
    -- possible after the reply. Calls of `step` come to such a set: to that after the history for a probe, with reply 0 for a change.)
    pub kept_true : {sheet : Sheet} (m : Made library sheet) (p : Passing m) (s : ℕ) → In p.given.kept s
        ↔ (In p.asked.set s × (reply_holds (action_of sheet p.asked.action) p.asked.reply s ≡ true))
    pub impossible_true : {sheet : Sheet} (m : Made library sheet) (p : Passing m) → (p.given.possible ≡ false)
        ↔ ((s : ℕ) → In p.asked.set s → reply_holds (action_of sheet p.asked.action) p.asked.reply s ≡ true → ⊥)
    pub kept_possible : {sheet : Sheet} (m : Made library sheet) (p : Passing m) (h : History)
        → ((t : ℕ) → In p.asked.set t ↔ AfterEffect sheet h p.asked.action t)
        → (t : ℕ) → In p.given.kept t ↔ Possible sheet (extended h p.asked.action p.asked.reply) t
    pub probe_set : {sheet : Sheet} (m : Made library sheet) (h : History) (a : ℕ) (fs : List Objective) → action_of sheet a ≡ probe fs
        → (set : List ℕ) → Carried library m h set → (t : ℕ) → In set t ↔ AfterEffect sheet h a t
    pub change_set : {sheet : Sheet} (m : Made library sheet) (h : History) (a : ℕ) (f : Objective) → action_of sheet a ≡ change f
        → (set : List ℕ) → Carried library m (extended h a 0) set → (t : ℕ) → In set t ↔ AfterEffect sheet h a t
    -- ""Report" answers as before." (So says `report_fixed` in Demand1; and where 31 to 33 aren't given it answers as the pass over the
    -- states possible after the action's effect says.)
    pub report_by_pass : {sheet : Sheet} (m : Made library sheet) (p : Passing m)
        → (form : Form) (x : ToReport) (y : AfterReport) → Gave (library.report form) x y → held_by x.kept ≡ gives sheet
        → told sheet (held_replies x.kept) ≡ to_do p.asked.action → x.reply ≡ p.asked.reply
        → x.reply < reply_count (action_of sheet p.asked.action)
        → ((t : ℕ) → In p.asked.set t ↔ AfterEffect sheet (history_of (routine sheet) (held_replies x.kept)) p.asked.action t)
        → ((y.answer ≡ gives tt) ↔ (p.given.possible ≡ true)) × ((y.answer ≡ refused 34) ↔ (p.given.possible ≡ false))
