-- Document 02's constraint, "Trunk and standby never both live", sentence by sentence.
use Rattle.std.specs.Prelude.{ℕ, ◌+◌, ◌*◌, ◌^◌, ◌≤◌, ◌<◌, ◌≡◌, ◌↔◌, true, false, length, take}
use mathlib.Core.List.{List, [], ◌∷◌, Memᴰ}
use Rattle.lists.specs.Lists.{below}
use Rattle.states.specs.Sets.{member, of_words}
use Rattle.format.specs.Syntax.{top, Action, reply_count, Sheet, action_of}
use Rattle.format.specs.Truth.{states, holds, moves, reply_holds, allowed}
use Rattle.format.specs.Format.{Answer, gives, refused, got, fault, most_bytes, most_facts, field, deepest, objective, reading, Says}
use Rattle.semantics.specs.Runs.{History, IsRun}
use Rattle.semantics.specs.Verdict.{invalid}
use Rattle.semantics.specs.Checker.{shown_states}
use Rattle.semantics.specs.Cases.{sheet1, sheet1_edition2}
use Rattle.runner.specs.Calls.{Form}
use Rattle.claims.specs.Library.{Library, Gave, ToVerify, AfterVerify, ToCheck, AfterCheck}
use Rattle.claims.specs.Demand2.{Made, StepGave, Carried}
use Rattle.claims.specs.Demand3.{Verifying}

-- The edition of a sheet: its first field.
abbrev pub OfEdition : (edition : ℕ) → List ℕ → Type 0
OfEdition edition bytes = field 4 bytes 0 ≡ got edition 4

-- A number below 2^n that satisfies the constraint.
unfoldable pub Satisfies : Sheet → ℕ → Type 0
unfolding holds
Satisfies sheet s = (s < 2 ^ sheet.facts) × (holds sheet.constraint s ≡ true)

-- What the tests ask, of the numbers that satisfy it alone: that there is one; that there is one in which the start formula holds; and of
-- an action "a state without next state" and "a state without reply".
unfoldable pub HasState : Sheet → Type 0
HasState sheet = (s : ℕ) × Satisfies sheet s

unfoldable pub HasStart : Sheet → Type 0
unfolding holds
HasStart sheet = (s : ℕ) × Satisfies sheet s × (holds sheet.start s ≡ true)

unfoldable pub WithoutNext : Sheet → Action → Type 0
unfolding moves
WithoutNext sheet a = (s : ℕ) × Satisfies sheet s × ((t : ℕ) → Satisfies sheet t → moves a s t ≡ true → ⊥)

unfoldable pub WithoutReply : Sheet → Action → Type 0
unfolding reply_count reply_holds
WithoutReply sheet a = (s : ℕ) × Satisfies sheet s × ((r : ℕ) → r < reply_count a → reply_holds a r s ≡ true → ⊥)

-- An action passes both tests.
unfoldable pub Passes : Sheet → Action → Type 0
Passes sheet a = (WithoutNext sheet a → ⊥) × (WithoutReply sheet a → ⊥)

-- It passes the first and fails the second.
unfoldable pub WithoutReplyAlone : Sheet → Action → Type 0
WithoutReplyAlone sheet a = (WithoutNext sheet a → ⊥) × WithoutReply sheet a

-- "By action number": an action fails so, and every one with a smaller number passes both tests.
pub record First (sheet : Sheet) (Fails : Sheet → Action → Type 0) : Type 0 where
  pub number : ℕ
  pub there : number < length sheet.actions
  pub fails : Fails sheet (action_of sheet number)
  pub before : (i : ℕ) → i < number → Passes sheet (action_of sheet i)

-- An edition 1 sheet, and an edition 2 sheet that is alike but for the constraint "true", both accepted or refused by 13 to 16.
pub record Twins (one two : List ℕ) : Type 0 where
  pub first : Sheet
  pub second : Sheet
  pub first_says : Says one first
  pub second_says : Says two second
  pub first_edition : OfEdition 1 one
  pub second_edition : OfEdition 2 two
  pub constraint_true : second.constraint ≡ top
  pub facts_alike : first.facts ≡ second.facts
  pub actions_alike : first.actions ≡ second.actions
  pub start_alike : first.start ≡ second.start
  pub goal_alike : first.goal ≡ second.goal
  pub program_alike : first.program ≡ second.program

module _ {ℓ} (library : Library {ℓ}) where
  pub record Constraint : Type ℓ where
    -- "Edition 2 of the sheet has an objective formula, the constraint, straight after n." (Behind it stands the number of actions.)
    pub stands_after_n : (bytes : List ℕ) (sheet : Sheet) → Says bytes sheet → OfEdition 2 bytes → (field 4 bytes 4 ≡ got sheet.facts 8)
        × (p : ℕ) × (objective sheet.facts false deepest bytes 8 ≡ got sheet.constraint p)
        × (q : ℕ) × (field 5 bytes p ≡ got (length sheet.actions) q)
    -- (It is refused as every formula is that stands in no theory.)
    pub refused_inside : (bytes : List ℕ) (a : Answer (Unit {0})) → Gave library.read bytes a → length bytes ≤ most_bytes
        → OfEdition 2 bytes → (n : ℕ) → field 4 bytes 4 ≡ got n 8 → 1 ≤ n → n ≤ most_facts
        → (r : ℕ) → objective n false deepest bytes 8 ≡ fault r → a ≡ refused r
    -- (Other editions than 1 and 2, and nothing else, get 3.)
    pub editions_exactly : (bytes : List ℕ) (a : Answer (Unit {0})) → Gave library.read bytes a → (a ≡ refused 3)
        ↔ ((length bytes ≤ most_bytes) × ((edition : ℕ) × OfEdition edition bytes × (edition ≡ 1 → ⊥) × (edition ≡ 2 → ⊥)))
    -- "States are then only those that satisfy it: at the start, after every change," (so in every run, in the sets that `prepare` and
    -- `step` leave, in the trace that is shown, and in every trace to which the checker says yes)
    pub runs_satisfy : (sheet : Sheet) (h : History) (run : List ℕ) → IsRun sheet h run → (s : ℕ) → Memᴰ s run → Satisfies sheet s
    pub start_exactly : {sheet : Sheet} (m : Made library sheet) (s : ℕ)
        → (member (of_words m.given.start) s ≡ true) ↔ (Satisfies sheet s × (holds sheet.start s ≡ true))
    pub step_exactly : {sheet : Sheet} (m : Made library sheet) (h : History) (set : List ℕ) → Carried library m h set
        → (a r : ℕ) → a < length sheet.actions → (next : List ℕ) → StepGave library m set a r next
        → (t : ℕ) → (member (of_words next) t ≡ true)
        ↔ (Satisfies sheet t × ((s : ℕ) × (member (of_words set) s ≡ true) × (allowed (action_of sheet a) s r t ≡ true)))
    pub sets_satisfy : {sheet : Sheet} (m : Made library sheet) (h : History) (set : List ℕ) → Carried library m h set
        → (s : ℕ) → member (of_words set) s ≡ true → Satisfies sheet s
    pub shown_satisfies : {sheet : Sheet} (v : Verifying library sheet) (c l : ℕ) → v.given.answer ≡ gives (invalid c l)
        → (first : ℕ) (rest : List ℕ) → take (1 + 2 * l) v.given.trace ≡ first ∷ rest
        → (s : ℕ) → Memᴰ s (first ∷ shown_states rest) → Satisfies sheet s
    pub checked_satisfies : (form : Form) (x : ToCheck) (y : AfterCheck) → Gave (library.check form) x y → y.answer ≡ gives true
        → (sheet : Sheet) → reading x.sheet ≡ gives sheet → (first : ℕ) (rest : List ℕ) → x.trace ≡ first ∷ rest
        → (s : ℕ) → Memᴰ s (first ∷ shown_states rest) → Satisfies sheet s
    -- "and in the tests behind 13, 14 and 15." (So a state outside needs no next state and no reply: the sheet that the bytes say is read,
    -- and accepted, exactly if it has a start state and each of its actions passes.)
    pub reads_exactly : (bytes : List ℕ) (sheet : Sheet) → (reading bytes ≡ gives sheet)
        ↔ (Says bytes sheet × HasStart sheet × ((i : ℕ) → i < length sheet.actions → Passes sheet (action_of sheet i)))
    pub accepts_exactly : (bytes : List ℕ) (a : Answer (Unit {0})) → Gave library.read bytes a
        → (a ≡ gives tt) ↔ ((sheet : Sheet) × Says bytes sheet × HasStart sheet
        × ((i : ℕ) → i < length sheet.actions → Passes sheet (action_of sheet i)))
    pub no_start_exactly : (bytes : List ℕ) (a : Answer (Unit {0})) → Gave library.read bytes a
        → (a ≡ refused 13) ↔ ((sheet : Sheet) × Says bytes sheet × HasState sheet × (HasStart sheet → ⊥))
    pub no_next_exactly : (bytes : List ℕ) (a : Answer (Unit {0})) → Gave library.read bytes a
        → (a ≡ refused 14) ↔ ((sheet : Sheet) × Says bytes sheet × HasStart sheet × First sheet WithoutNext)
    pub no_reply_exactly : (bytes : List ℕ) (a : Answer (Unit {0})) → Gave library.read bytes a
        → (a ≡ refused 15) ↔ ((sheet : Sheet) × Says bytes sheet × HasStart sheet × First sheet WithoutReplyAlone)
    -- "Edition 1 sheets read as with the constraint true." (So their states are all 2^n; and the edition 2 sheet that is alike but for that
    -- constraint, as there is one to case 1, has the same runs, verdict, count and trace.)
    pub edition_1 : (bytes : List ℕ) (sheet : Sheet) → Says bytes sheet → OfEdition 1 bytes
        → (sheet.constraint ≡ top) × (states sheet ≡ below (2 ^ sheet.facts))
    pub edition_1_has_states : (bytes : List ℕ) (a : Answer (Unit {0})) → Gave library.read bytes a → OfEdition 1 bytes
        → a ≡ refused 16 → ⊥
    pub twins_there : Twins sheet1 sheet1_edition2
    pub twins_same : {one two : List ℕ} (t : Twins one two) → t.first ≡ t.second
    pub twin_runs : {one two : List ℕ} (t : Twins one two) (h : History) (run : List ℕ) → IsRun t.first h run ↔ IsRun t.second h run
    pub twin_verdicts : {one two : List ℕ} → Twins one two → (form form' : Form) (x x' : ToVerify) (y y' : AfterVerify)
        → Gave (library.verify form) x y → Gave (library.verify form') x' y' → x.sheet ≡ one → x'.sheet ≡ two
        → x.budget ≡ x'.budget → x.trace ≡ x'.trace → (y.answer ≡ y'.answer) × (y.trace ≡ y'.trace)
    -- "Case 6 becomes the byte 41." (The byte 21 ends inside a field.)
    pub byte_41 : (a : Answer (Unit {0})) → Gave library.read (0x41 ∷ []) a → a ≡ refused 3
    pub byte_21 : (a : Answer (Unit {0})) → Gave library.read (0x21 ∷ []) a → a ≡ refused 2
    -- "Answers: 16, no state satisfies the constraint, tested after 12 and before 13." (Whatever the start formula, so that 13 isn't given
    -- there.)
    pub no_state_exactly : (bytes : List ℕ) (a : Answer (Unit {0})) → Gave library.read bytes a
        → (a ≡ refused 16) ↔ ((sheet : Sheet) × Says bytes sheet × (HasState sheet → ⊥))
