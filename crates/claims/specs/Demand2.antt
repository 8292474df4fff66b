-- Demand 2, sentence by sentence.
use Rattle.std.specs.Prelude.{ℕ, ◌+◌, ◌<◌, ◌≡◌, ◌↔◌, List, [], ◌∷◌, ◌++◌, Bool, true, length}
use Rattle.states.specs.Sets.{member, of_words}
use Rattle.format.specs.Syntax.{Epistemic, Sheet}
use Rattle.format.specs.Format.{Answer, gives, refused, reading}
use Rattle.semantics.specs.Runs.{Entry, History, extended, IsRun, last_state, Holds, holds_after}
use Rattle.semantics.specs.Routine.{routine, Follows, is_full, Failing}
use Rattle.semantics.specs.Verdict.{trace, LongEnough}
use Rattle.progression.specs.declared.place.Place.{Place as Stop}
use Rattle.runner.specs.Calls.{Form}
use Rattle.claims.specs.Library.{Library, Gave, ToVerify, AfterVerify, ToCheck, AfterCheck}
use Rattle.claims.specs.Library.{ToPrepare, AfterPrepare, ToLoad, AfterLoad}

module _ {ℓ} (library : Library {ℓ}) where
  -- The tables of an accepted sheet and its start set, as a call of `prepare` left them in memory.
  pub record Made (sheet : Sheet) : Type ℓ where
    pub asked : ToPrepare
    pub given : AfterPrepare
    pub read : reading asked.sheet ≡ gives sheet
    pub made : Gave library.prepare asked given

  -- Calls of `step`, `settle` and `know` on them.
  abbrev pub StepGave : {sheet : Sheet} → Made sheet → (set : List ℕ) (action reply : ℕ) (next : List ℕ) → Type ℓ
  StepGave m set action reply next =
      Gave library.step (record { tables = m.given.tables; set = set; action = action; reply = reply }) next

  abbrev pub SettleGave : {sheet : Sheet} → Made sheet → (at : ℕ) (set : List ℕ) → Stop → Type ℓ
  SettleGave m at set stop = Gave library.settle (record { tables = m.given.tables; set = set; at = at }) stop

  abbrev pub KnowGave : {sheet : Sheet} → Made sheet → (formula : ℕ) (set : List ℕ) → Bool → Type ℓ
  KnowGave m formula set b = Gave library.know (record { tables = m.given.tables; set = set; formula = formula }) b

  -- The set to which calls of `step` come along a history, from the start set on; and the node and the set to which `settle` and `step`
  -- come.
  pub data Carried {sheet : Sheet} (m : Made sheet) : History → (set : List ℕ) → Type ℓ where
    begin : Carried m [] m.given.start
    onward : {h : History} {set next : List ℕ} (a r : ℕ) → Carried m h set → a < length sheet.actions → StepGave m set a r next
        → Carried m (extended h a r) next

  pub data Reaches {sheet : Sheet} (m : Made sheet) : History → (at : ℕ) → (set : List ℕ) → Type ℓ where
    first : Reaches m [] 0 m.given.start
    further : {h : History} {at : ℕ} {set next : List ℕ} (node a r : ℕ) → Reaches m h at set → SettleGave m at set (Stop.Act node a)
        → StepGave m set a r next → Reaches m (extended h a r) (node + 1) next

  pub record Demand2 : Type ℓ where
    -- "A sheet is read,
    pub read_accepts : (bytes : List ℕ) (a : Answer (Unit {0})) → Gave library.read bytes a
        → (a ≡ gives tt) ↔ ((sheet : Sheet) × (reading bytes ≡ gives sheet))
    pub load_accepts : (form : Form) (x : ToLoad) (y : AfterLoad) → Gave (library.load form) x y
        → (y.answer ≡ gives tt) ↔ ((sheet : Sheet) × (reading x.sheet ≡ gives sheet))
    pub prepare_accepts : (x : ToPrepare) (y : AfterPrepare) → Gave library.prepare x y
        → (y.answer ≡ gives tt) ↔ ((sheet : Sheet) × (reading x.sheet ≡ gives sheet))
    -- and its knowledge tests (the definitions' test of a condition is that it holds after the history, by runs; the tests on the way to a
    -- node are the routine's, so that the action told comes next in every run that follows it; the goal's is made at the end)
    pub tests_mean : (sheet : Sheet) (h : History) (f : Epistemic) → (holds_after sheet h f ≡ true) ↔ Holds sheet h f
    pub tests_right : {sheet : Sheet} (m : Made sheet) (h : History) (at : ℕ) (set : List ℕ) → Reaches m h at set → (node a : ℕ)
        → SettleGave m at set (Stop.Act node a)
        → Follows (routine sheet) h × ((r : ℕ) → Follows (routine sheet) (extended h a r))
        × ((e : Entry) (g : History) → Follows (routine sheet) (h ++ (e ∷ g)) → e.action ≡ a)
    pub ends_right : {sheet : Sheet} (m : Made sheet) (h : History) (at : ℕ) (set : List ℕ) → Reaches m h at set → (goal : Bool)
        → SettleGave m at set (Stop.End goal)
        → Follows (routine sheet) h × (is_full (routine sheet) h ≡ true) × ((goal ≡ true) ↔ Holds sheet h sheet.goal)
    -- and steps are worked out, as document 01 states them from the 2013 edition;
    pub steps_right : {sheet : Sheet} (m : Made sheet) (h : History) (set : List ℕ) → Carried m h set
        → (t : ℕ) → (member (of_words set) t ≡ true) ↔ ((run : List ℕ) × IsRun sheet h run × (last_state run ≡ t))
    -- (and so are the checker's)
    pub check_right : (form : Form) (x : ToCheck) (y : AfterCheck) → Gave (library.check form) x y
        → (sheet : Sheet) → reading x.sheet ≡ gives sheet
        → (y.answer ≡ gives true) ↔ ((h : History) × (run : List ℕ) × Failing sheet h run × (x.trace ≡ trace h run))
    -- a sheet outside that form is refused, and no other is."
    pub read_refuses : (bytes : List ℕ) (a : Answer (Unit {0})) → Gave library.read bytes a
        → (n : ℕ) → (a ≡ refused n) ↔ (reading bytes ≡ refused n)
    pub verify_refuses : (form : Form) (x : ToVerify) (y : AfterVerify) → Gave (library.verify form) x y → LongEnough x.trace
        → (n : ℕ) → (y.answer ≡ refused n) ↔ (reading x.sheet ≡ refused n)
    pub check_refuses : (form : Form) (x : ToCheck) (y : AfterCheck) → Gave (library.check form) x y
        → (n : ℕ) → (y.answer ≡ refused n) ↔ (reading x.sheet ≡ refused n)
    pub prepare_refuses : (x : ToPrepare) (y : AfterPrepare) → Gave library.prepare x y
        → (n : ℕ) → (y.answer ≡ refused n) ↔ (reading x.sheet ≡ refused n)
    pub load_refuses : (form : Form) (x : ToLoad) (y : AfterLoad) → Gave (library.load form) x y
        → (n : ℕ) → (y.answer ≡ refused n) ↔ (reading x.sheet ≡ refused n)
