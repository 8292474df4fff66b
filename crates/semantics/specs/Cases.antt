-- The starred sample sheets of document 01, its "Readings to reject" and sheets with a constraint (document 02), each table under one lemma that evaluates the definitions on
-- every row.
use Rattle.std.specs.Prelude.{ℕ, ◌-◌, List, [], ◌∷◌, ◌++◌, map, ◌≡◌, refl, true, false, length, replicate}
use Rattle.lists.specs.Lists.{up_from, below}
use Rattle.format.specs.Syntax.{Objective, bottom, top, fact, new_fact, negation, conjunction, disjunction, equivalence, Epistemic, known, not_known, any_of, Program, end, act, branch, Action, change, probe, Sheet}
use Rattle.format.specs.Format.{Answer, gives, refused, reading}
use Rattle.semantics.specs.Verdict.{Verdict, valid, invalid, stopped, outcome, longest_trace, verified}
use Rattle.semantics.specs.Replies.{to_do, at_end, told, reported}
use Rattle.semantics.specs.Checker.{checked}
use Rattle.semantics.specs.Printing.{digit, printed}
use Rattle.semantics.specs.Figures.{framed, figures_line}

-- A row: the bytes of a sheet, the budget, the verifier's answer, and the trace that it shows.
pub record Row : Type 0 where
  pub bytes : List ℕ
  pub budget : ℕ
  pub answer : Answer Verdict
  pub shown : List ℕ

-- Trace memory that begins with some bytes and keeps its old ones behind them.
abbrev pub memory_with : List ℕ → List ℕ
memory_with shown = shown ++ replicate (longest_trace - length shown) 0xEE

-- Every row of a table holds, the memory's bytes included.
abbrev pub AllHold : List Row → Type 0
AllHold [] = Unit {0}
AllHold (r ∷ rest) =
    (verified r.bytes r.budget (memory_with []) ≡ record { answer = r.answer; memory = memory_with r.shown }) × AllHold rest

-- "The budget is 1,000,000 where none is given."
abbrev pub within : (budget : ℕ) (bytes : List ℕ) → Answer Verdict → (shown : List ℕ) → Row
within budget bytes answer shown = record { bytes = bytes; budget = budget; answer = answer; shown = shown }

abbrev pub row : (bytes : List ℕ) → Answer Verdict → (shown : List ℕ) → Row
row = within 1_000_000

-- Cases 1 and 2.
abbrev pub sheet1 : List ℕ
sheet1 = 0x11 ∷ 0x0C ∷ 0x90 ∷ 0x88 ∷ 0x1C ∷ 0x40 ∷ 0x88 ∷ 0x20 ∷ 0x00 ∷ []

abbrev pub sheet2 : List ℕ
sheet2 = 0x11 ∷ 0x0C ∷ 0x90 ∷ 0x88 ∷ 0x11 ∷ 0x04 ∷ 0x00 ∷ []

-- Cases 9 and 10: Example 1 of source document 000 (2012), whose actions are numbered in the order in which it mentions them: 0 is test(x1 ↔ x2),
-- 1 is test(x1 ∧ x2), 2 is switch(x1).
abbrev pub sheet9 : List ℕ
sheet9 =
    0x12 ∷ 0x1C ∷ 0xBA ∷ 0x08 ∷ 0xCE ∷ 0x82 ∷ 0x32 ∷ 0xA8 ∷ 0x23 ∷ 0x2A ∷ 0x08 ∷ 0xAF ∷ 0x62 ∷ 0x21 ∷ 0xD9 ∷ 0x44
    ∷ 0xE5 ∷ 0x41 ∷ 0x12 ∷ 0x54 ∷ 0x11 ∷ 0x41 ∷ 0x1D ∷ 0x04 ∷ 0x50 ∷ 0x88 ∷ 0x90 ∷ 0x80 ∷ []

abbrev pub sheet10 : List ℕ
sheet10 =
    0x12 ∷ 0x1C ∷ 0xBA ∷ 0x08 ∷ 0xCE ∷ 0x82 ∷ 0x32 ∷ 0xA8 ∷ 0x23 ∷ 0x2A ∷ 0x08 ∷ 0xAF ∷ 0x62 ∷ 0x21 ∷ 0xD9 ∷ 0x44
    ∷ 0x95 ∷ 0x04 ∷ 0x50 ∷ 0x47 ∷ 0x41 ∷ 0x14 ∷ 0x22 ∷ 0x24 ∷ 0x20 ∷ []

-- Case 11.
abbrev pub sheet11 : List ℕ
sheet11 = 0x11 ∷ 0x01 ∷ 0x10 ∷ 0x00 ∷ []

-- What the bytes of cases 9 and 10 say.
abbrev pub example : (goal : Epistemic) → Sheet
example goal =
    let x1 : Objective = fact 0 in
    let x2 : Objective = fact 1 in
    let test : Objective → Action = λ f. probe (f ∷ negation f ∷ []) in
    record {
      facts = 2;
      constraint = top;
      actions = test (equivalence x1 x2) ∷ test (conjunction x1 x2) ∷ change (conjunction (equivalence (new_fact 0) (negation x1)) (equivalence (new_fact 1) x2)) ∷ [];
      start = top;
      goal = goal;
      program = act 0 (branch (known (equivalence x1 x2)) (act 1 end) (act 2 (act 1 end)) end);
    }

pub sheet9_says : reading sheet9 ≡ gives (example (any_of (known (conjunction (fact 0) (fact 1))) (known (negation (conjunction (fact 0) (fact 1))))))
unfolding reading
sheet9_says = refl

pub sheet10_says : reading sheet10 ≡ gives (example (known (conjunction (fact 0) (fact 1))))
unfolding reading
sheet10_says = refl

-- Cases 1 to 11, in order; 1 and 10 have a second budget. (Document 02: "Case 6 becomes the byte 41." The byte 21 now ends inside a field.)
abbrev pub starred : List Row
starred =
    row sheet1 (gives (valid 2)) []
    ∷ within 1 sheet1 (gives (stopped 1)) []
    ∷ row sheet2 (gives (invalid 2 1)) (0x00 ∷ 0x01 ∷ 0x00 ∷ [])
    ∷ row (0x11 ∷ 0x0C ∷ 0x90 ∷ 0x88 ∷ 0x1C ∷ 0x40 ∷ 0x88 ∷ 0x20 ∷ 0x01 ∷ []) (refused 12) []
    ∷ row (sheet1 ++ (0x00 ∷ [])) (refused 12) []
    ∷ row [] (refused 2) []
    ∷ row (0x41 ∷ []) (refused 3) []
    ∷ row (0x21 ∷ []) (refused 2) []
    ∷ row (0x10 ∷ []) (refused 4) []
    ∷ row (0x19 ∷ []) (refused 4) []
    ∷ row sheet9 (gives (valid 7)) []
    ∷ row sheet10 (gives (invalid 3 2)) (0x00 ∷ 0x00 ∷ 0x00 ∷ 0x09 ∷ 0x00 ∷ [])
    ∷ within 2 sheet10 (gives (stopped 2)) []
    ∷ row sheet11 (gives (invalid 0 0)) (0x00 ∷ [])
    ∷ []

pub starred_hold : AllHold starred
unfolding verified
starred_hold = (refl, (refl, (refl, (refl, (refl, (refl, (refl, (refl, (refl, (refl, (refl, (refl, (refl, (refl, tt))))))))))))))

-- "For the sheet of case 2 the whole output is `invalid 2 1` and `00 01 00`."
pub sheet2_prints : printed sheet2
    ≡ 0x69 ∷ 0x6E ∷ 0x76 ∷ 0x61 ∷ 0x6C ∷ 0x69 ∷ 0x64 ∷ 0x20 ∷ 0x32 ∷ 0x20 ∷ 0x31 ∷ 0x0A
    ∷ 0x30 ∷ 0x30 ∷ 0x20 ∷ 0x30 ∷ 0x31 ∷ 0x20 ∷ 0x30 ∷ 0x30 ∷ 0x0A ∷ []
unfolding printed
sheet2_prints = refl

-- The digits of what is printed, "lower-case".
pub digits_are : map digit (below 16)
    ≡ 0x30 ∷ 0x31 ∷ 0x32 ∷ 0x33 ∷ 0x34 ∷ 0x35 ∷ 0x36 ∷ 0x37 ∷ 0x38 ∷ 0x39 ∷ 0x61 ∷ 0x62 ∷ 0x63 ∷ 0x64 ∷ 0x65 ∷ 0x66 ∷ []
unfolding digit up_from
digits_are = refl

-- "Readings to reject": a small sheet for each, on which the rejected reading would answer otherwise.
abbrev pub small : (facts : ℕ) (actions : List Action) (start : Objective) (goal : Epistemic) → Program → Sheet
small facts actions start goal program = record { facts = facts; constraint = top; actions = actions; start = start; goal = goal; program = program }

abbrev pub Readings : Type 0
Readings =
    -- The else-program is taken though neither the condition nor its negation is known.
    (outcome (small 1 (change (new_fact 0) ∷ []) top (known (fact 0)) (branch (known (fact 0)) end (act 0 end) end)) 9 ≡ record { verdict = valid 1; shown = [] })
    -- An unmentioned new fact is free.
    × (outcome (small 2 (change (new_fact 0) ∷ []) (negation (disjunction (fact 0) (fact 1))) (known (negation (fact 1))) (act 0 end)) 9
    ≡ record { verdict = invalid 1 1; shown = 0 ∷ 0 ∷ 1 ∷ [] })
    -- "known (a or b)" needs neither a nor b known.
    × (outcome (small 1 [] top (known (disjunction (fact 0) (negation (fact 0)))) end) 9 ≡ record { verdict = valid 0; shown = [] })
    -- The goal is not tested in the run's own state: in a run that ends in state 1 fact 0 is true, and not known.
    × (outcome (small 1 [] top (not_known (fact 0)) end) 9 ≡ record { verdict = valid 0; shown = [] })
    -- A report is accepted though one of the states still possible denies the reply.
    × (reported (small 1 (probe (fact 0 ∷ negation (fact 0) ∷ []) ∷ []) top (known top) (act 0 end)) [] 0 ≡ gives (0 ∷ []))

pub readings_hold : Readings
unfolding outcome reported
readings_hold = (refl, refl, refl, refl, refl)

-- Overlapping replies, on which 2013's operational semantics and its Definition 4 differ: probe 0 replies "true" or "fact 0", and change 1 makes fact 0 false.
-- `11 14 8A 0E C0 22 08 21 01 08 00`: invalid, count 2, L 2 by either.
abbrev pub overlapping : Sheet
overlapping =
    small 1 (probe (top ∷ fact 0 ∷ []) ∷ change (equivalence (new_fact 0) bottom) ∷ []) top (known (fact 0)) (act 0 (branch (known (fact 0)) end (act 1 end) end))

pub overlapping_says : reading (0x11 ∷ 0x14 ∷ 0x8A ∷ 0x0E ∷ 0xC0 ∷ 0x22 ∷ 0x08 ∷ 0x21 ∷ 0x01 ∷ 0x08 ∷ 0x00 ∷ []) ≡ gives overlapping
unfolding reading
overlapping_says = refl

-- After reply 1 fact 0 is known, so the routine is at its end and the goal holds. By Definition 4 change 1 would be next: "true", reply 0, is known too, and after
-- reply 0 fact 0 isn't.
pub overlapping_told : (told overlapping (0 ∷ []) ≡ to_do 1) × (told overlapping (1 ∷ []) ≡ at_end true) × (outcome overlapping 9 ≡ record { verdict = invalid 2 2; shown = 0 ∷ 0 ∷ 0 ∷ 8 ∷ 0 ∷ [] })
unfolding told outcome
overlapping_told = (refl, refl, refl)

-- Sheets with a constraint, over the facts "trunk live", 0, and "standby live", 1.
--
-- Probe 0 replies "fact 0" or "not fact 0", and the theory of change 1 is "new fact 0" alone; the goal is that fact 0 is known and "not fact 1" is known; the program does 0 and,
-- unless fact 0 is known then, 1. Under the constraint "not (fact 0 and fact 1)" that is valid, without it invalid: a trunk that is live doesn't tell that the standby isn't.
abbrev pub never_both_live : List ℕ
never_both_live = 0x22 ∷ 0x95 ∷ 0x04 ∷ 0x45 ∷ 0x24 ∷ 0x22 ∷ 0x06 ∷ 0x0C ∷ 0x20 ∷ 0x44 ∷ 0x50 ∷ 0x42 ∷ 0x02 ∷ 0x10 ∷ []

abbrev pub both_may_be_live : List ℕ
both_may_be_live = 0x22 ∷ 0x22 ∷ 0x92 ∷ 0x11 ∷ 0x03 ∷ 0x06 ∷ 0x10 ∷ 0x22 ∷ 0x28 ∷ 0x21 ∷ 0x01 ∷ 0x08 ∷ 0x00 ∷ []

-- Case 1 as a sheet of edition 2 with the constraint "true".
abbrev pub sheet1_edition2 : List ℕ
sheet1_edition2 = 0x21 ∷ 0x21 ∷ 0x92 ∷ 0x11 ∷ 0x03 ∷ 0x88 ∷ 0x11 ∷ 0x04 ∷ 0x00 ∷ []

abbrev pub constrained : List Row
constrained =
    row never_both_live (gives (valid 3)) []
    ∷ row both_may_be_live (gives (invalid 1 1)) (0x01 ∷ 0x00 ∷ 0x01 ∷ [])
    ∷ row sheet1_edition2 (gives (valid 2)) []
    -- The constraint and the start formula are false.
    ∷ row (0x21 ∷ 0x00 ∷ 0x01 ∷ 0x00 ∷ []) (refused 16) []
    ∷ []

pub constrained_hold : AllHold constrained
unfolding verified
constrained_hold = (refl, (refl, (refl, (refl, tt))))

-- The trace checker says no to a trace with a state outside the constraint. The theory of change 0 is "new fact 0", the goal that fact 1 is known, and the program does 0: from
-- state 0 to state 1 the run fails the goal; state 3 lies outside, at the end and at the start. Without the constraint all three fail it.
abbrev pub traced : List ℕ
traced = 0x22 ∷ 0x95 ∷ 0x04 ∷ 0x42 ∷ 0x60 ∷ 0x88 ∷ 0xA0 ∷ 0x00 ∷ []

abbrev pub traced1 : List ℕ
traced1 = 0x12 ∷ 0x09 ∷ 0x82 ∷ 0x22 ∷ 0x80 ∷ []

pub outside_checked : (checked traced (0x00 ∷ 0x00 ∷ 0x01 ∷ []) ≡ gives true) × (checked traced (0x00 ∷ 0x00 ∷ 0x03 ∷ []) ≡ gives false) × (checked traced (0x03 ∷ 0x00 ∷ 0x01 ∷ []) ≡ gives false)
    × (checked traced1 (0x00 ∷ 0x00 ∷ 0x01 ∷ []) ≡ gives true) × (checked traced1 (0x00 ∷ 0x00 ∷ 0x03 ∷ []) ≡ gives true) × (checked traced1 (0x03 ∷ 0x00 ∷ 0x01 ∷ []) ≡ gives true)
unfolding checked
outside_checked = (refl, refl, refl, refl, refl, refl)

-- Cases 9, 1, 2, 10, 11 and 6 one behind the other, and a length that is cut: two valid, three invalid, two refused; 7 + 2 + 2 + 3 + 0 histories, and the longest
-- failing one has two actions.
pub streamed : figures_line (framed (sheet9 ∷ sheet1 ∷ sheet2 ∷ sheet10 ∷ sheet11 ∷ (0x41 ∷ []) ∷ []) ++ (0x00 ∷ []))
    ≡ map digit (2 ∷ []) ++ 0x20 ∷ map digit (3 ∷ []) ++ 0x20 ∷ map digit (0 ∷ []) ++ 0x20 ∷ map digit (2 ∷ []) ++ 0x20 ∷ map digit (1 ∷ 4 ∷ []) ++ 0x20 ∷ map digit (2 ∷ []) ++ 0x0A ∷ []
unfolding figures_line framed
streamed = refl
