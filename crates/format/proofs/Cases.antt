-- Sheets with two faults, which only the order of the tests tells apart, sheets whose states a constraint restricts, and accepted sheets, each evaluated by the definitions.
-- Document 01, "From the sheet": "1 comes first, then fields in reading order (8 before the tag is read, 7 before the fact number, 11 and 10 when the tag is known), then 12,
-- 13, then 14 or 15 by action number." Document 02: "16, no state satisfies the constraint, tested after 12 and before 13." Assumes nothing.
use Prim.Native.Nat.{ℕ}
use mathlib.Core.List.{List, [], ◌∷◌, ◌++◌}
use mathlib.Core.Path.{◌≡◌, refl}
use lib.ListN.{replicate}
use lib.Dec.{eqb}
use Rattle.format.specs.Syntax.{top, fact, negation, known, any_of, end, act, change, probe, Sheet}
use Rattle.format.specs.Truth.{mentions_new, moves}
use Rattle.format.specs.Format.{Answer, gives, refused, leads_on, unless, action_faults, reading_by, reading}

-- A row: the bytes, and the number of their refusal.
pub record Row : Type 0 where
  pub bytes : List ℕ
  pub number : ℕ

abbrev pub AllRefused : List Row → Type 0
AllRefused [] = Unit {0}
AllRefused (r ∷ rest) = (reading r.bytes ≡ refused r.number) × AllRefused rest

abbrev pub row : List ℕ → ℕ → Row
row bytes number = record { bytes = bytes; number = number }

-- Eight action nodes of action 0, in seven bytes.
abbrev eight_nodes : List ℕ
eight_nodes = 0x40 ∷ 0x81 ∷ 0x02 ∷ 0x04 ∷ 0x08 ∷ 0x10 ∷ 0x20 ∷ []

-- One fact and one action; behind 64 action nodes one more, whose number is 31.
abbrev too_many_nodes : List ℕ
too_many_nodes =
    0x11 ∷ 0x08 ∷ 0x90 ∷ 0xA0
    ∷ eight_nodes ++ eight_nodes ++ eight_nodes ++ eight_nodes ++ eight_nodes ++ eight_nodes ++ eight_nodes ++ (0x40 ∷ 0x81 ∷ 0x02 ∷ 0x04 ∷ 0x08 ∷ 0x10 ∷ 0x3F ∷ [])

-- The tags and conditions (known: true) of eight branch nodes, in seven bytes; the first node begins 3 bits before them.
abbrev eight_branches : List ℕ
eight_branches = 0x18 ∷ 0x30 ∷ 0x60 ∷ 0xC1 ∷ 0x83 ∷ 0x06 ∷ 0x0C ∷ []

-- One fact and no action; 63 branch nodes, each the then-program of the one before, and the tag of one more, with which the sheet ends.
abbrev too_many_branches : List ℕ
too_many_branches =
    0x11 ∷ 0x01 ∷ 0x0C
    ∷ eight_branches ++ eight_branches ++ eight_branches ++ eight_branches ++ eight_branches ++ eight_branches ++ eight_branches ++ (0x18 ∷ 0x30 ∷ 0x60 ∷ 0xC1 ∷ 0x83 ∷ 0x06 ∷ [])

abbrev pub orders : List Row
orders =
    -- 1 before 3: 1,025 bytes, and edition 4.
    row (replicate 1025 0x41) 1
    -- 3 before 4: edition 4, and no fact; and editions 3 and 0.
    ∷ row (0x40 ∷ []) 3
    ∷ row (0x31 ∷ []) 3
    ∷ row (0x01 ∷ []) 3
    -- 4: nine facts.
    ∷ row (0x19 ∷ []) 4
    -- 2: edition 2, and the sheet ends before the constraint; inside it, behind "and" and "true"; and behind it, before the number of actions.
    ∷ row (0x21 ∷ []) 2
    ∷ row (0x21 ∷ 0xA4 ∷ []) 2
    ∷ row (0x21 ∷ 0x20 ∷ []) 2
    -- 6: fact 1 in the constraint, of one fact.
    ∷ row (0x21 ∷ 0x44 ∷ []) 6
    -- 7 before 6: a new fact in the constraint, and its number is 7, of one fact.
    ∷ row (0x21 ∷ 0x7C ∷ []) 7
    -- 8 before 2: a constraint that goes on below 16 negations, and the sheet ends before the tag there.
    ∷ row (0x21 ∷ 0x92 ∷ 0x49 ∷ 0x24 ∷ 0x92 ∷ 0x49 ∷ 0x24 ∷ []) 8
    -- 5 before 2: a probe of 9 replies, and the sheet ends before the first.
    ∷ row (0x11 ∷ 0x10 ∷ 0xE4 ∷ []) 5
    -- 7 before 2: a new fact as start formula, and the sheet ends before its number.
    ∷ row (0x11 ∷ 0x03 ∷ []) 7
    -- 7 before 6: a new fact as start formula, and its number is 7, of one fact.
    ∷ row (0x11 ∷ 0x03 ∷ 0xE1 ∷ 0x00 ∷ []) 7
    -- 8 before 2: a theory that goes on below 16 negations, and the sheet ends inside the tag there.
    ∷ row (0x11 ∷ 0x0A ∷ 0x49 ∷ 0x24 ∷ 0x92 ∷ 0x49 ∷ 0x24 ∷ 0x90 ∷ []) 8
    -- 11 before 9: a 65th action node, and its number is no action's.
    ∷ row too_many_nodes 11
    -- 11 before 2: a 64th branch node, and the sheet ends before its condition.
    ∷ row too_many_branches 11
    -- 12 before 13: a set padding bit, and a start formula that is false.
    ∷ row (0x11 ∷ 0x00 ∷ 0x09 ∷ []) 12
    -- 12 before 16: a set padding bit, and a constraint that is false.
    ∷ row (0x21 ∷ 0x00 ∷ 0x21 ∷ 0x01 ∷ []) 12
    -- 16 before 13: a constraint that is false, and a start formula that is false; and one that is true.
    ∷ row (0x21 ∷ 0x00 ∷ 0x01 ∷ 0x00 ∷ []) 16
    ∷ row (0x21 ∷ 0x00 ∷ 0x21 ∷ 0x00 ∷ []) 16
    -- 16, and not 8: a constraint of 16 levels, 15 negations over "true".
    ∷ row (0x21 ∷ 0x92 ∷ 0x49 ∷ 0x24 ∷ 0x92 ∷ 0x49 ∷ 0x21 ∷ 0x01 ∷ 0x08 ∷ []) 16
    -- 13: the start formula "not fact 0" holds in no state that satisfies the constraint "fact 0".
    ∷ row (0x21 ∷ 0x40 ∷ 0x11 ∷ 0x00 ∷ 0x80 ∷ []) 13
    -- 13 before 14: a start formula that is false, and a theory that is false.
    ∷ row (0x11 ∷ 0x08 ∷ 0x00 ∷ 0x80 ∷ []) 13
    -- 14: a theory that says "fact 0", so that state 1 has a next state and state 0 has none.
    ∷ row (0x11 ∷ 0x09 ∷ 0x02 ∷ 0x10 ∷ []) 14
    -- 14: a theory "not new fact 0", under the constraint "fact 0": its only next state lies outside.
    ∷ row (0x21 ∷ 0x40 ∷ 0x28 ∷ 0xC1 ∷ 0x08 ∷ []) 14
    -- 15: a probe with the one reply "fact 0", under the constraint "not fact 0".
    ∷ row (0x21 ∷ 0x88 ∷ 0x06 ∷ 0x28 ∷ 0x10 ∷ 0x80 ∷ []) 15
    -- 15 before 14, by action number: action 0 a probe with the one reply "fact 0", and action 1 a change whose theory is false.
    ∷ row (0x11 ∷ 0x14 ∷ 0x50 ∷ 0x02 ∷ 0x10 ∷ []) 15
    ∷ []

pub orders_hold : AllRefused orders
unfolding reading
orders_hold =
    (refl, (refl, (refl, (refl, (refl, (refl, (refl, (refl, (refl, (refl, (refl, (refl, (refl, (refl, (refl, (refl, (refl, (refl, (refl, (refl, (refl, (refl, (refl, (refl, (refl, (refl, (refl, (refl, tt))))))))))))))))))))))))))))

-- Sample 1 is accepted, as this sheet: its probe has two replies, and in each state only one of them is true.
abbrev pub sample1 : List ℕ
sample1 = 0x11 ∷ 0x0C ∷ 0x90 ∷ 0x88 ∷ 0x1C ∷ 0x40 ∷ 0x88 ∷ 0x20 ∷ 0x00 ∷ []

abbrev pub sample1_sheet : Sheet
sample1_sheet = record {
  facts = 1;
  constraint = top;
  actions = probe (fact 0 ∷ negation (fact 0) ∷ []) ∷ [];
  start = top;
  goal = any_of (known (fact 0)) (known (negation (fact 0)));
  program = act 0 end;
}

pub accepted_holds : reading sample1 ≡ gives sample1_sheet
unfolding reading
accepted_holds = refl

-- So is the sheet of edition 2 that is alike but for its constraint, "true".
pub true_holds : reading (0x21 ∷ 0x21 ∷ 0x92 ∷ 0x11 ∷ 0x03 ∷ 0x88 ∷ 0x11 ∷ 0x04 ∷ 0x00 ∷ []) ≡ reading sample1
unfolding reading
true_holds = refl

-- Under the constraint "fact 0" state 0 is none, and needs no next state and no reply: a theory that says "fact 0" is accepted, and a probe with the one reply "fact 0".
-- (`mentions_new` is named so that a rule about facts that a theory doesn't mention is evaluated here too.)
pub outside_holds : (reading (0x21 ∷ 0x40 ∷ 0x24 ∷ 0x08 ∷ 0x40 ∷ []) ≡ gives (record { facts = 1; constraint = fact 0; actions = change (fact 0) ∷ []; start = top; goal = known top; program = end }))
    × (reading (0x21 ∷ 0x40 ∷ 0x31 ∷ 0x40 ∷ 0x84 ∷ []) ≡ gives (record { facts = 1; constraint = fact 0; actions = probe (fact 0 ∷ []) ∷ []; start = top; goal = known top; program = end }))
unfolding reading mentions_new
outside_holds = (refl, refl)

-- A reading of edition 0 that asks for next states alone: of a probe with the one reply "fact 0" no state is without next state, and one is without reply.
abbrev pub of_edition0 : List ℕ → Answer Sheet
of_edition0 = reading_by (λ edition. eqb edition 0) (λ space a. unless (leads_on space (moves a)) 14)

pub other_holds : of_edition0 (0x01 ∷ 0x0C ∷ 0x50 ∷ 0x21 ∷ 0x00 ∷ [])
    ≡ gives (record { facts = 1; constraint = top; actions = probe (fact 0 ∷ []) ∷ []; start = top; goal = known top; program = end })
unfolding reading_by action_faults leads_on moves unless
other_holds = refl

-- A theory that is false is refused there too, and edition 1 isn't taken.
pub other_refuses : (of_edition0 (0x01 ∷ 0x08 ∷ 0x10 ∷ 0x80 ∷ []) ≡ refused 14) × (of_edition0 (0x11 ∷ 0x0C ∷ 0x50 ∷ 0x21 ∷ 0x00 ∷ []) ≡ refused 3)
unfolding reading_by action_faults leads_on moves unless
other_refuses = (refl, refl)
