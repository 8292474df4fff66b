-- The method of the reader's inner functions, for their contracts: positions instead of values, sets of states instead of lists. An auditor of the promises needs none of it.
use Rattle.std.specs.Prelude.{ℕ, List, Bool, true, false, ◌&&◌, ◌||◌, Result, Ok, Err}
use mathlib.Core.Bool.{beq}
use Rattle.lists.specs.Lists.{exists}
use Rattle.states.specs.declared.States.{States}
use Rattle.states.specs.Sets.{set_of}
use Rattle.format.specs.Syntax.{Objective, fact, new_fact, Sheet}
use Rattle.format.specs.Truth.{holds}
use Rattle.format.specs.Format.{Answer, refused, Read, got, fault, ProgramRead, Header, decided}
use Rattle.reader.specs.Answers.{number_of, edition_of, states_in}
use Rattle.reader.specs.declared.refusal.Refusal.{Refusal}
use Rattle.reader.specs.declared.layout.Header.{Header as HeaderValue}
use Rattle.reader.specs.declared.formula.View.{View}
use Rattle.reader.specs.declared.nodes.ObjectiveNode.{ObjectiveNode}
use Rattle.reader.specs.declared.nodes.Connective.{Connective}
use Rattle.reader.specs.declared.program.Cursor.{Cursor}

-- What the code finds from a position on: only where it ends; the nodes counted so far.
unfoldable pub end_read : Result ℕ Refusal → Read (Unit {0})
unfolding number_of
end_read (Ok p) = got tt p
end_read (Err r) = fault (number_of r)

unfoldable pub count_read : Result Cursor Refusal → Read (ℕ × ℕ)
unfolding number_of
count_read (Ok p) = got (p.acts, p.branches) p.at
count_read (Err r) = fault (number_of r)

-- What is read, by the tests that fail for it, if it is read: the first decides, else where it ends.
unfoldable pub tested : {A : Type 0} → (A → List ℕ) → Read A → Answer ℕ
unfolding decided
tested tests (got a p) = decided (tests a) p
tested tests (fault r) = refused r

-- The header that the code's value is kept of, by its constraint.
unfoldable pub header_of : HeaderValue → (constraint : Objective) → Header
unfolding edition_of
header_of h constraint = record { edition = edition_of h.edition; facts = h.facts; constraint = constraint; actions = h.actions }

-- What of a value is kept: nothing but where it ends; the nodes of a program; the states in which the start formula holds; those in which one of some formulas does.
unfoldable pub ending : {A : Type 0} → A → Unit {0}
ending a = tt

unfoldable pub counts : ProgramRead → ℕ × ℕ
counts c = (c.acts, c.branches)

unfoldable pub start_states : Sheet → States
unfolding states_in
start_states sheet = states_in View.States sheet.start

unfoldable pub some_holds : List Objective → States
some_holds fs = set_of (λ s. exists (λ f. holds f s) fs)

-- A fact or, where it is fresh, a new fact.
unfoldable pub fact_of : (fresh : Bool) (i : ℕ) → Objective
fact_of true i = new_fact i
fact_of false i = fact i

-- The tag of the first node of an objective formula; and the truth of a formula of two parts by theirs.
unfoldable pub tag_of : ObjectiveNode → ℕ
tag_of (ObjectiveNode.Constant false) = 0
tag_of (ObjectiveNode.Constant true) = 1
tag_of ObjectiveNode.Fact = 2
tag_of ObjectiveNode.NewFact = 3
tag_of ObjectiveNode.Not = 4
tag_of (ObjectiveNode.Two Connective.And) = 5
tag_of (ObjectiveNode.Two Connective.Or) = 6
tag_of (ObjectiveNode.Two Connective.Same) = 7

unfoldable pub joins : Connective → Bool → Bool → Bool
joins Connective.And = ◌&&◌
joins Connective.Or = ◌||◌
joins Connective.Same = beq
