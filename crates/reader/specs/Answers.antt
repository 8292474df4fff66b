-- What the answers of the reader's public functions mean: the number of each refusal, and what the readers of the format (crate `format`) find.
use Rattle.std.specs.Prelude.{if◌then◌else◌, ℕ, List, Bool, true, false, length, leb, Result, Ok, Err}
use Rattle.states.specs.declared.States.{States}
use Rattle.states.specs.Sets.{set_of}
use Rattle.format.specs.Syntax.{Objective}
use Rattle.format.specs.Truth.{in_space, truth}
use Rattle.format.specs.Format.{Answer, gives, refused, on_accepted, Read, got, fault, most_bytes, is_edition, Header, Kind, changes, probes, EpistemicNode, known_node, not_known_node, all_of_node, any_of_node, ProgramNode, end_node, act_node, branch_node}
use Rattle.reader.specs.declared.refusal.Refusal.{Refusal}
use Rattle.reader.specs.declared.formula.View.{View}
use Rattle.reader.specs.declared.layout.Edition.{Edition}
use Rattle.reader.specs.declared.layout.Header.{Header as HeaderValue}
use Rattle.reader.specs.declared.nodes.ActionKind.{ActionKind}
use Rattle.reader.specs.declared.nodes.EpistemicNode.{EpistemicNode as EpistemicFound}
use Rattle.reader.specs.declared.nodes.ProgramNode.{ProgramNode as ProgramFound}

-- "From the sheet": the number of each refusal; document 02's is 16.
unfoldable pub number_of : Refusal → ℕ
number_of Refusal.Length = 1
number_of Refusal.Cut = 2
number_of Refusal.Edition = 3
number_of Refusal.Facts = 4
number_of Refusal.Replies = 5
number_of Refusal.FactNumber = 6
number_of Refusal.NewFact = 7
number_of Refusal.Depth = 8
number_of Refusal.ActionNumber = 9
number_of Refusal.Loop = 10
number_of Refusal.Nodes = 11
number_of Refusal.Padding = 12
number_of Refusal.NoStart = 13
number_of Refusal.NoNext = 14
number_of Refusal.NoReply = 15
number_of Refusal.NoState = 16

-- What the code answers: what is in an `Ok`, as the sheet's "accepted", or the number of the refusal.
unfoldable pub answer_of : {A : Type 0} → Result A Refusal → Answer A
unfolding number_of
answer_of (Ok a) = gives a
answer_of (Err r) = refused (number_of r)

-- What the code reads: a value and the position after it, or the number of the refusal.
unfoldable pub found : {A : Type 0} → Result (A × ℕ) Refusal → Read A
unfolding number_of
found (Ok r) = got r.0 r.1
found (Err r) = fault (number_of r)

-- The bytes that a reader goes on with. 1: "longer than 1,024 bytes".
unfoldable pub packed : (bytes : List ℕ) → Answer (List ℕ)
packed bytes = if leb (length bytes) most_bytes then gives bytes else refused 1

-- An answer without its value.
unfoldable pub without_value : {A : Type 0} → Answer A → Answer (Unit {0})
unfolding on_accepted
without_value = on_accepted (λ a. gives tt)

-- An answer as a number: 0 where something is given, else the number of the refusal.
unfoldable pub number_for : {A : Type 0} → Answer A → ℕ
number_for (gives a) = 0
number_for (refused r) = r

-- The states over n facts that satisfy a constraint, as a set.
unfoldable pub space_set : (n : ℕ) (constraint : Objective) → States
unfolding set_of in_space
space_set n constraint = set_of (in_space n constraint)

-- The number of an edition; and a number, if it is that of an edition that is read. 3: another edition.
unfoldable pub edition_of : Edition → ℕ
edition_of Edition.First = 1
edition_of Edition.Second = 2

unfoldable pub edition_taken : (number : ℕ) → Answer ℕ
unfolding is_edition
edition_taken number = if is_edition number then gives number else refused 3

-- What is kept of a header: its numbers and, instead of the constraint, the states that satisfy it.
pub record HeaderKept : Type 0 where
  pub edition : ℕ
  pub facts : ℕ
  pub space : States
  pub actions : ℕ

unfoldable pub spaced : Header → HeaderKept
unfolding space_set
spaced h = record { edition = h.edition; facts = h.facts; space = space_set h.facts h.constraint; actions = h.actions }

unfoldable pub kept_of : HeaderValue → HeaderKept
unfolding edition_of
kept_of h = record { edition = edition_of h.edition; facts = h.facts; space = h.space; actions = h.actions }

unfoldable pub header_is_read : Result HeaderValue Refusal → Read HeaderKept
unfolding number_of kept_of
header_is_read (Ok h) = got (kept_of h) h.at
header_is_read (Err r) = fault (number_of r)

-- The kind of an action, the first node of an epistemic formula and of a program.
unfoldable pub kind_of : ActionKind → Kind
kind_of ActionKind.Change = changes
kind_of ActionKind.Probe = probes

unfoldable pub epistemic_node_of : EpistemicFound → EpistemicNode
epistemic_node_of EpistemicFound.Known = known_node
epistemic_node_of EpistemicFound.NotKnown = not_known_node
epistemic_node_of EpistemicFound.AllOf = all_of_node
epistemic_node_of EpistemicFound.AnyOf = any_of_node

unfoldable pub program_node_of : ProgramFound → ProgramNode
program_node_of ProgramFound.End = end_node
program_node_of (ProgramFound.Act a) = act_node a
program_node_of ProgramFound.Branch = branch_node

-- Whether a formula in a view is a theory.
unfoldable pub in_theory : View → Bool
in_theory View.States = false
in_theory (View.Next s) = true

-- The set of a formula in a view: the states in which it holds; of a theory, the next states that it allows from a state.
unfoldable pub states_in : View → Objective → States
unfolding set_of truth
states_in View.States f = set_of (λ s. truth f s s)
states_in (View.Next s) f = set_of (λ t. truth f s t)
