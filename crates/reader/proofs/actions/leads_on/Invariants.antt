-- `reader::actions::leads_on` meets its contract. The outer loop's invariant: each state before `state` has a next state. The inner loop's: no next state before `next` is in the row. The measures are the states that are left. Assumes nothing.
use Prim.Native.Nat.{ℕ, ◌-◌, ◌≤◌, ◌<◌}
use mathlib.Core.Path.{◌≡◌}
use mathlib.Core.Bool.{false}
use Rattle.states.specs.Sets.{member}
use Rattle.format.specs.Syntax.{Objective}
use Rattle.format.specs.Format.{got, theory_over}
use Rattle.reader.proofs.TestLaws.{Tried}
use Rattle.reader.proofs.actions.leads_on.Given as goal

abbrev pub invariant-loop-next : goal.invariant-loop-next
invariant-loop-next l = (l.state ≡ l.initial.state) × (l.next ≤ 256) × ((t : ℕ) → t < l.next → member l.row t ≡ false)

abbrev pub decreases-loop-next : goal.decreases-loop-next
decreases-loop-next l = 256 - l.next

abbrev pub invariant-states : goal.invariant-states
invariant-states l = (l.state ≤ 256) × ((f : Objective) (end : ℕ) → theory_over l.n l.packed l.at ≡ got f end → Tried f l.space l.state)

abbrev pub decreases-states : goal.decreases-states
decreases-states l = 256 - l.state
