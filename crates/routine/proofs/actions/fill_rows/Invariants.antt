-- `routine::actions::fill_rows` meets its contract. The loop's invariant: if the rows from `state` on are written where they are left to be, all are. The measure is the states that are left. Assumes nothing.
use Prim.Native.Nat.{ℕ, ◌+◌, ◌-◌, ◌*◌, ◌≤◌}
use mathlib.Core.Path.{◌≡◌}
use mathlib.Core.List.{flat_map}
use mathlib.Core.Bool.{true}
use Rattle.states.specs.Sets.{words, member}
use Rattle.format.specs.Syntax.{Objective, change}
use Rattle.format.specs.Standing.{ObjectiveAt}
use Rattle.lists.specs.Lists.{write}
use Rattle.routine.specs.Tables.{rows}
use Rattle.routine.proofs.ActionLaws.{rows_from}
use Rattle.routine.proofs.actions.fill_rows.Given as goal

abbrev pub invariant-loop-state : goal.invariant-loop-state
invariant-loop-state l = (l.state ≤ 256)
    × ((f : Objective) (q : ℕ) → ObjectiveAt l.packed l.n true f l.at q
    → write l.sets (4 * (l.k + l.state)) (flat_map words (rows_from l.space f l.state)) ≡ write l.initial.sets (4 * l.k) (flat_map words (rows (member l.space) (change f))))

abbrev pub decreases-loop-state : goal.decreases-loop-state
decreases-loop-state l = 256 - l.state
