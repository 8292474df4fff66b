-- `routine::conditions::fill_formula` and `fill_parts` meet their contracts. The measure is twice the levels left, and one more for a formula. Assumes nothing.
use Prim.Native.Nat.{◌+◌, ◌*◌}
use Rattle.routine.proofs.conditions.+fill_formula_fill_parts.Given as goal

abbrev pub decreases-fill_formula : goal.decreases-fill_formula
decreases-fill_formula l = 2 * l.left + 1

abbrev pub decreases-fill_parts : goal.decreases-fill_parts
decreases-fill_parts l = 2 * l.left
