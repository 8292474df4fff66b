-- `routine::sheet::fill_routine` meets its contract. Assumes nothing.
use Rattle.routine.proofs.ProgramLaws.{goal_small, end_room, laid_routine}
use native.Mathlib.Omega.{arith}
use Rattle.routine.proofs.sheet.fill_routine.Goals as goal

pub put_node-requires : goal.put_node-requires
put_node-requires c = (omega arith, (goal_small _ _ _ _ c.requires (λ f q e. (c.fill_formula-goal.ensures f q e).0)).1)

pub put_node-requires-2 : goal.put_node-requires-2
put_node-requires-2 c = end_room _ _ _ _ c.requires (λ f q e. (c.fill_formula-goal.ensures f q e).0) (λ x q s. (c.fill_program-program.ensures x q s).0)

pub returns : goal.returns
returns c goal program middle next read stands = laid_routine _ _ _ _ goal program middle next read stands _ _ _ _ _ _ c.fill_formula-goal.ensures c.put_node.ensures c.fill_program-program.ensures c.put_node-2.ensures
