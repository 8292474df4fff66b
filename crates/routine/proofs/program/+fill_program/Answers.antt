-- `routine::program::fill_program` meets its contract. The measure is what is left of the sheet. Assumes nothing.
use mathlib.Core.Path.{sym}
use native.Mathlib.Omega.{arith}
use Rattle.format.specs.Format.{mapped}
use Rattle.format.proofs.ReaderLaws.{found_as}
use Rattle.reader.specs.Answers.{found, program_node_of}
use Rattle.routine.proofs.ProgramLaws.{program_parts, laid_end, rest_later, laid_act, act_room, act_small, rest_room, then_reached, else_reached, then_later, else_later, last_later, branch_inside, jump_inside, laid_branch, fork_room, condition_room, then_room, else_room, last_room, branch_small, jump_room, jump_small}
use Rattle.routine.proofs.program.+fill_program.Goals as goal

pub put_node-requires : goal.put_node-requires
unfolding found mapped program_node_of
put_node-requires t c =
    let here = program_parts c.args.packed.now c.args.n c.args.from.at (sym (found_as program_node_of c.in-Ok.ensures c.in-Act.is)) c.requires.program c.requires.next c.requires.stands in
    (act_room _ _ _ c.requires here, act_small _ _ _ c.requires here)

pub fill_program-requires : goal.fill_program-requires
unfolding found mapped program_node_of
fill_program-requires t c =
    let here = program_parts c.args.packed.now c.args.n c.args.from.at (sym (found_as program_node_of c.in-Ok.ensures c.in-Act.is)) c.requires.program c.requires.next c.requires.stands in
    (omega (arith, c.decreases, rest_later _ _ c.args.from here), rest_room _ _ _ c.requires here)

pub fill_formula-condition-requires : goal.fill_formula-condition-requires
unfolding found mapped program_node_of
fill_formula-condition-requires t c =
    let h = program_parts c.args.packed.now c.args.n c.args.from.at (sym (found_as program_node_of c.in-Ok.ensures c.in-Branch.is)) c.requires.program c.requires.next c.requires.stands in
    condition_room _ _ _ c.requires h

pub fill_program-yes-requires : goal.fill_program-yes-requires
unfolding found mapped program_node_of
fill_program-yes-requires t c =
    let h = program_parts c.args.packed.now c.args.n c.args.from.at (sym (found_as program_node_of c.in-Ok.ensures c.in-Branch.is)) c.requires.program c.requires.next c.requires.stands in
    let condition = (c.fill_formula-condition.ensures h.condition h.parts.then_at h.parts.condition_read).0 in
    (omega (arith, c.decreases, then_later _ _ c.args.from h condition), then_room _ _ _ c.requires h condition)

pub overflow_sub-met : goal.overflow_sub-met
unfolding found mapped program_node_of
overflow_sub-met t c =
    let h = program_parts c.args.packed.now c.args.n c.args.from.at (sym (found_as program_node_of c.in-Ok.ensures c.in-Branch.is)) c.requires.program c.requires.next c.requires.stands in
    let condition = (c.fill_formula-condition.ensures h.condition h.parts.then_at h.parts.condition_read).0 in
    let yes = then_reached _ _ c.args.from h condition (λ x q s. (c.fill_program-yes.ensures x q s).0) in
    (branch_inside _ _ c.args.from h condition yes).0

pub overflow_sub-unmet : goal.overflow_sub-unmet
unfolding found mapped program_node_of
overflow_sub-unmet t c =
    let h = program_parts c.args.packed.now c.args.n c.args.from.at (sym (found_as program_node_of c.in-Ok.ensures c.in-Branch.is)) c.requires.program c.requires.next c.requires.stands in
    let condition = (c.fill_formula-condition.ensures h.condition h.parts.then_at h.parts.condition_read).0 in
    let yes = then_reached _ _ c.args.from h condition (λ x q s. (c.fill_program-yes.ensures x q s).0) in
    (branch_inside _ _ c.args.from h condition yes).1

pub put_node-requires-in-Branch : goal.put_node-requires-in-Branch
unfolding found mapped program_node_of
put_node-requires-in-Branch t c =
    let h = program_parts c.args.packed.now c.args.n c.args.from.at (sym (found_as program_node_of c.in-Ok.ensures c.in-Branch.is)) c.requires.program c.requires.next c.requires.stands in
    let condition = (c.fill_formula-condition.ensures h.condition h.parts.then_at h.parts.condition_read).0 in
    let yes = then_reached _ _ c.args.from h condition (λ x q s. (c.fill_program-yes.ensures x q s).0) in
    (fork_room _ _ _ c.requires h, branch_small _ _ _ c.requires h condition yes)

pub overflow_add-other : goal.overflow_add-other
unfolding found mapped program_node_of
overflow_add-other t c =
    let h = program_parts c.args.packed.now c.args.n c.args.from.at (sym (found_as program_node_of c.in-Ok.ensures c.in-Branch.is)) c.requires.program c.requires.next c.requires.stands in
    let condition = (c.fill_formula-condition.ensures h.condition h.parts.then_at h.parts.condition_read).0 in
    let yes = then_reached _ _ c.args.from h condition (λ x q s. (c.fill_program-yes.ensures x q s).0) in
    omega (arith, jump_room _ _ _ c.requires h yes)

pub fill_program-no-requires : goal.fill_program-no-requires
unfolding found mapped program_node_of
fill_program-no-requires t c =
    let h = program_parts c.args.packed.now c.args.n c.args.from.at (sym (found_as program_node_of c.in-Ok.ensures c.in-Branch.is)) c.requires.program c.requires.next c.requires.stands in
    let condition = (c.fill_formula-condition.ensures h.condition h.parts.then_at h.parts.condition_read).0 in
    let yes = then_reached _ _ c.args.from h condition (λ x q s. (c.fill_program-yes.ensures x q s).0) in
    (omega (arith, c.decreases, else_later _ _ c.args.from h yes), else_room _ _ _ c.requires h yes)

pub overflow_add-yes : goal.overflow_add-yes
unfolding found mapped program_node_of
overflow_add-yes t c =
    let h = program_parts c.args.packed.now c.args.n c.args.from.at (sym (found_as program_node_of c.in-Ok.ensures c.in-Branch.is)) c.requires.program c.requires.next c.requires.stands in
    let condition = (c.fill_formula-condition.ensures h.condition h.parts.then_at h.parts.condition_read).0 in
    let yes = then_reached _ _ c.args.from h condition (λ x q s. (c.fill_program-yes.ensures x q s).0) in
    omega (arith, jump_room _ _ _ c.requires h yes)

pub overflow_sub-no : goal.overflow_sub-no
unfolding found mapped program_node_of
overflow_sub-no t c =
    let h = program_parts c.args.packed.now c.args.n c.args.from.at (sym (found_as program_node_of c.in-Ok.ensures c.in-Branch.is)) c.requires.program c.requires.next c.requires.stands in
    let condition = (c.fill_formula-condition.ensures h.condition h.parts.then_at h.parts.condition_read).0 in
    let yes = then_reached _ _ c.args.from h condition (λ x q s. (c.fill_program-yes.ensures x q s).0) in
    let no = else_reached _ _ c.args.from h yes (λ x q s. (c.fill_program-no.ensures x q s).0) in
    jump_inside _ _ c.args.from h yes no

pub put_node-requires-in-Branch-2 : goal.put_node-requires-in-Branch-2
unfolding found mapped program_node_of
put_node-requires-in-Branch-2 t c =
    let h = program_parts c.args.packed.now c.args.n c.args.from.at (sym (found_as program_node_of c.in-Ok.ensures c.in-Branch.is)) c.requires.program c.requires.next c.requires.stands in
    let condition = (c.fill_formula-condition.ensures h.condition h.parts.then_at h.parts.condition_read).0 in
    let yes = then_reached _ _ c.args.from h condition (λ x q s. (c.fill_program-yes.ensures x q s).0) in
    let no = else_reached _ _ c.args.from h yes (λ x q s. (c.fill_program-no.ensures x q s).0) in
    (jump_room _ _ _ c.requires h yes, jump_small _ _ _ c.requires h yes no)

pub fill_program-requires-in-Branch : goal.fill_program-requires-in-Branch
unfolding found mapped program_node_of
fill_program-requires-in-Branch t c =
    let h = program_parts c.args.packed.now c.args.n c.args.from.at (sym (found_as program_node_of c.in-Ok.ensures c.in-Branch.is)) c.requires.program c.requires.next c.requires.stands in
    let condition = (c.fill_formula-condition.ensures h.condition h.parts.then_at h.parts.condition_read).0 in
    let yes = then_reached _ _ c.args.from h condition (λ x q s. (c.fill_program-yes.ensures x q s).0) in
    let no = else_reached _ _ c.args.from h yes (λ x q s. (c.fill_program-no.ensures x q s).0) in
    (omega (arith, c.decreases, last_later _ _ c.args.from h no), last_room _ _ _ c.requires h no)

pub returns-in_default : goal.returns-in_default
unfolding found mapped
returns-in_default t c =
    absurd (program_parts c.args.packed.now c.args.n c.args.from.at c.in_default.ensures c.requires.program c.requires.next c.requires.stands)

pub returns-in-End : goal.returns-in-End
unfolding found mapped program_node_of
returns-in-End t c x q e =
    laid_end c.args.from _ q _ _ (program_parts c.args.packed.now c.args.n c.args.from.at (sym (found_as program_node_of c.in-Ok.ensures c.in-End.is)) x q e)

pub returns-in-Act : goal.returns-in-Act
unfolding found mapped program_node_of
returns-in-Act t c x q e =
    let here = program_parts c.args.packed.now c.args.n c.args.from.at (sym (found_as program_node_of c.in-Ok.ensures c.in-Act.is)) x q e in
    laid_act _ _ c.args.from here _ _ _ c.put_node.ensures c.fill_program.ensures

pub returns-in-Branch : goal.returns-in-Branch
unfolding found mapped program_node_of
returns-in-Branch t c x q e =
    let h = program_parts c.args.packed.now c.args.n c.args.from.at (sym (found_as program_node_of c.in-Ok.ensures c.in-Branch.is)) x q e in
    laid_branch _ _ c.args.from h _ _ _ _ _ _ _ _ _ _ c.fill_formula-condition.ensures c.fill_program-yes.ensures c.put_node-in-Branch.ensures
    c.fill_program-no.ensures c.put_node-in-Branch-2.ensures c.fill_program-in-Branch.ensures
