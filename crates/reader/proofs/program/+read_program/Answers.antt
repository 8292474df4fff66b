-- `reader::program::read_program` meets its contract, by recursion on the levels left. Assumes nothing.
use mathlib.Core.Path.{sym, ap, ◌∙◌}
use native.Mathlib.Omega.{arith}
use Prim.Native.Nat.{◌-◌}
use Rattle.format.specs.Format.{mapped, program_within}
use Rattle.format.proofs.FormatLaws.{node_fits}
use Rattle.format.proofs.ReaderLaws.{found_as, program_none}
use Rattle.reader.proofs.ProgramLaws.{three_first, three_second, three_third, counts_refused, program_ends, program_out, program_act, condition_refused, program_branch}
use Rattle.reader.specs.Answers.{number_of, found, program_node_of}
use Rattle.reader.specs.Method.{end_read, count_read, counts}
use Rattle.reader.proofs.program.+read_program.Goals as goal

pub returns-then-left-eq0 : goal.returns-then-left-eq0
unfolding count_read number_of mapped
returns-then-left-eq0 t c = let a = c.args in
    sym (ap (mapped counts) (program_none a.n a.k a.left a.p.acts a.p.branches a.packed.now a.p.at c.if-left-eq0.true))

pub returns-in-Err : goal.returns-in-Err
unfolding count_read found mapped
returns-in-Err t c = let a = c.args in
    sym (counts_refused a.n a.k a.left a.p.acts a.p.branches a.packed.now a.p.at c.if-left-eq0.false (sym c.in-Err.ensures))

pub returns-in-End : goal.returns-in-End
unfolding count_read found mapped program_node_of
returns-in-End t c = let a = c.args in
    let node = found_as program_node_of c.in-Ok.ensures c.in-End.is in
    sym (program_ends a.n a.k a.left a.p.acts a.p.branches a.packed.now a.p.at c.if-left-eq0.false node)

pub returns-then-k-a : goal.returns-then-k-a
unfolding count_read number_of found mapped program_node_of
returns-then-k-a t c = let a = c.args in
    let node = found_as program_node_of c.in-Ok.ensures c.in-Act.is in
    sym (program_out a.n a.k a.left a.p.acts a.p.branches a.packed.now a.p.at c.if-left-eq0.false node c.if-k-a.true)

pub overflow_add-rest : goal.overflow_add-rest
unfolding found mapped program_node_of
overflow_add-rest t c = let a = c.args in
    let node = found_as program_node_of c.in-Ok.ensures c.in-Act.is in
    let fits = node_fits a.p.acts a.p.branches a.packed.now a.p.at _ _ node in omega (arith, fits)

pub returns-else-k-a : goal.returns-else-k-a
unfolding found mapped program_node_of
returns-else-k-a t c = let a = c.args in
    let node = found_as program_node_of c.in-Ok.ensures c.in-Act.is in
    c.read_program.ensures ∙ sym (program_act a.n a.k a.left a.p.acts a.p.branches a.packed.now a.p.at c.if-left-eq0.false node c.if-k-a.false)

pub overflow_add-yes : goal.overflow_add-yes
unfolding found mapped program_node_of
overflow_add-yes t c = let a = c.args in
    let node = found_as program_node_of c.in-Ok.ensures c.in-Branch.is in
    let fits = node_fits a.p.acts a.p.branches a.packed.now a.p.at _ _ node in omega (arith, fits)

pub returns-in-Err-read_epistemic : goal.returns-in-Err-read_epistemic
unfolding count_read found mapped program_node_of end_read
returns-in-Err-read_epistemic t c = let a = c.args in
    let node = found_as program_node_of c.in-Ok.ensures c.in-Branch.is in
    sym (condition_refused a.n a.k a.left a.p.acts a.p.branches a.packed.now a.p.at c.if-left-eq0.false node (sym c.in-Err-read_epistemic.ensures))

pub returns-in-Err-read_program : goal.returns-in-Err-read_program
unfolding count_read found mapped program_node_of end_read
returns-in-Err-read_program t c = let a = c.args in
    let node = found_as program_node_of c.in-Ok.ensures c.in-Branch.is in
    sym (program_branch a.n a.k a.left a.p.acts a.p.branches a.packed.now a.p.at c.if-left-eq0.false node (sym c.in-Ok-read_epistemic.ensures)
    ∙ three_first (λ x y j. mapped counts (program_within a.n a.k (a.left - 1) x y a.packed.now j)) (sym c.in-Err-read_program.ensures))

pub returns-in-Err-read_program-2 : goal.returns-in-Err-read_program-2
unfolding count_read found mapped program_node_of end_read
returns-in-Err-read_program-2 t c = let a = c.args in
    let node = found_as program_node_of c.in-Ok.ensures c.in-Branch.is in
    sym (program_branch a.n a.k a.left a.p.acts a.p.branches a.packed.now a.p.at c.if-left-eq0.false node (sym c.in-Ok-read_epistemic.ensures)
    ∙ three_second (λ x y j. mapped counts (program_within a.n a.k (a.left - 1) x y a.packed.now j)) (sym c.in-Ok-read_program.ensures) (sym c.in-Err-read_program-2.ensures))

pub returns-in-Ok-read_program-2 : goal.returns-in-Ok-read_program-2
unfolding count_read found mapped program_node_of end_read
returns-in-Ok-read_program-2 t c = let a = c.args in
    let node = found_as program_node_of c.in-Ok.ensures c.in-Branch.is in
    c.read_program-in-Branch-3.ensures
    ∙ sym (program_branch a.n a.k a.left a.p.acts a.p.branches a.packed.now a.p.at c.if-left-eq0.false node (sym c.in-Ok-read_epistemic.ensures)
    ∙ three_third (λ x y j. mapped counts (program_within a.n a.k (a.left - 1) x y a.packed.now j)) (sym c.in-Ok-read_program.ensures) (sym c.in-Ok-read_program-2.ensures))
