-- `reader::actions::test_theory` meets its contract: where the theory ends, and the test that refuses with 14. Assumes nothing.
use mathlib.Core.Path.{sym, ◌∙◌}
use Rattle.states.specs.Sets.{members}
use Rattle.format.specs.Truth.{truth}
use Rattle.format.specs.Format.{theory_over, leads_on, unless}
use Rattle.format.proofs.ReaderLaws.{mapped_got, mapped_fault}
use Rattle.reader.specs.Answers.{answer_of, number_of, in_theory}
use Rattle.reader.specs.Method.{end_read, ending}
use Rattle.reader.proofs.TestLaws.{tested_got, tested_fault, test_passes, test_fails}
use Rattle.reader.proofs.actions.test_theory.Goals as goal

pub returns-then-leads_on : goal.returns-then-leads_on
unfolding answer_of end_read in_theory
returns-then-leads_on c = let a = c.args in
    let w = mapped_got ending (theory_over a.n a.packed.now a.at) (sym c.in-Ok.ensures) in
    test_passes 14 _ (c.leads_on.ensures w.0 _ w.1) c.if-leads_on.true ∙ sym (tested_got (λ f. unless (leads_on (members a.space) (truth f)) 14) w.1)

pub returns-in-Err : goal.returns-in-Err
unfolding answer_of end_read in_theory
returns-in-Err c = let a = c.args in
    tested_fault (λ f. unless (leads_on (members a.space) (truth f)) 14) (mapped_fault ending (theory_over a.n a.packed.now a.at) (sym c.in-Err.ensures))

pub returns : goal.returns
unfolding answer_of number_of end_read in_theory
returns c = let a = c.args in
    let w = mapped_got ending (theory_over a.n a.packed.now a.at) (sym c.in-Ok.ensures) in
    test_fails 14 _ (c.leads_on.ensures w.0 _ w.1) c.if-leads_on.false ∙ sym (tested_got (λ f. unless (leads_on (members a.space) (truth f)) 14) w.1)
