-- `reader::evaluate_fact` meets its contract: a fact number, and the fact's set in the view. Assumes nothing.
use mathlib.Core.Path.{sym, ap}
use Rattle.format.specs.Format.{mapped}
use Rattle.format.proofs.ReaderLaws.{fact_cut, fact_in_law, fact_out}
use Rattle.reader.specs.Answers.{found, number_of, states_in}
use Rattle.reader.specs.Method.{fact_of}
use Rattle.format.proofs.FormatLaws.{field_below}
use borrow.Author.Rules.{rules}
use Rattle.reader.proofs.formula.evaluate_fact.Goals as goal

pub returns-then-n-i : goal.returns-then-n-i
unfolding found number_of mapped
returns-then-n-i c = let a = c.args in
    let f = sym c.in-Ok.ensures in
    sym (ap (mapped (λ i. states_in a.view (fact_of a.fresh i))) (fact_out a.n a.packed.now a.at f (search rules)))

pub seen-requires : goal.seen-requires
unfolding found
seen-requires c = let a = c.args in
    field_below 3 a.packed.now a.at _ _ (sym c.in-Ok.ensures)

pub returns-in-Err : goal.returns-in-Err
unfolding found number_of mapped
returns-in-Err c = let a = c.args in
    let f = sym c.in-Err.ensures in
    sym (ap (mapped (λ i. states_in a.view (fact_of a.fresh i))) (fact_cut a.n a.packed.now a.at f))

pub returns : goal.returns
unfolding found number_of mapped
returns c = let a = c.args in
    let f = sym c.in-Ok.ensures in
    rw c.seen.ensures (sym (ap (mapped (λ i. states_in a.view (fact_of a.fresh i))) (fact_in_law a.n a.packed.now a.at f (search rules))))
