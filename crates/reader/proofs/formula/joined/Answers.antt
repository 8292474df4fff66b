-- `reader::formula::joined` meets its contract, by the connective. Assumes nothing.
use Rattle.reader.specs.Method.{joins}
use Rattle.reader.proofs.formula.joined.Goals as goal

pub returns-in-And : goal.returns-in-And
unfolding joins
returns-in-And c = rw c.in-And.is c.intersect.ensures

pub returns-in-Or : goal.returns-in-Or
unfolding joins
returns-in-Or c = rw c.in-Or.is c.union.ensures

pub returns-in-Same : goal.returns-in-Same
unfolding joins
returns-in-Same c = rw c.in-Same.is c.agreement.ensures
