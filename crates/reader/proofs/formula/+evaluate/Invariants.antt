-- `reader::evaluate` meets its contract: each return by the law of the tag that led there. The measure is the levels left. Assumes nothing.
use Rattle.reader.proofs.formula.+evaluate.Given as goal

abbrev pub decreases-evaluate : goal.decreases-evaluate
decreases-evaluate l = l.left
