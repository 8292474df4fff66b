-- `reader::formula::read_epistemic` meets its contract: each return by the law of the first node that led there. The measure is the levels left. Assumes nothing.
use Rattle.reader.proofs.formula.+read_epistemic.Given as goal

abbrev pub decreases-read_epistemic : goal.decreases-read_epistemic
decreases-read_epistemic l = l.left
