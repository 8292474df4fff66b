-- `Figures::numbers` meets its contract. Assumes nothing.
use Rattle.std.proofs.Common.{refl}
use Rattle.semantics.specs.Figures.{figure_numbers}
use Rattle.release.specs.Counting.{meant_by}
use Rattle.release.proofs.figures.Figures.numbers.Goals as goal

pub returns : goal.returns
unfolding figure_numbers meant_by
returns c = refl
