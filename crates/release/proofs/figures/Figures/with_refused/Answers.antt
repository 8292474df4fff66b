-- `Figures::with_refused` meets its contract. Assumes nothing.
use Rattle.std.proofs.Common.{ℕ, ap, refl}
use Rattle.release.specs.Counting.{plus, with_cut}
use Rattle.release.proofs.figures.Figures.with_refused.Goals as goal

pub returns : goal.returns
unfolding with_cut plus
returns c = ap (λ (n : ℕ). let f = c.args.self in record { valid = f.valid; invalid = f.invalid; stopped = f.stopped; refused = n; sum = f.sum; greatest = f.greatest }) refl
