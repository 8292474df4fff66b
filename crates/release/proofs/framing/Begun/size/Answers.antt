-- `Begun::size` meets its contract: the first byte is the most significant. Assumes nothing.
use Rattle.std.proofs.Common.{refl, arith, rules}
use Rattle.release.specs.Framing.{length_of, size_of}
use Rattle.release.proofs.framing.Begun.size.Goals as goal

pub returns : goal.returns
unfolding size_of length_of
returns c = (refl, omega arith, search rules)
