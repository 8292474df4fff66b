-- `verifier::path_byte` meets its contract. Assumes nothing.
use Rattle.std.proofs.Common.{refl}
use Rattle.verifier.specs.Search.{path_byte}
use Rattle.verifier.proofs.search.path_byte.Goals as goal

pub returns : goal.returns
unfolding path_byte
returns c = refl
