-- `routine::memory::set_at` meets its contract: each return by the law of its case (proofs/MemoryLaws.antt). Assumes nothing.
use mathlib.Core.Path.{◌∙◌}
use native.Mathlib.Omega.{arith}
use Rattle.routine.specs.Memory.{set_most, set_at}
use Rattle.routine.proofs.MemoryLaws.{set_in, past}
use Rattle.routine.proofs.memory.set_at.Goals as goal

pub returns-then-k-ge-SETS : goal.returns-then-k-ge-SETS
unfolding set_at
returns-then-k-ge-SETS c = c.empty.ensures ∙ past set_most _ _ _ c.if-k-ge-SETS.true

pub returns : goal.returns
returns c = c.at.ensures ∙ set_in _ _ (omega arith)
