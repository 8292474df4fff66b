-- `routine::memory::head_at` meets its contract: each return by the law of its case (proofs/MemoryLaws.antt), and each number fits 16 bits, as what is read does. Assumes nothing.
use Rattle.std.proofs.Common.{refl, arith, rules}
use Rattle.routine.specs.Memory.{head_most, head_at}
use Rattle.routine.proofs.MemoryLaws.{three_in, past}
use Rattle.routine.proofs.memory.head_at.Goals as goal

pub returns-then-a-ge-ACTIONS : goal.returns-then-a-ge-ACTIONS
unfolding head_at
returns-then-a-ge-ACTIONS c = (past head_most _ _ _ c.if-a-ge-ACTIONS.true, omega arith, omega arith, omega arith)

pub returns : goal.returns
unfolding head_at
returns c = (
  three_in (λ x y z. record { rows = x; replies = y; count = z }) (record { rows = 0; replies = 0; count = 0 }) c.args.heads.now head_most c.args.a _ _ _ (omega arith) refl refl refl,
  search rules,
  search rules,
  search rules,
)
