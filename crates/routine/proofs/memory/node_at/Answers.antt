-- `routine::memory::node_at` meets its contract: each return by the law of its case (proofs/MemoryLaws.antt), and its numbers fit 16 bits, as what is read does. Assumes nothing.
use mathlib.Core.Path.{sym, subst, ◌∙◌}
use Rattle.std.proofs.Common.{refl, arith, rules}
use lib.ListN.{get_or}
use Prim.Native.Nat.{◌*◌}
use Rattle.routine.specs.declared.memory.Node.{Node}
use Rattle.routine.specs.Memory.{Small, node_most, node_of, node_at}
use Rattle.routine.proofs.MemoryLaws.{three_in, past, node_small}
use Rattle.routine.proofs.memory.node_at.Goals as goal

pub returns-then-i-ge-NODES : goal.returns-then-i-ge-NODES
unfolding Small node_at
returns-then-i-ge-NODES c = (past node_most _ _ _ c.if-i-ge-NODES.true, omega arith)

pub returns : goal.returns
unfolding node_at
returns c = let n = c.node_of.ensures in (
  n ∙ three_in node_of (Node.End 0) c.args.nodes.now node_most c.args.i _ _ _ (omega arith) refl refl refl,
  subst Small (sym n) (node_small (get_or c.args.nodes.now (3 * c.args.i) 0) _ _ (search rules) (search rules)),
)
