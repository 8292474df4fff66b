-- `routine::memory::node_of` meets its contract: each return by the law of its case. Assumes nothing.
use Rattle.routine.specs.Memory.{node_of}
use Rattle.routine.proofs.MemoryLaws.{node_is, node_else}
use Rattle.routine.proofs.memory.node_of.Goals as goal

pub returns-in-0 : goal.returns-in-0
unfolding node_of
returns-in-0 c = node_is 0 _ _ _ c.in-0.is

pub returns-in-1 : goal.returns-in-1
unfolding node_of
returns-in-1 c = node_is 1 _ _ _ c.in-1.is

pub returns-in-2 : goal.returns-in-2
unfolding node_of
returns-in-2 c = node_is 2 _ _ _ c.in-2.is

pub returns-in-3 : goal.returns-in-3
unfolding node_of
returns-in-3 c = node_is 3 _ _ _ c.in-3.is

pub returns-in-4 : goal.returns-in-4
unfolding node_of
returns-in-4 c = node_is 4 _ _ _ c.in-4.is

pub returns-in_default : goal.returns-in_default
returns-in_default c = let r = c.in_default.in_default-own.rest in
    node_else _ _ _ r.0.0.0.0.1 r.0.0.0.1 r.0.0.1 r.0.1 r.1
