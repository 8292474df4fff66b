-- `recovery::recovery_settle` meets its contract: the node is one of the memory and its action a number of 16 bits, so that the number fits. Assumes nothing.
use Prim.Native.Nat.{◌<◌}
use mathlib.Core.Path.{subst, ◌∙◌}
use native.Mathlib.Omega.{arith}
use Rattle.routine.specs.Memory.{node_most}
use Rattle.progression.specs.Machine.{Inside}
use Rattle.recovery.specs.Numbers.{place_number}
use Rattle.recovery.proofs.NumberLaws.{place_cast, place_numbered}
use Rattle.recovery.proofs.recovery_settle.Goals as goal

pub overflow_mul-result : goal.overflow_mul-result
unfolding Inside
overflow_mul-result c = let inside : (c.in-Act.node < node_most) × (c.in-Act.action < 65536) = subst Inside c.in-Act.is c.settle.ensures.1 in omega (arith, inside)

pub overflow_add-result : goal.overflow_add-result
unfolding Inside
overflow_add-result c = let inside : (c.in-Act.node < node_most) × (c.in-Act.action < 65536) = subst Inside c.in-Act.is c.settle.ensures.1 in omega (arith, inside)

pub overflow_add-result-in-Act : goal.overflow_add-result-in-Act
unfolding Inside
overflow_add-result-in-Act c = let inside : (c.in-Act.node < node_most) × (c.in-Act.action < 65536) = subst Inside c.in-Act.is c.settle.ensures.1 in omega (arith, inside)

pub returns-in-End : goal.returns-in-End
returns-in-End c = let numbered = place_numbered _ _ _ _ _ _ _ c.of_words.ensures c.settle.ensures c.in-End.is in
    (place_cast c.in-End.holds ∙ numbered.0, numbered.1)

pub returns-in-Act : goal.returns-in-Act
unfolding place_number
returns-in-Act c = place_numbered _ _ _ _ _ _ _ c.of_words.ensures c.settle.ensures c.in-Act.is
