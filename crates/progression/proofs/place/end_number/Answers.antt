-- `place::end_number` meets its contract: the first end tells, and a node that is none leaves it to those behind. Assumes nothing.
use mathlib.Core.Path.{refl, sym, ◌∙◌}
use native.Mathlib.Omega.{arith}
use Rattle.progression.specs.Machine.{end_number}
use Rattle.progression.proofs.NumberLaws.{end_here, end_later, end_none}
use borrow.Enum.Refused.{opened}
use Rattle.progression.proofs.place.end_number.Goals as goal

pub loop-i-init : goal.loop-i-init
unfolding end_number
loop-i-init c = refl

pub returns-in-End : goal.returns-in-End
returns-in-End c = let l = c in
    sym (l.loop-i.invariant ∙ end_here _ _ _ (omega arith) _ c.node_at.ensures.0 _ c.in-End.is)

pub loop-i-preserved : goal.loop-i-preserved
loop-i-preserved c = let l = c in
    l.loop-i.invariant ∙ end_later _ _ _ (omega arith) _ c.node_at.ensures.0 (opened c.in_default.in_default-own.keys2)

pub returns : goal.returns
returns c = let l = c in sym (l.loop-i.invariant ∙ end_none _ _ _ (omega arith))
