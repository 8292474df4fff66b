-- `states::States::least` meets its contract. The loop's invariant: the least state of the set is the first from s on. The measure is what is left of the 256 states. Assumes nothing.
use Prim.Native.Nat.{◌+◌}
use mathlib.Core.Path.{◌≡◌, sym, ap, ◌∙◌}
use native.Mathlib.Omega.{arith}
use Rattle.states.proofs.SetLaws.{least_from, least_start, least_here, least_later, least_end}
use Rattle.states.proofs.States.least.Goals as goal

pub loop-s-init : goal.loop-s-init
loop-s-init c = (omega arith, least_start c.args.self)

pub returns-then-has : goal.returns-then-has
returns-then-has c = let l = c.loop-s in sym (l.invariant.1 ∙ least_here c.args.self l.s (omega arith) (sym c.has.ensures ∙ c.if-has.true))

pub loop-s-preserved : goal.loop-s-preserved
loop-s-preserved c = let l = c.loop-s in (omega arith, l.invariant.1 ∙ least_later c.args.self l.s (omega arith) (sym c.has.ensures ∙ c.if-has.false))

pub returns-else-has : goal.returns-else-has
returns-else-has c = let set = c.args.self in
    let l = c.loop-s in
    let last : l.s + 1 ≡ 256 = omega arith in
    sym (l.invariant.1 ∙ least_later set l.s (omega arith) (sym c.has.ensures ∙ c.if-has.false) ∙ ap (least_from set) last ∙ least_end set)
