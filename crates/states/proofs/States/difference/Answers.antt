-- `states::States::difference` meets its contract: each bit of the result is set where the first is and the second is not. Assumes nothing.
use Prim.Native.Nat.{◌-◌, ◌^◌}
use mathlib.Core.Path.{◌≡◌, ap, ◌∙◌}
use mathlib.Core.Bool.{Bool, not, ◌&&◌}
use native.Mathlib.Omega.{arith}
use lib.Bits.{bit_and, and_lt}
use Rattle.states.specs.Sets.{bit}
use Rattle.states.proofs.BitLaws.{bit_of_and, bit_not}
use Rattle.states.proofs.SetLaws.{Fitting, by_word, pointwise}
use borrow.Author.Rules.{rules}
use Rattle.states.proofs.States.difference.Goals as goal

pub returns : goal.returns
returns c = let a = c.args.self in
    let b = c.args.other in
    let ha : Fitting a = search rules in
    let hb : Fitting b = search rules in
    let words : c.zip.result ≡ by_word (λ x y. bit_and x (2 ^ 64 - 1 - y)) a b = search rules in
    words
    ∙ pointwise (λ x y. bit_and x (2 ^ 64 - 1 - y)) (λ p q. p && not q)
    (λ x y k hx hy hk. bit_of_and x (2 ^ 64 - 1 - y) k ∙ ap (λ (q : Bool). bit x k && q) (bit_not 64 y k hy hk))
    (λ x y hx hy. and_lt 64 x (2 ^ 64 - 1 - y) hx (omega arith)) a b ha hb
