-- `states::States::agreement` meets its contract: each bit of the result is the complement of the difference of the two bits. Assumes nothing.
use Prim.Native.Nat.{◌-◌, ◌^◌}
use mathlib.Core.Path.{◌≡◌, ap, ◌∙◌}
use mathlib.Core.Bool.{not, beq, not-not}
use native.Mathlib.Omega.{arith}
use lib.Bits.{bit_xor, xor_lt}
use Rattle.states.specs.Sets.{bit}
use Rattle.states.proofs.BitLaws.{bit_not, bit_of_xor}
use Rattle.states.proofs.SetLaws.{Fitting, by_word, pointwise}
use borrow.Author.Rules.{rules}
use Rattle.states.proofs.States.agreement.Goals as goal

pub returns : goal.returns
returns c = let a = c.args.self in
    let b = c.args.other in
    let ha : Fitting a = search rules in
    let hb : Fitting b = search rules in
    let words : c.zip.result ≡ by_word (λ x y. 2 ^ 64 - 1 - bit_xor x y) a b = search rules in
    words
    ∙ pointwise (λ x y. 2 ^ 64 - 1 - bit_xor x y) beq
    (λ x y k hx hy hk. bit_not 64 (bit_xor x y) k (xor_lt 64 x y hx hy) hk ∙ ap not (bit_of_xor x y k) ∙ not-not (beq (bit x k) (bit y k)))
    (λ x y hx hy. omega arith) a b ha hb
