-- `states::States::union` meets its contract: each bit of the result is set where one is. Assumes nothing.
use mathlib.Core.Path.{◌≡◌, ◌∙◌}
use mathlib.Core.Bool.{◌||◌}
use lib.Bits.{bit_or, or_lt}
use Rattle.states.proofs.BitLaws.{bit_of_or}
use Rattle.states.proofs.SetLaws.{Fitting, by_word, pointwise}
use borrow.Author.Rules.{rules}
use Rattle.states.proofs.States.union.Goals as goal

pub returns : goal.returns
returns c = let a = c.args.self in
    let b = c.args.other in
    let ha : Fitting a = search rules in
    let hb : Fitting b = search rules in
    let words : c.zip.result ≡ by_word bit_or a b = search rules in
    words
    ∙ pointwise bit_or ◌||◌ (λ x y k hx hy hk. bit_of_or x y k) (or_lt 64) a b ha hb
