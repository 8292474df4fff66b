-- `print_figures` meets its contract: six numbers of 64 bits have room. Assumes nothing.
use mathlib.Core.Path.{refl}
use borrow.Author.Rules.{rules}
use Rattle.printing.proofs.LineLaws.{numbers_room, end_room, line_written}
use Rattle.printing.proofs.print_figures.Goals as goal

pub numbers-requires : goal.numbers-requires
numbers-requires c = numbers_room _ (search rules) (λ i. search rules) refl

pub push-requires : goal.push-requires
push-requires c = end_room _ (search rules) (λ i. search rules) refl _ c.numbers.ensures

pub returns : goal.returns
returns c =
    let q = line_written _ _ _ _ c.numbers.ensures c.push.ensures in
    (q.0, search (rules, q.1), q.2)
