-- `reader::EditionTryFromUsize::try_from` meets its contract, number by number. Assumes nothing.
use native.Mathlib.Omega.{arith}
use borrow.Author.Tests.{ne_eqb}
use Rattle.format.specs.Format.{on_accepted, is_edition}
use Rattle.reader.specs.Answers.{answer_of, number_of, edition_of, edition_taken}
use Rattle.reader.proofs.layout.EditionTryFromUsize.try_from.Goals as goal

pub returns-in-1 : goal.returns-in-1
unfolding on_accepted answer_of edition_of edition_taken is_edition
returns-in-1 c = rw c.in-1.is

pub returns-in-2 : goal.returns-in-2
unfolding on_accepted answer_of edition_of edition_taken is_edition
returns-in-2 c = rw c.in-2.is

pub returns-in_default : goal.returns-in_default
unfolding on_accepted answer_of number_of edition_taken is_edition
returns-in_default c = let n = c.args.number in
    rw (ne_eqb n 1 (λ e. omega arith), ne_eqb n 2 (λ e. omega arith))
