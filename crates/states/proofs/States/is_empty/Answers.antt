-- `states::States::is_empty` meets its contract: the words joined are 0 just where there is no member. Assumes nothing.
use Rattle.states.proofs.SetLaws.{Fitting, empty_joined}
use borrow.Author.Rules.{rules}
use Rattle.states.proofs.States.is_empty.Goals as goal

pub returns : goal.returns
returns c = let a = c.args.self in
    let h : Fitting a = search rules in
    empty_joined a h
