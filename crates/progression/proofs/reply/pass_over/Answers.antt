-- `progression::pass_over` meets its contract: word by word. Assumes nothing.
use borrow.Author.Rules.{rules}
use Rattle.states.proofs.SetLaws.{Fitting}
use Rattle.progression.proofs.PassLaws.{words_kept, all_evaluated, passed_is}
use Rattle.progression.proofs.reply.pass_over.Goals as goal

pub returns : goal.returns
returns c = let h : Fitting c.args.set = search rules in
    let g : Fitting c.args.reply = search rules in
    let p = c.pass_word.ensures in
    let q = c.pass_word-2.ensures in
    let r = c.pass_word-3.ensures in
    let s = c.pass_word-4.ensures in
    passed_is _ _ _ _ _ (words_kept _ _ h g _ _ _ _ p.0 q.0 r.0 s.0) c.is_empty.ensures (all_evaluated _ h _ _ _ _ p.1 q.1 r.1 s.1)
