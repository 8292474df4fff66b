-- `states::States::put` meets its contract: four stores, or none where there is no room. Assumes nothing.
use Rattle.states.proofs.SetLaws.{put_words, put_none}
use Rattle.states.proofs.States.put.Goals as goal

pub returns-then-words-i : goal.returns-then-words-i
returns-then-words-i c = put_none _ _ _ c.if-words-i.true

pub returns : goal.returns
returns c = put_words _ _ _ _ _ _ _ c.put_word.ensures c.put_word-2.ensures c.put_word-3.ensures
    c.put_word-4.ensures
