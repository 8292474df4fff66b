-- `states::States::at` meets its contract: each word is the one there. Assumes nothing.
use mathlib.Core.Path.{◌∙◌}
use Rattle.states.specs.Sets.{words_at}
use Rattle.states.proofs.SetLaws.{four_words, none_behind}
use Rattle.states.proofs.States.at.Goals as goal

pub returns-then-words-i : goal.returns-then-words-i
returns-then-words-i c = c.empty.ensures ∙ none_behind _ _ c.if-words-i.true

pub returns : goal.returns
unfolding words_at
returns c = λ k. four_words (c.word_at.ensures k) (c.word_at-2.ensures k) (c.word_at-3.ensures k) (c.word_at-4.ensures k)
