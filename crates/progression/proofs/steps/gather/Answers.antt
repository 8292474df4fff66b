-- `progression::gather` meets its contract: the four words gathered. Assumes nothing.
use mathlib.Core.Path.{◌∙◌}
use Rattle.progression.proofs.GatherLaws.{gather_words}
use Rattle.progression.proofs.steps.gather.Goals as goal

pub returns : goal.returns
returns c = c.union-3.ensures
    ∙ gather_words _ _ _ _ _ _ _ _ _ c.gather_word-a.ensures c.gather_word-b.ensures c.gather_word-c.ensures
    c.gather_word-d.ensures c.union.ensures c.union-2.ensures
