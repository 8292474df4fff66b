-- `recovery::recovery_pass` meets its contract: the pass over the set that was lent, and its three answers. Assumes nothing.
use mathlib.Core.Path.{ap, ◌∙◌}
use mathlib.Core.List.{[], ◌∷◌}
use Rattle.states.specs.Sets.{words}
use Rattle.progression.specs.declared.reply.Passed.{Passed}
use Rattle.recovery.specs.Numbers.{flag_number}
use Rattle.recovery.proofs.NumberLaws.{flag_cast, passed_lent}
use Rattle.recovery.proofs.recovery_pass.Goals as goal

pub returns : goal.returns
returns c = let passed = passed_lent _ _ _ _ _ _ _ c.of_words-before.ensures c.pass-passed.ensures in (
  flag_cast _ ∙ ap (λ (p : Passed). flag_number p.possible) passed,
  c.words.ensures ∙ ap (λ (p : Passed). words p.kept) passed,
  ap (λ (p : Passed). p.evaluations ∷ []) passed,
)
