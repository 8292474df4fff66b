-- `recovery::recovery_known` meets its contract. Assumes nothing.
use mathlib.Core.Path.{ap, ◌∙◌}
use Rattle.recovery.specs.Numbers.{flag_number}
use Rattle.recovery.proofs.NumberLaws.{flag_cast, known_lent}
use Rattle.recovery.proofs.recovery_known.Goals as goal

pub returns : goal.returns
returns c = flag_cast _ ∙ ap flag_number (known_lent _ _ _ _ _ c.of_words.ensures c.known.ensures)
