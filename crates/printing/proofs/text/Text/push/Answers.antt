-- `Text::push` meets its contract. Assumes nothing.
use Rattle.printing.proofs.LineLaws.{one}
use Rattle.printing.proofs.text.Text.push.Goals as goal

pub returns : goal.returns
returns c = one _ _ c.requires
