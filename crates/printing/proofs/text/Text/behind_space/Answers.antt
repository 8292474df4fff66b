-- `Text::behind_space` meets its contract. Assumes nothing.
use Rattle.printing.proofs.LineLaws.{on}
use Rattle.printing.proofs.text.Text.behind_space.Goals as goal

pub returns : goal.returns
returns c = on c.push.ensures c.decimal.ensures
