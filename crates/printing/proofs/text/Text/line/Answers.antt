-- `Text::line` meets its contract. Assumes nothing.
use Rattle.printing.proofs.LineLaws.{on}
use Rattle.printing.proofs.text.Text.line.Goals as goal

pub returns : goal.returns
returns c = on (on c.word.ensures c.behind_space.ensures) c.push.ensures
