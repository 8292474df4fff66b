-- The loop's invariant of `Text::numbers`: the first numbers are written.
use mathlib.Core.List.{flat_map}
use lib.ListN.{take}
use Rattle.semantics.specs.Printing.{behind_space}
use Rattle.printing.specs.Lines.{Appended}
use Rattle.printing.proofs.text.Text.numbers.Given as goal

abbrev pub invariant-loop-n : goal.invariant-loop-n
invariant-loop-n l = Appended l.initial.self l.self (flat_map behind_space (take l.n-index l.rest))
