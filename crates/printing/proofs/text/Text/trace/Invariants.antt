-- The loop's invariant of `Text::trace`: the first bytes are written.
use mathlib.Core.List.{flat_map}
use lib.ListN.{take}
use Rattle.printing.specs.Lines.{Appended}
use Rattle.printing.proofs.LineLaws.{hexadecimal_behind}
use Rattle.printing.proofs.text.Text.trace.Given as goal

abbrev pub invariant-loop-byte : goal.invariant-loop-byte
invariant-loop-byte l = Appended l.initial.self l.self (flat_map hexadecimal_behind (take l.byte-index l.rest))
