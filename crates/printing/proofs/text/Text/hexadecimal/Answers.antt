-- `Text::hexadecimal` meets its contract. Assumes nothing.
use Prim.Native.Nat.{◌/◌, ◌%◌}
use mathlib.Core.List.{◌∷◌, []}
use Rattle.semantics.specs.Printing.{digit, hexadecimal}
use Rattle.printing.proofs.LineLaws.{on, ahead, behind}
use Rattle.printing.proofs.text.Text.hexadecimal.Goals as goal

pub push-requires : goal.push-requires
unfolding hexadecimal
push-requires c = rw c.digit.ensures (ahead (digit (c.args.byte / 16) ∷ []) (digit (c.args.byte % 16) ∷ []) c.requires)

pub push-requires-2 : goal.push-requires-2
unfolding hexadecimal
push-requires-2 c = behind (c.digit-2.result ∷ []) (rw (c.digit.ensures, c.digit-2.ensures) c.requires) c.push.ensures

pub returns : goal.returns
unfolding hexadecimal
returns c = rw (← c.digit.ensures, ← c.digit-2.ensures) (on c.push.ensures c.push-2.ensures)
