-- The loop's invariant of `Text::word`: the first bytes are written.
use mathlib.Core.List.{◌∷◌, [], flat_map}
use Prim.Native.Nat.{ℕ}
use lib.ListN.{take}
use Rattle.printing.specs.Lines.{Appended}
use Rattle.printing.proofs.text.Text.word.Given as goal

abbrev pub invariant-loop-byte : goal.invariant-loop-byte
invariant-loop-byte l = Appended l.fn.self l.self (flat_map (λ (b : ℕ). b ∷ []) (take l.byte-index l.word))
