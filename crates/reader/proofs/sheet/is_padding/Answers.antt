-- `reader::is_padding` meets its contract. Assumes nothing.
use mathlib.Core.Path.{sym, ap, ◌∙◌}
use Prim.Native.Nat.{ℕ, ◌-◌}
use native.Mathlib.Omega.{arith}
use lib.Dec.{eqb}
use Rattle.format.specs.Bits.{bits_at}
use Rattle.reader.proofs.BodyLaws.{padding_none, padding_many, padding_few}
use Rattle.reader.proofs.sheet.is_padding.Goals as goal

pub returns-then-end-at : goal.returns-then-end-at
returns-then-end-at c = let a = c.args in sym (padding_none a.packed.now a.at (omega (arith, c.end-end.ensures)))

pub returns-then-end-at-ge8 : goal.returns-then-end-at-ge8
returns-then-end-at-ge8 c = let a = c.args in sym (padding_many a.packed.now a.at (omega (arith, c.end-end.ensures)))

pub returns : goal.returns
returns c = let a = c.args in
    ap (λ (v : ℕ). eqb v 0) (c.bits.ensures ∙ ap (λ (end : ℕ). bits_at a.packed.now a.at (end - a.at)) c.end-end.ensures)
    ∙ sym (padding_few a.packed.now a.at (omega (arith, c.end-end.ensures)))
