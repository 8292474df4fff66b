-- `reader::Packed::window` meets its contract: the bits of two bytes, or of the last byte and 0. Assumes nothing.
use mathlib.Core.Path.{◌≡◌, ap, ◌∙◌}
use mathlib.Core.List.{List}
use Prim.Native.Nat.{ℕ, ◌+◌, ◌*◌, ◌/◌, ◌-◌, ◌%◌, ◌^◌, ◌<◌}
use lib.ListN.{get_or, get_or-eq_default}
use Rattle.std.proofs.Common.{arith, rules}
use Rattle.format.specs.Bits.{bit_at}
use Rattle.reader.proofs.BitLaws.{window_bits}
use Rattle.reader.proofs.bits.Packed.window.Goals as goal

pub returns-then-i-bytes : goal.returns-then-i-bytes
returns-then-i-bytes c q h = let i = c.args.i in
    let bytes = c.self.inside.bytes.now in
    let small : get_or bytes (i + 1) 0 < 256 = search rules in
    window_bits bytes i small q h ∙ ap (λ (x : List ℕ). bit_at x (8 * i + q)) c.self.view_is

pub returns : goal.returns
returns c q h = let i = c.args.i in
    let bytes = c.self.inside.bytes.now in
    let none : get_or bytes (i + 1) 0 ≡ 0 = get_or-eq_default bytes 0 {n = i + 1} (omega arith) in
    let e : get_or bytes i 0 * 256 ≡ get_or bytes i 0 * 256 + get_or bytes (i + 1) 0 = omega (arith, none) in
    ap (λ (x : ℕ). x / 2 ^ (15 - q) % 2) e ∙ window_bits bytes i (omega (arith, none)) q h ∙ ap (λ (x : List ℕ). bit_at x (8 * i + q)) c.self.view_is
