-- `reader::Packed::objective_node` meets its contract, tag by tag. Assumes nothing.
use Prim.Native.Nat.{ℕ}
use mathlib.Core.Path.{◌≡◌, sym, ap, ◌∙◌}
use native.Mathlib.Omega.{arith}
use Rattle.format.specs.Format.{got, mapped}
use Rattle.format.proofs.FormatLaws.{field_below}
use Rattle.reader.specs.Answers.{number_of, found}
use Rattle.reader.specs.Method.{tag_of}
use Rattle.reader.proofs.bits.Packed.objective_node.Goals as goal

pub returns-in-Err : goal.returns-in-Err
unfolding mapped number_of found
returns-in-Err c = c.in-Err.ensures

pub returns-in-0 : goal.returns-in-0
unfolding mapped found tag_of
returns-in-0 c = ap (λ (k : ℕ). got k c.in-Ok.value.1) (sym c.in-0.is) ∙ c.in-Ok.ensures

pub returns-in-1 : goal.returns-in-1
unfolding mapped found tag_of
returns-in-1 c = ap (λ (k : ℕ). got k c.in-Ok.value.1) (sym c.in-1.is) ∙ c.in-Ok.ensures

pub returns-in-2 : goal.returns-in-2
unfolding mapped found tag_of
returns-in-2 c = ap (λ (k : ℕ). got k c.in-Ok.value.1) (sym c.in-2.is) ∙ c.in-Ok.ensures

pub returns-in-3 : goal.returns-in-3
unfolding mapped found tag_of
returns-in-3 c = ap (λ (k : ℕ). got k c.in-Ok.value.1) (sym c.in-3.is) ∙ c.in-Ok.ensures

pub returns-in-4 : goal.returns-in-4
unfolding mapped found tag_of
returns-in-4 c = ap (λ (k : ℕ). got k c.in-Ok.value.1) (sym c.in-4.is) ∙ c.in-Ok.ensures

pub returns-in-5 : goal.returns-in-5
unfolding mapped found tag_of
returns-in-5 c = ap (λ (k : ℕ). got k c.in-Ok.value.1) (sym c.in-5.is) ∙ c.in-Ok.ensures

pub returns-in-6 : goal.returns-in-6
unfolding mapped found tag_of
returns-in-6 c = ap (λ (k : ℕ). got k c.in-Ok.value.1) (sym c.in-6.is) ∙ c.in-Ok.ensures

pub returns-in_default : goal.returns-in_default
unfolding mapped found tag_of
returns-in_default c =
    let below = field_below 3 _ _ _ _ (sym c.in-Ok.ensures) in
    let last : 7 ≡ c.in-Ok.value.0 = omega (arith, below) in
    ap (λ (k : ℕ). got k c.in-Ok.value.1) last ∙ c.in-Ok.ensures
