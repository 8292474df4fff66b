-- `states::States::one` meets its contract: the arm that is taken sets the bit in the word of the state. Assumes nothing.
use Prim.Native.Nat.{◌/◌, ◌%◌}
use mathlib.Core.Path.{◌≡◌, refl}
use native.Mathlib.Omega.{arith}
use Rattle.states.specs.Sets.{word}
use Rattle.states.proofs.BitLaws.{shifted_one}
use Rattle.states.proofs.SetLaws.{four, one_is}
use Rattle.states.proofs.States.one.Goals as goal

pub returns-in-0 : goal.returns-in-0
unfolding word
returns-in-0 c = let s = c.args.s in
    let e : s / 64 ≡ 0 = omega arith in
    one_is _ s (omega arith) (rw e (four _ (shifted_one (s % 64) (omega arith)) refl refl refl))

pub returns-in-1 : goal.returns-in-1
unfolding word
returns-in-1 c = let s = c.args.s in
    let e : s / 64 ≡ 1 = omega arith in
    one_is _ s (omega arith) (rw e (four _ refl (shifted_one (s % 64) (omega arith)) refl refl))

pub returns-in-2 : goal.returns-in-2
unfolding word
returns-in-2 c = let s = c.args.s in
    let e : s / 64 ≡ 2 = omega arith in
    one_is _ s (omega arith) (rw e (four _ refl refl (shifted_one (s % 64) (omega arith)) refl))

pub returns-in_default : goal.returns-in_default
unfolding word
returns-in_default c = let s = c.args.s in
    let e : s / 64 ≡ 3 = omega arith in
    one_is _ s (omega arith) (rw e (four _ refl refl refl (shifted_one (s % 64) (omega arith))))
