-- `states::States::has` meets its contract: the arm that is taken gives the word of the state. Assumes nothing.
use Prim.Native.Nat.{ℕ, ◌/◌, ◌%◌}
use mathlib.Core.Path.{◌≡◌, sym, ap, ◌∙◌}
use native.Mathlib.Omega.{arith}
use Rattle.states.specs.Sets.{bit, word}
use Rattle.states.proofs.SetLaws.{member_bit}
use Rattle.states.proofs.States.has.Goals as goal
use Rattle.states.proofs.States.has.Goals.{in-0, in-1, in-2, in_default}

pub returns : goal.returns
unfolding bit word
returns c =
    let a = c.args in
    let at : ((i : ℕ) → a.s / 64 ≡ i → word a.self i ≡ word a.self (a.s / 64)) = λ i e. ap (word a.self) (sym e) in
    let is : c.match-s-div64.w ≡ word a.self (a.s / 64) =
    elim c.match-s-div64.branch [
      | in-0 w ↦ w.w-is ∙ at 0 (omega arith)
      | in-1 w ↦ w.w-is ∙ at 1 (omega arith)
      | in-2 w ↦ w.w-is ∙ at 2 (omega arith)
      | in_default w ↦ w.w-is ∙ at 3 (omega arith)
    ] in
    ap (λ (x : ℕ). bit x (a.s % 64)) is ∙ sym (member_bit a.self a.s)
