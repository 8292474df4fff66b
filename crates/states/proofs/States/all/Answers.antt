-- `states::States::all` meets its contract: up to seven facts the words are computed, and with more every state is below 2^n. Assumes nothing.
use Prim.Native.Nat.{ℕ, suc, ◌^◌, ◌≤◌}
use mathlib.Core.Path.{◌≡◌, sym, ap}
use mathlib.Core.Bool.{true}
use native.Mathlib.Nat.{pow-le-pow_right}
use native.Mathlib.Omega.{arith}
use lib.Dec.{ltb}
use borrow.Author.Tests.{lt-ltb}
use Rattle.states.specs.declared.States.{States}
use Rattle.states.specs.Sets.{set_of}
use Rattle.states.proofs.SetLaws.{set_cong}
use Rattle.states.proofs.States.all.Goals as goal

-- The states below 2^n.
abbrev few : ℕ → States
few n = set_of (λ s. ltb s (2 ^ n))

-- A number from k on that isn't k is past it.
past : (k n : ℕ) → k ≤ n → (n ≡ k → ⊥) → suc k ≤ n
past k n h d = omega arith

-- A number that isn't 0 is at least 1.
positive : (n : ℕ) → (n ≡ 0 → ⊥) → 1 ≤ n
positive n d = omega arith

-- With eight facts or more every state is below 2^n.
many : (n : ℕ) → 8 ≤ n → set_of (λ s. true) ≡ few n
many n h =
    let p : 2 ^ 8 ≤ 2 ^ n = pow-le-pow_right {n = 2} (omega arith) h in
    set_cong (λ s. true) (λ s. ltb s (2 ^ n)) (λ s k. sym (lt-ltb s (2 ^ n) (omega arith)))

pub returns-in-0 : goal.returns-in-0
unfolding set_of
returns-in-0 c = let e : c.args.n ≡ 0 = omega arith in sym (ap few e)

pub returns-in-1 : goal.returns-in-1
unfolding set_of
returns-in-1 c = let e : c.args.n ≡ 1 = omega arith in sym (ap few e)

pub returns-in-2 : goal.returns-in-2
unfolding set_of
returns-in-2 c = let e : c.args.n ≡ 2 = omega arith in sym (ap few e)

pub returns-in-3 : goal.returns-in-3
unfolding set_of
returns-in-3 c = let e : c.args.n ≡ 3 = omega arith in sym (ap few e)

pub returns-in-4 : goal.returns-in-4
unfolding set_of
returns-in-4 c = let e : c.args.n ≡ 4 = omega arith in sym (ap few e)

pub returns-in-5 : goal.returns-in-5
unfolding set_of
returns-in-5 c = let e : c.args.n ≡ 5 = omega arith in sym (ap few e)

pub returns-in-6 : goal.returns-in-6
unfolding set_of
returns-in-6 c = let e : c.args.n ≡ 6 = omega arith in sym (ap few e)

pub returns-in-7 : goal.returns-in-7
unfolding set_of
returns-in-7 c = let e : c.args.n ≡ 7 = omega arith in sym (ap few e)

pub returns-in_default : goal.returns-in_default
unfolding set_of
returns-in_default c = let n = c.args.n in
    let r = c.in_default.in_default-own.rest in
    let h : 2 ≤ n = past 1 n (positive n r.0.0.0.0.0.0.0.1) r.0.0.0.0.0.0.1 in
    let k : 5 ≤ n = past 4 n (past 3 n (past 2 n h r.0.0.0.0.0.1) r.0.0.0.0.1) r.0.0.0.1 in
    many n (past 7 n (past 6 n (past 5 n k r.0.0.1) r.0.1) r.1)
