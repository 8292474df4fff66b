-- `reader::holding_fact` meets its contract: the words are those that the test of each fact gives, by computing them. Assumes nothing.
use mathlib.Core.Path.{◌≡◌, sym, ap, ◌∙◌}
use Prim.Native.Nat.{ℕ, suc, ◌≤◌, ◌<◌}
use native.Mathlib.Omega.{arith}
use Rattle.states.specs.Sets.{set_of}
use Rattle.format.specs.Truth.{fact_in}
use Rattle.reader.proofs.formula.holding_fact.Goals as goal

-- A number from k on that isn't k is past it.
past : (k i : ℕ) → k ≤ i → (i ≡ k → ⊥) → suc k ≤ i
past k i h d = omega arith

seven : (i : ℕ) → 7 ≤ i → i < 8 → 7 ≡ i
seven i h k = omega arith

pub returns-in-0 : goal.returns-in-0
unfolding set_of fact_in
returns-in-0 c = c.repeated.ensures ∙ ap (λ (j : ℕ). set_of (λ t. fact_in t j)) (sym c.in-0.is)

pub returns-in-1 : goal.returns-in-1
unfolding set_of fact_in
returns-in-1 c = c.repeated-in-1.ensures ∙ ap (λ (j : ℕ). set_of (λ t. fact_in t j)) (sym c.in-1.is)

pub returns-in-2 : goal.returns-in-2
unfolding set_of fact_in
returns-in-2 c = c.repeated-in-2.ensures ∙ ap (λ (j : ℕ). set_of (λ t. fact_in t j)) (sym c.in-2.is)

pub returns-in-3 : goal.returns-in-3
unfolding set_of fact_in
returns-in-3 c = c.repeated-in-3.ensures ∙ ap (λ (j : ℕ). set_of (λ t. fact_in t j)) (sym c.in-3.is)

pub returns-in-4 : goal.returns-in-4
unfolding set_of fact_in
returns-in-4 c = c.repeated-in-4.ensures ∙ ap (λ (j : ℕ). set_of (λ t. fact_in t j)) (sym c.in-4.is)

pub returns-in-5 : goal.returns-in-5
unfolding set_of fact_in
returns-in-5 c = c.repeated-in-5.ensures ∙ ap (λ (j : ℕ). set_of (λ t. fact_in t j)) (sym c.in-5.is)

pub returns-in-6 : goal.returns-in-6
unfolding set_of fact_in
returns-in-6 c = ap (λ (j : ℕ). set_of (λ t. fact_in t j)) (sym c.in-6.is)

pub returns-in_default : goal.returns-in_default
unfolding set_of fact_in
returns-in_default c = let i = c.args.i in
    let r = c.in_default.in_default-own.rest in
    let h : 2 ≤ i = past 1 i (past 0 i (omega arith) r.0.0.0.0.0.0.1) r.0.0.0.0.0.1 in
    let k : 5 ≤ i = past 4 i (past 3 i (past 2 i h r.0.0.0.0.1) r.0.0.0.1) r.0.0.1 in
    let m : 7 ≤ i = past 6 i (past 5 i k r.0.1) r.1 in
    let e : 7 ≡ i = seven i m c.requires in
    ap (λ (j : ℕ). set_of (λ t. fact_in t j)) e
