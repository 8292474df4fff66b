-- `verifier::least::fill_feasible` meets its contract. The loop's invariant: what is left is the path's first bytes, the feasible sets behind them are written, and the set is that behind the last of them.
-- The measure is the number of bytes that are left. Assumes nothing.
use Rattle.std.proofs.Common.{◌≡◌, ℕ, ◌+◌, ◌-◌, ◌/◌, ◌%◌, List, length, get_or, take, sym, ap, ◌∙◌, subst, arith, length-take-le, get_or-take, take-take}
use lib.Seq.{take_all}
use Rattle.verifier.specs.Least.{FeasibleFrom}
use Rattle.verifier.proofs.FeasibleLaws.{rest, rest_end, rest_before, filled_none, filled_more}
use Rattle.verifier.proofs.least.fill_feasible.Goals as goal

pub loop-rest-init : goal.loop-rest-init
loop-rest-init c = let a = c.args in
    let len = length a.path.now in
    let e = c.uniform-set.ensures ∙ rest_end a.heads.now a.sets.now a.path.now len in
    let m = filled_more a.heads.now a.sets.now a.path.now len _ _ len _ c.told-feasible (omega arith) c.requires (filled_none _ _ _ _ _) e c.put.ensures in
    (omega arith, sym (take_all _ a.path.now (omega arith)), m.0, m.1, e)

pub loop-rest-preserved : goal.loop-rest-preserved
loop-rest-preserved c = let a = c.args in
    let l = c.loop-rest in
    let len = length a.path.now in
    let n = length l.rest.now in
    let some = c.in-len1-up.len_at_least in
    let k = length (take (n - 1) l.rest.now) in
    let less : k ≡ n - 1 = length-take-le (n - 1) l.rest.now (omega arith) in
    let up : n ≡ k + 1 = omega (arith, less, some) in
    let byte : get_or l.rest.now (n - 1) 0 ≡ get_or a.path.now k 0 =
    ap (λ (xs : List ℕ). get_or xs (n - 1) 0) l.invariant.1 ∙ get_or-take n a.path.now (n - 1) 0 (omega (arith, some)) ∙ ap (λ (j : ℕ). get_or a.path.now j 0) (sym less) in
    let e = c.preimage-set.ensures
    ∙ rest_before a.heads.now a.sets.now a.path.now len k _ _ (omega (arith, up, l.invariant.0)) (ap (λ (b : ℕ). b / 8) byte) (ap (λ (b : ℕ). b % 8) byte) l.set
    (l.invariant.4 ∙ ap (rest a.heads.now a.sets.now a.path.now len) up) in
    let w = subst (λ (j : ℕ). FeasibleFrom a.heads.now a.sets.now a.path.now len j l.feasible) up l.invariant.3 in
    let m = filled_more a.heads.now a.sets.now a.path.now len l.feasible _ k _ l.invariant.2 (omega (arith, up, l.invariant.0)) c.requires w e c.put-in-len1-up.ensures in
    let front : take (n - 1) l.rest.now ≡ take k a.path.now =
    ap (take (n - 1)) l.invariant.1 ∙ take-take (n - 1) n a.path.now (omega arith) ∙ ap (λ (j : ℕ). take j a.path.now) (sym less) in
    (omega (arith, up, l.invariant.0), front, m.0, m.1, e)
