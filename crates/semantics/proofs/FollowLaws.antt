-- The listed histories are exactly those of runs that follow the routine, strictly in order; following is a function of the replies. Assumes nothing.
use Prim.Native.Nat.{ℕ, ◌+◌, ◌<◌, ◌≤◌}
use mathlib.Core.Path.{◌≡◌, refl, sym, ap, subst, ◌∙◌}
use mathlib.Core.List.Memᴰ
use mathlib.Core.List.{List, [], ◌∷◌, ◌++◌, map-append, flat_map, append-nil, append_assoc, head-eq_of_cons-eq, tail-eq_of_cons-eq, Memᴰ}
use mathlib.Core.Bool.{Bool, true, false}
use mathlib.Core.Logic.{◌⊎◌, inl, inr, ⊎_elim}
use native.Mathlib.Omega.{arith}
use lib.Dec.{eqb}
use lib.ListN.{length}
use borrow.Author.Tests.{eqb-true, eq-eqb}
use Rattle.lists.specs.Lists.{keep, below, Sorted, Before}
use Rattle.std.specs.Prelude.{if◌then◌else◌}
use Rattle.lists.proofs.ListLaws.{two_cases, not_both, both_true, keep_mem, mem_keep, flat_mem, mem_flat, mem_up_from}
use Rattle.lists.proofs.OrderLaws.{sorted_flat, sorted_keep, sorted_up_from, before_behind}
use Rattle.format.specs.Syntax.{Epistemic, Program, end, act, branch, action_nodes, reply_count, Sheet, action_of}
use Rattle.semantics.specs.Runs.{Entry, entry, History, extended, replies, Holds, holds_after, occurs}
use Rattle.semantics.specs.Routine.{Policy, done, perform, policy, routine, Follows, follows, is_full, Following}
use Rattle.semantics.specs.Verdict.{histories_from, histories, HistoryBefore}
use Rattle.semantics.proofs.RunLaws.{occurs_run, run_occurs, occurs_before, Replied, run_replied, tested_holds, holds_tested}

-- The order of histories looks past a common beginning.
history_behind : (h g g' : History) → HistoryBefore g g' → HistoryBefore (h ++ g) (h ++ g')
history_behind h g g' b = rw (map-append (λ (e : Entry). e.reply) h g, map-append (λ (e : Entry). e.reply) h g') (before_behind (replies h) (replies g) (replies g') b)

-- The test of following tells whether a history follows.
pub tested_follows : (p : Policy) (h : History) → follows p h ≡ true → Follows p h
unfolding follows Follows
tested_follows done [] t = tt
tested_follows done (e ∷ h) t = not_both t refl
tested_follows (perform a after) [] t = tt
tested_follows (perform a after) (e ∷ h) t =
    let b = both_true (eqb e.action a) (follows (after e.reply) h) t in
    (eqb-true e.action a b.0, tested_follows (after e.reply) h b.1)

pub follows_tested : (p : Policy) (h : History) → Follows p h → follows p h ≡ true
unfolding follows Follows
follows_tested done [] f = refl
follows_tested done (e ∷ h) f = absurd f
follows_tested (perform a after) [] f = refl
follows_tested (perform a after) (e ∷ h) f = rw (eq-eqb e.action a f.0) (follows_tested (after e.reply) h f.1)

-- Two histories that follow and have the same replies are the same.
pub follows_unique : (p : Policy) (h g : History) → Follows p h → Follows p g → replies h ≡ replies g → h ≡ g
unfolding Follows
follows_unique p [] [] f k e = refl
follows_unique p [] (d ∷ g) f k e = let z : ◌≡◌ {A = ℕ} 0 1 = cc in absurd (omega arith)
follows_unique p (c ∷ h) [] f k e = let z : ◌≡◌ {A = ℕ} 0 1 = cc in absurd (omega arith)
follows_unique done (c ∷ h) (d ∷ g) f k e = absurd f
follows_unique (perform a after) (c ∷ h) (d ∷ g) f k e =
    let r : c.reply ≡ d.reply = head-eq_of_cons-eq e in
    let x : c.action ≡ d.action = f.0 ∙ sym k.0 in
    let same : c ≡ d = λ i. record { action = x i; reply = r i } in
    let rest = follows_unique (after c.reply) h g f.1 (rw (← r) at k.1) (tail-eq_of_cons-eq e) in
    λ i. same i ∷ rest i

-- A full history that follows has no longer one that does.
pub full_last : (p : Policy) (h : History) (e : Entry) (g : History) → is_full p h ≡ true → Follows p (h ++ (e ∷ g)) → ⊥
unfolding is_full Follows
full_last done [] e g t f = f
full_last done (d ∷ h) e g t f = f
full_last (perform a after) [] e g t f = not_both t refl
full_last (perform a after) (d ∷ h) e g t f = full_last (after d.reply) h e g t f.1

module _ (sheet : Sheet) where
  -- A reply with which a history goes on is one of its action's.
  replied_last : (h : History) (a r : ℕ) → Replied sheet (extended h a r) → r < reply_count (action_of sheet a)
  unfolding Replied
  replied_last [] a r p = p.0
  replied_last (e ∷ h) a r p = replied_last h a r p.1

  pub occurs_reply : (h : History) (a r : ℕ) → occurs sheet (extended h a r) ≡ true → r < reply_count (action_of sheet a)
  occurs_reply h a r o = let w = occurs_run sheet (extended h a r) o in replied_last h a r (run_replied sheet (extended h a r) w.0 w.1)

  -- The replies with which a history goes on, and what is listed behind one of them.
  abbrev going_on : (a : ℕ) → History → List ℕ
  going_on a h = keep (λ r. occurs sheet (extended h a r)) (below (reply_count (action_of sheet a)))

  abbrev behind_reply : (ℕ → Policy) → ℕ → History → ℕ → List History
  behind_reply after a h r = histories_from sheet (after r) (extended h a r)

  -- Each listed history follows and is one of a run.
  listed_follows : (p : Policy) (h : History) {v : History} → Memᴰ v (histories_from sheet p h)
      → (g : History) × (v ≡ h ++ g) × Follows p g × (occurs sheet h ≡ true → occurs sheet v ≡ true)
  unfolding histories_from Follows
  listed_follows done h {v} m =
      let e : v ≡ h = Memᴰ.eq_of_singleton m in
      ([], e ∙ sym (append-nil h), tt, λ o. rw e o)
  listed_follows (perform a after) h {v} m = go (λ r k. listed_follows (after r) (extended h a r) k) (Memᴰ.cases_cons m)
    where
      Claim : Type 0
      Claim = (g : History) × (v ≡ h ++ g) × Follows (perform a after) g × (occurs sheet h ≡ true → occurs sheet v ≡ true)

      go : ((r : ℕ) → Memᴰ v (behind_reply after a h r) → (g : History) × (v ≡ extended h a r ++ g) × Follows (after r) g × (occurs sheet (extended h a r) ≡ true → occurs sheet v ≡ true))
          → (v ≡ h) ⊎ Memᴰ v (flat_map (behind_reply after a h) (going_on a h)) → Claim
      go deeper (inl e) = ([], e ∙ sym (append-nil h), tt, λ o. rw e o)
      go deeper (inr k) =
          let f = flat_mem (behind_reply after a h) (going_on a h) k in
          let c = keep_mem (λ r. occurs sheet (extended h a r)) (below (reply_count (action_of sheet a))) f.1 in
          let q = deeper f.0 f.2 in
          (entry a f.0 ∷ q.0, q.1 ∙ append_assoc h _ _, (refl, q.2), λ o. q.3 c.1)

  -- Each history that follows and is one of a run is listed.
  follows_listed : (p : Policy) (h g : History) → Follows p g → occurs sheet (h ++ g) ≡ true → Memᴰ (h ++ g) (histories_from sheet p h)
  unfolding histories_from Follows
  follows_listed done h [] q o = Memᴰ.head (append-nil h)
  follows_listed done h (e ∷ g) q o = absurd q
  follows_listed (perform a after) h [] q o = Memᴰ.head (append-nil h)
  follows_listed (perform a after) h (e ∷ g) q o =
      let same : e ≡ entry a e.reply = λ i. record { action = q.0 i; reply = e.reply } in
      let whole : h ++ (e ∷ g) ≡ extended h a e.reply ++ g = ap (λ (x : Entry). h ++ (x ∷ g)) same ∙ sym (append_assoc h _ g) in
      let o' : occurs sheet (extended h a e.reply ++ g) ≡ true = rw whole at o in
      let now : occurs sheet (extended h a e.reply) ≡ true = occurs_before sheet (extended h a e.reply) g o' in
      let k = follows_listed (after e.reply) (extended h a e.reply) g q.1 o' in
      Memᴰ.tail (mem_flat (behind_reply after a h) (going_on a h)
      (mem_keep (λ r. occurs sheet (extended h a r)) (below (reply_count (action_of sheet a)))
      (mem_up_from 0 (reply_count (action_of sheet a)) e.reply (omega arith) (omega (arith, occurs_reply h a e.reply now))) now)
      (subst (λ (x : History). Memᴰ x (behind_reply after a h e.reply)) (sym whole) k))

  -- The listed histories are strictly in order, so none is listed twice.
  from_sorted : (p : Policy) (h : History) → Sorted HistoryBefore (histories_from sheet p h)
  unfolding histories_from Sorted Before
  from_sorted done h = (λ w m. absurd (Memᴰ.not-nil m), tt)
  from_sorted (perform a after) h = (
    λ w m.
        let f = flat_mem (behind_reply after a h) (going_on a h) m in
        let q = behind_history f.0 f.2 in
        rw q.1 (head_before f.0 q.0),
    sorted_flat ◌<◌ HistoryBefore (behind_reply after a h) (going_on a h)
        (sorted_keep ◌<◌ (λ r. occurs sheet (extended h a r)) (below (reply_count (action_of sheet a))) (sorted_up_from 0 (reply_count (action_of sheet a))))
        (λ r. from_sorted (after r) (extended h a r))
        (λ r r' l v w m k.
        let q = behind_history r m in
        let q' = behind_history r' k in
        rw (q.1, q'.1) (reply_before r r' l q.0 q'.0)),
  )
    where
      behind_history : (r : ℕ) {v : History} → Memᴰ v (behind_reply after a h r) → (g : History) × (v ≡ h ++ (entry a r ∷ g))
      behind_history r m = let q = listed_follows (after r) (extended h a r) m in (q.0, q.1 ∙ append_assoc h _ _)

      head_before : (r : ℕ) (g : History) → HistoryBefore h (h ++ (entry a r ∷ g))
      head_before r g = subst (λ (x : History). HistoryBefore x (h ++ (entry a r ∷ g))) (append-nil h) (history_behind h [] (entry a r ∷ g) tt)

      reply_before : (r r' : ℕ) → r < r' → (g g' : History) → HistoryBefore (h ++ (entry a r ∷ g)) (h ++ (entry a r' ∷ g'))
      reply_before r r' l g g' = history_behind h (entry a r ∷ g) (entry a r' ∷ g') (inl l)

  -- The listed histories are those of the runs that follow the routine, if there is a run.
  pub listed_history : occurs sheet [] ≡ true → {h : History} → Memᴰ h (histories sheet) → (run : List ℕ) × Following sheet h run
  unfolding histories Following
  listed_history starts {h} m =
      let q = listed_follows (routine sheet) [] m in
      let w = occurs_run sheet h (q.3 starts) in
      (w.0, (w.1, subst (Follows (routine sheet)) (sym q.1) q.2))

  pub history_listed : (h : History) (run : List ℕ) → Following sheet h run → Memᴰ h (histories sheet)
  unfolding histories Following
  history_listed h run f = follows_listed (routine sheet) [] h f.1 (run_occurs sheet h run f.0)

  pub histories_sorted : Sorted HistoryBefore (histories sheet)
  unfolding histories
  histories_sorted = from_sorted (routine sheet) []

  -- A branch goes to its then-program if its condition holds, else to its else-program, and afterwards to its rest.
  module _ (f : Epistemic) (p q rest : Program) (onward : History → Policy) (h : History) where
    abbrev side : Bool → Policy
    side b = if b then policy sheet p (policy sheet rest onward) h else policy sheet q (policy sheet rest onward) h

    pub branch_else : (Holds sheet h f → ⊥) → policy sheet (branch f p q rest) onward h ≡ policy sheet q (policy sheet rest onward) h
    unfolding policy
    branch_else k = ap side (⊎_elim (λ (e : holds_after sheet h f ≡ true). absurd (k (tested_holds sheet h f e))) (λ e. e) (two_cases (holds_after sheet h f)))

    pub branch_then : Holds sheet h f → policy sheet (branch f p q rest) onward h ≡ policy sheet p (policy sheet rest onward) h
    unfolding policy
    branch_then k = ap side (holds_tested sheet h f k)

    -- What holds of both sides holds of the branch.
    pub branch_either : (P : Policy → Type 0) → P (policy sheet p (policy sheet rest onward) h) → P (policy sheet q (policy sheet rest onward) h) → P (policy sheet (branch f p q rest) onward h)
    branch_either P x y =
        ⊎_elim (λ e. subst P (sym (branch_then (tested_holds sheet h f e))) x) (λ (e : holds_after sheet h f ≡ false). subst P (sym (branch_else (λ k. not_both (holds_tested sheet h f k) e))) y)
        (two_cases (holds_after sheet h f))

  -- A history that follows a program is no longer than its action nodes and what comes behind it.
  follows_length : (p : Program) (onward : History → Policy) (n : ℕ) → ((h g : History) → Follows (onward h) g → length g ≤ n)
      → (h g : History) → Follows (policy sheet p onward h) g → length g ≤ action_nodes p + n
  unfolding policy Follows action_nodes
  follows_length end onward n k h g f = let l = k h g f in omega arith
  follows_length (act a rest) onward n k h [] f = omega arith
  follows_length (act a rest) onward n k h (e ∷ g) f = let d = follows_length rest onward n k (extended h a e.reply) g f.1 in omega arith
  follows_length (branch c p q rest) onward n k h g f =
      let tail : ((d e : History) → Follows (policy sheet rest onward d) e → length e ≤ action_nodes rest + n) = follows_length rest onward n k in
      branch_either c p q rest onward h (λ (w : Policy). Follows w g → length g ≤ action_nodes p + action_nodes q + action_nodes rest + n)
      (λ i. omega (arith, follows_length p (policy sheet rest onward) (action_nodes rest + n) tail h g i))
      (λ i. omega (arith, follows_length q (policy sheet rest onward) (action_nodes rest + n) tail h g i))
      f

  none_left : (h g : History) → Follows done g → length g ≤ 0
  unfolding Follows
  none_left h [] f = omega arith
  none_left h (e ∷ g) f = absurd f

  -- A history that follows the routine has at most as many entries as the program has action nodes.
  pub routine_length : (h : History) → Follows (routine sheet) h → length h ≤ action_nodes sheet.program
  unfolding routine
  routine_length h f = let l = follows_length sheet.program (λ h. done) 0 none_left [] h f in omega arith
