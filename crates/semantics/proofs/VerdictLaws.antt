-- What the count and the three verdicts mean. Assumes nothing.
use Prim.Native.Nat.{ℕ, ◌≤◌, ◌<◌}
use mathlib.Core.Path.{◌≡◌, refl, sym, ap, subst, ◌∙◌}
use mathlib.Core.List.{List, [], ◌∷◌, Memᴰ}
use mathlib.Core.Bool.{Bool, true, false, not}
use mathlib.Core.Logic.{◌⊎◌, inl, inr, ⊎_elim}
use native.Mathlib.Omega.{arith}
use lib.Dec.{ltb}
use lib.ListN.{length}
use borrow.Author.Tests.{not-true, ltb-true, ltb-false, le-ltb, lt-ltb}
use Rattle.lists.specs.Lists.{up_to, nonempty, Sorted, Before}
use Rattle.std.specs.Prelude.{if◌then◌else◌}
use Rattle.lists.proofs.ListLaws.{two_cases, not_both, both_true, and_both, keep_mem, mem_keep}
use Rattle.lists.proofs.OrderLaws.{sorted_keep, sorted_up_to, up_to_mem, up_to_first, mem_up_to, before_asym}
use Rattle.format.specs.Syntax.{Sheet}
use Rattle.semantics.specs.Runs.{History, replies, IsRun, holds_after, occurs}
use Rattle.semantics.specs.Routine.{routine, is_full, Following, Full, Failing}
use Rattle.semantics.specs.Verdict.{histories, HistoryBefore, fails, counted, history_count, trace, TraceBefore, valid, invalid, stopped, Outcome, failures, least_run, concluded, outcome}
use Rattle.semantics.proofs.RunLaws.{run_occurs, occurs_before, least_run_law, tested_holds, holds_tested}
use Rattle.semantics.proofs.FollowLaws.{listed_history, history_listed, histories_sorted}

-- Of two traces at most one comes before the other.
pub trace_asym : (h : History) (run : List ℕ) (g : History) (other : List ℕ) → TraceBefore h run g other → TraceBefore g other h run → ⊥
unfolding TraceBefore
trace_asym h run g other a b =
    ⊎_elim
    (λ x. ⊎_elim (λ y. before_asym (replies h) (replies g) x y) (λ y. let self : Before (replies h) (replies h) = rw y.0 at x in before_asym (replies h) (replies h) self self) b)
    (λ x. ⊎_elim (λ y. let self : Before (replies g) (replies g) = rw x.0 at y in before_asym (replies g) (replies g) self self) (λ y. before_asym run other x.1 y.1) b)
    a

module _ (sheet : Sheet) where
  -- The least failing run, of length l, as it is shown.
  abbrev pub Shown : (l : ℕ) (shown : List ℕ) → Type 0
  Shown l shown = (h : History) × (run : List ℕ) × Failing sheet h run × (length h ≡ l) × (shown ≡ trace h run)
      × ((g : History) (other : List ℕ) → Failing sheet g other → ((g ≡ h) × (other ≡ run)) ⊎ TraceBefore h run g other)

  -- Within the budget the verdict is "valid" or "invalid".
  not_stopped : (c : ℕ) (hs : List History) (b : ℕ) → (concluded sheet c hs).verdict ≡ stopped b → ⊥
  unfolding concluded
  not_stopped c [] b e = let z : ◌≡◌ {A = ℕ} 0 1 = cc in omega arith
  not_stopped c (h ∷ hs) b e = let z : ◌≡◌ {A = ℕ} 0 1 = cc in omega arith

  concluded_valid : (c : ℕ) (hs : List History) (c' : ℕ) → (concluded sheet c hs).verdict ≡ valid c' → (hs ≡ []) × (c' ≡ c)
  unfolding concluded
  concluded_valid c [] c' e = (refl, cc)
  concluded_valid c (h ∷ hs) c' e = let z : ◌≡◌ {A = ℕ} 0 1 = cc in absurd (omega arith)

  concluded_invalid : (c : ℕ) (hs : List History) (c' l : ℕ) → (concluded sheet c hs).verdict ≡ invalid c' l
      → (h : History) × (later : List History) × (hs ≡ h ∷ later) × (c' ≡ c) × (length h ≡ l)
  unfolding concluded
  concluded_invalid c [] c' l e = let z : ◌≡◌ {A = ℕ} 0 1 = cc in absurd (omega arith)
  concluded_invalid c (h ∷ hs) c' l e = (h, hs, refl, cc, cc)

  -- The test of failing tells whether a run that follows the routine is full and fails the goal.
  pub failing_fails : (h : History) (run : List ℕ) → Failing sheet h run → fails sheet h ≡ true
  unfolding Failing Full fails
  failing_fails h run f =
      and_both (is_full (routine sheet) h) (not (holds_after sheet h sheet.goal)) f.0.1
      (⊎_elim (λ (e : holds_after sheet h sheet.goal ≡ true). absurd (f.1 (tested_holds sheet h sheet.goal e))) (λ e. ap not e) (two_cases (holds_after sheet h sheet.goal)))

  pub fails_failing : (h : History) (run : List ℕ) → Following sheet h run → fails sheet h ≡ true → Failing sheet h run
  unfolding Failing Full fails
  fails_failing h run f e =
      let b = both_true (is_full (routine sheet) h) (not (holds_after sheet h sheet.goal)) e in
      ((f, b.0), λ g. not_both (holds_tested sheet h sheet.goal g) (not-true (holds_after sheet h sheet.goal) b.1))

  -- The histories of failing runs are those listed as failing.
  pub failing_listed : (h : History) (run : List ℕ) → Failing sheet h run → Memᴰ h (failures sheet)
  unfolding Failing Full failures
  failing_listed h run f = mem_keep (fails sheet) (histories sheet) (history_listed sheet h run f.0.0) (failing_fails h run f)

  pub listed_failing : occurs sheet [] ≡ true → {h : History} → Memᴰ h (failures sheet) → (run : List ℕ) × Failing sheet h run
  unfolding failures
  listed_failing starts {h} m =
      let k = keep_mem (fails sheet) (histories sheet) m in
      let q = listed_history sheet starts k.0 in
      (q.0, fails_failing h q.0 q.1 k.1)

  -- Whether a run fails is a matter of its history.
  other_failing : (h : History) (run other : List ℕ) → Failing sheet h run → IsRun sheet h other → Failing sheet h other
  unfolding Failing Full Following
  other_failing h run other f p = (((p, f.0.0.1), f.0.1), f.1)

  failing_run : (h : History) (run : List ℕ) → Failing sheet h run → IsRun sheet h run
  unfolding Failing Full Following
  failing_run h run f = f.0.0.0

  -- The first history that fails, with its first run, is the least failing run.
  first_shown : occurs sheet [] ≡ true → (h : History) (later : List History) (l c : ℕ) → failures sheet ≡ h ∷ later → length h ≡ l → Shown l (concluded sheet c (h ∷ later)).shown
  unfolding concluded failures TraceBefore Sorted
  first_shown starts h later l c e n =
      let m : Memᴰ h (failures sheet) = subst (Memᴰ h) (sym e) (mathlib.Core.List.Memᴰ.head refl) in
      let failing = listed_failing starts m in
      let least = least_run_law sheet h (run_occurs sheet h failing.0 (failing_run h failing.0 failing.1)) in
      let sorted : Sorted HistoryBefore (h ∷ later) = subst (Sorted HistoryBefore) e (sorted_keep HistoryBefore (fails sheet) (histories sheet) (histories_sorted sheet)) in (
        h,
        least_run sheet h,
        other_failing h failing.0 (least_run sheet h) failing.1 least.0,
        n,
        refl,
        λ g other f.
            ⊎_elim
            (λ (same : g ≡ h).
            ⊎_elim (λ (q : other ≡ least_run sheet h). inl (same, q)) (λ b. inr (inr (ap (λ (x : History). replies x) (sym same), b)))
            (least.1 other (subst (λ (x : History). IsRun sheet x other) same (failing_run g other f))))
            (λ k. inr (inl (sorted.0 g k)))
            (mathlib.Core.List.Memᴰ.cases_cons (subst (Memᴰ g) e (failing_listed g other f))),
      )

  -- The counted histories are the non-empty ones of runs that follow the routine before which none fails: all of them if none does.
  pub counted_means : occurs sheet [] ≡ true → (h : History) → Memᴰ h (counted sheet)
      → (nonempty h ≡ true) × ((run : List ℕ) × Following sheet h run) × ((g : History) (other : List ℕ) → Failing sheet g other → (h ≡ g) ⊎ HistoryBefore h g)
  unfolding counted failures
  counted_means starts h m =
      let k = keep_mem nonempty (up_to (fails sheet) (histories sheet)) m in (
        k.1,
        listed_history sheet starts (up_to_mem (fails sheet) (histories sheet) k.0),
        λ g other f.
            let j = keep_mem (fails sheet) (histories sheet) (failing_listed g other f) in
            up_to_first HistoryBefore (fails sheet) (histories sheet) (histories_sorted sheet) h k.0 g j.0 j.1,
      )

  pub means_counted : (h : History) (run : List ℕ) → nonempty h ≡ true → Following sheet h run
      → ((g : History) (other : List ℕ) → Failing sheet g other → (h ≡ g) ⊎ HistoryBefore h g) → Memᴰ h (counted sheet)
  unfolding counted failures Following
  means_counted h run n f k =
      let starts = occurs_before sheet [] h (run_occurs sheet h run f.0) in
      mem_keep nonempty (up_to (fails sheet) (histories sheet))
      (mem_up_to HistoryBefore (fails sheet) (λ x y a b. before_asym (replies x) (replies y) a b) (histories sheet) (histories_sorted sheet) h (history_listed sheet h run f)
      (λ g m t. let q = listed_history sheet starts m in k g q.0 (fails_failing g q.0 q.1 t)))
      n

  -- They are strictly in order, so none is counted twice.
  pub counted_sorted : Sorted HistoryBefore (counted sheet)
  unfolding counted
  counted_sorted = sorted_keep HistoryBefore nonempty (up_to (fails sheet) (histories sheet)) (sorted_up_to HistoryBefore (fails sheet) (histories sheet) (histories_sorted sheet))

  -- "stopped" is answered, with the budget, exactly if the count exceeds the budget.
  pub means_stopped : (budget : ℕ) → budget < history_count sheet → outcome sheet budget ≡ record { verdict = stopped budget; shown = [] }
  unfolding outcome
  means_stopped budget l = rw (lt-ltb budget (history_count sheet) l)

  pub within_budget : (budget : ℕ) → history_count sheet ≤ budget → outcome sheet budget ≡ concluded sheet (history_count sheet) (failures sheet)
  unfolding outcome
  within_budget budget l = rw (le-ltb budget (history_count sheet) l)

  -- The budget is exceeded or the outcome is concluded.
  abbrev OneOf : ℕ → Outcome → Type 0
  OneOf budget o = ((budget < history_count sheet) × (o ≡ record { verdict = stopped budget; shown = [] })) ⊎ ((history_count sheet ≤ budget) × (o ≡ concluded sheet (history_count sheet) (failures sheet)))

  by_budget : (budget : ℕ) → OneOf budget (outcome sheet budget)
  by_budget budget = go (ltb budget (history_count sheet)) refl
    where
      go : (t : Bool) → ltb budget (history_count sheet) ≡ t → OneOf budget (outcome sheet budget)
      go true t = let l = ltb-true budget (history_count sheet) t in inl (l, means_stopped budget l)
      go false t = let l = ltb-false budget (history_count sheet) t in inr (l, within_budget budget l)

  pub stopped_means : (budget b : ℕ) → (outcome sheet budget).verdict ≡ stopped b → (budget < history_count sheet) × (b ≡ budget)
  stopped_means budget b e = go (outcome sheet budget) e (by_budget budget)
    where
      go : (o : Outcome) → o.verdict ≡ stopped b → OneOf budget o → (budget < history_count sheet) × (b ≡ budget)
      go o k (inl p) = (p.0, let z : stopped b ≡ stopped budget = sym k ∙ ap (λ (x : Outcome). x.verdict) p.1 in cc)
      go o k (inr p) = absurd (not_stopped (history_count sheet) (failures sheet) b (sym (ap (λ (x : Outcome). x.verdict) p.1) ∙ k))

  -- "valid", with the count, is answered exactly if no full run that follows the routine fails the goal.
  pub valid_means : (budget c : ℕ) → (outcome sheet budget).verdict ≡ valid c
      → (history_count sheet ≤ budget) × (c ≡ history_count sheet) × ((h : History) (run : List ℕ) → Failing sheet h run → ⊥)
  valid_means budget c e = go (outcome sheet budget) e (by_budget budget)
    where
      go : (o : Outcome) → o.verdict ≡ valid c → OneOf budget o → (history_count sheet ≤ budget) × (c ≡ history_count sheet) × ((h : History) (run : List ℕ) → Failing sheet h run → ⊥)
      go o k (inl p) = let z : valid c ≡ stopped budget = sym k ∙ ap (λ (x : Outcome). x.verdict) p.1 in let y : ◌≡◌ {A = ℕ} 0 1 = cc in absurd (omega arith)
      go o k (inr p) =
          let q = concluded_valid (history_count sheet) (failures sheet) c (sym (ap (λ (x : Outcome). x.verdict) p.1) ∙ k) in
          (p.0, q.1, λ h run f. mathlib.Core.List.Memᴰ.not-nil (subst (Memᴰ h) q.0 (failing_listed h run f)))

  pub means_valid : occurs sheet [] ≡ true → (budget : ℕ) → history_count sheet ≤ budget → ((h : History) (run : List ℕ) → Failing sheet h run → ⊥)
      → outcome sheet budget ≡ record { verdict = valid (history_count sheet); shown = [] }
  unfolding concluded
  means_valid starts budget l none = within_budget budget l ∙ ap (concluded sheet (history_count sheet)) (go (failures sheet) refl)
    where
      go : (hs : List History) → failures sheet ≡ hs → hs ≡ []
      go [] e = refl
      go (h ∷ hs) e =
          let m : Memᴰ h (failures sheet) = subst (Memᴰ h) (sym e) (mathlib.Core.List.Memᴰ.head refl) in
          let q = listed_failing starts m in
          absurd (none h q.0 q.1)

  -- "invalid", with the count and the length, is answered exactly if some does. The trace shown is that of such a run, and every other such run's comes later.
  pub means_invalid : (budget : ℕ) → history_count sheet ≤ budget → (h : History) (run : List ℕ) → Failing sheet h run
      → (l : ℕ) × ((outcome sheet budget).verdict ≡ invalid (history_count sheet) l)
  unfolding concluded
  means_invalid budget l h run f = go (failures sheet) refl
    where
      go : (hs : List History) → failures sheet ≡ hs → (l : ℕ) × ((outcome sheet budget).verdict ≡ invalid (history_count sheet) l)
      go [] e = absurd (mathlib.Core.List.Memᴰ.not-nil (subst (Memᴰ h) e (failing_listed h run f)))
      go (g ∷ hs) e = (length g, ap (λ (x : Outcome). x.verdict) (within_budget budget l ∙ ap (concluded sheet (history_count sheet)) e))

  pub invalid_means : occurs sheet [] ≡ true → (budget c l : ℕ) → (outcome sheet budget).verdict ≡ invalid c l
      → (history_count sheet ≤ budget) × (c ≡ history_count sheet) × Shown l (outcome sheet budget).shown
  invalid_means starts budget c l e = go (outcome sheet budget) e (by_budget budget)
    where
      go : (o : Outcome) → o.verdict ≡ invalid c l → OneOf budget o → (history_count sheet ≤ budget) × (c ≡ history_count sheet) × Shown l o.shown
      go o k (inl p) = let z : invalid c l ≡ stopped budget = sym k ∙ ap (λ (x : Outcome). x.verdict) p.1 in let y : ◌≡◌ {A = ℕ} 0 1 = cc in absurd (omega arith)
      go o k (inr p) =
          let q = concluded_invalid (history_count sheet) (failures sheet) c l (sym (ap (λ (x : Outcome). x.verdict) p.1) ∙ k) in
          (p.0, q.3, rw p.1 (rw q.2 (first_shown starts q.0 q.1 l (history_count sheet) q.2 q.4)))

  -- Only "invalid" shows a trace.
  pub none_shown : (budget : ℕ)
      → (((outcome sheet budget).shown ≡ []) × ((c l : ℕ) → (outcome sheet budget).verdict ≡ invalid c l → ⊥)) ⊎ ((c : ℕ) × (l : ℕ) × ((outcome sheet budget).verdict ≡ invalid c l))
  unfolding concluded
  none_shown budget = go (outcome sheet budget) (by_budget budget)
    where
      Claim : Outcome → Type 0
      Claim o = ((o.shown ≡ []) × ((c l : ℕ) → o.verdict ≡ invalid c l → ⊥)) ⊎ ((c : ℕ) × (l : ℕ) × (o.verdict ≡ invalid c l))

      by_failures : (hs : List History) → Claim (concluded sheet (history_count sheet) hs)
      by_failures [] = inl (refl, λ c l k. let z : ◌≡◌ {A = ℕ} 0 1 = cc in omega arith)
      by_failures (h ∷ later) = inr (history_count sheet, length h, refl)

      go : (o : Outcome) → OneOf budget o → Claim o
      go o (inl p) = subst Claim (sym p.1) (inl (refl, λ c l k. let z : ◌≡◌ {A = ℕ} 0 1 = cc in omega arith))
      go o (inr p) = subst Claim (sym p.1) (by_failures (failures sheet))
