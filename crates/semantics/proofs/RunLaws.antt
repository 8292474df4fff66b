-- The enumerated runs are exactly the runs, in order; what is known, read off them, is what is known. Assumes nothing.
use Prim.Native.Nat.{ℕ, ◌<◌}
use mathlib.Core.Path.{◌≡◌, refl, sym, ap, subst, ◌∙◌}
use mathlib.Core.Logic.{◌⊎◌, inl, inr, ⊎_elim}
use mathlib.Core.List.Memᴰ
use mathlib.Core.List.{List, [], ◌∷◌, ◌++◌, flat_map, head_d, Memᴰ}
use mathlib.Core.Bool.{true, false, not, ◌&&◌}
use lib.Dec.{eqb}
use borrow.Author.Tests.{not-true, eqb-true, eq-eqb}
use Rattle.lists.specs.Lists.{Sorted, Before}
use Rattle.lists.proofs.ListLaws.{two_cases, not_both, both_true, and_both, one_true, or_left, or_right, keep_mem, mem_keep, every_mem, mem_every, exists_mem, mem_exists, flat_mem, mem_flat, mem_nonempty, nonempty_mem}
use Rattle.lists.proofs.OrderLaws.{sorted_keep, sorted_flat, sorted_map}
use Rattle.format.specs.Syntax.{Objective, Epistemic, known, not_known, all_of, any_of, reply_count, Sheet, action_of}
use Rattle.format.specs.Truth.{is_state, states, holds, moves, reply_holds, allowed}
use Rattle.format.proofs.StateLaws.{listed_state, state_listed, states_sorted, reply_exists}
use Rattle.semantics.specs.Runs.{History, step, Steps, IsRun, last_from, last_state, Known, Possible, Holds, start_states, next_states, runs_from, runs, known_after, holds_after, is_possible, possible_states, occurs, is_steps, is_run}
use Rattle.semantics.specs.Verdict.{least_run}

-- Every reply of a history is one of its action's.
unfoldable pub Replied : Sheet → History → Type 0
Replied sheet [] = Unit {0}
Replied sheet (e ∷ h) = (e.reply < reply_count (action_of sheet e.action)) × Replied sheet h

module _ (sheet : Sheet) where
  -- Membership in the enumeration is being a run.
  listed_steps : (h : History) (s : ℕ) {run : List ℕ} → Memᴰ run (runs_from sheet s h) → (rest : List ℕ) × (run ≡ s ∷ rest) × Steps sheet s h rest
  unfolding runs_from next_states Steps
  listed_steps [] s m = ([], Memᴰ.eq_of_singleton m, tt)
  listed_steps (e ∷ h) s m =
      let a = Memᴰ.of_map (λ run. s ∷ run) (flat_map (λ t. runs_from sheet t h) (next_states sheet e s)) m in
      let b = flat_mem (λ t. runs_from sheet t h) (next_states sheet e s) a.1 in
      let c = keep_mem (step sheet e s) (states sheet) b.1 in
      let d = listed_steps h b.0 b.2 in
      (b.0 ∷ d.0, sym a.2 ∙ ap (λ (l : List ℕ). s ∷ l) d.1, (listed_state sheet c.0, c.1, d.2))

  steps_listed : (h : History) (s : ℕ) (rest : List ℕ) → Steps sheet s h rest → Memᴰ (s ∷ rest) (runs_from sheet s h)
  unfolding runs_from next_states Steps
  steps_listed [] s [] p = Memᴰ.head refl
  steps_listed [] s (t ∷ rest) p = absurd p
  steps_listed (e ∷ h) s [] p = absurd p
  steps_listed (e ∷ h) s (t ∷ rest) p =
      Memᴰ.map (λ run. s ∷ run)
      (mem_flat (λ t. runs_from sheet t h) (next_states sheet e s)
      (mem_keep (step sheet e s) (states sheet) (state_listed sheet t p.0) p.1)
      (steps_listed h t rest p.2))

  pub listed_run : (h : History) {run : List ℕ} → Memᴰ run (runs sheet h) → IsRun sheet h run
  unfolding runs start_states IsRun
  listed_run h m =
      let a = flat_mem (λ s. runs_from sheet s h) (start_states sheet) m in
      let b = keep_mem (holds sheet.start) (states sheet) a.1 in
      let c = listed_steps h a.0 a.2 in
      subst (IsRun sheet h) (sym c.1) (listed_state sheet b.0, b.1, c.2)

  pub run_listed : (h : History) (run : List ℕ) → IsRun sheet h run → Memᴰ run (runs sheet h)
  unfolding runs start_states IsRun
  run_listed h [] p = absurd p
  run_listed h (s ∷ rest) p =
      mem_flat (λ s. runs_from sheet s h) (start_states sheet)
      (mem_keep (holds sheet.start) (states sheet) (state_listed sheet s p.0) p.1)
      (steps_listed h s rest p.2)

  -- A history occurs exactly if it has a run.
  pub occurs_run : (h : History) → occurs sheet h ≡ true → (run : List ℕ) × IsRun sheet h run
  unfolding occurs
  occurs_run h e = let r = nonempty_mem (runs sheet h) e in (r.0, listed_run h r.1)

  pub run_occurs : (h : History) (run : List ℕ) → IsRun sheet h run → occurs sheet h ≡ true
  unfolding occurs
  run_occurs h run p = mem_nonempty (runs sheet h) (run_listed h run p)

  -- So has each history that it begins with; and its replies are replies of its actions.
  steps_before : (s : ℕ) (h g : History) (rest : List ℕ) → Steps sheet s (h ++ g) rest → (part : List ℕ) × Steps sheet s h part
  unfolding Steps
  steps_before s [] g rest p = ([], tt)
  steps_before s (e ∷ h) g [] p = absurd p
  steps_before s (e ∷ h) g (t ∷ rest) p = let q = steps_before t h g rest p.2 in (t ∷ q.0, (p.0, p.1, q.1))

  pub occurs_before : (h g : History) → occurs sheet (h ++ g) ≡ true → occurs sheet h ≡ true
  unfolding IsRun
  occurs_before h g o = go (occurs_run (h ++ g) o).0 (occurs_run (h ++ g) o).1
    where
      go : (run : List ℕ) → IsRun sheet (h ++ g) run → occurs sheet h ≡ true
      go [] p = absurd p
      go (s ∷ rest) p = let q = steps_before s h g rest p.2 in run_occurs h (s ∷ q.0) (p.0, p.1, q.1)

  steps_replies : (s : ℕ) (h : History) (rest : List ℕ) → Steps sheet s h rest → Replied sheet h
  unfolding Steps Replied step allowed
  steps_replies s [] rest p = tt
  steps_replies s (e ∷ h) [] p = absurd p
  steps_replies s (e ∷ h) (t ∷ rest) p =
      let a = action_of sheet e.action in
      (reply_exists a e.reply t (both_true (moves a s t) (reply_holds a e.reply t) p.1).1, steps_replies t h rest p.2)

  pub run_replied : (h : History) (run : List ℕ) → IsRun sheet h run → Replied sheet h
  unfolding IsRun
  run_replied h [] p = absurd p
  run_replied h (s ∷ rest) p = steps_replies s h rest p.2

  -- The runs with one history are in the order of their states, so the first is the least.
  from_sorted : (h : History) (s : ℕ) → Sorted Before (runs_from sheet s h)
  unfolding runs_from next_states Sorted Before
  from_sorted [] s = (λ y m. absurd (Memᴰ.not-nil m), tt)
  from_sorted (e ∷ h) s =
      sorted_map Before Before (λ run. s ∷ run) (λ a b l. inr (refl, l)) (flat_map (λ t. runs_from sheet t h) (next_states sheet e s))
      (sorted_flat ◌<◌ Before (λ t. runs_from sheet t h) (next_states sheet e s)
      (sorted_keep ◌<◌ (step sheet e s) (states sheet) (states_sorted sheet))
      (λ t. from_sorted h t)
      (λ t u l x y m k. rw ((listed_steps h t m).1, (listed_steps h u k).1) (inl l)))

  pub runs_sorted : (h : History) → Sorted Before (runs sheet h)
  unfolding runs start_states Before
  runs_sorted h =
      sorted_flat ◌<◌ Before (λ t. runs_from sheet t h) (start_states sheet)
      (sorted_keep ◌<◌ (holds sheet.start) (states sheet) (states_sorted sheet))
      (λ t. from_sorted h t)
      (λ t u l x y m k. rw ((listed_steps h t m).1, (listed_steps h u k).1) (inl l))

  pub least_run_law : (h : History) → occurs sheet h ≡ true
      → IsRun sheet h (least_run sheet h) × ((other : List ℕ) → IsRun sheet h other → (other ≡ least_run sheet h) ⊎ Before (least_run sheet h) other)
  unfolding least_run Sorted
  least_run_law h o = go (runs sheet h) refl
    where
      go : (rs : List (List ℕ)) → runs sheet h ≡ rs → IsRun sheet h (head_d rs []) × ((other : List ℕ) → IsRun sheet h other → (other ≡ head_d rs []) ⊎ Before (head_d rs []) other)
      go [] e = let r = occurs_run h o in absurd (Memᴰ.not-nil (subst (Memᴰ r.0) e (run_listed h r.0 r.1)))
      go (r ∷ rs) e =
          let s : Sorted Before (r ∷ rs) = subst (Sorted Before) e (runs_sorted h) in (
            listed_run h (subst (Memᴰ r) (sym e) (Memᴰ.head refl)),
            λ other p. ⊎_elim (λ (q : other ≡ r). inl q) (λ k. inr (s.0 other k)) (Memᴰ.cases_cons (subst (Memᴰ other) e (run_listed h other p))),
          )

  -- The test of an epistemic formula tells whether it holds: "known" exactly if the formula is true at the end of every run with the history.
  known_tested : (h : History) (f : Objective) → Known sheet h f → known_after sheet h f ≡ true
  unfolding known_after Known
  known_tested h f k = mem_every (λ run. holds f (last_state run)) (runs sheet h) (λ run m. k run (listed_run h m))

  tested_known : (h : History) (f : Objective) → known_after sheet h f ≡ true → Known sheet h f
  unfolding known_after Known
  tested_known h f e run p = every_mem (λ run. holds f (last_state run)) (runs sheet h) e (run_listed h run p)

  pub tested_holds : (h : History) (f : Epistemic) → holds_after sheet h f ≡ true → Holds sheet h f
  unfolding holds_after Holds
  tested_holds h (known f) e = tested_known h f e
  tested_holds h (not_known f) e = λ k. not_both (known_tested h f k) (not-true (known_after sheet h f) e)
  tested_holds h (all_of f g) e = let b = both_true (holds_after sheet h f) (holds_after sheet h g) e in (tested_holds h f b.0, tested_holds h g b.1)
  tested_holds h (any_of f g) e = ⊎_elim (λ a. inl (tested_holds h f a)) (λ b. inr (tested_holds h g b)) (one_true (holds_after sheet h f) (holds_after sheet h g) e)

  pub holds_tested : (h : History) (f : Epistemic) → Holds sheet h f → holds_after sheet h f ≡ true
  unfolding holds_after Holds
  holds_tested h (known f) k = known_tested h f k
  holds_tested h (not_known f) k =
      ⊎_elim (λ (e : known_after sheet h f ≡ true). absurd (k (tested_known h f e))) (λ (e : known_after sheet h f ≡ false). ap not e) (two_cases (known_after sheet h f))
  holds_tested h (all_of f g) k = and_both (holds_after sheet h f) (holds_after sheet h g) (holds_tested h f k.0) (holds_tested h g k.1)
  holds_tested h (any_of f g) k =
      ⊎_elim (λ a. or_left (holds_after sheet h f) (holds_after sheet h g) (holds_tested h f a)) (λ b. or_right (holds_after sheet h f) (holds_after sheet h g) (holds_tested h g b)) k

  -- The last state of a run is a state.
  steps_last : (s : ℕ) (h : History) (rest : List ℕ) → is_state sheet s ≡ true → Steps sheet s h rest → is_state sheet (last_from s rest) ≡ true
  unfolding Steps last_from
  steps_last s [] [] i p = i
  steps_last s [] (t ∷ rest) i p = absurd p
  steps_last s (e ∷ h) [] i p = absurd p
  steps_last s (e ∷ h) (t ∷ rest) i p = steps_last t h rest p.0 p.2

  pub run_last : (h : History) (run : List ℕ) → IsRun sheet h run → is_state sheet (last_state run) ≡ true
  unfolding IsRun last_state
  run_last h [] p = absurd p
  run_last h (s ∷ rest) p = steps_last s h rest p.0 p.2

  -- So is each.
  steps_states : (s : ℕ) (h : History) (rest : List ℕ) → Steps sheet s h rest → (t : ℕ) → Memᴰ t rest → is_state sheet t ≡ true
  unfolding Steps
  steps_states s [] [] p t m = absurd (Memᴰ.not-nil m)
  steps_states s [] (u ∷ rest) p t m = absurd p
  steps_states s (e ∷ h) [] p t m = absurd p
  steps_states s (e ∷ h) (u ∷ rest) p t m = ⊎_elim (λ (k : t ≡ u). ap (is_state sheet) k ∙ p.0) (λ k. steps_states u h rest p.2 t k) (Memᴰ.cases_cons m)

  pub run_states : (h : History) (run : List ℕ) → IsRun sheet h run → (t : ℕ) → Memᴰ t run → is_state sheet t ≡ true
  unfolding IsRun
  run_states h [] p t m = absurd p
  run_states h (s ∷ rest) p t m = ⊎_elim (λ (k : t ≡ s). ap (is_state sheet) k ∙ p.0) (λ k. steps_states s h rest p.2 t k) (Memᴰ.cases_cons m)

  -- The test of a state tells whether it is still possible; the list has just these states, strictly in order, so none of them twice.
  pub tested_possible : (h : History) (t : ℕ) → is_possible sheet h t ≡ true → Possible sheet h t
  unfolding is_possible Possible
  tested_possible h t e =
      let x = exists_mem (λ run. eqb (last_state run) t) (runs sheet h) e in
      (x.0, listed_run h x.1, eqb-true (last_state x.0) t x.2)

  pub possible_tested : (h : History) (t : ℕ) → Possible sheet h t → is_possible sheet h t ≡ true
  unfolding is_possible Possible
  possible_tested h t p = mem_exists (λ run. eqb (last_state run) t) (runs sheet h) (run_listed h p.0 p.1) (eq-eqb (last_state p.0) t p.2)

  pub listed_possible : (h : History) {t : ℕ} → Memᴰ t (possible_states sheet h) → Possible sheet h t
  unfolding possible_states
  listed_possible h {t} m = tested_possible h t (keep_mem (is_possible sheet h) (states sheet) m).1

  pub possible_listed : (h : History) (t : ℕ) → Possible sheet h t → Memᴰ t (possible_states sheet h)
  unfolding possible_states Possible
  possible_listed h t p =
      mem_keep (is_possible sheet h) (states sheet) (state_listed sheet t (ap (is_state sheet) (sym p.2) ∙ run_last h p.0 p.1)) (possible_tested h t p)

  pub possible_sorted : (h : History) → Sorted ◌<◌ (possible_states sheet h)
  unfolding possible_states
  possible_sorted h = sorted_keep ◌<◌ (is_possible sheet h) (states sheet) (states_sorted sheet)

  -- The test of a run tells whether a list of states is one.
  tested_steps : (s : ℕ) (h : History) (rest : List ℕ) → is_steps sheet s h rest ≡ true → Steps sheet s h rest
  unfolding is_steps Steps
  tested_steps s [] [] e = tt
  tested_steps s [] (t ∷ rest) e = not_both e refl
  tested_steps s (x ∷ h) [] e = not_both e refl
  tested_steps s (x ∷ h) (t ∷ rest) e =
      let a = both_true (is_state sheet t && step sheet x s t) (is_steps sheet t h rest) e in
      let b = both_true (is_state sheet t) (step sheet x s t) a.0 in
      (b.0, b.1, tested_steps t h rest a.1)

  steps_tested : (s : ℕ) (h : History) (rest : List ℕ) → Steps sheet s h rest → is_steps sheet s h rest ≡ true
  unfolding is_steps Steps
  steps_tested s [] [] p = refl
  steps_tested s [] (t ∷ rest) p = absurd p
  steps_tested s (x ∷ h) [] p = absurd p
  steps_tested s (x ∷ h) (t ∷ rest) p = rw (p.0, p.1) (steps_tested t h rest p.2)

  pub tested_run : (h : History) (run : List ℕ) → is_run sheet h run ≡ true → IsRun sheet h run
  unfolding is_run IsRun
  tested_run h [] e = not_both e refl
  tested_run h (s ∷ rest) e =
      let a = both_true (is_state sheet s && holds sheet.start s) (is_steps sheet s h rest) e in
      let b = both_true (is_state sheet s) (holds sheet.start s) a.0 in
      (b.0, b.1, tested_steps s h rest a.1)

  pub run_tested : (h : History) (run : List ℕ) → IsRun sheet h run → is_run sheet h run ≡ true
  unfolding is_run IsRun
  run_tested h [] p = absurd p
  run_tested h (s ∷ rest) p = rw (p.0, p.1) (steps_tested s h rest p.2)
