-- Progression agrees with runs: for states, and for every epistemic formula. Assumes nothing.
use Prim.Native.Nat.{ℕ}
use mathlib.Core.Path.{◌≡◌, refl, sym, ap, subst, ◌∙◌}
use mathlib.Core.Logic.{◌↔◌}
use mathlib.Core.List.{List, [], ◌∷◌, ◌++◌, Memᴰ}
use mathlib.Core.Bool.{Bool, true, not, ◌&&◌}
use Rattle.lists.specs.Lists.{every, exists, keep, nonempty}
use Rattle.lists.proofs.ListLaws.{same_test, both_true, keep_mem, mem_keep, every_mem, mem_every, exists_mem, mem_exists, exists_keep, keep_same, mem_nonempty, nonempty_mem}
use Rattle.format.specs.Syntax.{Objective, Epistemic, known, not_known, all_of, any_of, Sheet}
use Rattle.format.specs.Truth.{is_state, states, holds}
use Rattle.format.proofs.StateLaws.{listed_state, state_listed}
use Rattle.semantics.specs.Runs.{Entry, History, step, Steps, IsRun, last_from, last_state, Possible, start_states, runs, known_after, holds_after, is_possible, possible_states, occurs}
use Rattle.semantics.specs.Progression.{progress, possible_from, possible, satisfies, start_set, next_set, set_after}
use Rattle.semantics.proofs.RunLaws.{listed_run, run_listed, occurs_run, run_occurs, tested_possible, possible_tested}

module _ (sheet : Sheet) where
  -- A state is possible after a history exactly if some run with that history ends in it.
  possible_steps : (h : History) (from : List ℕ) {t : ℕ} → Memᴰ t (possible_from sheet from h)
      → (s : ℕ) × (rest : List ℕ) × Memᴰ s from × Steps sheet s h rest × (last_from s rest ≡ t)
  unfolding possible_from progress Steps last_from
  possible_steps [] from {t} m = (t, [], m, tt, refl)
  possible_steps (e ∷ h) from m =
      let a = possible_steps h (progress sheet from e) m in
      let b = keep_mem (λ t. exists (λ s. step sheet e s t) from) (states sheet) a.2 in
      let c = exists_mem (λ s. step sheet e s a.0) from b.1 in
      (c.0, a.0 ∷ a.1, c.1, (listed_state sheet b.0, c.2, a.3), a.4)

  steps_possible : (h : History) (from : List ℕ) (s : ℕ) (rest : List ℕ) → Memᴰ s from → Steps sheet s h rest
      → Memᴰ (last_from s rest) (possible_from sheet from h)
  unfolding possible_from progress Steps last_from
  steps_possible [] from s [] m p = m
  steps_possible [] from s (t ∷ rest) m p = absurd p
  steps_possible (e ∷ h) from s [] m p = absurd p
  steps_possible (e ∷ h) from s (t ∷ rest) m p =
      steps_possible h (progress sheet from e) t rest
      (mem_keep (λ t. exists (λ s. step sheet e s t) from) (states sheet) (state_listed sheet t p.0)
      (mem_exists (λ s. step sheet e s t) from m p.1))
      p.2

  pub possible_run : (h : History) {t : ℕ} → Memᴰ t (possible sheet h) → (run : List ℕ) × IsRun sheet h run × (last_state run ≡ t)
  unfolding possible start_states IsRun last_state
  possible_run h m =
      let a = possible_steps h (start_states sheet) m in
      let b = keep_mem (holds sheet.start) (states sheet) a.2 in
      (a.0 ∷ a.1, (listed_state sheet b.0, b.1, a.3), a.4)

  pub run_possible : (h : History) (run : List ℕ) → IsRun sheet h run → Memᴰ (last_state run) (possible sheet h)
  unfolding possible start_states IsRun last_state
  run_possible h [] p = absurd p
  run_possible h (s ∷ rest) p =
      steps_possible h (start_states sheet) s rest
      (mem_keep (holds sheet.start) (states sheet) (state_listed sheet s p.0) p.1)
      p.2

  -- The sets as tests: they list the possible states.
  progress_keep : (set : ℕ → Bool) (e : Entry) → progress sheet (keep set (states sheet)) e ≡ keep (next_set sheet set e) (states sheet)
  unfolding progress next_set
  progress_keep set e =
      keep_same (λ t. exists (λ s. step sheet e s t) (keep set (states sheet))) (next_set sheet set e) (states sheet)
      (λ t m. exists_keep (λ s. step sheet e s t) set (states sheet) ∙ ap (λ (b : Bool). b && exists (λ s. set s && step sheet e s t) (states sheet)) (sym (listed_state sheet m)))

  from_keep : (h : History) (set : ℕ → Bool) → possible_from sheet (keep set (states sheet)) h ≡ keep (set_after sheet set h) (states sheet)
  unfolding possible_from set_after
  from_keep [] set = refl
  from_keep (e ∷ h) set = ap (λ (ss : List ℕ). possible_from sheet ss h) (progress_keep set e) ∙ from_keep h (next_set sheet set e)

  pub possible_keep : (h : History) → possible sheet h ≡ keep (set_after sheet (start_set sheet) h) (states sheet)
  unfolding possible start_states start_set
  possible_keep h =
      ap (λ (ss : List ℕ). possible_from sheet ss h)
      (keep_same (holds sheet.start) (start_set sheet) (states sheet) (λ t m. ap (λ (b : Bool). b && holds sheet.start t) (sym (listed_state sheet m))))
      ∙ from_keep h (start_set sheet)

  -- So the method's list is that of the states still possible.
  pub method_states : (h : History) → possible sheet h ≡ possible_states sheet h
  unfolding possible_states Possible
  method_states h =
      possible_keep h ∙ keep_same (set_after sheet (start_set sheet) h) (is_possible sheet h) (states sheet) (λ t m.
      same_test (set_after sheet (start_set sheet) h t) (is_possible sheet h t)
      (λ e. possible_tested sheet h t (possible_run h (rw (possible_keep h) (mem_keep (set_after sheet (start_set sheet) h) (states sheet) m e))))
      (λ e.
      let p = tested_possible sheet h t e in
      let k : Memᴰ t (possible sheet h) = subst (λ (s : ℕ). Memᴰ s (possible sheet h)) p.2 (run_possible h p.0 p.1) in
      (keep_mem (set_after sheet (start_set sheet) h) (states sheet) (rw (possible_keep h) at k)).1))

  -- Hence what is known after a history is what holds in all possible states, and so for every epistemic formula.
  known_possible : (h : History) (f : Objective) → known_after sheet h f ≡ every (holds f) (possible sheet h)
  unfolding known_after
  known_possible h f =
      same_test (known_after sheet h f) (every (holds f) (possible sheet h))
      (λ e. mem_every (holds f) (possible sheet h) (λ s m.
      let r = possible_run h m in
      ap (holds f) (sym r.2) ∙ every_mem (λ run. holds f (last_state run)) (runs sheet h) e (run_listed sheet h r.0 r.1)))
      (λ e. mem_every (λ run. holds f (last_state run)) (runs sheet h) (λ run m. every_mem (holds f) (possible sheet h) e (run_possible h run (listed_run sheet h m))))

  pub holds_possible : (h : History) (f : Epistemic) → holds_after sheet h f ≡ satisfies (possible sheet h) f
  unfolding holds_after satisfies
  holds_possible h (known f) = known_possible h f
  holds_possible h (not_known f) = ap not (known_possible h f)
  holds_possible h (all_of f g) = rw (holds_possible h f, holds_possible h g)
  holds_possible h (any_of f g) = rw (holds_possible h f, holds_possible h g)

  -- Some run has a history exactly if some state is possible after it.
  pub occurs_possible : (h : History) → occurs sheet h ≡ nonempty (possible sheet h)
  occurs_possible h =
      same_test (occurs sheet h) (nonempty (possible sheet h))
      (λ e. let r = occurs_run sheet h e in mem_nonempty (possible sheet h) (run_possible h r.0 r.1))
      (λ e. let r = nonempty_mem (possible sheet h) e in let q = possible_run h r.1 in run_occurs sheet h q.0 q.1)

  -- One entry more is one progression more.
  from_append : (h g : History) (from : List ℕ) → possible_from sheet from (h ++ g) ≡ possible_from sheet (possible_from sheet from h) g
  unfolding possible_from
  from_append [] g from = refl
  from_append (e ∷ h) g from = from_append h g (progress sheet from e)

  pub possible_more : (h : History) (e : Entry) → possible sheet (h ++ (e ∷ [])) ≡ progress sheet (possible sheet h) e
  unfolding possible possible_from
  possible_more h e = from_append h (e ∷ []) (start_states sheet)

  -- So a state is possible behind an entry exactly if the entry leads to it from one that was possible before.
  pub possible_behind : (h : History) (e : Entry) (t : ℕ) → Possible sheet (h ++ (e ∷ [])) t ↔ ((is_state sheet t ≡ true) × ((s : ℕ) × Possible sheet h s × (step sheet e s t ≡ true)))
  unfolding Possible progress
  possible_behind h e t = (
    λ p.
        let m : Memᴰ t (possible sheet (h ++ (e ∷ []))) = subst (λ (u : ℕ). Memᴰ u (possible sheet (h ++ (e ∷ [])))) p.2 (run_possible (h ++ (e ∷ [])) p.0 p.1) in
        let k = keep_mem (λ u. exists (λ s. step sheet e s u) (possible sheet h)) (states sheet) (subst (Memᴰ t) (possible_more h e) m) in
        let x = exists_mem (λ s. step sheet e s t) (possible sheet h) k.1 in
        (listed_state sheet k.0, (x.0, possible_run h x.1, x.2)),
    λ w.
        let before : Memᴰ w.1.0 (possible sheet h) = subst (λ (u : ℕ). Memᴰ u (possible sheet h)) w.1.1.2 (run_possible h w.1.1.0 w.1.1.1) in
        possible_run (h ++ (e ∷ [])) (subst (Memᴰ t) (sym (possible_more h e))
        (mem_keep (λ u. exists (λ s. step sheet e s u) (possible sheet h)) (states sheet) (state_listed sheet t w.0) (mem_exists (λ s. step sheet e s t) (possible sheet h) before w.1.2))),
  )

  -- Only states pass these tests.
  after_states : (h : History) (set : ℕ → Bool) → ((t : ℕ) → set t ≡ true → is_state sheet t ≡ true) → (t : ℕ) → set_after sheet set h t ≡ true → is_state sheet t ≡ true
  unfolding set_after next_set
  after_states [] set k t e = k t e
  after_states (x ∷ h) set k t e =
      after_states h (next_set sheet set x) (λ u p. (both_true (is_state sheet u) (exists (λ s. set s && step sheet x s u) (states sheet)) p).0) t e

  pub set_states : (h : History) (t : ℕ) → set_after sheet (start_set sheet) h t ≡ true → is_state sheet t ≡ true
  unfolding start_set
  set_states h = after_states h (start_set sheet) (λ t e. (both_true (is_state sheet t) (holds sheet.start t) e).0)
