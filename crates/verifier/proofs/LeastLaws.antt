-- The least run over the tables of a sheet is the first of the runs with the history. Assumes nothing.
use Rattle.std.proofs.Common.{◌≡◌, ℕ, ◌<◌, ◌≤◌, Bool, true, false, ◌&&◌, ◌||◌, ltb, List, [], ◌∷◌, ◌++◌, map, length, sym, refl, ap, ◌∙◌, arith, ltb-false, ltb-true}
use mathlib.Core.List.{flat_map, head_d, Memᴰ}
use lib.ListN.{get_or-eq_default}
use Rattle.lists.specs.Lists.{below, exists, keep, nonempty}
use Rattle.std.specs.Prelude.{if◌then◌else◌}
use Rattle.lists.proofs.ListLaws.{same_test, not_both, both_true, and_both, exists_mem, mem_exists, exists_keep, keep_same, keep_mem, keep_within, up_from_mem, mem_up_from, head_append, none_append, some_flat, some_map, head_map, keep_keep}
use Rattle.states.specs.declared.States.{States}
use Rattle.states.specs.Sets.{member, set_of, members, least_of}
use Rattle.states.proofs.SetLaws.{member_set_of, members_set_of}
use Rattle.format.specs.Syntax.{probe, reply_count, Sheet, action_of}
use Rattle.format.specs.Truth.{is_state, states, holds}
use Rattle.format.proofs.StateLaws.{listed_state, state_listed, state_byte, states_bytes}
use Rattle.semantics.specs.Runs.{Entry, History, step, start_states, next_states, runs_from, runs, occurs}
use Rattle.semantics.specs.Verdict.{least_run}
use Rattle.semantics.proofs.RunLaws.{Replied, occurs_run, run_replied}
use Rattle.routine.specs.Tables.{sheet_start}
use Rattle.routine.proofs.TableLaws.{Tabled}
use Rattle.progression.proofs.StepLaws.{single_set}
use Rattle.verifier.specs.Least.{after, preimage, feasible, least_on, least_states}

-- The first element of lists laid end to end is that of the first that has one.
head_flat : {B : Type 0} (f : ℕ → List B) (d : B) (xs : List ℕ) → exists (λ x. nonempty (f x)) xs ≡ true
    → head_d (flat_map f xs) d ≡ head_d (f (least_of (keep (λ x. nonempty (f x)) xs))) d
unfolding flat_map exists keep least_of
head_flat f d [] e = not_both e refl
head_flat f d (x ∷ xs) e = go (nonempty (f x)) refl e (λ k. head_flat f d xs k)
  where
    go : (b : Bool) → nonempty (f x) ≡ b → b || exists (λ y. nonempty (f y)) xs ≡ true
        → (exists (λ y. nonempty (f y)) xs ≡ true → head_d (flat_map f xs) d ≡ head_d (f (least_of (keep (λ y. nonempty (f y)) xs))) d)
        → head_d (f x ++ flat_map f xs) d ≡ head_d (f (least_of (if b then x ∷ keep (λ y. nonempty (f y)) xs else keep (λ y. nonempty (f y)) xs))) d
    go true p q deeper = head_append d (f x) (flat_map f xs) p
    go false p q deeper = ap (λ (zs : List _). head_d zs d) (none_append (f x) (flat_map f xs) p) ∙ deeper q

-- The first that passes a test passes it, if one does.
first_passes : (test : ℕ → Bool) (xs : List ℕ) → exists test xs ≡ true → Memᴰ (least_of (keep test xs)) (keep test xs)
unfolding exists keep least_of
first_passes test [] e = not_both e refl
first_passes test (x ∷ xs) e = go (test x) e (λ k. first_passes test xs k)
  where
    go : (b : Bool) → b || exists test xs ≡ true → (exists test xs ≡ true → Memᴰ (least_of (keep test xs)) (keep test xs))
        → Memᴰ (least_of (if b then x ∷ keep test xs else keep test xs)) (if b then x ∷ keep test xs else keep test xs)
    go true q deeper = Memᴰ.head refl
    go false q deeper = deeper q

-- Only an action of the sheet has replies.
known_action : (sheet : Sheet) (a r : ℕ) → r < reply_count (action_of sheet a) → a < length sheet.actions
unfolding action_of reply_count
known_action sheet a r l = go (ltb a (length sheet.actions)) refl
  where
    go : (b : Bool) → ltb a (length sheet.actions) ≡ b → a < length sheet.actions
    go true e = ltb-true a (length sheet.actions) e
    go false e = absurd (omega (arith, l, ap reply_count (get_or-eq_default sheet.actions (probe []) {n = a} (ltb-false a (length sheet.actions) e))))

module _ (sheet : Sheet) (few : sheet.facts ≤ 8) (heads nodes sets : List ℕ) (tabled : Tabled sheet heads nodes sets) where
  -- The states to which an entry leads from one state.
  after_is : (e : Entry) (s : ℕ) → is_state sheet s ≡ true → e.reply < reply_count (action_of sheet e.action) → after heads sets e s ≡ set_of (λ t. is_state sheet t && step sheet e s t)
  unfolding after
  after_is e s i l = single_set sheet few heads nodes sets tabled s i e.action (known_action sheet e.action e.reply l) e.reply

  preimage_member : (e : Entry) (later : States) (s : ℕ) → s < 256 → member (preimage heads sets e later) s ≡ exists (λ t. member (after heads sets e s) t && member later t) (below 256)
  unfolding preimage
  preimage_member e later s l = member_set_of (λ u. exists (λ t. member (after heads sets e u) t && member later t) (below 256)) s l

  next_exists : (e : Entry) (s : ℕ) (test : ℕ → Bool) → exists test (next_states sheet e s) ≡ exists (λ t. step sheet e s t && test t) (states sheet)
  unfolding next_states
  next_exists e s test = exists_keep test (step sheet e s) (states sheet)

  next_keep : (e : Entry) (s : ℕ) → keep (step sheet e s) (states sheet) ≡ next_states sheet e s
  unfolding next_states
  next_keep e s = refl

  -- A history can be gone from a state exactly if some run goes on from it.
  feasible_is : (h : History) → Replied sheet h → (s : ℕ) → is_state sheet s ≡ true → member (feasible heads sets h) s ≡ nonempty (runs_from sheet s h)
  unfolding feasible runs_from nonempty Replied
  feasible_is [] replied s i = member_set_of (λ u. true) s (state_byte sheet few s i)
  feasible_is (e ∷ h) replied s i = go (feasible_is h replied.1)
    where
      leads : ℕ → Bool
      leads t = member (after heads sets e s) t && member (feasible heads sets h) t

      goes : ℕ → Bool
      goes t = step sheet e s t && nonempty (runs_from sheet t h)

      there : (t : ℕ) → t < 256 → member (after heads sets e s) t ≡ (is_state sheet t && step sheet e s t)
      there t l = ap (λ (u : States). member u t) (after_is e s i replied.0) ∙ member_set_of (λ u. is_state sheet u && step sheet e s u) t l

      go : ((t : ℕ) → is_state sheet t ≡ true → member (feasible heads sets h) t ≡ nonempty (runs_from sheet t h))
          → member (preimage heads sets e (feasible heads sets h)) s ≡ nonempty (map (λ run. s ∷ run) (flat_map (λ t. runs_from sheet t h) (next_states sheet e s)))
      go deeper =
          preimage_member e (feasible heads sets h) s (state_byte sheet few s i)
          ∙ same_test (exists leads (below 256)) (exists goes (states sheet))
          (λ x.
          let w = exists_mem leads (below 256) x in
          let t = w.0 in
          let b = both_true (member (after heads sets e s) t) (member (feasible heads sets h) t) w.2 in
          let c = both_true (is_state sheet t) (step sheet e s t) (sym (there t (up_from_mem 0 256 w.1).1) ∙ b.0) in
          mem_exists goes (states sheet) (state_listed sheet t c.0) (and_both (step sheet e s t) (nonempty (runs_from sheet t h)) c.1 (sym (deeper t c.0) ∙ b.1)))
          (λ x.
          let w = exists_mem goes (states sheet) x in
          let t = w.0 in
          let k = listed_state sheet w.1 in
          let b = both_true (step sheet e s t) (nonempty (runs_from sheet t h)) w.2 in
          mem_exists leads (below 256) (mem_up_from 0 256 t (omega arith) (omega (arith, state_byte sheet few t k)))
          (and_both (member (after heads sets e s) t) (member (feasible heads sets h) t) (there t (state_byte sheet few t k) ∙ and_both (is_state sheet t) (step sheet e s t) k b.0) (deeper t k ∙ b.1)))
          ∙ sym (some_map (λ run. s ∷ run) (flat_map (λ t. runs_from sheet t h) (next_states sheet e s))
          ∙ some_flat (λ t. runs_from sheet t h) (next_states sheet e s)
          ∙ next_exists e s (λ t. nonempty (runs_from sheet t h)))

  -- The states from which a run with the history starts, among those of a test that only states pass; and the first run from these.
  module _ (from : ℕ → Bool) (inside : (s : ℕ) → from s ≡ true → is_state sheet s ≡ true) where
    starting : (h : History) → Replied sheet h → members (set_of (λ s. member (set_of from) s && member (feasible heads sets h) s)) ≡ keep (λ s. nonempty (runs_from sheet s h)) (keep from (states sheet))
    starting h replied =
        members_set_of (λ s. member (set_of from) s && member (feasible heads sets h) s)
        ∙ keep_same (λ s. member (set_of from) s && member (feasible heads sets h) s) both (below 256) (λ s m. same s (up_from_mem 0 256 m).1)
        ∙ sym (keep_within both (is_state sheet) (below 256) (λ s k. inside s (both_true (from s) (nonempty (runs_from sheet s h)) k).0))
        ∙ ap (keep both) (states_bytes sheet few)
        ∙ sym (keep_keep (λ s. nonempty (runs_from sheet s h)) from (states sheet))
      where
        both : ℕ → Bool
        both s = from s && nonempty (runs_from sheet s h)

        by : (s : ℕ) (b : Bool) → from s ≡ b → (b && member (feasible heads sets h) s) ≡ (b && nonempty (runs_from sheet s h))
        by s true e = feasible_is h replied s (inside s e)
        by s false e = refl

        same : (s : ℕ) → s < 256 → (member (set_of from) s && member (feasible heads sets h) s) ≡ both s
        same s l = ap (λ (b : Bool). b && member (feasible heads sets h) s) (member_set_of from s l) ∙ by s (from s) refl

    least_on_law : (h : History) → Replied sheet h → least_on heads sets (set_of from) h ≡ least_of (keep (λ s. nonempty (runs_from sheet s h)) (keep from (states sheet)))
    unfolding least_on
    least_on_law h replied = ap least_of (starting h replied)

  keep_states : (test : ℕ → Bool) → keep (λ t. is_state sheet t && test t) (states sheet) ≡ keep test (states sheet)
  keep_states test = keep_same (λ t. is_state sheet t && test t) test (states sheet) (λ t m. ap (λ (b : Bool). b && test t) (listed_state sheet m))

  first_run : (h : History) → Replied sheet h → (from : ℕ → Bool) → ((s : ℕ) → from s ≡ true → is_state sheet s ≡ true)
      → exists (λ s. nonempty (runs_from sheet s h)) (keep from (states sheet)) ≡ true → head_d (flat_map (λ s. runs_from sheet s h) (keep from (states sheet))) [] ≡ least_states heads sets (set_of from) h
  unfolding least_states runs_from head_d Replied
  first_run [] replied from inside some =
      head_flat (λ s. runs_from sheet s []) [] (keep from (states sheet)) some ∙ ap (λ (s : ℕ). s ∷ []) (sym (least_on_law from inside [] replied))
  first_run (e ∷ h) replied from inside some = go (λ test. first_run h replied.1 (λ t. is_state sheet t && test t) (λ t k. (both_true (is_state sheet t) (test t) k).0))
    where
      first : ℕ
      first = least_of (keep (λ s. nonempty (runs_from sheet s (e ∷ h))) (keep from (states sheet)))

      passes : Memᴰ first (keep from (states sheet)) × (nonempty (runs_from sheet first (e ∷ h)) ≡ true)
      passes = keep_mem (λ s. nonempty (runs_from sheet s (e ∷ h))) (keep from (states sheet)) (first_passes (λ s. nonempty (runs_from sheet s (e ∷ h))) (keep from (states sheet)) some)

      is_first : is_state sheet first ≡ true
      is_first = inside first (keep_mem from (states sheet) passes.0).1

      later : List (List ℕ)
      later = flat_map (λ t. runs_from sheet t h) (next_states sheet e first)

      goes : nonempty later ≡ true
      goes = sym (some_map (λ run. first ∷ run) later) ∙ passes.1

      go : ((test : ℕ → Bool) → exists (λ s. nonempty (runs_from sheet s h)) (keep (λ t. is_state sheet t && test t) (states sheet)) ≡ true
          → head_d (flat_map (λ s. runs_from sheet s h) (keep (λ t. is_state sheet t && test t) (states sheet))) [] ≡ least_states heads sets (set_of (λ t. is_state sheet t && test t)) h)
          → head_d (flat_map (λ s. runs_from sheet s (e ∷ h)) (keep from (states sheet))) [] ≡ least_states heads sets (set_of from) (e ∷ h)
      go deeper =
          let onward : exists (λ s. nonempty (runs_from sheet s h)) (keep (λ t. is_state sheet t && step sheet e first t) (states sheet)) ≡ true =
          ap (exists (λ s. nonempty (runs_from sheet s h))) (keep_states (step sheet e first)) ∙ ap (exists (λ s. nonempty (runs_from sheet s h))) (next_keep e first) ∙ sym (some_flat (λ t. runs_from sheet t h) (next_states sheet e first)) ∙ goes in
          head_flat (λ s. runs_from sheet s (e ∷ h)) [] (keep from (states sheet)) some ∙ head_map (λ run. first ∷ run) [] [] later goes
          ∙ ap (λ (rest : List ℕ). first ∷ rest)
          (ap (λ (ts : List ℕ). head_d (flat_map (λ t. runs_from sheet t h) ts) []) (sym (keep_states (step sheet e first) ∙ next_keep e first))
          ∙ deeper (step sheet e first) onward ∙ ap (λ (u : States). least_states heads sets u h) (sym (after_is e first is_first replied.0)))
          ∙ ap (λ (s : ℕ). s ∷ least_states heads sets (after heads sets e s) h) (sym (least_on_law from inside (e ∷ h) replied))

  -- The least run by the tables is the first run with the history.
  pub least_is : (h : History) → occurs sheet h ≡ true → least_states heads sets (sheet_start sheet) h ≡ least_run sheet h
  unfolding sheet_start least_run runs start_states occurs
  least_is h o =
      let run = occurs_run sheet h o in
      let some : exists (λ s. nonempty (runs_from sheet s h)) (keep (λ s. is_state sheet s && holds sheet.start s) (states sheet)) ≡ true =
      ap (exists (λ s. nonempty (runs_from sheet s h))) (keep_states (holds sheet.start)) ∙ sym (some_flat (λ s. runs_from sheet s h) (start_states sheet)) ∙ o in
      sym (first_run h (run_replied sheet h run.0 run.1) (λ s. is_state sheet s && holds sheet.start s) (λ s k. (both_true (is_state sheet s) (holds sheet.start s) k).0) some)
      ∙ ap (λ (ss : List ℕ). head_d (flat_map (λ s. runs_from sheet s h) ss) []) (keep_states (holds sheet.start))
