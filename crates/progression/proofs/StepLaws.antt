-- One step on the tables of a sheet is one step of the set of possible states.
use Prim.Native.Nat.{ℕ, ◌+◌, ◌<◌, ◌≤◌}
use mathlib.Core.Path.{◌≡◌, refl, ap, sym, ◌∙◌}
use mathlib.Core.List.{List}
use mathlib.Core.Logic.{⊎_elim}
use mathlib.Core.Bool.{Bool, true, false, ◌&&◌}
use native.Mathlib.Omega.{arith}
use lib.Dec.{ltb, eqb}
use lib.ListN.{length, get_or}
use borrow.Author.Tests.{ltb-true, ltb-false, eqb-true, eq-eqb}
use Rattle.lists.specs.Lists.{below, exists, keep}
use Rattle.lists.proofs.ListLaws.{two_cases, same_test, is_false, both_true, and_both, exists_mem, mem_exists, up_from_mem, mem_up_from, keep_within, made_length, made_get}
use Rattle.states.specs.declared.States.{States}
use Rattle.states.specs.Sets.{member, set_of, members}
use Rattle.states.proofs.SetLaws.{member_set_of, member_above, set_cong, members_set_of}
use Rattle.format.specs.Syntax.{Action, change, probe, reply_count, Sheet, action_of}
use Rattle.format.specs.Truth.{is_state, states, truth, moves, reply_holds, allowed}
use Rattle.format.proofs.StateLaws.{state_byte, state_listed, reply_exists, states_bytes}
use Rattle.semantics.specs.Runs.{Entry, entry, History, step}
use Rattle.semantics.specs.Progression.{possible, start_set, next_set, set_after}
use Rattle.semantics.proofs.ProgressionLaws.{possible_keep, set_states}
use Rattle.routine.specs.declared.memory.Head.{Head}
use Rattle.routine.specs.Memory.{set_at, head_at}
use Rattle.routine.specs.Tables.{rows}
use Rattle.routine.proofs.TableLaws.{no_states, head_of, first_set, Tabled, row_is, reply_is}
use Rattle.progression.specs.Machine.{gathered, effect, reply_states, kept_by, stepped}
use Rattle.progression.proofs.GatherLaws.{effect_rows, effect_none, true_nowhere, true_by_table}

-- The states in which a reply of an action is true, by its table.
reply_answered : (space : ℕ → Bool) (sets : List ℕ) (k : ℕ) (x : Action)
    → ((r : ℕ) → r < reply_count x → set_at sets (k + length (rows space x) + r) ≡ set_of (λ t. reply_holds x r t))
    → (r : ℕ) → reply_states sets (head_of space k x) r ≡ set_of (λ t. reply_holds x r t)
reply_answered space sets k x reply r =
    ⊎_elim (λ (e : ltb r (reply_count x) ≡ true).
    let l = ltb-true r (reply_count x) e in
    sym (true_by_table sets (head_of space k x) r l) ∙ reply r l)
    (λ (e : ltb r (reply_count x) ≡ false).
    let l = ltb-false r (reply_count x) e in
    sym (true_nowhere sets (head_of space k x) r l)
    ∙ set_cong (λ t. false) (λ t. reply_holds x r t) (λ t b. sym (is_false (reply_holds x r t) (λ h. omega (arith, l, reply_exists x r t h)))))
    (two_cases (ltb r (reply_count x)))

-- Where the sets of an action stand: its rows and its reply tables.
module _ (sheet : Sheet) (few : sheet.facts ≤ 8) (sets : List ℕ) (k : ℕ) (possible-before : ℕ → Bool) (inside : (s : ℕ) → possible-before s ≡ true → is_state sheet s ≡ true) where
  abbrev space : ℕ → Bool
  space = is_state sheet

  abbrev before : ℕ → Bool
  before = possible-before

  -- The states to which an action with a reply leads from those possible before.
  abbrev after : Action → (r t : ℕ) → Bool
  after x r t = space t && exists (λ s. before s && (moves x s t && reply_holds x r t)) (states sheet)

  gathered_member : (set : States) (t : ℕ) → t < 256 → member (gathered sets k set) t ≡ exists (λ s. member set s && member (set_at sets (k + s)) t) (below 256)
  unfolding gathered
  gathered_member set t l = member_set_of (λ u. exists (λ s. member set s && member (set_at sets (k + s)) u) (below 256)) t l

  -- The effect of an action, in the states in which its reply is true.
  effect_answered : (x : Action) → ((j : ℕ) → j < length (rows space x) → set_at sets (k + j) ≡ get_or (rows space x) j no_states)
      → (r t : ℕ) → t < 256 → member (effect sets (head_of space k x) (set_of before)) t && reply_holds x r t ≡ after x r t
  unfolding rows moves
  effect_answered (change f) row r t l =
      let long : length (rows space (change f)) ≡ 256 = made_length (λ s. set_of (λ u. space s && space u && truth f s u)) 0 256 in
      let has : ((s : ℕ) → s < 256 → member (set_at sets (k + s)) t ≡ space s && space t && truth f s t) =
      λ s m.
      let z : 0 + s ≡ s = omega arith in
      ap (λ (u : States). member u t) (row s (omega (arith, long, m)) ∙ made_get (λ s. set_of (λ u. space s && space u && truth f s u)) no_states 0 256 s m)
      ∙ member_set_of (λ u. space (0 + s) && space u && truth f (0 + s) u) t l ∙ ap (λ (v : ℕ). space v && space t && truth f v t) z in
      let some = gathered_member (set_of before) t l in
      ap (λ (u : States). member u t && reply_holds (change f) r t) (sym (effect_rows sets (head_of space k (change f)) (set_of before) (omega (arith, long))))
      ∙ (same_test (member (gathered sets k (set_of before)) t && reply_holds (change f) r t) (after (change f) r t)
      (λ h.
      let b = both_true (member (gathered sets k (set_of before)) t) (reply_holds (change f) r t) h in
      let w = exists_mem (λ s. member (set_of before) s && member (set_at sets (k + s)) t) (below 256) (sym some ∙ b.0) in
      let m : w.0 < 256 = (up_from_mem 0 256 w.1).1 in
      let v = both_true (member (set_of before) w.0) (member (set_at sets (k + w.0)) t) w.2 in
      let p : before w.0 ≡ true = sym (member_set_of before w.0 m) ∙ v.0 in
      let q = both_true (space w.0 && space t) (truth f w.0 t) (sym (has w.0 m) ∙ v.1) in
      let u = both_true (space w.0) (space t) q.0 in
      and_both (space t) (exists (λ s. before s && (truth f s t && reply_holds (change f) r t)) (states sheet)) u.1
      (mem_exists (λ s. before s && (truth f s t && reply_holds (change f) r t)) (states sheet) (state_listed sheet w.0 u.0)
      (and_both (before w.0) (truth f w.0 t && reply_holds (change f) r t) p (and_both (truth f w.0 t) (reply_holds (change f) r t) q.1 b.1))))
      (λ h.
      let b = both_true (space t) (exists (λ s. before s && (truth f s t && reply_holds (change f) r t)) (states sheet)) h in
      let w = exists_mem (λ s. before s && (truth f s t && reply_holds (change f) r t)) (states sheet) b.1 in
      let v = both_true (before w.0) (truth f w.0 t && reply_holds (change f) r t) w.2 in
      let u = both_true (truth f w.0 t) (reply_holds (change f) r t) v.1 in
      let i = inside w.0 v.0 in
      let m = state_byte sheet few w.0 i in
      and_both (member (gathered sets k (set_of before)) t) (reply_holds (change f) r t)
      (some ∙ mem_exists (λ s. member (set_of before) s && member (set_at sets (k + s)) t) (below 256) (mem_up_from 0 256 w.0 (omega arith) (omega (arith, m)))
      (and_both (member (set_of before) w.0) (member (set_at sets (k + w.0)) t) (member_set_of before w.0 m ∙ v.0)
      (has w.0 m ∙ and_both (space w.0 && space t) (truth f w.0 t) (and_both (space w.0) (space t) i b.0) u.0)))
      u.1))
  effect_answered (probe fs) row r t l =
      ap (λ (u : States). member u t && reply_holds (probe fs) r t) (sym (effect_none sets (head_of space k (probe fs)) (set_of before) (omega arith)))
      ∙ (same_test (member (set_of before) t && reply_holds (probe fs) r t) (after (probe fs) r t)
      (λ h.
      let b = both_true (member (set_of before) t) (reply_holds (probe fs) r t) h in
      let p : before t ≡ true = sym (member_set_of before t l) ∙ b.0 in
      let i = inside t p in
      and_both (space t) (exists (λ s. before s && (eqb s t && reply_holds (probe fs) r t)) (states sheet)) i
      (mem_exists (λ s. before s && (eqb s t && reply_holds (probe fs) r t)) (states sheet) (state_listed sheet t i)
      (and_both (before t) (eqb t t && reply_holds (probe fs) r t) p (and_both (eqb t t) (reply_holds (probe fs) r t) (eq-eqb t t refl) b.1))))
      (λ h.
      let b = both_true (space t) (exists (λ s. before s && (eqb s t && reply_holds (probe fs) r t)) (states sheet)) h in
      let w = exists_mem (λ s. before s && (eqb s t && reply_holds (probe fs) r t)) (states sheet) b.1 in
      let v = both_true (before w.0) (eqb w.0 t && reply_holds (probe fs) r t) w.2 in
      let u = both_true (eqb w.0 t) (reply_holds (probe fs) r t) v.1 in
      and_both (member (set_of before) t) (reply_holds (probe fs) r t) (member_set_of before t l ∙ ap before (sym (eqb-true w.0 t u.0)) ∙ v.0) u.1))

  -- One step of the machine.
  step_answered : (x : Action) → ((j : ℕ) → j < length (rows space x) → set_at sets (k + j) ≡ get_or (rows space x) j no_states)
      → ((r : ℕ) → r < reply_count x → set_at sets (k + length (rows space x) + r) ≡ set_of (λ t. reply_holds x r t))
      → (r : ℕ)
      → kept_by (effect sets (head_of space k x) (set_of before)) (reply_states sets (head_of space k x) r) ≡ set_of (λ t. after x r t)
  unfolding kept_by
  step_answered x row reply r =
      set_cong _ _ (λ t l.
      ap (λ (b : Bool). member (effect sets (head_of space k x) (set_of before)) t && b)
      (ap (λ (u : States). member u t) (reply_answered space sets k x reply r) ∙ member_set_of (λ u. reply_holds x r u) t l)
      ∙ effect_answered x row r t l)

-- A step on the tables of a sheet leads from the states possible before to those possible after the action and its reply.
pub tabled_step : (sheet : Sheet) → sheet.facts ≤ 8 → (heads nodes sets : List ℕ) → Tabled sheet heads nodes sets → (from : ℕ → Bool) → ((s : ℕ) → from s ≡ true → is_state sheet s ≡ true)
    → (a : ℕ) → a < length sheet.actions → (r : ℕ) → stepped heads sets (set_of from) a r ≡ set_of (next_set sheet from (entry a r))
unfolding stepped next_set step allowed
tabled_step sheet few heads nodes sets tabled from inside a l r =
    ap (λ (x : Head). kept_by (effect sets x (set_of from)) (reply_states sets x r)) (tabled.head_is a l)
    ∙ step_answered sheet few sets (first_set (is_state sheet) sheet.actions a) from inside (action_of sheet a) (row_is sheet heads nodes sets tabled a l)
    (reply_is sheet heads nodes sets tabled a l) r

-- The states in which a reply of an action is true, by the tables of a sheet.
pub tabled_reply : (sheet : Sheet) (heads nodes sets : List ℕ) → Tabled sheet heads nodes sets → (a : ℕ) → a < length sheet.actions → (r : ℕ)
    → reply_states sets (head_at heads a) r ≡ set_of (λ t. reply_holds (action_of sheet a) r t)
tabled_reply sheet heads nodes sets tabled a l r =
    ap (λ (x : Head). reply_states sets x r) (tabled.head_is a l)
    ∙ reply_answered (is_state sheet) sets (first_set (is_state sheet) sheet.actions a) (action_of sheet a) (reply_is sheet heads nodes sets tabled a l) r

module _ (sheet : Sheet) (few : sheet.facts ≤ 8) where
  -- A test that only states pass, as a set: whether any number is in it.
  pub member_states : (test : ℕ → Bool) → ((s : ℕ) → test s ≡ true → is_state sheet s ≡ true) → (s : ℕ) → member (set_of test) s ≡ test s
  member_states test inside s = go (ltb s 256) refl
    where
      go : (b : Bool) → ltb s 256 ≡ b → member (set_of test) s ≡ test s
      go true e = member_set_of test s (ltb-true s 256 e)
      go false e =
          let above = ltb-false s 256 e in
          member_above (set_of test) s above ∙ sym (⊎_elim (λ (k : test s ≡ true). absurd (omega (arith, above, state_byte sheet few s (inside s k)))) (λ k. k) (two_cases (test s)))

  -- A step on the tables from the set of one state leads to the states to which the action and its reply lead from it.
  module _ (heads nodes sets : List ℕ) (tabled : Tabled sheet heads nodes sets) (s : ℕ) (i : is_state sheet s ≡ true) (a : ℕ) (l : a < length sheet.actions) (r : ℕ) where
    abbrev replied : Entry
    replied = entry a r

    pub single_set : stepped heads sets (set_of (λ u. eqb u s)) a r ≡ set_of (λ t. is_state sheet t && step sheet replied s t)
    unfolding next_set
    single_set =
        tabled_step sheet few heads nodes sets tabled (λ u. eqb u s) (λ u k. ap (is_state sheet) (eqb-true u s k) ∙ i) a l r
        ∙ set_cong (λ t. is_state sheet t && exists (λ u. eqb u s && step sheet replied u t) (states sheet)) (λ t. is_state sheet t && step sheet replied s t)
        (λ t m. ap (λ (b : Bool). is_state sheet t && b) (same_test (exists (λ u. eqb u s && step sheet replied u t) (states sheet)) (step sheet replied s t)
        (λ h.
        let w = exists_mem (λ u. eqb u s && step sheet replied u t) (states sheet) h in
        let b = both_true (eqb w.0 s) (step sheet replied w.0 t) w.2 in
        ap (λ (u : ℕ). step sheet replied u t) (sym (eqb-true w.0 s b.0)) ∙ b.1)
        (λ h. mem_exists (λ u. eqb u s && step sheet replied u t) (states sheet) (state_listed sheet s i) (and_both (eqb s s) (step sheet replied s t) (eq-eqb s s refl) h))))

    pub single_step : (t : ℕ) → member (stepped heads sets (set_of (λ u. eqb u s)) a r) t ≡ is_state sheet t && step sheet replied s t
    single_step t =
        ap (λ (u : States). member u t) single_set ∙ member_states (λ u. is_state sheet u && step sheet replied s u) (λ u k. (both_true (is_state sheet u) (step sheet replied s u) k).0) t

-- The members of the set of possible states are the states possible after the history.
pub members_possible : (sheet : Sheet) → sheet.facts ≤ 8 → (h : History) → members (set_of (set_after sheet (start_set sheet) h)) ≡ possible sheet h
members_possible sheet few h =
    members_set_of (set_after sheet (start_set sheet) h) ∙ sym (keep_within (set_after sheet (start_set sheet) h) (is_state sheet) (below 256) (set_states sheet h))
    ∙ ap (keep (set_after sheet (start_set sheet) h)) (states_bytes sheet few) ∙ sym (possible_keep sheet h)
