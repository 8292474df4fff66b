-- Laws of the least run along a path: one entry backward, the sets that are kept for its places, and the trace that is shown. Assumes nothing.
use Rattle.std.proofs.Common.{◌≡◌, ℕ, suc, ◌+◌, ◌-◌, ◌*◌, ◌/◌, ◌%◌, ◌<◌, ◌≤◌, Bool, true, false, not, ◌&&◌, ◌||◌, eqb, ltb, List, [], ◌∷◌, ◌++◌, length, get_or, take, drop, set, sym, refl, ap, ◌∙◌, subst, ap₂, append_assoc, append-nil, add-one, arith, length-set, take-append-drop, length-take-le, drop-drop, take-suc-set, drop-set-lt, ltb-false, ltb-true, le-ltb, lt-ltb, eq-eqb, ne_eqb, eqb-true}
use native.Mathlib.Decide.{ℕ_discrete}
use Rattle.lists.specs.Lists.{below, exists, nonempty, write}
use Rattle.lists.proofs.ListLaws.{or_none, same_test, both_true, and_both, exists_same, exists_mem, mem_exists, up_from_mem, mem_up_from, nonempty_keep, exists_none}
use Rattle.states.specs.declared.States.{States}
use Rattle.states.specs.Sets.{words, member, set_of, members, least_of, words_at}
use Rattle.states.proofs.SetLaws.{member_set_of, set_cong, members_set_of}
use Rattle.semantics.specs.Runs.{Entry, entry, History}
use Rattle.semantics.specs.Verdict.{trace, trace_from, written}
use Rattle.routine.specs.declared.memory.Head.{Head}
use Rattle.routine.specs.Memory.{set_at, head_at}
use Rattle.routine.proofs.MemoryLaws.{set_in}
use Rattle.routine.proofs.WriteLaws.{write_length, write_elsewhere, write_back, words_four}
use Rattle.progression.specs.Machine.{gathered, effect, stepped}
use Rattle.progression.proofs.GatherLaws.{effect_rows, effect_none, step_none, step_kept}
use Rattle.verifier.specs.Least.{path_from, after, preimage, feasible, least_on, least_states, FeasibleFrom}

-- The set of a test has members just where a state passes the test.
nonempty_set_of : (p : ℕ → Bool) → nonempty (members (set_of p)) ≡ exists p (below 256)
nonempty_set_of p = ap nonempty (members_set_of p) ∙ nonempty_keep p (below 256)

-- A set built up state by state.
module _ (test : ℕ → Bool) where
  abbrev pub up_to_set : ℕ → States
  up_to_set i = set_of (λ s. ltb s i && test s)

  pub set_done : (i : ℕ) → 256 ≤ i → up_to_set i ≡ set_of test
  set_done i l = set_cong (λ s. ltb s i && test s) test (λ s h. rw (lt-ltb s i (omega arith)))

  pub set_without : (i : ℕ) → test i ≡ false → up_to_set i ≡ up_to_set (i + 1)
  set_without i e = set_cong (λ s. ltb s i && test s) (λ s. ltb s (i + 1) && test s) (λ s h. go s (ℕ_discrete s i) (ltb s i) refl)
    where
      go : (s : ℕ) → Dec (s ≡ i) → (b : Bool) → ltb s i ≡ b → ltb s i && test s ≡ (ltb s (i + 1) && test s)
      go s (yes p) b q = let f : test s ≡ false = ap test p ∙ e in rw (le-ltb s i (omega arith), lt-ltb s (i + 1) (omega arith), f)
      go s (no p) true q = let l : s < i = ltb-true s i q in rw (q, lt-ltb s (i + 1) (omega arith))
      go s (no p) false q = let l : i ≤ s = ltb-false s i q in rw (q, le-ltb s (i + 1) (omega arith))

  pub set_with : (i : ℕ) → i < 256 → test i ≡ true → (all : States) → all ≡ up_to_set i → set_of (λ s. member all s || eqb s i) ≡ up_to_set (i + 1)
  set_with i l e all a =
      set_cong (λ s. member all s || eqb s i) (λ s. ltb s (i + 1) && test s)
      (λ s h. ap (λ (b : Bool). b || eqb s i) (ap (λ (x : States). member x s) a ∙ member_set_of (λ s. ltb s i && test s) s h) ∙ go s (ℕ_discrete s i) (ltb s i) refl)
    where
      go : (s : ℕ) → Dec (s ≡ i) → (b : Bool) → ltb s i ≡ b → (ltb s i && test s || eqb s i) ≡ (ltb s (i + 1) && test s)
      go s (yes p) b q = let f : test s ≡ true = ap test p ∙ e in rw (le-ltb s i (omega arith), lt-ltb s (i + 1) (omega arith), f, eq-eqb s i p)
      go s (no p) true q = let l : s < i = ltb-true s i q in rw (q, lt-ltb s (i + 1) (omega arith), ne_eqb s i p) (or_none (test s))
      go s (no p) false q = let l : i ≤ s = ltb-false s i q in rw (q, le-ltb s (i + 1) (omega arith), ne_eqb s i p)

-- Whether set `first` + s has a state of a set, and the test of the code.
module _ (sets : List ℕ) (first : ℕ) (set : States) where
  abbrev pub meets : ℕ → Bool
  meets s = exists (λ t. member (set_at sets (first + s)) t && member set t) (below 256)

  pub meets_test : (s : ℕ) (row both : States) (none : Bool) → row ≡ set_at sets (first + s) → both ≡ set_of (λ t. member row t && member set t)
      → none ≡ not (nonempty (members both)) → none ≡ not (meets s)
  meets_test s row both none r b n =
      n ∙ ap (λ (x : States). not (nonempty (members x))) (b ∙ ap (λ (x : States). set_of (λ t. member x t && member set t)) r)
      ∙ ap not (nonempty_set_of (λ t. member (set_at sets (first + s)) t && member set t))

-- A test by the negation of its negation, as the code makes it.
pub not_either : (a b c : Bool) → a ≡ not b → not a ≡ c → b ≡ c
not_either a true c e f = sym (ap not e) ∙ f
not_either a false c e f = sym (ap not e) ∙ f

-- Something holds of the one state of a set just where there is such a state in the set.
exists_one : (f : ℕ → Bool) (s : ℕ) → s < 256 → exists (λ t. member (set_of (λ u. eqb u s)) t && f t) (below 256) ≡ f s
exists_one f s h =
    same_test (exists (λ t. member (set_of (λ u. eqb u s)) t && f t) (below 256)) (f s)
    (λ e.
    let w = exists_mem (λ t. member (set_of (λ u. eqb u s)) t && f t) (below 256) e in
    let l : w.0 < 256 = (up_from_mem 0 256 w.1).1 in
    let b = both_true (member (set_of (λ u. eqb u s)) w.0) (f w.0) w.2 in
    let q : w.0 ≡ s = eqb-true w.0 s (sym (member_set_of (λ u. eqb u s) w.0 l) ∙ b.0) in
    ap f (sym q) ∙ b.1)
    (λ e. mem_exists (λ t. member (set_of (λ u. eqb u s)) t && f t) (below 256) (mem_up_from 0 256 s (omega arith) (omega arith))
    (and_both (member (set_of (λ u. eqb u s)) s) (f s) (member_set_of (λ u. eqb u s) s h ∙ eq-eqb s s refl) e))

-- The order in which the tests are joined.
and_turn : (a r l : Bool) → a && (l && r) ≡ (a && r) && l
and_turn true true true = refl
and_turn true true false = refl
and_turn true false true = refl
and_turn true false false = refl
and_turn false r l = refl

-- One entry backward, by the head of its action.
module _ (heads sets : List ℕ) (action reply : ℕ) (later : States) (head : Head) (is : head ≡ head_at heads action) where
  abbrev one : ℕ → States
  one s = set_of (λ u. eqb u s)

  abbrev leads : (s t : ℕ) → Bool
  leads s t = member (after heads sets (entry action reply) s) t && member later t

  after_is : (s : ℕ) → after heads sets (entry action reply) s ≡ stepped heads sets (one s) action reply
  unfolding after
  after_is s = refl

  preimage_is : set_of (λ s. exists (leads s) (below 256)) ≡ preimage heads sets (entry action reply) later
  unfolding preimage
  preimage_is = refl

  -- A reply that the action hasn't leads nowhere.
  pub preimage_none : head.count ≤ reply → set_of (λ s. false) ≡ preimage heads sets (entry action reply) later
  preimage_none h =
      set_cong (λ s. false) (λ s. exists (leads s) (below 256))
      (λ s l. sym (exists_none (leads s) (below 256)
      (λ t m. ap (λ (b : Bool). b && member later t)
      (ap (λ (x : States). member x t) (after_is s ∙ sym (step_none heads sets (one s) action reply head is h)) ∙ member_set_of (λ t. false) t (up_from_mem 0 256 m).1))))
      ∙ preimage_is

  -- The states in which the reply is true and from which the rest rest be gone.
  module _ (row answered : States) (known : reply < head.count) (at : row ≡ set_at sets (head.replies + reply)) (both : answered ≡ set_of (λ s. member later s && member row s)) where
    answered_member : (t : ℕ) → t < 256 → member answered t ≡ member later t && member row t
    answered_member t h = ap (λ (x : States). member x t) both ∙ member_set_of (λ s. member later s && member row s) t h

    after_member : (s t : ℕ) → t < 256 → member (after heads sets (entry action reply) s) t ≡ member (effect sets head (one s)) t && member row t
    after_member s t h =
        ap (λ (x : States). member x t) (after_is s ∙ sym (step_kept heads sets (one s) action reply head is (effect sets head (one s)) row known refl at))
        ∙ member_set_of (λ t. member (effect sets head (one s)) t && member row t) t h

    gathered_one : (s t : ℕ) → s < 256 → t < 256 → member (gathered sets head.rows (one s)) t ≡ member (set_at sets (head.rows + s)) t
    unfolding gathered
    gathered_one s t l h =
        member_set_of (λ t. exists (λ s'. member (one s) s' && member (set_at sets (head.rows + s')) t) (below 256)) t h ∙ exists_one (λ s'. member (set_at sets (head.rows + s')) t) s l

    -- With rows it leads there from the states whose rows have such a state.
    pub preimage_rows : head.rows < head.replies → set_of (meets sets head.rows answered) ≡ preimage heads sets (entry action reply) later
    preimage_rows h =
        set_cong (meets sets head.rows answered) (λ s. exists (leads s) (below 256))
        (λ s l. exists_same (λ t. member (set_at sets (head.rows + s)) t && member answered t) (leads s) (below 256)
        (λ t m.
        let u : t < 256 = (up_from_mem 0 256 m).1 in
        ap (λ (b : Bool). member (set_at sets (head.rows + s)) t && b) (answered_member t u)
        ∙ and_turn (member (set_at sets (head.rows + s)) t) (member row t) (member later t)
        ∙ ap (λ (b : Bool). b && member later t)
        (ap (λ (b : Bool). b && member row t) (sym (gathered_one s t l u) ∙ ap (λ (x : States). member x t) (effect_rows sets head (one s) h)) ∙ sym (after_member s t u))))
        ∙ preimage_is

    -- Without rows it leads there from these states themselves.
    pub preimage_same : head.replies ≤ head.rows → answered ≡ preimage heads sets (entry action reply) later
    preimage_same h =
        both
        ∙ set_cong (λ s. member later s && member row s) (λ s. exists (leads s) (below 256))
        (λ s l. sym (exists_one (λ t. member later t && member row t) s l)
        ∙ exists_same (λ t. member (one s) t && (member later t && member row t)) (leads s) (below 256)
        (λ t m.
        let u : t < 256 = (up_from_mem 0 256 m).1 in
        and_turn (member (one s) t) (member row t) (member later t)
        ∙ ap (λ (b : Bool). b && member later t)
        (ap (λ (x : States). member x t && member row t) (effect_none sets head (one s) h) ∙ sym (after_member s t u))))
        ∙ preimage_is

-- Feasible set k once it is written, and the sets behind it.
module _ (memory : List ℕ) (k : ℕ) (set : States) where
  set_written : 4 * k + 4 ≤ length memory → k < 65 → set_at (write memory (4 * k) (words set)) k ≡ set
  unfolding words words_at
  set_written h l =
      let m = write memory (4 * k) (words set) in
      let e : ((j : ℕ) → j < 4 → get_or (write memory (4 * k) (words set)) (4 * k + j) 0 ≡ get_or (words set) j 0) = write_back memory (4 * k) (words set) (omega arith) in
      let z : 4 * k ≡ 4 * k + 0 = omega arith in
      let e₀ : get_or (write memory (4 * k) (words set)) (4 * k) 0 ≡ set.w0 = ap (λ (v : ℕ). get_or (write memory (4 * k) (words set)) v 0) z ∙ e 0 (omega arith) in
      sym (set_in m k (omega arith)) ∙ (λ i. record { w0 = e₀ i; w1 = e 1 (omega arith) i; w2 = e 2 (omega arith) i; w3 = e 3 (omega arith) i })

  set_behind : (j : ℕ) → k < j → j < 65 → set_at (write memory (4 * k) (words set)) j ≡ set_at memory j
  unfolding words words_at
  set_behind j h l =
      let e : ((i : ℕ) → get_or (write memory (4 * k) (words set)) (4 * j + i) 0 ≡ get_or memory (4 * j + i) 0) = λ i. write_elsewhere memory (4 * k) (words set) (4 * j + i) (λ n m e. omega (arith, m, e, words_four set)) in
      let e₀ : get_or (write memory (4 * k) (words set)) (4 * j) 0 ≡ get_or memory (4 * j) 0 = write_elsewhere memory (4 * k) (words set) (4 * j) (λ n m e. omega (arith, m, e, words_four set)) in
      sym (set_in (write memory (4 * k) (words set)) j (omega arith)) ∙ (λ i. record { w0 = e₀ i; w1 = e 1 i; w2 = e 2 i; w3 = e 3 i }) ∙ set_in memory j (omega arith)

-- The history of a path from a place on.
path_none : (path : List ℕ) (len : ℕ) → path_from path len (len - len) ≡ []
unfolding path_from
path_none path len = let z : len - len ≡ 0 = omega arith in rw z

path_more : (path : List ℕ) (len k : ℕ) → k < len → path_from path k (len - k) ≡ entry (get_or path k 0 / 8) (get_or path k 0 % 8) ∷ path_from path (k + 1) (len - (k + 1))
unfolding path_from
path_more path len k h = let z : len - k ≡ suc (len - (k + 1)) = omega arith in rw z

-- The feasible sets of a path, written from its end on.
module _ (heads sets path : List ℕ) (len : ℕ) where
  -- The states from which the path rest be gone from place k on.
  abbrev pub rest : ℕ → States
  rest k = feasible heads sets (path_from path k (len - k))

  feasible_none : set_of (λ s. true) ≡ feasible heads sets []
  unfolding feasible
  feasible_none = refl

  feasible_more : (e : Entry) (h : History) → preimage heads sets e (feasible heads sets h) ≡ feasible heads sets (e ∷ h)
  unfolding feasible
  feasible_more e h = refl

  pub rest_end : set_of (λ s. true) ≡ rest len
  rest_end = feasible_none ∙ sym (ap (feasible heads sets) (path_none path len))

  pub rest_before : (k action reply : ℕ) → k < len → action ≡ get_or path k 0 / 8 → reply ≡ get_or path k 0 % 8 → (later : States) → later ≡ rest (k + 1)
      → preimage heads sets (entry action reply) later ≡ rest k
  rest_before k action reply h a r later e =
      let d = entry (get_or path k 0 / 8) (get_or path k 0 % 8) in
      ap₂ (λ (x y : ℕ). preimage heads sets (entry x y) later) a r ∙ ap (preimage heads sets d) e ∙ feasible_more d (path_from path (k + 1) (len - (k + 1)))
      ∙ sym (ap (feasible heads sets) (path_more path len k h))

  -- None is asked for behind the end.
  pub filled_none : (memory : List ℕ) → FeasibleFrom heads sets path len (len + 1) memory
  unfolding FeasibleFrom
  filled_none memory j l h = absurd (omega arith)

  pub filled_more : (memory more : List ℕ) (k : ℕ) (set : States) → length memory ≡ 260 → k ≤ len → len ≤ 64 → FeasibleFrom heads sets path len (k + 1) memory → set ≡ rest k
      → more ≡ write memory (4 * k) (words set) → (length more ≡ 260) × FeasibleFrom heads sets path len k more
  unfolding FeasibleFrom
  filled_more memory more k set n l few w e m =
      (ap length m ∙ write_length memory (4 * k) (words set) ∙ n, λ j lo hi. ap (λ (x : List ℕ). set_at x j) m ∙ go j lo hi (ℕ_discrete j k))
    where
      go : (j : ℕ) → k ≤ j → j ≤ len → Dec (j ≡ k) → set_at (write memory (4 * k) (words set)) j ≡ rest j
      go j lo hi (yes p) = subst (λ (i : ℕ). set_at (write memory (4 * k) (words set)) i ≡ rest i) (sym p) (set_written memory k set (omega (arith, n)) (omega arith) ∙ e)
      go j lo hi (no p) = set_behind memory k set j (omega arith) (omega arith) ∙ w j (omega arith) hi

  -- Each is read from them.
  pub filled_is : (memory : List ℕ) (k : ℕ) (feasibleSet : States) → FeasibleFrom heads sets path len 0 memory → k ≤ len → feasibleSet ≡ set_at memory k → feasibleSet ≡ rest k
  unfolding FeasibleFrom
  filled_is memory k feasibleSet w h e = e ∙ w k (omega arith) h

-- Two bytes more behind i others.
pair_front : (m : List ℕ) (i b s : ℕ) → i + 1 < length m → take (i + 2) (set (set m i b) (i + 1) s) ≡ take i m ++ (b ∷ s ∷ [])
pair_front m i b s h =
    let o : i + 2 ≡ suc (i + 1) = omega arith in
    let l : i + 1 < length (set m i b) = subst (λ (n : ℕ). i + 1 < n) (sym (length-set m i b)) h in
    ap (λ (n : ℕ). take n (set (set m i b) (i + 1) s)) o ∙ take-suc-set (set m i b) (i + 1) s l
    ∙ ap (λ (y : List ℕ). y ++ (s ∷ [])) (ap (λ (n : ℕ). take n (set m i b)) (add-one i) ∙ take-suc-set m i b (omega arith))
    ∙ append_assoc (take i m) (b ∷ []) (s ∷ [])

pair_behind : (m : List ℕ) (i b s : ℕ) → drop (i + 2) (set (set m i b) (i + 1) s) ≡ drop (i + 2) m
pair_behind m i b s = drop-set-lt (i + 2) (set m i b) (i + 1) s (omega arith) ∙ drop-set-lt (i + 2) m i b (omega arith)

-- The trace of the least run, place by place.
module _ (heads sets : List ℕ) where
  -- What the trace shows behind state s.
  unfoldable pub steps_from : History → (s : ℕ) → List ℕ
  steps_from [] s = []
  steps_from (e ∷ h) s = trace_from (e ∷ h) (least_states heads sets (after heads sets e s) h)

  trace_first : (from : States) (h : History) → least_on heads sets from h ∷ steps_from h (least_on heads sets from h) ≡ trace h (least_states heads sets from h)
  unfolding steps_from trace least_states trace_from
  trace_first from [] = refl
  trace_first from (e ∷ h) = refl

  trace_next : (e : Entry) (from : States) (h : History)
      → (e.action * 8 + e.reply) ∷ least_on heads sets from h ∷ steps_from h (least_on heads sets from h) ≡ trace_from (e ∷ h) (least_states heads sets from h)
  unfolding steps_from least_states trace_from
  trace_next e from [] = refl
  trace_next e from (d ∷ h) = refl

  -- The least state of a set from which the rest rest be gone.
  chosen : (from feasibleSet both : States) (h : History) (s : ℕ) → feasibleSet ≡ feasible heads sets h → both ≡ set_of (λ t. member from t && member feasibleSet t) → s ≡ least_of (members both)
      → s ≡ least_on heads sets from h
  unfolding least_on
  chosen from feasibleSet both h s w b e = e ∙ ap (λ (x : States). least_of (members x)) (b ∙ ap (λ (x : States). set_of (λ t. member from t && member x t)) w)

  module _ (path : List ℕ) (len : ℕ) where
    -- What is shown from place k on, behind state s.
    abbrev pub onward : (k s : ℕ) → List ℕ
    onward k s = steps_from (path_from path k (len - k)) s

    onward_none : (s : ℕ) → onward len s ≡ []
    unfolding steps_from
    onward_none s = rw (path_none path len)

    onward_more : (k s t action reply : ℕ) (one from feasibleSet both : States) → k < len → action ≡ get_or path k 0 / 8 → reply ≡ get_or path k 0 % 8 → one ≡ set_of (λ u. eqb u s)
        → from ≡ stepped heads sets one action reply → feasibleSet ≡ rest heads sets path len (k + 1)
        → both ≡ set_of (λ u. member from u && member feasibleSet u) → t ≡ least_of (members both)
        → get_or path k 0 ∷ t ∷ onward (k + 1) t ≡ onward k s
    unfolding steps_from after
    onward_more k s t action reply one from feasibleSet both h xa xr o f w b e =
        let x = get_or path k 0 in
        let h' = path_from path (k + 1) (len - (k + 1)) in
        let from' = after heads sets (entry (x / 8) (x % 8)) s in
        let byte : x ≡ x / 8 * 8 + x % 8 = omega arith in
        let there : from ≡ after heads sets (entry (x / 8) (x % 8)) s =
        f ∙ ap₂ (λ (y z : ℕ). stepped heads sets one y z) xa xr ∙ ap (λ (z : States). stepped heads sets z (x / 8) (x % 8)) o in
        let state : t ≡ least_on heads sets (after heads sets (entry (x / 8) (x % 8)) s) h' = chosen from feasibleSet both h' t w b e ∙ ap (λ (z : States). least_on heads sets z h') there in
        ap₂ (λ (y z : ℕ). y ∷ z ∷ steps_from h' z) byte state ∙ trace_next (entry (x / 8) (x % 8)) from' h' ∙ sym (ap (λ (g : History). steps_from g s) (path_more path len k h))

    -- What a memory m holds at place k, m₀ being what it held at the first: the trace up to there, and behind it what stood there.
    pub record At (m₀ : List ℕ) (s₀ : ℕ) (m : List ℕ) (k s : ℕ) : Type 0 where
      pub size : length m ≡ length m₀
      pub behind : drop (2 * k + 1) m ≡ drop (2 * k + 1) m₀
      pub front : take (2 * k + 1) m ++ onward k s ≡ take 1 m₀ ++ onward 0 s₀

    pub at_more : (m₀ : List ℕ) (s₀ : ℕ) (m : List ℕ) (k s t action reply : ℕ) (one from feasibleSet both : States) → k < len → 2 * k + 2 < length m
        → action ≡ get_or path k 0 / 8 → reply ≡ get_or path k 0 % 8 → one ≡ set_of (λ u. eqb u s) → from ≡ stepped heads sets one action reply → feasibleSet ≡ rest heads sets path len (k + 1)
        → both ≡ set_of (λ u. member from u && member feasibleSet u) → t ≡ least_of (members both)
        → At m₀ s₀ m k s → At m₀ s₀ (set (set m (2 * k + 1) (get_or path k 0)) (2 * k + 2) t) (k + 1) t
    at_more m₀ s₀ m k s t action reply one from feasibleSet both h l xa xr o f w b e a =
        let x = get_or path k 0 in
        let i1 : 2 * k + 1 + 1 ≡ 2 * k + 2 = omega arith in
        let i2 : 2 * (k + 1) + 1 ≡ 2 * k + 1 + 2 = omega arith in
        let M : List ℕ = set (set m (2 * k + 1) x) (2 * k + 1 + 1) t in
        subst (λ (j : ℕ). At m₀ s₀ (set (set m (2 * k + 1) x) j t) (k + 1) t) i1 (record {
          size = length-set (set m (2 * k + 1) x) (2 * k + 1 + 1) t ∙ length-set m (2 * k + 1) x ∙ a.size;
          behind = ap (λ (n : ℕ). drop n M) i2 ∙ pair_behind m (2 * k + 1) x t ∙ sym (drop-drop 2 (2 * k + 1) m) ∙ ap (drop 2) a.behind
              ∙ drop-drop 2 (2 * k + 1) m₀ ∙ ap (λ (n : ℕ). drop n m₀) (sym i2);
          front = ap (λ (n : ℕ). take n M ++ onward (k + 1) t) i2 ∙ ap (λ (y : List ℕ). y ++ onward (k + 1) t) (pair_front m (2 * k + 1) x t (omega arith))
              ∙ append_assoc (take (2 * k + 1) m) (x ∷ t ∷ []) (onward (k + 1) t)
              ∙ ap (λ (y : List ℕ). take (2 * k + 1) m ++ y) (onward_more k s t action reply one from feasibleSet both h xa xr o f w b e) ∙ a.front;
        })

    at_end : (m₀ : List ℕ) (s₀ : ℕ) (m : List ℕ) (s : ℕ) → 2 * len < length m → At m₀ s₀ m len s → m ≡ written (take 1 m₀ ++ onward 0 s₀) m₀
    unfolding written
    at_end m₀ s₀ m s h a =
        let whole = take 1 m₀ ++ onward 0 s₀ in
        let f : take (2 * len + 1) m ≡ whole =
        sym (append-nil (take (2 * len + 1) m)) ∙ ap (λ (y : List ℕ). take (2 * len + 1) m ++ y) (sym (onward_none s)) ∙ a.front in
        let z : 2 * len + 1 ≡ length whole = sym (length-take-le (2 * len + 1) m (omega arith)) ∙ ap (λ (y : List ℕ). length y) f in
        sym (take-append-drop (2 * len + 1) m) ∙ ap₂ (λ (x y : List ℕ). x ++ y) f (a.behind ∙ ap (λ (j : ℕ). drop j m₀) z)

    -- The first state is written before the loop.
    first_over : (old : List ℕ) (s : ℕ) (rest : List ℕ) → 0 < length old → written (take 1 (set old 0 s) ++ rest) (set old 0 s) ≡ written (s ∷ rest) old
    unfolding written
    first_over [] s rest h = absurd (omega arith)
    first_over (x ∷ old) s rest h = refl

    pub shown_all : (start feasibleSet both : States) (old m : List ℕ) (s₀ k s : ℕ) → 0 < length old → 2 * len < length m → k ≡ len → feasibleSet ≡ rest heads sets path len 0
        → both ≡ set_of (λ u. member start u && member feasibleSet u) → s₀ ≡ least_of (members both) → At (set old 0 s₀) s₀ m k s
        → m ≡ written (trace (path_from path 0 len) (least_states heads sets start (path_from path 0 len))) old
    shown_all start feasibleSet both old m s₀ k s h l end w b e a =
        let z : len - 0 ≡ len = omega arith in
        let c = chosen start feasibleSet both (path_from path 0 (len - 0)) s₀ w b e in
        at_end (set old 0 s₀) s₀ m s l (subst (λ (j : ℕ). At (set old 0 s₀) s₀ m j s) end a)
        ∙ first_over old s₀ (onward 0 s₀) h
        ∙ ap (λ (x : List ℕ). written x old) (ap (λ (x : ℕ). x ∷ onward 0 x) c ∙ trace_first start (path_from path 0 (len - 0)))
        ∙ ap (λ (n : ℕ). written (trace (path_from path 0 n) (least_states heads sets start (path_from path 0 n))) old) z
