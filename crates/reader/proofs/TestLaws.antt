-- Laws of actions as the code reads and tests them: the replies of a probe, lists of actions, and the tests that refuse with 14 and 15. Assumes nothing.
use Prim.Native.Nat.{ℕ, zero, suc, ◌+◌, ◌-◌, ◌≤◌, ◌<◌}
use mathlib.Core.Path.{◌≡◌, refl, sym, ap, ◌∙◌}
use mathlib.Core.Logic.{⊎_elim}
use mathlib.Core.List.{List, [], ◌∷◌, ◌++◌, flat_map, Memᴰ}
use mathlib.Core.Bool.{Bool, true, false, not, ◌&&◌, ◌||◌}
use native.Mathlib.Omega.{arith}
use Rattle.std.specs.Prelude.{Result, Ok, Err}
use native.Mathlib.Nat.{eq-or-lt_of_le, sub-zero}
use lib.ListN.{length, get_or}
use borrow.Author.Tests.{not-true}
use Rattle.lists.specs.Lists.{up_from, below, every, exists, nonempty}
use Rattle.lists.proofs.ListLaws.{or_assoc, or_none, two_cases, same_test, not_both, both_true, and_both, every_mem, mem_every, exists_mem, mem_exists, mem_nonempty, nonempty_mem}
use Rattle.states.specs.declared.States.{States}
use Rattle.states.specs.Sets.{member, set_of, members}
use Rattle.states.proofs.SetLaws.{member_set_of, set_cong, members_mem, mem_members}
use Rattle.format.specs.Syntax.{Objective, bottom, Action, change, probe, reply_count}
use Rattle.format.specs.Truth.{truth, holds, reply_holds}
use Rattle.format.specs.Format.{gives, refused, Read, got, fault, mapped, deepest, objective, objectives, changes, probes, kind, theory_over, replies_over, action, action_list, unless, leads_on, has_reply, action_faults, decided}
use Rattle.format.proofs.ReaderLaws.{mapped_got, mapped_fault, mapped_same, mapped_twice, action_refused, action_change, action_probe, objectives_none, objectives_more, objectives_refused, actions_none, actions_more, actions_refused, actions_split}
use Rattle.format.proofs.SheetLaws.{change_faults, probe_faults}
use Rattle.reader.specs.Answers.{number_of, answer_of, states_in}
use Rattle.reader.specs.Method.{tested, ending, some_holds}
use Rattle.reader.proofs.EndLaws.{ends_mapped}
use Rattle.reader.specs.declared.refusal.Refusal.{Refusal}
use Rattle.reader.specs.declared.formula.View.{View}

-- The states of a set and those in which one of some formulas holds.
abbrev pub joined_to : States → List Objective → States
joined_to set fs = set_of (λ t. member set t || exists (λ f. holds f t) fs)

-- A set that a test gives is the set of its members.
pub set_own : (set : States) (p : ℕ → Bool) → set ≡ set_of p → set ≡ set_of (member set)
set_own set p e = e ∙ set_cong p (member set) (λ s h. sym (ap (λ (x : States). member x s) e ∙ member_set_of p s h))

-- The replies that are left, and the states in which one of those before them holds.
module _ (n : ℕ) (bytes : List ℕ) (p : ℕ) where
  -- No state in the set at first: what the formulas tell is what is left.
  pub some_start : (m : ℕ) (set : States) → set ≡ set_of (λ t. false) → mapped (joined_to set) (objectives n (m - 0) bytes p) ≡ mapped some_holds (objectives n m bytes p)
  unfolding some_holds
  some_start m set e =
      ap (λ (k : ℕ). mapped (joined_to set) (objectives n k bytes p)) (sub-zero m)
      ∙ mapped_same (joined_to set) some_holds
      (λ fs. set_cong (λ t. member set t || exists (λ f. holds f t) fs) (λ t. exists (λ f. holds f t) fs)
      (λ t h. ap (λ (b : Bool). b || exists (λ f. holds f t) fs) (ap (λ (x : States). member x t) e ∙ member_set_of (λ t. false) t h)))
      (objectives n m bytes p)

  -- A reply is read: its states join the set.
  pub some_more : (m i : ℕ) (set reply joined : States) (q : ℕ) → i < m → mapped (states_in View.States) (objective n false deepest bytes p) ≡ got reply q
      → joined ≡ set_of (λ t. member set t || member reply t)
      → mapped (joined_to set) (objectives n (m - i) bytes p) ≡ mapped (joined_to joined) (objectives n (m - (i + 1)) bytes q)
  unfolding states_in holds exists
  some_more m i set reply joined q less e u =
      let o = mapped_got (states_in View.States) (objective n false deepest bytes p) e in
      let f = o.0 in
      let l : m - i ≡ suc (m - (i + 1)) = omega arith in
      let both : ((t : ℕ) → t < 256 → member joined t ≡ (member set t || holds f t)) = λ t h.
      ap (λ (x : States). member x t) u ∙ member_set_of (λ t. member set t || member reply t) t h
      ∙ ap (λ (b : Bool). member set t || b) (ap (λ (x : States). member x t) (sym o.2) ∙ member_set_of (λ t. truth f t t) t h) in
      ap (λ (k : ℕ). mapped (joined_to set) (objectives n k bytes p)) l
      ∙ ap (mapped (joined_to set)) (objectives_more n bytes p (m - (i + 1)) o.1) ∙ mapped_twice (λ fs. f ∷ fs) (joined_to set) (objectives n (m - (i + 1)) bytes q)
      ∙ mapped_same (λ fs. joined_to set (f ∷ fs)) (joined_to joined)
      (λ fs. set_cong (λ t. member set t || (holds f t || exists (λ g. holds g t) fs)) (λ t. member joined t || exists (λ g. holds g t) fs)
      (λ t h. sym (ap (λ (b : Bool). b || exists (λ g. holds g t) fs) (both t h) ∙ or_assoc (member set t) (holds f t) (exists (λ g. holds g t) fs))))
      (objectives n (m - (i + 1)) bytes q)

  -- A reply is refused.
  pub some_refused : (m i : ℕ) (set : States) {r : ℕ} → i < m → mapped (states_in View.States) (objective n false deepest bytes p) ≡ fault r
      → mapped (joined_to set) (objectives n (m - i) bytes p) ≡ fault r
  unfolding mapped
  some_refused m i set less e =
      let l : m - i ≡ suc (m - (i + 1)) = omega arith in
      ap (mapped (joined_to set)) (ap (λ (k : ℕ). objectives n k bytes p) l ∙ objectives_refused n bytes p (m - (i + 1)) (mapped_fault (states_in View.States) (objective n false deepest bytes p) e))

  -- No reply is left: the set is the answer.
  pub some_end : (m i : ℕ) (set : States) → m ≤ i → set ≡ set_of (member set) → mapped (joined_to set) (objectives n (m - i) bytes p) ≡ got set p
  unfolding exists mapped
  some_end m i set all own =
      let l : m - i ≡ 0 = omega arith in
      ap (mapped (joined_to set)) (ap (λ (k : ℕ). objectives n k bytes p) l ∙ objectives_none n bytes p)
      ∙ ap (λ (x : States). got x p) (set_cong (λ t. member set t || false) (member set) (λ t h. or_none (member set t)) ∙ sym own)

-- The actions that are left, only where they end.
module _ (n : ℕ) (bytes : List ℕ) (p k i : ℕ) where
  -- One is read: those behind it end where all that were left end.
  pub list_more : {q : ℕ} → i < k → mapped ending (action n bytes p) ≡ got tt q → mapped ending (action_list n (k - i) bytes p) ≡ mapped ending (action_list n (k - (i + 1)) bytes q)
  list_more {q} less e =
      let l : k - i ≡ suc (k - (i + 1)) = omega arith in
      let w = mapped_got ending (action n bytes p) e in
      ap (λ (j : ℕ). mapped ending (action_list n j bytes p)) l ∙ ap (mapped ending) (actions_more n bytes p (k - (i + 1)) w.1)
      ∙ ends_mapped (λ rest. w.0 ∷ rest) (action_list n (k - (i + 1)) bytes q)

  -- One is refused.
  pub list_refused : {r : ℕ} → i < k → mapped ending (action n bytes p) ≡ fault r → mapped ending (action_list n (k - i) bytes p) ≡ fault r
  unfolding mapped
  list_refused less e =
      let l : k - i ≡ suc (k - (i + 1)) = omega arith in
      ap (mapped ending) (ap (λ (j : ℕ). action_list n j bytes p) l ∙ actions_refused n bytes p (k - (i + 1)) (mapped_fault ending (action n bytes p) e))

  -- None is left: this is where they end.
  pub list_end : k ≤ i → mapped ending (action_list n (k - i) bytes p) ≡ got tt p
  unfolding mapped ending
  list_end all = let l : k - i ≡ 0 = omega arith in ap (mapped ending) (ap (λ (j : ℕ). action_list n j bytes p) l ∙ actions_none n bytes p)

-- What is tested, by what was read.
module _ {A : Type 0} (tests : A → List ℕ) where
  pub tested_got : {x : Read A} {a : A} {p : ℕ} → x ≡ got a p → tested tests x ≡ decided (tests a) p
  unfolding tested
  tested_got e = rw e

  pub tested_fault : {x : Read A} {r : ℕ} → x ≡ fault r → refused r ≡ tested tests x
  unfolding tested
  tested_fault e = rw e

  -- So is a value that is made of it, which fails the same tests.
  tested_made : {B : Type 0} (more : B → List ℕ) (make : A → B) → ((a : A) → tests a ≡ more (make a)) → (x : Read A) → tested tests x ≡ tested more (mapped make x)
  unfolding tested mapped
  tested_made more make h (got a p) = ap (λ (xs : List ℕ). decided xs p) (h a)
  tested_made more make h (fault r) = refl

-- The first test that fails decides.
module _ {A : Type 0} where
  passed_none : (xs : List ℕ) (a : A) {b : A} → decided xs a ≡ gives b → (xs ≡ []) × (a ≡ b)
  unfolding decided
  passed_none [] a e = (refl, cc)
  passed_none (x ∷ xs) a e = let z : ◌≡◌ {A = ℕ} 0 1 = cc in absurd (omega arith)

  failed_first : (xs ys : List ℕ) (a b : A) {r : ℕ} → decided xs a ≡ refused r → decided (xs ++ ys) b ≡ refused r
  unfolding decided
  failed_first [] ys a b e = let z : ◌≡◌ {A = ℕ} 0 1 = cc in absurd (omega arith)
  failed_first (x ∷ xs) ys a b {r} e = let z : x ≡ r = cc in ap refused z

-- The tests of the actions at p, of which k are left, decide as those of all actions, which end at q.
pub record Left (space : List ℕ) (n : ℕ) (bytes : List ℕ) (actions : List Action) (q p k : ℕ) : Type 0 where
  pub rest : List Action
  pub read : action_list n k bytes p ≡ got rest q
  pub decide : decided (flat_map (action_faults space) rest) q ≡ decided (flat_map (action_faults space) actions) q

module _ (space : List ℕ) (n : ℕ) (bytes : List ℕ) (actions : List Action) (q : ℕ) where
  -- At first all are left.
  pub left_all : (p k : ℕ) → action_list n k bytes p ≡ got actions q → Left space n bytes actions q p (k - 0)
  left_all p k e = record { rest = actions; read = ap (λ (j : ℕ). action_list n j bytes p) (sub-zero k) ∙ e; decide = refl }

  -- The action at p is tested.
  module _ {p k i : ℕ} (less : i < k) (left : Left space n bytes actions q p (k - i)) (r : Result ℕ Refusal)
      (e : answer_of r ≡ tested (action_faults space) (action n bytes p)) where
    abbrev split : (a : Action) × (j : ℕ) × (rest : List Action) × (action n bytes p ≡ got a j) × (action_list n (k - (i + 1)) bytes j ≡ got rest q) × (a ∷ rest ≡ left.rest)
    split =
        let l : suc (k - (i + 1)) ≡ k - i = omega arith in
        actions_split n bytes p (k - (i + 1)) left.rest q (ap (λ (j : ℕ). action_list n j bytes p) l ∙ left.read)

    abbrev faults : List ℕ
    faults = action_faults space split.0

    whole : decided (flat_map (action_faults space) (split.0 ∷ split.2)) q ≡ decided (flat_map (action_faults space) actions) q
    whole = ap (λ (x : List Action). decided (flat_map (action_faults space) x) q) split.5 ∙ left.decide

    told : answer_of r ≡ decided faults split.1
    told = e ∙ tested_got (action_faults space) split.3

    -- It passes: those behind it are left.
    pub left_more : {next : ℕ} → r ≡ Ok next → Left space n bytes actions q next (k - (i + 1))
    unfolding answer_of flat_map
    left_more {next} h =
        let w = passed_none faults split.1 (sym told ∙ ap answer_of h) in
        record {
          rest = split.2;
          read = ap (action_list n (k - (i + 1)) bytes) (sym w.1) ∙ split.4;
          decide = ap (λ (x : List ℕ). decided (x ++ flat_map (action_faults space) split.2) q) (sym w.0) ∙ whole;
        }

    -- It fails.
    pub left_fails : {x : Refusal} → r ≡ Err x → refused (number_of x) ≡ decided (flat_map (action_faults space) actions) q
    unfolding answer_of flat_map
    left_fails h = sym (failed_first faults (flat_map (action_faults space) split.2) split.1 q (sym told ∙ ap answer_of h)) ∙ whole

  -- None is left: all passed.
  pub left_none : (p k i : ℕ) → k ≤ i → Left space n bytes actions q p (k - i) → gives p ≡ decided (flat_map (action_faults space) actions) q
  unfolding decided flat_map
  left_none p k i all left =
      let l : 0 ≡ k - i = omega arith in
      let e : got [] p ≡ got left.rest q = sym (actions_none n bytes p) ∙ ap (λ (j : ℕ). action_list n j bytes p) l ∙ left.read in
      let none : [] ≡ left.rest = cc in
      let end : p ≡ q = cc in
      ap (λ (j : ℕ). gives j) end ∙ ap (λ (x : List Action). decided (flat_map (action_faults space) x) q) none ∙ left.decide

-- The tests of an action, by its kind.
module _ (space : List ℕ) (n : ℕ) (bytes : List ℕ) (p : ℕ) where
  pub kind_tested : {r : ℕ} → kind bytes p ≡ fault r → refused r ≡ tested (action_faults space) (action n bytes p)
  kind_tested e = tested_fault (action_faults space) (action_refused n bytes p e)

  module _ {q : ℕ} where
    pub change_tested : kind bytes p ≡ got changes q → tested (λ f. unless (leads_on space (truth f)) 14) (theory_over n bytes q) ≡ tested (action_faults space) (action n bytes p)
    change_tested e =
        tested_made (λ f. unless (leads_on space (truth f)) 14) (action_faults space) change (λ f. sym (change_faults space f)) (theory_over n bytes q)
        ∙ ap (tested (action_faults space)) (sym (action_change n bytes p e))

    pub probe_tested : kind bytes p ≡ got probes q → tested (λ fs. unless (has_reply space (probe fs)) 15) (replies_over n bytes q) ≡ tested (action_faults space) (action n bytes p)
    probe_tested e =
        tested_made (λ fs. unless (has_reply space (probe fs)) 15) (action_faults space) probe (λ fs. sym (probe_faults space fs)) (replies_over n bytes q)
        ∙ ap (tested (action_faults space)) (sym (action_probe n bytes p e))

-- A test that passes or fails, by what the code found.
module _ (number end : ℕ) {b test : Bool} (is : b ≡ test) where
  pub test_passes : b ≡ true → gives end ≡ decided (unless test number) end
  unfolding decided unless
  test_passes e = ap (λ (x : Bool). decided (unless x number) end) (sym e ∙ is)

  pub test_fails : b ≡ false → refused number ≡ decided (unless test number) end
  unfolding decided unless
  test_fails e = ap (λ (x : Bool). decided (unless x number) end) (sym e ∙ is)

-- Whether a number from a + 1 on passes is whether the one behind a number from a on does.
exists_shift : (test : ℕ → Bool) (a k : ℕ) → exists test (up_from (suc a) k) ≡ exists (λ i. test (suc i)) (up_from a k)
unfolding exists up_from
exists_shift test a zero = refl
exists_shift test a (suc k) = ap (λ (b : Bool). test (suc a) || b) (exists_shift test (suc a) k)

-- Whether an element passes, by the numbers of the elements.
exists_numbered : {A : Type 0} (test : A → Bool) (d : A) (xs : List A) → exists (λ i. test (get_or xs i d)) (below (length xs)) ≡ exists test xs
unfolding exists up_from
exists_numbered test d [] = refl
exists_numbered test d (x ∷ xs) = ap (λ (b : Bool). test x || b) (exists_shift (λ i. test (get_or (x ∷ xs) i d)) 0 (length xs) ∙ exists_numbered test d xs)

-- A state has a reply where it is in the set of the states in which one holds.
reply_set : (set : States) (fs : List Objective) → set ≡ some_holds fs → (s : ℕ) → s < 256 → exists (λ r. reply_holds (probe fs) r s) (below (length fs)) ≡ member set s
unfolding reply_holds some_holds
reply_set set fs e s h =
    exists_numbered (λ f. holds f s) bottom fs ∙ sym (ap (λ (x : States). member x s) e ∙ member_set_of (λ t. exists (λ f. holds f t) fs) s h)

module _ (space set apart : States) (e : apart ≡ set_of (λ s. member space s && not (member set s))) where
  apart_mem : (s : ℕ) → s < 256 → member apart s ≡ (member space s && not (member set s))
  apart_mem s h = ap (λ (x : States). member x s) e ∙ member_set_of (λ s. member space s && not (member set s)) s h

  -- No state of the space is apart from the set where each has a reply.
  pub covered : (fs : List Objective) → set ≡ some_holds fs → not (nonempty (members apart)) ≡ has_reply (members space) (probe fs)
  unfolding has_reply reply_count
  covered fs u = same_test (not (nonempty (members apart))) (every test (members space)) to from
    where
      test : ℕ → Bool
      test s = exists (λ r. reply_holds (probe fs) r s) (below (length fs))

      to : not (nonempty (members apart)) ≡ true → every test (members space) ≡ true
      to n = mem_every test (members space) (λ s m.
          let i = members_mem space m in
          ⊎_elim (λ y. reply_set set fs u s i.0 ∙ y)
          (λ x. not_both (mem_nonempty (members apart) (mem_members apart s i.0 (apart_mem s i.0 ∙ and_both (member space s) (not (member set s)) i.1 (ap not x)))) (not-true (nonempty (members apart)) n))
          (two_cases (member set s)))

      from : every test (members space) ≡ true → not (nonempty (members apart)) ≡ true
      from all = ⊎_elim
          (λ y. let r = nonempty_mem (members apart) y in
          let i = members_mem apart r.1 in
          let b = both_true (member space r.0) (not (member set r.0)) (sym (apart_mem r.0 i.0) ∙ i.1) in
          not_both (sym (reply_set set fs u r.0 i.0) ∙ every_mem test (members space) all (mem_members space r.0 i.0 b.0)) (not-true (member set r.0) b.1))
          (λ n. ap not n)
          (two_cases (nonempty (members apart)))

-- Whether a theory allows from a state a next state among some states.
abbrev leads : (f : Objective) (space : List ℕ) (s : ℕ) → Bool
leads f space s = exists (λ t. truth f s t) space

-- The search for a next state of each state of the space.
module _ (f : Objective) (space : States) where
  -- Every state of the space before the one to try has a next state in it.
  abbrev pub Tried : (old : ℕ) → Type 0
  Tried old = (s : ℕ) → s < old → member space s ≡ true → exists (λ t. truth f s t) (members space) ≡ true

  tried_more : {old : ℕ} → Tried old → (member space old ≡ true → leads f (members space) old ≡ true) → Tried (old + 1)
  tried_more {old} h now s less m =
      ⊎_elim (λ (e : s ≡ old). ap (leads f (members space)) e ∙ now (ap (member space) (sym e) ∙ m)) (λ l. h s l m) (eq-or-lt_of_le (omega arith))

  -- A state outside the space needs no try.
  pub tried_outside : {old : ℕ} → Tried old → member space old ≡ false → Tried (old + 1)
  tried_outside h out = tried_more h (λ m. not_both m out)

  -- The next states of a state that are in the space.
  row_leads : (old new : ℕ) (after row : States) → after ≡ states_in (View.Next old) f → row ≡ set_of (λ t. member after t && member space t) → new < 256
      → member row new ≡ (truth f old new && member space new)
  unfolding states_in
  row_leads old new after row a e l =
      ap (λ (x : States). member x new) e ∙ member_set_of (λ t. member after t && member space t) new l
      ∙ ap (λ (b : Bool). b && member space new) (ap (λ (x : States). member x new) a ∙ member_set_of (λ t. truth f old t) new l)

  -- A next state is found.
  pub tried_found : {old new : ℕ} {after row : States} → Tried old → new < 256
      → after ≡ states_in (View.Next old) f → row ≡ set_of (λ t. member after t && member space t) → member row new ≡ true → Tried (old + 1)
  tried_found {old} {new} {after} {row} h l a e m =
      let both = both_true (truth f old new) (member space new) (sym (row_leads old new after row a e l) ∙ m) in
      let here : Memᴰ new (members space) = mem_members space new l both.1 in
      tried_more h (λ i. mem_exists (λ t. truth f old t) (members space) here both.0)

  -- A state of the space has no next state: the theory doesn't lead on.
  pub tried_stuck : (old : ℕ) (after row : States) → old < 256 → member space old ≡ true → after ≡ states_in (View.Next old) f
      → row ≡ set_of (λ t. member after t && member space t) → ((t : ℕ) → t < 256 → member row t ≡ false)
      → leads_on (members space) (truth f) ≡ false
  unfolding leads_on
  tried_stuck old after row l i a e none =
      same_test (every (leads f (members space)) (members space)) false
      (λ all. let r = exists_mem (λ t. truth f old t) (members space) (every_mem (leads f (members space)) (members space) all (mem_members space old l i)) in
      let k = members_mem space r.1 in
      not_both (row_leads old r.0 after row a e k.0 ∙ and_both (truth f old r.0) (member space r.0) r.2 k.1) (none r.0 k.0))
      (λ z. not_both z refl)

  -- Every state is tried: the theory leads on.
  pub tried_all : Tried 256 → leads_on (members space) (truth f) ≡ true
  unfolding leads_on
  tried_all h = mem_every (leads f (members space)) (members space) (λ s m. let k = members_mem space m in h s k.0 k.1)

-- No state below one is in a set; one more is passed over.
pub none_more : (row : States) (new : ℕ) → ((t : ℕ) → t < new → member row t ≡ false) → member row new ≡ false → (t : ℕ) → t < new + 1 → member row t ≡ false
none_more row new h e t l = ⊎_elim (λ (z : t ≡ new). ap (member row) z ∙ e) (λ k. h t k) (eq-or-lt_of_le (omega arith))
