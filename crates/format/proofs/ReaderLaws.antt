-- Laws of reading by what is found: another value made of it, a sheet by its length, a fact number by its field, and formulas, actions and programs by their first nodes. Assumes nothing.
use Prim.Native.Nat.{ℕ, zero, suc, ◌-◌, ◌<◌, ◌≤◌}
use mathlib.Core.Path.{◌≡◌, refl, sym, ap, subst, ◌∙◌}
use mathlib.Core.List.{List, [], ◌∷◌}
use mathlib.Core.Bool.{Bool, false}
use native.Mathlib.Omega.{arith}
use native.Mathlib.Numerals.{sub-one}
use lib.Dec.{ltb}
use lib.ListN.{length}
use borrow.Author.Tests.{lt-ltb, le-ltb, le-leb, lt-leb}
use Rattle.std.specs.Prelude.{if◌then◌else◌}
use Rattle.format.specs.Syntax.{Objective, Epistemic, known, not_known, all_of, any_of, Action, change, probe}
use Rattle.format.specs.Format.{Read, got, fault, Reader, and_then, ◌>>=◌, mapped, give, refuse, check, field, most_bytes, deepest, fact_number, objective_behind, objective, EpistemicNode, known_node, not_known_node, all_of_node, any_of_node, epistemic_node, epistemic_behind, epistemic, objectives, changes, probes, kind, reply_total, theory_over, replies_over, action_behind, action, action_list, ProgramNode, program_node, program_behind, program_within, of_sheet}
use Rattle.format.proofs.FormatLaws.{Behind, got_behind, behind_got, behind_fault}

module _ {A B : Type 0} (f : A → B) where
  -- Where a value made of what was read is found, the value that it was made of was read.
  pub mapped_got : (x : Read A) {b : B} {q : ℕ} → mapped f x ≡ got b q → (a : A) × (x ≡ got a q) × (f a ≡ b)
  unfolding mapped
  mapped_got (got a p) {b} {q} e = let z : p ≡ q = cc in (a, ap (got a) z, cc)
  mapped_got (fault r) e = let z : ◌≡◌ {A = ℕ} 0 1 = cc in absurd (omega arith)

  -- Where none is found, the reading was refused.
  pub mapped_fault : (x : Read A) {r : ℕ} → mapped f x ≡ fault r → x ≡ fault r
  unfolding mapped
  mapped_fault (got a p) e = let z : ◌≡◌ {A = ℕ} 0 1 = cc in absurd (omega arith)
  mapped_fault (fault i) {r} e = let z : i ≡ r = cc in ap fault z

  -- Where one value that is made of a reading is refused, so is any other.
  pub also_refused : {C : Type 0} (h : A → C) (x : Read A) {r : ℕ} → mapped f x ≡ fault r → mapped h x ≡ fault r
  unfolding mapped
  also_refused h x e = ap (mapped h) (mapped_fault x e)

  -- The value that was made of what is known to be found; and that isn't refused.
  pub made_value : {x : Read A} {b : B} {q : ℕ} {a : A} {p : ℕ} → mapped f x ≡ got b q → x ≡ got a p → (b ≡ f a) × (q ≡ p)
  unfolding mapped
  made_value e k = let h = ap (mapped f) k in (cc, cc)

  pub never_refused : {x : Read A} {r : ℕ} {a : A} {p : ℕ} {C : Type 0} → mapped f x ≡ fault r → x ≡ got a p → C
  unfolding mapped
  never_refused e k = let h = ap (mapped f) k in let z : ◌≡◌ {A = ℕ} 0 1 = cc in absurd (omega arith)

  -- A value made of a value that is made of what was read.
  pub mapped_twice : {C : Type 0} (g : B → C) (x : Read A) → mapped g (mapped f x) ≡ mapped (λ a. g (f a)) x
  unfolding mapped
  mapped_twice g (got a p) = refl
  mapped_twice g (fault r) = refl

  -- The same value is made of what was read by functions that agree.
  pub mapped_same : (g : A → B) → ((a : A) → f a ≡ g a) → (x : Read A) → mapped f x ≡ mapped g x
  unfolding mapped
  mapped_same g h (got a p) = ap (λ (b : B). got b p) (h a)
  mapped_same g h (fault r) = refl

-- Giving a value made of what was read, and another made of that.
pub give_mapped : {A B : Type 0} (f : A → B) (m : Reader A) (bytes : List ℕ) (p : ℕ) → (m >>= λ a. give (f a)) bytes p ≡ mapped f (m bytes p)
unfolding ◌>>=◌ and_then give mapped
give_mapped {A} f m bytes p = go (m bytes p)
  where
    go : (x : Read A) → and_then x (λ a q. give (f a) bytes q) ≡ mapped f x
    go (got a q) = refl
    go (fault r) = refl

pub mapped_give : {A B C : Type 0} (g : B → C) (m : Reader A) (f : A → B) (bytes : List ℕ) (p : ℕ) → mapped g ((m >>= λ a. give (f a)) bytes p) ≡ mapped (λ a. g (f a)) (m bytes p)
mapped_give g m f bytes p = ap (mapped g) (give_mapped f m bytes p) ∙ mapped_twice f g (m bytes p)

-- What was found of what the code names otherwise.
pub found_as : {A B : Type 0} (of : A → B) {a b : A} {p : ℕ} {x : Read B} → got (of a) p ≡ x → a ≡ b → x ≡ got (of b) p
found_as of {p = p} e same = sym e ∙ ap (λ y. got (of y) p) same

-- A sheet by its length.
module _ {A : Type 0} (m : Reader A) (bytes : List ℕ) (p : ℕ) where
  -- One of at most 1,024 bytes is read.
  pub sheet_short : {r : Read A} → length bytes ≤ most_bytes → m bytes p ≡ r → r ≡ of_sheet m bytes p
  unfolding of_sheet
  sheet_short h e = rw (le-leb (length bytes) most_bytes h, e)

  -- A longer one is refused.
  pub sheet_long : most_bytes < length bytes → fault 1 ≡ of_sheet m bytes p
  unfolding of_sheet
  sheet_long h = rw (lt-leb (length bytes) most_bytes h)

-- A fact number, by its field.
module _ (n : ℕ) (bytes : List ℕ) (p : ℕ) where
  -- It is cut where the field is.
  pub fact_cut : {r : ℕ} → field 3 bytes p ≡ fault r → fact_number n bytes p ≡ fault r
  unfolding fact_number
  fact_cut e = behind_fault (field 3) (λ i. check (ltb i n) 6 (give i)) bytes p e

  -- A number below n is given.
  pub fact_in_law : {i q : ℕ} → field 3 bytes p ≡ got i q → i < n → fact_number n bytes p ≡ got i q
  unfolding fact_number check give
  fact_in_law {i} e h = behind_got (field 3) (λ i. check (ltb i n) 6 (give i)) bytes p e ∙ rw (lt-ltb i n h)

  -- Any other is refused.
  pub fact_out : {i q : ℕ} → field 3 bytes p ≡ got i q → n ≤ i → fact_number n bytes p ≡ fault 6
  unfolding fact_number check refuse
  fact_out {i} e h = behind_got (field 3) (λ i. check (ltb i n) 6 (give i)) bytes p e ∙ rw (le-ltb i n h)

-- An objective formula, by the levels left and its tag.
module _ (n : ℕ) (theory : Bool) (bytes : List ℕ) (p : ℕ) where
  -- With no level left it is refused.
  pub objective_none : (d : ℕ) → d ≡ 0 → objective n theory d bytes p ≡ fault 8
  unfolding objective refuse
  objective_none d e = rw e

  -- It is cut where its tag is.
  pub objective_cut : (d : ℕ) → (d ≡ 0 → ⊥) → {r : ℕ} → field 3 bytes p ≡ fault r → objective n theory d bytes p ≡ fault r
  unfolding objective
  objective_cut zero h e = absurd (h refl)
  objective_cut (suc d) h e = behind_fault (field 3) (objective_behind n theory (objective n theory d)) bytes p e

  -- Behind its tag its parts have a level less.
  pub objective_tag : (d : ℕ) → (d ≡ 0 → ⊥) → {tag q : ℕ} → field 3 bytes p ≡ got tag q → objective n theory d bytes p ≡ objective_behind n theory (objective n theory (d - 1)) tag bytes q
  unfolding objective
  objective_tag zero h e = absurd (h refl)
  objective_tag (suc d) h {tag} {q} e =
      behind_got (field 3) (objective_behind n theory (objective n theory d)) bytes p e
      ∙ ap (λ (k : ℕ). objective_behind n theory (objective n theory k) tag bytes q) (sym (sub-one (suc d)))

-- An epistemic formula, by the levels left and its first node.
module _ (n : ℕ) (bytes : List ℕ) (p : ℕ) where
  -- With no level left it is refused.
  pub epistemic_none : (d : ℕ) → d ≡ 0 → epistemic n d bytes p ≡ fault 8
  unfolding epistemic refuse
  epistemic_none d e = rw e

  -- It is refused where its first node is.
  pub epistemic_refused : (d : ℕ) → (d ≡ 0 → ⊥) → {r : ℕ} → epistemic_node bytes p ≡ fault r → epistemic n d bytes p ≡ fault r
  unfolding epistemic
  epistemic_refused zero h e = absurd (h refl)
  epistemic_refused (suc d) h e = behind_fault epistemic_node (epistemic_behind (objective n false d) (epistemic n d)) bytes p e

  -- Behind its first node its parts have a level less.
  pub epistemic_node_law : (d : ℕ) → (d ≡ 0 → ⊥) → {h : EpistemicNode} {q : ℕ} → epistemic_node bytes p ≡ got h q
      → epistemic n d bytes p ≡ epistemic_behind (objective n false (d - 1)) (epistemic n (d - 1)) h bytes q
  unfolding epistemic
  epistemic_node_law zero l e = absurd (l refl)
  epistemic_node_law (suc d) l {h} {q} e =
      behind_got epistemic_node (epistemic_behind (objective n false d) (epistemic n d)) bytes p e
      ∙ ap (λ (k : ℕ). epistemic_behind (objective n false k) (epistemic n k) h bytes q) (sym (sub-one (suc d)))

  -- One that was read had a level left and a first node.
  pub epistemic_split : (d : ℕ) (f : Epistemic) (q : ℕ) → epistemic n d bytes p ≡ got f q
      → (1 ≤ d) × (h : EpistemicNode) × (r : ℕ) × (epistemic_node bytes p ≡ got h r) × (epistemic_behind (objective n false (d - 1)) (epistemic n (d - 1)) h bytes r ≡ got f q)
  epistemic_split zero f q e = let k = sym (epistemic_none 0 refl) ∙ e in let z : ◌≡◌ {A = ℕ} 0 1 = cc in absurd (omega arith)
  epistemic_split (suc d) f q e =
      let l : d ≡ suc d - 1 = omega arith in
      let w : Behind epistemic_node (epistemic_behind (objective n false d) (epistemic n d)) bytes p f q = unfold epistemic in (got_behind epistemic_node (epistemic_behind (objective n false d) (epistemic n d)) bytes p f q e) in
      (omega arith, w.value, w.middle, w.first, ap (λ (k : ℕ). epistemic_behind (objective n false k) (epistemic n k) w.value bytes w.middle) (sym l) ∙ w.second)

-- An epistemic formula behind its first node.
module _ (inside : Reader Objective) (part : Reader Epistemic) (bytes : List ℕ) (q : ℕ) where
  pub known_behind : epistemic_behind inside part known_node bytes q ≡ mapped known (inside bytes q)
  unfolding epistemic_behind
  known_behind = give_mapped known inside bytes q

  pub not_known_behind : epistemic_behind inside part not_known_node bytes q ≡ mapped not_known (inside bytes q)
  unfolding epistemic_behind
  not_known_behind = give_mapped not_known inside bytes q

  -- Two parts and a value made of them.
  two : (make : Epistemic → Epistemic → Epistemic) {f : Epistemic} {i : ℕ} → part bytes q ≡ got f i → (part >>= λ f. part >>= λ g. give (make f g)) bytes q ≡ mapped (make f) (part bytes i)
  two make {f} {i} e = behind_got part (λ f. part >>= λ g. give (make f g)) bytes q e ∙ give_mapped (make f) part bytes i

  module _ {f : Epistemic} {i : ℕ} (e : part bytes q ≡ got f i) where
    pub all_of_behind : epistemic_behind inside part all_of_node bytes q ≡ mapped (all_of f) (part bytes i)
    unfolding epistemic_behind
    all_of_behind = two all_of e

    pub any_of_behind : epistemic_behind inside part any_of_node bytes q ≡ mapped (any_of f) (part bytes i)
    unfolding epistemic_behind
    any_of_behind = two any_of e

  module _ {r : ℕ} (e : part bytes q ≡ fault r) where
    pub all_of_refused : epistemic_behind inside part all_of_node bytes q ≡ fault r
    unfolding epistemic_behind
    all_of_refused = behind_fault part (λ f. part >>= λ g. give (all_of f g)) bytes q e

    pub any_of_refused : epistemic_behind inside part any_of_node bytes q ≡ fault r
    unfolding epistemic_behind
    any_of_refused = behind_fault part (λ f. part >>= λ g. give (any_of f g)) bytes q e

  -- Such a formula that was read: its parts.
  module _ (f : Epistemic) (i : ℕ) where
    pub known_split : epistemic_behind inside part known_node bytes q ≡ got f i → (g : Objective) × (inside bytes q ≡ got g i) × (known g ≡ f)
    known_split e = mapped_got known (inside bytes q) (sym known_behind ∙ e)

    pub not_known_split : epistemic_behind inside part not_known_node bytes q ≡ got f i → (g : Objective) × (inside bytes q ≡ got g i) × (not_known g ≡ f)
    not_known_split e = mapped_got not_known (inside bytes q) (sym not_known_behind ∙ e)

    -- Two parts and what is made of them.
    pub record Pair (make : Epistemic → Epistemic → Epistemic) : Type 0 where
      pub first : Epistemic
      pub middle : ℕ
      pub second : Epistemic
      pub first_read : part bytes q ≡ got first middle
      pub second_read : part bytes middle ≡ got second i
      pub is : make first second ≡ f

    two_split : (make : Epistemic → Epistemic → Epistemic) → (part >>= λ f. part >>= λ g. give (make f g)) bytes q ≡ got f i → Pair make
    two_split make e =
        let w = got_behind part (λ f. part >>= λ g. give (make f g)) bytes q f i e in
        let v = mapped_got (make w.value) (part bytes w.middle) (sym (give_mapped (make w.value) part bytes w.middle) ∙ w.second) in
        record { first = w.value; middle = w.middle; second = v.0; first_read = w.first; second_read = v.1; is = v.2 }

    pub all_of_split : epistemic_behind inside part all_of_node bytes q ≡ got f i → Pair all_of
    unfolding epistemic_behind
    all_of_split e = two_split all_of e

    pub any_of_split : epistemic_behind inside part any_of_node bytes q ≡ got f i → Pair any_of
    unfolding epistemic_behind
    any_of_split e = two_split any_of e

-- A formula has at most so many levels: "A formula's first node has depth 1 and each part one more".
unfoldable pub Levels : Epistemic → ℕ → Type 0
Levels (known f) left = 1 ≤ left
Levels (not_known f) left = 1 ≤ left
Levels (all_of f g) left = (1 ≤ left) × Levels f (left - 1) × Levels g (left - 1)
Levels (any_of f g) left = (1 ≤ left) × Levels f (left - 1) × Levels g (left - 1)

-- One that is read has at most those that were left.
pub read_levels : (n : ℕ) (bytes : List ℕ) (left p : ℕ) (f : Epistemic) (q : ℕ) → epistemic n left bytes p ≡ got f q → Levels f left
unfolding Levels
read_levels n bytes zero p f q e = absurd (omega (arith, (epistemic_split n bytes p zero f q e).0))
read_levels n bytes (suc l) p f q e =
    let w = epistemic_split n bytes p (suc l) f q e in
    let less : suc l - 1 ≡ l = omega arith in
    go w.1 w.2 w.4 (λ i g j d. subst (Levels g) (sym less) (read_levels n bytes l i g j (ap (λ (k : ℕ). epistemic n k bytes i) (sym less) ∙ d)))
  where
    go : (h : EpistemicNode) (r : ℕ) → epistemic_behind (objective n false (suc l - 1)) (epistemic n (suc l - 1)) h bytes r ≡ got f q
        → ((i : ℕ) (g : Epistemic) (j : ℕ) → epistemic n (suc l - 1) bytes i ≡ got g j → Levels g (suc l - 1)) → Levels f (suc l)
    go known_node r d parts = subst (λ (g : Epistemic). Levels g (suc l)) (known_split _ _ bytes r f q d).2 (omega arith)
    go not_known_node r d parts = subst (λ (g : Epistemic). Levels g (suc l)) (not_known_split _ _ bytes r f q d).2 (omega arith)
    go all_of_node r d parts =
        let w = all_of_split _ _ bytes r f q d in
        subst (λ (g : Epistemic). Levels g (suc l)) w.is (omega arith, parts r w.first w.middle w.first_read, parts w.middle w.second q w.second_read)
    go any_of_node r d parts =
        let w = any_of_split _ _ bytes r f q d in
        subst (λ (g : Epistemic). Levels g (suc l)) w.is (omega arith, parts r w.first w.middle w.first_read, parts w.middle w.second q w.second_read)

-- An action, by its kind.
module _ (n : ℕ) (bytes : List ℕ) (p : ℕ) where
  pub action_refused : {r : ℕ} → kind bytes p ≡ fault r → action n bytes p ≡ fault r
  unfolding action
  action_refused e = behind_fault kind (action_behind n) bytes p e

  module _ {q : ℕ} where
    pub action_change : kind bytes p ≡ got changes q → action n bytes p ≡ mapped change (theory_over n bytes q)
    unfolding action action_behind
    action_change e = behind_got kind (action_behind n) bytes p e ∙ give_mapped change (theory_over n) bytes q

    pub action_probe : kind bytes p ≡ got probes q → action n bytes p ≡ mapped probe (replies_over n bytes q)
    unfolding action action_behind
    action_probe e = behind_got kind (action_behind n) bytes p e ∙ give_mapped probe (replies_over n) bytes q

  -- The replies of a probe, by their count.
  pub replies_refused : {r : ℕ} → reply_total bytes p ≡ fault r → replies_over n bytes p ≡ fault r
  unfolding replies_over
  replies_refused e = behind_fault reply_total (objectives n) bytes p e

  pub replies_counted : {m q : ℕ} → reply_total bytes p ≡ got m q → replies_over n bytes p ≡ objectives n m bytes q
  unfolding replies_over
  replies_counted e = behind_got reply_total (objectives n) bytes p e

  -- Formulas one after the other: none; the first and those behind it; the first is refused.
  pub objectives_none : objectives n 0 bytes p ≡ got [] p
  unfolding objectives give
  objectives_none = refl

  pub objectives_more : (m : ℕ) {f : Objective} {q : ℕ} → objective n false deepest bytes p ≡ got f q → objectives n (suc m) bytes p ≡ mapped (λ fs. f ∷ fs) (objectives n m bytes q)
  unfolding objectives
  objectives_more m {f} {q} e =
      behind_got (objective n false deepest) (λ f. objectives n m >>= λ fs. give (f ∷ fs)) bytes p e ∙ give_mapped (λ fs. f ∷ fs) (objectives n m) bytes q

  pub objectives_refused : (m : ℕ) {r : ℕ} → objective n false deepest bytes p ≡ fault r → objectives n (suc m) bytes p ≡ fault r
  unfolding objectives
  objectives_refused m e = behind_fault (objective n false deepest) (λ f. objectives n m >>= λ fs. give (f ∷ fs)) bytes p e

  -- So for actions.
  pub actions_none : action_list n 0 bytes p ≡ got [] p
  unfolding action_list give
  actions_none = refl

  pub actions_more : (k : ℕ) {a : Action} {q : ℕ} → action n bytes p ≡ got a q → action_list n (suc k) bytes p ≡ mapped (λ rest. a ∷ rest) (action_list n k bytes q)
  unfolding action_list
  actions_more k {a} {q} e = behind_got (action n) (λ a. action_list n k >>= λ rest. give (a ∷ rest)) bytes p e ∙ give_mapped (λ rest. a ∷ rest) (action_list n k) bytes q

  pub actions_refused : (k : ℕ) {r : ℕ} → action n bytes p ≡ fault r → action_list n (suc k) bytes p ≡ fault r
  unfolding action_list
  actions_refused k e = behind_fault (action n) (λ a. action_list n k >>= λ rest. give (a ∷ rest)) bytes p e

  -- Actions that were read: the first and those behind it.
  pub actions_split : (k : ℕ) (actions : List Action) (q : ℕ) → action_list n (suc k) bytes p ≡ got actions q
      → (a : Action) × (i : ℕ) × (rest : List Action) × (action n bytes p ≡ got a i) × (action_list n k bytes i ≡ got rest q) × (a ∷ rest ≡ actions)
  unfolding action_list give
  actions_split k actions q e =
      let w = got_behind (action n) (λ a. action_list n k >>= λ rest. give (a ∷ rest)) bytes p actions q e in
      let v = got_behind (action_list n k) (λ rest. give (w.value ∷ rest)) bytes w.middle actions q w.second in
      let last : got (w.value ∷ v.value) v.middle ≡ got actions q = v.second in
      let end : v.middle ≡ q = cc in
      (w.value, w.middle, v.value, w.first, v.first ∙ ap (got v.value) end, cc)

-- A program, by the levels left and its first node.
module _ (n k d acts branches : ℕ) (bytes : List ℕ) (p : ℕ) where
  -- With no level left it is refused.
  pub program_none : d ≡ 0 → program_within n k d acts branches bytes p ≡ fault 11
  unfolding program_within refuse
  program_none e = rw e

  module _ (some : d ≡ 0 → ⊥) where
    -- It is refused where its first node is.
    pub program_refused : {r : ℕ} → program_node acts branches bytes p ≡ fault r → program_within n k d acts branches bytes p ≡ fault r
    program_refused {r} e = go d some
      where
        go : (d : ℕ) → (d ≡ 0 → ⊥) → program_within n k d acts branches bytes p ≡ fault r
        go zero h = absurd (h refl)
        go (suc d) h = unfold program_within in (behind_fault (program_node acts branches) (program_behind n k (program_within n k d) acts branches) bytes p e)

    -- Behind it the parts have a level less.
    pub program_node_law : {h : ProgramNode} {q : ℕ} → program_node acts branches bytes p ≡ got h q
        → program_within n k d acts branches bytes p ≡ program_behind n k (program_within n k (d - 1)) acts branches h bytes q
    program_node_law {h} {q} e = go d some
      where
        go : (d : ℕ) → (d ≡ 0 → ⊥) → program_within n k d acts branches bytes p ≡ program_behind n k (program_within n k (d - 1)) acts branches h bytes q
        go zero l = absurd (l refl)
        go (suc d) l = unfold program_within in (behind_got (program_node acts branches) (program_behind n k (program_within n k d) acts branches) bytes p e
            ∙ ap (λ (j : ℕ). program_behind n k (program_within n k j) acts branches h bytes q) (sym (sub-one (suc d))))
