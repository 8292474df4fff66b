-- Every refusal of a sheet has one of the numbers 1 to 16, and 3 is that of an edition that isn't read. Assumes nothing.
use Prim.Native.Nat.{ℕ, zero, suc, ◌+◌, ◌*◌, ◌≤◌}
use mathlib.Core.Path.{◌≡◌, refl, sym, ap, subst, ◌∙◌}
use mathlib.Core.Logic.{◌⊎◌, inl, inr, ⊎_elim, ◌↔◌}
use mathlib.Core.List.{List, [], ◌∷◌, ◌++◌, flat_map, append_assoc}
use mathlib.Core.Bool.{Bool, true, false, ◌&&◌, ◌||◌}
use native.Mathlib.Omega.{arith}
use lib.Dec.{leb, ltb, eqb}
use lib.ListN.{length}
use borrow.Author.Tests.{eqb-true, leb-true}
use Rattle.lists.specs.Lists.{nonempty}
use Rattle.std.specs.Prelude.{if◌then◌else◌}
use Rattle.lists.proofs.ListLaws.{both_true, one_true}
use Rattle.format.specs.Syntax.{Objective, bottom, top, fact, new_fact, negation, conjunction, disjunction, equivalence, Epistemic, known, not_known, all_of, any_of, end, Action, change, probe, Sheet}
use Rattle.format.specs.Bits.{bits_at}
use Rattle.format.specs.Truth.{states, moves}
use Rattle.format.specs.Format.{refused, Read, got, fault, Reader, and_then, ◌>>=◌, give, refuse, check, field, fact_number, objective_behind, objective, EpistemicNode, known_node, not_known_node, all_of_node, any_of_node, epistemic_node, epistemic_behind, epistemic, objectives, Kind, changes, probes, kind, reply_total, theory_over, replies_over, action_behind, action, action_list, ProgramRead, ProgramNode, end_node, act_node, branch_node, program_node, program_behind, program_within, levels, program, most_bytes, most_facts, most_replies, deepest, most_acts, most_branches, Header, constraint_over, header_behind, header, body, sheet_fields, is_padding, has_start, leads_on, has_reply, unless, action_faults, faults, decided, after_fields, of_sheet, reading_by, is_edition, reading}
use Rattle.format.proofs.FormatLaws.{behind_fault, field_got}
use Rattle.format.proofs.ReaderLaws.{sheet_short}
use Rattle.format.proofs.FieldLaws.{edition_cut, edition_out}
use Rattle.format.proofs.SheetLaws.{reading_refused}

-- One of the numbers; and one of those that the fields behind the edition are refused with: 2, and 4 to 11.
abbrev pub IsNumber : ℕ → Type 0
IsNumber r = (1 ≤ r) × (r ≤ 16)

abbrev IsFieldNumber : ℕ → Type 0
IsFieldNumber r = eqb r 2 || (leb 4 r && leb r 11) ≡ true

field_number : (r : ℕ) → IsFieldNumber r → (r ≡ 2) ⊎ ((4 ≤ r) × (r ≤ 11))
field_number r e =
    ⊎_elim (λ k. inl (eqb-true r 2 k)) (λ k. let b = both_true (leb 4 r) (leb r 11) k in inr (leb-true 4 r b.0, leb-true r 11 b.1)) (one_true (eqb r 2) (leb 4 r && leb r 11) e)

module _ {A : Type 0} where
  -- A reader refuses with these numbers alone.
  abbrev Numbered : Reader A → Type 0
  Numbered m = (bytes : List ℕ) (p r : ℕ) → m bytes p ≡ fault r → IsFieldNumber r

  numbered_give : (a : A) → Numbered (give a)
  unfolding give
  numbered_give a bytes p r e = let z : ◌≡◌ {A = ℕ} 0 1 = cc in absurd (omega arith)

  numbered_refuse : (k : ℕ) → IsFieldNumber k → Numbered (refuse k)
  unfolding refuse
  numbered_refuse k n bytes p r e = let same : k ≡ r = cc in subst IsFieldNumber same n

  numbered_if : (b : Bool) (m n : Reader A) → Numbered m → Numbered n → Numbered (if b then m else n)
  numbered_if true m n x y = x
  numbered_if false m n x y = y

  numbered_check : (b : Bool) (k : ℕ) (m : Reader A) → IsFieldNumber k → Numbered m → Numbered (check b k m)
  unfolding check
  numbered_check true k m n x = x
  numbered_check false k m n x = numbered_refuse k n

numbered_behind : {A B : Type 0} (m : Reader A) (k : A → Reader B) → Numbered m → ((a : A) → Numbered (k a)) → Numbered (m >>= k)
unfolding ◌>>=◌ and_then
numbered_behind {A = A} m k x y bytes p r e = go (m bytes p) refl e
  where
    go : (f : Read A) → m bytes p ≡ f → and_then f (λ a i. k a bytes i) ≡ fault r → IsFieldNumber r
    go (got a i) l j = y a bytes i r j
    go (fault q) l j = let same : q ≡ r = cc in subst IsFieldNumber same (x bytes p q l)

numbered_field : (k : ℕ) → Numbered (field k)
unfolding field
numbered_field k bytes p r e = go (leb (p + k) (8 * length bytes)) e
  where
    go : (b : Bool) → (if b then got (bits_at bytes p k) (p + k) else fault 2) ≡ fault r → IsFieldNumber r
    go true j = let z : ◌≡◌ {A = ℕ} 0 1 = cc in absurd (omega arith)
    go false j = let same : 2 ≡ r = cc in subst IsFieldNumber same refl

-- The readers, one after the other.
module _ (n : ℕ) where
  fact_numbered : Numbered (fact_number n)
  unfolding fact_number
  fact_numbered = numbered_behind (field 3) _ (numbered_field 3) (λ i. numbered_check (ltb i n) 6 _ refl (numbered_give i))

  behind_numbered : (theory : Bool) (part : Reader Objective) → Numbered part → (tag : ℕ) → Numbered (objective_behind n theory part tag)
  unfolding objective_behind
  behind_numbered theory part x tag =
      numbered_if (eqb tag 0) _ _ (numbered_give bottom)
      (numbered_if (eqb tag 1) _ _ (numbered_give top)
      (numbered_if (eqb tag 2) _ _ (numbered_behind (fact_number n) _ fact_numbered (λ i. numbered_give (fact i)))
      (numbered_if (eqb tag 3) _ _ (numbered_check theory 7 _ refl (numbered_behind (fact_number n) _ fact_numbered (λ i. numbered_give (new_fact i))))
      (numbered_if (eqb tag 4) _ _ (numbered_behind part _ x (λ f. numbered_give (negation f)))
      (numbered_if (eqb tag 5) _ _ (two conjunction) (numbered_if (eqb tag 6) _ _ (two disjunction) (two equivalence)))))))
    where
      two : (make : Objective → Objective → Objective) → Numbered (part >>= λ f. part >>= λ g. give (make f g))
      two make = numbered_behind part _ x (λ f. numbered_behind part _ x (λ g. numbered_give (make f g)))

  objective_numbered : (theory : Bool) (d : ℕ) → Numbered (objective n theory d)
  unfolding objective
  objective_numbered theory zero = numbered_refuse 8 refl
  objective_numbered theory (suc d) = numbered_behind (field 3) _ (numbered_field 3) (behind_numbered theory (objective n theory d) (objective_numbered theory d))

  epistemic_node_numbered : Numbered epistemic_node
  unfolding epistemic_node
  epistemic_node_numbered =
      numbered_behind (field 2) _ (numbered_field 2) (λ tag.
      numbered_if (eqb tag 0) _ _ (numbered_give known_node) (numbered_if (eqb tag 1) _ _ (numbered_give not_known_node) (numbered_if (eqb tag 2) _ _ (numbered_give all_of_node) (numbered_give any_of_node))))

  epistemic_behind_numbered : (inside : Reader Objective) (part : Reader Epistemic) → Numbered inside → Numbered part → (h : EpistemicNode) → Numbered (epistemic_behind inside part h)
  unfolding epistemic_behind
  epistemic_behind_numbered inside part x y known_node = numbered_behind inside _ x (λ f. numbered_give (known f))
  epistemic_behind_numbered inside part x y not_known_node = numbered_behind inside _ x (λ f. numbered_give (not_known f))
  epistemic_behind_numbered inside part x y all_of_node = numbered_behind part _ y (λ f. numbered_behind part _ y (λ g. numbered_give (all_of f g)))
  epistemic_behind_numbered inside part x y any_of_node = numbered_behind part _ y (λ f. numbered_behind part _ y (λ g. numbered_give (any_of f g)))

  epistemic_numbered : (d : ℕ) → Numbered (epistemic n d)
  unfolding epistemic
  epistemic_numbered zero = numbered_refuse 8 refl
  epistemic_numbered (suc d) =
      numbered_behind epistemic_node _ epistemic_node_numbered (epistemic_behind_numbered (objective n false d) (epistemic n d) (objective_numbered false d) (epistemic_numbered d))

  objectives_numbered : (m : ℕ) → Numbered (objectives n m)
  unfolding objectives
  objectives_numbered zero = numbered_give []
  objectives_numbered (suc m) =
      numbered_behind (objective n false deepest) _ (objective_numbered false deepest) (λ f. numbered_behind (objectives n m) _ (objectives_numbered m) (λ fs. numbered_give (f ∷ fs)))

  action_behind_numbered : (h : Kind) → Numbered (action_behind n h)
  unfolding action_behind replies_over reply_total
  action_behind_numbered changes = numbered_behind (theory_over n) _ (objective_numbered true deepest) (λ f. numbered_give (change f))
  action_behind_numbered probes =
      numbered_behind (replies_over n) _
      (numbered_behind reply_total _ (numbered_behind (field 4) _ (numbered_field 4) (λ m. numbered_check (leb 1 m && leb m most_replies) 5 _ refl (numbered_give m))) objectives_numbered)
      (λ fs. numbered_give (probe fs))

  action_numbered : Numbered (action n)
  unfolding action kind
  action_numbered =
      numbered_behind kind _ (numbered_behind (field 1) _ (numbered_field 1) (λ bit. numbered_if (eqb bit 0) _ _ (numbered_give changes) (numbered_give probes))) action_behind_numbered

  list_numbered : (k : ℕ) → Numbered (action_list n k)
  unfolding action_list
  list_numbered zero = numbered_give []
  list_numbered (suc k) = numbered_behind (action n) _ action_numbered (λ a. numbered_behind (action_list n k) _ (list_numbered k) (λ rest. numbered_give (a ∷ rest)))

  program_node_numbered : (acts branches : ℕ) → Numbered (program_node acts branches)
  unfolding program_node
  program_node_numbered acts branches =
      numbered_behind (field 2) _ (numbered_field 2) (λ tag.
      numbered_if (eqb tag 0) _ _ (numbered_give end_node)
      (numbered_if (eqb tag 1) _ _ (numbered_check (ltb acts most_acts) 11 _ refl (numbered_behind (field 5) _ (numbered_field 5) (λ a. numbered_give (act_node a))))
      (numbered_if (eqb tag 2) _ _ (numbered_check (ltb branches most_branches) 11 _ refl (numbered_give branch_node))
      (numbered_refuse 10 refl))))

  module _ (k : ℕ) (part : ℕ → ℕ → Reader ProgramRead) (x : (acts branches : ℕ) → Numbered (part acts branches)) (acts branches : ℕ) where
    node_numbered : (h : ProgramNode) → Numbered (program_behind n k part acts branches h)
    unfolding program_behind
    node_numbered end_node = numbered_give (record { program = end; acts = acts; branches = branches })
    node_numbered (act_node a) = numbered_check (ltb a k) 9 _ refl (numbered_behind (part (acts + 1) branches) _ (x (acts + 1) branches) (λ c. numbered_give {A = ProgramRead} _))
    node_numbered branch_node =
        numbered_behind (epistemic n deepest) _ (epistemic_numbered deepest) (λ f.
        numbered_behind (part acts (branches + 1)) _ (x acts (branches + 1)) (λ y.
        numbered_behind (part y.acts y.branches) _ (x y.acts y.branches) (λ z.
        numbered_behind (part z.acts z.branches) _ (x z.acts z.branches) (λ c. numbered_give {A = ProgramRead} _))))

  program_numbered : (k d acts branches : ℕ) → Numbered (program_within n k d acts branches)
  unfolding program_within
  program_numbered k zero acts branches = numbered_refuse 11 refl
  program_numbered k (suc d) acts branches = numbered_behind (program_node acts branches) _ (program_node_numbered acts branches) (node_numbered k (program_within n k d) (program_numbered k d) acts branches)

constraint_numbered : (edition n : ℕ) → Numbered (constraint_over edition n)
unfolding constraint_over
constraint_numbered edition n = numbered_if (eqb edition 2) _ _ (objective_numbered n false deepest) (numbered_give top)

-- The header behind its edition.
abbrev behind_edition : (edition : ℕ) → Reader Header
behind_edition edition = field 4 >>= λ n. check (leb 1 n && leb n most_facts) 4 (header_behind edition n)

header_numbered : (edition : ℕ) → Numbered (behind_edition edition)
unfolding header_behind
header_numbered edition =
    numbered_behind (field 4) _ (numbered_field 4) (λ n. numbered_check (leb 1 n && leb n most_facts) 4 _ refl
    (numbered_behind (constraint_over edition n) _ (constraint_numbered edition n) (λ constraint.
    numbered_behind (field 5) _ (numbered_field 5) (λ k. numbered_give {A = Header} _))))

whole_program_numbered : (n k : ℕ) → Numbered (program n k)
unfolding program
whole_program_numbered n k = program_numbered n k levels 0 0

edition_numbered : (edition : ℕ) → Numbered (behind_edition edition >>= body)
edition_numbered edition =
    numbered_behind (behind_edition edition) body (header_numbered edition) (λ h.
    numbered_behind (action_list h.facts h.actions) _ (list_numbered h.facts h.actions) (λ actions.
    numbered_behind (objective h.facts false deepest) _ (objective_numbered h.facts false deepest) (λ start.
    numbered_behind (epistemic h.facts deepest) _ (epistemic_numbered h.facts deepest) (λ goal.
    numbered_behind (program h.facts h.actions) _ (whole_program_numbered h.facts h.actions) (λ c. numbered_give {A = Sheet} _)))))

-- The fields of a sheet: behind an edition that is taken 3 isn't given.
module _ (takes : ℕ → Bool) (bytes : List ℕ) where
  taken_numbered : {edition p : ℕ} → field 4 bytes 0 ≡ got edition p → takes edition ≡ true → (r : ℕ) → sheet_fields takes bytes 0 ≡ fault r → IsFieldNumber r
  unfolding header ◌>>=◌ and_then check
  taken_numbered {edition} {p} f t r d =
      let goes_on_law : sheet_fields takes bytes 0 ≡ (behind_edition edition >>= body) bytes p = rw (f, t) in edition_numbered edition bytes p r (sym goes_on_law ∙ d)

  pub fields_numbered : (r : ℕ) → sheet_fields takes bytes 0 ≡ fault r → (1 ≤ r) × (r ≤ 11)
  fields_numbered r d = go (field 4 bytes 0) refl
    where
      few : (q : ℕ) → IsFieldNumber q → q ≡ r → (1 ≤ r) × (r ≤ 11)
      few q n same = ⊎_elim (λ x. (omega (arith, x, same), omega (arith, x, same))) (λ x. (omega (arith, x.0, same), omega (arith, x.1, same))) (field_number q n)

      refused_as : (q : ℕ) → header takes bytes 0 ≡ fault q → q ≡ r
      refused_as q h = let same : fault q ≡ fault r = sym (behind_fault (header takes) body bytes 0 h) ∙ d in cc

      edition_is : (edition p : ℕ) → field 4 bytes 0 ≡ got edition p → (b : Bool) → takes edition ≡ b → (1 ≤ r) × (r ≤ 11)
      edition_is edition p f true t = few r (taken_numbered f t r d) refl
      edition_is edition p f false t = let same = refused_as 3 (edition_out takes bytes f t) in (omega (arith, same), omega (arith, same))

      go : (x : Read ℕ) → field 4 bytes 0 ≡ x → (1 ≤ r) × (r ≤ 11)
      go (fault q) f = few q (numbered_field 4 bytes 0 q f) (refused_as q (edition_cut takes bytes f))
      go (got edition p) f = edition_is edition p f (takes edition) refl

-- The tests after the fields: 12 and above.
abbrev IsTestNumber : ℕ → Type 0
IsTestNumber r = (12 ≤ r) × (r ≤ 16)

first_numbered : (b : Bool) (k : ℕ) → IsTestNumber k → (rest : List ℕ) → ((r : ℕ) (rs : List ℕ) → rest ≡ r ∷ rs → IsTestNumber r) → (r : ℕ) (rs : List ℕ) → unless b k ++ rest ≡ r ∷ rs → IsTestNumber r
unfolding unless
first_numbered true k n rest x r rs e = x r rs e
first_numbered false k n rest x r rs e = let same : k ≡ r = cc in (omega (arith, n.0, same), omega (arith, n.1, same))

actions_numbered : (space : List ℕ) (actions : List Action) (r : ℕ) (rs : List ℕ) → flat_map (action_faults space) actions ≡ r ∷ rs → IsTestNumber r
unfolding action_faults unless flat_map
actions_numbered space [] r rs e = let z : ◌≡◌ {A = ℕ} 0 1 = cc in absurd (omega arith)
actions_numbered space (a ∷ actions) r rs e = go (leads_on space (moves a)) (has_reply space a) e (λ k. actions_numbered space actions r rs k)
  where
    more : List ℕ
    more = flat_map (action_faults space) actions

    go : (b c : Bool) → (unless b 14 ++ unless c 15) ++ more ≡ r ∷ rs → (more ≡ r ∷ rs → IsTestNumber r) → IsTestNumber r
    go true true k x = x k
    go true false k x = let same : 15 ≡ r = cc in (omega (arith, same), omega (arith, same))
    go false c k x = let same : 14 ≡ r = cc in (omega (arith, same), omega (arith, same))

-- How bytes are refused: by their length, by the fields, or by a test behind them.
refused_how : (bytes : List ℕ) (k : ℕ) → reading bytes ≡ refused k → (k ≡ 1) ⊎ (((length bytes ≤ most_bytes) × (sheet_fields is_edition bytes 0 ≡ fault k)) ⊎ IsTestNumber k)
unfolding reading reading_by of_sheet after_fields decided faults
refused_how bytes k e = go (leb (length bytes) most_bytes) refl e
  where
    How : Type 0
    How = (k ≡ 1) ⊎ (((length bytes ≤ most_bytes) × (sheet_fields is_edition bytes 0 ≡ fault k)) ⊎ IsTestNumber k)

    tests : (l : List ℕ) (sheet : Sheet) → ((r : ℕ) (rs : List ℕ) → l ≡ r ∷ rs → IsTestNumber r) → decided l sheet ≡ refused k → IsTestNumber k
    tests [] sheet x d = let z : ◌≡◌ {A = ℕ} 0 1 = cc in absurd (omega arith)
    tests (r ∷ rs) sheet x d = let same : r ≡ k = cc in let n = x r rs refl in (omega (arith, n.0, same), omega (arith, n.1, same))

    after : length bytes ≤ most_bytes → (f : Read Sheet) → sheet_fields is_edition bytes 0 ≡ f → after_fields action_faults bytes f ≡ refused k → How
    after short (fault r) l d = let same : r ≡ k = cc in inr (inl (short, l ∙ ap fault same))
    after short (got sheet p) l d =
        let kinds = flat_map (action_faults (states sheet)) sheet.actions in
        let some = nonempty (states sheet) in
        let starts = has_start (states sheet) sheet.start in
        inr (inr (tests (faults action_faults bytes p sheet) sheet (λ r rs q.
        first_numbered (is_padding bytes p) 12 (omega arith, omega arith) (unless some 16 ++ (unless starts 13 ++ kinds))
        (first_numbered some 16 (omega arith, omega arith) (unless starts 13 ++ kinds)
        (first_numbered starts 13 (omega arith, omega arith) kinds (actions_numbered (states sheet) sheet.actions)))
        r rs (sym (append_assoc (unless (is_padding bytes p) 12) (unless some 16) (unless starts 13 ++ kinds)) ∙ sym (append_assoc (unless (is_padding bytes p) 12 ++ unless some 16) (unless starts 13) kinds) ∙ q)) d))

    go : (b : Bool) → leb (length bytes) most_bytes ≡ b → after_fields action_faults bytes (if b then sheet_fields is_edition bytes 0 else fault 1) ≡ refused k → How
    go true l d = after (leb-true (length bytes) most_bytes l) (sheet_fields is_edition bytes 0) refl d
    go false l d = let same : k ≡ 1 = cc in inl same

-- So every refusal of a sheet has one of the numbers,
pub refused_number : (bytes : List ℕ) (k : ℕ) → reading bytes ≡ refused k → IsNumber k
refused_number bytes k e =
    ⊎_elim (λ x. (omega (arith, x), omega (arith, x)))
    (⊎_elim (λ x. let n = fields_numbered is_edition bytes k x.1 in (n.0, omega (arith, n.1))) (λ n. (omega (arith, n.0), n.1)))
    (refused_how bytes k e)

-- and 3 is given for an edition that isn't taken, and for nothing else.
pub refused_edition : (bytes : List ℕ) → (reading bytes ≡ refused 3) ↔ ((length bytes ≤ most_bytes) × ((edition : ℕ) × (field 4 bytes 0 ≡ got edition 4) × (is_edition edition ≡ false)))
refused_edition bytes = (
  λ e. ⊎_elim (λ x. absurd (omega (arith, x))) (⊎_elim (λ x. (x.0, by_field x.1 (field 4 bytes 0) refl)) (λ n. absurd (omega (arith, n.0)))) (refused_how bytes 3 e),
  λ w. reading_refused bytes (sym (sheet_short (header is_edition) bytes 0 w.0 (edition_out is_edition bytes w.1.1 w.1.2))),
)
  where
    NotTaken : Type 0
    NotTaken = (edition : ℕ) × (field 4 bytes 0 ≡ got edition 4) × (is_edition edition ≡ false)

    never : {A : Type 0} → IsFieldNumber 3 → A
    never n = ⊎_elim (λ y. absurd (omega (arith, y))) (λ y. absurd (omega (arith, y.0))) (field_number 3 n)

    by_edition : sheet_fields is_edition bytes 0 ≡ fault 3 → (edition : ℕ) → field 4 bytes 0 ≡ got edition 4 → (b : Bool) → is_edition edition ≡ b → NotTaken
    by_edition d edition f false t = (edition, f, t)
    by_edition d edition f true t = never (taken_numbered is_edition bytes f t 3 d)

    by_field : sheet_fields is_edition bytes 0 ≡ fault 3 → (x : Read ℕ) → field 4 bytes 0 ≡ x → NotTaken
    by_field d (fault q) f =
        let same : fault q ≡ fault 3 = sym (behind_fault (header is_edition) body bytes 0 (edition_cut is_edition bytes f)) ∙ d in
        let three : q ≡ 3 = cc in
        never (subst IsFieldNumber three (numbered_field 4 bytes 0 q f))
    by_field d (got edition p) f = by_edition d edition (f ∙ ap (got edition) (field_got 4 bytes 0 edition p f).0) (is_edition edition) refl
