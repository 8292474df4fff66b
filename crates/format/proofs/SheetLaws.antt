-- Laws of accepted sheets: their limits, and what the tests after the fields tell of them. Assumes nothing.
use Prim.Native.Nat.{ℕ, zero, suc, ◌+◌, ◌≤◌, ◌<◌}
use mathlib.Core.Path.{◌≡◌, refl, sym, ap, subst}
use mathlib.Core.Logic.{⊎_elim}
use mathlib.Core.List.Memᴰ
use mathlib.Core.List.{List, [], ◌∷◌, ◌++◌, flat_map, Memᴰ, append-nil}
use mathlib.Core.Bool.{Bool, true, false, not, ◌&&◌}
use native.Mathlib.Omega.{arith}
use lib.Dec.{leb, ltb, eqb}
use lib.ListN.{length, get_or, get_or-eq_default}
use borrow.Author.Tests.{leb-true, ltb-true, ltb-false, eq-eqb}
use Rattle.lists.specs.Lists.{up_from, below, exists, nonempty}
use Rattle.std.specs.Prelude.{if◌then◌else◌}
use Rattle.lists.proofs.ListLaws.{not_both, both_true, and_both, mem_flat, every_mem, mem_every, exists_mem, mem_exists}
use Rattle.format.specs.Syntax.{Objective, bottom, top, fact, new_fact, negation, conjunction, disjunction, equivalence, Epistemic, known, not_known, all_of, any_of, Program, end, act, branch, Action, change, probe, reply_count, action_nodes, branch_nodes, Sheet, action_of}
use Rattle.format.specs.Truth.{is_state, states, truth, holds, moves, reply_holds, allowed}
use Rattle.format.specs.Format.{gives, refused, Read, got, fault, Reader, and_then, ◌>>=◌, give, field, fact_number, objective_behind, objective, EpistemicNode, known_node, not_known_node, all_of_node, any_of_node, epistemic_node, epistemic_behind, epistemic, objectives, Kind, changes, probes, kind, reply_total, theory_over, replies_over, action_behind, action, action_list, ProgramRead, ProgramNode, end_node, act_node, branch_node, program_node, program_behind, program_within, levels, program, most_bytes, most_facts, most_replies, deepest, most_acts, most_branches, Header, constraint_over, header_behind, header, body, sheet_fields, is_padding, has_start, leads_on, has_reply, unless, action_faults, faults, decided, after_fields, of_sheet, reading_by, is_edition, reading, Says}
use Rattle.format.proofs.StateLaws.{state_listed, listed_state}
use Rattle.format.proofs.FormatLaws.{Gives, gives_give, gives_refuse, gives_if, gives_check, gives_behind, gives_any, field_below, NumbersBelow, Counts, program_counts}

-- A property of every member of a list whose first element and whose rest have it.
mem_more : {A : Type 0} (P : A → Type 0) (x : A) (xs : List A) → P x → ((a : A) → Memᴰ a xs → P a) → (a : A) → Memᴰ a (x ∷ xs) → P a
mem_more P x xs h k a m = ⊎_elim (λ (e : a ≡ x). subst P (sym e) h) (λ i. k a i) (Memᴰ.cases_cons m)

-- A list has m elements.
abbrev pub Long : {A : Type 0} → ℕ → List A → Type 0
Long m xs = length xs ≡ m

-- Of m objective formulas that are read there are m.
pub objectives_long : (n m : ℕ) → Gives (Long m) (objectives n m)
unfolding objectives
objectives_long n zero = gives_give (Long 0) [] refl
objectives_long n (suc m) =
    gives_any (Long (suc m)) (objective n false deepest) _ (λ f.
    gives_behind (Long m) (Long (suc m)) (objectives n m) _ (objectives_long n m) (λ fs l.
    gives_give (Long (suc m)) (f ∷ fs) (ap suc l)))

-- An action has 1 to 8 replies; one that is read does.
abbrev pub FewReplies : Action → Type 0
FewReplies a = (1 ≤ reply_count a) × (reply_count a ≤ most_replies)

-- A reply count is 1 to 8.
pub count_few : Gives (λ m. (1 ≤ m) × (m ≤ most_replies)) reply_total
unfolding reply_total
count_few =
    gives_any (λ m. (1 ≤ m) × (m ≤ most_replies)) (field 4) _ (λ m. gives_check (λ i. (1 ≤ i) × (i ≤ most_replies)) (leb 1 m && leb m most_replies) 5 _ (λ t.
    let u = both_true (leb 1 m) (leb m most_replies) t in
    gives_give (λ i. (1 ≤ i) × (i ≤ most_replies)) m (leb-true 1 m u.0, leb-true m most_replies u.1)))

behind_few : (n : ℕ) (h : Kind) → Gives FewReplies (action_behind n h)
unfolding action_behind replies_over reply_count
behind_few n changes = gives_any FewReplies (theory_over n) _ (λ f. gives_give FewReplies (change f) (omega arith, omega arith))
behind_few n probes =
    gives_behind (λ fs. (1 ≤ length fs) × (length fs ≤ most_replies)) FewReplies (replies_over n) _ many (λ fs l. gives_give FewReplies (probe fs) l)
  where
    many : Gives (λ fs. (1 ≤ length fs) × (length fs ≤ most_replies)) (replies_over n)
    many = gives_behind (λ m. (1 ≤ m) × (m ≤ most_replies)) (λ fs. (1 ≤ length fs) × (length fs ≤ most_replies)) reply_total _ count_few (λ m few bytes p fs q e. let l = objectives_long n m bytes p fs q e in (omega (arith, few.0, l), omega (arith, few.1, l)))

action_few : (n : ℕ) → Gives FewReplies (action n)
unfolding action
action_few n = gives_any FewReplies kind _ (behind_few n)

-- There are k actions, each with 1 to 8 replies.
abbrev pub Listed : ℕ → List Action → Type 0
Listed k actions = Long k actions × ((a : Action) → Memᴰ a actions → FewReplies a)

-- Of k actions that are read there are k, each with 1 to 8 replies.
pub list_few : (n k : ℕ) → Gives (Listed k) (action_list n k)
unfolding action_list
list_few n zero = gives_give (Listed 0) [] (refl, λ a m. absurd (Memᴰ.not-nil m))
list_few n (suc k) =
    gives_behind FewReplies (Listed (suc k)) (action n) _ (action_few n) (λ a few.
    gives_behind (Listed k) (Listed (suc k)) (action_list n k) _ (list_few n k) (λ rest l.
    gives_give (Listed (suc k)) (a ∷ rest)
    (ap suc l.0, mem_more FewReplies a rest few l.1)))

-- The limits of a sheet: 1 to 8 facts; at most 31 actions, each with 1 to 8 replies; at most 64 action nodes and 63 branch nodes; no action number without an action.
pub record Shape (sheet : Sheet) : Type 0 where
  pub facts_some : 1 ≤ sheet.facts
  pub facts_most : sheet.facts ≤ most_facts
  pub actions_most : length sheet.actions ≤ 31
  pub replies_few : (a : Action) → Memᴰ a sheet.actions → FewReplies a
  pub acts_most : action_nodes sheet.program ≤ most_acts
  pub branches_most : branch_nodes sheet.program ≤ most_branches
  pub numbers : NumbersBelow (length sheet.actions) sheet.program

-- A header has 1 to 8 facts and at most 31 actions.
pub record HeaderShape (h : Header) : Type 0 where
  pub facts_some : 1 ≤ h.facts
  pub facts_most : h.facts ≤ most_facts
  pub actions_most : h.actions ≤ 31

pub header_shape : (takes : ℕ → Bool) → Gives HeaderShape (header takes)
unfolding header header_behind
header_shape takes =
    gives_any HeaderShape (field 4) _ (λ edition. gives_check HeaderShape (takes edition) 3 _ (λ t.
    gives_any HeaderShape (field 4) _ (λ n. gives_check HeaderShape (leb 1 n && leb n most_facts) 4 _ (λ u.
    gives_any HeaderShape (constraint_over edition n) _ (λ constraint.
    gives_behind (λ k. k < 32) HeaderShape (field 5) _ (field_below 5) (λ k few.
    let v = both_true (leb 1 n) (leb n most_facts) u in
    gives_give HeaderShape _ (record { facts_some = leb-true 1 n v.0; facts_most = leb-true n most_facts v.1; actions_most = omega arith })))))))

-- A program with all its levels.
pub program_is : (n k : ℕ) (bytes : List ℕ) (p : ℕ) → program n k bytes p ≡ program_within n k levels 0 0 bytes p
unfolding program
program_is n k bytes p = refl

program_shape : (n k : ℕ) → Gives (Counts k 0 0) (program n k)
unfolding program
program_shape n k = program_counts n k levels 0 0

fields_shape : (takes : ℕ → Bool) → Gives Shape (sheet_fields takes)
fields_shape takes =
    gives_behind HeaderShape Shape (header takes) body (header_shape takes) (λ h limits.
    gives_behind (Listed h.actions) Shape (action_list h.facts h.actions) _ (list_few h.facts h.actions) (λ actions l.
    gives_any Shape (objective h.facts false deepest) _ (λ start.
    gives_any Shape (epistemic h.facts deepest) _ (λ goal.
    gives_behind (Counts h.actions 0 0) Shape (program h.facts h.actions) _ (program_shape h.facts h.actions) (λ c i.
    gives_give Shape _ (record {
      facts_some = limits.facts_some;
      facts_most = limits.facts_most;
      actions_most = omega (arith, limits.actions_most, l.0);
      replies_few = l.1;
      acts_most = omega (arith, i.acts_counted, i.acts_within (omega arith));
      branches_most = omega (arith, i.branches_counted, i.branches_within (omega arith));
      numbers = rw l.0 i.numbers;
    }))))))

-- A test whose number isn't there has passed.
passed_unless : (b : Bool) (r : ℕ) → (Memᴰ r (unless b r) → ⊥) → b ≡ true
unfolding unless
passed_unless true r h = refl
passed_unless false r h = absurd (h (Memᴰ.head refl))

-- Where no test after the fields fails, padding follows them.
no_padding_fault : (bytes : List ℕ) (sheet : Sheet) (p : ℕ) → faults action_faults bytes p sheet ≡ [] → is_padding bytes p ≡ true
unfolding faults
no_padding_fault bytes sheet p none =
    passed_unless (is_padding bytes p) 12 (λ m.
    Memᴰ.not-nil (subst (λ (rs : List ℕ). Memᴰ 12 rs) none (Memᴰ.append_left _ (Memᴰ.append_left _ (Memᴰ.append_left (unless (nonempty (states sheet)) 16) m)))))

-- How bytes are accepted: they say the sheet, and none of the tests after its fields fails.
record Accepted (bytes : List ℕ) (sheet : Sheet) : Type 0 where
  says : Says bytes sheet
  faultless : faults action_faults bytes says.ends sheet ≡ []

-- Accepted bytes are accepted so.
accepted_how : (bytes : List ℕ) (sheet : Sheet) → reading bytes ≡ gives sheet → Accepted bytes sheet
unfolding reading reading_by of_sheet after_fields decided
accepted_how bytes sheet e = go (leb (length bytes) most_bytes) refl (sheet_fields is_edition bytes 0) refl e
  where
    last : (x : Sheet) (p : ℕ) (rs : List ℕ) → faults action_faults bytes p x ≡ rs → decided rs x ≡ gives sheet → (x ≡ sheet) × (faults action_faults bytes p x ≡ [])
    last x p [] h k = (cc, h)
    last x p (r ∷ rs) h k = let z : ◌≡◌ {A = ℕ} 0 1 = cc in absurd (omega arith)

    go : (b : Bool) → leb (length bytes) most_bytes ≡ b → (r : Read Sheet) → sheet_fields is_edition bytes 0 ≡ r → after_fields action_faults bytes (if b then r else fault 1) ≡ gives sheet → Accepted bytes sheet
    go false l r f k = let z : ◌≡◌ {A = ℕ} 0 1 = cc in absurd (omega arith)
    go true l (fault r) f k = let z : ◌≡◌ {A = ℕ} 0 1 = cc in absurd (omega arith)
    go true l (got x p) f k =
        let w = last x p (faults action_faults bytes p x) refl k in
        subst (Accepted bytes) w.0 (record { says = record { short = leb-true (length bytes) most_bytes l; ends = p; fields = f; padded = no_padding_fault bytes x p w.1 }; faultless = w.1 })

-- What the bytes are, by the header and the fields behind it.
module _ (bytes : List ℕ) where
  -- A header that is refused.
  pub reading_refused : {r : ℕ} → of_sheet (header is_edition) bytes 0 ≡ fault r → reading bytes ≡ refused r
  unfolding reading reading_by of_sheet after_fields ◌>>=◌ and_then
  reading_refused {r} e = go (leb (length bytes) most_bytes) e
    where
      go : (b : Bool) → ◌≡◌ {A = Read Header} (if b then header is_edition bytes 0 else fault 1) (fault r) → after_fields action_faults bytes (if b then and_then (header is_edition bytes 0) (λ h q. body h bytes q) else fault 1) ≡ refused r
      go true j = rw j
      go false j = let z : 1 ≡ r = cc in ap refused z

  module _ {h : Header} {p : ℕ} (e : of_sheet (header is_edition) bytes 0 ≡ got h p) where
    -- One that is read: the sheet is short enough,
    pub header_short : length bytes ≤ most_bytes
    unfolding of_sheet
    header_short = go (leb (length bytes) most_bytes) refl e
      where
        go : (b : Bool) → leb (length bytes) most_bytes ≡ b → ◌≡◌ {A = Read Header} (if b then header is_edition bytes 0 else fault 1) (got h p) → length bytes ≤ most_bytes
        go true l j = leb-true (length bytes) most_bytes l
        go false l j = let z : ◌≡◌ {A = ℕ} 0 1 = cc in absurd (omega arith)

    -- keeps the header's limits,
    pub header_limits : HeaderShape h
    unfolding of_sheet
    header_limits = go (leb (length bytes) most_bytes) e
      where
        go : (b : Bool) → ◌≡◌ {A = Read Header} (if b then header is_edition bytes 0 else fault 1) (got h p) → HeaderShape h
        go true j = header_shape is_edition bytes 0 h p j
        go false j = let z : ◌≡◌ {A = ℕ} 0 1 = cc in absurd (omega arith)

    -- and is what the fields behind it make it.
    pub reading_body : reading bytes ≡ after_fields action_faults bytes (body h bytes p)
    unfolding reading reading_by of_sheet ◌>>=◌ and_then
    reading_body = go (leb (length bytes) most_bytes) e
      where
        go : (b : Bool) → ◌≡◌ {A = Read Header} (if b then header is_edition bytes 0 else fault 1) (got h p) → after_fields action_faults bytes (if b then and_then (header is_edition bytes 0) (λ h q. body h bytes q) else fault 1) ≡ after_fields action_faults bytes (body h bytes p)
        go true j = rw j
        go false j = let z : ◌≡◌ {A = ℕ} 0 1 = cc in absurd (omega arith)

-- Accepted bytes say the sheet, and are at most 1,024.
pub accepted_says : (bytes : List ℕ) (sheet : Sheet) → reading bytes ≡ gives sheet → Says bytes sheet
accepted_says bytes sheet e = (accepted_how bytes sheet e).says

pub accepted_length : (bytes : List ℕ) (sheet : Sheet) → reading bytes ≡ gives sheet → length bytes ≤ most_bytes
accepted_length bytes sheet e = (accepted_says bytes sheet e).short

-- An accepted sheet keeps the limits.
pub accepted_shape : (bytes : List ℕ) (sheet : Sheet) → reading bytes ≡ gives sheet → Shape sheet
accepted_shape bytes sheet e = let says = accepted_says bytes sheet e in fields_shape is_edition bytes 0 sheet says.ends says.fields

-- What the tests after the fields tell: there is a start state, and in each state each action has a next state and a reply.
pub record Passed (sheet : Sheet) : Type 0 where
  pub start : has_start (states sheet) sheet.start ≡ true
  pub leads : (a : Action) → Memᴰ a sheet.actions → leads_on (states sheet) (moves a) ≡ true
  pub answered : (a : Action) → Memᴰ a sheet.actions → has_reply (states sheet) a ≡ true

-- An accepted sheet has passed the tests.
pub accepted_passed : (bytes : List ℕ) (sheet : Sheet) → reading bytes ≡ gives sheet → Passed sheet
unfolding faults action_faults
accepted_passed bytes sheet e = record {
  start = passed_unless (has_start (states sheet) sheet.start) 13 (λ m. none (Memᴰ.append_left (flat_map each sheet.actions) (Memᴰ.append_right (padding ++ space) m)));
  leads = λ a i. passed_unless (leads_on (states sheet) (moves a)) 14 (λ m. none_of i (Memᴰ.append_left (unless (has_reply (states sheet) a) 15) m));
  answered = λ a i. passed_unless (has_reply (states sheet) a) 15 (λ m. none_of i (Memᴰ.append_right (unless (leads_on (states sheet) (moves a)) 14) m));
}
  where
    how : Accepted bytes sheet
    how = accepted_how bytes sheet e

    padding : List ℕ
    padding = unless (is_padding bytes how.says.ends) 12

    space : List ℕ
    space = unless (nonempty (states sheet)) 16

    each : Action → List ℕ
    each = action_faults (states sheet)

    none : {r : ℕ} → Memᴰ r (padding ++ space ++ unless (has_start (states sheet) sheet.start) 13 ++ flat_map each sheet.actions) → ⊥
    none {r} m = Memᴰ.not-nil (subst (λ (rs : List ℕ). Memᴰ r rs) how.faultless m)

    none_of : {a : Action} {r : ℕ} → Memᴰ a sheet.actions → Memᴰ r (each a) → ⊥
    none_of i m = none (Memᴰ.append_right (padding ++ space ++ unless (has_start (states sheet) sheet.start) 13) (mem_flat each sheet.actions i m))

-- Of a change only the test that refuses with 14 can fail, since its reply 0 is true in every state; and of a probe only the test that refuses with 15, since it leaves each
-- state as it is.
module _ (space : List ℕ) where
  pub change_faults : (f : Objective) → action_faults space (change f) ≡ unless (leads_on space (truth f)) 14
  unfolding action_faults has_reply moves reply_holds reply_count exists up_from unless
  change_faults f =
      rw (mem_every (λ s. exists (λ r. reply_holds (change f) r s) (below 1)) space (λ s m. refl)) (append-nil (unless (leads_on space (truth f)) 14))

  pub probe_faults : (fs : List Objective) → action_faults space (probe fs) ≡ unless (has_reply space (probe fs)) 15
  unfolding action_faults leads_on moves unless
  probe_faults fs = rw (mem_every (λ s. exists (λ t. eqb s t) space) space (λ s m. mem_exists (λ t. eqb s t) space m (eq-eqb s s refl)))

-- Where there is a start state, the start formula holds in it.
pub start_state : (space : List ℕ) (f : Objective) → has_start space f ≡ true → (s : ℕ) × Memᴰ s space × (holds f s ≡ true)
unfolding has_start
start_state space f e = exists_mem (holds f) space e

-- An action that leads on and has a reply in each state has a step from each state.
pub action_steps : (sheet : Sheet) (a : Action) → leads_on (states sheet) (moves a) ≡ true → has_reply (states sheet) a ≡ true → (s : ℕ) → is_state sheet s ≡ true
    → (r : ℕ) × (t : ℕ) × (is_state sheet t ≡ true) × (allowed a s r t ≡ true)
unfolding leads_on has_reply allowed
action_steps sheet a l h s i =
    let x = exists_mem (λ t. moves a s t) (states sheet) (every_mem (λ s. exists (λ t. moves a s t) (states sheet)) (states sheet) l (state_listed sheet s i)) in
    let y = exists_mem (λ r. reply_holds a r x.0) (below (reply_count a)) (every_mem (λ s. exists (λ r. reply_holds a r s) (below (reply_count a))) (states sheet) h x.1) in
    (y.0, x.0, listed_state sheet x.1, and_both (moves a s x.0) (reply_holds a y.0 x.0) x.2 y.2)

-- The element at a number below the length is a member.
at_mem : {A : Type 0} (d : A) (xs : List A) (i : ℕ) → i < length xs → Memᴰ (get_or xs i d) xs
at_mem d [] i h = absurd (omega arith)
at_mem d (x ∷ xs) zero h = Memᴰ.head refl
at_mem d (x ∷ xs) (suc i) h = Memᴰ.tail (at_mem d xs i (omega arith))

-- The action of a number that a sheet has is among its actions.
pub action_mem : (sheet : Sheet) (a : ℕ) → a < length sheet.actions → Memᴰ (action_of sheet a) sheet.actions
unfolding action_of
action_mem sheet a h = at_mem (probe []) sheet.actions a h

-- Whatever the number, its action has at most 8 replies.
pub few_replies : (sheet : Sheet) → Shape sheet → (a : ℕ) → reply_count (action_of sheet a) ≤ most_replies
unfolding action_of reply_count
few_replies sheet shape a = go (ltb a (length sheet.actions)) refl
  where
    go : (b : Bool) → ltb a (length sheet.actions) ≡ b → reply_count (action_of sheet a) ≤ most_replies
    go true e = (shape.replies_few (action_of sheet a) (action_mem sheet a (ltb-true a (length sheet.actions) e))).1
    go false e = rw (get_or-eq_default sheet.actions (probe []) (ltb-false a (length sheet.actions) e)) (omega arith)

-- Every fact number in an objective formula is below n.
unfoldable pub FactsBelow : (n : ℕ) → Objective → Type 0
FactsBelow n bottom = Unit {0}
FactsBelow n top = Unit {0}
FactsBelow n (fact i) = i < n
FactsBelow n (new_fact i) = i < n
FactsBelow n (negation f) = FactsBelow n f
FactsBelow n (conjunction f g) = FactsBelow n f × FactsBelow n g
FactsBelow n (disjunction f g) = FactsBelow n f × FactsBelow n g
FactsBelow n (equivalence f g) = FactsBelow n f × FactsBelow n g

-- No new fact stands in an objective formula.
unfoldable pub NoNew : Objective → Type 0
NoNew bottom = Unit {0}
NoNew top = Unit {0}
NoNew (fact i) = Unit {0}
NoNew (new_fact i) = ⊥
NoNew (negation f) = NoNew f
NoNew (conjunction f g) = NoNew f × NoNew g
NoNew (disjunction f g) = NoNew f × NoNew g
NoNew (equivalence f g) = NoNew f × NoNew g

-- The truth of a formula without new facts doesn't depend on the next state.
pub truth_outside : (f : Objective) (s t : ℕ) → NoNew f → truth f s t ≡ holds f s
unfolding truth holds NoNew
truth_outside bottom s t h = refl
truth_outside top s t h = refl
truth_outside (fact i) s t h = refl
truth_outside (new_fact i) s t h = absurd h
truth_outside (negation f) s t h = ap not (truth_outside f s t h)
truth_outside (conjunction f g) s t h = rw (truth_outside f s t h.0, truth_outside g s t h.1)
truth_outside (disjunction f g) s t h = rw (truth_outside f s t h.0, truth_outside g s t h.1)
truth_outside (equivalence f g) s t h = rw (truth_outside f s t h.0, truth_outside g s t h.1)

-- An objective formula mentions the facts below n only, and no new fact.
abbrev pub ObjectiveFacts : (n : ℕ) → Objective → Type 0
ObjectiveFacts n f = FactsBelow n f × NoNew f

-- Each objective formula in an epistemic formula mentions the facts below n only, and no new fact.
unfoldable pub EpistemicFacts : (n : ℕ) → Epistemic → Type 0
EpistemicFacts n (known f) = ObjectiveFacts n f
EpistemicFacts n (not_known f) = ObjectiveFacts n f
EpistemicFacts n (all_of f g) = EpistemicFacts n f × EpistemicFacts n g
EpistemicFacts n (any_of f g) = EpistemicFacts n f × EpistemicFacts n g

-- A change's theory mentions the facts below n only, and each reply of a probe no new fact besides.
unfoldable pub ActionFacts : (n : ℕ) → Action → Type 0
ActionFacts n (change f) = FactsBelow n f
ActionFacts n (probe fs) = (f : Objective) → Memᴰ f fs → ObjectiveFacts n f

-- Each condition in a program mentions the facts below n only, and no new fact.
unfoldable pub ProgramFacts : (n : ℕ) → Program → Type 0
unfolding EpistemicFacts
ProgramFacts n end = Unit {0}
ProgramFacts n (act a rest) = ProgramFacts n rest
ProgramFacts n (branch f p q rest) = EpistemicFacts n f × ProgramFacts n p × ProgramFacts n q × ProgramFacts n rest

-- The formulas of a sheet mention its facts only, and new facts in theories only.
pub record SheetFacts (sheet : Sheet) : Type 0 where
  pub constraint_facts : ObjectiveFacts sheet.facts sheet.constraint
  pub action_facts : (a : Action) → Memᴰ a sheet.actions → ActionFacts sheet.facts a
  pub start_facts : ObjectiveFacts sheet.facts sheet.start
  pub goal_facts : EpistemicFacts sheet.facts sheet.goal
  pub program_facts : ProgramFacts sheet.facts sheet.program

module _ (n : ℕ) where
  -- An objective formula that is read, in a theory or not.
  abbrev Within : Bool → Objective → Type 0
  Within theory f = FactsBelow n f × (theory ≡ false → NoNew f)

  number_within : Gives (λ i. i < n) (fact_number n)
  unfolding fact_number
  number_within = gives_any (λ i. i < n) (field 3) _ (λ i. gives_check (λ j. j < n) (ltb i n) 6 _ (λ t. gives_give (λ j. j < n) i (ltb-true i n t)))

  objective_behind_within : (theory : Bool) (part : Reader Objective) → Gives (Within theory) part → (tag : ℕ) → Gives (Within theory) (objective_behind n theory part tag)
  unfolding objective_behind FactsBelow NoNew
  objective_behind_within theory part within tag =
      gives_if Q (eqb tag 0) _ _ (gives_give Q bottom (tt, λ o. tt))
      (gives_if Q (eqb tag 1) _ _ (gives_give Q top (tt, λ o. tt))
      (gives_if Q (eqb tag 2) _ _ (gives_behind (λ i. i < n) Q (fact_number n) _ number_within (λ i h. gives_give Q (fact i) (h, λ o. tt)))
      (gives_if Q (eqb tag 3) _ _
      (gives_check Q theory 7 _ (λ t. gives_behind (λ i. i < n) Q (fact_number n) _ number_within (λ i h. gives_give Q (new_fact i) (h, λ o. not_both t o))))
      (gives_if Q (eqb tag 4) _ _ (gives_behind Q Q part _ within (λ f h. gives_give Q (negation f) h))
      (gives_if Q (eqb tag 5) _ _ (two conjunction (λ f g x y. (x, y)) (λ f g x y. (x, y)))
      (gives_if Q (eqb tag 6) _ _ (two disjunction (λ f g x y. (x, y)) (λ f g x y. (x, y)))
      (two equivalence (λ f g x y. (x, y)) (λ f g x y. (x, y)))))))))
    where
      Q : Objective → Type 0
      Q = Within theory

      two : (make : Objective → Objective → Objective) → ((f g : Objective) → FactsBelow n f → FactsBelow n g → FactsBelow n (make f g)) → ((f g : Objective) → NoNew f → NoNew g → NoNew (make f g))
          → Gives Q (part >>= λ f. part >>= λ g. give (make f g))
      two make low none =
          gives_behind Q Q part _ within (λ f h. gives_behind Q Q part _ within (λ g k.
          gives_give Q (make f g) (low f g h.0 k.0, λ o. none f g (h.1 o) (k.1 o))))

  objective_within : (theory : Bool) (d : ℕ) → Gives (Within theory) (objective n theory d)
  unfolding objective
  objective_within theory zero = gives_refuse (Within theory) 8
  objective_within theory (suc d) = gives_any (Within theory) (field 3) _ (objective_behind_within theory (objective n theory d) (objective_within theory d))

  -- An objective formula that is read outside a theory over n facts mentions those only, and no new fact.
  pub objective_facts : (d : ℕ) → Gives (ObjectiveFacts n) (objective n false d)
  objective_facts d bytes p f q e = let h = objective_within false d bytes p f q e in (h.0, h.1 refl)

  -- A theory that is read mentions those only.
  pub theory_facts : (d : ℕ) → Gives (FactsBelow n) (objective n true d)
  theory_facts d bytes p f q e = (objective_within true d bytes p f q e).0

  epistemic_behind_facts : (inside : Reader Objective) (part : Reader Epistemic) → Gives (ObjectiveFacts n) inside → Gives (EpistemicFacts n) part → (h : EpistemicNode)
      → Gives (EpistemicFacts n) (epistemic_behind inside part h)
  unfolding epistemic_behind EpistemicFacts
  epistemic_behind_facts inside part x y known_node = gives_behind (ObjectiveFacts n) (EpistemicFacts n) inside _ x (λ f h. gives_give (EpistemicFacts n) (known f) h)
  epistemic_behind_facts inside part x y not_known_node = gives_behind (ObjectiveFacts n) (EpistemicFacts n) inside _ x (λ f h. gives_give (EpistemicFacts n) (not_known f) h)
  epistemic_behind_facts inside part x y all_of_node =
      gives_behind (EpistemicFacts n) (EpistemicFacts n) part _ y (λ f h. gives_behind (EpistemicFacts n) (EpistemicFacts n) part _ y (λ g k. gives_give (EpistemicFacts n) (all_of f g) (h, k)))
  epistemic_behind_facts inside part x y any_of_node =
      gives_behind (EpistemicFacts n) (EpistemicFacts n) part _ y (λ f h. gives_behind (EpistemicFacts n) (EpistemicFacts n) part _ y (λ g k. gives_give (EpistemicFacts n) (any_of f g) (h, k)))

  epistemic_facts : (d : ℕ) → Gives (EpistemicFacts n) (epistemic n d)
  unfolding epistemic
  epistemic_facts zero = gives_refuse (EpistemicFacts n) 8
  epistemic_facts (suc d) = gives_any (EpistemicFacts n) epistemic_node _ (epistemic_behind_facts (objective n false d) (epistemic n d) (objective_facts d) (epistemic_facts d))

  replies_facts : (m : ℕ) → Gives (λ fs. (f : Objective) → Memᴰ f fs → ObjectiveFacts n f) (objectives n m)
  unfolding objectives
  replies_facts zero = gives_give _ [] (λ f m. absurd (Memᴰ.not-nil m))
  replies_facts (suc m) =
      gives_behind (ObjectiveFacts n) _ (objective n false deepest) _ (objective_facts deepest) (λ f h.
      gives_behind (λ fs. (x : Objective) → Memᴰ x fs → ObjectiveFacts n x) _ (objectives n m) _ (replies_facts m) (λ fs k.
      gives_give _ (f ∷ fs) (mem_more (ObjectiveFacts n) f fs h k)))

  action_behind_facts : (h : Kind) → Gives (ActionFacts n) (action_behind n h)
  unfolding action_behind replies_over ActionFacts
  action_behind_facts changes = gives_behind (FactsBelow n) (ActionFacts n) (theory_over n) _ (theory_facts deepest) (λ f h. gives_give (ActionFacts n) (change f) h)
  action_behind_facts probes =
      gives_behind (λ fs. (f : Objective) → Memᴰ f fs → ObjectiveFacts n f) (ActionFacts n) (replies_over n) _ (gives_any _ reply_total _ replies_facts) (λ fs h. gives_give (ActionFacts n) (probe fs) h)

  one_action_facts : Gives (ActionFacts n) (action n)
  unfolding action
  one_action_facts = gives_any (ActionFacts n) kind _ action_behind_facts

  list_facts : (k : ℕ) → Gives (λ actions. (a : Action) → Memᴰ a actions → ActionFacts n a) (action_list n k)
  unfolding action_list
  list_facts zero = gives_give _ [] (λ a m. absurd (Memᴰ.not-nil m))
  list_facts (suc k) =
      gives_behind (ActionFacts n) _ (action n) _ one_action_facts (λ a h.
      gives_behind (λ actions. (x : Action) → Memᴰ x actions → ActionFacts n x) _ (action_list n k) _ (list_facts k) (λ rest l.
      gives_give _ (a ∷ rest) (mem_more (ActionFacts n) a rest h l)))

  abbrev Routine : ProgramRead → Type 0
  Routine c = ProgramFacts n c.program

  program_behind_facts : (k : ℕ) (part : ℕ → ℕ → Reader ProgramRead) → ((acts branches : ℕ) → Gives Routine (part acts branches)) → (acts branches : ℕ) (h : ProgramNode)
      → Gives Routine (program_behind n k part acts branches h)
  unfolding program_behind ProgramFacts
  program_behind_facts k part facts acts branches end_node = gives_give Routine _ tt
  program_behind_facts k part facts acts branches (act_node a) =
      gives_check Routine (ltb a k) 9 _ (λ u. gives_behind Routine Routine (part (acts + 1) branches) _ (facts (acts + 1) branches) (λ c h. gives_give Routine _ h))
  program_behind_facts k part facts acts branches branch_node =
      gives_behind (EpistemicFacts n) Routine (epistemic n deepest) _ (epistemic_facts deepest) (λ f h.
      gives_behind Routine Routine (part acts (branches + 1)) _ (facts acts (branches + 1)) (λ x hx.
      gives_behind Routine Routine (part x.acts x.branches) _ (facts x.acts x.branches) (λ y hy.
      gives_behind Routine Routine (part y.acts y.branches) _ (facts y.acts y.branches) (λ z hz.
      gives_give Routine _ (h, hx, hy, hz)))))

  routine_facts : (k d acts branches : ℕ) → Gives Routine (program_within n k d acts branches)
  unfolding program_within
  routine_facts k zero acts branches = gives_refuse Routine 11
  routine_facts k (suc d) acts branches = gives_any Routine (program_node acts branches) _ (program_behind_facts k (program_within n k d) (routine_facts k d) acts branches)

  program_facts : (k : ℕ) → Gives Routine (program n k)
  unfolding program
  program_facts k = routine_facts k levels 0 0

-- The constraint mentions the facts of the header only, and no new fact.
abbrev HeaderFacts : Header → Type 0
HeaderFacts h = ObjectiveFacts h.facts h.constraint

constraint_facts : (edition n : ℕ) → Gives (ObjectiveFacts n) (constraint_over edition n)
unfolding constraint_over FactsBelow NoNew
constraint_facts edition n = gives_if (ObjectiveFacts n) (eqb edition 2) _ _ (objective_facts n deepest) (gives_give (ObjectiveFacts n) top (tt, tt))

header_facts : (takes : ℕ → Bool) → Gives HeaderFacts (header takes)
unfolding header header_behind
header_facts takes =
    gives_any HeaderFacts (field 4) _ (λ edition. gives_check HeaderFacts (takes edition) 3 _ (λ t.
    gives_any HeaderFacts (field 4) _ (λ n. gives_check HeaderFacts (leb 1 n && leb n most_facts) 4 _ (λ u.
    gives_behind (ObjectiveFacts n) HeaderFacts (constraint_over edition n) _ (constraint_facts edition n) (λ constraint hc.
    gives_any HeaderFacts (field 5) _ (λ k. gives_give HeaderFacts _ hc))))))

fields_facts : (takes : ℕ → Bool) → Gives SheetFacts (sheet_fields takes)
fields_facts takes =
    gives_behind HeaderFacts SheetFacts (header takes) body (header_facts takes) (λ h hh.
    gives_behind (λ actions. (a : Action) → Memᴰ a actions → ActionFacts h.facts a) SheetFacts (action_list h.facts h.actions) _ (list_facts h.facts h.actions) (λ actions ha.
    gives_behind (ObjectiveFacts h.facts) SheetFacts (objective h.facts false deepest) _ (objective_facts h.facts deepest) (λ start hs.
    gives_behind (EpistemicFacts h.facts) SheetFacts (epistemic h.facts deepest) _ (epistemic_facts h.facts deepest) (λ goal hg.
    gives_behind (λ c. ProgramFacts h.facts c.program) SheetFacts (program h.facts h.actions) _ (program_facts h.facts h.actions) (λ c hc.
    gives_give SheetFacts _ (record { constraint_facts = hh; action_facts = ha; start_facts = hs; goal_facts = hg; program_facts = hc }))))))

-- The formulas of an accepted sheet mention its facts only, and new facts in theories only.
pub accepted_facts : (bytes : List ℕ) (sheet : Sheet) → reading bytes ≡ gives sheet → SheetFacts sheet
accepted_facts bytes sheet e = let says = accepted_says bytes sheet e in fields_facts is_edition bytes 0 sheet says.ends says.fields
