-- The parts of an accepted sheet stand where specs/Standing.antt says, and stay inside the bytes. Assumes nothing.
use Prim.Native.Nat.{ℕ, zero, suc, ◌+◌, ◌-◌, ◌*◌, ◌≤◌, ◌<◌}
use mathlib.Core.Path.{◌≡◌, refl}
use mathlib.Core.List.{List, [], ◌∷◌}
use mathlib.Core.Bool.{Bool, true, false, ◌&&◌}
use native.Mathlib.Omega.{arith}
use lib.Dec.{leb, ltb, eqb}
use lib.ListN.{length}
use borrow.Author.Tests.{ltb-true}
use Rattle.lists.proofs.ListLaws.{both_true}
use Rattle.format.proofs.ReaderLaws.{Levels, read_levels}
use Rattle.format.specs.Syntax.{Objective, Epistemic, known, not_known, all_of, any_of, Program, end, act, branch, Action, change, probe, Sheet}
use Rattle.format.specs.Format.{gives, got, Reader, field, deepest, objective, EpistemicNode, known_node, not_known_node, all_of_node, any_of_node, epistemic_node, epistemic_behind, epistemic, objectives, Kind, changes, probes, kind, reply_total, theory_over, replies_over, action_behind, action, action_list, ProgramRead, ProgramNode, end_node, act_node, branch_node, program_node, program_behind, program_within, levels, program, Header, constraint_over, header_behind, header, body, is_edition, sheet_fields, is_padding, most_bytes, most_facts, most_replies, most_acts, most_branches, reading, Says}
use Rattle.format.specs.Standing.{ObjectiveAt, RepliesAt, ActionAt, ActionsAt, EpistemicAt, ProgramAt, Standing}
use Rattle.format.proofs.FormatLaws.{Finds, finds_give, finds_refuse, finds_if, finds_check, finds_behind, finds_field, got_behind, node_anywhere}
use Rattle.format.proofs.FormulaLaws.{objective_levels, objective_onward}
use Rattle.format.proofs.SheetLaws.{objectives_long, list_few, accepted_says}

module _ (bytes : List ℕ) (n : ℕ) where
  -- Replies that are read stand there.
  pub standing_replies : (m p : ℕ) → Finds bytes p (λ fs q. RepliesAt bytes n fs p q) (objectives n m)
  unfolding objectives RepliesAt
  standing_replies zero p = finds_give bytes p _ [] refl
  standing_replies (suc m) p =
      finds_behind bytes p _ (objective n false deepest) _ (λ f r e.
      finds_behind bytes r _ (objectives n m) _ (λ fs q h.
      finds_give bytes q _ (f ∷ fs) (r, e, (standing_replies m r).found fs q h)))

  -- An action that is read stands there.
  standing_behind : (p r : ℕ) (h : Kind) → kind bytes p ≡ got h r → Finds bytes r (λ a q. ActionAt bytes n a p q) (action_behind n h)
  unfolding action_behind replies_over ActionAt
  standing_behind p r changes e = finds_behind bytes r _ (theory_over n) _ (λ f q h. finds_give bytes q _ (change f) (r, e, h))
  standing_behind p r probes e =
      finds_behind bytes r _ (replies_over n) _ (λ fs q h.
      let w = got_behind reply_total (objectives n) bytes r fs q h in
      finds_give bytes q _ (probe fs)
      (r, e, w.middle, rw (objectives_long n w.value bytes w.middle fs q w.second) w.first, (standing_replies w.value w.middle).found fs q w.second))

  pub standing_action : (p : ℕ) → Finds bytes p (λ a q. ActionAt bytes n a p q) (action n)
  unfolding action
  standing_action p = finds_behind bytes p _ kind (action_behind n) (λ h r e. standing_behind p r h e)

  -- Actions that are read stand there.
  pub standing_actions : (k p : ℕ) → Finds bytes p (λ actions q. ActionsAt bytes n actions p q) (action_list n k)
  unfolding action_list ActionsAt
  standing_actions zero p = finds_give bytes p _ [] refl
  standing_actions (suc k) p =
      finds_behind bytes p _ (action n) _ (λ a r e.
      finds_behind bytes r _ (action_list n k) _ (λ rest q h.
      finds_give bytes q _ (a ∷ rest) (r, (standing_action p).found a r e, (standing_actions k r).found rest q h)))

  -- An epistemic formula behind its first node, whose parts stand where they are read.
  standing_epistemic_behind : (inside : Reader Objective) (part : Reader Epistemic) → ((f : Objective) (r q : ℕ) → inside bytes r ≡ got f q → ObjectiveAt bytes n false f r q)
      → ((f : Epistemic) (r q : ℕ) → part bytes r ≡ got f q → EpistemicAt bytes n f r q) → (p r : ℕ) (h : EpistemicNode) → epistemic_node bytes p ≡ got h r
      → Finds bytes r (λ f q. EpistemicAt bytes n f p q) (epistemic_behind inside part h)
  unfolding epistemic_behind EpistemicAt
  standing_epistemic_behind inside part x y p r known_node e = finds_behind bytes r _ inside _ (λ f q h. finds_give bytes q _ (known f) (r, e, x f r q h))
  standing_epistemic_behind inside part x y p r not_known_node e = finds_behind bytes r _ inside _ (λ f q h. finds_give bytes q _ (not_known f) (r, e, x f r q h))
  standing_epistemic_behind inside part x y p r all_of_node e =
      finds_behind bytes r _ part _ (λ f i h. finds_behind bytes i _ part _ (λ g q j. finds_give bytes q _ (all_of f g) (r, e, i, y f r i h, y g i q j)))
  standing_epistemic_behind inside part x y p r any_of_node e =
      finds_behind bytes r _ part _ (λ f i h. finds_behind bytes i _ part _ (λ g q j. finds_give bytes q _ (any_of f g) (r, e, i, y f r i h, y g i q j)))

  -- An epistemic formula that is read, with at most 16 levels, stands there.
  pub standing_epistemic : (d : ℕ) → d ≤ deepest → (p : ℕ) → Finds bytes p (λ f q. EpistemicAt bytes n f p q) (epistemic n d)
  unfolding epistemic
  standing_epistemic zero l p = finds_refuse bytes p _ 8
  standing_epistemic (suc d) l p =
      finds_behind bytes p _ epistemic_node _ (λ h r e.
      standing_epistemic_behind (objective n false d) (epistemic n d) (λ f i q j. objective_levels n false d deepest (omega arith) bytes i f q j)
      (λ f i q j. (standing_epistemic d (omega arith) i).found f q j) p r h e)

  -- A program behind its first node, whose parts stand where they are read.
  standing_program_behind : (k : ℕ) (part : ℕ → ℕ → Reader ProgramRead) → ((acts branches p : ℕ) → Finds bytes p (λ c q. ProgramAt bytes n c.program p q) (part acts branches))
      → (acts branches p r : ℕ) (h : ProgramNode) → program_node 0 0 bytes p ≡ got h r → Finds bytes r (λ c q. ProgramAt bytes n c.program p q) (program_behind n k part acts branches h)
  unfolding program_behind ProgramAt
  standing_program_behind k part stands acts branches p r end_node e = finds_give bytes r _ _ e
  standing_program_behind k part stands acts branches p r (act_node a) e =
      finds_check bytes r _ (ltb a k) 9 _ (λ w. finds_behind bytes r _ (part (acts + 1) branches) _ (λ c q h. finds_give bytes q _ _ (r, e, (stands (acts + 1) branches r).found c q h)))
  standing_program_behind k part stands acts branches p r branch_node e =
      finds_behind bytes r Q (epistemic n deepest) _ (λ f i h.
      finds_behind bytes i Q (part acts (branches + 1)) _ (λ x j hx.
      finds_behind bytes j Q (part x.acts x.branches) _ (λ y l hy.
      finds_behind bytes l Q (part y.acts y.branches) _ (λ z q hz.
      finds_give bytes q Q _ (
        r,
        e,
        record {
          then_at = i;
          else_at = j;
          rest_at = l;
          condition_read = h;
          condition_stands = (standing_epistemic deepest (omega arith) r).found f i h;
          then_stands = (stands acts (branches + 1) i).found x j hx;
          else_stands = (stands x.acts x.branches j).found y l hy;
          rest_stands = (stands y.acts y.branches l).found z q hz;
        },
      )))))
    where
      Q : ProgramRead → ℕ → Type 0
      Q c q = ProgramAt bytes n c.program p q

  -- A program that is read stands there.
  standing_within : (k d acts branches p : ℕ) → Finds bytes p (λ c q. ProgramAt bytes n c.program p q) (program_within n k d acts branches)
  unfolding program_within
  standing_within k zero acts branches p = finds_refuse bytes p _ 11
  standing_within k (suc d) acts branches p =
      finds_behind bytes p _ (program_node acts branches) _ (λ h r e. standing_program_behind k (program_within n k d) (λ a b i. standing_within k d a b i) acts branches p r h (node_anywhere acts branches bytes p h r e))

  pub standing_program : (k p : ℕ) → Finds bytes p (λ c q. ProgramAt bytes n c.program p q) (program n k)
  unfolding program
  standing_program k p = standing_within k levels 0 0 p

-- The kind of an action, a reply count and a first node end behind their beginning, and inside the bytes.
module _ (bytes : List ℕ) (p : ℕ) where
  abbrev Inside : {A : Type 0} → A → ℕ → Type 0
  Inside a q = (p < q) × (q ≤ 8 * length bytes)

  pub kind_inside : Finds bytes p (λ h q. (p < q) × (q ≤ 8 * length bytes)) kind
  unfolding kind
  kind_inside =
      finds_field bytes p Inside 1 (p + 1) refl _ (λ bit e low.
      finds_if bytes (p + 1) Inside (eqb bit 0) _ _ (λ t. finds_give bytes (p + 1) Inside changes (omega arith, low)) (λ t. finds_give bytes (p + 1) Inside probes (omega arith, low)))

  pub total_inside : Finds bytes p (λ m q. (p < q) × (q ≤ 8 * length bytes)) reply_total
  unfolding reply_total
  total_inside =
      finds_field bytes p Inside 4 (p + 4) refl _ (λ m e low. finds_check bytes (p + 4) Inside (leb 1 m && leb m most_replies) 5 _ (λ t. finds_give bytes (p + 4) Inside m (omega arith, low)))

  -- The first node of an epistemic formula takes two bits at least.
  pub epistemic_node_inside : Finds bytes p (λ a q. (p + 2 ≤ q) × (q ≤ 8 * length bytes)) epistemic_node
  unfolding epistemic_node
  epistemic_node_inside =
      finds_field bytes p _ 2 (p + 2) refl _ (λ tag e low.
      finds_if bytes (p + 2) _ (eqb tag 0) _ _ (λ t. finds_give bytes (p + 2) _ known_node (omega arith, low))
      (λ t. finds_if bytes (p + 2) _ (eqb tag 1) _ _ (λ u. finds_give bytes (p + 2) _ not_known_node (omega arith, low))
      (λ u. finds_if bytes (p + 2) _ (eqb tag 2) _ _ (λ v. finds_give bytes (p + 2) _ all_of_node (omega arith, low))
      (λ v. finds_give bytes (p + 2) _ any_of_node (omega arith, low)))))

  pub program_node_inside : Finds bytes p (λ a q. (p + 2 ≤ q) × (q ≤ 8 * length bytes)) (program_node 0 0)
  unfolding program_node
  program_node_inside =
      finds_field bytes p _ 2 (p + 2) refl _ (λ tag e low.
      finds_if bytes (p + 2) _ (eqb tag 0) _ _ (λ t. finds_give bytes (p + 2) _ end_node (omega arith, low))
      (λ t. finds_if bytes (p + 2) _ (eqb tag 1) _ _
      (λ u. finds_check bytes (p + 2) _ (ltb 0 most_acts) 11 _ (λ w. finds_field bytes (p + 2) _ 5 (p + 7) (omega arith) _ (λ a g low'. finds_give bytes (p + 7) _ (act_node a) (omega arith, low'))))
      (λ u. finds_if bytes (p + 2) _ (eqb tag 2) _ _ (λ v. finds_check bytes (p + 2) _ (ltb 0 most_branches) 11 _ (λ w. finds_give bytes (p + 2) _ branch_node (omega arith, low)))
      (λ v. finds_refuse bytes (p + 2) _ 10))))

module _ (bytes : List ℕ) (n : ℕ) where
  -- An objective formula ends behind its beginning, and inside the bytes.
  pub objective_inside : (theory : Bool) (f : Objective) (p q : ℕ) → ObjectiveAt bytes n theory f p q → (p < q) × (q ≤ 8 * length bytes)
  objective_inside theory f p q e = let h = (objective_onward n theory deepest bytes p).found f q e in (omega arith, h.1)

  -- Replies that begin inside the bytes end inside.
  pub replies_inside : (fs : List Objective) (p q : ℕ) → p ≤ 8 * length bytes → RepliesAt bytes n fs p q → (p ≤ q) × (q ≤ 8 * length bytes)
  unfolding RepliesAt
  replies_inside [] p q l e = (omega arith, omega arith)
  replies_inside (f ∷ fs) p q l s =
      let x = objective_inside false f p s.0 s.1 in
      let y = replies_inside fs s.0 q x.1 s.2 in
      (omega arith, y.1)

  -- An action ends behind its beginning, and inside the bytes.
  pub action_inside : (a : Action) (p q : ℕ) → ActionAt bytes n a p q → (p < q) × (q ≤ 8 * length bytes)
  unfolding ActionAt
  action_inside (change f) p q s =
      let h = (kind_inside bytes p).found changes s.0 s.1 in
      let x = objective_inside true f s.0 q s.2 in
      (omega arith, x.1)
  action_inside (probe fs) p q s =
      let h = (kind_inside bytes p).found probes s.0 s.1 in
      let x = (total_inside bytes s.0).found (length fs) s.2 s.3 in
      let y = replies_inside fs s.2 q x.1 s.4 in
      (omega arith, y.1)

  -- Actions that begin inside the bytes end inside.
  pub actions_inside : (actions : List Action) (p q : ℕ) → p ≤ 8 * length bytes → ActionsAt bytes n actions p q → (p ≤ q) × (q ≤ 8 * length bytes)
  unfolding ActionsAt
  actions_inside [] p q l e = (omega arith, omega arith)
  actions_inside (a ∷ rest) p q l s =
      let x = action_inside a p s.0 s.1 in
      let y = actions_inside rest s.0 q x.1 s.2 in
      (omega arith, y.1)

  -- An epistemic formula ends behind its beginning, and inside the bytes.
  pub epistemic_inside : (f : Epistemic) (p q : ℕ) → EpistemicAt bytes n f p q → (p < q) × (q ≤ 8 * length bytes)
  unfolding EpistemicAt
  epistemic_inside (known f) p q s =
      let h = (epistemic_node_inside bytes p).found known_node s.0 s.1 in
      let x = objective_inside false f s.0 q s.2 in
      (omega arith, x.1)
  epistemic_inside (not_known f) p q s =
      let h = (epistemic_node_inside bytes p).found not_known_node s.0 s.1 in
      let x = objective_inside false f s.0 q s.2 in
      (omega arith, x.1)
  epistemic_inside (all_of f g) p q s =
      let h = (epistemic_node_inside bytes p).found all_of_node s.0 s.1 in
      let x = epistemic_inside f s.0 s.2 s.3 in
      let y = epistemic_inside g s.2 q s.4 in
      (omega arith, y.1)
  epistemic_inside (any_of f g) p q s =
      let h = (epistemic_node_inside bytes p).found any_of_node s.0 s.1 in
      let x = epistemic_inside f s.0 s.2 s.3 in
      let y = epistemic_inside g s.2 q s.4 in
      (omega arith, y.1)

  -- A program ends behind its beginning, and inside the bytes.
  pub program_inside : (program : Program) (p q : ℕ) → ProgramAt bytes n program p q → (p < q) × (q ≤ 8 * length bytes)
  unfolding ProgramAt
  program_inside end p q s = let h = (program_node_inside bytes p).found end_node q s in (omega arith, h.1)
  program_inside (act a rest) p q s =
      let h = (program_node_inside bytes p).found (act_node a) s.0 s.1 in
      let x = program_inside rest s.0 q s.2 in
      (omega arith, x.1)
  program_inside (branch f y z rest) p q s =
      let h = (program_node_inside bytes p).found branch_node s.0 s.1 in
      let parts = s.2 in
      let a = epistemic_inside f s.0 parts.then_at parts.condition_stands in
      let b = program_inside y parts.then_at parts.else_at parts.then_stands in
      let c = program_inside z parts.else_at parts.rest_at parts.else_stands in
      let d = program_inside rest parts.rest_at q parts.rest_stands in
      (omega arith, d.1)

-- Every condition of a program has at most 16 levels.
unfoldable pub Shallow : Program → Type 0
Shallow end = Unit {0}
Shallow (act a rest) = Shallow rest
Shallow (branch f y z rest) = Levels f deepest × Shallow y × Shallow z × Shallow rest

pub standing_shallow : (bytes : List ℕ) (n : ℕ) (program : Program) (p q : ℕ) → ProgramAt bytes n program p q → Shallow program
unfolding ProgramAt Shallow
standing_shallow bytes n end p q s = tt
standing_shallow bytes n (act a rest) p q s = standing_shallow bytes n rest s.0 q s.2
standing_shallow bytes n (branch f y z rest) p q s =
    let parts = s.2 in (
      read_levels n bytes deepest s.0 f parts.then_at parts.condition_read,
      standing_shallow bytes n y parts.then_at parts.else_at parts.then_stands,
      standing_shallow bytes n z parts.else_at parts.rest_at parts.else_stands,
      standing_shallow bytes n rest parts.rest_at q parts.rest_stands,
    )

-- The fields of a sheet stand where they are read.
fields_standing : (bytes : List ℕ) → length bytes ≤ most_bytes → Finds bytes 0 (λ sheet q. is_padding bytes q ≡ true → Standing bytes sheet) (sheet_fields is_edition)
unfolding is_padding
fields_standing bytes short =
    finds_behind bytes 0 Q (header is_edition) body (λ h actions_at hh.
    finds_behind bytes actions_at Q (action_list h.facts h.actions) _ (λ actions start_at ha.
    finds_behind bytes start_at Q (objective h.facts false deepest) _ (λ start goal_at hs.
    finds_behind bytes goal_at Q (epistemic h.facts deepest) _ (λ goal program_at hg.
    finds_behind bytes program_at Q (program h.facts h.actions) _ (λ c end_at hp.
    finds_give bytes end_at Q _ (λ padded.
    let v = both_true (ltb (8 * length bytes - end_at) 8) _ padded in
    let stand = (standing_program bytes h.facts h.actions program_at).found c end_at hp in
    let i = program_inside bytes h.facts c.program program_at end_at stand in
    record {
      short = short;
      actions_at = actions_at;
      edition = h.edition;
      header_read = rw (list_few h.facts h.actions bytes actions_at actions start_at ha).0 hh;
      start_at = start_at;
      goal_at = goal_at;
      program_at = program_at;
      end_at = end_at;
      actions_stand = (standing_actions bytes h.facts h.actions actions_at).found actions start_at ha;
      start_stands = hs;
      goal_read = hg;
      goal_stands = (standing_epistemic bytes h.facts deepest (omega arith) goal_at).found goal program_at hg;
      program_stands = stand;
      inside = i.1;
      spare = omega (arith, ltb-true (8 * length bytes - end_at) 8 v.0);
      padded = padded;
    }))))))
  where
    Q : Sheet → ℕ → Type 0
    Q sheet q = is_padding bytes q ≡ true → Standing bytes sheet

-- The parts of a sheet stand in the bytes that say it, and so those of an accepted sheet.
says_standing : (bytes : List ℕ) (sheet : Sheet) → Says bytes sheet → Standing bytes sheet
says_standing bytes sheet says = (fields_standing bytes says.short).found sheet says.ends says.fields says.padded

pub accepted_standing : (bytes : List ℕ) (sheet : Sheet) → reading bytes ≡ gives sheet → Standing bytes sheet
accepted_standing bytes sheet e = says_standing bytes sheet (accepted_says bytes sheet e)

-- The fields of a header that is read: the edition, the number of facts, the constraint straight after it, and the number of actions.
pub record HeaderFields (bytes : List ℕ) (h : Header) (q : ℕ) : Type 0 where
  pub edition_read : field 4 bytes 0 ≡ got h.edition 4
  pub edition_taken : is_edition h.edition ≡ true
  pub facts_read : field 4 bytes 4 ≡ got h.facts 8
  pub constraint_end : ℕ
  pub constraint_read : constraint_over h.edition h.facts bytes 8 ≡ got h.constraint constraint_end
  pub actions_read : field 5 bytes constraint_end ≡ got h.actions q

header_fields : (bytes : List ℕ) → Finds bytes 0 (λ h q. HeaderFields bytes h q) (header is_edition)
unfolding header header_behind
header_fields bytes =
    finds_field bytes 0 Q 4 4 refl _ (λ edition e low. finds_check bytes 4 Q (is_edition edition) 3 _ (λ t.
    finds_field bytes 4 Q 4 8 refl _ (λ n f low'. finds_check bytes 8 Q (leb 1 n && leb n most_facts) 4 _ (λ u.
    finds_behind bytes 8 Q (constraint_over edition n) _ (λ constraint i g.
    finds_behind bytes i Q (field 5) _ (λ k q l.
    finds_give bytes q Q _ (record { edition_read = e; edition_taken = t; facts_read = f; constraint_end = i; constraint_read = g; actions_read = l })))))))
  where
    Q : Header → ℕ → Type 0
    Q h q = HeaderFields bytes h q

-- Of a sheet.
pub says_header : (bytes : List ℕ) (sheet : Sheet) → Says bytes sheet → (edition q : ℕ) × HeaderFields bytes (record { edition = edition; facts = sheet.facts; constraint = sheet.constraint; actions = length sheet.actions }) q
says_header bytes sheet says = let s = says_standing bytes sheet says in (s.edition, s.actions_at, (header_fields bytes).found _ s.actions_at s.header_read)
