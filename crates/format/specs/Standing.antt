-- The method: where the parts of a sheet stand in its bytes, by the sheet's data. An auditor of the promises needs none of it. So code walks through an accepted sheet without
-- opening a reader (proofs/StandingLaws.antt, `accepted_standing`).
use Rattle.std.specs.Prelude.{ℕ, ◌+◌, ◌*◌, ◌≤◌, ◌<◌, ◌≡◌, Bool, false, length}
use mathlib.Core.List.{List, [], ◌∷◌}
use Rattle.std.proofs.Math.Bool.{true}
use Rattle.format.specs.Syntax.{Objective, Epistemic, known, not_known, all_of, any_of, Program, end, act, branch, Action, change, probe, Sheet}
use Rattle.format.specs.Format.{got, known_node, not_known_node, all_of_node, any_of_node, epistemic_node, end_node, act_node, branch_node, program_node, most_bytes, deepest, changes, probes, kind, reply_total, objective, epistemic, is_edition, header, is_padding}

-- Where the parts of a branch stand behind its tag, from p to q: its condition, which C says is read and F that it stands, its then-program, its else-program and
-- its rest, one after the other.
pub record BranchAt (C F Y Z R : ℕ → ℕ → Type 0) (p q : ℕ) : Type 0 where
  pub then_at : ℕ
  pub else_at : ℕ
  pub rest_at : ℕ
  pub condition_read : C p then_at
  pub condition_stands : F p then_at
  pub then_stands : Y then_at else_at
  pub else_stands : Z else_at rest_at
  pub rest_stands : R rest_at q

module _ (bytes : List ℕ) (n : ℕ) where
  -- An objective formula over n facts stands from p to q.
  abbrev pub ObjectiveAt : (theory : Bool) → Objective → (p q : ℕ) → Type 0
  ObjectiveAt theory f p q = objective n theory deepest bytes p ≡ got f q

  -- Replies stand from p to q, one after the other.
  unfoldable pub RepliesAt : List Objective → (p q : ℕ) → Type 0
  RepliesAt [] p q = p ≡ q
  RepliesAt (f ∷ fs) p q = (r : ℕ) × ObjectiveAt false f p r × RepliesAt fs r q

  -- An action stands from p to q.
  unfoldable pub ActionAt : Action → (p q : ℕ) → Type 0
  unfolding RepliesAt
  ActionAt (change f) p q = (r : ℕ) × (kind bytes p ≡ got changes r) × ObjectiveAt true f r q
  ActionAt (probe fs) p q = (r : ℕ) × (kind bytes p ≡ got probes r) × (i : ℕ) × (reply_total bytes r ≡ got (length fs) i) × RepliesAt fs i q

  -- Actions stand from p to q, one after the other.
  unfoldable pub ActionsAt : List Action → (p q : ℕ) → Type 0
  unfolding ActionAt
  ActionsAt [] p q = p ≡ q
  ActionsAt (a ∷ rest) p q = (r : ℕ) × ActionAt a p r × ActionsAt rest r q

  -- An epistemic formula stands from p to q.
  unfoldable pub EpistemicAt : Epistemic → (p q : ℕ) → Type 0
  EpistemicAt (known f) p q = (r : ℕ) × (epistemic_node bytes p ≡ got known_node r) × ObjectiveAt false f r q
  EpistemicAt (not_known f) p q = (r : ℕ) × (epistemic_node bytes p ≡ got not_known_node r) × ObjectiveAt false f r q
  EpistemicAt (all_of f g) p q = (i : ℕ) × (epistemic_node bytes p ≡ got all_of_node i) × (r : ℕ) × EpistemicAt f i r × EpistemicAt g r q
  EpistemicAt (any_of f g) p q = (i : ℕ) × (epistemic_node bytes p ≡ got any_of_node i) × (r : ℕ) × EpistemicAt f i r × EpistemicAt g r q

  -- An epistemic formula is read from p to q.
  abbrev pub EpistemicRead : Epistemic → (p q : ℕ) → Type 0
  EpistemicRead f p q = epistemic n deepest bytes p ≡ got f q

  -- A program stands from p to q.
  unfoldable pub ProgramAt : Program → (p q : ℕ) → Type 0
  unfolding EpistemicAt
  ProgramAt end p q = program_node 0 0 bytes p ≡ got end_node q
  ProgramAt (act a rest) p q = (r : ℕ) × (program_node 0 0 bytes p ≡ got (act_node a) r) × ProgramAt rest r q
  ProgramAt (branch f y z rest) p q = (r : ℕ) × (program_node 0 0 bytes p ≡ got branch_node r) × BranchAt (EpistemicRead f) (EpistemicAt f) (ProgramAt y) (ProgramAt z) (ProgramAt rest) r q

-- Where the parts of a sheet stand: behind its header the actions, the start formula, the goal and the program, one after the other, and fewer than 8 bits behind
-- these the end of the bytes.
pub record Standing (bytes : List ℕ) (sheet : Sheet) : Type 0 where
  pub short : length bytes ≤ most_bytes
  pub actions_at : ℕ
  pub edition : ℕ
  pub header_read : header is_edition bytes 0 ≡ got (record { edition = edition; facts = sheet.facts; constraint = sheet.constraint; actions = length sheet.actions }) actions_at
  pub start_at : ℕ
  pub goal_at : ℕ
  pub program_at : ℕ
  pub end_at : ℕ
  pub actions_stand : ActionsAt bytes sheet.facts sheet.actions actions_at start_at
  pub start_stands : ObjectiveAt bytes sheet.facts false sheet.start start_at goal_at
  pub goal_read : EpistemicRead bytes sheet.facts sheet.goal goal_at program_at
  pub goal_stands : EpistemicAt bytes sheet.facts sheet.goal goal_at program_at
  pub program_stands : ProgramAt bytes sheet.facts sheet.program program_at end_at
  pub inside : end_at ≤ 8 * length bytes
  pub spare : 8 * length bytes < end_at + 8
  pub padded : is_padding bytes end_at ≡ true
