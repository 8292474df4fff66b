-- Laws of programs: how the first node tells the parts of one that stands in a sheet, and how its nodes and sets are written part by part. Assumes nothing.
use Prim.Native.Nat.{ℕ, suc, ◌+◌, ◌-◌, ◌*◌, ◌≤◌, ◌<◌}
use mathlib.Core.Path.{◌≡◌, refl, sym, ap, ap₂, subst, ◌∙◌}
use mathlib.Core.List.{List, [], ◌∷◌, ◌++◌, flat_map, append_assoc}
use native.Mathlib.Omega.{arith}
use lib.ListN.{length, length-append}
use Rattle.format.specs.Syntax.{Epistemic, Program, end, act, branch, action_nodes}
use Rattle.format.specs.Format.{Read, got, fault, ProgramNode, end_node, act_node, branch_node, program_node, deepest, epistemic}
use Rattle.format.proofs.StandingLaws.{epistemic_inside, program_node_inside, program_inside}
use Rattle.format.specs.Standing.{BranchAt, EpistemicAt, EpistemicRead, ProgramAt}
use Rattle.format.proofs.FormatLaws.{node_numbered}
use Rattle.routine.specs.declared.memory.Node.{Node}
use Rattle.routine.specs.declared.conditions.Filled.{Filled}
use Rattle.states.specs.Sets.{words}
use Rattle.lists.specs.Lists.{write}
use Rattle.routine.specs.Memory.{cells, Small, node_most}
use Rattle.routine.specs.Tables.{atoms, atom_sets, formula_size, formula_nodes, size, program_atoms, program_sets, program_nodes, routine_nodes, goal_node}
use Rattle.routine.specs.Filling.{FormulaRoom, FormulaFills, FormulaWritten, behind_formula, ProgramRoom, ProgramFills, ProgramWritten, behind_program, RoutineRoom}
use Rattle.routine.proofs.WriteLaws.{spread_one, spread_on, node_before, words_four, cells_three}
use Rattle.routine.proofs.SizeLaws.{formula_length, atom_sets_length, nodes_length, program_sets_length}
use Rattle.routine.proofs.ConditionLaws.{parts_from}

module _ (bytes : List ℕ) (n at : ℕ) where
  -- A program of an action node, behind which the rest stands from p to q.
  pub record ActAt (a : ℕ) (x : Program) (p q : ℕ) : Type 0 where
    pub rest : Program
    pub is : x ≡ act a rest
    pub many : size x ≡ suc (size rest)
    pub sets_many : program_atoms x ≡ program_atoms rest
    pub acts_many : action_nodes x ≡ suc (action_nodes rest)
    pub stands : ProgramAt bytes n rest p q
    pub before : at < p
    pub small : a < 32

  -- A program of a branch node, behind which its parts stand from p to q.
  pub record ForkAt (x : Program) (p q : ℕ) : Type 0 where
    pub condition : Epistemic
    pub yes : Program
    pub no : Program
    pub rest : Program
    pub is : x ≡ branch condition yes no rest
    pub many : size x ≡ suc (formula_size condition + (size yes + suc (size no + size rest)))
    pub acts_many : action_nodes x ≡ action_nodes yes + action_nodes no + action_nodes rest
    pub sets_many : program_atoms x ≡ atoms condition + (program_atoms yes + (program_atoms no + program_atoms rest))
    pub parts : BranchAt (EpistemicRead bytes n condition) (EpistemicAt bytes n condition) (ProgramAt bytes n yes) (ProgramAt bytes n no) (ProgramAt bytes n rest) p q
    pub before : at < p

  -- The parts of a program that ends at q, by what its first node is.
  abbrev pub Parts : Read ProgramNode → (x : Program) (q : ℕ) → Type 0
  Parts (got end_node p) x q = (x ≡ end) × (p ≡ q)
  Parts (got (act_node a) p) x q = ActAt a x p q
  Parts (got branch_node p) x q = ForkAt x p q
  Parts (fault r) x q = ⊥

  parts_found : (x : Program) (q : ℕ) → ProgramAt bytes n x at q → Parts (program_node 0 0 bytes at) x q
  unfolding ProgramAt size program_atoms action_nodes
  parts_found end q s = rw s (refl, refl)
  parts_found (act a rest) q s =
      let h = (program_node_inside bytes at).found (act_node a) s.0 s.1 in
      rw s.1 (record {
        rest = rest;
        is = refl;
        many = refl;
        sets_many = refl;
        acts_many = refl;
        stands = s.2;
        before = omega (arith, h.0);
        small = node_numbered 0 0 bytes at (act_node a) s.0 s.1;
      })
  parts_found (branch f y z rest) q s =
      rw s.1 (record { condition = f; yes = y; no = z; rest = rest; is = refl; many = refl; acts_many = refl; sets_many = refl; parts = s.2; before = let i = (program_node_inside bytes at).found branch_node s.0 s.1 in omega (arith, i.0) })

  -- The parts of a program that stands, by what `program_node` answers.
  pub program_parts : {h : Read ProgramNode} → h ≡ program_node 0 0 bytes at → (x : Program) (q : ℕ) → ProgramAt bytes n x at q → Parts h x q
  program_parts e x q s = subst (λ r. Parts r x q) (sym e) (parts_found x q s)

-- The end has none.
pub laid_end : (from : Filled) {x : Program} (p q : ℕ) (nodes sets : List ℕ) → (x ≡ end) × (p ≡ q)
    → ProgramWritten from x q nodes nodes sets sets (record { at = p; node = from.node; set = from.set; acts = from.acts })
unfolding size program_atoms program_nodes program_sets action_nodes flat_map write
laid_end from p q nodes sets h =
    let i : from.node ≡ from.node + 0 = omega arith in
    let j : from.set ≡ from.set + 0 = omega arith in
    let k : from.acts ≡ from.acts + 0 = omega arith in
    rw h.0 (λ v. record { at = h.1 v; node = i v; set = j v; acts = k v }, refl, refl)

-- Where an else-program is written: behind the jump that stands behind the then-program.
abbrev pub besides : Filled → Filled
besides from = parts_from from from.at

module _ (bytes : List ℕ) (n : ℕ) (from : Filled) where
  -- An action node and the rest.
  abbrev pub rest_from : (p : ℕ) → Filled
  rest_from p = record { at = p; node = from.node + 1; set = from.set; acts = from.acts + 1 }

  module _ {a : ℕ} {x : Program} {p q : ℕ} (h : ActAt bytes n from.at a x p q) where
    -- The rest stands later.
    pub rest_later : 8 * length bytes - p < 8 * length bytes - from.at
    rest_later = let i = program_inside bytes n h.rest p q h.stands in omega (arith, h.before)

    pub laid_act : (nodes nodes₁ sets : List ℕ) {nodes₂ sets₂ : List ℕ} {r : Filled} → nodes₁ ≡ write nodes (3 * from.node) (cells (Node.Act a from.acts))
        → ProgramFills bytes n (rest_from p) nodes₁ nodes₂ sets sets₂ r → ProgramWritten from x q nodes nodes₂ sets sets₂ r
    unfolding size program_atoms program_nodes program_sets action_nodes
    laid_act nodes nodes₁ sets {nodes₂ = nodes₂} put fills =
        let b = fills h.rest q h.stands in
        let node = Node.Act a from.acts in
        let i : from.node + 1 + size h.rest ≡ from.node + suc (size h.rest) = omega arith in
        let j : from.acts + 1 + action_nodes h.rest ≡ from.acts + suc (action_nodes h.rest) = omega arith in
        rw h.is (
          b.0 ∙ rw (i, j),
          spread_on 3 cells cells_three nodes nodes₁ nodes₂ from.node (from.node + 1) (node ∷ []) (program_nodes h.rest from.set (from.acts + 1))
              (spread_one cells node nodes (3 * from.node) put) b.1 refl,
          b.2,
        )

  -- Room for them.
  module _ (room : ProgramRoom bytes n from) {a p : ℕ} (h : ActAt bytes n from.at a room.program p room.next) where
    pub act_room : from.node < node_most
    act_room = omega (arith, room.nodes_room, h.many)

    pub act_counted : from.acts < 64
    act_counted = omega (arith, room.acts_room, h.acts_many)

    pub act_small : Small (Node.Act a from.acts)
    unfolding Small
    act_small = (omega (arith, h.small), omega (arith, act_counted))

    pub rest_room : ProgramRoom bytes n (rest_from p)
    rest_room =
        record {
          program = h.rest;
          next = room.next;
          stands = h.stands;
          nodes_room = omega (arith, room.nodes_room, h.many);
          sets_room = omega (arith, room.sets_room, h.sets_many);
          acts_room = omega (arith, room.acts_room, h.acts_many);
        }

-- Four parts written one behind the other.
module _ {A : Type 0} (w : ℕ) (spread : A → List ℕ) (wide : (a : A) → length (spread a) ≡ w) (xs us vs ws ys : List ℕ) (i j l m : ℕ) (first second third fourth : List A) where
  four_parts : us ≡ write xs (w * i) (flat_map spread first) → vs ≡ write us (w * j) (flat_map spread second) → ws ≡ write vs (w * l) (flat_map spread third) → ys ≡ write ws (w * m) (flat_map spread fourth)
      → i + length first ≡ j → j + length second ≡ l → l + length third ≡ m → ys ≡ write xs (w * i) (flat_map spread (first ++ (second ++ (third ++ fourth))))
  four_parts a b c d e f g =
      let one = spread_on w spread wide xs us vs i j first second a b e in
      let two = spread_on w spread wide vs ws ys l m third fourth c d g in
      spread_on w spread wide xs vs ys i l (first ++ second) (third ++ fourth) one two (omega (arith, e, f, length-append first second))
      ∙ ap (λ (items : List A). write xs (w * i) (flat_map spread items)) (append_assoc first second (third ++ fourth))

-- A branch node and its parts.
module _ (bytes : List ℕ) (n : ℕ) (from : Filled) where
  module _ {x : Program} {p q : ℕ} (h : ForkAt bytes n from.at x p q) where
    -- How far its parts reach.
    abbrev pub condition_behind : Filled
    condition_behind = behind_formula (parts_from from p) h.condition h.parts.then_at

    abbrev pub then_behind : Filled
    then_behind = behind_program condition_behind h.yes h.parts.else_at

    abbrev pub else_behind : Filled
    else_behind = behind_program (besides then_behind) h.no h.parts.rest_at

    -- They stand one behind the other.
    onward : (from.at < h.parts.then_at) × (h.parts.then_at < h.parts.else_at) × (h.parts.else_at < h.parts.rest_at) × (h.parts.rest_at < 8 * length bytes)
    onward =
        let parts = h.parts in
        let a = epistemic_inside bytes n h.condition p parts.then_at parts.condition_stands in
        let b = program_inside bytes n h.yes parts.then_at parts.else_at parts.then_stands in
        let c = program_inside bytes n h.no parts.else_at parts.rest_at parts.else_stands in
        let d = program_inside bytes n h.rest parts.rest_at q parts.rest_stands in
        (omega (arith, h.before), b.0, c.0, omega arith)

    pub then_later : {c : Filled} → c ≡ condition_behind → 8 * length bytes - c.at < 8 * length bytes - from.at
    then_later is = omega (arith, onward, ap (λ (v : Filled). v.at) is)

    pub else_later : {y : Filled} → y ≡ then_behind → 8 * length bytes - y.at < 8 * length bytes - from.at
    else_later is = omega (arith, onward, ap (λ (v : Filled). v.at) is)

    pub last_later : {z : Filled} → z ≡ else_behind → 8 * length bytes - z.at < 8 * length bytes - from.at
    last_later is = omega (arith, onward, ap (λ (v : Filled). v.at) is)

    pub then_reached : {c y : Filled} → c ≡ condition_behind → ((x : Program) (q : ℕ) → ProgramAt bytes n x c.at q → y ≡ behind_program c x q) → y ≡ then_behind
    then_reached {y = y} is reach =
        subst (λ (v : Filled). (x : Program) (q : ℕ) → ProgramAt bytes n x v.at q → y ≡ behind_program v x q) is reach h.yes h.parts.else_at h.parts.then_stands

    pub else_reached : {y z : Filled} → y ≡ then_behind → ((x : Program) (q : ℕ) → ProgramAt bytes n x y.at q → z ≡ behind_program (besides y) x q) → z ≡ else_behind
    else_reached {z = z} is reach =
        subst (λ (v : Filled). (x : Program) (q : ℕ) → ProgramAt bytes n x v.at q → z ≡ behind_program (besides v) x q) is reach h.no h.parts.rest_at h.parts.else_stands

    -- What is written of the parts.
    module _ (nodes nodes₁ sets sets₁ : List ℕ) {c : Filled} (fc : FormulaFills bytes n deepest (parts_from from p) nodes nodes₁ sets sets₁ c) where
      condition_written : FormulaWritten (parts_from from p) h.condition h.parts.then_at nodes nodes₁ sets sets₁ c
      condition_written = fc h.condition h.parts.then_at h.parts.condition_read

    module _ (nodes nodes₁ sets sets₁ : List ℕ) {c y : Filled} (is : c ≡ condition_behind) (fy : ProgramFills bytes n c nodes nodes₁ sets sets₁ y) where
      then_written : ProgramWritten condition_behind h.yes h.parts.else_at nodes nodes₁ sets sets₁ y
      then_written = subst (λ (v : Filled). ProgramFills bytes n v nodes nodes₁ sets sets₁ y) is fy h.yes h.parts.else_at h.parts.then_stands

    module _ (nodes nodes₁ sets sets₁ : List ℕ) {y z : Filled} (is : y ≡ then_behind) (fz : ProgramFills bytes n (besides y) nodes nodes₁ sets sets₁ z) where
      else_written : ProgramWritten (besides then_behind) h.no h.parts.rest_at nodes nodes₁ sets sets₁ z
      else_written = subst (λ (v : Filled). ProgramFills bytes n (besides v) nodes nodes₁ sets sets₁ z) is fz h.no h.parts.rest_at h.parts.else_stands

    module _ (nodes nodes₁ sets sets₁ : List ℕ) {z r : Filled} (is : z ≡ else_behind) (fr : ProgramFills bytes n z nodes nodes₁ sets sets₁ r) where
      rest_written : ProgramWritten else_behind h.rest q nodes nodes₁ sets sets₁ r
      rest_written = subst (λ (v : Filled). ProgramFills bytes n v nodes nodes₁ sets sets₁ r) is fr h.rest q h.parts.rest_stands

    -- What the branch and the jump skip.
    module _ {c y : Filled} (cis : c ≡ condition_behind) (yis : y ≡ then_behind) where
      pub met_is : c.node - (from.node + 1) ≡ formula_size h.condition
      met_is = omega (arith, ap (λ (v : Filled). v.node) cis)

      pub unmet_is : y.node - from.node ≡ formula_size h.condition + suc (size h.yes)
      unmet_is = omega (arith, ap (λ (v : Filled). v.node) yis)

      pub branch_inside : (from.node + 1 ≤ c.node) × (from.node ≤ y.node)
      branch_inside = (omega (arith, ap (λ (v : Filled). v.node) cis), omega (arith, ap (λ (v : Filled). v.node) yis))

    module _ {y z : Filled} (yis : y ≡ then_behind) (zis : z ≡ else_behind) where
      pub jump_is : z.node - (y.node + 1) ≡ size h.no
      jump_is = omega (arith, ap (λ (v : Filled). v.node) yis, ap (λ (v : Filled). v.node) zis)

      pub jump_inside : y.node + 1 ≤ z.node
      jump_inside = omega (arith, ap (λ (v : Filled). v.node) yis, ap (λ (v : Filled). v.node) zis)

    -- Condition, then-program, the branch before them, else-program, the jump before it, rest.
    pub laid_branch : (nodes nodes₁ nodes₂ nodes₃ nodes₄ nodes₅ sets sets₁ sets₂ sets₃ : List ℕ) {nodes₆ sets₄ : List ℕ} {c y z r : Filled}
        → FormulaFills bytes n deepest (parts_from from p) nodes nodes₁ sets sets₁ c
        → ProgramFills bytes n c nodes₁ nodes₂ sets₁ sets₂ y
        → nodes₃ ≡ write nodes₂ (3 * from.node) (cells (Node.Branch (c.node - (from.node + 1)) (y.node - from.node)))
        → ProgramFills bytes n (besides y) nodes₃ nodes₄ sets₂ sets₃ z
        → nodes₅ ≡ write nodes₄ (3 * y.node) (cells (Node.Jump (z.node - (y.node + 1))))
        → ProgramFills bytes n z nodes₅ nodes₆ sets₃ sets₄ r
        → ProgramWritten from x q nodes nodes₆ sets sets₄ r
    unfolding size program_atoms program_nodes program_sets action_nodes
    laid_branch nodes nodes₁ nodes₂ nodes₃ nodes₄ nodes₅ sets sets₁ sets₂ sets₃ {nodes₆ = nodes₆} {sets₄ = sets₄} {c = c} {y = y} {z = z} {r = r} fc fy put₁ fz put₂ fr =
        let f = h.condition in
        let i = from.node in
        let lc = condition_written nodes nodes₁ sets sets₁ fc in
        let ly = then_written nodes₁ nodes₂ sets₁ sets₂ lc.0 fy in
        let lz = else_written nodes₃ nodes₄ sets₂ sets₃ ly.0 fz in
        let lr = rest_written nodes₅ nodes₆ sets₃ sets₄ lz.0 fr in
        let k₁ = from.set + atoms f in
        let k₂ = k₁ + program_atoms h.yes in
        let k₃ = k₂ + program_atoms h.no in
        let c₁ = from.acts + action_nodes h.yes in
        let c₂ = c₁ + action_nodes h.no in
        let fs = formula_nodes f from.set in
        let ys = program_nodes h.yes k₁ from.acts in
        let zs = program_nodes h.no k₂ c₁ in
        let rs = program_nodes h.rest k₃ c₂ in
        let fork = Node.Branch (formula_size f) (formula_size f + suc (size h.yes)) in
        let jump = Node.Jump (size h.no) in
        let i₁ = i + 1 + formula_size f in
        let i₂ = i₁ + size h.yes in
        let i₃ = i₂ + 1 + size h.no in
        let both : nodes₂ ≡ write nodes (3 * (i + 1)) (flat_map cells (fs ++ ys)) =
        spread_on 3 cells cells_three nodes nodes₁ nodes₂ (i + 1) i₁ fs ys lc.1 ly.1 (omega (arith, formula_length f from.set)) in
        let forked : nodes₃ ≡ write nodes (3 * i) (flat_map cells (fork ∷ (fs ++ ys))) =
        node_before nodes nodes₂ nodes₃ i fork (fs ++ ys) both
        (put₁ ∙ ap₂ (λ (v w : ℕ). write nodes₂ (3 * i) (cells (Node.Branch v w))) (met_is lc.0 ly.0) (unmet_is lc.0 ly.0)) in
        let jumped : nodes₅ ≡ write nodes₃ (3 * i₂) (flat_map cells (jump ∷ zs)) =
        node_before nodes₃ nodes₄ nodes₅ i₂ jump zs lz.1
        (put₂ ∙ ap₂ (λ (v w : ℕ). write nodes₄ (3 * v) (cells (Node.Jump w))) (ap (λ (v : Filled). v.node) ly.0) (jump_is ly.0 lz.0)) in
        let last : nodes₆ ≡ write nodes₃ (3 * i₂) (flat_map cells ((jump ∷ zs) ++ rs)) =
        spread_on 3 cells cells_three nodes₃ nodes₅ nodes₆ i₂ i₃ (jump ∷ zs) rs jumped lr.1 (omega (arith, nodes_length h.no k₂ c₁)) in
        let all : nodes₆ ≡ write nodes (3 * i) (flat_map cells ((fork ∷ (fs ++ ys)) ++ ((jump ∷ zs) ++ rs))) =
        spread_on 3 cells cells_three nodes nodes₃ nodes₆ i i₂ (fork ∷ (fs ++ ys)) ((jump ∷ zs) ++ rs) forked last
        (omega (arith, length-append fs ys, formula_length f from.set, nodes_length h.yes k₁ from.acts)) in
        let e₁ : i₃ + size h.rest ≡ i + suc (formula_size f + (size h.yes + suc (size h.no + size h.rest))) = omega arith in
        let e₂ : k₃ + program_atoms h.rest ≡ from.set + (atoms f + (program_atoms h.yes + (program_atoms h.no + program_atoms h.rest))) = omega arith in
        let e₃ : c₂ + action_nodes h.rest ≡ from.acts + (action_nodes h.yes + action_nodes h.no + action_nodes h.rest) = omega arith in
        rw h.is (
          lr.0 ∙ (λ v. record { at = q; node = e₁ v; set = e₂ v; acts = e₃ v }),
          all ∙ ap (λ (items : List Node). write nodes (3 * i) (flat_map cells (fork ∷ items))) (append_assoc fs ys ((jump ∷ zs) ++ rs)),
          four_parts 4 words words_four sets sets₁ sets₂ sets₃ sets₄ from.set k₁ k₂ k₃ (atom_sets f) (program_sets h.yes) (program_sets h.no) (program_sets h.rest)
              lc.2 ly.2 lz.2 lr.2 (ap (λ (v : ℕ). from.set + v) (atom_sets_length f)) (ap (λ (v : ℕ). k₁ + v) (program_sets_length h.yes)) (ap (λ (v : ℕ). k₂ + v) (program_sets_length h.no)),
        )

  -- Room for them.
  module _ (room : ProgramRoom bytes n from) {p : ℕ} (h : ForkAt bytes n from.at room.program p room.next) where
    pub fork_room : from.node < node_most
    fork_room = omega (arith, room.nodes_room, h.many)

    pub condition_room : FormulaRoom bytes n deepest (parts_from from p)
    condition_room =
        record {
          formula = h.condition;
          next = h.parts.then_at;
          read = h.parts.condition_read;
          levels = omega arith;
          nodes_room = omega (arith, room.nodes_room, h.many);
          sets_room = omega (arith, room.sets_room, h.sets_many);
        }

    pub then_room : {c : Filled} → c ≡ condition_behind h → ProgramRoom bytes n c
    then_room is = subst (ProgramRoom bytes n) (sym is) (
        record {
          program = h.yes;
          next = h.parts.else_at;
          stands = h.parts.then_stands;
          nodes_room = omega (arith, room.nodes_room, h.many);
          sets_room = omega (arith, room.sets_room, h.sets_many);
          acts_room = omega (arith, room.acts_room, h.acts_many);
        })

    pub else_room : {y : Filled} → y ≡ then_behind h → ProgramRoom bytes n (besides y)
    else_room is = subst (λ (v : Filled). ProgramRoom bytes n (besides v)) (sym is) (
        record {
          program = h.no;
          next = h.parts.rest_at;
          stands = h.parts.else_stands;
          nodes_room = omega (arith, room.nodes_room, h.many);
          sets_room = omega (arith, room.sets_room, h.sets_many);
          acts_room = omega (arith, room.acts_room, h.acts_many);
        })

    pub last_room : {z : Filled} → z ≡ else_behind h → ProgramRoom bytes n z
    last_room is = subst (ProgramRoom bytes n) (sym is) (
        record {
          program = h.rest;
          next = room.next;
          stands = h.parts.rest_stands;
          nodes_room = omega (arith, room.nodes_room, h.many);
          sets_room = omega (arith, room.sets_room, h.sets_many);
          acts_room = omega (arith, room.acts_room, h.acts_many);
        })

    module _ {c y : Filled} (cis : c ≡ condition_behind h) (yis : y ≡ then_behind h) where
      pub branch_small : Small (Node.Branch (c.node - (from.node + 1)) (y.node - from.node))
      unfolding Small
      branch_small = (omega (arith, met_is h cis yis, room.nodes_room, h.many), omega (arith, unmet_is h cis yis, room.nodes_room, h.many))

    pub jump_room : {y : Filled} → y ≡ then_behind h → y.node < node_most
    jump_room is = omega (arith, ap (λ (v : Filled). v.node) is, room.nodes_room, h.many)

    pub jump_small : {y z : Filled} → y ≡ then_behind h → z ≡ else_behind h → Small (Node.Jump (z.node - (y.node + 1)))
    unfolding Small
    jump_small yis zis = omega (arith, jump_is h yis zis, room.nodes_room, h.many)

-- A goal from node 1 on, a jump over it before it, the program behind it, and the end.
module _ (bytes : List ℕ) (n at k : ℕ) where
  abbrev goal_from : Filled
  goal_from = record { at = at; node = goal_node; set = k; acts = 0 }

  module _ (goal : Epistemic) (program : Program) (middle next : ℕ) (read : epistemic n deepest bytes at ≡ got goal middle) (stands : ProgramAt bytes n program middle next) where
    abbrev program_behind : Filled
    program_behind = behind_program (behind_formula goal_from goal middle) program next

    program_reached : {g p : Filled} → g ≡ behind_formula goal_from goal middle → ((x : Program) (q : ℕ) → ProgramAt bytes n x g.at q → p ≡ behind_program g x q) → p ≡ program_behind
    program_reached {p = p} is reach = subst (λ (v : Filled). (x : Program) (q : ℕ) → ProgramAt bytes n x v.at q → p ≡ behind_program v x q) is reach program next stands

    pub laid_routine : (nodes nodes₁ nodes₂ nodes₃ sets sets₁ : List ℕ) {nodes₄ sets₂ : List ℕ} {g p : Filled}
        → FormulaFills bytes n deepest goal_from nodes nodes₁ sets sets₁ g
        → nodes₂ ≡ write nodes₁ 0 (cells (Node.Jump (g.node - goal_node)))
        → ProgramFills bytes n g nodes₂ nodes₃ sets₁ sets₂ p
        → nodes₄ ≡ write nodes₃ (3 * p.node) (cells (Node.End p.acts))
        → (nodes₄ ≡ write nodes 0 (flat_map cells (routine_nodes goal program k))) × (sets₂ ≡ write sets (4 * k) (flat_map words (atom_sets goal ++ program_sets program)))
    laid_routine nodes nodes₁ nodes₂ nodes₃ sets sets₁ {nodes₄ = nodes₄} {sets₂ = sets₂} {p = p} fg put₁ fp put₂ =
        let lg = fg goal middle read in
        let lp : ProgramWritten (behind_formula goal_from goal middle) program next nodes₂ nodes₃ sets₁ sets₂ p =
        subst (λ (v : Filled). ProgramFills bytes n v nodes₂ nodes₃ sets₁ sets₂ p) lg.0 fp program next stands in
        let gs = formula_nodes goal k in
        let ps = program_nodes program (k + atoms goal) 0 in
        let jump = Node.Jump (formula_size goal) in
        let i = goal_node + formula_size goal in
        let over : i - goal_node ≡ formula_size goal = omega arith in
        let jumped : nodes₂ ≡ write nodes 0 (flat_map cells (jump ∷ gs)) =
        node_before nodes nodes₁ nodes₂ 0 jump gs lg.1 (put₁ ∙ ap (λ (v : Filled). write nodes₁ 0 (cells (Node.Jump (v.node - goal_node)))) lg.0 ∙ ap (λ (v : ℕ). write nodes₁ 0 (cells (Node.Jump v))) over) in
        let none : 0 + action_nodes program ≡ action_nodes program = omega arith in
        let last = Node.End (action_nodes program) in
        let ended : nodes₄ ≡ write nodes₃ (3 * (i + size program)) (flat_map cells (last ∷ [])) =
        spread_one cells last nodes₃ (3 * (i + size program))
        (put₂ ∙ ap (λ (v : Filled). write nodes₃ (3 * v.node) (cells (Node.End v.acts))) lp.0 ∙ ap (λ (v : ℕ). write nodes₃ (3 * (i + size program)) (cells (Node.End v))) none) in
        let later : nodes₄ ≡ write nodes₂ (3 * i) (flat_map cells (ps ++ (last ∷ []))) =
        spread_on 3 cells cells_three nodes₂ nodes₃ nodes₄ i (i + size program) ps (last ∷ []) lp.1 ended (ap (λ (v : ℕ). i + v) (nodes_length program (k + atoms goal) 0)) in (
          spread_on 3 cells cells_three nodes nodes₂ nodes₄ 0 i (jump ∷ gs) (ps ++ (last ∷ [])) jumped later (omega (arith, formula_length goal k)),
          spread_on 4 words words_four sets sets₁ sets₂ k (k + atoms goal) (atom_sets goal) (program_sets program) lg.2 lp.2 (ap (λ (v : ℕ). k + v) (atom_sets_length goal)),
        )

  -- Room for them.
  module _ (room : RoutineRoom bytes n at k) where
    module _ {g : Filled} (reach : (f : Epistemic) (q : ℕ) → epistemic n deepest bytes at ≡ got f q → g ≡ behind_formula goal_from f q) where
      abbrev is : g ≡ behind_formula goal_from room.goal room.middle
      is = reach room.goal room.middle room.read

      pub goal_small : (1 ≤ g.node) × Small (Node.Jump (g.node - goal_node))
      unfolding Small
      goal_small = let e = ap (λ (v : Filled). v.node) is in (omega (arith, e), omega (arith, e, room.nodes_room))

      pub end_room : {p : Filled} → ((x : Program) (q : ℕ) → ProgramAt bytes n x g.at q → p ≡ behind_program g x q) → (p.node < node_most) × Small (Node.End p.acts)
      unfolding Small
      end_room onward =
          let e = program_reached room.goal room.program room.middle room.next room.read room.stands is onward in
          (omega (arith, ap (λ (v : Filled). v.node) e, room.nodes_room), omega (arith, ap (λ (v : Filled). v.acts) e, room.acts_room))
