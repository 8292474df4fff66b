-- How many sets and nodes a sheet has, and that those of an accepted sheet have room in the memory.
use Prim.Native.Nat.{ℕ, ◌+◌, ◌*◌, ◌≤◌}
use mathlib.Core.Path.{◌≡◌, refl, ap, ◌∙◌}
use mathlib.Core.List.{List, [], ◌∷◌, ◌++◌, flat_map, Memᴰ}
use mathlib.Core.Bool.{Bool, false, ◌&&◌}
use native.Mathlib.Omega.{arith}
use lib.ListN.{length, length-append}
use Rattle.lists.proofs.ListLaws.{made_length}
use Rattle.format.specs.Syntax.{Action, change, probe, action_nodes, reply_count, Sheet}
use Rattle.states.specs.Sets.{set_of}
use Rattle.format.specs.Truth.{is_state, truth, reply_holds}
use Rattle.format.specs.Format.{gives, deepest, reading}
use Rattle.format.proofs.FormulaLaws.{objective_onward}
use Rattle.format.proofs.SheetLaws.{FewReplies, accepted_shape}
use Rattle.format.proofs.StandingLaws.{accepted_standing}
use Rattle.routine.proofs.SizeLaws.{formula_length, atom_sets_length, nodes_length, program_sets_length, formula_bits, program_bits}
use Rattle.routine.specs.declared.memory.Node.{Node}
use Rattle.routine.specs.Memory.{node_most, set_most}
use Rattle.routine.specs.Tables.{rows, reply_tables, action_sets, head_cells, atoms, atom_sets, formula_size, formula_nodes, size, program_atoms, program_sets, program_nodes, sheet_action_sets, sheet_sets, sheet_nodes}

-- A table for each reply.
replies_length : (a : Action) → length (reply_tables a) ≡ reply_count a
unfolding reply_tables
replies_length a = made_length (λ r. set_of (λ t. reply_holds a r t)) 0 (reply_count a)

-- An action has at most 264 sets: 256 rows and 8 replies.
module _ (space : ℕ → Bool) where
  pub rows_most : (a : Action) → length (rows space a) ≤ 256
  unfolding rows
  rows_most (change f) = omega (arith, made_length (λ s. set_of (λ t. space s && space t && truth f s t)) 0 256)
  rows_most (probe fs) = omega arith

  pub action_length : (a : Action) → length (action_sets space a) ≡ length (rows space a) + reply_count a
  unfolding action_sets
  action_length a = length-append (rows space a) (reply_tables a) ∙ ap (λ (k : ℕ). length (rows space a) + k) (replies_length a)

  actions_most : (actions : List Action) → ((a : Action) → Memᴰ a actions → FewReplies a) → length (flat_map (action_sets space) actions) ≤ 264 * length actions
  unfolding flat_map
  actions_most [] few = omega arith
  actions_most (a ∷ later) few =
      omega (
        arith,
        length-append (action_sets space a) (flat_map (action_sets space) later),
        action_length a,
        rows_most a,
        (few a (Memᴰ.head refl)).1,
        actions_most later (λ b m. few b (Memᴰ.tail m)),
      )

  -- The head of an action takes three numbers.
  pub heads_length : (k : ℕ) (actions : List Action) → length (head_cells space k actions) ≡ 3 * length actions
  unfolding head_cells
  heads_length k [] = refl
  heads_length k (a ∷ later) = omega (arith, heads_length (k + length (action_sets space a)) later)

-- The tables of an accepted sheet have room.
pub record Room (sheet : Sheet) : Type 0 where
  pub actions_room : length (sheet_action_sets sheet) ≤ 8184
  pub sets_room : length (sheet_action_sets sheet) + (atoms sheet.goal + program_atoms sheet.program) ≤ set_most
  pub nodes_room : formula_size sheet.goal + size sheet.program + 2 ≤ node_most

pub accepted_room : (bytes : List ℕ) (sheet : Sheet) → reading bytes ≡ gives sheet → Room sheet
unfolding sheet_action_sets
accepted_room bytes sheet e =
    let shape = accepted_shape bytes sheet e in
    let stands = accepted_standing bytes sheet e in
    let a = actions_most (is_state sheet) sheet.actions shape.replies_few in
    let s = (objective_onward sheet.facts false deepest bytes stands.start_at).found sheet.start stands.goal_at stands.start_stands in
    let g = formula_bits bytes sheet.facts sheet.goal stands.goal_at stands.program_at stands.goal_stands in
    let p = program_bits bytes sheet.facts sheet.program stands.program_at stands.end_at stands.program_stands in
    let fits : 5 * (atoms sheet.goal + program_atoms sheet.program) ≤ 8192 = omega (arith, g.0, p.0, stands.inside, stands.short) in
    let most : length (flat_map (action_sets (is_state sheet)) sheet.actions) ≤ 8184 = omega (arith, a, shape.actions_most) in
    record {
      actions_room = most;
      sets_room = omega (arith, most, fits);
      nodes_room = omega (arith, s.0, g.1, p.1, stands.inside, stands.short);
    }

-- The lengths of a sheet's sets and nodes.
pub sheet_sets_length : (sheet : Sheet) → length (sheet_sets sheet) ≡ length (sheet_action_sets sheet) + (atoms sheet.goal + program_atoms sheet.program)
unfolding sheet_sets
sheet_sets_length sheet =
    omega (
      arith,
      length-append (sheet_action_sets sheet) (atom_sets sheet.goal ++ program_sets sheet.program),
      length-append (atom_sets sheet.goal) (program_sets sheet.program),
      program_sets_length sheet.program,
      atom_sets_length sheet.goal,
    )

pub sheet_nodes_length : (sheet : Sheet) → length (sheet_nodes sheet) ≡ formula_size sheet.goal + size sheet.program + 2
unfolding sheet_nodes
sheet_nodes_length sheet =
    let k = length (sheet_action_sets sheet) in
    let gs = formula_nodes sheet.goal k in
    let ps = program_nodes sheet.program (k + atoms sheet.goal) 0 in
    let last : List Node = Node.End (action_nodes sheet.program) ∷ [] in
    omega (arith, length-append gs (ps ++ last), length-append ps last, formula_length sheet.goal k, nodes_length sheet.program (k + atoms sheet.goal) 0)
