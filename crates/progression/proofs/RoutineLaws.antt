-- The machine filled from an accepted sheet behaves as the sheet: after each history that follows the routine it stands where what is left of the routine stands,
-- with the states possible after the history.
use Prim.Native.Nat.{ℕ, ◌+◌, ◌<◌, ◌≤◌}
use mathlib.Core.Path.{◌≡◌, refl, ap, sym, subst, ◌∙◌}
use mathlib.Core.List.{List, [], ◌∷◌, ◌++◌, map-append, append_assoc, append-nil, Memᴰ}
use mathlib.Core.Logic.{◌⊎◌, inl, inr, ⊎_elim}
use mathlib.Core.Bool.{Bool, true}
use native.Mathlib.Omega.{arith}
use lib.ListN.{length}
use Rattle.lists.specs.Lists.{nonempty}
use Rattle.states.specs.declared.States.{States}
use Rattle.states.specs.Sets.{member, set_of, members}
use Rattle.states.proofs.SetLaws.{members_mem, mem_members}
use Rattle.format.specs.Syntax.{Objective, Epistemic, known, Program, end, act, branch, action_nodes, Sheet}
use Rattle.format.specs.Truth.{holds}
use Rattle.format.specs.Format.{gives, deepest, reading}
use Rattle.format.specs.Standing.{Standing}
use Rattle.format.proofs.FormatLaws.{NumbersBelow}
use Rattle.format.proofs.ReaderLaws.{read_levels}
use Rattle.format.proofs.StandingLaws.{Shallow, standing_shallow, accepted_standing}
use Rattle.format.proofs.SheetLaws.{accepted_shape}
use Rattle.semantics.specs.Runs.{Entry, entry, History, extended, replies, last_state, Possible, known_after, holds_after, possible_states, occurs}
use Rattle.semantics.specs.Routine.{Policy, done, perform, policy, routine, Follows}
use Rattle.semantics.specs.Replies.{left_after, told_by, told}
use Rattle.semantics.specs.Progression.{satisfies, start_set, next_set, set_after, possible}
use Rattle.semantics.proofs.ProgressionLaws.{possible_run, run_possible, holds_possible, occurs_possible, set_states, method_states}
use Rattle.semantics.proofs.AcceptedLaws.{actions_most}
use Rattle.semantics.proofs.ReplyLaws.{follows_none, left_next, left_more, next_follows, told_left}
use Rattle.routine.specs.declared.memory.Node.{Node}
use Rattle.routine.specs.Memory.{set_at, node_at}
use Rattle.routine.specs.Tables.{sheet_start, sheet_nodes, sheet_sets, sheet_action_sets, atoms, atom_sets, formula_size, formula_nodes, size, program_sets, program_nodes, goal_node}
use Rattle.routine.proofs.SizeLaws.{formula_length, atom_sets_length, nodes_length}
use Rattle.routine.proofs.RoomLaws.{accepted_room, sheet_nodes_length}
use Rattle.routine.proofs.TableLaws.{no_states, no_node, Tabled}
use Rattle.progression.specs.declared.place.Place.{Place}
use Rattle.progression.specs.Machine.{place_of, known_by, holds_at, settled, stepped}
use Rattle.progression.proofs.MachineLaws.{goes_to, settled_goes, settled_forward}
use Rattle.progression.proofs.PolicyLaws.{policies, all_left, all_policy, all_begun, all_same, Begun}
use Rattle.progression.proofs.PlaceLaws.{Row, row_left, row_right, row_first, NodesAt, SetsAt, nodes_left, nodes_right, Settles, ProgramsAt, table_known, programs_settle, action_settles, goal_settles}
use Rattle.progression.proofs.StepLaws.{tabled_step, members_possible}

-- The set of possible states with one entry more.
pub after_more : (sheet : Sheet) (set : ℕ → Bool) (h : History) (e : Entry) → set_after sheet set (h ++ (e ∷ [])) ≡ next_set sheet (set_after sheet set h) e
unfolding set_after
after_more sheet set [] e = refl
after_more sheet set (d ∷ h) e = after_more sheet (next_set sheet set d) h e

module _ (sheet : Sheet) (heads nodes sets : List ℕ) where
  -- The programs ps stand from node i on, in the memory of the sheet's tables.
  abbrev pub StandsAt : (i : ℕ) → List Program → Type 0
  StandsAt = ProgramsAt nodes sets (1 + formula_size sheet.goal + size sheet.program) (length sheet.actions)

  -- The machine has come to node i with a set of states by a history: the history follows the routine, what is left of the routine stands from node i on, and the
  -- states of the set are those possible after the history.
  pub record Reached (h : History) (i : ℕ) (set : States) : Type 0 where
    pub follows : Follows (routine sheet) h
    pub left : List Program
    pub stands : StandsAt i left
    pub policy_left : left_after (routine sheet) (replies h) ≡ policies sheet left h
    pub set_is : set ≡ set_of (set_after sheet (start_set sheet) h)

  -- Where the machine settles then: at an action, which is the routine's next, and behind each of its replies the machine has come to the next node with the set of
  -- the step; or at the end, where nothing is left, with whether the goal holds.
  pub record AtAction (h : History) (i : ℕ) (set : States) : Type 0 where
    pub place : ℕ
    pub action : ℕ
    pub settles : settled nodes sets set i ≡ Place.Act place action
    pub forward : i ≤ place
    pub known_action : action < length sheet.actions
    pub after : ℕ → Policy
    pub next : left_after (routine sheet) (replies h) ≡ perform action after
    pub next_left : (r : ℕ) → left_after (routine sheet) (replies (extended h action r)) ≡ after r
    pub onward : (r : ℕ) → Reached (extended h action r) (place + 1) (stepped heads sets set action r)

  pub record AtEnd (h : History) (i : ℕ) (set : States) : Type 0 where
    pub settles : settled nodes sets set i ≡ Place.End (holds_after sheet h sheet.goal)
    pub nothing : left_after (routine sheet) (replies h) ≡ done

  module _ (bytes : List ℕ) (read : reading bytes ≡ gives sheet) (tabled : Tabled sheet heads nodes sets) where
    few : sheet.facts ≤ 8
    few = (accepted_shape bytes sheet read).facts_most

    -- Where the program and its end stand, and their sets.
    abbrev program_at : ℕ
    program_at = 1 + formula_size sheet.goal

    abbrev end_at : ℕ
    end_at = program_at + size sheet.program

    abbrev count : ℕ
    count = length sheet.actions

    abbrev first_set_law : ℕ
    first_set_law = length (sheet_action_sets sheet)

    abbrev program_set : ℕ
    program_set = first_set_law + atoms sheet.goal

    abbrev jump : Node
    jump = Node.Jump (formula_size sheet.goal)

    abbrev goal_nodes : List Node
    goal_nodes = formula_nodes sheet.goal first_set_law

    abbrev behind_goal : List Node
    behind_goal = program_nodes sheet.program program_set 0 ++ (Node.End (action_nodes sheet.program) ∷ [])

    -- The nodes and the sets of the sheet stand in the memory.
    all_nodes : NodesAt nodes sets end_at count 0 (jump ∷ (goal_nodes ++ behind_goal))
    unfolding sheet_nodes
    all_nodes = (
      λ j l. let e : 0 + j ≡ j = omega arith in ap (node_at nodes) e ∙ tabled.node_is j l,
      omega (arith, sheet_nodes_length sheet, (accepted_room bytes sheet read).nodes_room),
    )

    later_nodes : NodesAt nodes sets end_at count goal_node (goal_nodes ++ behind_goal)
    later_nodes = nodes_right nodes sets end_at count 0 (jump ∷ []) (goal_nodes ++ behind_goal) goal_node refl all_nodes

    goal_nodes_law : Row (node_at nodes) no_node goal_node goal_nodes
    goal_nodes_law = (nodes_left nodes sets end_at count goal_node goal_nodes behind_goal later_nodes).0

    program_nodes_law : NodesAt nodes sets end_at count program_at behind_goal
    program_nodes_law = nodes_right nodes sets end_at count goal_node goal_nodes behind_goal program_at (ap (λ (v : ℕ). 1 + v) (formula_length sheet.goal first_set_law)) later_nodes

    end_node : NodesAt nodes sets end_at count end_at (Node.End (action_nodes sheet.program) ∷ [])
    end_node = nodes_right nodes sets end_at count program_at (program_nodes sheet.program program_set 0) _ end_at (ap (λ (v : ℕ). program_at + v) (nodes_length sheet.program program_set 0)) program_nodes_law

    all_sets : SetsAt nodes sets end_at count 0 (sheet_action_sets sheet ++ (atom_sets sheet.goal ++ program_sets sheet.program))
    unfolding sheet_sets
    all_sets j l = let e : 0 + j ≡ j = omega arith in ap (set_at sets) e ∙ tabled.set_is j l

    formula_sets : SetsAt nodes sets end_at count first_set_law (atom_sets sheet.goal ++ program_sets sheet.program)
    formula_sets = row_right (set_at sets) no_states 0 (sheet_action_sets sheet) (atom_sets sheet.goal ++ program_sets sheet.program) first_set_law (omega arith) all_sets

    standing : Standing bytes sheet
    standing = accepted_standing bytes sheet read

    -- At the start the jump leads over the goal to the program.
    pub start_reached : Reached [] 0 (sheet_start sheet)
    unfolding Follows left_after routine policies sheet_start set_after start_set ProgramsAt program_nodes program_sets size NumbersBelow Shallow
    start_reached = record {
      follows = follows_none (routine sheet);
      left = end ∷ sheet.program ∷ [];
      stands = (
        0,
        0,
        program_at,
        ((λ j l. absurd (omega arith)), omega arith),
        (λ j l. absurd (omega arith)),
        tt,
        tt,
        inr (formula_size sheet.goal, row_first (node_at nodes) no_node 0 jump (goal_nodes ++ behind_goal) all_nodes.0, omega arith, refl),
        (
          program_set,
          0,
          end_at,
          nodes_left nodes sets end_at count program_at (program_nodes sheet.program program_set 0) _ program_nodes_law,
          row_right (set_at sets) no_states first_set_law (atom_sets sheet.goal) (program_sets sheet.program) program_set (ap (λ (v : ℕ). first_set_law + v) (atom_sets_length sheet.goal)) formula_sets,
          (accepted_shape bytes sheet read).numbers,
          standing_shallow bytes sheet.facts sheet.program standing.program_at standing.end_at standing.program_stands,
          inl refl,
          refl,
        ),
      );
      policy_left = refl;
      set_is = refl;
    }

    -- What a table of the memory says is known of the states possible after a history exactly if the formula of that table is known after it.
    pub known_after_law : (h : History) (set : States) → set ≡ set_of (set_after sheet (start_set sheet) h) → (k : ℕ) (f : Objective) → set_at sets k ≡ set_of (λ s. holds f s)
        → known_by sets set k ≡ known_after sheet h f
    unfolding known_by satisfies holds_after
    known_after_law h set possible-after k f e =
        table_known (set_at sets) set k f e ∙ ap (λ (ss : List ℕ). satisfies ss (known f)) (ap members possible-after ∙ members_possible sheet few h) ∙ sym (holds_possible sheet h (known f))

    -- Where the states of a set are possible that were reached by a history.
    module _ (h : History) (i : ℕ) (set : States) (reached : Reached h i set) where
      abbrev at : ℕ → Place
      at = goes_to (node_at nodes) (holds_at nodes (known_by sets set))

      abbrev Settling : List Program → Type 0
      Settling qs = Settles nodes sets end_at count set i qs

      -- The set's states are those that the method lists, which are those still possible after the history, each once and in order: the sets of the code are those of the
      -- definition by runs.
      method_members : members set ≡ possible sheet h
      method_members = ap members reached.set_is ∙ members_possible sheet few h

      pub reached_states : members set ≡ possible_states sheet h
      reached_states = method_members ∙ method_states sheet h

      -- What holds of the set is what holds after the history.
      pub same_truth : (f : Epistemic) → satisfies (members set) f ≡ holds_after sheet h f
      same_truth f = ap (λ (ss : List ℕ). satisfies ss f) method_members ∙ sym (holds_possible sheet h f)

      at_action : (a : ℕ) (rest : Program) (ps : List Program) → Settling (act a rest ∷ ps) → left_after (routine sheet) (replies h) ≡ policies sheet (act a rest ∷ ps) h → AtAction h i set
      unfolding policies policy
      at_action a rest ps s left =
          let acts = action_settles nodes sets end_at count set a rest ps s.place s.stands in
          let settles : settled nodes sets set i ≡ Place.Act s.place a = settled_goes nodes sets set i ∙ s.same ∙ acts.0 in
          let after : (ℕ → Policy) = λ r. policies sheet (rest ∷ ps) (extended h a r) in
          let next_left : ((r : ℕ) → left_after (routine sheet) (replies (extended h a r)) ≡ after r) =
          λ r. ap (left_after (routine sheet)) (map-append (λ (e : Entry). e.reply) h (entry a r ∷ [])) ∙ left_more (routine sheet) (replies h) r a after left in
          record {
            place = s.place;
            action = a;
            settles = settles;
            forward = (settled_forward nodes sets set i s.place a settles).0;
            known_action = acts.2;
            after = after;
            next = left;
            next_left = next_left;
            onward = λ r. record {
              follows = next_follows (routine sheet) h a after r reached.follows left;
              left = rest ∷ ps;
              stands = acts.1;
              policy_left = next_left r;
              set_is = ap (λ (u : States). stepped heads sets u a r) reached.set_is
                  ∙ tabled_step sheet few heads nodes sets tabled (set_after sheet (start_set sheet) h) (set_states sheet h) a acts.2 r
                  ∙ ap set_of (sym (after_more sheet (start_set sheet) h (entry a r)));
            };
          }

      at_end : Settling [] → left_after (routine sheet) (replies h) ≡ done → AtEnd h i set
      unfolding ProgramsAt
      at_end s left = record {
        settles = settled_goes nodes sets set i ∙ s.same ∙ ap at s.stands
            ∙ goal_settles nodes sets end_at count set sheet.goal first_set_law _ (read_levels sheet.facts bytes deepest standing.goal_at sheet.goal standing.program_at standing.goal_read) end_node
            goal_nodes_law (row_left (set_at sets) no_states first_set_law (atom_sets sheet.goal) (program_sets sheet.program) formula_sets)
            ∙ ap Place.End (same_truth sheet.goal);
        nothing = left;
      }

      by_left : (qs : List Program) → Begun qs → Settling qs → left_after (routine sheet) (replies h) ≡ policies sheet qs h → AtAction h i set ⊎ AtEnd h i set
      unfolding Begun policies
      by_left [] begun s left = inr (at_end s left)
      by_left (end ∷ ps) begun s left = absurd begun
      by_left (act a rest ∷ ps) begun s left = inl (at_action a rest ps s left)
      by_left (branch f y z rest ∷ ps) begun s left = absurd begun

      -- The machine settles where the routine's next action stands, or at the end.
      pub reached_place : AtAction h i set ⊎ AtEnd h i set
      reached_place =
          by_left (all_left (holds_after sheet h) reached.left) (all_begun (holds_after sheet h) reached.left)
          (subst Settling (all_same (satisfies (members set)) (holds_after sheet h) same_truth reached.left)
          (programs_settle nodes sets end_at count set reached.left i reached.stands))
          (reached.policy_left ∙ sym (all_policy sheet h reached.left))

      -- The place means what "Next" tells after the replies of the history.
      pub reached_told : place_of (settled nodes sets set i) ≡ told sheet (replies h)
      unfolding place_of told_by
      reached_told =
          ⊎_elim (λ (x : AtAction h i set). ap place_of x.settles ∙ sym (told_left sheet h reached.follows (perform x.action x.after) x.next))
          (λ (x : AtEnd h i set). ap place_of x.settles ∙ sym (told_left sheet h reached.follows done x.nothing)) reached_place

      -- Some run has the history exactly if some state is possible.
      pub reached_occurs : occurs sheet h ≡ nonempty (members set)
      reached_occurs = occurs_possible sheet h ∙ ap nonempty (sym method_members)

      -- A state is in the set exactly if it is still possible.
      pub state_run : (s : ℕ) → s < 256 → member set s ≡ true → Possible sheet h s
      unfolding Possible
      state_run s l e = possible_run sheet h (subst (Memᴰ s) method_members (mem_members set s l e))

      pub run_state : (s : ℕ) → Possible sheet h s → member set s ≡ true
      unfolding Possible
      run_state s (run, r, e) = subst (λ (t : ℕ). member set t ≡ true) e (members_mem set (subst (Memᴰ (last_state run)) (sym method_members) (run_possible sheet h run r))).1

      -- A history by which something is reached has at most 64 actions.
      pub reached_few : length h ≤ 64
      reached_few = actions_most bytes sheet read h reached.follows

    -- After every history that follows the routine the machine has come somewhere.
    pub record Somewhere (h : History) : Type 0 where
      pub node : ℕ
      pub set : States
      pub reached : Reached h node set

    more_reached : (g h : History) → Somewhere h → Follows (routine sheet) (h ++ g) → Somewhere (h ++ g)
    more_reached [] h s f = subst Somewhere (sym (append-nil h)) s
    more_reached (e ∷ g) h s f =
        go (reached_place h s.node s.set s.reached) (λ t. more_reached g (h ++ (e ∷ [])) t (subst (Follows (routine sheet)) same f))
      where
        next : (after : ℕ → Policy) × (left_after (routine sheet) (replies h) ≡ perform e.action after)
        next = left_next (routine sheet) h e g f

        same : h ++ (e ∷ g) ≡ (h ++ (e ∷ [])) ++ g
        same = sym (append_assoc h (e ∷ []) g)

        go : AtAction h s.node s.set ⊎ AtEnd h s.node s.set → (Somewhere (h ++ (e ∷ [])) → Somewhere ((h ++ (e ∷ [])) ++ g)) → Somewhere (h ++ (e ∷ g))
        go (inr x) on =
            let d = sym x.nothing ∙ next.1 in
            let z : ◌≡◌ {A = ℕ} 0 1 = cc in absurd (omega arith)
        go (inl x) on =
            let d = sym x.next ∙ next.1 in
            let a : x.action ≡ e.action = cc in
            let there : Somewhere (extended h x.action e.reply) = record { node = x.place + 1; set = _; reached = x.onward e.reply } in
            subst Somewhere (sym same) (on (subst (λ (b : ℕ). Somewhere (extended h b e.reply)) a there))

    pub follows_reached : (h : History) → Follows (routine sheet) h → Somewhere h
    follows_reached h f = more_reached h [] (record { node = 0; set = sheet_start sheet; reached = start_reached }) f
