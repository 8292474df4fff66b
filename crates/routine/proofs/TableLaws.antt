-- What stands in the memory after a sheet was prepared: its sets, its nodes and the heads of its actions.
use Prim.Native.Nat.{ℕ, zero, suc, ◌+◌, ◌*◌, ◌<◌, ◌≤◌}
use mathlib.Core.Path.{◌≡◌, refl, ap, ◌∙◌}
use mathlib.Core.List.{List, [], ◌∷◌, ◌++◌, flat_map}
use mathlib.Core.Bool.{Bool, true, false}
use native.Mathlib.Omega.{arith}
use native.Mathlib.Nat.{mul-zero, mul-suc}
use lib.ListN.{length, get_or, take, length-append, get_or-append}
use borrow.Author.Tests.{lt-ltb}
use Rattle.lists.specs.Lists.{write}
use Rattle.lists.proofs.ListLaws.{append_past, made_get}
use Rattle.states.specs.declared.States.{States}
use Rattle.states.specs.Sets.{words, set_of}
use Rattle.format.specs.Syntax.{Action, probe, reply_count, Sheet, action_of}
use Rattle.format.specs.Truth.{is_state, reply_holds}
use Rattle.format.specs.Format.{Answer, gives, refused, on_accepted, reading}
use Rattle.format.proofs.SheetLaws.{accepted_shape}
use Rattle.routine.specs.declared.memory.Node.{Node}
use Rattle.routine.specs.declared.memory.Head.{Head}
use Rattle.routine.specs.Memory.{cells, head_most, node_most, set_most, Sized, set_at, node_of, node_at, head_at}
use Rattle.routine.specs.Tables.{rows, reply_tables, action_sets, atom_sets, program_sets, head_cells, sheet_action_sets, sheet_sets, sheet_nodes, sheet_heads, set_words, node_cells, sheet_start, start_of, prepared, TablesAfter}
use Rattle.routine.proofs.WriteLaws.{write_back, spread_length, words_four, cells_three}
use Rattle.routine.proofs.RoomLaws.{action_length, heads_length, sheet_sets_length, sheet_nodes_length, accepted_room}

-- What was written from the first place on is read back.
back : (xs ys : List ℕ) → length ys ≤ length xs → (j : ℕ) → j < length ys → get_or (write xs 0 ys) j 0 ≡ get_or ys j 0
back xs ys h j l = let e : j ≡ 0 + j = omega arith in ap (λ (v : ℕ). get_or (write xs 0 ys) v 0) e ∙ write_back xs 0 ys (omega arith) j l

-- What takes w numbers each: number j of item k.
module _ {A : Type 0} (w : ℕ) (spread : A → List ℕ) (wide : (a : A) → length (spread a) ≡ w) (d : A) where
  spread_get : (items : List A) (k j : ℕ) → k < length items → j < w → get_or (flat_map spread items) (w * k + j) 0 ≡ get_or (spread (get_or items k d)) j 0
  unfolding flat_map
  spread_get [] k j l m = absurd (omega arith)
  spread_get (a ∷ items) zero j l m =
      let e : w * 0 + j ≡ j = omega (arith, mul-zero w) in
      ap (λ (v : ℕ). get_or (spread a ++ flat_map spread items) v 0) e ∙ get_or-append (spread a) (flat_map spread items) 0 j (omega (arith, wide a))
  spread_get (a ∷ items) (suc k) j l m =
      let e : w * suc k + j ≡ length (spread a) + (w * k + j) = omega (arith, wide a, mul-suc w k) in
      ap (λ (v : ℕ). get_or (spread a ++ flat_map spread items) v 0) e ∙ append_past (spread a) (flat_map spread items) 0 (w * k + j) ∙ spread_get items k j (omega arith) m

  -- It is one of the numbers of all items.
  spread_inside : (items : List A) (k j : ℕ) → k < length items → j < w → w * k + j < length (flat_map spread items)
  unfolding flat_map
  spread_inside [] k j l m = absurd (omega arith)
  spread_inside (a ∷ items) zero j l m = omega (arith, m, mul-zero w, wide a, length-append (spread a) (flat_map spread items))
  spread_inside (a ∷ items) (suc k) j l m = omega (arith, wide a, mul-suc w k, length-append (spread a) (flat_map spread items), spread_inside items k j (omega arith) m)

  item_back : (xs : List ℕ) (items : List A) → length (flat_map spread items) ≤ length xs → (k j : ℕ) → k < length items → j < w
      → get_or (write xs 0 (flat_map spread items)) (w * k + j) 0 ≡ get_or (spread (get_or items k d)) j 0
  item_back xs items h k j l m = back xs (flat_map spread items) h (w * k + j) (spread_inside items k j l m) ∙ spread_get items k j l m

  item_first : (xs : List ℕ) (items : List A) → length (flat_map spread items) ≤ length xs → (k : ℕ) → k < length items → 0 < w
      → get_or (write xs 0 (flat_map spread items)) (w * k) 0 ≡ get_or (spread (get_or items k d)) 0 0
  item_first xs items h k l some = let e : w * k ≡ w * k + 0 = omega arith in ap (λ (v : ℕ). get_or (write xs 0 (flat_map spread items)) v 0) e ∙ item_back xs items h k 0 l some

-- The empty set, where a list of sets has no further one.
abbrev pub no_states : States
no_states = set_of (λ s. false)

set_back : (xs : List ℕ) (items : List States) → length xs ≡ 4 * set_most → length items ≤ set_most → (k : ℕ) → k < length items → set_at (write xs 0 (flat_map words items)) k ≡ get_or items k no_states
unfolding set_at words
set_back xs items h m k l =
    let room : length (flat_map words items) ≤ length xs = omega (arith, h, spread_length 4 words words_four items) in
    let e : ((j : ℕ) → j < 4 → get_or (write xs 0 (flat_map words items)) (4 * k + j) 0 ≡ get_or (words (get_or items k no_states)) j 0) = λ j. item_back 4 words words_four no_states xs items room k j l in
    let e₀ = item_first 4 words words_four no_states xs items room k l (omega arith) in
    rw (lt-ltb k set_most (omega arith)) (λ i. record { w0 = e₀ i; w1 = e 1 (omega arith) i; w2 = e 2 (omega arith) i; w3 = e 3 (omega arith) i })

-- The end, where a list of nodes has no further one.
abbrev pub no_node : Node
no_node = Node.End 0

-- A node is read back from its numbers.
node_cells_law : (x : Node) → node_of (get_or (cells x) 0 0) (get_or (cells x) 1 0) (get_or (cells x) 2 0) ≡ x
unfolding node_of cells
node_cells_law (Node.Act a number) = refl
node_cells_law (Node.Branch met unmet) = refl
node_cells_law (Node.Jump skip) = refl
node_cells_law (Node.End count) = refl
node_cells_law (Node.Join true size) = refl
node_cells_law (Node.Join false size) = refl
node_cells_law (Node.Atom true k) = refl
node_cells_law (Node.Atom false k) = refl

node_back : (xs : List ℕ) (items : List Node) → length xs ≡ 3 * node_most → length items ≤ node_most → (k : ℕ) → k < length items → node_at (write xs 0 (flat_map cells items)) k ≡ get_or items k no_node
unfolding node_at
node_back xs items h m k l =
    let room : length (flat_map cells items) ≤ length xs = omega (arith, h, spread_length 3 cells cells_three items) in
    rw (
      lt-ltb k node_most (omega arith),
      item_first 3 cells cells_three no_node xs items room k l (omega arith),
      item_back 3 cells cells_three no_node xs items room k 1 l (omega arith),
      item_back 3 cells cells_three no_node xs items room k 2 l (omega arith),
    ) (node_cells_law (get_or items k no_node))

-- Actions, over a space of states.
module _ (space : ℕ → Bool) where
  -- How many sets stand before those of action a.
  abbrev pub first_set : (actions : List Action) (a : ℕ) → ℕ
  first_set actions a = length (flat_map (action_sets space) (take a actions))

  -- The head of an action whose sets begin at set k.
  abbrev pub head_of : (k : ℕ) → Action → Head
  head_of k x = record { rows = k; replies = k + length (rows space x); count = reply_count x }

  head_get : (k : ℕ) (actions : List Action) (a : ℕ) → a < length actions
      → ◌≡◌ {A = Head}
      (record { rows = get_or (head_cells space k actions) (3 * a) 0; replies = get_or (head_cells space k actions) (3 * a + 1) 0; count = get_or (head_cells space k actions) (3 * a + 2) 0 })
      (head_of (k + first_set actions a) (get_or actions a (probe [])))
  unfolding head_cells flat_map
  head_get k [] a l = absurd (omega arith)
  head_get k (x ∷ later) zero l =
      let e : k ≡ k + 0 = omega arith in
      let f : k + length (rows space x) ≡ k + 0 + length (rows space x) = omega arith in
      λ i. record { rows = e i; replies = f i; count = reply_count x }
  head_get k (x ∷ later) (suc a) l =
      let k' = k + length (action_sets space x) in
      let rest = head_cells space k' later in
      let y = get_or later a (probe []) in
      let h = head_get k' later a (omega arith) in
      let n : length (action_sets space x ++ flat_map (action_sets space) (take a later)) ≡ length (action_sets space x) + first_set later a =
      length-append (action_sets space x) (flat_map (action_sets space) (take a later)) in
      let e₀ : 3 * suc a ≡ suc (suc (suc (3 * a))) = omega arith in
      let e₁ : 3 * suc a + 1 ≡ suc (suc (suc (3 * a + 1))) = omega arith in
      let e₂ : 3 * suc a + 2 ≡ suc (suc (suc (3 * a + 2))) = omega arith in
      let cells = k ∷ (k + length (rows space x)) ∷ reply_count x ∷ rest in
      let g₀ : get_or cells (3 * suc a) 0 ≡ k + length (action_sets space x ++ flat_map (action_sets space) (take a later)) =
      ap (λ (v : ℕ). get_or cells v 0) e₀ ∙ ap (λ (z : Head). z.rows) h ∙ omega (arith, n) in
      let g₁ : get_or cells (3 * suc a + 1) 0 ≡ k + length (action_sets space x ++ flat_map (action_sets space) (take a later)) + length (rows space y) =
      ap (λ (v : ℕ). get_or cells v 0) e₁ ∙ ap (λ (z : Head). z.replies) h ∙ omega (arith, n) in
      let g₂ : get_or cells (3 * suc a + 2) 0 ≡ reply_count y = ap (λ (v : ℕ). get_or cells v 0) e₂ ∙ ap (λ (z : Head). z.count) h in
      λ i. record { rows = g₀ i; replies = g₁ i; count = g₂ i }

  -- Set j of action a stands among those of all actions.
  action_set : (actions : List Action) (a : ℕ) → a < length actions → (j : ℕ) → j < length (action_sets space (get_or actions a (probe [])))
      → (first_set actions a + j < length (flat_map (action_sets space) actions))
      × (get_or (flat_map (action_sets space) actions) (first_set actions a + j) no_states ≡ get_or (action_sets space (get_or actions a (probe []))) j no_states)
  unfolding flat_map
  action_set [] a l j m = absurd (omega arith)
  action_set (x ∷ later) zero l j m =
      let e : 0 + j ≡ j = omega arith in (
        omega (arith, length-append (action_sets space x) (flat_map (action_sets space) later)),
        ap (λ (v : ℕ). get_or (action_sets space x ++ flat_map (action_sets space) later) v no_states) e ∙ get_or-append (action_sets space x) (flat_map (action_sets space) later) no_states j m,
      )
  action_set (x ∷ later) (suc a) l j m =
      let h = action_set later a (omega arith) j m in
      let n = length-append (action_sets space x) (flat_map (action_sets space) (take a later)) in
      let e : length (action_sets space x ++ flat_map (action_sets space) (take a later)) + j ≡ length (action_sets space x) + (first_set later a + j) = omega (arith, n) in (
        omega (arith, e, h.0, length-append (action_sets space x) (flat_map (action_sets space) later)),
        ap (λ (v : ℕ). get_or (action_sets space x ++ flat_map (action_sets space) later) v no_states) e
            ∙ append_past (action_sets space x) (flat_map (action_sets space) later) no_states (first_set later a + j) ∙ h.1,
      )

-- The memory holds a sheet's tables.
pub record Tabled (sheet : Sheet) (heads nodes sets : List ℕ) : Type 0 where
  pub head_is : (a : ℕ) → a < length sheet.actions → head_at heads a ≡ head_of (is_state sheet) (first_set (is_state sheet) sheet.actions a) (action_of sheet a)
  pub node_is : (i : ℕ) → i < length (sheet_nodes sheet) → node_at nodes i ≡ get_or (sheet_nodes sheet) i no_node
  pub set_is : (k : ℕ) → k < length (sheet_sets sheet) → set_at sets k ≡ get_or (sheet_sets sheet) k no_states

-- A memory of the right size holds the tables of an accepted sheet after it was prepared.
prepared_tabled : (bytes : List ℕ) (sheet : Sheet) → reading bytes ≡ gives sheet → (heads nodes sets : List ℕ) → Sized heads nodes sets
    → Tabled sheet (prepared sheet_heads (reading bytes) heads) (prepared node_cells (reading bytes) nodes) (prepared set_words (reading bytes) sets)
unfolding prepared sheet_heads node_cells set_words head_at action_of
prepared_tabled bytes sheet e heads nodes sets (h, n, s) =
    let room = accepted_room bytes sheet e in
    let shape = accepted_shape bytes sheet e in
    let space = is_state sheet in
    let cells = head_cells space 0 sheet.actions in
    let long = heads_length space 0 sheet.actions in
    rw e (record {
      head_is = λ a l.
          let at : ((j : ℕ) → j < 3 → get_or (write heads 0 cells) (3 * a + j) 0 ≡ get_or cells (3 * a + j) 0) =
          λ j m. back heads cells (omega (arith, long, h, shape.actions_most)) (3 * a + j) (omega (arith, long)) in
          let first : get_or (write heads 0 cells) (3 * a) 0 ≡ get_or cells (3 * a) 0 = back heads cells (omega (arith, long, h, shape.actions_most)) (3 * a) (omega (arith, long)) in
          let k = first_set space sheet.actions a in
          let none : 0 + k ≡ k = omega arith in
          rw (lt-ltb a head_most (omega (arith, shape.actions_most)), first, at 1 (omega arith), at 2 (omega arith))
          (head_get space 0 sheet.actions a l ∙ ap (λ (v : ℕ). head_of space v (action_of sheet a)) none);
      node_is = λ i l. node_back nodes (sheet_nodes sheet) n (omega (arith, sheet_nodes_length sheet, room.nodes_room)) i l;
      set_is = λ k l. set_back sets (sheet_sets sheet) s (omega (arith, sheet_sets_length sheet, room.sets_room)) k l;
    })

pub tables_tabled : (bytes : List ℕ) (sheet : Sheet) → reading bytes ≡ gives sheet → (heads nodes sets : List ℕ) → Sized heads nodes sets → (heads' nodes' sets' : List ℕ)
    → TablesAfter (reading bytes) heads nodes sets heads' nodes' sets' → Tabled sheet heads' nodes' sets'
tables_tabled bytes sheet e heads nodes sets z heads' nodes' sets' t = rw (t.0, t.1, t.2) (prepared_tabled bytes sheet e heads nodes sets z)

-- The sheet behind an answer of `prepare`: a start set is that of the accepted sheet, a refusal that of the sheet.
pub ready_sheet : (a : Answer Sheet) (start : States) → gives start ≡ start_of a → (sheet : Sheet) × (a ≡ gives sheet) × (start ≡ sheet_start sheet)
unfolding start_of on_accepted
ready_sheet (gives sheet) start e = (sheet, refl, cc)
ready_sheet (refused r) start e = let z : ◌≡◌ {A = ℕ} 0 1 = cc in absurd (omega arith)

pub refused_sheet : (a : Answer Sheet) (r : ℕ) → refused r ≡ start_of a → a ≡ refused r
unfolding start_of on_accepted
refused_sheet (gives sheet) r e = let z : ◌≡◌ {A = ℕ} 0 1 = cc in absurd (omega arith)
refused_sheet (refused k) r e = cc

-- The sets of an action of the sheet.
module _ (sheet : Sheet) (heads nodes sets : List ℕ) (tabled : Tabled sheet heads nodes sets) (a : ℕ) (l : a < length sheet.actions) where
  abbrev space : ℕ → Bool
  space = is_state sheet

  abbrev first : ℕ
  first = first_set space sheet.actions a

  set_of_law : (j : ℕ) → j < length (action_sets space (action_of sheet a)) → set_at sets (first + j) ≡ get_or (action_sets space (action_of sheet a)) j no_states
  unfolding sheet_sets sheet_action_sets action_of
  set_of_law j m =
      let h = action_set space sheet.actions a l j m in
      tabled.set_is (first + j) (omega (arith, h.0, length-append (sheet_action_sets sheet) (atom_sets sheet.goal ++ program_sets sheet.program)))
      ∙ get_or-append (sheet_action_sets sheet) (atom_sets sheet.goal ++ program_sets sheet.program) no_states (first + j) h.0 ∙ h.1

  -- Its rows, and the tables of its replies.
  pub row_is : (j : ℕ) → j < length (rows space (action_of sheet a)) → set_at sets (first + j) ≡ get_or (rows space (action_of sheet a)) j no_states
  unfolding action_sets
  row_is j m =
      set_of_law j (omega (arith, length-append (rows space (action_of sheet a)) (reply_tables (action_of sheet a))))
      ∙ get_or-append (rows space (action_of sheet a)) (reply_tables (action_of sheet a)) no_states j m

  pub reply_is : (r : ℕ) → r < reply_count (action_of sheet a) → set_at sets (first + length (rows space (action_of sheet a)) + r) ≡ set_of (λ t. reply_holds (action_of sheet a) r t)
  unfolding action_sets reply_tables
  reply_is r m =
      let x = action_of sheet a in
      let e : first + length (rows space x) + r ≡ first + (length (rows space x) + r) = omega arith in
      let z : 0 + r ≡ r = omega arith in
      ap (set_at sets) e ∙ set_of_law (length (rows space x) + r) (omega (arith, action_length space x))
      ∙ append_past (rows space x) (reply_tables x) no_states r ∙ made_get (λ q. set_of (λ t. reply_holds x q t)) no_states 0 (reply_count x) r m
      ∙ ap (λ (v : ℕ). set_of (λ t. reply_holds x v t)) z
