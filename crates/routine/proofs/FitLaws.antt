-- The numbers of prepared tables are of the sizes of the memory: those of heads and nodes fit 16 bits, those of sets 64, and the memory keeps its length. Assumes nothing.
use Prim.Native.Nat.{ℕ, zero, suc, ◌+◌, ◌*◌, ◌^◌, ◌≤◌, ◌<◌}
use mathlib.Core.Path.{◌≡◌, refl, sym, subst, ◌∙◌}
use mathlib.Core.Logic.{⊎_elim}
use mathlib.Core.List.Memᴰ
use mathlib.Core.List.{List, [], ◌∷◌, ◌++◌, map, flat_map, Memᴰ}
use mathlib.Core.Bool.{Bool, true, false, ◌&&◌}
use native.Mathlib.Omega.{arith}
use lib.ListN.{length, set, length-append}
use Rattle.lists.specs.Lists.{below, write}
use Rattle.lists.proofs.ListLaws.{flat_mem}
use Rattle.states.specs.declared.States.{States}
use Rattle.states.specs.Sets.{words, set_of}
use Rattle.states.proofs.SetLaws.{Fitting, fitting_set_of}
use Rattle.format.specs.Syntax.{Epistemic, known, not_known, all_of, any_of, Program, end, act, branch, action_nodes, Action, change, probe, reply_count, Sheet}
use Rattle.format.specs.Truth.{is_state, truth, holds, reply_holds}
use Rattle.format.specs.Format.{Answer, gives, refused, most_acts, reading}
use Rattle.format.proofs.FormatLaws.{NumbersBelow}
use Rattle.format.proofs.SheetLaws.{FewReplies, accepted_shape}
use Rattle.routine.specs.declared.memory.Node.{Node}
use Rattle.routine.specs.Memory.{flag, cells, Small, head_most, node_most, set_most}
use Rattle.routine.specs.Tables.{rows, reply_tables, action_sets, head_cells, atoms, atom_sets, formula_size, formula_nodes, size, program_atoms, program_sets, program_nodes, sheet_action_sets, sheet_sets, sheet_nodes, sheet_heads, sheet_start, set_words, node_cells, prepared}
use Rattle.routine.proofs.WriteLaws.{write_length}
use Rattle.routine.proofs.RoomLaws.{action_length, accepted_room}

-- Each member of a list has a property.
abbrev pub Each : {A : Type 0} → (A → Type 0) → List A → Type 0
Each {A} P xs = (a : A) → Memᴰ a xs → P a

-- How each member of a list has it: of none, of one more, of two lists, of a list in which one was set.
module _ {A : Type 0} (P : A → Type 0) where
  pub each_none : Each P []
  each_none a m = absurd (Memᴰ.not-nil m)

  pub each_more : (x : A) (xs : List A) → P x → Each P xs → Each P (x ∷ xs)
  each_more x xs h k a m = ⊎_elim (λ (e : a ≡ x). subst P (sym e) h) (λ i. k a i) (Memᴰ.cases_cons m)

  pub each_append : (xs ys : List A) → Each P xs → Each P ys → Each P (xs ++ ys)
  each_append xs ys h k a m = ⊎_elim (λ i. h a i) (λ i. k a i) (Memᴰ.append_cases xs m)

  pub each_set : (xs : List A) (i : ℕ) (y : A) → Each P xs → P y → Each P (set xs i y)
  each_set [] i y h k = h
  each_set (x ∷ xs) zero y h k = each_more y xs k (λ a m. h a (Memᴰ.tail m))
  each_set (x ∷ xs) (suc i) y h k = each_more x (set xs i y) (h x (Memᴰ.head refl)) (each_set xs i y (λ a m. h a (Memᴰ.tail m)) k)

  -- Of what is made of the members of another list, one or many of each.
  module _ {B : Type 0} where
    pub each_map : (make : B → A) (xs : List B) → ((b : B) → P (make b)) → Each P (map make xs)
    each_map make [] h = each_none
    each_map make (x ∷ xs) h = each_more (make x) (map make xs) (h x) (each_map make xs h)

    pub each_flat : (make : B → List A) (xs : List B) → ((b : B) → Memᴰ b xs → Each P (make b)) → Each P (flat_map make xs)
    each_flat make xs h a m = let r = flat_mem make xs m in h r.0 r.1 a r.2

-- Of a memory into which numbers were written, and of one after a sheet was prepared.
module _ (P : ℕ → Type 0) where
  pub each_write : (memory : List ℕ) (i : ℕ) (numbers : List ℕ) → Each P memory → Each P numbers → Each P (write memory i numbers)
  unfolding write
  each_write memory i [] h k = h
  each_write memory i (x ∷ xs) h k = each_write (set memory i x) (i + 1) xs (each_set P memory i x h (k x (Memᴰ.head refl))) (λ a m. k a (Memᴰ.tail m))

  pub each_prepared : (has : Sheet → List ℕ) (answer : Answer Sheet) (memory : List ℕ) → Each P memory → ((sheet : Sheet) → answer ≡ gives sheet → Each P (has sheet))
      → Each P (prepared has answer memory)
  unfolding prepared
  each_prepared has (gives sheet) memory h k = each_write memory 0 (has sheet) h (k sheet refl)
  each_prepared has (refused r) memory h k = h

-- A number fits 16 bits, or 64.
abbrev pub Fits16 : ℕ → Type 0
Fits16 n = n < 65536

abbrev pub Fits64 : ℕ → Type 0
Fits64 n = n < 2 ^ 64

-- The heads of actions whose sets have room and whose replies are few.
heads_fit : (space : ℕ → Bool) (k : ℕ) (actions : List Action) → Each FewReplies actions → k + length (flat_map (action_sets space) actions) ≤ set_most → Each Fits16 (head_cells space k actions)
unfolding head_cells flat_map
heads_fit space k [] few room = each_none Fits16
heads_fit space k (a ∷ later) few room =
    let k' = k + length (action_sets space a) in
    let rest = head_cells space k' later in
    let all = length-append (action_sets space a) (flat_map (action_sets space) later) in
    let own = action_length space a in
    each_more Fits16 k _ (omega arith)
    (each_more Fits16 (k + length (rows space a)) _ (omega (arith, all, own))
    (each_more Fits16 (reply_count a) rest (omega (arith, (few a (Memᴰ.head refl)).1))
    (heads_fit space k' later (λ b m. few b (Memᴰ.tail m)) (omega (arith, all)))))

-- Three or four numbers that have a property.
each_three : (P : ℕ → Type 0) (x y z : ℕ) → P x → P y → P z → Each P (x ∷ y ∷ z ∷ [])
each_three P x y z a b c = each_more P x _ a (each_more P y _ b (each_more P z [] c (each_none P)))

each_four : (P : ℕ → Type 0) (x y z w : ℕ) → P x → P y → P z → P w → Each P (x ∷ y ∷ z ∷ w ∷ [])
each_four P x y z w a b c d = each_more P x _ a (each_three P y z w b c d)

flag_small : (x : Bool) → flag x < 65536
unfolding flag
flag_small true = omega arith
flag_small false = omega arith

-- The three numbers of a node that is small.
cells_fit : (node : Node) → Small node → Each Fits16 (cells node)
unfolding cells Small
cells_fit (Node.Act a number) h = each_three Fits16 0 a number (omega arith) h.0 h.1
cells_fit (Node.Branch met unmet) h = each_three Fits16 1 met unmet (omega arith) h.0 h.1
cells_fit (Node.Jump skip) h = each_three Fits16 2 skip 0 (omega arith) h (omega arith)
cells_fit (Node.Join all size) h = each_three Fits16 3 size (flag all) (omega arith) h (flag_small all)
cells_fit (Node.Atom positive k) h = each_three Fits16 4 k (flag positive) (omega arith) h (flag_small positive)
cells_fit (Node.End count) h = each_three Fits16 5 count 0 (omega arith) h (omega arith)

-- The nodes of a formula whose nodes and sets have room.
formula_small : (f : Epistemic) (k : ℕ) → formula_size f ≤ node_most → k + atoms f ≤ set_most → Each Small (formula_nodes f k)
unfolding formula_nodes formula_size atoms Small
formula_small (known f) k nodes sets = each_more Small (Node.Atom true k) [] (omega arith) (each_none Small)
formula_small (not_known f) k nodes sets = each_more Small (Node.Atom false k) [] (omega arith) (each_none Small)
formula_small (all_of f g) k nodes sets =
    each_more Small (Node.Join true (formula_size f + formula_size g)) _ (omega arith)
    (each_append Small (formula_nodes f k) (formula_nodes g (k + atoms f)) (formula_small f k (omega arith) (omega arith)) (formula_small g (k + atoms f) (omega arith) (omega arith)))
formula_small (any_of f g) k nodes sets =
    each_more Small (Node.Join false (formula_size f + formula_size g)) _ (omega arith)
    (each_append Small (formula_nodes f k) (formula_nodes g (k + atoms f)) (formula_small f k (omega arith) (omega arith)) (formula_small g (k + atoms f) (omega arith) (omega arith)))

-- Action numbers that are below one number are below a greater one.
numbers_more : (i j : ℕ) → i ≤ j → (p : Program) → NumbersBelow i p → NumbersBelow j p
unfolding NumbersBelow
numbers_more i j l end h = tt
numbers_more i j l (act a rest) h = (omega (arith, h.0), numbers_more i j l rest h.1)
numbers_more i j l (branch f y z rest) h = (numbers_more i j l y h.0, numbers_more i j l z h.1, numbers_more i j l rest h.2)

-- The nodes of a program whose nodes, sets and actions have room.
nodes_small : (p : Program) (k c : ℕ) → NumbersBelow head_most p → size p ≤ node_most → k + program_atoms p ≤ set_most → c + action_nodes p ≤ most_acts → Each Small (program_nodes p k c)
unfolding program_nodes size program_atoms action_nodes NumbersBelow Small
nodes_small end k c numbers nodes sets acts = each_none Small
nodes_small (act a rest) k c numbers nodes sets acts =
    each_more Small (Node.Act a c) (program_nodes rest k (c + 1)) (omega (arith, numbers.0), omega arith) (nodes_small rest k (c + 1) numbers.1 (omega arith) sets (omega arith))
nodes_small (branch f y z rest) k c numbers nodes sets acts =
    let k₁ = k + atoms f in
    let k₂ = k + atoms f + program_atoms y in
    let k₃ = k + atoms f + program_atoms y + program_atoms z in
    let c₁ = c + action_nodes y in
    let c₂ = c + action_nodes y + action_nodes z in
    let later = program_nodes z k₂ c₁ ++ program_nodes rest k₃ c₂ in
    each_more Small (Node.Branch (formula_size f) (formula_size f + suc (size y))) _ (omega arith, omega arith)
    (each_append Small (formula_nodes f k) (program_nodes y k₁ c ++ (Node.Jump (size z) ∷ later)) (formula_small f k (omega arith) (omega arith))
    (each_append Small (program_nodes y k₁ c) (Node.Jump (size z) ∷ later) (nodes_small y k₁ c numbers.0 (omega arith) (omega arith) (omega arith))
    (each_more Small (Node.Jump (size z)) later (omega arith)
    (each_append Small (program_nodes z k₂ c₁) (program_nodes rest k₃ c₂) (nodes_small z k₂ c₁ numbers.1 (omega arith) (omega arith) (omega arith))
    (nodes_small rest k₃ c₂ numbers.2 (omega arith) (omega arith) (omega arith))))))

-- The four words of a set that fits.
words_fit : (set : States) → Fitting set → Each Fits64 (words set)
unfolding words
words_fit set h = each_four Fits64 set.w0 set.w1 set.w2 set.w3 h.0 h.1 h.2 h.3

-- The sets of actions, of a formula and of a program are sets of tests, which fit.
action_sets_fit : (space : ℕ → Bool) (a : Action) → Each Fitting (action_sets space a)
unfolding action_sets
action_sets_fit space a = each_append Fitting (rows space a) (reply_tables a) (rows_fit a) replies_fit
  where
    rows_fit : (x : Action) → Each Fitting (rows space x)
    rows_fit (change f) = each_map Fitting (λ s. set_of (λ t. space s && space t && truth f s t)) (below 256) (λ s. fitting_set_of (λ t. space s && space t && truth f s t))
    rows_fit (probe fs) = each_none Fitting

    replies_fit : Each Fitting (reply_tables a)
    replies_fit = each_map Fitting (λ r. set_of (λ t. reply_holds a r t)) (below (reply_count a)) (λ r. fitting_set_of (λ t. reply_holds a r t))

atom_sets_fit : (f : Epistemic) → Each Fitting (atom_sets f)
unfolding atom_sets
atom_sets_fit (known f) = each_more Fitting (set_of (λ s. holds f s)) [] (fitting_set_of (λ s. holds f s)) (each_none Fitting)
atom_sets_fit (not_known f) = each_more Fitting (set_of (λ s. holds f s)) [] (fitting_set_of (λ s. holds f s)) (each_none Fitting)
atom_sets_fit (all_of f g) = each_append Fitting (atom_sets f) (atom_sets g) (atom_sets_fit f) (atom_sets_fit g)
atom_sets_fit (any_of f g) = each_append Fitting (atom_sets f) (atom_sets g) (atom_sets_fit f) (atom_sets_fit g)

program_sets_fit : (p : Program) → Each Fitting (program_sets p)
unfolding program_sets
program_sets_fit end = each_none Fitting
program_sets_fit (act a rest) = program_sets_fit rest
program_sets_fit (branch f y z rest) =
    each_append Fitting (atom_sets f) (program_sets y ++ (program_sets z ++ program_sets rest)) (atom_sets_fit f)
    (each_append Fitting (program_sets y) (program_sets z ++ program_sets rest) (program_sets_fit y)
    (each_append Fitting (program_sets z) (program_sets rest) (program_sets_fit z) (program_sets_fit rest)))

-- The numbers of the heads of an accepted sheet.
sheet_heads_fit : (bytes : List ℕ) (sheet : Sheet) → reading bytes ≡ gives sheet → Each Fits16 (sheet_heads sheet)
unfolding sheet_heads sheet_action_sets
sheet_heads_fit bytes sheet e = heads_fit (is_state sheet) 0 sheet.actions (accepted_shape bytes sheet e).replies_few (omega (arith, (accepted_room bytes sheet e).actions_room))

-- The nodes of an accepted sheet, and their numbers.
sheet_nodes_small : (bytes : List ℕ) (sheet : Sheet) → reading bytes ≡ gives sheet → Each Small (sheet_nodes sheet)
unfolding sheet_nodes Small
sheet_nodes_small bytes sheet e =
    let room = accepted_room bytes sheet e in
    let shape = accepted_shape bytes sheet e in
    let k = length (sheet_action_sets sheet) in
    let l = k + atoms sheet.goal in
    let last : List Node = Node.End (action_nodes sheet.program) ∷ [] in
    each_more Small (Node.Jump (formula_size sheet.goal)) _ (omega (arith, room.nodes_room))
    (each_append Small (formula_nodes sheet.goal k) (program_nodes sheet.program l 0 ++ last) (formula_small sheet.goal k (omega (arith, room.nodes_room)) (omega (arith, room.sets_room)))
    (each_append Small (program_nodes sheet.program l 0) last
    (nodes_small sheet.program l 0 (numbers_more (length sheet.actions) head_most shape.actions_most sheet.program shape.numbers) (omega (arith, room.nodes_room))
    (omega (arith, room.sets_room)) (omega (arith, shape.acts_most)))
    (each_more Small (Node.End (action_nodes sheet.program)) [] (omega (arith, shape.acts_most)) (each_none Small))))

sheet_nodes_fit : (bytes : List ℕ) (sheet : Sheet) → reading bytes ≡ gives sheet → Each Fits16 (node_cells sheet)
unfolding node_cells
sheet_nodes_fit bytes sheet e = each_flat Fits16 cells (sheet_nodes sheet) (λ node m. cells_fit node (sheet_nodes_small bytes sheet e node m))

-- The sets of any sheet, and their words.
sheet_sets_fit : (sheet : Sheet) → Each Fitting (sheet_sets sheet)
unfolding sheet_sets sheet_action_sets
sheet_sets_fit sheet =
    each_append Fitting (sheet_action_sets sheet) (atom_sets sheet.goal ++ program_sets sheet.program)
    (each_flat Fitting (action_sets (is_state sheet)) sheet.actions (λ a m. action_sets_fit (is_state sheet) a))
    (each_append Fitting (atom_sets sheet.goal) (program_sets sheet.program) (atom_sets_fit sheet.goal) (program_sets_fit sheet.program))

set_words_fit : (sheet : Sheet) → Each Fits64 (set_words sheet)
unfolding set_words
set_words_fit sheet = each_flat Fits64 words (sheet_sets sheet) (λ set m. words_fit set (sheet_sets_fit sheet set m))

-- A memory keeps its length.
pub prepared_length : (has : Sheet → List ℕ) (answer : Answer Sheet) (memory : List ℕ) → length (prepared has answer memory) ≡ length memory
unfolding prepared
prepared_length has (gives sheet) memory = write_length memory 0 (has sheet)
prepared_length has (refused r) memory = refl

-- The tables after a sheet was prepared, whatever the sheet, fit the numbers of the memory.
module _ (bytes : List ℕ) where
  pub prepared_heads_fit : (heads : List ℕ) → ((n : ℕ) → Memᴰ n heads → n < 65536) → (n : ℕ) → Memᴰ n (prepared sheet_heads (reading bytes) heads) → n < 65536
  prepared_heads_fit heads h = each_prepared Fits16 sheet_heads (reading bytes) heads h (sheet_heads_fit bytes)

  pub prepared_nodes_fit : (nodes : List ℕ) → ((n : ℕ) → Memᴰ n nodes → n < 65536) → (n : ℕ) → Memᴰ n (prepared node_cells (reading bytes) nodes) → n < 65536
  prepared_nodes_fit nodes h = each_prepared Fits16 node_cells (reading bytes) nodes h (sheet_nodes_fit bytes)

  pub prepared_sets_fit : (sets : List ℕ) → ((n : ℕ) → Memᴰ n sets → n < 2 ^ 64) → (n : ℕ) → Memᴰ n (prepared set_words (reading bytes) sets) → n < 2 ^ 64
  prepared_sets_fit sets h = each_prepared Fits64 set_words (reading bytes) sets h (λ sheet e. set_words_fit sheet)

  -- They are as long as before.
  pub prepared_heads_length : (heads : List ℕ) → length heads ≡ 3 * head_most → length (prepared sheet_heads (reading bytes) heads) ≡ 3 * head_most
  prepared_heads_length heads h = prepared_length sheet_heads (reading bytes) heads ∙ h

  pub prepared_nodes_length : (nodes : List ℕ) → length nodes ≡ 3 * node_most → length (prepared node_cells (reading bytes) nodes) ≡ 3 * node_most
  prepared_nodes_length nodes h = prepared_length node_cells (reading bytes) nodes ∙ h

  pub prepared_sets_length : (sets : List ℕ) → length sets ≡ 4 * set_most → length (prepared set_words (reading bytes) sets) ≡ 4 * set_most
  prepared_sets_length sets h = prepared_length set_words (reading bytes) sets ∙ h

-- The start set of a sheet fits.
pub start_fits : (sheet : Sheet) → Fitting (sheet_start sheet)
unfolding sheet_start
start_fits sheet = fitting_set_of (λ s. is_state sheet s && holds sheet.start s)
