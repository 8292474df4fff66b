-- Laws of filling the sets and the heads of actions: what the walking functions answer where a formula or an action stands, and what is left to be written. Assumes nothing.
use Prim.Native.Nat.{ℕ, suc, ◌+◌, ◌-◌, ◌*◌, ◌≤◌, ◌<◌}
use mathlib.Core.Path.{◌≡◌, refl, sym, ap, ap₂, subst, ◌∙◌}
use mathlib.Core.List.{List, [], ◌∷◌, ◌++◌, map, flat_map}
use mathlib.Core.Bool.{Bool, true, false, ◌&&◌}
use native.Mathlib.Omega.{arith}
use native.Mathlib.Numerals.{add-one}
use lib.ListN.{length, get_or, length-append, length-map}
use Rattle.lists.specs.Lists.{up_from, write}
use Rattle.lists.proofs.ListLaws.{made_length}
use Rattle.states.specs.declared.States.{States}
use Rattle.states.specs.Sets.{words, member, set_of}
use Rattle.states.proofs.SetLaws.{member_set_of, set_cong}
use Rattle.format.specs.Syntax.{Objective, bottom, Action, change, probe, reply_count}
use Rattle.format.specs.Truth.{truth, holds, reply_holds}
use Rattle.format.specs.Format.{Read, got, fault, Kind, changes, probes, kind, reply_total}
use Rattle.format.specs.Standing.{ObjectiveAt, RepliesAt, ActionAt, ActionsAt}
use Rattle.reader.specs.Answers.{states_in}
use Rattle.reader.specs.declared.formula.View.{View}
use Rattle.routine.specs.declared.actions.Laid.{Laid}
use Rattle.routine.specs.Memory.{set_most}
use Rattle.routine.specs.Tables.{rows, action_sets, head_cells}
use Rattle.routine.specs.Filling.{Replies, ActionRoom, ActionWritten}
use Rattle.routine.proofs.WriteLaws.{written_on, words_four, spread_step, spread_append, spread_length}

-- The kind and the reply count that are read where an action stands.
module _ (bytes : List ℕ) (n : ℕ) (p : ℕ) where
  -- A change, behind whose kind its theory stands.
  pub change_found : {end : ℕ} → got changes end ≡ kind bytes p → (x : Action) (q : ℕ) → ActionAt bytes n x p q
      → (f : Objective) × (x ≡ change f) × ObjectiveAt bytes n true f end q
  unfolding ActionAt
  change_found {end} k (change f) q h =
      let g : got changes end ≡ got changes h.0 = k ∙ h.1 in
      let b : end ≡ h.0 = cc in
      (f, refl, rw b h.2)
  change_found {end} k (probe fs) q h =
      let g : got changes end ≡ got probes h.0 = k ∙ h.1 in
      let z : ◌≡◌ {A = ℕ} 0 1 = cc in absurd (omega arith)

  -- A probe, behind whose kind its reply count stands, and its replies behind that.
  module _ {behind : ℕ} (k : got probes behind ≡ kind bytes p) (x : Action) (q : ℕ) (h : ActionAt bytes n x p q) where
    counted : (fs : List Objective) × (x ≡ probe fs) × (i : ℕ) × (reply_total bytes behind ≡ got (length fs) i) × RepliesAt bytes n fs i q
    counted = go x h
      where
        go : (x : Action) → ActionAt bytes n x p q → (fs : List Objective) × (x ≡ probe fs) × (i : ℕ) × (reply_total bytes behind ≡ got (length fs) i) × RepliesAt bytes n fs i q
        go (change f) h = unfold ActionAt in (
            let g : got probes behind ≡ got changes h.0 = k ∙ h.1 in
            let z : ◌≡◌ {A = ℕ} 0 1 = cc in absurd (omega arith))
        go (probe fs) h = unfold ActionAt in (
            let g : got probes behind ≡ got probes h.0 = k ∙ h.1 in
            let b : behind ≡ h.0 = cc in
            (fs, refl, h.2, rw b h.3, h.4))

    pub probe_found : {m end : ℕ} → got m end ≡ reply_total bytes behind → (fs : List Objective) × (x ≡ probe fs) × (length fs ≡ m) × RepliesAt bytes n fs end q
    probe_found {m} {end} l =
        let g : got m end ≡ got (length counted.0) counted.2 = l ∙ counted.3 in
        let b : end ≡ counted.2 = cc in
        let many : length counted.0 ≡ m = cc in
        (counted.0, counted.1, many, rw b counted.4)

    -- No refusal.
    pub never_uncounted : {y : ℕ} {A : Type 0} → fault y ≡ reply_total bytes behind → A
    never_uncounted {y} l =
        let g : ◌≡◌ {A = Read ℕ} (fault y) (got (length counted.0) counted.2) = l ∙ counted.3 in
        let z : ◌≡◌ {A = ℕ} 0 1 = cc in absurd (omega arith)

  pub never_faulty : {x : ℕ} {A : Type 0} → fault x ≡ kind bytes p → (a : Action) (q : ℕ) → ActionAt bytes n a p q → A
  unfolding ActionAt
  never_faulty {x} k (change f) q h = let g : ◌≡◌ {A = Read Kind} (fault x) (got changes h.0) = k ∙ h.1 in let z : ◌≡◌ {A = ℕ} 0 1 = cc in absurd (omega arith)
  never_faulty {x} k (probe fs) q h = let g : ◌≡◌ {A = Read Kind} (fault x) (got probes h.0) = k ∙ h.1 in let z : ◌≡◌ {A = ℕ} 0 1 = cc in absurd (omega arith)

-- The row of a state: the states of a space that may follow it.
abbrev pub row_of : States → Objective → ℕ → States
row_of space f s = set_of (λ t. member space s && member space t && truth f s t)

module _ (space : States) (f : Objective) (s : ℕ) where
  -- A state inside has those that the theory allows.
  pub row_inside : {set : States} → member space s ≡ true → set ≡ states_in (View.Next s) f → set_of (λ t. member space t && member set t) ≡ row_of space f s
  unfolding states_in
  row_inside {set} e h =
      set_cong (λ t. member space t && member set t) (λ t. member space s && member space t && truth f s t)
      (λ t l. ap (λ (x : States). member space t && member x t) h ∙ ap (λ (b : Bool). member space t && b) (member_set_of (λ t. truth f s t) t l)
      ∙ ap (λ (b : Bool). b && member space t && truth f s t) (sym e))

-- Rows: those from row i on are left to be written.
abbrev pub rows_from : States → Objective → ℕ → List States
rows_from space f i = map (row_of space f) (up_from i (256 - i))

module _ (space : States) (f : Objective) where
  -- At first all are.
  pub rows_first : (k : ℕ) (before : List ℕ) → write before (4 * (k + 0)) (flat_map words (rows_from space f 0)) ≡ write before (4 * k) (flat_map words (rows (member space) (change f)))
  unfolding rows
  rows_first k before = let e : k + 0 ≡ k = omega arith in ap (λ (j : ℕ). write before (4 * j) (flat_map words (rows_from space f 0))) e

  -- Row i and those behind it.
  rows_split : (i : ℕ) → i < 256 → rows_from space f i ≡ row_of space f i ∷ rows_from space f (i + 1)
  unfolding up_from
  rows_split i l =
      let e : 256 - i ≡ suc (256 - (i + 1)) = omega arith in
      ap (λ (j : ℕ). map (row_of space f) (up_from i j)) e ∙ ap (λ (j : ℕ). row_of space f i ∷ map (row_of space f) (up_from j (256 - (i + 1)))) (sym (add-one i))

  -- Where row i is written, those behind it are left.
  pub rows_next : (k i : ℕ) (after then : List ℕ) (set : States) → i < 256 → set ≡ row_of space f i → then ≡ write after (4 * (k + i)) (words set)
      → write then (4 * (k + (i + 1))) (flat_map words (rows_from space f (i + 1))) ≡ write after (4 * (k + i)) (flat_map words (rows_from space f i))
  rows_next k i after then set l e h =
      spread_step 4 words words_four after then (k + i) (k + (i + 1)) (row_of space f i) (rows_from space f (i + 1))
      (h ∙ ap (λ (x : States). write after (4 * (k + i)) (words x)) e) (omega arith)
      ∙ ap (λ (us : List States). write after (4 * (k + i)) (flat_map words us)) (sym (rows_split i l))

  -- At the end none is.
  pub rows_last : (k i : ℕ) (after : List ℕ) → 256 ≤ i → after ≡ write after (4 * (k + i)) (flat_map words (rows_from space f i))
  unfolding up_from write flat_map
  rows_last k i after l = let e : 256 - i ≡ 0 = omega arith in ap (λ (j : ℕ). write after (4 * (k + i)) (flat_map words (map (row_of space f) (up_from i j)))) (sym e)

  -- There are 256.
  rows_count : length (rows (member space) (change f)) ≡ 256
  unfolding rows
  rows_count = made_length (row_of space f) 0 256

-- The table of a reply: the states in which it is true.
abbrev pub table_of : Objective → States
table_of f = set_of (λ t. holds f t)

-- Replies that are left to be written from set k + i on, where they stand from p to q.
pub record RepliesLeft (bytes : List ℕ) (n m k : ℕ) (before after : List ℕ) (p q i : ℕ) (fs : List Objective) : Type 0 where
  pub left : List Objective
  pub number : length left ≡ m - i
  pub stand : RepliesAt bytes n left p q
  pub whole : write after (4 * (k + i)) (flat_map words (map table_of left)) ≡ write before (4 * k) (flat_map words (map table_of fs))

module _ (bytes : List ℕ) (n m k : ℕ) (before : List ℕ) (q : ℕ) (fs : List Objective) where
  -- The next one stands where they do.
  pub replies_here : {after : List ℕ} {p i : ℕ} → i < m → RepliesLeft bytes n m k before after p q i fs → (f : Objective) × (r : ℕ) × ObjectiveAt bytes n false f p r
      × ((set : States) (end : ℕ) (then : List ℕ) → (set ≡ states_in View.States f) × (end ≡ r) → then ≡ write after (4 * (k + i)) (words set) → RepliesLeft bytes n m k before then end q (i + 1) fs)
  unfolding RepliesAt states_in holds
  replies_here {after} {p} {i} l x = go x.left x.number x.stand x.whole
    where
      go : (left : List Objective) → length left ≡ m - i → RepliesAt bytes n left p q
          → write after (4 * (k + i)) (flat_map words (map table_of left)) ≡ write before (4 * k) (flat_map words (map table_of fs))
          → (f : Objective) × (r : ℕ) × ObjectiveAt bytes n false f p r
          × ((set : States) (end : ℕ) (then : List ℕ) → (set ≡ states_in View.States f) × (end ≡ r) → then ≡ write after (4 * (k + i)) (words set) → RepliesLeft bytes n m k before then end q (i + 1) fs)
      go [] d h w = absurd (omega arith)
      go (f ∷ left) d h w = (
        f,
        h.0,
        h.1,
        λ set end then e t.
            record {
              left = left;
              number = omega arith;
              stand = rw e.1 h.2;
              whole = spread_step 4 words words_four after then (k + i) (k + (i + 1)) (table_of f) (map table_of left)
                  (t ∙ ap (λ (x : States). write after (4 * (k + i)) (words x)) e.0) (omega arith) ∙ w;
            },
      )

  -- At the end none is.
  pub replies_last : {after : List ℕ} {p i : ℕ} → m ≤ i → RepliesLeft bytes n m k before after p q i fs → (p ≡ q) × (after ≡ write before (4 * k) (flat_map words (map table_of fs)))
  unfolding RepliesAt write flat_map
  replies_last {after} {p} {i} l x = go x.left x.number x.stand x.whole
    where
      go : (left : List Objective) → length left ≡ m - i → RepliesAt bytes n left p q
          → write after (4 * (k + i)) (flat_map words (map table_of left)) ≡ write before (4 * k) (flat_map words (map table_of fs))
          → (p ≡ q) × (after ≡ write before (4 * k) (flat_map words (map table_of fs)))
      go [] d h w = (h, w)
      go (f ∷ left) d h w = absurd (omega arith)

-- The tables of a probe's replies are those of its formulas.
formulas_tables : (table : ℕ → States) (fs : List Objective) (a : ℕ) → ((r : ℕ) → table (a + r) ≡ table_of (get_or fs r bottom)) → map table (up_from a (length fs)) ≡ map table_of fs
unfolding up_from
formulas_tables table [] a h = refl
formulas_tables table (f ∷ fs) a h =
    let e : a + 0 ≡ a = omega arith in
    ap₂ (λ (x : States) (xs : List States). x ∷ xs) (ap table (sym e) ∙ h 0)
    (formulas_tables table fs (suc a) (λ r. let d : suc a + r ≡ a + suc r = omega arith in ap table d ∙ h (suc r)))

module _ (space : States) where
  -- The sets of a probe are these tables.
  probe_sets : (fs : List Objective) → action_sets (member space) (probe fs) ≡ map table_of fs
  unfolding action_sets reply_holds
  probe_sets fs =
      formulas_tables (λ r. set_of (λ t. reply_holds (probe fs) r t)) fs 0
      (λ r. let e : 0 + r ≡ r = omega arith in ap (λ (j : ℕ). table_of (get_or fs j bottom)) e)

  probe_count : (fs : List Objective) → length (action_sets (member space) (probe fs)) ≡ length fs
  probe_count fs = ap length (probe_sets fs) ∙ length-map fs table_of

  -- Those of a change are its rows and the set of all states.
  change_sets : (f : Objective) → action_sets (member space) (change f) ≡ rows (member space) (change f) ++ (set_of (λ s. true) ∷ [])
  unfolding action_sets
  change_sets f = refl

  change_count : (f : Objective) → length (action_sets (member space) (change f)) ≡ 257
  change_count f =
      ap length (change_sets f) ∙ length-append (rows (member space) (change f)) (set_of (λ s. true) ∷ []) ∙ ap (λ (j : ℕ). j + 1) (rows_count space f)

  -- The parts of an action that has room stand behind its first node, and have room.
  module _ (bytes : List ℕ) (n p k : ℕ) (here : ActionRoom bytes n space p k) where
    pub change_room : {end : ℕ} → got changes end ≡ kind bytes p → k + 257 ≤ set_most
    change_room g =
        let x = change_found bytes n p g here.action here.next here.stands in
        let l : length (action_sets (member space) here.action) ≡ 257 = ap (λ (y : Action). length (action_sets (member space) y)) x.1 ∙ change_count x.0 in
        omega (arith, l, here.room)

    pub probe_room : {behind m end : ℕ} → got probes behind ≡ kind bytes p → got m end ≡ reply_total bytes behind → Replies bytes n end m k
    probe_room g h =
        let x = probe_found bytes n p g here.action here.next here.stands h in
        let l : length (action_sets (member space) here.action) ≡ length x.0 = ap (λ (y : Action). length (action_sets (member space) y)) x.1 ∙ probe_count x.0 in
        record { formulas = x.0; next = here.next; stand = x.3; all = x.2; room = omega (arith, l, x.2, here.room) }

  module _ (a k : ℕ) (heads heads' sets sets' : List ℕ) (q : ℕ) where
    -- Of a change: its rows, the set of all states, and its head.
    pub change_filled : (x : Action) (f : Objective) (end : ℕ) (middle : List ℕ) (full : States) → x ≡ change f → end ≡ q
        → middle ≡ write sets (4 * k) (flat_map words (rows (member space) (change f))) → full ≡ set_of (λ s. true)
        → sets' ≡ write middle (4 * (k + 256)) (words full) → heads' ≡ write heads (3 * a) (k ∷ (k + 256) ∷ 1 ∷ [])
        → ActionWritten space a k heads heads' sets sets' (record { at = end; set = k + 257 }) x q
    unfolding head_cells words flat_map
    change_filled x f end middle full e d r u w h =
        subst (λ (y : Action). ActionWritten space a k heads heads' sets sets' (record { at = end; set = k + 257 }) y q) (sym e) (
          ap₂ (λ (i j : ℕ). record { at = i; set = k + j }) d (sym (change_count f)),
          h ∙ ap (λ (j : ℕ). write heads (3 * a) (k ∷ (k + j) ∷ 1 ∷ [])) (sym (rows_count space f)),
          written_on sets middle sets' (4 * k) (4 * (k + 256)) (flat_map words (rows (member space) (change f))) (words (set_of (λ s. true))) r
              (w ∙ ap (λ (z : States). write middle (4 * (k + 256)) (words z)) u)
              (omega (arith, spread_length 4 words words_four (rows (member space) (change f)), rows_count space f))
              ∙ ap (λ (us : List ℕ). write sets (4 * k) us)
              (sym (ap (flat_map words) (change_sets f) ∙ spread_append words (rows (member space) (change f)) (set_of (λ s. true) ∷ []))),
        )

    -- Of a probe: the tables of its replies, and its head.
    pub probe_filled : (x : Action) (fs : List Objective) (m end : ℕ) → x ≡ probe fs → length fs ≡ m
        → (end ≡ q) × (sets' ≡ write sets (4 * k) (flat_map words (map table_of fs))) → heads' ≡ write heads (3 * a) (k ∷ k ∷ m ∷ [])
        → ActionWritten space a k heads heads' sets sets' (record { at = end; set = k + m }) x q
    unfolding head_cells rows reply_count
    probe_filled x fs m end e l w h =
        let z : k ≡ k + 0 = omega arith in
        subst (λ (y : Action). ActionWritten space a k heads heads' sets sets' (record { at = end; set = k + m }) y q) (sym e) (
          ap₂ (λ (i j : ℕ). record { at = i; set = k + j }) w.0 (sym (probe_count fs ∙ l)),
          h ∙ ap₂ (λ (i j : ℕ). write heads (3 * a) (k ∷ i ∷ j ∷ [])) z (sym l),
          w.1 ∙ ap (λ (us : List States). write sets (4 * k) (flat_map words us)) (sym (probe_sets fs)),
        )

-- Actions that are left to be written, from head a and set k on, where they stand from p to q.
pub record ActionsLeft (bytes : List ℕ) (n : ℕ) (space : States) (count : ℕ) (heads heads' sets sets' : List ℕ) (p q k a : ℕ) (actions : List Action) : Type 0 where
  pub left : List Action
  pub number : length left ≡ count - a
  pub stand : ActionsAt bytes n left p q
  pub sets_count : k + length (flat_map (action_sets (member space)) left) ≡ length (flat_map (action_sets (member space)) actions)
  pub heads_whole : write heads' (3 * a) (head_cells (member space) k left) ≡ write heads 0 (head_cells (member space) 0 actions)
  pub sets_whole : write sets' (4 * k) (flat_map words (flat_map (action_sets (member space)) left)) ≡ write sets 0 (flat_map words (flat_map (action_sets (member space)) actions))

module _ (bytes : List ℕ) (n : ℕ) (space : States) (count : ℕ) (heads sets : List ℕ) (q : ℕ) (actions : List Action) where
  module _ (heads' sets' : List ℕ) (p k a : ℕ) where
    -- The next action, which stands where they do and has room, and what is left behind it.
    pub record Next : Type 0 where
      pub action : Action
      pub end : ℕ
      pub stands : ActionAt bytes n action p end
      pub room : k + length (action_sets (member space) action) ≤ length (flat_map (action_sets (member space)) actions)
      pub later : (r : Laid) (heads'' sets'' : List ℕ) → ActionWritten space a k heads' heads'' sets' sets'' r action end
          → ActionsLeft bytes n space count heads heads'' sets sets'' r.at q r.set (a + 1) actions

    pub actions_here : a < count → ActionsLeft bytes n space count heads heads' sets sets' p q k a actions → Next
    unfolding ActionsAt head_cells flat_map
    actions_here l y = go y.left y.number y.stand y.sets_count y.heads_whole y.sets_whole
      where
        go : (left : List Action) → length left ≡ count - a → ActionsAt bytes n left p q
            → k + length (flat_map (action_sets (member space)) left) ≡ length (flat_map (action_sets (member space)) actions)
            → write heads' (3 * a) (head_cells (member space) k left) ≡ write heads 0 (head_cells (member space) 0 actions)
            → write sets' (4 * k) (flat_map words (flat_map (action_sets (member space)) left)) ≡ write sets 0 (flat_map words (flat_map (action_sets (member space)) actions))
            → Next
        go [] d h e u v = absurd (omega arith)
        go (x ∷ left) d h e u v =
            let mine = action_sets (member space) x in
            let rest = flat_map (action_sets (member space)) left in
            let both : length (mine ++ rest) ≡ length mine + length rest = length-append mine rest in
            record {
              action = x;
              end = h.0;
              stands = h.1;
              room = omega (arith, both, e);
              later = λ r heads'' sets'' w.
                  let i : r.at ≡ h.0 = ap (λ (z : Laid). z.at) w.0 in
                  let j : r.set ≡ k + length mine = ap (λ (z : Laid). z.set) w.0 in
                  record {
                    left = left;
                    number = omega arith;
                    stand = rw i h.2;
                    sets_count = omega (arith, both, e, j);
                    heads_whole =
                        ap (λ (z : ℕ). write heads'' (3 * (a + 1)) (head_cells (member space) z left)) j
                        ∙ written_on heads' heads'' (write heads'' (3 * (a + 1)) (head_cells (member space) (k + length mine) left)) (3 * a) (3 * (a + 1)) (head_cells (member space) k (x ∷ []))
                        (head_cells (member space) (k + length mine) left) w.1 refl (omega arith)
                        ∙ u;
                    sets_whole =
                        written_on sets' sets'' (write sets'' (4 * r.set) (flat_map words rest)) (4 * k) (4 * r.set) (flat_map words mine) (flat_map words rest) w.2 refl
                        (omega (arith, spread_length 4 words words_four mine, j))
                        ∙ ap (λ (us : List ℕ). write sets' (4 * k) us) (sym (spread_append words mine rest)) ∙ v;
                  };
            }

    -- At the end none is.
    pub actions_last : count ≤ a → ActionsLeft bytes n space count heads heads' sets sets' p q k a actions
        → (◌≡◌ {A = Laid} (record { at = p; set = k }) (record { at = q; set = length (flat_map (action_sets (member space)) actions) }))
        × (heads' ≡ write heads 0 (head_cells (member space) 0 actions))
        × (sets' ≡ write sets 0 (flat_map words (flat_map (action_sets (member space)) actions)))
    unfolding ActionsAt head_cells flat_map write
    actions_last l y = go y.left y.number y.stand y.sets_count y.heads_whole y.sets_whole
      where
        go : (left : List Action) → length left ≡ count - a → ActionsAt bytes n left p q
            → k + length (flat_map (action_sets (member space)) left) ≡ length (flat_map (action_sets (member space)) actions)
            → write heads' (3 * a) (head_cells (member space) k left) ≡ write heads 0 (head_cells (member space) 0 actions)
            → write sets' (4 * k) (flat_map words (flat_map (action_sets (member space)) left)) ≡ write sets 0 (flat_map words (flat_map (action_sets (member space)) actions))
            → (◌≡◌ {A = Laid} (record { at = p; set = k }) (record { at = q; set = length (flat_map (action_sets (member space)) actions) }))
            × (heads' ≡ write heads 0 (head_cells (member space) 0 actions))
            × (sets' ≡ write sets 0 (flat_map words (flat_map (action_sets (member space)) actions)))
        go [] d h e u v = let z : k ≡ length (flat_map (action_sets (member space)) actions) = omega (arith, e) in (ap₂ (λ (i j : ℕ). record { at = i; set = j }) h z, u, v)
        go (x ∷ left) d h e u v = absurd (omega arith)
