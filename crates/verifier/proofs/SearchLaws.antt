-- The search over the tables of an accepted sheet finds what the histories of runs that follow the routine say. Assumes nothing.
use Rattle.std.proofs.Common.{◌≡◌, ℕ, zero, suc, ◌+◌, ◌≤◌, Bool, true, false, not, ◌&&◌, eqb, ltb, List, [], ◌∷◌, ◌++◌, length, sym, refl, ap, ◌∙◌, subst, ⊎_elim, append_assoc, append-nil, arith, length-append, le-ltb, lt-ltb, eqb-true}
use mathlib.Core.List.{flat_map, Memᴰ}
use borrow.Author.Tests.{eqb-false}
use Rattle.lists.specs.Lists.{below, keep, up_to, nonempty, Sorted, Before}
use Rattle.std.specs.Prelude.{if◌then◌else◌}
use Rattle.lists.proofs.OrderLaws.{up_to_mem}
use Rattle.states.specs.declared.States.{States}
use Rattle.states.specs.Sets.{members}
use Rattle.format.specs.Syntax.{reply_count, Sheet, action_of}
use Rattle.format.specs.Format.{gives, most_acts, reading}
use Rattle.semantics.specs.Runs.{Entry, entry, History, extended, replies, holds_after, occurs}
use Rattle.semantics.specs.Routine.{Policy, done, perform, routine, is_full}
use Rattle.semantics.specs.Verdict.{histories_from, histories, HistoryBefore, fails, counted, history_count, failures}
use Rattle.semantics.specs.Replies.{left_after}
use Rattle.semantics.proofs.FollowLaws.{histories_sorted}
use Rattle.semantics.proofs.ReplyLaws.{is_done, full_left}
use Rattle.routine.specs.declared.memory.Head.{Head}
use Rattle.routine.specs.Memory.{head_at}
use Rattle.routine.specs.Tables.{sheet_start}
use Rattle.routine.proofs.TableLaws.{Tabled}
use Rattle.progression.specs.declared.place.Place.{Place}
use Rattle.progression.specs.Machine.{settled, stepped}
use Rattle.progression.proofs.RoutineLaws.{Reached, AtAction, AtEnd, start_reached, reached_place, reached_occurs, reached_few}
use Rattle.verifier.specs.Search.{Found, passed, failed, over, behind, and_then, each_reply, visit, searched}
use Rattle.verifier.proofs.PathLaws.{visit_by, replies_all, searched_passed, searched_failed, searched_act}

-- A found history behind a whole one.
unfoldable past : History → Found → Found
past h (passed n) = passed n
past h (failed n g) = failed n (h ++ g)
past h over = over

past_none : (x : Found) → past [] x ≡ x
unfolding past
past_none (passed n) = refl
past_none (failed n g) = refl
past_none over = refl

past_behind : (h : History) (e : Entry) (x : Found) → past h (behind e x) ≡ past (h ++ (e ∷ [])) x
unfolding past behind
past_behind h e (passed n) = refl
past_behind h e (failed n g) = ap (failed n) (sym (append_assoc h (e ∷ []) g))
past_behind h e over = refl

past_over : (h : History) → past h over ≡ over
unfolding past
past_over h = refl

past_then : (h : History) (x : Found) (onward : ℕ → Found) → past h (and_then x onward) ≡ and_then (past h x) (λ c. past h (onward c))
unfolding past and_then
past_then h (passed n) onward = refl
past_then h (failed n g) onward = refl
past_then h over onward = refl

then_same : (x : Found) (f g : ℕ → Found) → ((c : ℕ) → f c ≡ g c) → and_then x f ≡ and_then x g
unfolding and_then
then_same (passed n) f g e = e n
then_same (failed n h) f g e = refl
then_same over f g e = refl

-- What is found in a count and the histories that fail: none, or the first.
unfoldable pub conclusion : (c : ℕ) → List History → Found
conclusion c [] = passed c
conclusion c (h ∷ later) = failed c h

module _ (sheet : Sheet) (budget : ℕ) where
  -- Histories counted one after the other, c being counted so far; and where the first is counted already.
  unfoldable scan : List History → (c : ℕ) → Found
  scan [] c = passed c
  scan (h ∷ later) c = if eqb c budget then over else (if fails sheet h then failed (c + 1) h else scan later (c + 1))

  unfoldable enter : List History → (c : ℕ) → Found
  enter [] c = passed c
  enter (h ∷ later) c = if fails sheet h then failed c h else scan later c

  scan_append : (xs ys : List History) (c : ℕ) → scan (xs ++ ys) c ≡ and_then (scan xs c) (scan ys)
  unfolding scan and_then
  scan_append [] ys c = refl
  scan_append (h ∷ xs) ys c = go (eqb c budget) (fails sheet h) (scan_append xs ys (c + 1))
    where
      go : (b f : Bool) → scan (xs ++ ys) (c + 1) ≡ and_then (scan xs (c + 1)) (scan ys)
          → (if b then over else (if f then failed (c + 1) h else scan (xs ++ ys) (c + 1))) ≡ and_then (if b then over else (if f then failed (c + 1) h else scan xs (c + 1))) (scan ys)
      go true f e = refl
      go false true e = refl
      go false false e = e

  -- The count up to the first that fails, or of all.
  scan_is : (hs : List History) (c : ℕ) → c ≤ budget
      → scan hs c ≡ (if ltb budget (c + length (up_to (fails sheet) hs)) then over else conclusion (c + length (up_to (fails sheet) hs)) (keep (fails sheet) hs))
  unfolding scan conclusion up_to keep
  scan_is [] c l = let e : c + 0 ≡ c = omega arith in rw (e, le-ltb budget c l)
  scan_is (h ∷ hs) c l = go (eqb c budget) refl (fails sheet h) (λ m. scan_is hs (c + 1) m)
    where
      n : ℕ
      n = length (up_to (fails sheet) hs)

      go : (b : Bool) → eqb c budget ≡ b → (f : Bool)
          → (c + 1 ≤ budget → scan hs (c + 1) ≡ (if ltb budget (c + 1 + n) then over else conclusion (c + 1 + n) (keep (fails sheet) hs)))
          → (if b then over else (if f then failed (c + 1) h else scan hs (c + 1)))
          ≡ (if ltb budget (c + length (if f then h ∷ [] else h ∷ up_to (fails sheet) hs)) then over
          else conclusion (c + length (if f then h ∷ [] else h ∷ up_to (fails sheet) hs)) (if f then h ∷ keep (fails sheet) hs else keep (fails sheet) hs))
      go true b true deeper = let e = eqb-true c budget b in rw (lt-ltb budget (c + 1) (omega (arith, e)))
      go true b false deeper = let e = eqb-true c budget b in rw (lt-ltb budget (c + suc n) (omega (arith, e)))
      go false b true deeper = let e = eqb-false c budget b in rw (le-ltb budget (c + 1) (omega (arith, l, e)))
      go false b false deeper =
          let e = eqb-false c budget b in
          let m : c + 1 ≤ budget = omega (arith, l, e) in
          let k : c + suc n ≡ c + 1 + n = omega arith in
          rw k (deeper m)

  -- All histories of a sheet, the empty one not counted.
  kept_all : (hs : List History) → ((g : History) → Memᴰ g hs → nonempty g ≡ true) → keep nonempty hs ≡ hs
  unfolding keep
  kept_all [] k = refl
  kept_all (h ∷ hs) k = rw (k h (Memᴰ.head refl), kept_all hs (λ g m. k g (Memᴰ.tail m)))

  behind_empty : (g : History) → HistoryBefore [] g → nonempty g ≡ true
  unfolding Before nonempty
  behind_empty [] b = absurd b
  behind_empty (e ∷ g) b = refl

  from_begins : (p : Policy) (h : History) → (later : List History) × (histories_from sheet p h ≡ h ∷ later)
  unfolding histories_from
  from_begins done h = ([], refl)
  from_begins (perform a after) h = (_, refl)

  enter_of : (later : List History) → ((g : History) → Memᴰ g later → nonempty g ≡ true)
      → enter ([] ∷ later) 0
      ≡ (if ltb budget (length (keep nonempty (up_to (fails sheet) ([] ∷ later)))) then over
      else conclusion (length (keep nonempty (up_to (fails sheet) ([] ∷ later)))) (keep (fails sheet) ([] ∷ later)))
  unfolding enter up_to keep nonempty conclusion
  enter_of later some =
      go (fails sheet []) (scan_is later 0 (omega arith)) (kept_all (up_to (fails sheet) later) (λ g m. some g (up_to_mem (fails sheet) later m)))
    where
      n : ℕ
      n = length (up_to (fails sheet) later)

      go : (f : Bool) → scan later 0 ≡ (if ltb budget (0 + n) then over else conclusion (0 + n) (keep (fails sheet) later)) → keep nonempty (up_to (fails sheet) later) ≡ up_to (fails sheet) later
          → (if f then failed 0 [] else scan later 0)
          ≡ (if ltb budget (length (keep nonempty (if f then [] ∷ [] else [] ∷ up_to (fails sheet) later))) then over
          else conclusion (length (keep nonempty (if f then [] ∷ [] else [] ∷ up_to (fails sheet) later))) (if f then [] ∷ keep (fails sheet) later else keep (fails sheet) later))
      go true e k = rw (le-ltb budget 0 (omega arith))
      go false e k = let z : 0 + n ≡ n = omega arith in rw k (rw z at e)

  enter_is : enter (histories sheet) 0 ≡ (if ltb budget (history_count sheet) then over else conclusion (history_count sheet) (failures sheet))
  unfolding histories history_count counted failures Sorted
  enter_is = let b = from_begins (routine sheet) [] in go b.0 b.1
    where
      Claim : List History → Type 0
      Claim hs = enter hs 0 ≡ (if ltb budget (length (keep nonempty (up_to (fails sheet) hs))) then over else conclusion (length (keep nonempty (up_to (fails sheet) hs))) (keep (fails sheet) hs))

      go : (later : List History) → histories sheet ≡ [] ∷ later → Claim (histories sheet)
      go later e =
          let sorted : Sorted HistoryBefore ([] ∷ later) = subst (Sorted HistoryBefore) e (histories_sorted sheet) in
          subst Claim (sym e) (enter_of later (λ g m. behind_empty g (sorted.0 g m)))

  scan_begins : (p : Policy) (h : History) (c : ℕ) → scan (histories_from sheet p h) c ≡ (if eqb c budget then over else enter (histories_from sheet p h) (c + 1))
  unfolding scan enter
  scan_begins p h c = let b = from_begins p h in subst (λ (hs : List History). scan hs c ≡ (if eqb c budget then over else enter hs (c + 1))) (sym b.1) refl

  -- A history that follows fails if nothing is left after it and the goal doesn't hold.
  fails_left : (h : History) (p : Policy) → is_full (routine sheet) h ≡ is_done p → fails sheet h ≡ (is_done p && not (holds_after sheet h sheet.goal))
  unfolding fails
  fails_left h p e = ap (λ (b : Bool). b && not (holds_after sheet h sheet.goal)) e

  module _ (heads nodes sets : List ℕ) (bytes : List ℕ) (read : reading bytes ≡ gives sheet) (tabled : Tabled sheet heads nodes sets) where
    -- The search from a place reached by a history counts through the histories from there on, the place's own being counted.
    abbrev Searches : (left : ℕ) → Type 0
    Searches left = (h : History) (at : ℕ) (set : States) → Reached sheet heads nodes sets h at set → length h + left ≡ 64 → (c : ℕ)
        → past h (searched heads nodes sets budget left at set c) ≡ enter (histories_from sheet (left_after (routine sheet) (replies h)) h) c

    module _ (h : History) (at : ℕ) (set : States) (reached : Reached sheet heads nodes sets h at set) where
      -- At the end.
      ends : AtEnd sheet heads nodes sets h at set → (left c : ℕ)
          → past h (searched heads nodes sets budget left at set c) ≡ enter (histories_from sheet (left_after (routine sheet) (replies h)) h) c
      unfolding histories_from enter scan past is_done
      ends x left c =
          let f = fails_left h (left_after (routine sheet) (replies h)) (full_left (routine sheet) h reached.follows)
          ∙ ap (λ (p : Policy). is_done p && not (holds_after sheet h sheet.goal)) x.nothing in
          go (holds_after sheet h sheet.goal) x.settles (fails sheet h) f ∙ sym (ap (λ (p : Policy). enter (histories_from sheet p h) c) x.nothing)
        where
          go : (b : Bool) → settled nodes sets set at ≡ Place.End b → (f : Bool) → f ≡ not b → past h (searched heads nodes sets budget left at set c) ≡ (if f then failed c h else passed c)
          go true e f k = ap (past h) (searched_passed heads nodes sets budget left at set c e) ∙ sym (ap (λ (d : Bool). if d then failed c h else passed c) k)
          go false e f k =
              ap (past h) (searched_failed heads nodes sets budget left at set c e) ∙ ap (failed c) (append-nil h) ∙ sym (ap (λ (d : Bool). if d then failed c h else passed c) k)

      -- At an action, of which each reply is searched.
      module _ (x : AtAction sheet heads nodes sets h at set) (left : ℕ) (room : length h + suc left ≡ 64) (deeper : Searches left) where
        abbrev a : ℕ
        a = x.action

        abbrev visits : (r c : ℕ) → Found
        visits = visit heads nodes sets budget (searched heads nodes sets budget left (x.place + 1)) set a

        abbrev behind_reply : ℕ → List History
        behind_reply r = histories_from sheet (x.after r) (extended h a r)

        abbrev occurring : ℕ → Bool
        occurring r = occurs sheet (extended h a r)

        next_some : (r : ℕ) → nonempty (members (stepped heads sets set a r)) ≡ occurring r
        next_some r = sym (reached_occurs sheet heads nodes sets bytes read tabled (extended h a r) (x.place + 1) (stepped heads sets set a r) (x.onward r))

        one_reply : (r c : ℕ) → occurring r ≡ true → past h (visits r c) ≡ scan (behind_reply r) c
        one_reply r c o =
            let next = stepped heads sets set a r in
            let found = searched heads nodes sets budget left (x.place + 1) next (c + 1) in
            let onward = deeper (extended h a r) (x.place + 1) next (x.onward r) (omega (arith, length-append h (entry a r ∷ []))) (c + 1) in
            let same : past h (behind (entry a r) found) ≡ enter (behind_reply r) (c + 1) =
            past_behind h (entry a r) found ∙ onward ∙ ap (λ (p : Policy). enter (histories_from sheet p (extended h a r)) (c + 1)) (x.next_left r) in
            ap (past h) (visit_by heads nodes sets budget (searched heads nodes sets budget left (x.place + 1)) set a r c true (next_some r ∙ o))
            ∙ go (eqb c budget) (behind (entry a r) found) (enter (behind_reply r) (c + 1)) same ∙ sym (scan_begins (x.after r) (extended h a r) c)
          where
            go : (b : Bool) (y z : Found) → past h y ≡ z → past h (if b then over else y) ≡ (if b then over else z)
            go true y z e = past_over h
            go false y z e = e

        no_reply : (r c : ℕ) → occurring r ≡ false → visits r c ≡ passed c
        no_reply r c o = visit_by heads nodes sets budget (searched heads nodes sets budget left (x.place + 1)) set a r c false (next_some r ∙ o)

        all_replies : (rs : List ℕ) (c : ℕ) → past h (each_reply visits rs c) ≡ scan (flat_map behind_reply (keep occurring rs)) c
        unfolding each_reply past flat_map keep scan
        all_replies [] c = refl
        all_replies (r ∷ rs) c = go (occurring r) refl (λ d. all_replies rs d)
          where
            go : (o : Bool) → occurring r ≡ o → ((d : ℕ) → past h (each_reply visits rs d) ≡ scan (flat_map behind_reply (keep occurring rs)) d)
                → past h (and_then (visits r c) (each_reply visits rs)) ≡ scan (flat_map behind_reply (if o then r ∷ keep occurring rs else keep occurring rs)) c
            go true o on =
                past_then h (visits r c) (each_reply visits rs)
                ∙ ap (λ (y : Found). and_then y (λ d. past h (each_reply visits rs d))) (one_reply r c o)
                ∙ then_same (scan (behind_reply r) c) (λ d. past h (each_reply visits rs d)) (scan (flat_map behind_reply (keep occurring rs))) on
                ∙ sym (scan_append (behind_reply r) (flat_map behind_reply (keep occurring rs)) c)
            go false o on = ap (λ (y : Found). past h (and_then y (each_reply visits rs))) (no_reply r c o) ∙ on c

        action_fails : fails sheet h ≡ false
        unfolding is_done
        action_fails =
            fails_left h (left_after (routine sheet) (replies h)) (full_left (routine sheet) h reached.follows) ∙ ap (λ (p : Policy). is_done p && not (holds_after sheet h sheet.goal)) x.next

        enter_action : (c : ℕ)
            → enter (histories_from sheet (left_after (routine sheet) (replies h)) h) c ≡ scan (flat_map behind_reply (keep occurring (below (reply_count (action_of sheet a))))) c
        unfolding histories_from enter
        enter_action c =
            ap (λ (p : Policy). enter (histories_from sheet p h) c) x.next
            ∙ ap (λ (b : Bool). if b then failed c h else scan (flat_map behind_reply (keep occurring (below (reply_count (action_of sheet a))))) c) action_fails

        acts : (c : ℕ) → past h (searched heads nodes sets budget (suc left) at set c) ≡ enter (histories_from sheet (left_after (routine sheet) (replies h)) h) c
        acts c =
            let m = reply_count (action_of sheet a) in
            let count : m ≡ (head_at heads a).count = sym (ap (λ (y : Head). y.count) (tabled.head_is a x.known_action)) in
            ap (past h) (searched_act heads nodes sets budget (suc left) at set c x.place a x.settles left m refl count
            ∙ replies_all heads nodes sets budget (searched heads nodes sets budget left (x.place + 1)) set a m c)
            ∙ all_replies (below m) c ∙ sym (enter_action c)

    searches : (left : ℕ) → Searches left
    searches zero h at set reached room c = ⊎_elim deep (λ x. ends h at set reached x zero c) (reached_place sheet heads nodes sets bytes read tabled h at set reached)
      where
        deep : AtAction sheet heads nodes sets h at set → past h (searched heads nodes sets budget zero at set c) ≡ enter (histories_from sheet (left_after (routine sheet) (replies h)) h) c
        deep x =
            let l = reached_few sheet heads nodes sets bytes read tabled (extended h x.action 0) (x.place + 1) (stepped heads sets set x.action 0) (x.onward 0) in
            absurd (omega (arith, l, room, length-append h (entry x.action 0 ∷ [])))
    searches (suc left) h at set reached room c =
        ⊎_elim (λ x. acts h at set reached x left room (searches left) c) (λ x. ends h at set reached x (suc left) c) (reached_place sheet heads nodes sets bytes read tabled h at set reached)

    -- What the search finds from the start.
    pub search_found : searched heads nodes sets budget most_acts 0 (sheet_start sheet) 0 ≡ (if ltb budget (history_count sheet) then over else conclusion (history_count sheet) (failures sheet))
    unfolding histories left_after
    search_found =
        sym (past_none (searched heads nodes sets budget most_acts 0 (sheet_start sheet) 0)) ∙ searches most_acts [] 0 (sheet_start sheet) (start_reached sheet heads nodes sets bytes read tabled) refl 0 ∙ enter_is
