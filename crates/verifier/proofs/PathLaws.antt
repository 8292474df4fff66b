-- The search one reply after the other, and the path that it leaves. Assumes nothing.
use Rattle.std.proofs.Common.{◌≡◌, ℕ, zero, suc, ◌+◌, ◌-◌, ◌<◌, ◌≤◌, Bool, true, false, not, eqb, List, [], ◌∷◌, ◌++◌, map, length, take, set, sym, refl, ap, ◌∙◌, subst, append-nil, add-one, arith, length-set, length-take-le, take-take, take-suc-set, take_at, eq-eqb, ne_eqb}
use lib.Seq.{append_snoc}
use borrow.Author.Tests.{eqb-false}
use Rattle.lists.specs.Lists.{up_from, below, nonempty}
use Rattle.std.specs.Prelude.{if◌then◌else◌}
use Rattle.states.specs.declared.States.{States}
use Rattle.states.specs.Sets.{members}
use Rattle.semantics.specs.Runs.{Entry, entry, History}
use Rattle.routine.specs.Memory.{node_most, head_at}
use Rattle.progression.specs.declared.place.Place.{Place}
use Rattle.progression.specs.Machine.{settled, stepped, Inside}
use Rattle.verifier.specs.declared.search.Searched.{Searched}
use Rattle.verifier.specs.Search.{Found, passed, failed, over, behind, and_then, each_reply, at_place, visit, answered, searched, path_byte, path_bytes, searched_of, SearchedBy}

-- What is found stays within the budget.
unfoldable pub Within : ℕ → Found → Type 0
Within budget (passed n) = n ≤ budget
Within budget (failed n rest) = n ≤ budget
Within budget over = Unit {0}

module _ (budget : ℕ) where
  behind_within : (e : Entry) (x : Found) → Within budget x → Within budget (behind e x)
  unfolding Within behind
  behind_within e (passed n) w = w
  behind_within e (failed n rest) w = w
  behind_within e over w = w

  each_within : (f : ℕ → ℕ → Found) → ((r n : ℕ) → n ≤ budget → Within budget (f r n)) → (rs : List ℕ) (c : ℕ) → c ≤ budget → Within budget (each_reply f rs c)
  unfolding Within each_reply and_then
  each_within f h [] c k = k
  each_within f h (r ∷ rs) c k = go (f r c) (h r c k) (λ n l. each_within f h rs n l)
    where
      go : (x : Found) → Within budget x → ((n : ℕ) → n ≤ budget → Within budget (each_reply f rs n)) → Within budget (and_then x (each_reply f rs))
      go (passed n) w later = later n w
      go (failed n rest) w later = w
      go over w later = w

-- An action where the program settles is at a node of the memory.
pub node_inside : (p : Place) (node action : ℕ) → p ≡ Place.Act node action → Inside p → node < node_most
unfolding Inside
node_inside p node action e i = let j : Inside (Place.Act node action) = subst Inside e i in j.0

module _ (heads nodes sets : List ℕ) (budget : ℕ) where
  -- One reply, by whether some state is possible after it.
  pub visit_by : (onward : States → ℕ → Found) (set : States) (action r c : ℕ) (some : Bool) → nonempty (members (stepped heads sets set action r)) ≡ some
      → visit heads nodes sets budget onward set action r c
      ≡ (if some then (if eqb c budget then over else behind (entry action r) (onward (stepped heads sets set action r) (c + 1))) else passed c)
  unfolding visit
  visit_by onward set action r c some e =
      ap (λ (b : Bool). if b then (if eqb c budget then over else behind (entry action r) (onward (stepped heads sets set action r) (c + 1))) else passed c) e

  -- The replies of an action from r on, m being their number, where `onward` searches behind each.
  unfoldable pub replies_from : (onward : States → ℕ → Found) → States → (action m r c : ℕ) → Found
  replies_from onward set action m r c = each_reply (visit heads nodes sets budget onward set action) (up_from r (m - r)) c

  pub replies_all : (onward : States → ℕ → Found) (set : States) (action m c : ℕ)
      → replies_from onward set action m 0 c ≡ each_reply (visit heads nodes sets budget onward set action) (below m) c
  unfolding replies_from
  replies_all onward set action m c =
      let e : m - 0 ≡ m = omega arith in
      ap (λ (k : ℕ). each_reply (visit heads nodes sets budget onward set action) (up_from 0 k) c) e

  module _ (onward : States → ℕ → Found) (set : States) (action m r c : ℕ) where
    pub replies_end : m ≤ r → replies_from onward set action m r c ≡ passed c
    unfolding replies_from up_from each_reply
    replies_end h = let e : m - r ≡ 0 = omega arith in rw e

    reply_one : r < m → replies_from onward set action m r c ≡ and_then (visit heads nodes sets budget onward set action r c) (replies_from onward set action m (r + 1))
    unfolding replies_from up_from each_reply
    reply_one h = let e : m - r ≡ suc (m - (r + 1)) = omega arith in let f : r + 1 ≡ suc r = omega arith in rw (e, f)

    -- After the reply the states of `next` are possible: none, or some.
    module _ (next : States) (none : Bool) (here : next ≡ stepped heads sets set action r) (told : none ≡ not (nonempty (members next))) (h : r < m) where
      some : (b : Bool) → not none ≡ b → nonempty (members next) ≡ b
      some b e = go (nonempty (members next)) told ∙ e
        where
          go : (d : Bool) → none ≡ not d → d ≡ not none
          go true k = ap not (sym k)
          go false k = ap not (sym k)

      -- The visit by whether some state is possible and whether the count is the budget.
      abbrev by : (s d : Bool) → Found
      by s d = if s then (if d then over else behind (entry action r) (onward next (c + 1))) else passed c

      visited : (s d : Bool) → not none ≡ s → eqb c budget ≡ d → visit heads nodes sets budget onward set action r c ≡ by s d
      visited s d e k =
          visit_by onward set action r c s (ap (λ (u : States). nonempty (members u)) (sym here) ∙ some s e)
          ∙ ap (λ (u : States). if s then (if eqb c budget then over else behind (entry action r) (onward u (c + 1))) else passed c) (sym here)
          ∙ ap (by s) k

      pub reply_skip : not none ≡ false → replies_from onward set action m r c ≡ replies_from onward set action m (r + 1) c
      unfolding and_then
      reply_skip e = reply_one h ∙ ap (λ (x : Found). and_then x (replies_from onward set action m (r + 1))) (visited false (eqb c budget) e refl)

      pub reply_over : not none ≡ true → c ≡ budget → replies_from onward set action m r c ≡ over
      unfolding and_then
      reply_over e k = reply_one h ∙ ap (λ (x : Found). and_then x (replies_from onward set action m (r + 1))) (visited true true e (eq-eqb c budget k))

      pub reply_deeper : not none ≡ true → (c ≡ budget → ⊥)
          → replies_from onward set action m r c ≡ and_then (behind (entry action r) (onward next (c + 1))) (replies_from onward set action m (r + 1))
      reply_deeper e k = reply_one h ∙ ap (λ (x : Found). and_then x (replies_from onward set action m (r + 1))) (visited true false e (ne_eqb c budget k))

  -- The search from a node on, by where the program settles.
  pub searched_passed : (left at : ℕ) (set : States) (c : ℕ) → settled nodes sets set at ≡ Place.End true → searched heads nodes sets budget left at set c ≡ passed c
  unfolding searched
  searched_passed zero at set c e = ap (λ (p : Place). at_place p (λ node action. over) c) e
  searched_passed (suc left) at set c e =
      ap (λ (p : Place). at_place p (λ node action. answered heads nodes sets budget (searched heads nodes sets budget left (node + 1)) set action c) c) e

  pub searched_failed : (left at : ℕ) (set : States) (c : ℕ) → settled nodes sets set at ≡ Place.End false → searched heads nodes sets budget left at set c ≡ failed c []
  unfolding searched
  searched_failed zero at set c e = ap (λ (p : Place). at_place p (λ node action. over) c) e
  searched_failed (suc left) at set c e =
      ap (λ (p : Place). at_place p (λ node action. answered heads nodes sets budget (searched heads nodes sets budget left (node + 1)) set action c) c) e

  module _ (left at : ℕ) (set : States) (c node action : ℕ) (place : settled nodes sets set at ≡ Place.Act node action) where
    pub searched_over : left ≡ 0 → searched heads nodes sets budget left at set c ≡ over
    unfolding searched
    searched_over z =
        ap (λ (k : ℕ). searched heads nodes sets budget k at set c) z ∙ ap (λ (p : Place). at_place p (λ n a. over) c) place

    pub searched_answered : (less : ℕ) → left ≡ suc less → searched heads nodes sets budget left at set c ≡ answered heads nodes sets budget (searched heads nodes sets budget less (node + 1)) set action c
    unfolding searched
    searched_answered less s =
        ap (λ (k : ℕ). searched heads nodes sets budget k at set c) s
        ∙ ap (λ (p : Place). at_place p (λ n a. answered heads nodes sets budget (searched heads nodes sets budget less (n + 1)) set a c) c) place

    pub searched_act : (less m : ℕ) → left ≡ suc less → m ≡ (head_at heads action).count
        → searched heads nodes sets budget left at set c ≡ replies_from (searched heads nodes sets budget less (node + 1)) set action m 0 c
    unfolding answered replies_from
    searched_act less m s e =
        let z : (head_at heads action).count ≡ m - 0 = omega (arith, e) in
        searched_answered less s ∙ ap (λ (k : ℕ). each_reply (visit heads nodes sets budget (searched heads nodes sets budget less (node + 1)) set action) (up_from 0 k) c) z

  visit_within : (onward : States → ℕ → Found) → ((s : States) (n : ℕ) → n ≤ budget → Within budget (onward s n))
      → (set : States) (action r c : ℕ) → c ≤ budget → Within budget (visit heads nodes sets budget onward set action r c)
  unfolding visit Within
  visit_within onward h set action r c k =
      go (nonempty (members next)) (eqb c budget) refl (λ l. behind_within budget (entry action r) (onward next (c + 1)) (h next (c + 1) l))
    where
      next : States
      next = stepped heads sets set action r

      go : (b d : Bool) → eqb c budget ≡ d → (c + 1 ≤ budget → Within budget (behind (entry action r) (onward next (c + 1))))
          → Within budget (if b then (if d then over else behind (entry action r) (onward next (c + 1))) else passed c)
      go false d p w = k
      go true true p w = tt
      go true false p w = let n : c ≡ budget → ⊥ = eqb-false c budget p in w (omega arith)

  searched_stays : (left at : ℕ) (set : States) (c : ℕ) → c ≤ budget → Within budget (searched heads nodes sets budget left at set c)
  unfolding searched at_place Within
  searched_stays zero at set c k = go (settled nodes sets set at)
    where
      go : (p : Place) → Within budget (at_place p (λ node action. over) c)
      go (Place.End true) = k
      go (Place.End false) = k
      go (Place.Act node action) = tt
  searched_stays (suc left) at set c k =
      go (settled nodes sets set at) (λ node s n. searched_stays left (node + 1) s n)
    where
      go : (p : Place) → ((node : ℕ) (s : States) (n : ℕ) → n ≤ budget → Within budget (searched heads nodes sets budget left (node + 1) s n))
          → Within budget (at_place p (λ node action. answered heads nodes sets budget (searched heads nodes sets budget left (node + 1)) set action c) c)
      go (Place.End true) h = k
      go (Place.End false) h = k
      go (Place.Act node action) h =
          each_within budget (visit heads nodes sets budget (searched heads nodes sets budget left (node + 1)) set action)
          (λ r n l. visit_within (searched heads nodes sets budget left (node + 1)) (h node) set action r n l) (below (head_at heads action).count) c k

  pub searched_within : (left at : ℕ) (set : States) (c n : ℕ) → c ≤ budget → searched heads nodes sets budget left at set c ≡ passed n → n ≤ budget
  unfolding Within
  searched_within left at set c n k e = subst (Within budget) e (searched_stays left at set c k)

-- Where the path stands as it stood.
module _ (depth : ℕ) (p₀ p : List ℕ) (found : Found) (long : length p ≡ length p₀) (same : take depth p ≡ take depth p₀) where
  front : take (depth + 0) p ≡ take depth p₀ ++ []
  front = let z : depth + 0 ≡ depth = omega arith in rw (z, append-nil (take depth p₀)) same

  pub here_passed : (n : ℕ) → found ≡ passed n → SearchedBy depth p₀ p (Searched.Passed n) found
  unfolding searched_of path_bytes
  here_passed n e = subst (SearchedBy depth p₀ p (Searched.Passed n)) (sym e) (record { answer = refl; size = long; path = front })

  pub here_failed : (n : ℕ) → found ≡ failed n [] → SearchedBy depth p₀ p (Searched.Failed n depth) found
  unfolding searched_of path_bytes
  here_failed n e =
      let z : depth ≡ depth + 0 = omega arith in
      subst (SearchedBy depth p₀ p (Searched.Failed n depth)) (sym e) (record { answer = ap (λ (k : ℕ). Searched.Failed n k) z; size = long; path = front })

  pub here_over : found ≡ over → SearchedBy depth p₀ p Searched.Over found
  unfolding searched_of path_bytes
  here_over e = subst (SearchedBy depth p₀ p Searched.Over) (sym e) (record { answer = refl; size = long; path = front })

-- After a call one entry down, which is shown by the byte b that was put on the path p: what the call leaves, q, is what the search here leaves.
module _ (depth action r b : ℕ) (p₀ p q : List ℕ) (byte : b ≡ path_byte action r) (h : depth < length p) (long : length p ≡ length p₀) (same : take depth p ≡ take depth p₀) where
  abbrev bytes : History → List ℕ
  bytes rest = map (λ (e : Entry). path_byte e.action e.reply) rest

  first : take (depth + 1) (set p depth b) ≡ take depth p₀ ++ (b ∷ [])
  first = ap (λ (n : ℕ). take n (set p depth b)) (add-one depth) ∙ take-suc-set p depth b h ∙ ap (λ (l : List ℕ). l ++ (b ∷ [])) same

  kept_front : take (depth + 1 + 0) q ≡ take (depth + 1) (set p depth b) ++ [] → take (depth + 0) q ≡ take depth p₀ ++ []
  kept_front s =
      let y : depth + 1 + 0 ≡ depth + 1 = omega arith in
      let z : depth + 0 ≡ depth = omega arith in
      let l : length (take depth p₀) ≡ depth = ap (λ (x : List ℕ). length x) (sym same) ∙ length-take-le depth p (omega arith) in
      let e : take (depth + 1) q ≡ take depth p₀ ++ (b ∷ []) = ap (λ (i : ℕ). take i q) (sym y) ∙ s ∙ append-nil _ ∙ first in
      rw (z, append-nil (take depth p₀)) (sym (take-take depth (depth + 1) q (omega arith)) ∙ ap (λ (x : List ℕ). take depth x) e ∙ take_at (take depth p₀) (b ∷ []) depth l)

  pub one_up : (o : Searched) (x : Found) → SearchedBy (depth + 1) (set p depth b) q o x → SearchedBy depth p₀ q o (behind (entry action r) x)
  unfolding searched_of path_bytes behind
  one_up o x w = go x w.answer w.path
    where
      size : length q ≡ length p₀
      size = w.size ∙ length-set p depth b ∙ long

      go : (y : Found) → o ≡ searched_of (depth + 1) y → take (depth + 1 + length (path_bytes y)) q ≡ take (depth + 1) (set p depth b) ++ path_bytes y → SearchedBy depth p₀ q o (behind (entry action r) y)
      go (passed n) e s = record { answer = e; size = size; path = kept_front s }
      go (failed n rest) e s =
          let l : depth + 1 + length rest ≡ depth + suc (length rest) = omega arith in
          let i : depth + suc (length (bytes rest)) ≡ depth + 1 + length (bytes rest) = omega arith in
          record {
            answer = e ∙ ap (λ (j : ℕ). Searched.Failed n j) l;
            size = size;
            path = ap (λ (j : ℕ). take j q) i ∙ s ∙ ap (λ (y : List ℕ). y ++ bytes rest) first ∙ append_snoc (take depth p₀) b (bytes rest) ∙ ap (λ (k : ℕ). take depth p₀ ++ (k ∷ bytes rest)) byte;
          }
      go over e s = record { answer = e; size = size; path = kept_front s }

  -- The search here goes on where that one passed, and ends as that one ended else.
  module _ (x found : Found) (onward : ℕ → Found) (e : found ≡ and_then (behind (entry action r) x) onward) where
    pub after_failed : (n l : ℕ) → SearchedBy (depth + 1) (set p depth b) q (Searched.Failed n l) x → SearchedBy depth p₀ q (Searched.Failed n l) found
    unfolding searched_of behind and_then
    after_failed n l w = go x w.answer e (one_up (Searched.Failed n l) x w)
      where
        go : (y : Found) → Searched.Failed n l ≡ searched_of (depth + 1) y → found ≡ and_then (behind (entry action r) y) onward
            → SearchedBy depth p₀ q (Searched.Failed n l) (behind (entry action r) y) → SearchedBy depth p₀ q (Searched.Failed n l) found
        go (passed m) k f u = let z : ◌≡◌ {A = ℕ} 0 1 = cc in absurd (omega arith)
        go (failed m rest) k f u = subst (SearchedBy depth p₀ q (Searched.Failed n l)) (sym f) u
        go over k f u = let z : ◌≡◌ {A = ℕ} 0 1 = cc in absurd (omega arith)

    pub after_over : SearchedBy (depth + 1) (set p depth b) q Searched.Over x → SearchedBy depth p₀ q Searched.Over found
    unfolding searched_of behind and_then
    after_over w = go x w.answer e (one_up Searched.Over x w)
      where
        go : (y : Found) → Searched.Over ≡ searched_of (depth + 1) y → found ≡ and_then (behind (entry action r) y) onward
            → SearchedBy depth p₀ q Searched.Over (behind (entry action r) y) → SearchedBy depth p₀ q Searched.Over found
        go (passed m) k f u = let z : ◌≡◌ {A = ℕ} 0 1 = cc in absurd (omega arith)
        go (failed m rest) k f u = let z : ◌≡◌ {A = ℕ} 0 1 = cc in absurd (omega arith)
        go over k f u = subst (SearchedBy depth p₀ q Searched.Over) (sym f) u

    pub after_passed : (n : ℕ) → SearchedBy (depth + 1) (set p depth b) q (Searched.Passed n) x
        → (x ≡ passed n) × (found ≡ onward n) × (length q ≡ length p₀) × (take depth q ≡ take depth p₀)
    unfolding searched_of behind and_then path_bytes
    after_passed n w = go x w.answer e (one_up (Searched.Passed n) x w)
      where
        go : (y : Found) → Searched.Passed n ≡ searched_of (depth + 1) y → found ≡ and_then (behind (entry action r) y) onward
            → SearchedBy depth p₀ q (Searched.Passed n) (behind (entry action r) y)
            → (y ≡ passed n) × (found ≡ onward n) × (length q ≡ length p₀) × (take depth q ≡ take depth p₀)
        go (passed m) k f u =
            let same-n : m ≡ n = cc in
            let i : depth ≡ depth + 0 = omega arith in
            (ap passed same-n, f ∙ ap onward same-n, u.size, ap (λ (j : ℕ). take j q) i ∙ u.path ∙ append-nil (take depth p₀))
        go (failed m rest) k f u = let z : ◌≡◌ {A = ℕ} 0 1 = cc in absurd (omega arith)
        go over k f u = let z : ◌≡◌ {A = ℕ} 0 1 = cc in absurd (omega arith)
