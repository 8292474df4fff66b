-- What passes from one count on passes from every count on, with as many histories, until the budget is exceeded, and with more room for actions: so what is remembered of a place serves every
-- later visit that has as much room or more. Assumes nothing.
use Rattle.std.proofs.Common.{◌≡◌, ℕ, zero, suc, ◌+◌, ◌-◌, ◌*◌, ◌<◌, ◌≤◌, Bool, true, false, ◌&&◌, eqb, leb, ltb, List, [], ◌∷◌, length, get_or, set, sym, refl, ap, ◌∙◌, subst, arith, ltb-false, ltb-true, le-ltb, lt-ltb, eqb-true, leb-true}
use native.Mathlib.Decide.{ℕ_discrete}
use lib.ListN.{length-replicate, get_or-replicate}
use borrow.Author.Tests.{eqb-false}
use Rattle.lists.specs.Lists.{below, nonempty, write}
use Rattle.std.specs.Prelude.{if◌then◌else◌, Some, None}
use Rattle.lists.proofs.ListLaws.{both_true}
use Rattle.states.specs.declared.States.{States}
use Rattle.states.specs.Sets.{words, members, words_at, same_states}
use Rattle.semantics.specs.Runs.{Entry, entry}
use Rattle.routine.specs.Memory.{head_at}
use Rattle.routine.proofs.WriteLaws.{write_length, write_elsewhere, write_back, written_on, four_stores}
use Rattle.progression.specs.declared.place.Place.{Place}
use Rattle.progression.specs.Machine.{settled, stepped}
use Rattle.verifier.specs.declared.memo.Slot.{Slot}
use Rattle.verifier.specs.declared.search.Searched.{Searched}
use Rattle.verifier.specs.Search.{Found, passed, failed, over, behind, and_then, each_reply, at_place, visit, answered, searched, searched_of, SearchedBy}
use Rattle.verifier.specs.Answers.{slot_most, slot_size, empty_memo}
use Rattle.verifier.specs.Memo.{slot_at, slot_words, serves, recalled, reaching, SlotSound, Sound}
use Rattle.verifier.proofs.PathLaws.{visit_by, replies_from, replies_all, searched_passed, searched_answered, here_passed, here_over}

module _ (budget : ℕ) where
  reaching_in : (n : ℕ) → n ≤ budget → reaching budget n ≡ passed n
  unfolding reaching
  reaching_in n l = rw (le-ltb budget n l)

  reaching_over : (n : ℕ) → budget < n → reaching budget n ≡ over
  unfolding reaching
  reaching_over n l = rw (lt-ltb budget n l)

  reaching_behind : (e : Entry) (n : ℕ) → behind e (reaching budget n) ≡ reaching budget n
  unfolding reaching behind
  reaching_behind e n = go (ltb budget n)
    where
      go : (b : Bool) → behind e (if b then over else passed n) ≡ (if b then over else passed n)
      go true = refl
      go false = refl

  -- To any count as many histories are added as lead from c to n.
  abbrev Adds : (g : ℕ → Found) (c n : ℕ) → Type 0
  Adds g c n = (v : ℕ) × (n ≡ c + v) × ((d : ℕ) → d ≤ budget → g d ≡ reaching budget (d + v))

  -- Where the one passes, the other adds as many histories to any count.
  abbrev Carries : (f g : ℕ → Found) → Type 0
  Carries f g = (c n : ℕ) → f c ≡ passed n → Adds g c n

  passed_carries : Carries (λ c. passed c) (λ c. passed c)
  passed_carries c n e =
      let same : c ≡ n = cc in
      (0, omega (arith, same), λ d l. let z : d + 0 ≡ d = omega arith in sym (reaching_in (d + 0) (omega (arith, l)) ∙ ap passed z))

  -- One part behind another.
  then_carries : (f g f' g' : ℕ → Found) → Carries f f' → Carries g g' → Carries (λ c. and_then (f c) g) (λ c. and_then (f' c) g')
  unfolding and_then
  then_carries f g f' g' p q c n e = go (f c) refl e
    where
      after : (v w d : ℕ) → d ≤ budget → ((k : ℕ) → k ≤ budget → g' k ≡ reaching budget (k + w)) → (b : Bool) → ltb budget (d + v) ≡ b → and_then (reaching budget (d + v)) g' ≡ reaching budget (d + (v + w))
      after v w d l k true t = let m = ltb-true budget (d + v) t in ap (λ (x : Found). and_then x g') (reaching_over (d + v) m) ∙ sym (reaching_over (d + (v + w)) (omega (arith, m)))
      after v w d l k false t =
          let m = ltb-false budget (d + v) t in
          let z : d + v + w ≡ d + (v + w) = omega arith in
          ap (λ (x : Found). and_then x g') (reaching_in (d + v) m) ∙ k (d + v) m ∙ ap (reaching budget) z

      go : (x : Found) → f c ≡ x → and_then x g ≡ passed n → Adds (λ d. and_then (f' d) g') c n
      go (passed m) h k =
          let a = p c m h in
          let b = q m n k in (
            a.0 + b.0,
            omega (arith, a.1, b.1),
            λ d l. ap (λ (x : Found). and_then x g') (a.2 d l) ∙ after a.0 b.0 d l b.2 (ltb budget (d + a.0)) refl,
          )
      go (failed m rest) h k = let z : ◌≡◌ {A = ℕ} 0 1 = cc in absurd (omega arith)
      go over h k = let z : ◌≡◌ {A = ℕ} 0 1 = cc in absurd (omega arith)

  each_carries : (f g : (r c : ℕ) → Found) → ((r : ℕ) → Carries (f r) (g r)) → (rs : List ℕ) → Carries (each_reply f rs) (each_reply g rs)
  unfolding each_reply
  each_carries f g h [] = passed_carries
  each_carries f g h (r ∷ rs) = then_carries (f r) (each_reply f rs) (g r) (each_reply g rs) (h r) (each_carries f g h rs)

  -- One entry more, counted where the budget isn't reached.
  counted_carries : (e : Entry) (f g : ℕ → Found) → Carries f g → Carries (λ c. if eqb c budget then over else behind e (f (c + 1))) (λ c. if eqb c budget then over else behind e (g (c + 1)))
  unfolding behind
  counted_carries e f g p c n h = first (eqb c budget) h
    where
      onward : (v d : ℕ) → d ≤ budget → ((k : ℕ) → k ≤ budget → g k ≡ reaching budget (k + v)) → (b : Bool) → eqb d budget ≡ b → (if b then over else behind e (g (d + 1))) ≡ reaching budget (d + suc v)
      onward v d l k true t = sym (reaching_over (d + suc v) (let z = eqb-true d budget t in omega (arith, z)))
      onward v d l k false t =
          let z : d + 1 + v ≡ d + suc v = omega arith in
          ap (behind e) (k (d + 1) (let u = eqb-false d budget t in omega (arith, l, u)) ∙ ap (reaching budget) z) ∙ reaching_behind e (d + suc v)

      second : (x : Found) → f (c + 1) ≡ x → behind e x ≡ passed n → Adds (λ d. if eqb d budget then over else behind e (g (d + 1))) c n
      second (passed m) u k =
          let same : m ≡ n = cc in
          let a = p (c + 1) m u in
          (suc a.0, omega (arith, a.1, same), λ d l. onward a.0 d l a.2 (eqb d budget) refl)
      second (failed m rest) u k = let z : ◌≡◌ {A = ℕ} 0 1 = cc in absurd (omega arith)
      second over u k = let z : ◌≡◌ {A = ℕ} 0 1 = cc in absurd (omega arith)

      first : (b : Bool) → (if b then over else behind e (f (c + 1))) ≡ passed n → Adds (λ d. if eqb d budget then over else behind e (g (d + 1))) c n
      first true k = let z : ◌≡◌ {A = ℕ} 0 1 = cc in absurd (omega arith)
      first false k = second (f (c + 1)) refl k

  module _ (heads nodes sets : List ℕ) where
    abbrev From : (left : ℕ) (at : ℕ) → States → ℕ → Found
    From left at set = searched heads nodes sets budget left at set

    abbrev Visits : (onward : States → ℕ → Found) → States → (action r c : ℕ) → Found
    Visits onward = visit heads nodes sets budget onward

    abbrev Answered : (onward : States → ℕ → Found) → States → (action c : ℕ) → Found
    Answered onward = answered heads nodes sets budget onward

    visit_carries : (f g : States → ℕ → Found) → ((s : States) → Carries (f s) (g s)) → (set : States) (action r : ℕ) → Carries (Visits f set action r) (Visits g set action r)
    visit_carries f g p set action r = go (nonempty (members (stepped heads sets set action r))) refl
      where
        go : (b : Bool) → nonempty (members (stepped heads sets set action r)) ≡ b → Carries (Visits f set action r) (Visits g set action r)
        go true some c n e =
            let w = counted_carries (entry action r) (f (stepped heads sets set action r)) (g (stepped heads sets set action r)) (p (stepped heads sets set action r)) c n (sym (visit_by heads nodes sets budget f set action r c true some) ∙ e) in
            (w.0, w.1, λ d l. visit_by heads nodes sets budget g set action r d true some ∙ w.2 d l)
        go false none c n e =
            let w = passed_carries c n (sym (visit_by heads nodes sets budget f set action r c false none) ∙ e) in
            (w.0, w.1, λ d l. visit_by heads nodes sets budget g set action r d false none ∙ w.2 d l)

    answered_carries : (f g : States → ℕ → Found) → ((s : States) → Carries (f s) (g s)) → (set : States) (action : ℕ) → Carries (Answered f set action) (Answered g set action)
    unfolding answered
    answered_carries f g p set action = each_carries (Visits f set action) (Visits g set action) (visit_carries f g p set action) (below (head_at heads action).count)

    -- The search itself, with room for as many actions or more.
    search_carries : (left other : ℕ) → left ≤ other → (at : ℕ) (set : States) → Carries (From left at set) (From other at set)
    unfolding searched at_place
    search_carries zero other l at set c n e = go (settled nodes sets set at) refl e
      where
        go : (p : Place) → settled nodes sets set at ≡ p → at_place p (λ node action. over) c ≡ passed n → Adds (From other at set) c n
        go (Place.End true) t k = let w = passed_carries c n k in (w.0, w.1, λ d m. searched_passed heads nodes sets budget other at set d t ∙ w.2 d m)
        go (Place.End false) t k = let z : ◌≡◌ {A = ℕ} 0 1 = cc in absurd (omega arith)
        go (Place.Act node action) t k = let z : ◌≡◌ {A = ℕ} 0 1 = cc in absurd (omega arith)
    search_carries (suc left) zero l at set c n e = absurd (omega (arith, l))
    search_carries (suc left) (suc other) l at set c n e = go (settled nodes sets set at) refl (search_carries left other (omega (arith, l))) e
      where
        acts : (left : ℕ) → (node action c : ℕ) → Found
        acts left node action c = Answered (From left (node + 1)) set action c

        go : (p : Place) → settled nodes sets set at ≡ p → ((i : ℕ) (s : States) → Carries (From left i s) (From other i s)) → at_place p (λ node action. acts left node action c) c ≡ passed n
            → Adds (λ d. at_place (settled nodes sets set at) (λ node action. acts other node action d) d) c n
        go (Place.End true) t deeper k = let w = passed_carries c n k in (w.0, w.1, λ d m. ap (λ (p : Place). at_place p (λ node action. acts other node action d) d) t ∙ w.2 d m)
        go (Place.End false) t deeper k = let z : ◌≡◌ {A = ℕ} 0 1 = cc in absurd (omega arith)
        go (Place.Act node action) t deeper k =
            let w = answered_carries (From left (node + 1)) (From other (node + 1)) (deeper (node + 1)) set action c n k in
            (w.0, w.1, λ d m. ap (λ (p : Place). at_place p (λ node action. acts other node action d) d) t ∙ w.2 d m)

    -- All replies: where they pass, one after the other, the number of their histories is what a slot may say.
    replies_carry : (left other : ℕ) → left ≤ other → (at : ℕ) (set : States) (action m c n : ℕ) → m ≡ (head_at heads action).count → replies_from heads nodes sets budget (From left at) set action m 0 c ≡ passed n
        → Adds (Answered (From other at) set action) c n
    unfolding answered
    replies_carry left other l at set action m c n e p =
        answered_carries (From left at) (From other at) (search_carries left other l at) set action c n
        (ap (λ (k : ℕ). each_reply (Visits (From left at) set action) (below k) c) (sym e) ∙ sym (replies_all heads nodes sets budget (From left at) set action m c) ∙ p)

-- Four stores and the words of the set behind them are the writing of a slot.
pub slot_stored : (xs zs : List ℕ) (i : ℕ) (k : Slot) → zs ≡ write (set (set (set (set xs i k.onward) (i + 1) k.action) (i + 2) k.depth) (i + 3) k.behind) (i + 4) (words k.set)
    → zs ≡ write xs i (slot_words k)
unfolding slot_words
slot_stored xs zs i k e =
    written_on xs _ zs i (i + 4) (k.onward ∷ k.action ∷ k.depth ∷ k.behind ∷ []) (words k.set) (four_stores xs i k.onward k.action k.depth k.behind) e refl

-- Two slots are the same if their words are.
slot_by : (a b : Slot) → ((i : ℕ) → i < slot_size → get_or (slot_words a) i 0 ≡ get_or (slot_words b) i 0) → a ≡ b
unfolding slot_words words
slot_by a b e = λ i. record {
  onward = e 0 (omega arith) i;
  action = e 1 (omega arith) i;
  depth = e 2 (omega arith) i;
  behind = e 3 (omega arith) i;
  set = record { w0 = e 4 (omega arith) i; w1 = e 5 (omega arith) i; w2 = e 6 (omega arith) i; w3 = e 7 (omega arith) i };
}

-- Slot j, where its set is read by itself.
pub slot_with : (memory : List ℕ) (j : ℕ) (set : States) → set ≡ words_at memory (slot_size * j + 4)
    → record {
      onward = get_or memory (slot_size * j) 0;
      action = get_or memory (slot_size * j + 1) 0;
      depth = get_or memory (slot_size * j + 2) 0;
      behind = get_or memory (slot_size * j + 3) 0;
      set = set;
    } ≡ slot_at memory j
unfolding slot_at
slot_with memory j set e = λ i. record {
  onward = get_or memory (slot_size * j) 0;
  action = get_or memory (slot_size * j + 1) 0;
  depth = get_or memory (slot_size * j + 2) 0;
  behind = get_or memory (slot_size * j + 3) 0;
  set = e i;
}

-- The words of slot j are those of the memory.
slot_word : (memory : List ℕ) (j i : ℕ) → i < slot_size → get_or (slot_words (slot_at memory j)) i 0 ≡ get_or memory (slot_size * j + i) 0
unfolding slot_at slot_words words
slot_word memory j zero l = let z : slot_size * j ≡ slot_size * j + 0 = omega arith in ap (λ (k : ℕ). get_or memory k 0) z
slot_word memory j (suc zero) l = refl
slot_word memory j (suc (suc zero)) l = refl
slot_word memory j (suc (suc (suc zero))) l = refl
slot_word memory j (suc (suc (suc (suc zero)))) l = refl
slot_word memory j (suc (suc (suc (suc (suc zero))))) l = let z : slot_size * j + 4 + 1 ≡ slot_size * j + 5 = omega arith in ap (λ (k : ℕ). get_or memory k 0) z
slot_word memory j (suc (suc (suc (suc (suc (suc zero)))))) l = let z : slot_size * j + 4 + 2 ≡ slot_size * j + 6 = omega arith in ap (λ (k : ℕ). get_or memory k 0) z
slot_word memory j (suc (suc (suc (suc (suc (suc (suc zero))))))) l = let z : slot_size * j + 4 + 3 ≡ slot_size * j + 7 = omega arith in ap (λ (k : ℕ). get_or memory k 0) z
slot_word memory j (suc (suc (suc (suc (suc (suc (suc (suc i)))))))) l = absurd (omega arith)

words_eight : (k : Slot) → length (slot_words k) ≡ slot_size
unfolding slot_words words
words_eight k = refl

module _ (memory : List ℕ) (j : ℕ) (k : Slot) where
  abbrev after : List ℕ
  after = write memory (slot_size * j) (slot_words k)

  -- A slot that was written is read back; the others stay.
  slot_written : slot_size * j + slot_size ≤ length memory → slot_at after j ≡ k
  slot_written l =
      slot_by (slot_at after j) k
      (λ i m. slot_word after j i m ∙ write_back memory (slot_size * j) (slot_words k) (omega (arith, l, words_eight k)) i (omega (arith, m, words_eight k)))

  slot_other : (i : ℕ) → (i ≡ j → ⊥) → slot_at after i ≡ slot_at memory i
  slot_other i ne =
      slot_by (slot_at after i) (slot_at memory i)
      (λ n l. slot_word after i n l
      ∙ write_elsewhere memory (slot_size * j) (slot_words k) (slot_size * i + n) (λ m h e. omega (arith, l, h, e, words_eight k, ne))
      ∙ sym (slot_word memory i n l))

-- What is recalled.
module _ (k : Slot) (set : States) (onward action depth : ℕ) where
  -- The slot's test, as the code makes it.
  module _ (same : Bool) (e : same ≡ same_states k.set set) where
    abbrev tested : Bool → Bool
    tested b = ((eqb k.onward onward && eqb k.action action) && b) && leb depth k.depth

    serving : (b : Bool) → tested same ≡ b → serves k set onward action depth ≡ b
    unfolding serves
    serving b t = ap tested (sym e) ∙ t

    pub recalled_passed : tested same ≡ true → Some k.behind ≡ recalled k set onward action depth
    unfolding recalled
    recalled_passed t = rw (serving true t)

    pub recalled_nothing : tested same ≡ false → None ≡ recalled k set onward action depth
    unfolding recalled
    recalled_nothing t = rw (serving false t)

  -- A slot that serves is the place's own, but for its depth.
  record Told (v : ℕ) : Type 0 where
    same_set : k.set ≡ set
    same_node : k.onward ≡ onward
    same_action : k.action ≡ action
    room : depth ≤ k.depth
    number : k.behind ≡ v

  serves_told : serves k set onward action depth ≡ true → Told k.behind
  unfolding serves
  serves_told e =
      let a = both_true _ _ e in
      let b = both_true _ _ a.0 in
      let p = both_true _ _ b.0 in
      let w₃ = both_true _ _ b.1 in
      let w₂ = both_true _ _ w₃.0 in
      let w₁ = both_true _ _ w₂.0 in
      let e₀ : k.set.w0 ≡ set.w0 = eqb-true _ _ w₁.0 in
      let e₁ : k.set.w1 ≡ set.w1 = eqb-true _ _ w₁.1 in
      let e₂ : k.set.w2 ≡ set.w2 = eqb-true _ _ w₂.1 in
      let e₃ : k.set.w3 ≡ set.w3 = eqb-true _ _ w₃.1 in
      record {
        same_set = λ i. record { w0 = e₀ i; w1 = e₁ i; w2 = e₂ i; w3 = e₃ i };
        same_node = eqb-true _ _ p.0;
        same_action = eqb-true _ _ p.1;
        room = leb-true _ _ a.1;
        number = refl;
      }

  recalled_told : (v : ℕ) → recalled k set onward action depth ≡ Some v → Told v
  unfolding recalled
  recalled_told v = go (serves k set onward action depth) refl
    where
      go : (b : Bool) → serves k set onward action depth ≡ b → (if b then Some k.behind else None) ≡ Some v → Told v
      go true s e = let same : k.behind ≡ v = cc in subst Told same (serves_told s)
      go false s e = let z : ◌≡◌ {A = ℕ} 0 1 = cc in absurd (omega arith)

-- So many histories more: the code's answer, and what it means for the search.
module _ (budget n : ℕ) where
  pub passed_reaching : n ≤ budget → Searched.Passed n ≡ searched_of 0 (reaching budget n)
  unfolding searched_of
  passed_reaching l = sym (ap (searched_of 0) (reaching_in budget n l))

  pub over_reaching : budget < n → Searched.Over ≡ searched_of 0 (reaching budget n)
  unfolding searched_of
  over_reaching l = sym (ap (searched_of 0) (reaching_over budget n l))

  pub reaching_searched : (depth : ℕ) (path : List ℕ) (r : Searched) (found : Found) → found ≡ reaching budget n → r ≡ searched_of 0 (reaching budget n) → SearchedBy depth path path r found
  unfolding searched_of
  reaching_searched depth path r found f e = go (ltb budget n) refl
    where
      go : (b : Bool) → ltb budget n ≡ b → SearchedBy depth path path r found
      go true t =
          let o = reaching_over budget n (ltb-true budget n t) in
          subst (λ (x : Searched). SearchedBy depth path path x found) (sym (e ∙ ap (searched_of 0) o)) (here_over depth path path found refl refl (f ∙ o))
      go false t =
          let p = reaching_in budget n (ltb-false budget n t) in
          subst (λ (x : Searched). SearchedBy depth path path x found) (sym (e ∙ ap (searched_of 0) p)) (here_passed depth path path found refl refl n (f ∙ p))

module _ (heads nodes sets : List ℕ) (budget : ℕ) where
  -- A memory of zeros remembers nothing.
  pub empty_sound : Sound heads nodes sets budget empty_memo
  unfolding SlotSound slot_at
  empty_sound = record {
    size = length-replicate {A = ℕ} (slot_size * slot_most) 0;
    slots = λ j l p left d h m. let z : get_or empty_memo (slot_size * j) 0 ≡ 0 = get_or-replicate {A = ℕ} (slot_size * slot_most) (slot_size * j) 0 0 (omega arith) in absurd (omega (arith, p, z));
  }

  -- Where what a slot says is so, it may be written.
  pub written_sound : (memory more : List ℕ) (j : ℕ) (k : Slot) → Sound heads nodes sets budget memory → j < slot_most → SlotSound heads nodes sets budget k → more ≡ write memory (slot_size * j) (slot_words k)
      → Sound heads nodes sets budget more
  written_sound memory more j k sound l s e =
      subst (Sound heads nodes sets budget) (sym e)
      (record { size = write_length memory (slot_size * j) (slot_words k) ∙ sound.size; slots = λ i m. go i m (ℕ_discrete i j) })
    where
      go : (i : ℕ) → i < slot_most → Dec (i ≡ j) → SlotSound heads nodes sets budget (slot_at (write memory (slot_size * j) (slot_words k)) i)
      go i m (yes p) =
          subst (SlotSound heads nodes sets budget) (sym (ap (slot_at (write memory (slot_size * j) (slot_words k))) p ∙ slot_written memory j k (let n = sound.size in omega (arith, l, n)))) s
      go i m (no n) = subst (SlotSound heads nodes sets budget) (sym (slot_other memory j k i n)) (sound.slots i m)

  module _ (depth onward : ℕ) (set : States) (action : ℕ) (room : depth < 64) where
    -- All replies passed, from one count to another: so the slot that says how many histories that were is sound.
    pub passed_sound : (replies c n : ℕ) → replies ≡ (head_at heads action).count
        → replies_from heads nodes sets budget (searched heads nodes sets budget (64 - (depth + 1)) onward) set action replies 0 c ≡ passed n
        → (c ≤ n) × SlotSound heads nodes sets budget (record { onward = onward; action = action; depth = depth; behind = n - c; set = set })
    unfolding SlotSound
    passed_sound replies c n e p =
        let low = replies_carry budget heads nodes sets (64 - (depth + 1)) (64 - (depth + 1)) (omega arith) onward set action replies c n e p in (
          omega (arith, low.1),
          λ some left d h l.
              let w = replies_carry budget heads nodes sets (64 - (depth + 1)) left (omega (arith, h, room)) onward set action replies c n e p in
              let z : d + w.0 ≡ d + (n - c) = omega (arith, w.1) in
              w.2 d l ∙ ap (reaching budget) z,
        )

    -- What a sound slot tells of a place is so.
    told_answered : (k : Slot) (v c : ℕ) → SlotSound heads nodes sets budget k → Told k set onward action depth v → 0 < onward → c ≤ budget
        → answered heads nodes sets budget (searched heads nodes sets budget (64 - (depth + 1)) onward) set action c ≡ reaching budget (c + v)
    unfolding SlotSound
    told_answered k v c sound t some m =
        let left = 64 - (depth + 1) in
        let e = sound (let s = t.same_node in omega (arith, s, some)) left c (let r = t.room in omega (arith, r, room)) m in
        ap (λ (x : States). answered heads nodes sets budget (searched heads nodes sets budget left onward) x action c) (sym t.same_set)
        ∙ ap (λ (x : ℕ). answered heads nodes sets budget (searched heads nodes sets budget left x) k.set action c) (sym t.same_node)
        ∙ ap (λ (x : ℕ). answered heads nodes sets budget (searched heads nodes sets budget left k.onward) k.set x c) (sym t.same_action)
        ∙ e ∙ ap (λ (x : ℕ). reaching budget (c + x)) t.number

  -- The search at an action of which a slot tells.
  pub recalled_found : (depth at c node action : ℕ) (set : States) → depth < 64 → c ≤ budget → settled nodes sets set at ≡ Place.Act node action → (memory : List ℕ) (j v : ℕ)
      → Sound heads nodes sets budget memory → j < slot_most → recalled (slot_at memory j) set (node + 1) action depth ≡ Some v
      → searched heads nodes sets budget (64 - depth) at set c ≡ reaching budget (c + v)
  recalled_found depth at c node action set room m place memory j v sound l e =
      searched_answered heads nodes sets budget (64 - depth) at set c node action place (64 - (depth + 1)) (omega (arith, room))
      ∙ told_answered depth (node + 1) set action room (slot_at memory j) v c (sound.slots j l) (recalled_told (slot_at memory j) set (node + 1) action depth v e) (omega arith) m
