-- Which replies are accepted, and what the routine tells after them. Assumes nothing.
use Prim.Native.Nat.{ℕ, ◌≤◌}
use mathlib.Core.Path.{◌≡◌, refl, sym, ap, subst, ◌∙◌}
use mathlib.Core.Logic.{⊎_elim, ◌↔◌}
use mathlib.Core.List.{List, [], ◌∷◌, ◌++◌, map-append, append-nil, append_assoc, Memᴰ, head-eq_of_cons-eq, tail-eq_of_cons-eq}
use mathlib.Core.Bool.{Bool, true, false}
use native.Mathlib.Omega.{arith}
use lib.Dec.{ltb, eqb}
use lib.ListN.{length, length-map}
use borrow.Author.Tests.{lt-ltb, eqb-true, eq-eqb}
use Rattle.lists.specs.Lists.{exists, nonempty}
use Rattle.std.specs.Prelude.{if◌then◌else◌}
use Rattle.lists.proofs.ListLaws.{two_cases, same_test, not_both, both_true, and_both, keep_mem, mem_keep, exists_mem, mem_exists, mem_nonempty, nonempty_mem}
use Rattle.format.specs.Syntax.{reply_count, Sheet, action_of}
use Rattle.format.specs.Truth.{is_state, states}
use Rattle.format.specs.Format.{gives, refused}
use Rattle.format.proofs.StateLaws.{listed_state, state_listed}
use Rattle.semantics.specs.Runs.{Entry, entry, History, extended, replies, step, IsRun, last_state, Possible, Holds, next_states, holds_after, possible_states, occurs}
use Rattle.semantics.specs.Routine.{Policy, done, perform, routine, Follows, is_full, Following, Full, Failing}
use Rattle.semantics.specs.Verdict.{history_count, valid, Outcome, outcome}
use Rattle.semantics.specs.Replies.{left_after, history_of, to_do, at_end, told_by, told, still_possible, reported_to, reported, AcceptedBehind, AcceptedReplies, RepliesOfRun, are_of_run}
use Rattle.semantics.specs.Progression.{progress, possible}
use Rattle.semantics.proofs.RunLaws.{occurs_run, run_occurs, occurs_before, tested_holds, holds_tested, listed_possible, possible_listed}
use Rattle.semantics.proofs.ProgressionLaws.{possible_run, run_possible, possible_more, occurs_possible}
use Rattle.semantics.proofs.FollowLaws.{occurs_reply}
use Rattle.semantics.proofs.VerdictLaws.{valid_means, means_valid}

-- What a policy and the replies of a history that follows it give: that history.
pub follows_history : (p : Policy) (h : History) → Follows p h → history_of p (replies h) ≡ h
unfolding Follows history_of
follows_history p [] f = refl
follows_history done (e ∷ h) f = absurd f
follows_history (perform a after) (e ∷ h) f =
    let rest = follows_history (after e.reply) h f.1 in
    λ i. record { action = sym f.0 i; reply = e.reply } ∷ rest i

-- A history that follows is full exactly if nothing is left after its replies.
unfoldable pub is_done : Policy → Bool
is_done done = true
is_done (perform a after) = false

pub full_left : (p : Policy) (h : History) → Follows p h → is_full p h ≡ is_done (left_after p (replies h))
unfolding Follows is_full left_after is_done
full_left done [] f = refl
full_left (perform a after) [] f = refl
full_left done (e ∷ h) f = absurd f
full_left (perform a after) (e ∷ h) f = full_left (after e.reply) h f.1

-- The empty history follows every policy.
pub follows_none : (p : Policy) → Follows p []
unfolding Follows
follows_none done = tt
follows_none (perform a after) = tt

-- What is left after one reply more.
pub left_more : (p : Policy) (rs : List ℕ) (r a : ℕ) (after : ℕ → Policy) → left_after p rs ≡ perform a after → left_after p (rs ++ (r ∷ [])) ≡ after r
unfolding left_after
left_more p [] r a after e = ap (λ (q : Policy). left_after q (r ∷ [])) e
left_more done (s ∷ rs) r a after e = let z : ◌≡◌ {A = ℕ} 0 1 = cc in absurd (omega arith)
left_more (perform b on) (s ∷ rs) r a after e = left_more (on s) rs r a after e

-- What is left names the action of every longer history, and each of its replies makes one.
pub left_next : (p : Policy) (h : History) (e : Entry) (g : History) → Follows p (h ++ (e ∷ g)) → (after : ℕ → Policy) × (left_after p (replies h) ≡ perform e.action after)
unfolding Follows left_after
left_next done [] e g f = absurd f
left_next (perform a after) [] e g f = (after, ap (λ (b : ℕ). perform b after) (sym f.0))
left_next done (d ∷ h) e g f = absurd f
left_next (perform a after) (d ∷ h) e g f = left_next (after d.reply) h e g f.1

pub next_follows : (p : Policy) (h : History) (a : ℕ) (after : ℕ → Policy) (r : ℕ) → Follows p h → left_after p (replies h) ≡ perform a after → Follows p (extended h a r)
unfolding Follows left_after
next_follows done [] a after r f e = let z : ◌≡◌ {A = ℕ} 0 1 = cc in absurd (omega arith)
next_follows (perform b k) [] a after r f e = (cc, follows_none (k r))
next_follows done (d ∷ h) a after r f e = absurd f
next_follows (perform b k) (d ∷ h) a after r f e = (f.0, next_follows (k d.reply) h a after r f.1 e)

-- What is told after a history that follows the routine, by what is left.
pub told_left : (sheet : Sheet) (h : History) → Follows (routine sheet) h → (p : Policy) → left_after (routine sheet) (replies h) ≡ p → told sheet (replies h) ≡ told_by sheet p h
unfolding told
told_left sheet h f p l =
    ap (λ (g : History). told_by sheet (left_after (routine sheet) (replies h)) g) (follows_history (routine sheet) h f) ∙ ap (λ (q : Policy). told_by sheet q h) l

-- Where an action is left after some replies, they make a history that follows and has just these.
left_history : (p : Policy) (rs : List ℕ) (a : ℕ) (after : ℕ → Policy) → left_after p rs ≡ perform a after → Follows p (history_of p rs) × (replies (history_of p rs) ≡ rs)
unfolding left_after history_of Follows
left_history p [] a after e = (follows_none p, refl)
left_history done (r ∷ rs) a after e = let z : ◌≡◌ {A = ℕ} 0 1 = cc in absurd (omega arith)
left_history (perform b k) (r ∷ rs) a after e = let q = left_history (k r) rs a after e in ((refl, q.0), ap (λ (l : List ℕ). r ∷ l) q.1)

-- The history that replies make follows; where it is as long as they are, it has just these.
history_follows : (p : Policy) (rs : List ℕ) → Follows p (history_of p rs)
unfolding history_of Follows
history_follows p [] = follows_none p
history_follows done (r ∷ rs) = tt
history_follows (perform a after) (r ∷ rs) = (refl, history_follows (after r) rs)

history_replies : (p : Policy) (rs : List ℕ) → length (history_of p rs) ≡ length rs → replies (history_of p rs) ≡ rs
unfolding history_of
history_replies p [] e = refl
history_replies done (r ∷ rs) e = absurd (omega arith)
history_replies (perform a after) (r ∷ rs) e = ap (λ (l : List ℕ). r ∷ l) (history_replies (after r) rs (omega arith))

-- A history that follows has only such before it.
pub follows_before : (p : Policy) (h g : History) → Follows p (h ++ g) → Follows p h
unfolding Follows
follows_before p [] g f = follows_none p
follows_before done (e ∷ h) g f = absurd f
follows_before (perform a after) (e ∷ h) g f = (f.0, follows_before (after e.reply) h g f.1)

-- A history whose replies begin with some has a part with just these.
pub split_replies : (h : History) (rs ss : List ℕ) → replies h ≡ rs ++ ss → (g : History) × (k : History) × (h ≡ g ++ k) × (replies g ≡ rs) × (replies k ≡ ss)
split_replies h [] ss e = ([], h, refl, refl, e)
split_replies [] (r ∷ rs) ss e = let z : ◌≡◌ {A = ℕ} 0 1 = cc in absurd (omega arith)
split_replies (d ∷ h) (r ∷ rs) ss e =
    let q = split_replies h rs ss (tail-eq_of_cons-eq e) in
    let here : d.reply ≡ r = head-eq_of_cons-eq e in
    (d ∷ q.0, q.1, ap (λ (l : History). d ∷ l) q.2, (λ i. here i ∷ q.3 i), q.4)

module _ (sheet : Sheet) where
  -- A reply is true in some state still possible if the entry leads on from the end of some run.
  pub leads_still : (h : History) (e : Entry) (run : List ℕ) (t : ℕ) → IsRun sheet h run → is_state sheet t ≡ true → step sheet e (last_state run) t ≡ true → still_possible sheet h e ≡ true
  unfolding still_possible next_states Possible
  leads_still h e run t p i k =
      mem_exists (λ s. nonempty (next_states sheet e s)) (possible_states sheet h) (possible_listed sheet h (last_state run) (run, p, refl))
      (mem_nonempty (next_states sheet e (last_state run)) (mem_keep (step sheet e (last_state run)) (states sheet) (state_listed sheet t i) k))

  still_leads : (h : History) (e : Entry) → still_possible sheet h e ≡ true
      → (run : List ℕ) × (t : ℕ) × IsRun sheet h run × Memᴰ t (states sheet) × (step sheet e (last_state run) t ≡ true)
  unfolding still_possible next_states Possible
  still_leads h e k =
      let x = exists_mem (λ s. nonempty (next_states sheet e s)) (possible_states sheet h) k in
      let y = nonempty_mem (next_states sheet e x.0) x.2 in
      let z = keep_mem (step sheet e x.0) (states sheet) y.1 in
      let r = listed_possible sheet h x.1 in
      (r.0, y.0, r.1, z.0, ap (λ (s : ℕ). step sheet e s y.0) r.2 ∙ z.1)

  -- So it is exactly if some run has the history with it.
  pub still_occurs : (h : History) (a r : ℕ) → still_possible sheet h (entry a r) ≡ occurs sheet (extended h a r)
  unfolding progress
  still_occurs h a r =
      same_test (still_possible sheet h (entry a r)) (occurs sheet (extended h a r))
      (λ t.
      let x = still_leads h (entry a r) t in
      occurs_possible sheet (extended h a r) ∙ ap (nonempty {A = ℕ}) (possible_more sheet h (entry a r))
      ∙ mem_nonempty (progress sheet (possible sheet h) (entry a r))
      (mem_keep (λ t. exists (λ s. step sheet (entry a r) s t) (possible sheet h)) (states sheet) x.3
      (mem_exists (λ s. step sheet (entry a r) s x.1) (possible sheet h) (run_possible sheet h x.0 x.2) x.4)))
      (λ t.
      let x = nonempty_mem (progress sheet (possible sheet h) (entry a r)) (sym (ap (nonempty {A = ℕ}) (possible_more sheet h (entry a r))) ∙ sym (occurs_possible sheet (extended h a r)) ∙ t) in
      let y = keep_mem (λ t. exists (λ s. step sheet (entry a r) s t) (possible sheet h)) (states sheet) x.1 in
      let z = exists_mem (λ s. step sheet (entry a r) s x.0) (possible sheet h) y.1 in
      let w = possible_run sheet h z.1 in
      leads_still h (entry a r) w.0 x.0 w.1 (listed_state sheet y.0) (ap (λ (s : ℕ). step sheet (entry a r) s x.0) w.2 ∙ z.2))

  -- A report behind the replies of a history that follows: it is accepted exactly if an action is left and some run has the history with it and the reply.
  next_reported : (h : History) (a : ℕ) (after : ℕ → Policy) (r : ℕ) → Follows (routine sheet) h → left_after (routine sheet) (replies h) ≡ perform a after
      → occurs sheet (extended h a r) ≡ true → reported sheet (replies h) r ≡ gives (replies h ++ (r ∷ []))
  unfolding reported reported_to
  next_reported h a after r f e o =
      rw (follows_history (routine sheet) h f, e, lt-ltb r (reply_count (action_of sheet a)) (occurs_reply sheet h a r o), still_occurs h a r ∙ o)

  reported_next : (h : History) (r : ℕ) (rs : List ℕ) → Follows (routine sheet) h → reported sheet (replies h) r ≡ gives rs
      → (a : ℕ) × (after : ℕ → Policy) × (left_after (routine sheet) (replies h) ≡ perform a after) × (occurs sheet (extended h a r) ≡ true)
  unfolding reported reported_to
  reported_next h r rs f e = go (left_after (routine sheet) (replies h)) refl (rw (follows_history (routine sheet) h f) at e)
    where
      tests : (a : ℕ) (after : ℕ → Policy) (b c : Bool) → still_possible sheet h (entry a r) ≡ c
          → (if b then (if c then gives (replies h ++ (r ∷ [])) else refused 34) else refused 33) ≡ gives rs → occurs sheet (extended h a r) ≡ true
      tests a after true true p k = sym (still_occurs h a r) ∙ p
      tests a after true false p k = let z : ◌≡◌ {A = ℕ} 0 1 = cc in absurd (omega arith)
      tests a after false c p k = let z : ◌≡◌ {A = ℕ} 0 1 = cc in absurd (omega arith)

      go : (q : Policy) → left_after (routine sheet) (replies h) ≡ q → reported_to sheet q h (replies h) r ≡ gives rs
          → (a : ℕ) × (after : ℕ → Policy) × (left_after (routine sheet) (replies h) ≡ perform a after) × (occurs sheet (extended h a r) ≡ true)
      go done p k = let z : ◌≡◌ {A = ℕ} 0 1 = cc in absurd (omega arith)
      go (perform a after) p k = (a, after, p, tests a after (ltb r (reply_count (action_of sheet a))) (still_possible sheet h (entry a r)) refl k)

  -- A reply list with one more is accepted exactly if it is that of some run following the routine.
  pub accepted_run : (rs : List ℕ) (r : ℕ) → reported sheet rs r ≡ gives (rs ++ (r ∷ [])) → RepliesOfRun sheet (rs ++ (r ∷ []))
  unfolding reported reported_to RepliesOfRun Following
  accepted_run rs r e = go (left_after (routine sheet) rs) refl e
    where
      h : History
      h = history_of (routine sheet) rs

      go : (q : Policy) → left_after (routine sheet) rs ≡ q → reported_to sheet q h rs r ≡ gives (rs ++ (r ∷ [])) → RepliesOfRun sheet (rs ++ (r ∷ []))
      go done p k = let z : ◌≡◌ {A = ℕ} 0 1 = cc in absurd (omega arith)
      go (perform a after) p k =
          let l = left_history (routine sheet) rs a after p in
          let n = reported_next h r (rs ++ (r ∷ [])) l.0 (ap (λ (x : List ℕ). reported sheet x r) l.1 ∙ e) in
          let w = occurs_run sheet (extended h n.0 r) n.3 in
          (extended h n.0 r, w.0, (w.1, next_follows (routine sheet) h n.0 n.1 r l.0 n.2), map-append (λ (x : Entry). x.reply) h (entry n.0 r ∷ []) ∙ ap (λ (x : List ℕ). x ++ (r ∷ [])) l.1)

  pub run_accepted : (rs : List ℕ) (r : ℕ) → RepliesOfRun sheet (rs ++ (r ∷ [])) → reported sheet rs r ≡ gives (rs ++ (r ∷ []))
  unfolding RepliesOfRun Following
  run_accepted rs r q =
      let s = split_replies q.0 rs (r ∷ []) q.3 in
      go s.0 s.1 s.3 s.4 (subst (Follows (routine sheet)) s.2 q.2.1) (subst (λ (x : History). occurs sheet x ≡ true) s.2 (run_occurs sheet q.0 q.1 q.2.0))
    where
      go : (h k : History) → replies h ≡ rs → replies k ≡ r ∷ [] → Follows (routine sheet) (h ++ k) → occurs sheet (h ++ k) ≡ true → reported sheet rs r ≡ gives (rs ++ (r ∷ []))
      go h [] x y f o = let z : ◌≡◌ {A = ℕ} 0 1 = cc in absurd (omega arith)
      go h (d ∷ e ∷ k) x y f o = let z : ◌≡◌ {A = ℕ} 0 1 = cc in absurd (omega arith)
      go h (d ∷ []) x y f o =
          let same : d.reply ≡ r = head-eq_of_cons-eq y in
          let n = left_next (routine sheet) h d [] f in
          let o' : occurs sheet (extended h d.action r) ≡ true = subst (λ (i : ℕ). occurs sheet (extended h d.action i) ≡ true) same o in
          subst (λ (l : List ℕ). reported sheet l r ≡ gives (l ++ (r ∷ []))) x (next_reported h d.action n.0 r (follows_before (routine sheet) h (d ∷ []) f) n.1 o')

  -- So the replies accepted one after the other are those of some run following the routine.
  run_before : (rs ss : List ℕ) → RepliesOfRun sheet (rs ++ ss) → RepliesOfRun sheet rs
  unfolding RepliesOfRun Following
  run_before rs ss q =
      let s = split_replies q.0 rs ss q.3 in
      let w = occurs_run sheet s.0 (occurs_before sheet s.0 s.1 (subst (λ (x : History). occurs sheet x ≡ true) s.2 (run_occurs sheet q.0 q.1 q.2.0))) in
      (s.0, w.0, (w.1, follows_before (routine sheet) s.0 s.1 (subst (Follows (routine sheet)) s.2 q.2.1)), s.3)

  behind_run : (before rs : List ℕ) → RepliesOfRun sheet before → AcceptedBehind sheet before rs → RepliesOfRun sheet (before ++ rs)
  unfolding AcceptedBehind
  behind_run before [] q a = rw append-nil q
  behind_run before (r ∷ rs) q a = rw (← append_assoc before (r ∷ []) rs) (behind_run (before ++ (r ∷ [])) rs (accepted_run before r a.0) a.1)

  run_behind : (before rs : List ℕ) → RepliesOfRun sheet (before ++ rs) → AcceptedBehind sheet before rs
  unfolding AcceptedBehind
  run_behind before [] q = tt
  run_behind before (r ∷ rs) q =
      let q' : RepliesOfRun sheet (before ++ (r ∷ []) ++ rs) = rw (append_assoc before (r ∷ []) rs) q in
      (run_accepted before r (run_before (before ++ (r ∷ [])) rs q'), run_behind (before ++ (r ∷ [])) rs q')

  none_run : occurs sheet [] ≡ true → RepliesOfRun sheet []
  unfolding RepliesOfRun Following
  none_run starts = let w = occurs_run sheet [] starts in ([], w.0, (w.1, follows_none (routine sheet)), refl)

  pub accepted_replies : occurs sheet [] ≡ true → (rs : List ℕ) → AcceptedReplies sheet rs ↔ RepliesOfRun sheet rs
  unfolding AcceptedReplies
  accepted_replies starts rs = (λ a. behind_run [] rs (none_run starts) a, λ q. run_behind [] rs q)

  -- The end is told exactly after the replies of a full run that follows the routine, and with it whether the goal holds after that run.
  told_behind : (h : History) → Follows (routine sheet) h → told sheet (replies h) ≡ told_by sheet (left_after (routine sheet) (replies h)) h
  unfolding told
  told_behind h f = rw (follows_history (routine sheet) h f)

  pub end_told : (h : History) (run : List ℕ) → Full sheet h run → told sheet (replies h) ≡ at_end (holds_after sheet h sheet.goal)
  unfolding Full Following told_by is_done
  end_told h run f =
      told_behind h f.0.1 ∙ go (left_after (routine sheet) (replies h)) (sym (full_left (routine sheet) h f.0.1) ∙ f.1)
    where
      go : (q : Policy) → is_done q ≡ true → told_by sheet q h ≡ at_end (holds_after sheet h sheet.goal)
      go done e = refl
      go (perform a after) e = not_both e refl

  pub told_end : (rs : List ℕ) (b : Bool) → RepliesOfRun sheet rs → told sheet rs ≡ at_end b
      → (h : History) × (run : List ℕ) × Full sheet h run × (replies h ≡ rs) × ((b ≡ true) ↔ Holds sheet h sheet.goal)
  unfolding RepliesOfRun Full Following told_by is_done
  told_end rs b q e =
      let h = q.0 in
      let f : Follows (routine sheet) h = q.2.1 in
      let k = go (left_after (routine sheet) (replies h)) (sym (told_behind h f) ∙ ap (told sheet) q.3 ∙ e) in
      (h, q.1, (q.2, full_left (routine sheet) h f ∙ k.0), q.3, (λ t. tested_holds sheet h sheet.goal (sym k.1 ∙ t), λ g. k.1 ∙ holds_tested sheet h sheet.goal g))
    where
      go : (p : Policy) → told_by sheet p q.0 ≡ at_end b → (is_done p ≡ true) × (b ≡ holds_after sheet q.0 sheet.goal)
      go done k = (refl, cc)
      go (perform a after) k = let z : ◌≡◌ {A = ℕ} 0 1 = cc in absurd (omega arith)

  -- Else the action is told that comes next in every longer run following the routine whose replies begin with them.
  pub told_action : (rs : List ℕ) (a : ℕ) → told sheet rs ≡ to_do a → (h : History) (e : Entry) (g : History) (run : List ℕ) → Following sheet (h ++ (e ∷ g)) run → replies h ≡ rs
      → e.action ≡ a
  unfolding Following told_by
  told_action rs a t h e g run f s =
      let n = left_next (routine sheet) h e g f.1 in
      let k : to_do e.action ≡ to_do a = sym (told_behind h (follows_before (routine sheet) h (e ∷ g) f.1) ∙ ap (λ (q : Policy). told_by sheet q h) n.1) ∙ ap (told sheet) s ∙ t in
      cc

  -- Whether replies are those of some run following the routine, as a test.
  pub of_run : (rs : List ℕ) → are_of_run sheet rs ≡ true → RepliesOfRun sheet rs
  unfolding are_of_run RepliesOfRun Following
  of_run rs e =
      let h = history_of (routine sheet) rs in
      let b = both_true (eqb (length h) (length rs)) (occurs sheet h) e in
      let w = occurs_run sheet h b.1 in
      (h, w.0, (w.1, history_follows (routine sheet) rs), history_replies (routine sheet) rs (eqb-true (length h) (length rs) b.0))

  pub run_of : (rs : List ℕ) → RepliesOfRun sheet rs → are_of_run sheet rs ≡ true
  unfolding are_of_run RepliesOfRun Following
  run_of rs q =
      let same : history_of (routine sheet) rs ≡ q.0 = ap (history_of (routine sheet)) (sym q.3) ∙ follows_history (routine sheet) q.0 q.2.1 in
      let long : length q.0 ≡ length rs = sym (length-map q.0 (λ (x : Entry). x.reply)) ∙ ap length q.3 in
      and_both (eqb (length (history_of (routine sheet) rs)) (length rs)) (occurs sheet (history_of (routine sheet) rs))
      (eq-eqb (length (history_of (routine sheet) rs)) (length rs) (ap length same ∙ long))
      (ap (occurs sheet) same ∙ run_occurs sheet q.0 q.1 q.2.0)

  full_replies : (h : History) (run : List ℕ) → Full sheet h run → RepliesOfRun sheet (replies h)
  unfolding Full RepliesOfRun
  full_replies h run f = (h, run, f.0, refl)

  -- The verdict is "valid" exactly if after no accepted replies it is told that the goal fails.
  pub valid_told : occurs sheet [] ≡ true → (budget : ℕ) → history_count sheet ≤ budget
      → ((outcome sheet budget).verdict ≡ valid (history_count sheet)) ↔ ((rs : List ℕ) → AcceptedReplies sheet rs → told sheet rs ≡ at_end false → ⊥)
  unfolding Failing
  valid_told starts budget l = (
    λ v rs a t.
        let x = told_end rs false ((accepted_replies starts rs).0 a) t in
        (valid_means sheet budget (history_count sheet) v).2 x.0 x.1 (x.2, λ g. not_both (x.4.1 g) refl),
    λ none. ap (λ (o : Outcome). o.verdict) (means_valid sheet starts budget l (λ h run f.
        none (replies h) ((accepted_replies starts (replies h)).1 (full_replies h run f.0))
        (end_told h run f.0 ∙ ap at_end (⊎_elim (λ (e : holds_after sheet h sheet.goal ≡ true). absurd (f.1 (tested_holds sheet h sheet.goal e))) (λ e. e) (two_cases (holds_after sheet h sheet.goal)))))),
  )
