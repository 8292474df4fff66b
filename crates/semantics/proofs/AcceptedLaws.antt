-- What holds of every accepted sheet: a run starts, every run that isn't full goes on, and 64 actions and 129 bytes bound every run and its trace. Assumes nothing.
use Prim.Native.Nat.{ℕ, ◌+◌, ◌*◌, ◌≤◌, ◌<◌}
use mathlib.Core.Path.{◌≡◌, refl, sym, ap, ◌∙◌}
use mathlib.Core.Logic.{⊎_elim}
use mathlib.Core.List.Memᴰ
use mathlib.Core.List.{List, [], ◌∷◌, ◌++◌, map-append, Memᴰ}
use mathlib.Core.Bool.{Bool, true, false}
use native.Mathlib.Omega.{arith}
use lib.ListN.{length, length-map}
use Rattle.lists.proofs.ListLaws.{not_both}
use Rattle.format.specs.Syntax.{Program, end, act, branch, reply_count, Sheet, action_of}
use Rattle.format.specs.Truth.{states}
use Rattle.format.specs.Format.{gives, reading}
use Rattle.format.proofs.StateLaws.{listed_state, state_byte}
use Rattle.format.proofs.FormatLaws.{NumbersBelow}
use Rattle.format.proofs.SheetLaws.{accepted_shape, accepted_passed, start_state, action_steps, action_mem, few_replies}
use Rattle.semantics.specs.Runs.{Entry, entry, History, extended, replies, step, Steps, IsRun, last_state, holds_after, occurs}
use Rattle.semantics.specs.Routine.{Policy, done, perform, policy, routine, Follows, is_full, Following, Full}
use Rattle.semantics.specs.Verdict.{trace_from, trace, longest_trace}
use Rattle.semantics.specs.Replies.{left_after, to_do, at_end, told, RepliesOfRun}
use Rattle.semantics.proofs.RunLaws.{occurs_run, run_occurs, Replied, run_replied, run_last}
use Rattle.semantics.proofs.FollowLaws.{branch_either, routine_length}
use Rattle.semantics.proofs.ReplyLaws.{is_done, full_left, next_follows, leads_still, still_occurs, end_told}

-- Every action of a policy is below k.
unfoldable pub ActionsBelow : (k : ℕ) → Policy → Type 0
ActionsBelow k done = Unit {0}
ActionsBelow k (perform a after) = (a < k) × ((r : ℕ) → ActionsBelow k (after r))

-- Every entry of a history fits a byte of a trace: 5 bits of action, below 31, and 3 bits of reply.
unfoldable pub EntriesFit : History → Type 0
EntriesFit [] = Unit {0}
EntriesFit (e ∷ h) = (e.action < 31) × (e.reply < 8) × EntriesFit h

-- So it is for the policy of a program whose action numbers are, and for what is left of it.
module _ (sheet : Sheet) (k : ℕ) where
  program_below : (p : Program) (onward : History → Policy) (h : History) → NumbersBelow k p → ((g : History) → ActionsBelow k (onward g)) → ActionsBelow k (policy sheet p onward h)
  unfolding NumbersBelow policy ActionsBelow
  program_below end onward h n o = o h
  program_below (act a rest) onward h n o = (n.0, λ r. program_below rest onward (extended h a r) n.1 o)
  program_below (branch f p q rest) onward h n o =
      let tail : ((g : History) → ActionsBelow k (policy sheet rest onward g)) = λ g. program_below rest onward g n.2 o in
      branch_either sheet f p q rest onward h (ActionsBelow k) (program_below p (policy sheet rest onward) h n.0 tail) (program_below q (policy sheet rest onward) h n.1 tail)

left_below : (k : ℕ) (p : Policy) (rs : List ℕ) → ActionsBelow k p → ActionsBelow k (left_after p rs)
unfolding left_after ActionsBelow
left_below k p [] b = b
left_below k done (r ∷ rs) b = tt
left_below k (perform a after) (r ∷ rs) b = left_below k (after r) rs (b.1 r)

module _ (sheet : Sheet) where
  -- The entries of a history that follows few actions, with few replies each, fit.
  follows_fit : (k : ℕ) → k ≤ 31 → ((a : ℕ) → reply_count (action_of sheet a) ≤ 8) → (p : Policy) (h : History) → ActionsBelow k p → Follows p h → Replied sheet h → EntriesFit h
  unfolding ActionsBelow Follows Replied EntriesFit
  follows_fit k l few p [] b f r = tt
  follows_fit k l few done (e ∷ h) b f r = absurd f
  follows_fit k l few (perform a after) (e ∷ h) b f r =
      (omega (arith, f.0, b.0), omega (arith, few e.action, r.0), follows_fit k l few (after e.reply) h (b.1 e.reply) f.1 r.1)

  -- The bytes of a trace.
  steps_bytes : (s : ℕ) (h : History) (rest : List ℕ) → sheet.facts ≤ 8 → Steps sheet s h rest → EntriesFit h → (b : ℕ) → Memᴰ b (trace_from h rest) → b < 256
  unfolding Steps EntriesFit trace_from
  steps_bytes s [] rest l p f b m = absurd (Memᴰ.not-nil m)
  steps_bytes s (e ∷ h) [] l p f b m = absurd p
  steps_bytes s (e ∷ h) (t ∷ rest) l p f b m =
      ⊎_elim (λ (q : b ≡ e.action * 8 + e.reply). omega (arith, f.0, f.1))
      (λ k. ⊎_elim (λ (q : b ≡ t). omega (arith, state_byte sheet l t p.0)) (λ j. steps_bytes t h rest l p.2 f.2 b j) (Memᴰ.cases_cons k))
      (Memᴰ.cases_cons m)

  -- Behind the start state a trace has two bytes an entry.
  steps_length : (s : ℕ) (h : History) (rest : List ℕ) → Steps sheet s h rest → length (trace_from h rest) ≡ 2 * length h
  unfolding Steps trace_from
  steps_length s [] [] p = refl
  steps_length s [] (t ∷ rest) p = absurd p
  steps_length s (e ∷ h) [] p = absurd p
  steps_length s (e ∷ h) (t ∷ rest) p = let l = steps_length t h rest p.2 in omega arith

  -- A run's trace has 1 + 2L bytes.
  pub trace_length : (h : History) (run : List ℕ) → IsRun sheet h run → length (trace h run) ≡ 1 + 2 * length h
  unfolding IsRun trace
  trace_length h [] p = absurd p
  trace_length h (s ∷ rest) p = let l = steps_length s h rest p.2 in omega arith

-- An accepted sheet.
module _ (bytes : List ℕ) (sheet : Sheet) (read : reading bytes ≡ gives sheet) where
  -- A run starts: some run has the empty history.
  pub starts : occurs sheet [] ≡ true
  unfolding IsRun Steps
  starts =
      let x = start_state (states sheet) sheet.start (accepted_passed bytes sheet read).start in
      run_occurs sheet [] (x.0 ∷ []) (listed_state sheet x.1, x.2, tt)

  -- Every action of the routine is one of the sheet's.
  routine_below : ActionsBelow (length sheet.actions) (routine sheet)
  unfolding routine ActionsBelow
  routine_below = program_below sheet (length sheet.actions) sheet.program (λ g. done) [] (accepted_shape bytes sheet read).numbers (λ g. tt)

  -- Every run that follows the routine and isn't full has a longer one: with each state a reply and a next state (2013), none gets stuck.
  pub goes_on_law : (h : History) (run : List ℕ) → Following sheet h run → is_full (routine sheet) h ≡ false → (e : Entry) × (longer : List ℕ) × Following sheet (h ++ (e ∷ [])) longer
  unfolding Following is_done ActionsBelow routine step
  goes_on_law h run f n = go (left_after (routine sheet) (replies h)) refl (sym (full_left (routine sheet) h f.1) ∙ n)
      (left_below (length sheet.actions) (routine sheet) (replies h) routine_below)
    where
      go : (q : Policy) → left_after (routine sheet) (replies h) ≡ q → is_done q ≡ false → ActionsBelow (length sheet.actions) q
          → (e : Entry) × (longer : List ℕ) × Following sheet (h ++ (e ∷ [])) longer
      go done e k b = not_both refl k
      go (perform a after) e k b =
          let m = action_mem sheet a b.0 in
          let x = action_steps sheet (action_of sheet a) ((accepted_passed bytes sheet read).leads (action_of sheet a) m) ((accepted_passed bytes sheet read).answered (action_of sheet a) m)
          (last_state run) (run_last sheet h run f.0) in
          let o : occurs sheet (extended h a x.0) ≡ true =
          sym (still_occurs sheet h a x.0) ∙ leads_still sheet h (entry a x.0) run x.1 f.0 x.2 x.3 in
          let w = occurs_run sheet (extended h a x.0) o in
          (entry a x.0, w.0, (w.1, next_follows (routine sheet) h a after x.0 f.1 e))

  -- At most 64 actions in a run that follows the routine, so that 64 replies and 129 bytes of trace always suffice.
  pub actions_most : (h : History) → Follows (routine sheet) h → length h ≤ 64
  actions_most h f = omega (arith, routine_length sheet h f, (accepted_shape bytes sheet read).acts_most)

  pub replies_most : (rs : List ℕ) → RepliesOfRun sheet rs → length rs ≤ 64
  unfolding RepliesOfRun Following
  replies_most rs q = rw (← q.3, length-map) (actions_most q.0 q.2.1)

  pub trace_most : (h : History) (run : List ℕ) → Following sheet h run → length (trace h run) ≤ longest_trace
  unfolding Following
  trace_most h run f = omega (arith, trace_length sheet h run f.0, actions_most h f.1)

  -- An entry of such a run fits a byte, and a trace is a list of bytes.
  pub entries_fit : (h : History) (run : List ℕ) → Following sheet h run → EntriesFit h
  unfolding Following
  entries_fit h run f =
      follows_fit sheet (length sheet.actions) (accepted_shape bytes sheet read).actions_most (few_replies sheet (accepted_shape bytes sheet read)) (routine sheet) h routine_below f.1 (run_replied sheet h run f.0)

  pub trace_bytes : (h : History) (run : List ℕ) → Following sheet h run → (b : ℕ) → Memᴰ b (trace h run) → b < 256
  unfolding trace Following IsRun
  trace_bytes h [] f b m = absurd f.0
  trace_bytes h (s ∷ rest) f b m =
      let l = (accepted_shape bytes sheet read).facts_most in
      ⊎_elim (λ (q : b ≡ s). omega (arith, state_byte sheet l s f.0.0)) (λ k. steps_bytes sheet s h rest l f.0.2 (entries_fit h (s ∷ rest) f) b k) (Memᴰ.cases_cons m)

  -- Where an action is told, some further reply is accepted: the action told does come next in some longer run.
  pub told_goes_on : (rs : List ℕ) (a : ℕ) → RepliesOfRun sheet rs → told sheet rs ≡ to_do a → (r : ℕ) × RepliesOfRun sheet (rs ++ (r ∷ []))
  unfolding RepliesOfRun Full
  told_goes_on rs a q t = go (is_full (routine sheet) q.0) refl
    where
      go : (b : Bool) → is_full (routine sheet) q.0 ≡ b → (r : ℕ) × RepliesOfRun sheet (rs ++ (r ∷ []))
      go true e = let z : to_do a ≡ at_end (holds_after sheet q.0 sheet.goal) = sym t ∙ ap (told sheet) (sym q.3) ∙ end_told sheet q.0 q.1 (q.2, e) in let y : ◌≡◌ {A = ℕ} 0 1 = cc in absurd (omega arith)
      go false e =
          let w = goes_on_law q.0 q.1 q.2 e in
          (w.0.reply, (q.0 ++ (w.0 ∷ []), w.1, w.2, map-append (λ (x : Entry). x.reply) q.0 (w.0 ∷ []) ∙ ap (λ (l : List ℕ). l ++ (w.0.reply ∷ [])) q.3))
