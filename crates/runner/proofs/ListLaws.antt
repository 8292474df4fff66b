-- What holds after any list of "Next" and "Report" calls on a record freshly loaded. One invariant goes through the list: the record is the one that belongs to the
-- sheet and to the replies accepted so far. Assumes nothing.
use Prim.Native.Nat.{ℕ}
use mathlib.Core.Path.{◌≡◌, refl, sym, ap, subst, ◌∙◌}
use mathlib.Core.Logic.{◌↔◌, ∥∥₁_prop, ∥∥₁_elim, ∥∥₁_map}
use mathlib.Core.List.{List, [], ◌∷◌, ◌++◌, map, append-nil, append_assoc}
use mathlib.Core.Bool.{Bool, true, false}
use native.Mathlib.Omega.{arith}
use Rattle.format.specs.Syntax.{Sheet}
use Rattle.format.specs.Format.{Answer, gives, refused, reading}
use Rattle.semantics.specs.Runs.{History, replies, Holds, holds_after}
use Rattle.semantics.specs.Routine.{Full, Failing}
use Rattle.semantics.specs.Replies.{Told, to_do, at_end, told, reported, AcceptedBehind, AcceptedReplies, RepliesOfRun}
use Rattle.semantics.proofs.RunLaws.{tested_holds, holds_tested}
use Rattle.semantics.proofs.ReplyLaws.{accepted_run, run_accepted, accepted_replies, end_told as told-at-end, told_end, told_action}
use Rattle.semantics.proofs.AcceptedLaws.{starts, entries_fit, EntriesFit, told_goes_on}
use Rattle.runner.specs.declared.calls.Record.{Record}
use Rattle.runner.specs.Records.{record_of, loaded, next_on, report_on, record_after}
use Rattle.runner.specs.Calls.{Call, load, next, report, Form, own, CallAnswer, done, act, ended, done_or, told_answer, answer_on, record_left, answers_on, Runner, Event, accepted_one, accepted_in, OnRecord, AllOnRecord, Calls, none, one, meanwhile, CallFits, AllCallsFit, Fresh, Listed, FullReplies, NextInLonger}
use Rattle.runner.proofs.RecordLaws.{loaded_record}
use Rattle.runner.proofs.CallLaws.{reported_adds}
use Rattle.runner.proofs.HeldLaws.{next_held, report_held, after_added, after_refused}

-- What the contracts of the calls say: the answer and the record after it are those of the definitions.
pub record RunnerContracts {ℓ} (runner : Runner {ℓ}) : Type ℓ where
  pub answered : (form : Form) (c : Call) (k : runner.Kept) (a : CallAnswer) (l : runner.Kept) → runner.does form c k a l
      → (a ≡ answer_on (runner.record_in k) c) × (runner.record_in l ≡ record_left (runner.record_in k) c)

-- From what is kept every call of bytes can be made, once there is memory for what is passed beside the record, and ends.
pub record Going {ℓ} (runner : Runner {ℓ}) : Type ℓ where
  pub goes : (form : Form) (c : Call) → CallFits c → (k : runner.Kept)
      → ∥ ((m : runner.Kept) × (runner.record_in k ≡ runner.record_in m) × (a : CallAnswer) × (l : runner.Kept) × runner.does form c m a l) ∥₁

-- So every list of calls can be made, one after the other.
module _ {ℓ} (runner : Runner {ℓ}) where
  pub lists_run : Going runner → (cs : List (Form × Call)) → AllCallsFit cs → (k : runner.Kept)
      → ∥ ((es : List Event) × (l : runner.Kept) × Calls runner k es l × (map (λ (e : Event). (e.form, e.call)) es ≡ cs)) ∥₁
  unfolding AllCallsFit
  lists_run going [] f k = ∣ ([], k, none, refl) ∣₁
  lists_run going (c ∷ cs) f k =
      ∥∥₁_elim (going.goes c.0 c.1 f.0 k) ∥∥₁_prop (λ g.
      ∥∥₁_map (lists_run going cs f.1 g.3) (λ w.
      (record { form = c.0; call = c.1; answer = g.2 } ∷ w.0, w.1, meanwhile g.1 (one c.0 c.1 g.2 g.4 w.2), ap (λ (l : List (Form × Call)). c ∷ l) w.3)))

  -- After the last call, too, the record may be moved.
  moved : (k l m : runner.Kept) (es : List Event) → runner.record_in l ≡ runner.record_in m → Calls runner k es l → Calls runner k es m
  moved k l m es e none = meanwhile e none
  moved k l m es e (one {l = n} {es = more} form c a did rest) = one form c a did (moved n l m more e rest)
  moved k l m es e (meanwhile {l = n} same rest) = meanwhile same (moved n l m es e rest)

-- The calls by the definitions.
module _ (r : Record) where
  pub load_answer : (bytes : List ℕ) → answer_on r (load bytes) ≡ done_or (reading bytes)
  unfolding answer_on
  load_answer bytes = refl

  pub next_answer : answer_on r next ≡ told_answer (next_on r)
  unfolding answer_on
  next_answer = refl

  pub report_answer : (x : ℕ) → answer_on r (report x) ≡ done_or (report_on r x)
  unfolding answer_on
  report_answer x = refl

  pub load_left : (bytes : List ℕ) → record_left r (load bytes) ≡ loaded bytes
  unfolding record_left
  load_left bytes = refl

  pub next_left : record_left r next ≡ r
  unfolding record_left
  next_left = refl

  pub report_left : (x : ℕ) → record_left r (report x) ≡ record_after r x
  unfolding record_left
  report_left x = refl

-- What an answer tells.
was_done : {A : Type 0} (x : Answer A) → done_or x ≡ done → (a : A) × (x ≡ gives a)
unfolding done_or
was_done (gives a) e = (a, refl)
was_done (refused k) e = let z : ◌≡◌ {A = ℕ} 0 1 = cc in absurd (omega arith)

was_end : (t : Told) (b : Bool) → told_answer (gives t) ≡ ended b → t ≡ at_end b
unfolding told_answer
was_end (to_do a) b e = let z : ◌≡◌ {A = ℕ} 0 1 = cc in absurd (omega arith)
was_end (at_end c) b e = cc

-- The record that belongs to a sheet and to replies of a run, and the calls on it.
module _ (bytes : List ℕ) (sheet : Sheet) (read : reading bytes ≡ gives sheet) where
  module _ (rs : List ℕ) (run : RepliesOfRun sheet rs) where
    next_on_law : answer_on (record_of bytes rs) next ≡ told_answer (gives (told sheet rs))
    next_on_law = next_answer (record_of bytes rs) ∙ ap told_answer (next_held bytes sheet read rs run)

    report_on_law : (x : ℕ) → answer_on (record_of bytes rs) (report x) ≡ done_or (reported sheet rs x)
    report_on_law x = report_answer (record_of bytes rs) x ∙ ap done_or (report_held bytes sheet read rs run x)

    done_run : (x : ℕ) → (answer_on (record_of bytes rs) (report x) ≡ done) ↔ RepliesOfRun sheet (rs ++ (x ∷ []))
    unfolding done_or
    done_run x = (
      λ e. let w = was_done (reported sheet rs x) (sym (report_on_law x) ∙ e) in accepted_run sheet rs x (w.1 ∙ ap gives (reported_adds sheet rs x w.0 w.1)),
      λ q. report_on_law x ∙ ap done_or (run_accepted sheet rs x q),
    )

    end_is : (b : Bool) → (answer_on (record_of bytes rs) next ≡ ended b) ↔ (told sheet rs ≡ at_end b)
    unfolding told_answer
    end_is b = (λ e. was_end (told sheet rs) b (sym next_on_law ∙ e), λ e. next_on_law ∙ ap (λ (t : Told). told_answer (gives t)) e)

    -- An end is told of the replies of a full run.
    ends_full : (b : Bool) → told sheet rs ≡ at_end b → FullReplies sheet rs
    ends_full b e = let w = told_end sheet rs b run e in record { history = w.0; run = w.1; full = w.2; of_replies = w.3 }

    full_told : (f : FullReplies sheet rs) → told sheet rs ≡ at_end (holds_after sheet f.history sheet.goal)
    full_told f = sym (ap (told sheet) f.of_replies) ∙ told-at-end sheet f.history f.run f.full

    end_full : ((goal : Bool) × (answer_on (record_of bytes rs) next ≡ ended goal)) ↔ FullReplies sheet rs
    end_full = (
      λ q. ends_full q.0 ((end_is q.0).0 q.1),
      λ f. (holds_after sheet f.history sheet.goal, (end_is (holds_after sheet f.history sheet.goal)).1 (full_told f)),
    )

    goal_is : (f : FullReplies sheet rs) → (answer_on (record_of bytes rs) next ≡ ended true) ↔ Holds sheet f.history sheet.goal
    goal_is f = (
      λ e.
          let same : at_end (holds_after sheet f.history sheet.goal) ≡ at_end true = sym (full_told f) ∙ (end_is true).0 e in
          tested_holds sheet f.history sheet.goal cc,
      λ h. (end_is true).1 (full_told f ∙ ap at_end (holds_tested sheet f.history sheet.goal h)),
    )

    action_is : (FullReplies sheet rs → ⊥)
        → (action : ℕ) × (answer_on (record_of bytes rs) next ≡ act action) × NextInLonger sheet rs action × ((x : ℕ) × RepliesOfRun sheet (rs ++ (x ∷ [])))
    unfolding told_answer NextInLonger
    action_is unfull = go (told sheet rs) refl
      where
        go : (t : Told) → told sheet rs ≡ t
            → (action : ℕ) × (answer_on (record_of bytes rs) next ≡ act action) × NextInLonger sheet rs action × ((x : ℕ) × RepliesOfRun sheet (rs ++ (x ∷ [])))
        go (to_do a) e = (a, next_on_law ∙ ap (λ (t : Told). told_answer (gives t)) e, told_action sheet rs a e, told_goes_on bytes sheet read rs a run e)
        go (at_end b) e = absurd (unfull (ends_full b e))

  -- The invariant, and a call on it.
  abbrev Belongs : List ℕ → Record → Type 0
  Belongs rs r = (r ≡ record_of bytes rs) × RepliesOfRun sheet rs

  -- The record that is loaded belongs to the sheet and no replies.
  none_yet : RepliesOfRun sheet []
  unfolding AcceptedReplies AcceptedBehind
  none_yet = (accepted_replies sheet (starts bytes sheet read) []).0 tt

  loaded_belongs : Belongs [] (loaded bytes)
  loaded_belongs = (loaded_record bytes sheet read, none_yet)

  report_belongs : (rs : List ℕ) → RepliesOfRun sheet rs → (x : ℕ)
      → Belongs (rs ++ accepted_one (report x) (answer_on (record_of bytes rs) (report x))) (record_after (record_of bytes rs) x)
  unfolding accepted_one done_or
  report_belongs rs run x = go (reported sheet rs x) refl
    where
      go : (a : Answer (List ℕ)) → reported sheet rs x ≡ a
          → Belongs (rs ++ accepted_one (report x) (answer_on (record_of bytes rs) (report x))) (record_after (record_of bytes rs) x)
      go (gives qs) e =
          let adds = e ∙ ap gives (reported_adds sheet rs x qs e) in
          subst (λ (a : CallAnswer). Belongs (rs ++ accepted_one (report x) a) (record_after (record_of bytes rs) x)) (sym (report_on_law rs run x ∙ ap done_or e))
          (after_added bytes sheet read rs run x (rs ++ (x ∷ [])) adds, accepted_run sheet rs x adds)
      go (refused k) e =
          subst (λ (a : CallAnswer). Belongs (rs ++ accepted_one (report x) a) (record_after (record_of bytes rs) x)) (sym (report_on_law rs run x ∙ ap done_or e))
          (subst (λ (qs : List ℕ). Belongs qs (record_after (record_of bytes rs) x)) (sym (append-nil rs)) (after_refused bytes sheet read rs run x k e, run))

  call_belongs : (rs : List ℕ) → RepliesOfRun sheet rs → (c : Call) → OnRecord c
      → Belongs (rs ++ accepted_one c (answer_on (record_of bytes rs) c)) (record_left (record_of bytes rs) c)
  unfolding OnRecord accepted_one
  call_belongs rs run (load b) on = absurd on
  call_belongs rs run next on = subst (λ (qs : List ℕ). Belongs qs (record_left (record_of bytes rs) next)) (sym (append-nil rs)) (next_left (record_of bytes rs), run)
  call_belongs rs run (report x) on =
      subst (Belongs (rs ++ accepted_one (report x) (answer_on (record_of bytes rs) (report x)))) (sym (report_left (record_of bytes rs) x)) (report_belongs rs run x)

module _ {ℓ} (runner : Runner {ℓ}) (contracts : RunnerContracts runner) where
  -- The answers to a list of calls are those of the definitions.
  pub listed_answers : (k l : runner.Kept) (es : List Event) → Calls runner k es l
      → map (λ (e : Event). e.answer) es ≡ answers_on (runner.record_in k) (map (λ (e : Event). e.call) es)
  unfolding answers_on
  listed_answers k l es none = refl
  listed_answers k l es (one {l = m} {es = more} form c a did rest) =
      let w = contracts.answered form c k a m did in
      let tail = listed_answers m l more rest ∙ ap (λ (r : Record). answers_on r (map (λ (e : Event). e.call) more)) w.1 in
      λ i. w.0 i ∷ tail i
  listed_answers k l es (meanwhile {l = m} same rest) = listed_answers m l es rest ∙ ap (λ (r : Record). answers_on r (map (λ (e : Event). e.call) es)) (sym same)

  module _ (bytes : List ℕ) (sheet : Sheet) (read : reading bytes ≡ gives sheet) where
    abbrev On : List ℕ → runner.Kept → Type 0
    On rs k = Belongs bytes sheet read rs (runner.record_in k)

    -- A call that was made on it, and a list of them.
    did_on : (rs : List ℕ) (k : runner.Kept) → On rs k → (form : Form) (c : Call) (a : CallAnswer) (l : runner.Kept) → runner.does form c k a l
        → (a ≡ answer_on (record_of bytes rs) c) × (runner.record_in l ≡ record_left (record_of bytes rs) c)
    did_on rs k b form c a l did =
        let w = contracts.answered form c k a l did in
        (w.0 ∙ ap (λ (r : Record). answer_on r c) b.0, w.1 ∙ ap (λ (r : Record). record_left r c) b.0)

    did_belongs : (rs : List ℕ) (k : runner.Kept) → On rs k → (form : Form) (c : Call) (a : CallAnswer) (l : runner.Kept) → runner.does form c k a l → OnRecord c
        → On (rs ++ accepted_one c a) l
    did_belongs rs k b form c a l did on =
        let w = did_on rs k b form c a l did in
        let left = call_belongs bytes sheet read rs b.1 c on in
        subst (λ (x : CallAnswer). On (rs ++ accepted_one c x) l) (sym w.0) (w.1 ∙ left.0, left.1)

    through : (rs : List ℕ) (k : runner.Kept) → On rs k → (es : List Event) → AllOnRecord es → (l : runner.Kept) → Calls runner k es l → On (rs ++ accepted_in es) l
    unfolding accepted_in AllOnRecord
    through rs k b es only l none = subst (λ (qs : List ℕ). On qs k) (sym (append-nil rs)) b
    through rs k b es only l (one {l = m} {es = more} form c a did rest) =
        subst (λ (qs : List ℕ). On qs l) (append_assoc rs (accepted_one c a) (accepted_in more))
        (through (rs ++ accepted_one c a) m (did_belongs rs k b form c a m did only.0) more only.1 l rest)
    through rs k b es only l (meanwhile {l = m} same rest) = through rs m (subst (Belongs bytes sheet read rs) same b) es only l rest

    -- Where replies are accepted one after the other, they can be reported, and are.
    all_added : Going runner → (before : List ℕ) (h : History) → EntriesFit h → AcceptedBehind sheet before (replies h) → (k : runner.Kept) → On before k
        → ∥ ((es : List Event) × AllOnRecord es × (l : runner.Kept) × Calls runner k es l × (accepted_in es ≡ replies h)) ∥₁
    unfolding EntriesFit AcceptedBehind AllOnRecord OnRecord accepted_in accepted_one CallFits
    all_added going before [] f b k on = ∣ ([], tt, k, none, refl) ∣₁
    all_added going before (e ∷ h) f b k on =
        ∥∥₁_elim (going.goes own (report e.reply) (omega (arith, f.1)) k) ∥∥₁_prop (λ g.
        let there : On before g.0 = subst (Belongs bytes sheet read before) g.1 on in
        let yes : g.2 ≡ done =
        (did_on before g.0 there own (report e.reply) g.2 g.3 g.4).0 ∙ (done_run bytes sheet read before there.1 e.reply).1 (accepted_run sheet before e.reply b.0) in
        let then : On (before ++ (e.reply ∷ [])) g.3 =
        subst (λ (a : CallAnswer). On (before ++ accepted_one (report e.reply) a) g.3) yes (did_belongs before g.0 there own (report e.reply) g.2 g.3 g.4 tt) in
        ∥∥₁_map (all_added going (before ++ (e.reply ∷ [])) h f.2 b.1 g.3 then) (λ w. (
          record { form = own; call = report e.reply; answer = g.2 } ∷ w.0,
          (tt, w.1),
          w.2,
          meanwhile g.1 (one own (report e.reply) g.2 g.4 w.3),
          ap (λ (a : CallAnswer). accepted_one (report e.reply) a ++ accepted_in w.0) yes ∙ ap (λ (l : List ℕ). e.reply ∷ l) w.4,
        )))

  module _ {sheet : Sheet} (fresh : Fresh runner sheet) where
    fresh_on : On fresh.bytes sheet fresh.read [] fresh.kept
    fresh_on =
        let b = loaded_belongs fresh.bytes sheet fresh.read in
        let w = contracts.answered fresh.form (load fresh.bytes) fresh.before done fresh.kept fresh.did in
        (w.1 ∙ load_left (runner.record_in fresh.before) fresh.bytes ∙ b.0, b.1)

    -- After any list from it.
    module _ (list : Listed runner fresh) where
      last_on : On fresh.bytes sheet fresh.read (accepted_in list.events) list.last
      last_on = through fresh.bytes sheet fresh.read [] fresh.kept fresh_on list.events list.only list.last list.calls

      last_did : (form : Form) (c : Call) (a : CallAnswer) (k : runner.Kept) → runner.does form c list.last a k
          → a ≡ answer_on (record_of fresh.bytes (accepted_in list.events)) c
      last_did form c a k did = (did_on fresh.bytes sheet fresh.read (accepted_in list.events) list.last last_on form c a k did).0

      -- A further reply is accepted exactly if the replies are then those of a run.
      pub further_accepted : (form : Form) (x : ℕ) (a : CallAnswer) (k : runner.Kept) → runner.does form (report x) list.last a k
          → (a ≡ done) ↔ RepliesOfRun sheet (accepted_in list.events ++ (x ∷ []))
      further_accepted form x a k did =
          let s = last_did form (report x) a k did in
          let w = done_run fresh.bytes sheet fresh.read (accepted_in list.events) last_on.1 x in
          (λ e. w.0 (sym s ∙ e), λ q. s ∙ w.1 q)

      -- "Next" tells the end exactly if they are those of a full run, and then whether the goal holds.
      pub end_told : (form : Form) (a : CallAnswer) (k : runner.Kept) → runner.does form next list.last a k
          → ((goal : Bool) × (a ≡ ended goal)) ↔ FullReplies sheet (accepted_in list.events)
      end_told form a k did =
          let s = last_did form next a k did in
          let w = end_full fresh.bytes sheet fresh.read (accepted_in list.events) last_on.1 in
          (λ e. w.0 (e.0, sym s ∙ e.1), λ f. let e = w.1 f in (e.0, s ∙ e.1))

      pub goal_told : (form : Form) (a : CallAnswer) (k : runner.Kept) → runner.does form next list.last a k → (full : FullReplies sheet (accepted_in list.events))
          → (a ≡ ended true) ↔ Holds sheet full.history sheet.goal
      goal_told form a k did full =
          let s = last_did form next a k did in
          let w = goal_is fresh.bytes sheet fresh.read (accepted_in list.events) last_on.1 full in
          (λ e. w.0 (sym s ∙ e), λ h. s ∙ w.1 h)

      -- Else it tells the action that comes next in every longer run, and there is one.
      pub action_told : (form : Form) (a : CallAnswer) (k : runner.Kept) → runner.does form next list.last a k → (FullReplies sheet (accepted_in list.events) → ⊥)
          → (action : ℕ) × (a ≡ act action) × NextInLonger sheet (accepted_in list.events) action × ((x : ℕ) × RepliesOfRun sheet (accepted_in list.events ++ (x ∷ [])))
      action_told form a k did unfull =
          let w = action_is fresh.bytes sheet fresh.read (accepted_in list.events) last_on.1 unfull in
          (w.0, last_did form next a k did ∙ w.1, w.2, w.3)

  -- No run fails exactly when "Next" says after no list that the goal fails.
  pub none_told : Going runner → {sheet : Sheet} (fresh : Fresh runner sheet)
      → ((h : History) (run : List ℕ) → Failing sheet h run → ⊥)
      ↔ ((list : Listed runner fresh) (form : Form) (a : CallAnswer) (k : runner.Kept) → runner.does form next list.last a k → a ≡ ended false → ⊥)
  unfolding Failing Full AcceptedReplies RepliesOfRun CallFits
  none_told going {sheet} fresh = (there, back)
    where
      there : ((h : History) (run : List ℕ) → Failing sheet h run → ⊥)
          → (list : Listed runner fresh) (form : Form) (a : CallAnswer) (k : runner.Kept) → runner.does form next list.last a k → a ≡ ended false → ⊥
      there none-fails list form a k did e =
          let f = (end_told fresh list form a k did).0 (false, e) in
          none-fails f.history f.run (
            f.full,
            λ g.
                let same : ended true ≡ ended false = sym ((goal_told fresh list form a k did f).1 g) ∙ e in
                let z : ◌≡◌ {A = ℕ} 0 1 = cc in absurd (omega arith),
          )

      back : ((list : Listed runner fresh) (form : Form) (a : CallAnswer) (k : runner.Kept) → runner.does form next list.last a k → a ≡ ended false → ⊥)
          → (h : History) (run : List ℕ) → Failing sheet h run → ⊥
      back never h run f =
          ∥∥₁_elim (all_added fresh.bytes sheet fresh.read going [] h (entries_fit fresh.bytes sheet fresh.read h run f.0.0)
          ((accepted_replies sheet (starts fresh.bytes sheet fresh.read) (replies h)).1 (h, run, f.0.0, refl)) fresh.kept (fresh_on fresh)) (λ a b. absurd a) (λ w.
          let full : FullReplies sheet (accepted_in w.0) = record { history = h; run = run; full = f.0; of_replies = sym w.4 } in
          ∥∥₁_elim (going.goes own next tt w.2) (λ a b. absurd a) (λ g.
          let list : Listed runner fresh = record { events = w.0; only = w.1; last = g.0; calls = moved runner fresh.kept w.2 g.0 w.0 g.1 w.3 } in
          let end = (end_told fresh list own g.2 g.3 g.4).1 full in
          by_goal g.2 end.0 end.1 (λ e. f.1 ((goal_told fresh list own g.2 g.3 g.4 full).0 e)) (λ e. never list own g.2 g.3 g.4 e)))
        where
          by_goal : (a : CallAnswer) (b : Bool) → a ≡ ended b → (a ≡ ended true → ⊥) → (a ≡ ended false → ⊥) → ⊥
          by_goal a true e good bad = good e
          by_goal a false e good bad = bad e
