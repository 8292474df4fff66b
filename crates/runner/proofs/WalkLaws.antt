-- Where replies lead by the tables of an accepted sheet is what they mean by definition. Assumes nothing.
use Prim.Native.Nat.{ℕ, ◌+◌, ◌<◌}
use mathlib.Core.Path.{◌≡◌, refl, sym, ap, subst, ◌∙◌}
use mathlib.Core.Logic.{◌⊎◌, inl, inr, ⊎_elim}
use mathlib.Core.List.{List, [], ◌∷◌, ◌++◌, map-append, append-nil, append_assoc, head-eq_of_cons-eq}
use mathlib.Core.Bool.{Bool, true, false, ◌&&◌}
use native.Mathlib.Omega.{arith}
use lib.Dec.{ltb}
use lib.ListN.{length, take}
use Rattle.lists.specs.Lists.{nonempty}
use Rattle.std.specs.Prelude.{if◌then◌else◌, Some, None, Result, Ok, Err}
use Rattle.lists.proofs.ListLaws.{two_cases, not_both}
use Rattle.states.specs.declared.States.{States}
use Rattle.states.specs.Sets.{members}
use Rattle.format.specs.Syntax.{reply_count, Sheet, action_of}
use Rattle.format.specs.Format.{Answer, gives, refused, on_accepted, reading, most_bytes, most_acts}
use Rattle.reader.specs.declared.refusal.Refusal.{Refusal}
use Rattle.reader.specs.Answers.{answer_of, without_value}
use Rattle.semantics.specs.Runs.{Entry, entry, History, extended, replies, holds_after, occurs}
use Rattle.semantics.specs.Routine.{Policy, done, perform, routine, Follows, Following}
use Rattle.semantics.specs.Replies.{left_after, history_of, told_by, told, still_possible, reported_to, reported, RepliesOfRun, are_of_run}
use Rattle.semantics.proofs.RunLaws.{occurs_run, run_occurs, occurs_before}
use Rattle.semantics.proofs.ReplyLaws.{follows_history, follows_before, left_next, split_replies, still_occurs, of_run, run_of, told_left}
use Rattle.semantics.proofs.AcceptedLaws.{starts}
use Rattle.routine.specs.declared.memory.Head.{Head}
use Rattle.routine.specs.Memory.{Sized, head_at}
use Rattle.routine.specs.Tables.{start_of, prepared, sheet_start, TablesAfter}
use Rattle.routine.proofs.TableLaws.{Tabled, tables_tabled}
use Rattle.progression.specs.declared.place.Place.{Place}
use Rattle.progression.specs.Machine.{settled, effect, stepped}
use Rattle.progression.proofs.RoutineLaws.{Reached, AtAction, AtEnd, start_reached, reached_place, reached_occurs}
use Rattle.progression.proofs.PassLaws.{passed_possible}
use Rattle.runner.specs.declared.answer.Rejection.{Rejection}
use Rattle.runner.specs.declared.answer.Told.{Told}
use Rattle.runner.specs.declared.calls.Record.{Record}
use Rattle.runner.specs.Records.{held_sheet, held_replies, is_padded, sheet_in, are_replies, held_by, next_on, report_on}
use Rattle.runner.specs.Answers.{bad_record, told_of, reported_of}
use Rattle.runner.specs.Walks.{Stand, walked_of, goes_on, stands_from, stands_by, walked, stands, judged, judged_at, told_at, accepted_at}
use Rattle.runner.proofs.CallLaws.{sheet_padded, sheet_not, held_is, held_refused}
use Rattle.runner.proofs.StandLaws.{none_left, one_left, end_stops, none_possible, some_possible, answered, judged_by_law}

module _ (sheet : Sheet) where
  abbrev left : List ℕ → Policy
  left rs = left_after (routine sheet) rs

  -- Replies of a run that are more than those of a history that follows: an action is left after it, and some run has the history with it and the next reply.
  more_replies : (h : History) → Follows (routine sheet) h → (r : ℕ) (rs : List ℕ) → are_of_run sheet (replies h ++ (r ∷ rs)) ≡ true
      → (a : ℕ) × (after : ℕ → Policy) × (left (replies h) ≡ perform a after) × (occurs sheet (extended h a r) ≡ true)
  unfolding RepliesOfRun Following
  more_replies h f r rs t =
      let q = of_run sheet (replies h ++ (r ∷ rs)) t in
      let s = split_replies q.0 (replies h) (r ∷ rs) q.3 in
      go s.0 s.1 s.3 s.4 (subst (Follows (routine sheet)) s.2 q.2.1) (subst (λ (x : History). occurs sheet x ≡ true) s.2 (run_occurs sheet q.0 q.1 q.2.0))
    where
      go : (g k : History) → replies g ≡ replies h → replies k ≡ r ∷ rs → Follows (routine sheet) (g ++ k) → occurs sheet (g ++ k) ≡ true
          → (a : ℕ) × (after : ℕ → Policy) × (left (replies h) ≡ perform a after) × (occurs sheet (extended h a r) ≡ true)
      go g [] x y w o = let z : ◌≡◌ {A = ℕ} 0 1 = cc in absurd (omega arith)
      go g (e ∷ k) x y w o =
          let n = left_next (routine sheet) g e k w in
          let d : e.reply ≡ r = head-eq_of_cons-eq y in
          let same : g ≡ h = sym (follows_history (routine sheet) g (follows_before (routine sheet) g (e ∷ k) w)) ∙ ap (history_of (routine sheet)) x ∙ follows_history (routine sheet) h f in
          let o₁ : occurs sheet (g ++ (e ∷ [])) ≡ true = occurs_before sheet (g ++ (e ∷ [])) k (ap (occurs sheet) (append_assoc g (e ∷ []) k) ∙ o) in
          let o₂ : occurs sheet (extended g e.action r) ≡ true = subst (λ (i : ℕ). occurs sheet (extended g e.action i) ≡ true) d o₁ in
          (e.action, n.0, ap left (sym x) ∙ n.1, subst (λ (u : History). occurs sheet (extended u e.action r) ≡ true) same o₂)

  -- The replies of a history that follows and that some run has.
  run_replies : (h : History) → Follows (routine sheet) h → occurs sheet h ≡ true → (all : List ℕ) → replies h ≡ all → are_of_run sheet all ≡ true
  unfolding RepliesOfRun Following
  run_replies h f o all e = let w = occurs_run sheet h o in run_of sheet all (h, w.0, (w.1, f), e)

  -- What is told and reported, by what is left after the replies.
  told_by_law : (h : History) → Follows (routine sheet) h → (all : List ℕ) → replies h ≡ all → (p : Policy) → left (replies h) ≡ p → told sheet all ≡ told_by sheet p h
  told_by_law h f all e p l = ap (told sheet) (sym e) ∙ told_left sheet h f p l

  reported_by : (h : History) → Follows (routine sheet) h → (all : List ℕ) → replies h ≡ all → (p : Policy) → left (replies h) ≡ p → (r : ℕ) → reported sheet all r ≡ reported_to sheet p h all r
  unfolding reported
  reported_by h f all e p l r =
      ap (λ (q : Policy). reported_to sheet q (history_of (routine sheet) all) all r) (ap left (sym e) ∙ l)
      ∙ ap (λ (g : History). reported_to sheet p g all r) (ap (history_of (routine sheet)) (sym e) ∙ follows_history (routine sheet) h f)

  module _ (heads nodes sets : List ℕ) where
    -- Where the replies lead, and what they are by definition: not those of a run; those of a run at its end; or those of a run before an action.
    pub record NoRun (stand : Stand) (all : List ℕ) : Type 0 where
      pub stands : stand ≡ None
      pub no_run : are_of_run sheet all ≡ false

    pub record Ended (stand : Stand) (all : List ℕ) : Type 0 where
      pub history : History
      pub replied : replies history ≡ all
      pub follows : Follows (routine sheet) history
      pub occurred : occurs sheet history ≡ true
      pub set : States
      pub stands : stand ≡ Some (Place.End (holds_after sheet history sheet.goal), set)
      pub nothing : left (replies history) ≡ done

    pub record Acting (stand : Stand) (all : List ℕ) : Type 0 where
      pub history : History
      pub replied : replies history ≡ all
      pub follows : Follows (routine sheet) history
      pub occurred : occurs sheet history ≡ true
      pub node : ℕ
      pub set : States
      pub acts : AtAction sheet heads nodes sets history node set
      pub stands : stand ≡ Some (Place.Act acts.place acts.action, set)

    abbrev pub Led : (stand : Stand) (all : List ℕ) → Type 0
    Led stand all = NoRun stand all ⊎ (Ended stand all ⊎ Acting stand all)

    module _ (bytes : List ℕ) (read : reading bytes ≡ gives sheet) (tabled : Tabled sheet heads nodes sets) where
      -- No reply is left.
      none_more : (h : History) (at : ℕ) (set : States) → Reached sheet heads nodes sets h at set → occurs sheet h ≡ true
          → AtAction sheet heads nodes sets h at set ⊎ AtEnd sheet heads nodes sets h at set → Led (stands_from heads nodes sets set at []) (replies h ++ [])
      none_more h at set reached o (inl x) = inr (inr (record {
        history = h;
        replied = sym (append-nil (replies h));
        follows = reached.follows;
        occurred = o;
        node = at;
        set = set;
        acts = x;
        stands = none_left heads nodes sets set at ∙ ap (λ (p : Place). Some (p, set)) x.settles;
      }))
      none_more h at set reached o (inr x) = inr (inl (record {
        history = h;
        replied = sym (append-nil (replies h));
        follows = reached.follows;
        occurred = o;
        set = set;
        stands = none_left heads nodes sets set at ∙ ap (λ (p : Place). Some (p, set)) x.settles;
        nothing = x.nothing;
      }))

      -- One reply, and others behind it.
      module _ (h : History) (at : ℕ) (set : States) (reached : Reached sheet heads nodes sets h at set) (r : ℕ) (rs : List ℕ) where
        abbrev onward : States → (next : ℕ) → Stand
        onward after next = stands_from heads nodes sets after next rs

        abbrev here : Stand
        here = stands_from heads nodes sets set at (r ∷ rs)

        abbrev all : List ℕ
        all = replies h ++ (r ∷ rs)

        stands_by_law : (place : Place) → settled nodes sets set at ≡ place → here ≡ goes_on heads sets place set r onward
        stands_by_law place e = one_left heads nodes sets set at r rs ∙ ap (λ (p : Place). goes_on heads sets p set r onward) e

        -- At the end no reply is taken.
        past_end : AtEnd sheet heads nodes sets h at set → NoRun here all
        past_end x = record {
          stands = stands_by_law _ x.settles ∙ end_stops heads sets set r onward (holds_after sheet h sheet.goal);
          no_run = ⊎_elim (λ (t : are_of_run sheet all ≡ true).
              let m = more_replies h reached.follows r rs t in
              let d : done ≡ perform m.0 m.1 = sym x.nothing ∙ m.2 in
              let z : ◌≡◌ {A = ℕ} 0 1 = cc in absurd (omega arith)) (λ f. f) (two_cases (are_of_run sheet all));
        }

        module _ (x : AtAction sheet heads nodes sets h at set) where
          abbrev set' : States
          set' = stepped heads sets set x.action r

          reply_occurs : occurs sheet (extended h x.action r) ≡ nonempty (members set')
          reply_occurs = reached_occurs sheet heads nodes sets bytes read tabled (extended h x.action r) (x.place + 1) set' (x.onward r)

          -- A reply that no possible state allows.
          not_allowed : nonempty (members set') ≡ false → NoRun here all
          not_allowed e = record {
            stands = stands_by_law _ x.settles ∙ none_possible heads sets set r onward x.place x.action e;
            no_run = ⊎_elim (λ (t : are_of_run sheet all ≡ true).
                let m = more_replies h reached.follows r rs t in
                let d : perform x.action x.after ≡ perform m.0 m.1 = sym x.next ∙ m.2 in
                let a : m.0 ≡ x.action = cc in
                not_both (subst (λ (b : ℕ). occurs sheet (extended h b r) ≡ true) a m.3) (reply_occurs ∙ e)) (λ f. f) (two_cases (are_of_run sheet all));
          }

          one_more : replies (extended h x.action r) ++ rs ≡ all
          one_more = ap (λ (l : List ℕ). l ++ rs) (map-append (λ (e : Entry). e.reply) h (entry x.action r ∷ [])) ∙ append_assoc (replies h) (r ∷ []) rs

          allowed_stands : nonempty (members set') ≡ true → here ≡ onward set' (x.place + 1)
          allowed_stands e = stands_by_law _ x.settles ∙ some_possible heads sets set r onward x.place x.action e

      -- Where replies lead from a place reached.
      led : (rs : List ℕ) (h : History) (at : ℕ) (set : States) → Reached sheet heads nodes sets h at set → occurs sheet h ≡ true → Led (stands_from heads nodes sets set at rs) (replies h ++ rs)
      led [] h at set reached o = none_more h at set reached o (reached_place sheet heads nodes sets bytes read tabled h at set reached)
      led (r ∷ rs) h at set reached o = go (reached_place sheet heads nodes sets bytes read tabled h at set reached) (λ g i u. led rs g i u)
        where
          go : AtAction sheet heads nodes sets h at set ⊎ AtEnd sheet heads nodes sets h at set
              → ((g : History) (i : ℕ) (u : States) → Reached sheet heads nodes sets g i u → occurs sheet g ≡ true → Led (stands_from heads nodes sets u i rs) (replies g ++ rs))
              → Led (stands_from heads nodes sets set at (r ∷ rs)) (replies h ++ (r ∷ rs))
          go (inr x) later = inl (past_end h at set reached r rs x)
          go (inl x) later =
              ⊎_elim (λ (e : nonempty (members (stepped heads sets set x.action r)) ≡ true).
              let l = later (extended h x.action r) (x.place + 1) (stepped heads sets set x.action r) (x.onward r) (reply_occurs h at set reached r rs x ∙ e) in
              subst (λ (s : Stand). Led s (replies h ++ (r ∷ rs))) (sym (allowed_stands h at set reached r rs x e))
              (subst (Led (stands_from heads nodes sets (stepped heads sets set x.action r) (x.place + 1) rs)) (one_more h at set reached r rs x) l))
              (λ e. inl (not_allowed h at set reached r rs x e)) (two_cases (nonempty (members (stepped heads sets set x.action r))))

      -- Where all replies lead from the start.
      pub start_led : (rs : List ℕ) → Led (stands_from heads nodes sets (sheet_start sheet) 0 rs) rs
      start_led rs = led rs [] 0 (sheet_start sheet) (start_reached sheet heads nodes sets bytes read tabled) (starts bytes sheet read)

module _ (sheet : Sheet) (rs : List ℕ) where
  -- A report at the end, and at an action by whether the action has the reply and whether it is still possible.
  end_reported : (h : History) (r : ℕ) → reported_to sheet done h rs r ≡ refused 32
  unfolding reported_to
  end_reported h r = refl

  act_reported : (a : ℕ) (after : ℕ → Policy) (h : History) (r : ℕ) (has some : Bool) → ltb r (reply_count (action_of sheet a)) ≡ has → still_possible sheet h (entry a r) ≡ some
      → reported_to sheet (perform a after) h rs r ≡ (if has then (if some then gives (rs ++ (r ∷ [])) else refused 34) else refused 33)
  unfolding reported_to
  act_reported a after h r has some e f = λ i. if e i then (if f i then gives (rs ++ (r ∷ [])) else refused 34) else refused 33

-- What a judgement answers.
unfoldable pub report_of : Result States Rejection → Result (Unit {0}) Rejection
report_of (Ok set) = Ok tt
report_of (Err why) = Err why

-- The answer's number is that of the report.
same_answer : (has some : Bool) (kept : States) (xs : List ℕ) → reported_of (report_of (answered has some kept)) ≡ without_value (if has then (if some then gives xs else refused 34) else refused 33)
unfolding reported_of report_of without_value
same_answer true true kept xs = refl
same_answer true false kept xs = refl
same_answer false some kept xs = refl

-- What is told and answered where replies lead that are, or aren't, those of a run: what "Next" tells of them and "Report" answers, or 31.
abbrev by_run : {A : Type 0} → Bool → Answer A → Answer A
by_run b a = if b then a else bad_record

module _ (bytes : List ℕ) (sheet : Sheet) (read : reading bytes ≡ gives sheet) (heads nodes sets : List ℕ) (tabled : Tabled sheet heads nodes sets) (rs : List ℕ) where
  -- What is told where the replies lead is what "Next" tells.
  led_told : (stand : Stand) → Led sheet heads nodes sets stand rs → told_of (told_at (Ok stand)) ≡ by_run (are_of_run sheet rs) (gives (told sheet rs))
  unfolding told_of told_at told_by
  led_told stand (inl x) = ap (λ (s : Stand). told_of (told_at (Ok s))) x.stands ∙ sym (ap (λ (b : Bool). by_run b (gives (told sheet rs))) x.no_run)
  led_told stand (inr (inl x)) =
      ap (λ (s : Stand). told_of (told_at (Ok s))) x.stands
      ∙ sym (ap (λ (b : Bool). by_run b (gives (told sheet rs))) (run_replies sheet x.history x.follows x.occurred rs x.replied)
      ∙ ap gives (told_by_law sheet x.history x.follows rs x.replied done x.nothing))
  led_told stand (inr (inr x)) =
      ap (λ (s : Stand). told_of (told_at (Ok s))) x.stands
      ∙ sym (ap (λ (b : Bool). by_run b (gives (told sheet rs))) (run_replies sheet x.history x.follows x.occurred rs x.replied)
      ∙ ap gives (told_by_law sheet x.history x.follows rs x.replied (perform x.acts.action x.acts.after) x.acts.next))

  -- The tables tell how many replies an action has, and whether a reply to it is still possible.
  count_is : (a : ℕ) → a < length sheet.actions → (head_at heads a).count ≡ reply_count (action_of sheet a)
  count_is a l = ap (λ (h : Head). h.count) (tabled.head_is a l)

  module _ (r : ℕ) where
    possible_is : (h : History) (at : ℕ) (set : States) (x : AtAction sheet heads nodes sets h at set)
        → still_possible sheet h (entry x.action r) ≡ nonempty (members (stepped heads sets set x.action r))
    possible_is h at set x =
        still_occurs sheet h x.action r
        ∙ reached_occurs sheet heads nodes sets bytes read tabled (extended h x.action r) (x.place + 1) (stepped heads sets set x.action r) (x.onward r)

    act_answered : (h : History) (at : ℕ) (set : States) (x : AtAction sheet heads nodes sets h at set)
        → reported_of (report_of (judged heads sets (effect sets (head_at heads x.action) set) x.action r)) ≡ without_value (reported_to sheet (perform x.action x.after) h rs r)
    act_answered h at set x =
        let has = ltb r (reply_count (action_of sheet x.action)) in
        let some = still_possible sheet h (entry x.action r) in
        ap (λ (j : Result States Rejection). reported_of (report_of j))
        (judged_by_law heads sets (effect sets (head_at heads x.action) set) x.action r has some (ap (ltb r) (count_is x.action x.known_action))
        (passed_possible heads sets set x.action r ∙ sym (possible_is h at set x)))
        ∙ same_answer has some _ (rs ++ (r ∷ []))
        ∙ ap without_value (sym (act_reported sheet rs x.action x.after h r has some refl refl))

    -- What is answered to one reply more where the replies lead is what "Report" answers.
    led_reported : (stand : Stand) → Led sheet heads nodes sets stand rs → reported_of (report_of (judged_at heads sets (Ok stand) r)) ≡ without_value (by_run (are_of_run sheet rs) (reported sheet rs r))
    unfolding reported_of report_of judged_at without_value
    led_reported stand (inl x) = ap (λ (s : Stand). reported_of (report_of (judged_at heads sets (Ok s) r))) x.stands ∙ ap without_value (sym (ap (λ (b : Bool). by_run b (reported sheet rs r)) x.no_run))
    led_reported stand (inr (inl x)) =
        ap (λ (s : Stand). reported_of (report_of (judged_at heads sets (Ok s) r))) x.stands
        ∙ ap without_value (sym (ap (λ (b : Bool). by_run b (reported sheet rs r)) (run_replies sheet x.history x.follows x.occurred rs x.replied)
        ∙ reported_by sheet x.history x.follows rs x.replied done x.nothing r ∙ end_reported sheet rs x.history r))
    led_reported stand (inr (inr x)) =
        ap (λ (s : Stand). reported_of (report_of (judged_at heads sets (Ok s) r))) x.stands
        ∙ act_answered x.history x.node x.set x.acts
        ∙ ap without_value (sym (ap (λ (b : Bool). by_run b (reported sheet rs r)) (run_replies sheet x.history x.follows x.occurred rs x.replied)
        ∙ reported_by sheet x.history x.follows rs x.replied (perform x.acts.action x.acts.after) x.acts.next r))

-- What is told and answered, by the meaning of where the code stands.
unfoldable told_in : Answer Stand → Result Told Rejection
unfolding told_at
told_in (gives s) = told_at (Ok s)
told_in (refused k) = Err Rejection.BadRecord

unfoldable report_in : (heads sets : List ℕ) → Answer Stand → (reply : ℕ) → Result (Unit {0}) Rejection
unfolding judged_at report_of
report_in heads sets (gives s) reply = report_of (judged_at heads sets (Ok s) reply)
report_in heads sets (refused k) reply = Err Rejection.BadRecord

told_in_law : (w : Result Stand Refusal) → told_at w ≡ told_in (walked_of w)
unfolding told_at told_in walked_of
told_in_law (Ok s) = refl
told_in_law (Err r) = refl

report_in_law : (heads sets : List ℕ) (w : Result Stand Refusal) (reply : ℕ) → report_of (judged_at heads sets w reply) ≡ report_in heads sets (walked_of w) reply
unfolding judged_at report_of report_in walked_of
report_in_law heads sets (Ok s) reply = refl
report_in_law heads sets (Err r) reply = refl

-- What loading answers is what reading does.
pub accepted_in_law : (heads nodes sets bytes replies : List ℕ) (count : ℕ) (w : Result Stand Refusal) → walked_of w ≡ walked heads nodes sets bytes replies count → answer_of (accepted_at w) ≡ without_value (reading bytes)
unfolding walked on_accepted start_of accepted_at answer_of walked_of without_value
accepted_in_law heads nodes sets bytes replies count w e = by_answer w ∙ ap without_value e ∙ go (reading bytes)
  where
    by_answer : (v : Result Stand Refusal) → answer_of (accepted_at v) ≡ without_value (walked_of v)
    by_answer (Ok s) = refl
    by_answer (Err r) = refl

    go : (a : Answer Sheet) → without_value (on_accepted (λ start. gives (stands_by heads nodes sets replies count start)) (start_of a)) ≡ without_value a
    go (gives sheet) = refl
    go (refused k) = refl

-- Where a record stands, and what is in a table then, by whether its sheet is padded.
module _ (r : Record) where
  module _ (heads nodes sets : List ℕ) where
    abbrev by_padding : Bool → Answer Stand
    by_padding b = if b then walked heads nodes sets (held_sheet r) r.replies r.count else gives None

    not_there : is_padded most_bytes r.sheet r.len ≡ false → stands heads nodes sets r ≡ gives None
    unfolding stands
    not_there e = ap by_padding e

    is_there : is_padded most_bytes r.sheet r.len ≡ true → stands heads nodes sets r ≡ walked heads nodes sets (held_sheet r) r.replies r.count
    unfolding stands
    is_there e = ap by_padding e

    pub stands_not : is_padded most_bytes r.sheet r.len ≡ false → walked_of (Ok None) ≡ stands heads nodes sets r
    unfolding walked_of
    stands_not e = sym (not_there e)

    pub stands_walked : is_padded most_bytes r.sheet r.len ≡ true → (w : Result Stand Refusal) → walked_of w ≡ walked heads nodes sets (take r.len r.sheet) r.replies r.count → walked_of w ≡ stands heads nodes sets r
    unfolding held_sheet
    stands_walked e w q = q ∙ sym (is_there e)

  -- The tables of the record's sheet: as they were where it is refused before it is read, else those that were prepared.
  pub unprepared : is_padded most_bytes r.sheet r.len ≡ false → (heads nodes sets : List ℕ) → TablesAfter (sheet_in r) heads nodes sets heads nodes sets
  unfolding prepared
  unprepared e heads nodes sets = subst (λ (a : Answer Sheet). TablesAfter a heads nodes sets heads nodes sets) (sym (sheet_not r e)) (refl, refl, refl)

  pub was_prepared : is_padded most_bytes r.sheet r.len ≡ true → (heads nodes sets heads' nodes' sets' : List ℕ)
      → TablesAfter (reading (take r.len r.sheet)) heads nodes sets heads' nodes' sets' → TablesAfter (sheet_in r) heads nodes sets heads' nodes' sets'
  unfolding held_sheet
  was_prepared e heads nodes sets heads' nodes' sets' t = subst (λ (a : Answer Sheet). TablesAfter a heads nodes sets heads' nodes' sets') (sym (sheet_padded r e)) t

-- Of a record, by the tables that were prepared for it.
module _ (r : Record) (heads nodes sets : List ℕ) (sized : Sized heads nodes sets) (heads' nodes' sets' : List ℕ)
    (tables : TablesAfter (sheet_in r) heads nodes sets heads' nodes' sets') where
  abbrev there : Answer Stand
  there = stands heads' nodes' sets' r

  -- A refused sheet.
  refused_there : is_padded most_bytes r.sheet r.len ≡ true → (k : ℕ) → reading (held_sheet r) ≡ refused k → there ≡ refused k
  unfolding walked on_accepted start_of
  refused_there e k read = is_there r heads' nodes' sets' e ∙ ap (λ (a : Answer Sheet). on_accepted (λ start. gives (stands_by heads' nodes' sets' r.replies r.count start)) (start_of a)) read

  -- An accepted one: the replies and their count decide.
  module _ (e : is_padded most_bytes r.sheet r.len ≡ true) (sheet : Sheet) (read : reading (held_sheet r) ≡ gives sheet) where
    holds_sheet : sheet_in r ≡ gives sheet
    holds_sheet = sheet_padded r e ∙ read

    stands_there : there ≡ gives (stands_by heads' nodes' sets' r.replies r.count (sheet_start sheet))
    unfolding walked on_accepted start_of
    stands_there = is_there r heads' nodes' sets' e ∙ ap (λ (a : Answer Sheet). on_accepted (λ start. gives (stands_by heads' nodes' sets' r.replies r.count start)) (start_of a)) read

    tabled_there : Tabled sheet heads' nodes' sets'
    tabled_there =
        tables_tabled (held_sheet r) sheet read heads nodes sets sized heads' nodes' sets'
        (subst (λ (a : Answer Sheet). TablesAfter a heads nodes sets heads' nodes' sets') (sheet_padded r e) tables)

    abbrev followed : Stand
    followed = stands_from heads' nodes' sets' (sheet_start sheet) 0 (held_replies r)

    led_there : Led sheet heads' nodes' sets' followed (held_replies r)
    led_there = start_led sheet heads' nodes' sets' (held_sheet r) read tabled_there (held_replies r)

    -- By whether the count fits and only zeros stand past it.
    by_count : (b : Bool) → is_padded most_acts r.replies r.count ≡ b
        → (there ≡ gives (if b then followed else None)) × (held_by r ≡ by_run (b && are_of_run sheet (held_replies r)) (gives sheet))
    unfolding stands_by are_replies held_replies
    by_count b q = (
      stands_there ∙ ap (λ (c : Bool). gives (if c then followed else None)) q,
      held_is r sheet (b && are_of_run sheet (held_replies r)) holds_sheet (ap (λ (c : Bool). c && are_of_run sheet (take r.count r.replies)) q),
    )

    told_there : (b : Bool) → is_padded most_acts r.replies r.count ≡ b → told_of (told_in there) ≡ next_on r
    unfolding told_of told_in next_on on_accepted
    told_there true q =
        ap (λ (a : Answer Stand). told_of (told_in a)) (by_count true q).0 ∙ led_told (held_sheet r) sheet read heads' nodes' sets' tabled_there (held_replies r) followed led_there
        ∙ sym (ap (on_accepted (λ (s : Sheet). gives (told s (held_replies r)))) (by_count true q).1 ∙ go (are_of_run sheet (held_replies r)))
      where
        go : (c : Bool) → on_accepted (λ (s : Sheet). gives (told s (held_replies r))) (by_run c (gives sheet)) ≡ by_run c (gives (told sheet (held_replies r)))
        go true = refl
        go false = refl
    told_there false q =
        ap (λ (a : Answer Stand). told_of (told_in a)) (by_count false q).0 ∙ sym (ap (on_accepted (λ (s : Sheet). gives (told s (held_replies r)))) (by_count false q).1)

    report_there : (x : ℕ) (b : Bool) → is_padded most_acts r.replies r.count ≡ b → reported_of (report_in heads' sets' there x) ≡ without_value (report_on r x)
    unfolding reported_of without_value report_in report_on on_accepted
    report_there x true q =
        ap (λ (a : Answer Stand). reported_of (report_in heads' sets' a x)) (by_count true q).0 ∙ led_reported (held_sheet r) sheet read heads' nodes' sets' tabled_there (held_replies r) x followed led_there
        ∙ ap without_value (sym (ap (on_accepted (λ (s : Sheet). reported s (held_replies r) x)) (by_count true q).1 ∙ go (are_of_run sheet (held_replies r))))
      where
        go : (c : Bool) → on_accepted (λ (s : Sheet). reported s (held_replies r) x) (by_run c (gives sheet)) ≡ by_run c (reported sheet (held_replies r) x)
        go true = refl
        go false = refl
    report_there x false q =
        ap (λ (a : Answer Stand). reported_of (report_in heads' sets' a x)) (by_count false q).0
        ∙ ap without_value (sym (ap (on_accepted (λ (s : Sheet). reported s (held_replies r) x)) (by_count false q).1))

  -- What "Next" tells and "Report" answers of a record with 31.
  bad_next : held_by r ≡ bad_record → told_of (Err Rejection.BadRecord) ≡ next_on r
  unfolding told_of next_on on_accepted
  bad_next e = sym (ap (on_accepted (λ (s : Sheet). gives (told s (held_replies r)))) e)

  bad_report : (x : ℕ) → held_by r ≡ bad_record → reported_of (Err Rejection.BadRecord) ≡ without_value (report_on r x)
  unfolding reported_of report_on on_accepted without_value
  bad_report x e = sym (ap (λ (a : Answer Sheet). without_value (on_accepted (λ (s : Sheet). reported s (held_replies r) x) a)) e)

  -- In each case.
  told_record : told_of (told_in there) ≡ next_on r
  unfolding told_in
  told_record = go (is_padded most_bytes r.sheet r.len) refl (reading (held_sheet r)) refl
    where
      go : (b : Bool) → is_padded most_bytes r.sheet r.len ≡ b → (a : Answer Sheet) → reading (held_sheet r) ≡ a → told_of (told_in there) ≡ next_on r
      go false e a read = ap (λ (w : Answer Stand). told_of (told_in w)) (not_there r heads' nodes' sets' e) ∙ bad_next (held_refused r _ (sheet_not r e))
      go true e (refused k) read = ap (λ (w : Answer Stand). told_of (told_in w)) (refused_there e k read) ∙ bad_next (held_refused r k (sheet_padded r e ∙ read))
      go true e (gives sheet) read = told_there e sheet read (is_padded most_acts r.replies r.count) refl

  report_record : (x : ℕ) → reported_of (report_in heads' sets' there x) ≡ without_value (report_on r x)
  unfolding report_in
  report_record x = go (is_padded most_bytes r.sheet r.len) refl (reading (held_sheet r)) refl
    where
      go : (b : Bool) → is_padded most_bytes r.sheet r.len ≡ b → (a : Answer Sheet) → reading (held_sheet r) ≡ a → reported_of (report_in heads' sets' there x) ≡ without_value (report_on r x)
      go false e a read = ap (λ (w : Answer Stand). reported_of (report_in heads' sets' w x)) (not_there r heads' nodes' sets' e) ∙ bad_report x (held_refused r _ (sheet_not r e))
      go true e (refused k) read = ap (λ (w : Answer Stand). reported_of (report_in heads' sets' w x)) (refused_there e k read) ∙ bad_report x (held_refused r k (sheet_padded r e ∙ read))
      go true e (gives sheet) read = report_there e sheet read x (is_padded most_acts r.replies r.count) refl

  pub told_is : (w : Result Stand Refusal) → walked_of w ≡ there → (t : Result Told Rejection) → t ≡ told_at w → told_of t ≡ next_on r
  told_is w e t q = ap told_of (q ∙ told_in_law w) ∙ ap (λ (a : Answer Stand). told_of (told_in a)) e ∙ told_record

  pub report_is : (x : ℕ) (w : Result Stand Refusal) → walked_of w ≡ there → (j : Result States Rejection) → j ≡ judged_at heads' sets' w x → reported_of (report_of j) ≡ without_value (report_on r x)
  report_is x w e j q =
      ap (λ (k : Result States Rejection). reported_of (report_of k)) q ∙ ap reported_of (report_in_law heads' sets' w x) ∙ ap (λ (a : Answer Stand). reported_of (report_in heads' sets' a x)) e ∙ report_record x
