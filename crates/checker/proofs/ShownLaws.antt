-- What a trace shows by the tables of an accepted sheet is what it shows by definition. Assumes nothing.
use Prim.Native.Nat.{ℕ, ◌+◌, ◌/◌, ◌%◌, ◌≤◌}
use mathlib.Core.Path.{◌≡◌, refl, sym, ap, ◌∙◌}
use mathlib.Core.List.{List, [], ◌∷◌, ◌++◌, append-nil, append_assoc}
use mathlib.Core.Logic.{◌⊎◌, inl, inr}
use mathlib.Core.Bool.{Bool, true, false, not, ◌&&◌}
use native.Mathlib.Omega.{arith}
use lib.Dec.{eqb, leb}
use lib.ListN.{length}
use borrow.Author.Tests.{eqb-true, eqb-false, eq-eqb, ne_eqb}
use Rattle.lists.proofs.ListLaws.{both_true}
use Rattle.states.specs.declared.States.{States}
use Rattle.states.specs.Sets.{member, set_of}
use Rattle.format.specs.Syntax.{Sheet}
use Rattle.format.specs.Truth.{is_state, holds}
use Rattle.format.specs.Format.{gives, reading}
use Rattle.format.proofs.SheetLaws.{accepted_shape}
use Rattle.semantics.specs.Runs.{Entry, entry, History, extended, replies, step, is_steps, holds_after}
use Rattle.semantics.specs.Routine.{Policy, done, perform, routine, follows, is_full}
use Rattle.semantics.specs.Replies.{left_after}
use Rattle.semantics.specs.Verdict.{longest_trace}
use Rattle.semantics.specs.Checker.{is_trace_length, shown_history, shown_states, shows_failing}
use Rattle.routine.specs.Tables.{sheet_start}
use Rattle.routine.proofs.TableLaws.{Tabled}
use Rattle.progression.specs.declared.place.Place.{Place}
use Rattle.progression.specs.Machine.{settled, stepped}
use Rattle.progression.proofs.StepLaws.{member_states, single_step}
use Rattle.progression.proofs.RoutineLaws.{Reached, AtAction, AtEnd, start_reached, reached_place}
use Rattle.checker.specs.Shown.{end_fails, goes_on, shows_from, shows_by}
use Rattle.checker.proofs.TraceLaws.{none_left, two_left}

module _ (sheet : Sheet) (few : sheet.facts ≤ 8) where
  -- The start set.
  start_member : (s : ℕ) → member (sheet_start sheet) s ≡ is_state sheet s && holds sheet.start s
  unfolding sheet_start
  start_member = member_states sheet few (λ s. is_state sheet s && holds sheet.start s) (λ s e. (both_true (is_state sheet s) (holds sheet.start s) e).0)

-- A run's own state, as a set.
abbrev own : ℕ → States
own s = set_of (λ u. eqb u s)

-- By definition: whether states follow state s by the entries g, the entries follow a policy to its end, and the goal fails after the history of all.
module _ (sheet : Sheet) where
  abbrev fails_behind : Policy → (s : ℕ) (g : History) (run : List ℕ) (whole : History) → Bool
  fails_behind p s g run whole = (is_steps sheet s g run && follows p g) && (is_full p g && not (holds_after sheet whole sheet.goal))

  module _ (s : ℕ) (whole : History) where
    none_done : fails_behind done s [] [] whole ≡ not (holds_after sheet whole sheet.goal)
    unfolding is_steps follows is_full
    none_done = refl

    none_next : (a : ℕ) (after : ℕ → Policy) → fails_behind (perform a after) s [] [] whole ≡ false
    unfolding is_steps follows is_full
    none_next a after = refl

    module _ (e : Entry) (t : ℕ) (g : History) (run : List ℕ) where
      more_done : fails_behind done s (e ∷ g) (t ∷ run) whole ≡ false
      unfolding follows
      more_done = no_end (is_steps sheet s (e ∷ g) (t ∷ run)) _
        where
          no_end : (a b : Bool) → (a && false) && b ≡ false
          no_end true b = refl
          no_end false b = refl

      more_next : (a : ℕ) (after : ℕ → Policy) → fails_behind (perform a after) s (e ∷ g) (t ∷ run) whole
          ≡ eqb e.action a && ((is_state sheet t && step sheet e s t) && fails_behind (after e.reply) t g run whole)
      unfolding is_steps follows is_full
      more_next a after = moved (is_state sheet t && step sheet e s t) (is_steps sheet t g run) (eqb e.action a) (follows (after e.reply) g) _
        where
          moved : (m q n f l : Bool) → ((m && q) && (n && f)) && l ≡ n && (m && ((q && f) && l))
          moved true true true f l = refl
          moved true true false f l = refl
          moved true false true f l = refl
          moved true false false f l = refl
          moved false q true f l = refl
          moved false q false f l = refl

module _ (bytes : List ℕ) (sheet : Sheet) (read : reading bytes ≡ gives sheet) (heads nodes sets : List ℕ) (tabled : Tabled sheet heads nodes sets) where
  few : sheet.facts ≤ 8
  few = (accepted_shape bytes sheet read).facts_most

  abbrev left : History → Policy
  left h = left_after (routine sheet) (replies h)

  -- What the bytes behind a state show by definition, after a history.
  abbrev shown_behind : History → (s : ℕ) → List ℕ → Bool
  shown_behind h s rest = fails_behind sheet (left h) s (shown_history rest) (shown_states rest) (h ++ shown_history rest)

  abbrev ShownAfter : List ℕ → Type 0
  ShownAfter rest = (h : History) (at : ℕ) (set : States) → Reached sheet heads nodes sets h at set → (s : ℕ) → is_state sheet s ≡ true
      → shows_from heads nodes sets set at (own s) rest ≡ shown_behind h s rest

  module _ (h : History) (at : ℕ) (set : States) (s : ℕ) (i : is_state sheet s ≡ true) where
    no_bytes : AtAction sheet heads nodes sets h at set ⊎ AtEnd sheet heads nodes sets h at set → end_fails (settled nodes sets set at) ≡ fails_behind sheet (left h) s [] [] (h ++ [])
    unfolding end_fails
    no_bytes (inl x) =
        ap end_fails x.settles ∙ sym (ap (λ (p : Policy). fails_behind sheet p s [] [] (h ++ [])) x.next ∙ none_next sheet s (h ++ []) x.action x.after)
    no_bytes (inr x) =
        ap end_fails x.settles
        ∙ sym (ap (λ (p : Policy). fails_behind sheet p s [] [] (h ++ [])) x.nothing ∙ none_done sheet s (h ++ []) ∙ ap (λ (g : History). not (holds_after sheet g sheet.goal)) (append-nil h))

    -- Two bytes: an action's number c with its reply r, and a state.
    module _ (r t : ℕ) (rest : List ℕ) (later : ShownAfter rest) where
      abbrev onward : States → (next : ℕ) → Bool
      onward u next = shows_from heads nodes sets u next (own t) rest

      abbrev behind : ℕ → Bool
      behind c = fails_behind sheet (left h) s (entry c r ∷ shown_history rest) (t ∷ shown_states rest) (h ++ (entry c r ∷ shown_history rest))

      module _ (x : AtAction sheet heads nodes sets h at set) where
        abbrev a : ℕ
        a = x.action

        abbrev led : ℕ → Bool
        led c = (is_state sheet t && step sheet (entry c r) s t) && fails_behind sheet (x.after r) t (shown_history rest) (shown_states rest) (h ++ (entry c r ∷ shown_history rest))

        behind_next : (c : ℕ) (same : Bool) → eqb c a ≡ same → behind c ≡ same && led c
        behind_next c same e =
            let all = h ++ (entry c r ∷ shown_history rest) in
            ap (λ (p : Policy). fails_behind sheet p s (entry c r ∷ shown_history rest) (t ∷ shown_states rest) all) x.next
            ∙ more_next sheet s all (entry c r) t (shown_history rest) (shown_states rest) a x.after
            ∙ ap (λ (b : Bool). b && led c) e

        -- Behind the routine's next action.
        same_later : is_state sheet t ≡ true → onward (stepped heads sets set a r) (x.place + 1)
            ≡ fails_behind sheet (x.after r) t (shown_history rest) (shown_states rest) (h ++ (entry a r ∷ shown_history rest))
        same_later j =
            later (extended h a r) (x.place + 1) (stepped heads sets set a r) (x.onward r) t j
            ∙ ap (λ (p : Policy). fails_behind sheet p t (shown_history rest) (shown_states rest) (extended h a r ++ shown_history rest)) (x.next_left r)
            ∙ ap (fails_behind sheet (x.after r) t (shown_history rest) (shown_states rest)) (append_assoc h (entry a r ∷ []) (shown_history rest))

        same_step : member (stepped heads sets (own s) a r) t && onward (stepped heads sets set a r) (x.place + 1) ≡ behind a
        same_step =
            ap (λ (b : Bool). b && onward (stepped heads sets set a r) (x.place + 1)) (single_step sheet few heads nodes sets tabled s i a x.known_action r t)
            ∙ go (is_state sheet t && step sheet (entry a r) s t) refl
            ∙ sym (behind_next a true (eq-eqb a a refl))
          where
            after : Bool
            after = fails_behind sheet (x.after r) t (shown_history rest) (shown_states rest) (h ++ (entry a r ∷ shown_history rest))

            go : (m : Bool) → is_state sheet t && step sheet (entry a r) s t ≡ m → m && onward (stepped heads sets set a r) (x.place + 1) ≡ m && after
            go true e = same_later (both_true (is_state sheet t) (step sheet (entry a r) s t) e).0
            go false e = refl

        next_bytes : (c : ℕ) → eqb a c && (member (stepped heads sets (own s) a r) t && onward (stepped heads sets set a r) (x.place + 1)) ≡ behind c
        next_bytes c = go (eqb a c) refl
          where
            go : (b : Bool) → eqb a c ≡ b → b && (member (stepped heads sets (own s) a r) t && onward (stepped heads sets set a r) (x.place + 1)) ≡ behind c
            go true e = same_step ∙ ap behind (eqb-true a c e)
            go false e = sym (behind_next c false (ne_eqb c a (λ q. eqb-false a c e (sym q))))

      two_bytes : (c : ℕ) → AtAction sheet heads nodes sets h at set ⊎ AtEnd sheet heads nodes sets h at set → goes_on heads nodes sets (settled nodes sets set at) c r t (own s) set onward ≡ behind c
      unfolding goes_on
      two_bytes c (inl x) = ap (λ (p : Place). goes_on heads nodes sets p c r t (own s) set onward) x.settles ∙ next_bytes x c
      two_bytes c (inr x) =
          let all = h ++ (entry c r ∷ shown_history rest) in
          ap (λ (p : Place). goes_on heads nodes sets p c r t (own s) set onward) x.settles
          ∙ sym (ap (λ (p : Policy). fails_behind sheet p s (entry c r ∷ shown_history rest) (t ∷ shown_states rest) all) x.nothing
          ∙ more_done sheet s all (entry c r) t (shown_history rest) (shown_states rest))

  -- The bytes behind a state of a run show by the tables what they show by definition.
  rest_shown : (rest : List ℕ) → length rest % 2 ≡ 0 → ShownAfter rest
  unfolding shown_history shown_states
  rest_shown [] e h at set reached s i =
      none_left heads nodes sets set at (own s) ∙ no_bytes h at set s i (reached_place sheet heads nodes sets bytes read tabled h at set reached)
  rest_shown (b ∷ []) e h at set reached s i = absurd (omega arith)
  rest_shown (b ∷ t ∷ rest) e h at set reached s i =
      two_left heads nodes sets set at (own s) b t rest
      ∙ two_bytes h at set s i (b % 8) t rest (rest_shown rest (omega arith)) (b / 8) (reached_place sheet heads nodes sets bytes read tabled h at set reached)

  -- The whole trace, by its start state.
  by_tables : (s : ℕ) (rest : List ℕ) → shows_by heads nodes sets (sheet_start sheet) (s ∷ rest) ≡ member (sheet_start sheet) s && shows_from heads nodes sets (sheet_start sheet) 0 (own s) rest
  unfolding shows_by
  by_tables s rest = refl

  by_definition : (s : ℕ) (rest : List ℕ) → shows_failing sheet (s ∷ rest)
      ≡ (((is_state sheet s && holds sheet.start s) && is_steps sheet s (shown_history rest) (shown_states rest)) && follows (routine sheet) (shown_history rest))
      && (is_full (routine sheet) (shown_history rest) && not (holds_after sheet (shown_history rest) sheet.goal))
  unfolding shows_failing
  by_definition s rest = refl

  none_replied : left [] ≡ routine sheet
  unfolding left_after
  none_replied = refl

  trace_shown : (s : ℕ) (rest : List ℕ) → length rest % 2 ≡ 0 → shows_by heads nodes sets (sheet_start sheet) (s ∷ rest) ≡ shows_failing sheet (s ∷ rest)
  trace_shown s rest even =
      by_tables s rest ∙ ap (λ (b : Bool). b && shows_from heads nodes sets (sheet_start sheet) 0 (own s) rest) (start_member sheet few s)
      ∙ go (is_state sheet s && holds sheet.start s) refl ∙ sym (by_definition s rest)
    where
      go : (m : Bool) → is_state sheet s && holds sheet.start s ≡ m → m && shows_from heads nodes sets (sheet_start sheet) 0 (own s) rest
          ≡ ((m && is_steps sheet s (shown_history rest) (shown_states rest)) && follows (routine sheet) (shown_history rest))
          && (is_full (routine sheet) (shown_history rest) && not (holds_after sheet (shown_history rest) sheet.goal))
      go true e =
          rest_shown rest even [] 0 (sheet_start sheet) (start_reached sheet heads nodes sets bytes read tabled) s (both_true (is_state sheet s) (holds sheet.start s) e).0
          ∙ ap (λ (p : Policy). fails_behind sheet p s (shown_history rest) (shown_states rest) (shown_history rest)) none_replied
      go false e = refl

-- A trace's length is odd, so that behind its start state the number of bytes is even.
odd_length : (l : ℕ) → is_trace_length l ≡ true → l % 2 ≡ 1
unfolding is_trace_length
odd_length l e = eqb-true (l % 2) 1 (both_true (eqb (l % 2) 1) (leb l longest_trace) e).0

pub shown_failing : (bytes : List ℕ) (sheet : Sheet) → reading bytes ≡ gives sheet → (heads nodes sets : List ℕ) → Tabled sheet heads nodes sets → (shown : List ℕ)
    → is_trace_length (length shown) && shows_by heads nodes sets (sheet_start sheet) shown ≡ is_trace_length (length shown) && shows_failing sheet shown
unfolding shows_by shows_failing
shown_failing bytes sheet read heads nodes sets tabled [] = refl
shown_failing bytes sheet read heads nodes sets tabled (s ∷ rest) = go (is_trace_length (length (s ∷ rest))) refl
  where
    go : (b : Bool) → is_trace_length (length (s ∷ rest)) ≡ b → b && shows_by heads nodes sets (sheet_start sheet) (s ∷ rest) ≡ b && shows_failing sheet (s ∷ rest)
    go true e = trace_shown bytes sheet read heads nodes sets tabled s rest (omega (arith, odd_length (length (s ∷ rest)) e))
    go false e = refl
