-- What a trace shows by a routine's tables, read two bytes at a time. Assumes nothing.
use Prim.Native.Nat.{ℕ, ◌+◌, ◌-◌, ◌/◌, ◌%◌, ◌<◌, ◌≤◌}
use mathlib.Core.Path.{◌≡◌, refl, sym, ap, ◌∙◌}
use mathlib.Core.List.{List, [], ◌∷◌}
use mathlib.Core.Bool.{Bool, true, false, ◌&&◌}
use native.Mathlib.Omega.{arith}
use lib.Dec.{eqb}
use lib.ListN.{length, get_or, take, drop, length-drop}
use Rattle.std.proofs.lemmas.List.{take_rest}
use borrow.Author.Tests.{eq-eqb, ne_eqb, le-leb, lt-leb}
use Rattle.states.specs.declared.States.{States}
use Rattle.states.specs.Sets.{member, set_of}
use Rattle.semantics.specs.Verdict.{longest_trace}
use Rattle.semantics.specs.Checker.{is_trace_length}
use Rattle.progression.specs.declared.place.Place.{Place}
use Rattle.progression.specs.Machine.{settled, stepped}
use Rattle.checker.specs.Shown.{end_fails, goes_on, shows_from, shows_by}

-- A trace's length: an even one, one above that of the longest trace, and any other.
module _ (l : ℕ) where
  pub even_length : (shows : Bool) → l % 2 ≡ 0 → is_trace_length l && shows ≡ false
  unfolding is_trace_length
  even_length shows e = rw e

  pub above_length : (shows : Bool) → longest_trace < l → is_trace_length l && shows ≡ false
  unfolding is_trace_length
  above_length shows h = rw (lt-leb l longest_trace h) (none (eqb (l % 2) 1))
    where
      none : (b : Bool) → (b && false) && shows ≡ false
      none true = refl
      none false = refl

  pub trace_length : (l % 2 ≡ 0 → ⊥) → l ≤ longest_trace → is_trace_length l ≡ true
  unfolding is_trace_length
  trace_length odd h = rw (eq-eqb (l % 2) 1 (omega arith), le-leb l longest_trace h)

-- What shows nothing is no trace, whatever its length.
pub shows_nothing : (fits shows : Bool) → shows ≡ false → fits && shows ≡ false
shows_nothing true shows e = e
shows_nothing false shows e = refl

-- The bytes behind the first n, as a slice, and the first two.
pub behind_length : (n : ℕ) (xs : List ℕ) → length (take (length xs - n) (drop n xs)) ≡ length xs - n
behind_length n xs = ap (length {A = ℕ}) (take_rest xs n) ∙ length-drop n xs

first_two : (xs : List ℕ) → 2 ≤ length xs → xs ≡ get_or xs 0 0 ∷ get_or xs 1 0 ∷ drop 2 xs
first_two [] h = absurd (omega (arith, h))
first_two (b ∷ []) h = absurd (omega (arith, h))
first_two (b ∷ t ∷ xs) h = refl

-- One step, by how many bytes are left.
module _ (heads nodes sets : List ℕ) (set : States) (at : ℕ) (own : States) where
  pub none_left : shows_from heads nodes sets set at own [] ≡ end_fails (settled nodes sets set at)
  unfolding shows_from
  none_left = refl

  one_more : (b : ℕ) → shows_from heads nodes sets set at own (b ∷ []) ≡ false
  unfolding shows_from
  one_more b = refl

  pub two_left : (b t : ℕ) (rest : List ℕ) → shows_from heads nodes sets set at own (b ∷ t ∷ rest)
      ≡ goes_on heads nodes sets (settled nodes sets set at) (b / 8) (b % 8) t own set (λ after next. shows_from heads nodes sets after next (set_of (λ u. eqb u t)) rest)
  unfolding shows_from
  two_left b t rest = refl

module _ (heads nodes sets : List ℕ) where
  -- The first byte is a start state, or the trace shows nothing.
  module _ (start : States) where
    pub no_byte : (trace : List ℕ) → length trace < 1 → shows_by heads nodes sets start trace ≡ false
    unfolding shows_by
    no_byte [] h = refl
    no_byte (s ∷ rest) h = absurd (omega (arith, h))

    first_byte : (trace : List ℕ) → 1 ≤ length trace
        → shows_by heads nodes sets start trace ≡ member start (get_or trace 0 0) && shows_from heads nodes sets start 0 (set_of (λ u. eqb u (get_or trace 0 0))) (drop 1 trace)
    unfolding shows_by
    first_byte [] h = absurd (omega (arith, h))
    first_byte (s ∷ rest) h = refl

    module _ (trace : List ℕ) (some : 1 ≤ length trace) where
      pub no_start : member start (get_or trace 0 0) ≡ false → shows_by heads nodes sets start trace ≡ false
      no_start e = first_byte trace some ∙ rw e

      pub starts : member start (get_or trace 0 0) ≡ true → (one : States) → one ≡ set_of (λ u. eqb u (get_or trace 0 0))
          → shows_by heads nodes sets start trace ≡ shows_from heads nodes sets start 0 one (take (length trace - 1) (drop 1 trace))
      starts e one o =
          first_byte trace some ∙ ap (λ (b : Bool). b && shows_from heads nodes sets start 0 (set_of (λ u. eqb u (get_or trace 0 0))) (drop 1 trace)) e
          ∙ ap (λ (u : States). shows_from heads nodes sets start 0 u (drop 1 trace)) (sym o)
          ∙ ap (shows_from heads nodes sets start 0 one) (sym (take_rest trace 1))

  -- What the bytes that are left show from a set, a node and the run's own state.
  module _ (rest : List ℕ) (set : States) (at : ℕ) (own : States) where
    abbrev from : Bool
    from = shows_from heads nodes sets set at own rest

    abbrev b : ℕ
    b = get_or rest 0 0

    abbrev t : ℕ
    t = get_or rest 1 0

    -- The run's own state behind two bytes more, and what is left then.
    abbrev own' : States
    own' = set_of (λ u. eqb u t)

    -- Two bytes more: the run ends, another action comes next, the state doesn't follow, or the run goes on.
    module _ (room : 2 ≤ length rest) where
      two_bytes : (place : Place) → settled nodes sets set at ≡ place
          → from ≡ goes_on heads nodes sets place (b / 8) (b % 8) t own set (λ after next. shows_from heads nodes sets after next own' (drop 2 rest))
      two_bytes place e =
          ap (shows_from heads nodes sets set at own) (first_two rest room) ∙ two_left heads nodes sets set at own b t (drop 2 rest)
          ∙ ap (λ (p : Place). goes_on heads nodes sets p (b / 8) (b % 8) t own set (λ after next. shows_from heads nodes sets after next own' (drop 2 rest))) e

      pub ends_before : (holds : Bool) → settled nodes sets set at ≡ Place.End holds → from ≡ false
      unfolding goes_on
      ends_before holds e = two_bytes (Place.End holds) e

      module _ (node action : ℕ) (e : settled nodes sets set at ≡ Place.Act node action) where
        abbrev onward : Bool
        onward = shows_from heads nodes sets (stepped heads sets set action (b % 8)) (node + 1) own' (drop 2 rest)

        abbrev follows_state : Bool
        follows_state = member (stepped heads sets own action (b % 8)) t

        at_action : from ≡ eqb action (b / 8) && (follows_state && onward)
        unfolding goes_on
        at_action = two_bytes (Place.Act node action) e

        pub other_action : (action ≡ b / 8 → ⊥) → from ≡ false
        other_action n = at_action ∙ ap (λ (x : Bool). x && (follows_state && onward)) (ne_eqb action (b / 8) n)

        module _ (a : action ≡ b / 8) (after : States) (f : after ≡ stepped heads sets own action (b % 8)) where
          same_action : (m : Bool) → member after t ≡ m → from ≡ m && onward
          same_action m h =
              at_action ∙ ap (λ (x : Bool). x && (follows_state && onward)) (eq-eqb action (b / 8) a)
              ∙ ap (λ (u : States). member u t && onward) (sym f)
              ∙ ap (λ (x : Bool). x && onward) h

          pub no_step : member after t ≡ false → from ≡ false
          no_step = same_action false

          pub goes_on_law : member after t ≡ true → (more : States) → more ≡ stepped heads sets set action (b % 8) → (one : States) → one ≡ own'
              → from ≡ shows_from heads nodes sets more (node + 1) one (take (length rest - 2) (drop 2 rest))
          goes_on_law m more g one o =
              same_action true m ∙ ap (λ (u : States). shows_from heads nodes sets u (node + 1) own' (drop 2 rest)) (sym g)
              ∙ ap (λ (u : States). shows_from heads nodes sets more (node + 1) u (drop 2 rest)) (sym o)
              ∙ ap (shows_from heads nodes sets more (node + 1) one) (sym (take_rest rest 2))

    -- One byte is left, or none.
    pub one_left : length rest < 2 → 1 ≤ length rest → from ≡ false
    one_left h k = go rest h k
      where
        go : (xs : List ℕ) → length xs < 2 → 1 ≤ length xs → shows_from heads nodes sets set at own xs ≡ false
        go [] h k = absurd (omega (arith, k))
        go (b ∷ []) h k = one_more heads nodes sets set at own b
        go (b ∷ t ∷ xs) h k = absurd (omega (arith, h))

    pub all_read : (place : Place) → settled nodes sets set at ≡ place → length rest < 1 → from ≡ end_fails place
    all_read place e h = go rest h ∙ ap end_fails e
      where
        go : (xs : List ℕ) → length xs < 1 → shows_from heads nodes sets set at own xs ≡ end_fails (settled nodes sets set at)
        go [] h = none_left heads nodes sets set at own
        go (b ∷ xs) h = absurd (omega (arith, h))
