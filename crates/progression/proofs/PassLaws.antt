-- One pass over the states of a set: what is kept, and how often the reply is evaluated. Assumes nothing.
use Prim.Native.Nat.{ℕ, ◌+◌, ◌-◌, ◌*◌, ◌%◌, ◌^◌, ◌≤◌, ◌<◌}
use mathlib.Core.Path.{◌≡◌, refl, sym, ap, ap₂, ◌∙◌}
use mathlib.Core.Logic.{⊎_elim}
use mathlib.Core.List.{List}
use mathlib.Core.Bool.{Bool, true, false, not, ◌&&◌, ◌||◌}
use native.Mathlib.Omega.{arith}
use lib.Dec.{eqb, ltb}
use lib.ListN.{length}
use lib.Count.{ones, ones-le, count_trailing_zeros}
use lib.Bits.{bit_and, bit_or, and_lt, or_lt}
use borrow.Author.Tests.{eqb-true, ltb-true, ltb-false}
use Rattle.lists.specs.Lists.{below, exists, keep, nonempty}
use Rattle.lists.proofs.ListLaws.{two_cases, or_none, not_both, keep_keep, nonempty_keep}
use Rattle.states.specs.declared.States.{States}
use Rattle.states.specs.Sets.{bit, member, set_of, members}
use Rattle.states.proofs.BitLaws.{bit_none, bit_of_and, bit_of_or, bit_pow, shifted_one, bit_cleared, lowest_set, cleared_less, bits_equal}
use Rattle.states.proofs.SetLaws.{Fitting, four_words, pointwise, member_set_of, member_above, members_set_of}
use Rattle.states.proofs.CountLaws.{members_ones, ones_cleared}
use Rattle.routine.specs.Memory.{head_at}
use Rattle.progression.specs.declared.reply.Passed.{Passed}
use Rattle.progression.specs.Machine.{effect, reply_states, kept_by, stepped, passed_over, passed_by}

-- Some states of a word are left, the others are evaluated: of these the ones are kept in which the reply is true, and so many more are counted than before the word.
pub record Evaluated (states reply before left kept evaluations : ℕ) : Type 0 where
  pub left_fits : left < 2 ^ 64
  pub kept_fits : kept < 2 ^ 64
  pub counted : evaluations + ones left ≡ before + ones states
  pub kept_bits : (k : ℕ) → k < 64 → (bit kept k || (bit left k && bit reply k)) ≡ (bit states k && bit reply k)

-- Before the first.
pub none_evaluated : (states reply before : ℕ) → states < 2 ^ 64 → Evaluated states reply before states 0 before
none_evaluated states reply before h = record {
  left_fits = h;
  kept_fits = omega arith;
  counted = omega arith;
  kept_bits = λ k l. rw (bit_none k);
}

-- Behind the last.
module _ (states reply before left kept evaluations : ℕ) (inv : Evaluated states reply before left kept evaluations) (none : left ≡ 0) where
  pub all_kept : states < 2 ^ 64 → reply < 2 ^ 64 → kept ≡ bit_and states reply
  all_kept h g =
      bits_equal 64 kept (bit_and states reply) inv.kept_fits (and_lt 64 states reply h g)
      (λ k l.
      sym (or_none (bit kept k)) ∙ ap (λ (b : Bool). bit kept k || (b && bit reply k)) (sym (ap (λ (x : ℕ). bit x k) none ∙ bit_none k)) ∙ inv.kept_bits k l ∙ sym (bit_of_and states reply k))

  pub all_counted : evaluations ≡ before + ones states
  unfolding ones
  all_counted = omega (arith, ap ones none, inv.counted)

-- The lowest state of those left is evaluated: it is kept if the reply is true in it.
module _ (states reply before left kept evaluations : ℕ) (inv : Evaluated states reply before left kept evaluations) (some : left ≡ 0 → ⊥) where
  abbrev lowest : ℕ
  lowest = count_trailing_zeros 64 left

  pub lowest_fits : lowest < 64
  lowest_fits = (lowest_set 64 left some inv.left_fits).0

  one_more : evaluations + 1 + ones (bit_and left (left - 1)) ≡ before + ones states
  one_more = omega (arith, inv.counted, ones_cleared 64 left some inv.left_fits)

  -- There was room to count it.
  pub few_before : states < 2 ^ 64 → before ≤ 192 → evaluations < 256
  few_before h b = omega (arith, one_more, ones-le 64 states h, b)

  fewer_fit : bit_and left (left - 1) < 2 ^ 64
  fewer_fit = omega (arith, cleared_less left some, inv.left_fits)

  is_left : (k : ℕ) → eqb k lowest ≡ true → bit left k ≡ true
  is_left k e = ap (bit left) (eqb-true k lowest e) ∙ (lowest_set 64 left some inv.left_fits).1

  is_told : (b : Bool) → b ≡ bit reply lowest → (k : ℕ) → eqb k lowest ≡ true → bit reply k ≡ b
  is_told b is k e = ap (bit reply) (eqb-true k lowest e) ∙ sym is

  -- x is kept, l left, t true in the reply, e the state that is evaluated.
  with_it : (x y l t e : Bool) → (e ≡ true → l ≡ true) → (e ≡ true → t ≡ true) → (x || (l && t)) ≡ y → ((x || e) || ((l && not e) && t)) ≡ y
  with_it x y true true true f g q = rw (sym q) (or_none (x || true))
  with_it x y true false true f g q = not_both (g refl) refl
  with_it x y false true true f g q = not_both (f refl) refl
  with_it x y false false true f g q = not_both (f refl) refl
  with_it x y true true false f g q = rw (or_none x) q
  with_it x y true false false f g q = rw (or_none x) q
  with_it x y false true false f g q = rw (or_none x) q
  with_it x y false false false f g q = rw (or_none x) q

  without_it : (x y l t e : Bool) → (e ≡ true → t ≡ false) → (x || (l && t)) ≡ y → (x || ((l && not e) && t)) ≡ y
  without_it x y true true true g q = not_both refl (g refl)
  without_it x y false true true g q = not_both refl (g refl)
  without_it x y true false true g q = q
  without_it x y false false true g q = q
  without_it x y true true false g q = q
  without_it x y true false false g q = q
  without_it x y false true false g q = q
  without_it x y false false false g q = q

  -- What the look told, the count then, and the word then.
  module _ (told : Bool) (is : told ≡ bit reply lowest) (kept' count : ℕ) (one : count ≡ evaluations + 1) where
    pub lowest_kept : told ≡ true → kept' ≡ bit_or kept (1 * 2 ^ lowest % 2 ^ 64) → Evaluated states reply before (bit_and left (left - 1)) kept' count
    lowest_kept holds e = record {
      left_fits = fewer_fit;
      kept_fits = rw e (or_lt 64 kept (1 * 2 ^ lowest % 2 ^ 64) inv.kept_fits (omega arith));
      counted = rw one one_more;
      kept_bits = λ k l.
          rw (e, bit_of_or kept (1 * 2 ^ lowest % 2 ^ 64) k, shifted_one lowest lowest_fits, bit_pow lowest k, bit_cleared left k some inv.left_fits)
          (with_it (bit kept k) (bit states k && bit reply k) (bit left k) (bit reply k) (eqb k lowest) (is_left k) (is_told true (sym holds ∙ is) k) (inv.kept_bits k l));
    }

    pub lowest_dropped : told ≡ false → kept' ≡ kept → Evaluated states reply before (bit_and left (left - 1)) kept' count
    lowest_dropped fails e = record {
      left_fits = fewer_fit;
      kept_fits = rw e inv.kept_fits;
      counted = rw one one_more;
      kept_bits = λ k l.
          rw (e, bit_cleared left k some inv.left_fits)
          (without_it (bit kept k) (bit states k && bit reply k) (bit left k) (bit reply k) (eqb k lowest) (is_told false (sym fails ∙ is) k) (inv.kept_bits k l));
    }

-- A state is kept where it is in the set and the reply is true in it.
pub kept_member : (set reply : States) (s : ℕ) → member (kept_by set reply) s ≡ (member set s && member reply s)
unfolding kept_by
kept_member set reply s =
    ⊎_elim (λ (e : ltb s 256 ≡ true). member_set_of (λ t. member set t && member reply t) s (ltb-true s 256 e))
    (λ (e : ltb s 256 ≡ false).
    let above = ltb-false s 256 e in
    member_above (set_of (λ t. member set t && member reply t)) s above ∙ sym (ap (λ (b : Bool). b && member reply s) (member_above set s above)))
    (two_cases (ltb s 256))

-- A reply is possible where some state is kept.
possible_kept : (set reply : States) → exists (member reply) (members set) ≡ nonempty (members (kept_by set reply))
unfolding kept_by members
possible_kept set reply =
    sym (ap nonempty (members_set_of (λ t. member set t && member reply t) ∙ sym (keep_keep (member reply) (member set) (below 256)))
    ∙ nonempty_keep (member reply) (keep (member set) (below 256)))

-- The words kept make the set of the states kept.
pub words_kept : (set reply : States) → Fitting set → Fitting reply → (a b c d : ℕ) → a ≡ bit_and set.w0 reply.w0 → b ≡ bit_and set.w1 reply.w1
    → c ≡ bit_and set.w2 reply.w2 → d ≡ bit_and set.w3 reply.w3 → four_words a b c d ≡ kept_by set reply
unfolding kept_by
words_kept set reply fit fits a b c d ea eb ec ed =
    ap₂ (λ (x y : ℕ). four_words x y c d) ea eb ∙ ap₂ (λ (x y : ℕ). four_words (bit_and set.w0 reply.w0) (bit_and set.w1 reply.w1) x y) ec ed
    ∙ pointwise bit_and ◌&&◌ (λ x y k hx hy hk. bit_of_and x y k) (and_lt 64) set reply fit fits

-- Counted on from word to word, the evaluations are as many as the states.
pub all_evaluated : (set : States) → Fitting set → (a b c d : ℕ) → a ≡ 0 + ones set.w0 → b ≡ a + ones set.w1 → c ≡ b + ones set.w2 → d ≡ c + ones set.w3
    → d ≡ length (members set)
all_evaluated set fit a b c d ea eb ec ed = omega (arith, members_ones set fit, ea, eb, ec, ed)

-- What the pass is to answer, by its three parts.
pub passed_is : (set reply kept : States) (empty : Bool) (evaluations : ℕ) → kept ≡ kept_by set reply → empty ≡ not (nonempty (members kept)) → evaluations ≡ length (members set)
    → ◌≡◌ {A = Passed} (record { kept = kept; possible = not empty; evaluations = evaluations }) (passed_over set reply)
unfolding passed_over
passed_is set reply kept empty evaluations k e n = λ i. record { kept = k i; possible = possible i; evaluations = n i }
  where
    twice : (b : Bool) → not (not b) ≡ b
    twice true = refl
    twice false = refl

    possible : not empty ≡ exists (member reply) (members set)
    possible = ap not e ∙ twice (nonempty (members kept)) ∙ ap (λ (u : States). nonempty (members u)) k ∙ sym (possible_kept set reply)

-- Over the states possible after an action's effect the pass tells whether the step leads to some state.
pub passed_possible : (heads sets : List ℕ) (set : States) (action reply : ℕ)
    → (passed_by heads sets (effect sets (head_at heads action) set) action reply).possible ≡ nonempty (members (stepped heads sets set action reply))
unfolding passed_by passed_over stepped
passed_possible heads sets set action reply = possible_kept (effect sets (head_at heads action) set) (reply_states sets (head_at heads action) reply)
