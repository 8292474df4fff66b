-- The trace memory after a call of the verifier, for all arguments. Assumes nothing.
use Prim.Native.Nat.{ℕ, ◌+◌, ◌*◌, ◌≤◌, ◌<◌}
use mathlib.Core.Path.{◌≡◌, refl, sym, ap, ◌∙◌}
use mathlib.Core.Logic.{◌⊎◌, inl, inr, ⊎_elim}
use mathlib.Core.List.{List, [], ◌++◌}
use mathlib.Core.Bool.{Bool, true, false}
use native.Mathlib.Omega.{arith}
use lib.Dec.{ltb}
use lib.ListN.{length, take, drop, length-append, length-drop}
use lib.Seq.{take_at}
use borrow.Author.Tests.{ltb-false, lt-ltb, le-ltb}
use Rattle.std.specs.Prelude.{if◌then◌else◌}
use Rattle.format.specs.Syntax.{Sheet}
use Rattle.format.specs.Format.{Answer, gives, refused, on_accepted, reading}
use Rattle.semantics.specs.Routine.{Failing, Full, Following}
use Rattle.semantics.specs.Verdict.{Verdict, history_count, trace, invalid, outcome, written, outcome_of, verdict_of, shown_by, Verified, longest_trace, LongEnough, admitted, verified, short_memory}
use Rattle.semantics.proofs.VerdictLaws.{Shown, invalid_means, none_shown}
use Rattle.semantics.proofs.AcceptedLaws.{starts, actions_most, trace_length, trace_most}

-- Where the memory is long enough the sheet decides; else it is 30.
pub admitted_long : (bytes old : List ℕ) → LongEnough old → admitted bytes old ≡ reading bytes
unfolding admitted
admitted_long bytes old enough = rw (le-ltb (length old) longest_trace enough)

pub admitted_short : (bytes old : List ℕ) → length old < longest_trace → admitted bytes old ≡ short_memory
unfolding admitted
admitted_short bytes old l = rw (lt-ltb (length old) longest_trace l)

-- A call's answer and memory for what was read.
abbrev judged : (budget : ℕ) (old : List ℕ) → Answer Sheet → Verified
judged budget old a = record { answer = verdict_of (outcome_of a budget); memory = written (shown_by (outcome_of a budget)) old }

-- 30 leaves the memory as it was.
pub verified_short : (bytes : List ℕ) (budget : ℕ) (old : List ℕ) → length old < longest_trace → verified bytes budget old ≡ record { answer = short_memory; memory = old }
unfolding verified outcome_of on_accepted verdict_of shown_by written
verified_short bytes budget old l = ap (judged budget old) (admitted_short bytes old l)

-- The answer and the memory for an accepted sheet, where the memory is long enough.
module _ (bytes : List ℕ) (sheet : Sheet) (read : reading bytes ≡ gives sheet) (budget : ℕ) (old : List ℕ) (enough : LongEnough old) where
  pub verified_accepted : verified bytes budget old ≡ record { answer = gives (outcome sheet budget).verdict; memory = written (outcome sheet budget).shown old }
  unfolding verified outcome_of on_accepted verdict_of shown_by written
  verified_accepted = ap (judged budget old) (admitted_long bytes old enough ∙ read)

pub verified_refused : (bytes : List ℕ) (r : ℕ) → reading bytes ≡ refused r → (budget : ℕ) (old : List ℕ) → LongEnough old → verified bytes budget old ≡ record { answer = refused r; memory = old }
unfolding verified outcome_of on_accepted verdict_of shown_by written
verified_refused bytes r e budget old enough = ap (judged budget old) (admitted_long bytes old enough ∙ e)

-- Bytes that are read alike are verified alike.
pub verified_alike : (one two : List ℕ) → reading one ≡ reading two → (budget : ℕ) (old : List ℕ) → verified one budget old ≡ verified two budget old
unfolding verified admitted
verified_alike one two e budget old = ap (λ (a : Answer Sheet). judged budget old (if ltb (length old) longest_trace then short_memory else a)) e

-- An "invalid" outcome shows 1 + 2L bytes, with which the memory then begins.
module _ (bytes : List ℕ) (sheet : Sheet) (read : reading bytes ≡ gives sheet) (budget c l : ℕ) (invalid_is : (outcome sheet budget).verdict ≡ invalid c l) where
  shown_length : length (outcome sheet budget).shown ≡ 1 + 2 * l
  unfolding Failing Full Following
  shown_length =
      let q = invalid_means sheet (starts bytes sheet read) budget c l invalid_is in
      ap length q.2.4 ∙ omega (arith, trace_length sheet q.2.0 q.2.1 q.2.2.0.0.0, q.2.3)

  pub begins : (old : List ℕ) → take (1 + 2 * l) (written (outcome sheet budget).shown old) ≡ (outcome sheet budget).shown
  unfolding written
  begins old = take_at (outcome sheet budget).shown (drop (length (outcome sheet budget).shown) old) (1 + 2 * l) shown_length

-- A call leaves the memory as it was and doesn't answer "invalid"; or it answers "invalid", and the memory, of the same length, holds the least failing trace
-- followed by its old bytes.
abbrev pub Kept : (bytes old : List ℕ) → Verified → Type 0
Kept bytes old v = ((v.memory ≡ old) × ((c l : ℕ) → v.answer ≡ gives (invalid c l) → ⊥))
    ⊎ ((sheet : Sheet) × (l : ℕ) × (shown : List ℕ) × (reading bytes ≡ gives sheet) × (v.answer ≡ gives (invalid (history_count sheet) l)) × Shown sheet l shown
    × (v.memory ≡ shown ++ drop (length shown) old) × (length shown ≡ 1 + 2 * l) × (length v.memory ≡ length old))

module _ (bytes : List ℕ) (sheet : Sheet) (read : reading bytes ≡ gives sheet) (budget : ℕ) (old : List ℕ) (enough : LongEnough old) where
  accepted_kept : Kept bytes old (record { answer = gives (outcome sheet budget).verdict; memory = written (outcome sheet budget).shown old })
  unfolding written Failing Full Following
  accepted_kept = ⊎_elim none some (none_shown sheet budget)
    where
      none : ((outcome sheet budget).shown ≡ []) × ((c l : ℕ) → (outcome sheet budget).verdict ≡ invalid c l → ⊥)
          → Kept bytes old (record { answer = gives (outcome sheet budget).verdict; memory = written (outcome sheet budget).shown old })
      none e = inl (rw e.0, λ c l k. e.1 c l cc)

      some : (c : ℕ) × (l : ℕ) × ((outcome sheet budget).verdict ≡ invalid c l)
          → Kept bytes old (record { answer = gives (outcome sheet budget).verdict; memory = written (outcome sheet budget).shown old })
      some v =
          let q = invalid_means sheet (starts bytes sheet read) budget v.0 v.1 v.2 in
          let h = q.2.0 in
          let run = q.2.1 in
          let f = q.2.2 in
          let shown : (outcome sheet budget).shown ≡ trace h run = q.2.4 in
          inr (
            sheet,
            v.1,
            (outcome sheet budget).shown,
            read,
            ap gives (v.2 ∙ ap (λ (c : ℕ). invalid c v.1) q.1),
            q.2,
            refl,
            shown_length bytes sheet read budget v.0 v.1 v.2,
            rw (length-append, length-drop) (omega (arith, ap length shown, trace_most bytes sheet read h run f.0.0)),
          )

-- So it is after every call on every input.
pub memory_kept : (bytes : List ℕ) (budget : ℕ) (old : List ℕ) → Kept bytes old (verified bytes budget old)
unfolding verified admitted outcome_of on_accepted verdict_of shown_by written
memory_kept bytes budget old = go (ltb (length old) longest_trace) refl (reading bytes) refl
  where
    no_verdict : (r : ℕ) (v : Verdict) → ◌≡◌ {A = Answer Verdict} (refused r) (gives v) → ⊥
    no_verdict r v e = let z : ◌≡◌ {A = ℕ} 0 1 = cc in omega arith

    go : (b : Bool) → ltb (length old) longest_trace ≡ b → (r : Answer Sheet) → reading bytes ≡ r
        → Kept bytes old (judged budget old (if b then short_memory else r))
    go true t r e = inl (refl, λ c l k. no_verdict 30 (invalid c l) k)
    go false t (refused r) e = inl (refl, λ c l k. no_verdict r (invalid c l) k)
    go false t (gives sheet) e = accepted_kept bytes sheet e budget old (ltb-false (length old) longest_trace t)

-- The memory keeps its length, and the history of an "invalid" answer has at most 64 actions.
pub memory_length : (bytes : List ℕ) (budget : ℕ) (old : List ℕ) → length (verified bytes budget old).memory ≡ length old
memory_length bytes budget old = ⊎_elim (λ k. ap length k.0) (λ k. k.8) (memory_kept bytes budget old)

pub invalid_short : (bytes : List ℕ) (budget : ℕ) (old : List ℕ) (c l : ℕ) → (verified bytes budget old).answer ≡ gives (invalid c l) → l ≤ 64
unfolding Failing Full Following
invalid_short bytes budget old c l e =
    ⊎_elim (λ k. absurd (k.1 c l e))
    (λ k.
    let same : l ≡ k.1 = let d = sym e ∙ k.4 in cc in
    let shown = k.5 in
    omega (arith, same, shown.3, actions_most bytes k.0 k.3 shown.0 shown.2.0.0.1))
    (memory_kept bytes budget old)
