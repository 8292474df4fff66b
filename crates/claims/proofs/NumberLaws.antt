-- The numbers of refusals: no refusal has the number 0, nor the checker's that of "no". Assumes nothing.
use Prim.Native.Nat.{ℕ, ◌≤◌, ◌<◌}
use native.Mathlib.Omega.{arith}
use native.Mathlib.Decide.{dec_lt}
use mathlib.Core.Bool.{Bool, true, false}
use mathlib.Core.List.{List, [], ◌∷◌, ◌++◌}
use mathlib.Core.Path.{◌≡◌, refl, sym, ap, ◌∙◌}
use lib.Dec.{ltb}
use lib.ListN.{length}
use Rattle.std.specs.Prelude.{if◌then◌else◌}
use Rattle.format.specs.Syntax.{Sheet, reply_count, action_of}
use Rattle.format.specs.Format.{Answer, gives, refused, on_accepted, given_or, reading}
use Rattle.format.proofs.FaultLaws.{refused_number}
use Rattle.semantics.specs.Runs.{History, entry}
use Rattle.semantics.specs.Routine.{Policy, done as over, perform, routine}
use Rattle.semantics.specs.Replies.{told, left_after, history_of, still_possible, reported_to, reported}
use Rattle.semantics.specs.Verdict.{Verified, longest_trace, LongEnough, verified}
use Rattle.semantics.specs.Checker.{checked}
use Rattle.semantics.proofs.MemoryLaws.{verified_short, verified_accepted, verified_refused}
use Rattle.semantics.proofs.CheckerLaws.{checked_number_law}
use Rattle.runner.specs.Answers.{rejection_number, bad_record}
use Rattle.runner.specs.declared.calls.Record.{Record}
use Rattle.runner.specs.Records.{held_replies, sheet_in, are_replies, passing, held_by, next_on, report_on}
use Rattle.recovery.proofs.ReadLaws.{Numbered}

pub reading_numbered : (bytes : List ℕ) → Numbered (reading bytes)
reading_numbered bytes k e = (refused_number bytes k e).0

pub checked_numbered : (sheet trace : List ℕ) (k : ℕ) → checked sheet trace ≡ refused k → (1 ≤ k) × (k < 255)
checked_numbered sheet trace k e = let n = refused_number sheet k (checked_number_law sheet trace k (sym e)) in (n.0, omega (arith, n.1))

-- Of a memory that is long enough, only a refused sheet gets a number.
pub verified_number : (bytes : List ℕ) (budget : ℕ) (old : List ℕ) → LongEnough old → (k : ℕ) → (verified bytes budget old).answer ≡ refused k → reading bytes ≡ refused k
verified_number bytes budget old enough k e = go (reading bytes) refl
  where
    go : (x : Answer Sheet) → reading bytes ≡ x → x ≡ refused k
    go (gives sheet) read =
        let d = sym e ∙ ap (λ (v : Verified). v.answer) (verified_accepted bytes sheet read budget old enough) in
        let z : ◌≡◌ {A = ℕ} 0 1 = cc in absurd (omega arith)
    go (refused r) read = let d = sym e ∙ ap (λ (v : Verified). v.answer) (verified_refused bytes r read budget old enough) in cc

-- A short memory gets 30, and nothing else does: no sheet is refused with it.
pub short_thirty : (bytes : List ℕ) (budget : ℕ) (old : List ℕ) → length old < longest_trace → (verified bytes budget old).answer ≡ refused 30
short_thirty bytes budget old l = ap (λ (x : Verified). x.answer) (verified_short bytes budget old l)

pub thirty_short : (bytes : List ℕ) (budget : ℕ) (old : List ℕ) → (verified bytes budget old).answer ≡ refused 30 → LongEnough old → ⊥
thirty_short bytes budget old e enough = omega (arith, (refused_number bytes 30 (verified_number bytes budget old enough 30 e)).1)

-- Every refusal of the verifier has a number above 0.
pub verified_numbered : (bytes : List ℕ) (budget : ℕ) (old : List ℕ) → Numbered (verified bytes budget old).answer
verified_numbered bytes budget old k e = elim (dec_lt (length old) longest_trace) [
  | yes l ↦ let d : refused 30 ≡ refused k = sym (short_thirty bytes budget old l) ∙ e in let same : 30 ≡ k = cc in omega (arith, same)
  | no g ↦ (refused_number bytes k (verified_number bytes budget old (omega (arith, g)) k e)).0
]

-- The refusal of a record is 31,
passing_numbered : {A : Type 0} (test : A → Bool) (a : Answer A) → Numbered (passing test a)
unfolding passing given_or rejection_number
passing_numbered test (refused r) k e = let same : 31 ≡ k = cc in omega (arith, same)
passing_numbered {A} test (gives x) k e = go (test x) e
  where
    go : (b : Bool) → (if b then gives x else bad_record) ≡ refused k → 1 ≤ k
    go true d = let z : ◌≡◌ {A = ℕ} 0 1 = cc in absurd (omega arith)
    go false d = let same : 31 ≡ k = cc in omega (arith, same)

held_numbered : (r : Record) → Numbered (held_by r)
unfolding held_by
held_numbered r = passing_numbered (λ sheet. are_replies sheet r.replies r.count) (sheet_in r)

-- and a report's are 31 to 34.
on_numbered : {A B : Type 0} (f : A → Answer B) (a : Answer A) → Numbered a → ((x : A) → Numbered (f x)) → Numbered (on_accepted f a)
unfolding on_accepted
on_numbered f (gives x) h m k e = m x k e
on_numbered f (refused r) h m k e = let same : r ≡ k = cc in omega (arith, h r refl, same)

reported_numbered : (sheet : Sheet) (rs : List ℕ) (x : ℕ) → Numbered (reported sheet rs x)
unfolding reported reported_to
reported_numbered sheet rs x k e = go (left_after (routine sheet) rs) (history_of (routine sheet) rs) e
  where
    tests : (b c : Bool) → (if b then (if c then gives (rs ++ (x ∷ [])) else refused 34) else refused 33) ≡ refused k → 1 ≤ k
    tests true true d = let z : ◌≡◌ {A = ℕ} 0 1 = cc in absurd (omega arith)
    tests true false d = let same : 34 ≡ k = cc in omega (arith, same)
    tests false c d = let same : 33 ≡ k = cc in omega (arith, same)

    go : (p : Policy) (h : History) → reported_to sheet p h rs x ≡ refused k → 1 ≤ k
    go over h d = let same : 32 ≡ k = cc in omega (arith, same)
    go (perform a after) h d = tests (ltb x (reply_count (action_of sheet a))) (still_possible sheet h (entry a x)) d

pub next_numbered : (r : Record) → Numbered (next_on r)
unfolding next_on
next_numbered r = on_numbered (λ sheet. gives (told sheet (held_replies r))) (held_by r) (held_numbered r) (λ sheet k e. let z : ◌≡◌ {A = ℕ} 0 1 = cc in absurd (omega arith))

pub report_numbered : (r : Record) (x : ℕ) → Numbered (report_on r x)
unfolding report_on
report_numbered r x = on_numbered (λ sheet. reported sheet (held_replies r) x) (held_by r) (held_numbered r) (λ sheet. reported_numbered sheet (held_replies r) x)
