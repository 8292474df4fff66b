-- Demand 1 follows from the contracts: what a call leaves. Assumes nothing.
use Prim.Native.Nat.{ℕ, ◌<◌}
use native.Mathlib.Omega.{arith}
use native.Mathlib.Decide.{dec_lt}
use mathlib.Core.Path.{◌≡◌, refl, sym, ap, subst, ◌∙◌}
use mathlib.Core.Logic.{◌⊎◌, inl, inr, ⊎_elim, ◌↔◌}
use mathlib.Core.List.{List, [], ◌++◌}
use lib.ListN.{length, drop}
use Rattle.format.specs.Syntax.{Sheet}
use Rattle.format.specs.Format.{Answer, gives, refused, given_or, reading}
use Rattle.reader.specs.Answers.{without_value}
use Rattle.reader.proofs.AnswerLaws.{was_refused}
use Rattle.semantics.specs.Verdict.{Verified, history_count, invalid, longest_trace, LongEnough, admitted, verified, short_memory}
use Rattle.semantics.proofs.MemoryLaws.{admitted_short, admitted_long, verified_short, verified_refused, memory_kept}
use Rattle.semantics.proofs.CheckerLaws.{checked_number_law}
use Rattle.routine.specs.Tables.{prepared}
use Rattle.verifier.specs.Answers.{cleared}
use Rattle.runner.specs.Records.{record_of, zeros, loaded, held_sheet, next_on, report_on, record_after}
use Rattle.runner.specs.declared.calls.Record.{Record}
use Rattle.runner.specs.Calls.{Form, own, lent}
use Rattle.recovery.specs.Numbers.{memory_after, told_numbers, start_words, verdict_numbers}
use Rattle.recovery.specs.Arguments.{Tables, tables_after}
use Rattle.claims.specs.Library.{Library, Gave, ToVerify, AfterVerify, ToCheck, AfterCheck, ToPrepare, AfterPrepare, ToLoad, AfterLoad, ToNext, AfterNext, ToReport, AfterReport}
use Rattle.claims.specs.Terms.{OnlyOldBytes, FailingTrace, AsBefore, tables_left, memo_left, verified_as, checked_as, prepared_as, loaded_as, told_as, reported_as}
use Rattle.claims.proofs.NumberLaws.{verified_number, short_thirty, thirty_short}
use Rattle.claims.proofs.Contracts.{Contracts}

-- A refusal writes nothing.
tables_kept : (form : Form) (answer : Answer Sheet) (k : ℕ) → answer ≡ refused k → (t : Tables) → tables_left form answer t ≡ t
unfolding tables_left prepared given_or
tables_kept own answer k e t = refl
tables_kept lent answer k e t = ap (λ (a : Answer Sheet). tables_after a t) e

memo_kept : (form : Form) (answer : Answer Sheet) (k : ℕ) → answer ≡ refused k → (memo : List ℕ) → memo_left form answer memo ≡ memo
unfolding memo_left cleared given_or
memo_kept own answer k e memo = refl
memo_kept lent answer k e memo = ap (λ (a : Answer Sheet). cleared a memo) e

numbers_kept : {A : Type 0} (numbers : A → List ℕ) (a : Answer A) (k : ℕ) → a ≡ refused k → (old : List ℕ) → memory_after numbers a old ≡ old
unfolding memory_after given_or
numbers_kept numbers a k e old = ap (λ (x : Answer _). memory_after numbers x old) e

-- A refusal of the verifier is one of what it admits, and leaves the trace memory.
verify_kept : (sheet : List ℕ) (budget : ℕ) (old : List ℕ) (k : ℕ) → (verified sheet budget old).answer ≡ refused k → (admitted sheet old ≡ refused k) × ((verified sheet budget old).memory ≡ old)
verify_kept sheet budget old k e = elim (dec_lt (length old) longest_trace) [
  | yes l ↦
      let d : refused 30 ≡ refused k = sym (short_thirty sheet budget old l) ∙ e in
      let same : 30 ≡ k = cc in
      (admitted_short sheet old l ∙ ap refused same, ap (λ (v : Verified). v.memory) (verified_short sheet budget old l))
  | no g ↦
      let enough : LongEnough old = omega (arith, g) in
      let r = verified_number sheet budget old enough k e in
      (admitted_long sheet old enough ∙ r, ap (λ (v : Verified). v.memory) (verified_refused sheet k r budget old enough))
]

-- The trace memory after the verifier's answer.
verified_holds : (form : Form) (x : ToVerify) → OnlyOldBytes x (verified_as form x) ⊎ FailingTrace x (verified_as form x)
unfolding OnlyOldBytes verified_as
verified_holds form x =
    ⊎_elim (λ k. inl k)
    (λ k.
    let shown = k.5 in
    inr (record {
      sheet = k.0;
      history = shown.0;
      run = shown.1;
      read = k.3;
      failing = shown.2;
      said = k.4 ∙ ap (λ (l : ℕ). gives (invalid (history_count k.0) l)) (sym shown.3);
      shown = k.6 ∙ ap (λ (bytes : List ℕ). bytes ++ drop (length bytes) x.trace) shown.4;
      as_long = k.8;
    }))
    (memory_kept x.sheet x.budget x.trace)

-- A refused report changes no record.
report_kept : (r : Record) (x n : ℕ) → without_value (report_on r x) ≡ refused n → record_after r x ≡ r
unfolding record_after given_or
report_kept r x n e = ap (given_or r (record_of (held_sheet r))) (was_refused (report_on r x) n (sym e))

module _ {ℓ} (library : Library {ℓ}) (contracts : Contracts library) where
  pub memory_holds : (form : Form) (x : ToVerify) (y : AfterVerify) → Gave (library.verify form) x y → OnlyOldBytes x y ⊎ FailingTrace x y
  memory_holds form x y g = subst (λ (z : AfterVerify). OnlyOldBytes x z ⊎ FailingTrace x z) (sym (contracts.verify_contract form x y g)) (verified_holds form x)

  pub next_keeps : (form : Form) (x : ToNext) (y : AfterNext) → Gave (library.next form) x y → y.kept ≡ x.kept
  unfolding told_as
  next_keeps form x y g = ap (λ (z : AfterNext). z.kept) (contracts.next_contract form x y g)

  pub report_keeps : (form : Form) (x : ToReport) (y : AfterReport) → Gave (library.report form) x y → (n : ℕ) → y.answer ≡ refused n → y.kept ≡ x.kept
  unfolding reported_as
  report_keeps form x y g n e =
      let f = contracts.report_contract form x y g in
      ap (λ (z : AfterReport). z.kept) f ∙ report_kept x.kept x.reply n (sym (ap (λ (z : AfterReport). z.answer) f) ∙ e)

  pub next_refused : (form : Form) (x : ToNext) (y : AfterNext) → Gave (library.next form) x y → (n : ℕ) → y.answer ≡ refused n → y.told ≡ x.told
  unfolding told_as
  next_refused form x y g n e =
      let f = contracts.next_contract form x y g in
      ap (λ (z : AfterNext). z.told) f ∙ numbers_kept told_numbers (next_on x.kept) n (sym (ap (λ (z : AfterNext). z.answer) f) ∙ e) x.told

  pub verify_refused : (form : Form) (x : ToVerify) (y : AfterVerify) → Gave (library.verify form) x y → (n : ℕ) → y.answer ≡ refused n → AsBefore x y
  unfolding AsBefore verified_as
  verify_refused form x y g n e =
      let f = contracts.verify_contract form x y g in
      let r = sym (ap (λ (z : AfterVerify). z.answer) f) ∙ e in
      let k = verify_kept x.sheet x.budget x.trace n r in (
        ap (λ (z : AfterVerify). z.trace) f ∙ k.1,
        ap (λ (z : AfterVerify). z.verdict) f ∙ numbers_kept verdict_numbers (verified x.sheet x.budget x.trace).answer n r x.verdict,
        ap (λ (z : AfterVerify). z.tables) f ∙ tables_kept form (admitted x.sheet x.trace) n k.0 x.tables,
        ap (λ (z : AfterVerify). z.memo) f ∙ memo_kept form (admitted x.sheet x.trace) n k.0 x.memo,
      )

  pub check_refused : (form : Form) (x : ToCheck) (y : AfterCheck) → Gave (library.check form) x y → (n : ℕ) → y.answer ≡ refused n → y.tables ≡ x.tables
  unfolding checked_as
  check_refused form x y g n e =
      let f = contracts.check_contract form x y g in
      let r = checked_number_law x.sheet x.trace n (sym e ∙ ap (λ (z : AfterCheck). z.answer) f) in
      ap (λ (z : AfterCheck). z.tables) f ∙ tables_kept form (reading x.sheet) n r x.tables

  pub prepare_refused : (x : ToPrepare) (y : AfterPrepare) → Gave library.prepare x y → (n : ℕ) → y.answer ≡ refused n → (y.tables ≡ x.tables) × (y.start ≡ x.start)
  unfolding prepared_as tables_left
  prepare_refused x y g n e =
      let f = contracts.prepare_contract x y g in
      let r = was_refused (reading x.sheet) n (sym e ∙ ap (λ (z : AfterPrepare). z.answer) f) in
      (ap (λ (z : AfterPrepare). z.tables) f ∙ tables_kept lent (reading x.sheet) n r x.tables, ap (λ (z : AfterPrepare). z.start) f ∙ numbers_kept start_words (reading x.sheet) n r x.start)

  pub load_refused : (form : Form) (x : ToLoad) (y : AfterLoad) → Gave (library.load form) x y → (n : ℕ) → y.answer ≡ refused n → (y.kept ≡ zeros) × (y.tables ≡ x.tables)
  unfolding loaded_as loaded given_or
  load_refused form x y g n e =
      let f = contracts.load_contract form x y g in
      let r = was_refused (reading x.sheet) n (sym e ∙ ap (λ (z : AfterLoad). z.answer) f) in
      (ap (λ (z : AfterLoad). z.kept) f ∙ ap (given_or zeros (λ (sheet : Sheet). record_of x.sheet [])) r, ap (λ (z : AfterLoad). z.tables) f ∙ tables_kept form (reading x.sheet) n r x.tables)

  pub short_exactly : (form : Form) (x : ToVerify) (y : AfterVerify) → Gave (library.verify form) x y → (y.answer ≡ short_memory) ↔ (LongEnough x.trace → ⊥)
  unfolding verified_as
  short_exactly form x y g =
      let f = ap (λ (z : AfterVerify). z.answer) (contracts.verify_contract form x y g) in (
        λ e. thirty_short x.sheet x.budget x.trace (sym f ∙ e),
        λ short. f ∙ short_thirty x.sheet x.budget x.trace (not_long x.trace short),
      )
    where
      not_long : (old : List ℕ) → (LongEnough old → ⊥) → length old < longest_trace
      not_long old short = elim (dec_lt (length old) longest_trace) [
        | yes l ↦ l
        | no n ↦ absurd (short (omega (arith, n)))
      ]
