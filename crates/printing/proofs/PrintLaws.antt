-- What `print` writes is what is printed for the sheet. Assumes nothing.
use Prim.Native.Nat.{ℕ, ◌+◌, ◌*◌}
use mathlib.Core.Path.{◌≡◌, refl, sym, ap, ap₂, ◌∙◌}
use mathlib.Core.List.{List}
use native.Mathlib.Omega.{arith}
use lib.ListN.{length, take}
use Rattle.format.specs.Syntax.{Sheet}
use Rattle.format.specs.Format.{Answer, gives, refused, on_accepted, reading}
use Rattle.semantics.specs.Verdict.{Verdict as Meant, valid, invalid, stopped, outcome, outcome_of, verdict_of, shown_by, written, Verified, LongEnough, verified}
use Rattle.semantics.specs.Printing.{printed_for, printed}
use Rattle.semantics.proofs.MemoryLaws.{verified_accepted, verified_refused, begins, invalid_short}
use Rattle.lists.specs.Lists.{write}
use Rattle.std.specs.Prelude.{Result, Ok, Err}
use Rattle.std.specs.Borrow.{MutBor}
use Rattle.verifier.specs.declared.verdict.Verdict.{Verdict}
use Rattle.verifier.specs.declared.verdict.VerifyError.{VerifyError}
use Rattle.verifier.specs.Answers.{answer_of}
use Rattle.printing.specs.declared.text.Text.{Text}
use Rattle.printing.specs.Lines.{Appended, shown_in, Printable}

module _ (bytes : List ℕ) (budget : ℕ) (old : List ℕ) where
  -- A verdict on a sheet shows at most 64 actions.
  pub verdict_printable : (r : Result Verdict VerifyError) → answer_of r ≡ (verified bytes budget old).answer → Printable r
  unfolding answer_of Printable
  verdict_printable (Ok (Verdict.Valid c)) e = tt
  verdict_printable (Ok (Verdict.Invalid c l)) e = invalid_short bytes budget old c l (sym e)
  verdict_printable (Ok (Verdict.Stopped b)) e = tt
  verdict_printable (Err error) e = tt

-- Only "invalid" prints a trace: 1 + 2L bytes of a memory, if they are the trace that is shown.
in_memory : (v : Meant) (shown memory : List ℕ) → ((c l : ℕ) → v ≡ invalid c l → take (1 + 2 * l) memory ≡ shown)
    → printed_for (gives v) (shown_in (gives v) memory) ≡ printed_for (gives v) shown
unfolding printed_for shown_in
in_memory (valid c) shown memory k = refl
in_memory (invalid c l) shown memory k = rw (k c l refl)
in_memory (stopped b) shown memory k = refl

-- What is printed is what a call's answer prints with the trace in the memory after it, whatever the memory held before.
abbrev said : Verified → List ℕ
said v = printed_for v.answer (shown_in v.answer v.memory)

module _ (bytes old : List ℕ) (enough : LongEnough old) where
  pub said_printed : said (verified bytes 1_000_000 old) ≡ printed bytes
  unfolding printed outcome_of on_accepted verdict_of shown_by printed_for
  said_printed = go (reading bytes) refl
    where
      go : (a : Answer Sheet) → reading bytes ≡ a
          → said (verified bytes 1_000_000 old) ≡ (let o = on_accepted (λ (sheet : Sheet). gives (outcome sheet 1_000_000)) a in printed_for (verdict_of o) (shown_by o))
      go (refused r) e = ap said (verified_refused bytes r e 1_000_000 old enough)
      go (gives sheet) e =
          ap said (verified_accepted bytes sheet e 1_000_000 old enough)
          ∙ in_memory (outcome sheet 1_000_000).verdict (outcome sheet 1_000_000).shown (written (outcome sheet 1_000_000).shown old) (λ c l k. begins bytes sheet e 1_000_000 c l k old)

  -- So it is of the code's verdict and memory.
  module _ (r : Result Verdict VerifyError) (memory : List ℕ) (answered : answer_of r ≡ (verified bytes 1_000_000 old).answer) (kept : memory ≡ (verified bytes 1_000_000 old).memory) where
    prints : printed_for (answer_of r) (shown_in (answer_of r) memory) ≡ printed bytes
    prints = ap₂ (λ (a : Answer Meant) (m : List ℕ). printed_for a (shown_in a m)) answered kept ∙ said_printed

    pub lines_printed : (out : MutBor (List ℕ)) (text : Text) → Appended (record { bytes = out; length = 0 }) text (printed_for (answer_of r) (shown_in (answer_of r) memory))
        → (text.length ≡ length (printed bytes)) × (text.bytes.now ≡ write out.now 0 (printed bytes))
    lines_printed out text p = (omega (arith, p.longer, ap length prints), p.written ∙ ap (write out.now 0) prints)
