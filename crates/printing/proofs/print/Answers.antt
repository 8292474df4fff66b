-- `print` meets its contract: the lines are those of the verifier's answer and its trace memory. Assumes nothing.
use Prim.Native.Nat.{ℕ}
use mathlib.Core.Path.{refl}
use native.Mathlib.Omega.{arith}
use borrow.Author.Rules.{rules}
use lib.ListN.{replicate, length-replicate}
use Rattle.semantics.specs.Verdict.{longest_trace, LongEnough}
use Rattle.verifier.proofs.AnswerLaws.{parts}
use Rattle.printing.proofs.PrintLaws.{verdict_printable, lines_printed}
use Rattle.printing.proofs.print.Goals as goal

-- The trace memory has just the bytes of the longest trace.
enough : LongEnough (replicate longest_trace 0)
enough = omega (arith, length-replicate {A = ℕ} longest_trace 0)

pub put_lines-requires : goal.put_lines-requires
put_lines-requires c =
    let v = parts _ _ _ c.verify-answer.ensures in
    (refl, verdict_printable _ _ _ _ v.0)

pub returns : goal.returns
returns c =
    let v = parts _ _ _ c.verify-answer.ensures in
    let q = lines_printed _ _ enough _ _ v.0 v.1 _ _ c.put_lines.ensures in
    (q.0, search (rules, q.1), c.put_lines.ensures.within)
