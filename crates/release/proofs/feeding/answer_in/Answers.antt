-- `answer_in` meets its contract: one that is too long is refused by its length, any other is verified. Assumes nothing.
use Rattle.std.proofs.Common.{ℕ, replicate, sym, ◌∙◌, arith}
use lib.ListN.{length-replicate}
use Rattle.semantics.specs.Verdict.{longest_trace, LongEnough}
use Rattle.release.proofs.FramingLaws.{gathered_size}
use Rattle.release.proofs.FeedLaws.{sheet_kept_law, answered_long, answered_verified}
use Rattle.release.proofs.feeding.answer_in.Goals as goal

-- The trace memory has just the bytes of the longest trace.
enough : LongEnough (replicate longest_trace 0)
enough = omega (arith, length-replicate {A = ℕ} longest_trace 0)

pub returns-then-size-gt-BYTES : goal.returns-then-size-gt-BYTES
returns-then-size-gt-BYTES c bytes e all = let size = c.size-size.ensures.0 ∙ gathered_size _ bytes e in
    answered_long bytes _ _ _ _ all (omega (arith, size, c.if-size-gt-BYTES.true))

pub returns : goal.returns
returns c bytes e all = let v = c.verify_in.ensures in
    let s = c in
    let size = s.size-size.ensures.0 ∙ gathered_size _ bytes e in
    let given = sheet_kept_law _ bytes s.size-size.result e (size ∙ sym all) c.if-size-gt-BYTES.false in
    answered_verified bytes _ _ _ _ _ _ _ _ _ _ _ _ given enough v.0 v.1 v.2
