-- `runner::all_zero` meets its contract. Assumes nothing.
use mathlib.Core.Path.{sym, ◌∙◌}
use native.Mathlib.Omega.{arith}
use Rattle.runner.proofs.RecordLaws.{zero_no, zero_yes, zero_end}
use Rattle.runner.proofs.walk.all_zero.Goals as goal

pub returns-then-byte-ne0 : goal.returns-then-byte-ne0
returns-then-byte-ne0 c = let a = c in sym (a.loop-byte.invariant ∙ zero_no a.args.bytes.now a.loop-byte.byte-index a.loop-byte-test.true c.if-byte-ne0.true)

pub loop-byte-preserved : goal.loop-byte-preserved
loop-byte-preserved c = let a = c in a.loop-byte.invariant ∙ zero_yes a.args.bytes.now a.loop-byte.byte-index a.loop-byte-test.true c.if-byte-ne0.false

pub returns : goal.returns
returns c = let a = c in sym (a.loop-byte.invariant ∙ zero_end a.args.bytes.now a.loop-byte.byte-index (omega arith))
