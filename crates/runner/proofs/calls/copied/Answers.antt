-- `runner::copied` meets its contract. Assumes nothing.
use mathlib.Core.Path.{◌∙◌}
use native.Mathlib.Omega.{arith}
use Rattle.format.specs.Format.{most_bytes}
use Rattle.runner.proofs.RecordLaws.{pad_end}
use Rattle.runner.proofs.calls.copied.Goals as goal

pub returns : goal.returns
returns c = let a = c in a.loop-i.invariant ∙ pad_end most_bytes a.args.bytes.now a.loop-i.i (omega arith)
