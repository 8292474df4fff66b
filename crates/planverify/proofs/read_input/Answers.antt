-- `read_input` meets its contract. Assumes nothing.
use native.Mathlib.Omega.{arith}
use mathlib.Core.Path.{ap, ◌∙◌}
use Rattle.std.proofs.Common.{rules, Ok}
use Rattle.planverify.proofs.InputLaws.{next_more, next_over}
use Rattle.planverify.proofs.read_input.Goals as goal

pub loop-n-smaller : goal.loop-n-smaller
loop-n-smaller c = let n = next_more _ _ _ _ (search rules) c.after.ensures _ (c.in_ok-n.was ∙ ap Ok c.in-Continue.is) in omega (arith, n.0, n.1)

pub loop-n-preserved : goal.loop-n-preserved
loop-n-preserved c = let n = next_more _ _ _ _ (search rules) c.after.ensures _ (c.in_ok-n.was ∙ ap Ok c.in-Continue.is) in omega (arith, n.0, n.1)

pub returns-in-Break : goal.returns-in-Break
returns-in-Break c = let n = next_over _ _ _ _ (search rules) c.after.ensures _ (c.in_ok-n.was ∙ ap Ok c.in-Break.is) in omega (arith, n)
