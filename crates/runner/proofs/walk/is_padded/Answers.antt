-- `walk::is_padded` meets its contract: the length is tested, and the bytes past it decide. Assumes nothing.
use mathlib.Core.Path.{refl, sym, ap, ◌∙◌}
use Rattle.runner.specs.Records.{are_zero}
use Rattle.runner.proofs.RecordLaws.{part_rest, too_long, rest_decides}
use Rattle.runner.proofs.walk.is_padded.Goals as goal

pub returns-then-bytes-n : goal.returns-then-bytes-n
returns-then-bytes-n c = sym (too_long _ _ _ c.if-bytes-n.true)

pub returns : goal.returns
returns c = let start = c in c.all_zero.ensures ∙ ap are_zero (part_rest _ start.args.n start.args.bytes.now refl) ∙ sym (rest_decides _ _ _ c.if-bytes-n.false)
