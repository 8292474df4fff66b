-- What `main` writes are the lines for the input: the first bytes of their array. Assumes nothing.
use Prim.Native.Nat.{ℕ}
use lib.ListN.{length-replicate}
use Rattle.semantics.specs.Printing.{most_lines}
use Rattle.printing.proofs.LineLaws.{lines_first}
use Rattle.planverify.proofs.main.Goals as goal

pub put_lines-requires : goal.put_lines-requires
put_lines-requires c =
    let p = c.lines_for-length.ensures in
    (lines_first _ _ _ _ p.0 p.1 p.2 (length-replicate {A = ℕ} most_lines 0)).0
