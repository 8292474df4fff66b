-- What `main` writes is the line of a stream of bytes that leads to its state: the first bytes of their array. Assumes nothing.
use Prim.Native.Nat.{ℕ}
use lib.ListN.{length-replicate}
use Rattle.semantics.specs.Printing.{most_lines}
use Rattle.printing.proofs.LineLaws.{lines_first}
use Rattle.planfigures.proofs.InputLaws.{line_for_stream}
use Rattle.planfigures.proofs.main.Goals as goal

pub put_line-requires : goal.put_line-requires
put_line-requires c =
    let p = c.line_for-length.ensures in
    line_for_stream _ _ c.read_input-input.ensures (lines_first _ _ _ _ p.0 p.1 p.2 (length-replicate {A = ℕ} most_lines 0)).0
