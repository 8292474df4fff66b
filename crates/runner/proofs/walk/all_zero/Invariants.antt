-- `runner::all_zero` meets its contract. The loop's invariant: every byte is 0 if every byte that is left is. Assumes nothing.
use mathlib.Core.Path.{◌≡◌}
use lib.ListN.{drop}
use Rattle.runner.specs.Records.{are_zero}
use Rattle.runner.proofs.walk.all_zero.Given as goal

abbrev pub invariant-loop-byte : goal.invariant-loop-byte
invariant-loop-byte l = are_zero l.bytes ≡ are_zero (drop l.byte-index l.bytes)
