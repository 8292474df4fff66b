-- `runner::copied` meets its contract. The loop's invariant: the bytes before the index are copied, and zeros stand behind them. Assumes nothing.
use mathlib.Core.Path.{◌≡◌}
use mathlib.Core.List.{◌++◌}
use Prim.Native.Nat.{◌-◌}
use lib.ListN.{take, replicate}
use Rattle.format.specs.Format.{most_bytes}
use Rattle.runner.proofs.calls.copied.Given as goal

abbrev pub invariant-loop-i : goal.invariant-loop-i
invariant-loop-i l = l.to ≡ take l.i l.bytes ++ replicate (most_bytes - l.i) 0
