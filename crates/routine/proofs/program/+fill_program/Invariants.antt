-- `routine::program::fill_program` meets its contract. The measure is what is left of the sheet. Assumes nothing.
use Prim.Native.Nat.{◌-◌, ◌*◌}
use lib.ListN.{length}
use Rattle.routine.proofs.program.+fill_program.Given as goal

abbrev pub decreases-fill_program : goal.decreases-fill_program
decreases-fill_program l = 8 * length l.packed.now - l.from.at
