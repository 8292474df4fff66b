-- `reader::program::read_program` meets its contract, by recursion on the levels left. Assumes nothing.
use Rattle.reader.proofs.program.+read_program.Given as goal

abbrev pub decreases-read_program : goal.decreases-read_program
decreases-read_program l = l.left
