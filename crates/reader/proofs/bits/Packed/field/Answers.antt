-- `reader::Packed::field` meets its contract. Assumes nothing.
use Prim.Native.Nat.{◌+◌, ◌*◌}
use lib.ListN.{length}
use native.Mathlib.Omega.{arith}
use borrow.Author.Tests.{le-leb, lt-leb}
use Rattle.format.specs.Format.{field}
use Rattle.reader.specs.Answers.{number_of, found}
use Rattle.reader.proofs.bits.Packed.field.Goals as goal

pub returns-then-end-k : goal.returns-then-end-k
unfolding found number_of field
returns-then-end-k c = let a = c.args in rw (lt-leb (a.at + a.k) (8 * length a.self.now) (omega arith))

pub returns-then-end-k-2 : goal.returns-then-end-k-2
unfolding found number_of field
returns-then-end-k-2 c = let a = c.args in rw (lt-leb (a.at + a.k) (8 * length a.self.now) (omega arith))

pub returns : goal.returns
unfolding found number_of field
returns c = let a = c.args in rw (le-leb (a.at + a.k) (8 * length a.self.now) (omega arith), c.bits.ensures)
