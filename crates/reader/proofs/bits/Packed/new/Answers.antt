-- `reader::Packed::new` meets its contract: the bytes by their length. Assumes nothing.
use lib.ListN.{length}
use native.Mathlib.Omega.{arith}
use borrow.Author.Tests.{lt-leb, le-leb}
use Rattle.format.specs.Format.{most_bytes}
use Rattle.reader.specs.Answers.{number_of, answer_of, packed}
use Rattle.reader.proofs.bits.Packed.new.Goals as goal

pub returns-then-bytes-gt-BYTES : goal.returns-then-bytes-gt-BYTES
unfolding answer_of number_of packed
returns-then-bytes-gt-BYTES c = rw (lt-leb _ _ c.if-bytes-gt-BYTES.true)

pub returns : goal.returns
unfolding answer_of packed
returns c = rw (le-leb (length c.args.bytes.now) most_bytes (omega arith))
