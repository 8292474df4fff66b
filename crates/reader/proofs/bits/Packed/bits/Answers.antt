-- `reader::Packed::bits` meets its contract: the bits of a field are cut out of the window at its first byte. Assumes nothing.
use Rattle.reader.proofs.BitLaws.{window_field}
use Rattle.reader.proofs.bits.Packed.bits.Goals as goal

pub returns : goal.returns
returns c = let a = c.args in
    window_field a.self.now a.at c.window.result c.window.ensures a.k c.requires.1
