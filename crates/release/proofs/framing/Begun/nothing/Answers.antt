-- `Begun::nothing` meets its contract: no byte is held, and zeros are kept. Assumes nothing.
use Rattle.std.proofs.Common.{sym}
use Rattle.release.proofs.FramingLaws.{gathered_none}
use Rattle.release.proofs.framing.Begun.nothing.Goals as goal

pub returns : goal.returns
returns c = sym gathered_none
