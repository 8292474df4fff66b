-- `Begun::stored` meets its contract: all is kept, or of a sheet that is too long its length. Assumes nothing.
use Rattle.std.proofs.Common.{◌∙◌, arith}
use Rattle.release.proofs.FramingLaws.{gathered_size, stored_all, stored_cut}
use Rattle.release.proofs.framing.Begun.stored.Goals as goal

pub returns-then-size-le-BYTES : goal.returns-then-size-le-BYTES
returns-then-size-le-BYTES c bytes e = let size = c.size.ensures.0 ∙ gathered_size _ bytes e in
    stored_all _ bytes e (omega (arith, size, c.if-size-le-BYTES.true))

pub returns : goal.returns
returns c bytes e = let size = c.size.ensures.0 ∙ gathered_size _ bytes e in
    stored_cut c.args.self bytes e (omega (arith, size, c.if-size-le-BYTES.false))
