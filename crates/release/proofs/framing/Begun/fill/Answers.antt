-- `Begun::fill` meets its contract: first the length and then its sheet. Assumes nothing.
use Rattle.std.proofs.Common.{◌≡◌, ◌++◌, ap, ◌∙◌, arith}
use Rattle.release.specs.declared.framing.Begun.{Begun}
use Rattle.release.specs.Framing.{most_begun, size_of}
use Rattle.release.specs.Filling.{gathered}
use Rattle.release.proofs.FramingLaws.{size_first}
use Rattle.release.proofs.FillLaws.{filled_up}
use Rattle.release.proofs.framing.Begun.fill.Goals as goal

pub returns : goal.returns
unfolding gathered
returns c o e within =
    let f = c.fill_to-first.ensures o e in
    let more = o ++ f.taken in
    let size : c.size-size.result ≡ size_of more =
    c.size-size.ensures.0 ∙ ap (λ (b : Begun). size_of b.bytes) f.added ∙ size_first most_begun more (omega arith) in
    filled_up o _ _ _ within f _ _ _ size (c.fill_to.ensures more f.added)
