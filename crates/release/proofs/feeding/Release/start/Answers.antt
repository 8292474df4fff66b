-- `Release::start` meets its contract. Assumes nothing.
use Rattle.std.proofs.Common.{sym, ap, ◌∙◌}
use Rattle.release.specs.declared.framing.Begun.{Begun}
use Rattle.release.specs.Counting.{no_figures}
use Rattle.release.proofs.FeedLaws.{state_none}
use Rattle.release.proofs.feeding.Release.start.Goals as goal

pub returns : goal.returns
returns c = ap (λ (b : Begun). record { figures = no_figures; lengths = 0; begun = b }) c.nothing-begun.ensures ∙ sym state_none
