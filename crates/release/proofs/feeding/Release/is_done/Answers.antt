-- `Release::is_done` meets its contract. Assumes nothing.
use Rattle.std.proofs.Common.{refl, ap, ◌∙◌}
use Rattle.release.specs.Feeding.{is_done}
use Rattle.release.proofs.FigureLaws.{state_done}
use Rattle.release.proofs.feeding.Release.is_done.Goals as goal

pub returns : goal.returns
returns c = (unfold is_done in refl, λ stream e. unfold is_done in (ap is_done e) ∙ state_done stream)
