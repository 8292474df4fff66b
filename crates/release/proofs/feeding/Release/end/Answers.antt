-- `Release::end` meets its contract. Assumes nothing.
use Rattle.std.proofs.Common.{◌^◌, ◌<◌, ◌∙◌, rules}
use Rattle.release.proofs.FeedLaws.{ended_cut, ended_not}
use Rattle.release.proofs.FigureLaws.{at_end}
use Rattle.release.proofs.feeding.Release.end.Goals as goal

pub returns-then-begun-gt0 : goal.returns-then-begun-gt0
returns-then-begun-gt0 c = at_end c.args.self _ (c.with_refused.ensures ∙ ended_cut c.args.self c.if-begun-gt0.true)

pub returns : goal.returns
returns c = let small : c.args.self.figures.refused < 2 ^ 64 = search rules in
    at_end c.args.self _ (ended_not c.args.self small c.if-begun-gt0.false)
