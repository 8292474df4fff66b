-- `read_input` meets its contract. Assumes nothing.
use mathlib.Core.Path.{ap, ◌∙◌}
use mathlib.Core.Bool.{not}
use Rattle.std.specs.Prelude.{Ok}
use Rattle.planfigures.proofs.InputLaws.{followed, end_over, done_over}
use Rattle.planfigures.proofs.EndLaws.{reached_on, less_to_read}
use Rattle.planfigures.proofs.read_input.Goals as goal

pub returns-in_default : goal.returns-in_default
returns-in_default c = (c.loop-stdin.invariant.1, end_over _)

pub loop-stdin-smaller : goal.loop-stdin-smaller
loop-stdin-smaller c =
    let f = followed _ _ _ _ c.read_piece.ensures (c.in_ok-step.was ∙ ap Ok c.in-Some.is) in
    less_to_read _ _ _ _ c.loop-stdin.invariant.1 f _ c.is_done.ensures.0 (ap not c.loop-stdin-test.true)

pub loop-stdin-preserved : goal.loop-stdin-preserved
loop-stdin-preserved c =
    let f = followed _ _ _ _ c.read_piece.ensures (c.in_ok-step.was ∙ ap Ok c.in-Some.is) in
    (c.read_piece.auto.memory ∙ c.loop-stdin.invariant.0, reached_on _ _ _ _ c.loop-stdin.invariant.1 f (λ i. (c.type_inv.memory i).fits))

pub returns : goal.returns
returns c = (c.loop-stdin.invariant.1, done_over _ _ c.is_done.ensures.0 (ap not c.loop-stdin-test.false))
