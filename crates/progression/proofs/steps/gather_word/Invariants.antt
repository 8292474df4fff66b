-- `progression::gather_word` meets its contract. The loop's invariant: what is gathered and what the bits that are left give is the whole. The measure is the word that is left. Assumes nothing.
use Prim.Native.Nat.{◌^◌, ◌<◌}
use mathlib.Core.Path.{◌≡◌}
use mathlib.Core.Bool.{◌||◌}
use Rattle.states.specs.Sets.{member, set_of}
use Rattle.states.proofs.SetLaws.{Fitting}
use Rattle.progression.proofs.GatherLaws.{in_some}
use Rattle.progression.proofs.steps.gather_word.Given as goal

abbrev pub invariant-loop-left : goal.invariant-loop-left
invariant-loop-left l = (l.left < 2 ^ 64) × Fitting l.all × (set_of (λ t. member l.all t || in_some l.sets l.first l.left t) ≡ set_of (in_some l.sets l.first l.word))

abbrev pub decreases-loop-left : goal.decreases-loop-left
decreases-loop-left l = l.left
