-- `Release::feed` meets its contract. The loop's invariant: what is left of the piece gives what the whole piece gives. The measure is the number of lengths that are left. Assumes nothing.
use Rattle.std.proofs.Common.{◌≡◌, ℕ, ◌-◌, ◌≤◌, List, length}
use Rattle.semantics.specs.Figures.{most_lengths}
use Rattle.release.specs.Framing.{size_of}
use Rattle.release.specs.Filling.{gathered}
use Rattle.release.proofs.FeedLaws.{Going}
use Rattle.release.proofs.feeding.Release.feed.Given as goal

abbrev pub invariant-loop-lengths : goal.invariant-loop-lengths
invariant-loop-lengths l = (o : List ℕ) → l.initial.begun ≡ gathered o → length o ≤ size_of o
    → Going o l.piece l.initial.heads l.initial.nodes l.initial.sets l.initial.memo l.initial.figures l.initial.lengths l.heads l.nodes l.sets l.memo l.figures l.lengths l.begun l.rest

abbrev pub decreases-loop-lengths : goal.decreases-loop-lengths
decreases-loop-lengths l = most_lengths - l.lengths
