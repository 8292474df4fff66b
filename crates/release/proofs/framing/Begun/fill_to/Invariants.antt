-- `Begun::fill_to` meets its contract. The loop adds the bytes that are kept, one by one. Assumes nothing.
use Rattle.std.proofs.Common.{◌≡◌, ℕ, ◌-◌, ◌≤◌, List, ◌++◌, length, take}
use Rattle.release.specs.Framing.{first_of, most_begun}
use Rattle.release.proofs.framing.Begun.fill_to.Given as goal

abbrev pub invariant-loop-i : goal.invariant-loop-i
invariant-loop-i l = (l.held ≤ l.i) × (l.i - l.held ≤ l.kept - l.held)
    × ((o : List ℕ) → l.held ≡ length o → l.initial.bytes ≡ first_of most_begun o → l.bytes ≡ first_of most_begun (o ++ take (l.i - l.held) l.piece))

abbrev pub decreases-loop-i : goal.decreases-loop-i
decreases-loop-i l = l.kept - l.i
