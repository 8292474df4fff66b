-- `progression::place::all_hold` and `one_holds` meet their contracts. Each loop's invariant: the parts from the first node on hold as those from node i on. The measure
-- of the recursion is the levels left. Assumes nothing.
use Prim.Native.Nat.{◌-◌}
use mathlib.Core.Path.{◌≡◌}
use mathlib.Core.Bool.{true, false}
use Rattle.states.specs.Sets.{of_words}
use Rattle.progression.specs.Machine.{known_by, parts_hold}
use Rattle.progression.proofs.MachineLaws.{parts_left}
use Rattle.progression.proofs.place.+all_hold_one_holds.Given as goal

abbrev pub invariant-all_hold-loop-i : goal.invariant-all_hold-loop-i
invariant-all_hold-loop-i l = parts_hold l.nodes (known_by l.sets (of_words l.words)) l.left true (l.end - l.at) l.at ≡ parts_left l.nodes (known_by l.sets (of_words l.words)) l.left true l.end l.i

abbrev pub decreases-all_hold-loop-i : goal.decreases-all_hold-loop-i
decreases-all_hold-loop-i l = l.end - l.i

abbrev pub invariant-one_holds-loop-i : goal.invariant-one_holds-loop-i
invariant-one_holds-loop-i l = parts_hold l.nodes (known_by l.sets (of_words l.words)) l.left false (l.end - l.at) l.at ≡ parts_left l.nodes (known_by l.sets (of_words l.words)) l.left false l.end l.i

abbrev pub decreases-one_holds-loop-i : goal.decreases-one_holds-loop-i
decreases-one_holds-loop-i l = l.end - l.i

abbrev pub decreases-all_hold : goal.decreases-all_hold
decreases-all_hold l = l.left

abbrev pub decreases-one_holds : goal.decreases-one_holds
decreases-one_holds l = l.left
