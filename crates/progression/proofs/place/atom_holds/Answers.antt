-- `progression::place::atom_holds` meets its contract. Assumes nothing.
use mathlib.Core.Path.{ap, ◌∙◌}
use mathlib.Core.Bool.{Bool, beq}
use Rattle.states.specs.declared.States.{States}
use Rattle.states.specs.Sets.{of_words}
use Rattle.progression.specs.Machine.{known_by}
use Rattle.progression.proofs.MachineLaws.{atom_known}
use Rattle.progression.proofs.place.atom_holds.Goals as goal

pub returns : goal.returns
returns c = let a = c.args in
    ap (λ (x : Bool). beq x a.positive) (c.known.ensures ∙ ap (λ (s : States). known_by a.sets.now s a.k) c.of_words.ensures)
    ∙ atom_known (known_by a.sets.now (of_words a.words.now)) a.positive a.k
