-- `states::States::uniform` meets its contract: the words are computed. Assumes nothing.
use mathlib.Core.Path.{sym, ap}
use mathlib.Core.Bool.{Bool}
use Rattle.states.specs.Sets.{set_of}
use Rattle.states.proofs.States.uniform.Goals as goal

pub returns-then-all : goal.returns-then-all
unfolding set_of
returns-then-all c = sym (ap (λ (b : Bool). set_of (λ s. b)) c.if-all.true)

pub returns-else-all : goal.returns-else-all
unfolding set_of
returns-else-all c = sym (ap (λ (b : Bool). set_of (λ s. b)) c.if-all.false)
