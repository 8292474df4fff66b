-- `states::States::complement` meets its contract: every state is in the set from which the set is taken. Assumes nothing.
use mathlib.Core.Path.{ap, ◌∙◌}
use mathlib.Core.Bool.{Bool, true, not, ◌&&◌}
use Rattle.states.specs.Sets.{member, set_of}
use Rattle.states.proofs.SetLaws.{member_set_of, set_cong}
use Rattle.states.proofs.States.complement.Goals as goal

pub returns : goal.returns
unfolding set_of
returns c = let set = c.args.self in
    c.difference.ensures
    ∙ set_cong (λ s. member (set_of (λ s. true)) s && not (member set s)) (λ s. not (member set s))
    (λ s h. ap (λ (b : Bool). b && not (member set s)) (member_set_of (λ s. true) s h))
