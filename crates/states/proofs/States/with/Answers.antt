-- `states::States::with` meets its contract: the union with the set of one state. Assumes nothing.
use mathlib.Core.Path.{ap, ◌∙◌}
use mathlib.Core.Bool.{Bool, ◌||◌}
use lib.Dec.{eqb}
use Rattle.states.specs.declared.States.{States}
use Rattle.states.specs.Sets.{member}
use Rattle.states.proofs.SetLaws.{member_set_of, set_cong}
use Rattle.states.proofs.States.with.Goals as goal

pub returns : goal.returns
returns c = let a = c.args in
    let one = c.one.result in
    c.union.ensures
    ∙ set_cong (λ t. member a.self t || member one t) (λ t. member a.self t || eqb t a.s)
    (λ t h. ap (λ (b : Bool). member a.self t || b) (ap (λ (set : States). member set t) c.one.ensures ∙ member_set_of (λ t. eqb t a.s) t h))
