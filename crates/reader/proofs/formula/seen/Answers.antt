-- `reader::seen` meets its contract, by the view and whether the fact is a new one. Assumes nothing.
use mathlib.Core.Path.{◌≡◌, refl, sym, ◌∙◌}
use mathlib.Core.Bool.{Bool, true, false}
use Prim.Native.Nat.{ℕ}
use Rattle.states.specs.Sets.{set_of}
use Rattle.reader.specs.declared.formula.View.{View}
use Rattle.format.specs.Truth.{fact_in, truth}
use Rattle.reader.specs.Answers.{states_in}
use Rattle.reader.specs.Method.{fact_of}
use Rattle.reader.proofs.formula.seen.Goals as goal

-- Outside a theory a fact is the same as a new one.
either_way : (fresh : Bool) (i : ℕ) → states_in View.States (fact_of fresh i) ≡ set_of (λ t. fact_in t i)
unfolding states_in fact_of truth
either_way true i = refl
either_way false i = refl

pub returns-then-fresh : goal.returns-then-fresh
unfolding states_in fact_of truth fact_in
returns-then-fresh c = c.holding_fact-then-fresh.ensures ∙ sym (rw (c.in-Next.is, c.if-fresh.true))

pub returns-in-States : goal.returns-in-States
unfolding states_in fact_of truth fact_in
returns-in-States c = c.holding_fact.ensures ∙ sym (rw c.in-States.is (either_way c.args.fresh c.args.i))

pub returns-else-fresh : goal.returns-else-fresh
unfolding states_in fact_of truth fact_in
returns-else-fresh c = c.uniform.ensures ∙ sym (rw (c.in-Next.is, c.if-fresh.false))
