-- What the contracts equate are values of sets, so that an equation that merely holds is had. Assumes nothing.
use Prim.Native.Nat.{ℕ}
use mathlib.Core.Path.{◌≡◌, refl, sym, ap, ◌∙◌}
use mathlib.Core.Logic.{◌⊎◌, inl, inr}
use mathlib.Core.Bool.{Bool}
use base.Stored.{Coded, Coded-set, coded_unit, coded_ℕ, coded_bool, coded×, coded⊎, coded_list, coded_via}
use ghost.Sets.{retract_set}
use Rattle.format.specs.Format.{Answer, gives, refused}
use Rattle.semantics.specs.Verdict.{Verdict as Meant, valid, invalid, stopped}
use Rattle.semantics.specs.Replies.{Told as Telling, to_do, at_end}
use Rattle.progression.specs.declared.place.Place.{Place}
use Rattle.progression.specs.contracts.place.Place as place-type
use Rattle.runner.specs.contracts.calls.Record as record-type
use Rattle.recovery.specs.Arguments.{Tables}
use Rattle.runner.specs.declared.calls.Record.{Record}

-- An answer is a value or a number.
abbrev parts : {A : Type 0} → Answer A → A ⊎ ℕ
parts (gives a) = inl a
parts (refused k) = inr k

abbrev joined : {A : Type 0} → A ⊎ ℕ → Answer A
joined (inl a) = gives a
joined (inr k) = refused k

joined_parts : {A : Type 0} (x : Answer A) → joined (parts x) ≡ x
joined_parts (gives a) = refl
joined_parts (refused k) = refl

answer_set : {A : Type 0} → Coded A → IsSet (Answer A)
answer_set a = retract_set parts joined joined_parts (Coded-set (coded⊎ a coded_ℕ))

-- A verdict is a number, or two, or a number.
abbrev numbers : Meant → ℕ ⊎ ((ℕ × ℕ) ⊎ ℕ)
numbers (valid c) = inl c
numbers (invalid c l) = inr (inl (c, l))
numbers (stopped b) = inr (inr b)

abbrev meant : ℕ ⊎ ((ℕ × ℕ) ⊎ ℕ) → Meant
meant (inl c) = valid c
meant (inr (inl p)) = invalid p.0 p.1
meant (inr (inr b)) = stopped b

meant_numbers : (v : Meant) → meant (numbers v) ≡ v
meant_numbers (valid c) = refl
meant_numbers (invalid c l) = refl
meant_numbers (stopped b) = refl

-- What "Next" tells is a number or a truth value.
abbrev action_or_goal : Telling → ℕ ⊎ Bool
action_or_goal (to_do a) = inl a
action_or_goal (at_end b) = inr b

abbrev telling : ℕ ⊎ Bool → Telling
telling (inl a) = to_do a
telling (inr b) = at_end b

telling_back : (t : Telling) → telling (action_or_goal t) ≡ t
telling_back (to_do a) = refl
telling_back (at_end b) = refl

-- The sets of the contracts.
pub unit_answer_set : IsSet (Answer (Unit {0}))
unit_answer_set = answer_set coded_unit

pub bool_answer_set : IsSet (Answer Bool)
bool_answer_set = answer_set coded_bool

pub verdict_answer_set : IsSet (Answer Meant)
verdict_answer_set =
    answer_set (coded_via (coded⊎ coded_ℕ (coded⊎ (coded× coded_ℕ coded_ℕ) coded_ℕ)) numbers (λ x y p. sym (meant_numbers x) ∙ ap meant p ∙ meant_numbers y))

pub place_set : IsSet Place
place_set = Coded-set (place-type.the_row).coded

pub told_answer_set : IsSet (Answer Telling)
told_answer_set = answer_set (coded_via (coded⊎ coded_ℕ coded_bool) action_or_goal (λ x y p. sym (telling_back x) ∙ ap telling p ∙ telling_back y))

pub record_set : IsSet Record
record_set = Coded-set (record-type.the_row).coded

pub tables_set : IsSet Tables
tables_set =
    Coded-set (coded_via (coded× (coded_list coded_ℕ) (coded× (coded_list coded_ℕ) (coded_list coded_ℕ))) (λ (t : Tables). (t.heads, (t.nodes, t.sets)))
    (λ x y e i. record { heads = (e i).0; nodes = (e i).1.0; sets = (e i).1.1 }))
