-- Numbers are read as what they stand for, and as nothing else. Assumes nothing.
use Prim.Native.Nat.{ℕ, ◌≤◌, ◌<◌}
use native.Mathlib.Omega.{arith}
use mathlib.Core.Bool.{Bool, true, false}
use mathlib.Core.List.{List}
use mathlib.Core.Path.{◌≡◌, refl, sym, ap, ◌∙◌}
use Rattle.format.specs.Format.{Answer, gives, refused, given_or}
use Rattle.reader.specs.Answers.{number_for, without_value}
use Rattle.semantics.specs.Verdict.{Verdict, valid, invalid, stopped}
use Rattle.semantics.specs.Replies.{Told, to_do, at_end}
use Rattle.progression.specs.declared.place.Place.{Place}
use Rattle.progression.specs.Machine.{Inside}
use Rattle.recovery.specs.Numbers.{memory_after, verdict_numbers, checked_number, place_number, flag_number, told_numbers, DoneRead, ValueRead, CheckRead, FlagRead, PlaceRead}

-- The refusals of an answer have numbers above 0.
abbrev pub Numbered : {A : Type 0} → Answer A → Type 0
Numbered a = (k : ℕ) → a ≡ refused k → 1 ≤ k

-- An answer without a value.
pub done_read : {A : Type 0} (a : Answer A) → Numbered a → DoneRead (number_for a) (without_value a)
unfolding DoneRead number_for without_value
done_read (gives x) h = refl
done_read (refused k) h = (refl, h k refl)

pub done_one : (k : ℕ) (a b : Answer (Unit {0})) → DoneRead k a → DoneRead k b → a ≡ b
unfolding DoneRead
done_one k (gives x) (gives y) r s = refl
done_one k (gives x) (refused n) r s = absurd (omega (arith, r, s.0, s.1))
done_one k (refused m) (gives y) r s = absurd (omega (arith, s, r.0, r.1))
done_one k (refused m) (refused n) r s = ap refused (sym r.0 ∙ s.0)

-- An answer with its value in memory.
pub value_read : {A : Type 0} (numbers : A → List ℕ) (a : Answer A) (old : List ℕ) → Numbered a → ValueRead numbers (number_for a) (memory_after numbers a old) a
unfolding ValueRead number_for memory_after given_or
value_read numbers (gives x) old h = (refl, refl)
value_read numbers (refused k) old h = (refl, h k refl)

pub value_one : {A : Type 0} (numbers : A → List ℕ) → ((x y : A) → numbers x ≡ numbers y → x ≡ y)
    → (k : ℕ) (memory : List ℕ) (a b : Answer A) → ValueRead numbers k memory a → ValueRead numbers k memory b → a ≡ b
unfolding ValueRead
value_one numbers one k memory (gives x) (gives y) r s = ap gives (one x y (sym r.1 ∙ s.1))
value_one numbers one k memory (gives x) (refused n) r s = absurd (omega (arith, r.0, s.0, s.1))
value_one numbers one k memory (refused m) (gives y) r s = absurd (omega (arith, s.0, r.0, r.1))
value_one numbers one k memory (refused m) (refused n) r s = ap refused (sym r.0 ∙ s.0)

pub verdict_one : (v w : Verdict) → verdict_numbers v ≡ verdict_numbers w → v ≡ w
unfolding verdict_numbers
verdict_one (valid c) (valid d) e = let z : c ≡ d = cc in ap valid z
verdict_one (valid c) (invalid d m) e = let z : ◌≡◌ {A = ℕ} 0 1 = cc in absurd (omega arith)
verdict_one (valid c) (stopped d) e = let z : ◌≡◌ {A = ℕ} 0 2 = cc in absurd (omega (arith, z))
verdict_one (invalid c l) (valid d) e = let z : ◌≡◌ {A = ℕ} 1 0 = cc in absurd (omega (arith, z))
verdict_one (invalid c l) (invalid d m) e = let z : c ≡ d = cc in let y : l ≡ m = cc in λ i. invalid (z i) (y i)
verdict_one (invalid c l) (stopped d) e = let z : ◌≡◌ {A = ℕ} 1 2 = cc in absurd (omega (arith, z))
verdict_one (stopped c) (valid d) e = let z : ◌≡◌ {A = ℕ} 2 0 = cc in absurd (omega (arith, z))
verdict_one (stopped c) (invalid d m) e = let z : ◌≡◌ {A = ℕ} 2 1 = cc in absurd (omega (arith, z))
verdict_one (stopped c) (stopped d) e = let z : c ≡ d = cc in ap stopped z

pub told_one : (t u : Told) → told_numbers t ≡ told_numbers u → t ≡ u
unfolding told_numbers
told_one (to_do a) (to_do b) e = let z : a ≡ b = cc in ap to_do z
told_one (to_do a) (at_end true) e = let z : ◌≡◌ {A = ℕ} 0 1 = cc in absurd (omega arith)
told_one (to_do a) (at_end false) e = let z : ◌≡◌ {A = ℕ} 0 1 = cc in absurd (omega arith)
told_one (at_end true) (to_do b) e = let z : ◌≡◌ {A = ℕ} 1 0 = cc in absurd (omega (arith, z))
told_one (at_end false) (to_do b) e = let z : ◌≡◌ {A = ℕ} 1 0 = cc in absurd (omega (arith, z))
told_one (at_end true) (at_end true) e = refl
told_one (at_end false) (at_end false) e = refl
told_one (at_end true) (at_end false) e = let z : ◌≡◌ {A = ℕ} 1 0 = cc in absurd (omega (arith, z))
told_one (at_end false) (at_end true) e = let z : ◌≡◌ {A = ℕ} 0 1 = cc in absurd (omega arith)

-- The checker's answer.
pub check_read : (a : Answer Bool) → ((k : ℕ) → a ≡ refused k → (1 ≤ k) × (k < 255)) → CheckRead (checked_number a) a
unfolding CheckRead checked_number
check_read (gives true) h = refl
check_read (gives false) h = refl
check_read (refused k) h = (refl, (h k refl).0, (h k refl).1)

pub check_one : (k : ℕ) (a b : Answer Bool) → CheckRead k a → CheckRead k b → a ≡ b
unfolding CheckRead
check_one k (gives true) (gives true) r s = refl
check_one k (gives true) (gives false) r s = absurd (omega (arith, r, s))
check_one k (gives true) (refused n) r s = absurd (omega (arith, r, s.0, s.1))
check_one k (gives false) (gives true) r s = absurd (omega (arith, r, s))
check_one k (gives false) (gives false) r s = refl
check_one k (gives false) (refused n) r s = absurd (omega (arith, r, s.0, s.2))
check_one k (refused m) (gives true) r s = absurd (omega (arith, s, r.0, r.1))
check_one k (refused m) (gives false) r s = absurd (omega (arith, s, r.0, r.2))
check_one k (refused m) (refused n) r s = ap refused (sym r.0 ∙ s.0)

-- Yes and no.
pub flag_read : (b : Bool) → FlagRead (flag_number b) b
unfolding FlagRead flag_number
flag_read true = refl
flag_read false = refl

pub flag_one : (k : ℕ) (a b : Bool) → FlagRead k a → FlagRead k b → a ≡ b
unfolding FlagRead
flag_one k true true r s = refl
flag_one k true false r s = absurd (omega (arith, r, s))
flag_one k false true r s = absurd (omega (arith, r, s))
flag_one k false false r s = refl

-- A place: node and action are read off one number.
pub place_read : (p : Place) → Inside p → PlaceRead (place_number p) p
unfolding PlaceRead place_number Inside
place_read (Place.End true) h = refl
place_read (Place.End false) h = refl
place_read (Place.Act node action) h = (refl, h.1)

pub place_one : (k : ℕ) (p q : Place) → PlaceRead k p → PlaceRead k q → p ≡ q
unfolding PlaceRead
place_one k (Place.End true) (Place.End true) r s = refl
place_one k (Place.End true) (Place.End false) r s = absurd (omega (arith, r, s))
place_one k (Place.End true) (Place.Act m b) r s = absurd (omega (arith, r, s.0))
place_one k (Place.End false) (Place.End true) r s = absurd (omega (arith, r, s))
place_one k (Place.End false) (Place.End false) r s = refl
place_one k (Place.End false) (Place.Act m b) r s = absurd (omega (arith, r, s.0))
place_one k (Place.Act n a) (Place.End true) r s = absurd (omega (arith, s, r.0))
place_one k (Place.Act n a) (Place.End false) r s = absurd (omega (arith, s, r.0))
place_one k (Place.Act n a) (Place.Act m b) r s =
    let node : n ≡ m = omega (arith, r.0, r.1, s.0, s.1) in
    let action : a ≡ b = omega (arith, r.0, r.1, s.0, s.1) in
    λ i. Place.Act (node i) (action i)
