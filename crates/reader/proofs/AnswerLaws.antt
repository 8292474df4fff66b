-- Laws of answers without their value. Assumes nothing.
use Prim.Native.Nat.{ℕ}
use mathlib.Core.Path.{◌≡◌, refl}
use native.Mathlib.Omega.{arith}
use Rattle.format.specs.Format.{Answer, gives, refused}
use Rattle.reader.specs.Answers.{without_value}

-- What an answer without its value tells of the answer.
pub was_accepted : {A : Type 0} (x : Answer A) → gives tt ≡ without_value x → (a : A) × (x ≡ gives a)
unfolding without_value
was_accepted (gives a) e = (a, refl)
was_accepted (refused k) e = let z : ◌≡◌ {A = ℕ} 0 1 = cc in absurd (omega arith)

pub was_refused : {A : Type 0} (x : Answer A) (k : ℕ) → refused k ≡ without_value x → x ≡ refused k
unfolding without_value
was_refused (gives a) k e = let z : ◌≡◌ {A = ℕ} 0 1 = cc in absurd (omega arith)
was_refused (refused j) k e = cc
