-- Laws of what follows a read, and of the lines for an input. Assumes nothing.
use Prim.Native.Nat.{ℕ, zero, suc, ◌+◌, ◌-◌, ◌≤◌, ◌<◌}
use mathlib.Core.Path.{◌≡◌, refl, sym, ap, ◌∙◌, subst}
use mathlib.Core.Bool.{Bool, true, false}
use mathlib.Core.List.{List}
use native.Mathlib.Omega.{arith}
use lib.Dec.{ltb}
use lib.ListN.{length, take}
use borrow.Author.Tests.{lt-ltb, le-ltb}
use Rattle.std.specs.Prelude.{if◌then◌else◌, Result, Ok, Err, IfOk}
use Rattle.std.specs.declared.ops.ControlFlow.{ControlFlow}
use Rattle.std.specs.declared.ops.ControlFlow.TheVariants.{Continue, Break}
use Rattle.lists.specs.Lists.{write}
use Rattle.semantics.specs.Printing.{printed}
use Rattle.planverify.specs.Input.{after_read, lines_for}

-- Behind n bytes, by whether there is room for more.
abbrev by_room : Bool → ℕ → ControlFlow ℕ ℕ
by_room b n = if b then Continue n else Break n

-- The cases of `after_read` as the code tells them apart.
module _ (E : Type 0) (done most : ℕ) where
  some : (k : ℕ) (b : Bool) → (k ≡ 0 → ⊥) → ltb (done + k) most ≡ b → Ok (by_room b (done + k)) ≡ after_read {E = E} done most (Ok k)
  unfolding after_read
  some zero b n r = absurd (n refl)
  some (suc k) b n r = sym (ap (λ (a : Bool). Ok (by_room a (done + suc k))) r)

module _ {E : Type 0} (done most : ℕ) (got : Result ℕ E) where
  pub after_failed : (e : E) → got ≡ Err e → Err e ≡ after_read done most got
  unfolding after_read
  after_failed e g = rw g refl

  pub after_end : (k : ℕ) → got ≡ Ok k → k ≡ 0 → Ok (Break done) ≡ after_read done most got
  unfolding after_read
  after_end k g z = rw g (rw z refl)

  pub after_more : (k : ℕ) → got ≡ Ok k → (k ≡ 0 → ⊥) → done + k < most → Ok (Continue (done + k)) ≡ after_read done most got
  after_more k g n r = some E done most k true n (lt-ltb (done + k) most r) ∙ ap (after_read done most) (sym g)

  pub after_full : (k : ℕ) → got ≡ Ok k → (k ≡ 0 → ⊥) → most ≤ done + k → Ok (Break (done + k)) ≡ after_read done most got
  after_full k g n r = some E done most k false n (le-ltb (done + k) most r) ∙ ap (after_read done most) (sym g)

-- Reading goes on behind more bytes, within the room; what it ends with lies within the room too.
abbrev Right : {E : Type 0} (done most : ℕ) → Result (ControlFlow ℕ ℕ) E → Type 0
Right done most (Ok (Continue n)) = (done < n) × (n ≤ most)
Right done most (Ok (Break n)) = n ≤ most
Right done most (Err e) = Unit {0}

module _ (E : Type 0) where
  right : (done most : ℕ) (got : Result ℕ E) → done ≤ most → IfOk got (λ n. n ≤ most - done) → Right done most (after_read done most got)
  unfolding after_read
  right done most (Err e) d m = tt
  right done most (Ok zero) d m = d
  right done most (Ok (suc k)) d m = go (ltb (done + suc k) most)
    where
      go : (b : Bool) → Right {E = E} done most (Ok (by_room b (done + suc k)))
      go true = (omega arith, omega (arith, d, m))
      go false = omega (arith, d, m)

module _ {E : Type 0} (done most : ℕ) (got : Result ℕ E) (x : Result (ControlFlow ℕ ℕ) E) (h : (done ≤ most) × IfOk got (λ n. n ≤ most - done)) (e : x ≡ after_read done most got) where
  answered : Right done most x
  answered = subst (Right done most) (sym e) (right E done most got h.0 h.1)

  pub next_more : (n : ℕ) → x ≡ Ok (Continue n) → (done < n) × (n ≤ most)
  next_more n g = subst (Right done most) g answered

  pub next_over : (n : ℕ) → x ≡ Ok (Break n) → n ≤ most
  next_over n g = subst (Right done most) g answered

module _ {E : Type 0} (input : Result ℕ E) where
  -- The lines for an input that was read.
  pub lines_read : (n : ℕ) (bytes : List ℕ) → input ≡ Ok n → printed (take n bytes) ≡ lines_for input bytes
  unfolding lines_for
  lines_read n bytes e = sym (ap (λ (i : Result ℕ E). lines_for i bytes) e)

  -- There are none for any other.
  pub lines_failed : (f : E) (old bytes : List ℕ) → input ≡ Err f → (0 ≡ length (lines_for input bytes)) × (old ≡ write old 0 (lines_for input bytes))
  unfolding lines_for write
  lines_failed f old bytes e =
      let h : _ ≡ lines_for input bytes = sym (ap (λ (i : Result ℕ E). lines_for i bytes) e) in
      (ap length h, ap (write old 0) h)
