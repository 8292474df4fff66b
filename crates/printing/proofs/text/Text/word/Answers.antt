-- `Text::word` meets its contract. Assumes nothing.
use mathlib.Core.List.{◌∷◌, []}
use mathlib.Core.Path.{subst, sym}
use native.Mathlib.Omega.{arith}
use Prim.Native.Nat.{ℕ}
use Rattle.printing.specs.Lines.{Appended, Room}
use Rattle.printing.proofs.LineLaws.{none_yet, next, next_room, all, word_each}
use Rattle.printing.proofs.text.Text.word.Goals as goal

pub loop-byte-init : goal.loop-byte-init
loop-byte-init c = none_yet _ _ (omega (arith, c.requires.fits))

pub push-requires : goal.push-requires
push-requires c = next_room (λ (b : ℕ). b ∷ []) _ _ (subst (Room _) (sym (word_each _)) c.requires) c.loop-byte.invariant c.loop-byte-test.true

pub loop-byte-preserved : goal.loop-byte-preserved
loop-byte-preserved c = next (λ (b : ℕ). b ∷ []) _ _ c.loop-byte.invariant c.loop-byte-test.true c.push.ensures

pub returns : goal.returns
returns c = subst (Appended _ _) (word_each _) (all (λ (b : ℕ). b ∷ []) _ _ c.loop-byte.invariant c.loop-byte-test.false)
