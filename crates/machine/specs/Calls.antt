-- What a call is: a compiled function, called on the machine with numbers and with memory that the caller owns.
use Rattle.std.specs.Prelude.{ℕ, ◌+◌, ◌*◌, ◌<◌, ◌^◌, ◌≡◌, List, [], ◌∷◌, map, length, replicate}
use Rattle.std.proofs.Math.Option.{some}
use seplogic.Ra.Ura.{Ura}
use base.Fraction.{full_share}
use mir.Syntax.{Width, ty_int}
use mir.Val.{Val, vint, vptr, bytes, bits}
use base.Logic.{SProp, sep, emp}
use prog.Memory.{Memory, load_m}
use prog.Wp.{Heap, run}
use prog.Model.{Model}
use prog.Routine.{Routine, ends}
use contract.Adequate.{Satisfies}
use denote.Slice.{slice_val}

-- Where lent memory lies: a block, and how many bytes from its start.
pub record Place : Type 0 where
  pub block : ℕ
  pub at : ℕ

-- What is passed of lent memory: of a slice a pointer and the length, of an array of so many numbers the pointer alone.
pub data Shape : Type 0 where
  slice : Shape
  array : (count : ℕ) → Shape

-- How it is lent: to be read, or to be written too.
pub data Lent : Type 0 where
  reads : Lent
  writes : Lent

-- An argument: a number of a width, or memory that holds numbers of a width.
pub data Argument : Type 0 where
  number : Width → (value : ℕ) → Argument
  memory : Shape → Lent → Width → Place → (cells : List ℕ) → Argument

-- The value that the machine passes.
unfoldable pub value_of : Argument → Val
value_of (number w n) = vint w n
value_of (memory slice l w p xs) = slice_val (p.block, p.at) (length xs)
value_of (memory (array n) l w p xs) = vptr p.block p.at

unfoldable pub values_of : List Argument → List Val
unfolding value_of
values_of [] = []
values_of (a ∷ more) = value_of a ∷ values_of more

-- A number fits its width, a slice has under 2^63 bytes, and an array has as many numbers as its type says.
unfoldable pub Fits : Argument → Type 0
Fits (number w n) = n < 2 ^ bits w
Fits (memory slice l w p xs) = length xs * bytes w < 2 ^ 63
Fits (memory (array n) l w p xs) = length xs ≡ n

unfoldable pub AllFit : List Argument → Type 0
unfolding Fits
AllFit [] = Unit {0}
AllFit (a ∷ more) = Fits a × AllFit more

-- The machine's loads from a place, one behind the other, give these numbers; and of all lent memory, what it holds.
unfoldable pub LoadsFrom : Memory → Width → (block at : ℕ) → List ℕ → Type 0
LoadsFrom σ w b o [] = Unit {0}
LoadsFrom σ w b o (x ∷ xs) = (load_m σ (ty_int w) b o ≡ some (vint w x)) × LoadsFrom σ w b (o + bytes w) xs

unfoldable pub Loads : Memory → List Argument → Type 0
unfolding LoadsFrom
Loads σ [] = Unit {0}
Loads σ (number w n ∷ more) = Loads σ more
Loads σ (memory s l w p xs ∷ more) = LoadsFrom σ w p.block p.at xs × Loads σ more

-- Arguments alike but for the numbers in memory that is lent to be written: as many, of the same width, at the same place.
unfoldable pub blank : Argument → Argument
blank (number w n) = number w n
blank (memory s reads w p xs) = memory s reads w p xs
blank (memory s writes w p xs) = memory s writes w p (replicate (length xs) 0)

unfoldable pub Alike : (before after : List Argument) → Type 0
unfolding blank
Alike before after = map blank before ≡ map blank after

module _ {M : Type 1} (𝓤 : Ura M) (H : Heap 𝓤) (𝓜 : Model 𝓤 H) where
  -- The caller owns the memory that it lends, each piece apart from the others.
  unfoldable pub Owned : List Argument → SProp 𝓤
  Owned [] = emp 𝓤
  Owned (number w n ∷ more) = Owned more
  Owned (memory s l w p xs ∷ more) = sep 𝓤 (run 𝓤 H full_share w p.block p.at xs) (Owned more)

  -- A memory from which a call with these arguments can be made, with other memory of the caller's beside them.
  pub record Callable (arguments others : List Argument) : Type 1 where
    pub memory : Memory
    pub owned : Satisfies 𝓤 H 𝓜 memory (sep 𝓤 (Owned arguments) (Owned others))
    pub fit : AllFit arguments

  -- The call from that memory ended: with this result, and with this in the memory that was lent, as the machine loads it. It is the
  -- caller's again, so that a further call can be made there, and what lay beside it is as it was.
  pub record Ended (function : Routine) {arguments others : List Argument} (from : Callable arguments others) (result : Val)
      (last : List Argument) : Type 1 where
    pub after : Callable last others
    pub ran : ends function (values_of arguments) from.memory result after.memory
    pub alike : Alike arguments last
    pub loads : Loads after.memory last
    pub beside : Loads after.memory others
