-- The method: what filling from a piece leaves, for the contracts of inner functions. An auditor of the promises needs none of it.
use Rattle.std.specs.Prelude.{◌≡◌, ℕ, ◌≤◌, ◌⊎◌, List, [], ◌++◌, length}
use Rattle.release.specs.declared.framing.Begun.{Begun}
use Rattle.release.specs.Framing.{first_of, most_begun, size_of}

-- What is gathered while a piece is fed: how many bytes are begun, and the first of them.
unfoldable pub gathered : (bytes : List ℕ) → Begun
unfolding first_of
gathered bytes = record { held = length bytes; bytes = first_of most_begun bytes }

-- Bytes of a piece are taken and added to what is begun, until there are so many or the piece ends; `rest` is what is left of the piece.
pub record FilledTo (begun piece : List ℕ) (goal : ℕ) (r : Begun) (rest : List ℕ) : Type 0 where
  pub taken : List ℕ
  pub split : taken ++ rest ≡ piece
  pub added : r ≡ gathered (begun ++ taken)
  pub most : length begun ≤ goal → length (begun ++ taken) ≤ goal
  pub stays : goal ≤ length begun → taken ≡ []
  pub full : (goal ≤ length (begun ++ taken)) ⊎ (rest ≡ [])

-- The same until the sheet is whole.
pub record FilledUp (begun piece : List ℕ) (r : Begun) (rest : List ℕ) : Type 0 where
  pub taken : List ℕ
  pub split : taken ++ rest ≡ piece
  pub added : r ≡ gathered (begun ++ taken)
  pub most : length (begun ++ taken) ≤ size_of (begun ++ taken)
  pub full : (length (begun ++ taken) ≡ size_of (begun ++ taken)) ⊎ (rest ≡ [])
