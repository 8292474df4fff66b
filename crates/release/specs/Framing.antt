-- What is begun of a stream: a length and its sheet, as far as they are there.
use Rattle.std.specs.Prelude.{if◌then◌else◌, ℕ, ◌+◌, ◌*◌, List, map, length, take, nat_lt, slice_index}
use Rattle.lists.specs.Lists.{below}
use Rattle.format.specs.Format.{most_bytes}
use Rattle.release.specs.declared.framing.Begun.{Begun}

-- So many bytes of a list, zeros past its end.
unfoldable pub first_of : (count : ℕ) → List ℕ → List ℕ
first_of count bytes = map (λ i. slice_index bytes i) (below count)

-- The bytes of a length and of the longest sheet.
abbrev pub most_begun : ℕ
most_begun = 2 + most_bytes

-- The length that stands first, and the bytes that it and its sheet have together.
unfoldable pub length_of : (bytes : List ℕ) → ℕ
length_of bytes = 256 * slice_index bytes 0 + slice_index bytes 1

unfoldable pub size_of : (bytes : List ℕ) → ℕ
unfolding length_of
size_of bytes = 2 + length_of bytes

-- What is kept of the bytes that are begun: of a sheet that is too long its length alone, and how many bytes there are.
unfoldable pub kept_of : (bytes : List ℕ) → List ℕ
unfolding size_of
kept_of bytes = if nat_lt most_begun (size_of bytes) then take 2 bytes else bytes

unfoldable pub begun_of : (bytes : List ℕ) → Begun
unfolding first_of kept_of
begun_of bytes = record { held = length bytes; bytes = first_of most_begun (kept_of bytes) }

-- The bytes that are begun by what was kept, no more than the length says. Those that weren't kept count as zeros, and nothing depends on them.
unfoldable pub held_in : Begun → ℕ
unfolding size_of
held_in b = if nat_lt (size_of b.bytes) b.held then size_of b.bytes else b.held

unfoldable pub opened : Begun → List ℕ
unfolding first_of held_in
opened b = first_of (held_in b) b.bytes
