-- Fields of the packed sheet: "packed, most significant bit first, with no gaps". Document 01, "The sheet".
use Rattle.std.specs.Prelude.{ℕ, zero, suc, ◌+◌, ◌-◌, ◌*◌, ◌/◌, ◌%◌, ◌^◌, List, get_or}

-- The bit at a position of the bytes, each byte's most significant bit first.
unfoldable pub bit_at : (bytes : List ℕ) (p : ℕ) → ℕ
bit_at bytes p = get_or bytes (p / 8) 0 / 2 ^ (7 - p % 8) % 2

-- The number whose k bits stand at p, the most significant first: each bit doubles what stands before it, `high`, and is added.
unfoldable pub bits_onto : (bytes : List ℕ) (high p k : ℕ) → ℕ
unfolding bit_at
bits_onto bytes high p zero = high
bits_onto bytes high p (suc k) = bits_onto bytes (high * 2 + bit_at bytes p) (p + 1) k

unfoldable pub bits_at : (bytes : List ℕ) (p k : ℕ) → ℕ
unfolding bits_onto
bits_at bytes p k = bits_onto bytes 0 p k
