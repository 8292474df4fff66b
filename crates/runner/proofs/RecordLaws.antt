-- Laws of the record's definitions: zeros, padding, what is loaded, and whether a record is padded. Assumes nothing.
use Prim.Native.Nat.{ℕ, suc, ◌+◌, ◌-◌, ◌≤◌, ◌<◌}
use native.Mathlib.Numerals.{add-one}
use native.Mathlib.Omega.{arith}
use mathlib.Core.List.{List, [], ◌∷◌, ◌++◌, append_assoc}
use mathlib.Core.Bool.{true, false}
use mathlib.Core.Path.{◌≡◌, ap}
use lib.ListN.{length, replicate, take, drop, set, get_or, length-drop, drop_of_length-le}
use lib.Seq.{drop-cons, take-suc, take_all, take-length, set_at, length-take-le}
use borrow.Author.Tests.{eq-eqb, ne_eqb, le-leb, lt-leb, leb-true}
use lib.Dec.{leb}
use Rattle.lists.proofs.ListLaws.{both_true}
use Rattle.format.specs.Syntax.{Sheet}
use Rattle.format.specs.Format.{Answer, gives, refused, reading, most_bytes, most_acts, given_or}
use Rattle.reader.specs.Answers.{without_value}
use Rattle.reader.proofs.AnswerLaws.{was_accepted, was_refused}
use Rattle.format.proofs.SheetLaws.{accepted_length}
use Rattle.runner.specs.Records.{padded, are_zero, record_of, zeros, loaded, is_padded}

module _ (bytes : List ℕ) (i : ℕ) where
  -- Behind the end there are only zeros.
  pub zero_end : length bytes ≤ i → are_zero (drop i bytes) ≡ true
  unfolding are_zero
  zero_end h = rw (drop_of_length-le bytes h)

  -- From a byte that isn't 0 on, not every byte is 0.
  pub zero_no : i < length bytes → (get_or bytes i 0 ≡ 0 → ⊥) → are_zero (drop i bytes) ≡ false
  unfolding are_zero
  zero_no h n = rw (drop-cons bytes i 0 h, ne_eqb _ _ n)

  -- From a byte 0 on, every byte is 0 if every byte behind it is.
  pub zero_yes : i < length bytes → get_or bytes i 0 ≡ 0 → are_zero (drop i bytes) ≡ are_zero (drop (i + 1) bytes)
  unfolding are_zero
  zero_yes h n = rw (add-one, drop-cons bytes i 0 h, eq-eqb _ _ n)

-- Every byte is copied.
pub pad_end : (n : ℕ) (bytes : List ℕ) (i : ℕ) → i ≡ length bytes → take i bytes ++ replicate {A = ℕ} (n - i) 0 ≡ padded n bytes
unfolding padded
pad_end n bytes i e = rw (e, take-length bytes)

-- The part of an array of n bytes from k on.
pub part_rest : (n k : ℕ) (l : List ℕ) → length l ≡ n → take (n - k) (drop k l) ≡ drop k l
part_rest n k l e = take_all (n - k) (drop k l) (simp length-drop (omega arith))

-- A length that doesn't fit; one that fits: the bytes past it decide.
module _ (most : ℕ) (bytes : List ℕ) (n : ℕ) where
  pub too_long : most < n → is_padded most bytes n ≡ false
  unfolding is_padded
  too_long h = simp (lt-leb _ _ h)

  pub rest_decides : n ≤ most → is_padded most bytes n ≡ are_zero (drop n bytes)
  unfolding is_padded
  rest_decides h = simp (le-leb _ _ h)

  -- What the test tells.
  pub padded_within : is_padded most bytes n ≡ true → n ≤ most
  unfolding is_padded
  padded_within h = leb-true n most (both_true (leb n most) (are_zero (drop n bytes)) h).0

  pub padded_rest : is_padded most bytes n ≡ true → are_zero (drop n bytes) ≡ true
  unfolding is_padded
  padded_rest h = (both_true (leb n most) (are_zero (drop n bytes)) h).1

module _ (bytes : List ℕ) where
  -- The record that is loaded is that of the bytes' reading.
  loaded_for : (x : Answer Sheet) → reading bytes ≡ x → loaded bytes ≡ given_or zeros (λ sheet. record_of bytes []) x
  unfolding loaded
  loaded_for x e = ap (given_or zeros (λ (sheet : Sheet). record_of bytes [])) e

  -- Accepted bytes fit into the record.
  pub accepted_fits : gives tt ≡ without_value (reading bytes) → length bytes ≤ most_bytes
  accepted_fits e = let a = was_accepted (reading bytes) e in accepted_length bytes a.0 a.1

  pub loaded_record : (sheet : Sheet) → reading bytes ≡ gives sheet → loaded bytes ≡ record_of bytes []
  unfolding given_or
  loaded_record sheet read = loaded_for (gives sheet) read

  -- Of accepted bytes the record is they and zeros behind them, with no replies.
  pub loaded_accepted : gives tt ≡ without_value (reading bytes)
      → loaded bytes ≡ record { sheet = padded most_bytes bytes; len = length bytes; replies = replicate most_acts 0; count = 0 }
  unfolding record_of
  loaded_accepted e = let a = was_accepted (reading bytes) e in loaded_record a.0 a.1

  -- Of refused bytes the record is that of zeros.
  pub loaded_refused : (r : ℕ) → refused r ≡ without_value (reading bytes) → loaded bytes ≡ zeros
  unfolding given_or
  loaded_refused r e = loaded_for (refused r) (was_refused (reading bytes) r e)
