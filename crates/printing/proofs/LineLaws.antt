-- Laws of the printed lines: digits, decimals and bytes in hexadecimal, and parts written one behind the other. Assumes nothing.
use Prim.Native.Nat.{ℕ, zero, suc, ◌+◌, ◌-◌, ◌*◌, ◌/◌, ◌%◌, ◌^◌, ◌≤◌, ◌<◌}
use mathlib.Core.Path.{◌≡◌, refl, ap, sym, subst, ◌∙◌}
use mathlib.Core.List.{List, [], ◌∷◌, ◌++◌, append-nil, flat_map}
use mathlib.Core.Bool.{Bool, true, false}
use native.Mathlib.Omega.{arith}
use native.Mathlib.Nat.{pow-suc}
use lib.Dec.{ltb}
use borrow.Author.Tests.{ltb-true, ltb-false, lt-ltb, le-ltb}
use lib.ListN.{length, get_or, take, drop, set, length-append}
use lib.Seq.{take-suc, take_all, drop-cons, length-take-le}
use Rattle.std.proofs.lemmas.List.{take-append-drop}
use Rattle.lists.specs.Lists.{write}
use Rattle.std.specs.Prelude.{Result, Ok, Err}
use Rattle.std.specs.Borrow.{MutBor}
use Rattle.format.specs.Format.{gives}
use Rattle.reader.specs.Answers.{number_for}
use Rattle.semantics.specs.Verdict.{invalid}
use Rattle.semantics.specs.Printing.{space, digit, decimal, hexadecimal, behind_space, refused_word, end_line, printed_for, spaced, numbers_line, most_lines}
use Rattle.semantics.proofs.PrintingLaws.{decimal_small, decimal_more}
use Rattle.routine.proofs.WriteLaws.{written_on, write_length, spread_append}
use Rattle.verifier.specs.declared.verdict.Verdict.{Verdict}
use Rattle.verifier.specs.declared.verdict.VerifyError.{VerifyError}
use Rattle.verifier.specs.Answers.{answer_of}
use Rattle.printing.specs.declared.text.Text.{Text}
use Rattle.printing.specs.Lines.{Room, Appended, shown_in, Printable}

-- The digit of a number, below 10 and from 10 on.
pub digit_low : (d : ℕ) → d < 10 → 0x30 + d ≡ digit d
unfolding digit
digit_low d h = rw (lt-ltb d 10 h)

pub digit_high : (d : ℕ) → 10 ≤ d → 0x61 + (d - 10) ≡ digit d
unfolding digit
digit_high d h = rw (le-ltb d 10 h) (omega arith)

-- One byte is written, and two parts one behind the other.
pub one : (t : Text) (b : ℕ) → Room t (b ∷ []) → Appended t (record { bytes = record t.bytes { now = set t.bytes.now t.length b }; length = t.length + 1 }) (b ∷ [])
unfolding write
one t b h = record { longer = refl; written = refl; within = h.fits; lent = refl }

pub none : (t : Text) → t.length ≤ most_lines → Appended t t []
unfolding write
none t h = record { longer = omega arith; written = refl; within = h; lent = refl }

module _ {t u : Text} {xs : List ℕ} where
  pub on : {v : Text} {ys : List ℕ} → Appended t u xs → Appended u v ys → Appended t v (xs ++ ys)
  on {v} {ys} p q = record {
    longer = omega (arith, p.longer, q.longer, length-append xs ys);
    written = written_on t.bytes.now u.bytes.now v.bytes.now t.length u.length xs ys p.written q.written (sym p.longer);
    within = q.within;
    lent = q.lent ∙ p.lent;
  }

  -- There is room for the second part behind the first.
  pub behind : (ys : List ℕ) → Room t (xs ++ ys) → Appended t u xs → Room u ys
  behind ys h p = record { fits = omega (arith, h.fits, p.longer, length-append xs ys) }

pub ahead : {t : Text} (xs ys : List ℕ) → Room t (xs ++ ys) → Room t xs
ahead xs ys h = record { fits = omega (arith, h.fits, length-append xs ys) }

-- Items are written one behind the other, each as `shown` says.
pub none_yet : (shown : ℕ → List ℕ) (t : Text) → t.length ≤ most_lines → Appended t t (flat_map shown [])
unfolding flat_map
none_yet shown t h = none t h

module _ (shown : ℕ → List ℕ) (items : List ℕ) {t u : Text} (i : ℕ) where
  pub next_room : Room t (flat_map shown items) → Appended t u (flat_map shown (take i items)) → i < length items → Room u (shown (get_or items i 0))
  unfolding flat_map
  next_room h p l =
      let e = ap (flat_map shown) (sym (take-append-drop i items)) ∙ spread_append shown (take i items) (drop i items) in
      let d = ap (λ (xs : List ℕ). length (flat_map shown xs)) (drop-cons items i 0 l) in
      record {
        fits = omega (arith, h.fits, p.longer, ap length e, length-append (flat_map shown (take i items)) (flat_map shown (drop i items)), d, length-append (shown (get_or items i 0)) (flat_map shown (drop (suc i) items)));
      }

  pub next : {v : Text} → Appended t u (flat_map shown (take i items)) → i < length items → Appended u v (shown (get_or items i 0)) → Appended t v (flat_map shown (take (i + 1) items))
  unfolding flat_map
  next {v} p l q =
      let s : i + 1 ≡ suc i = omega arith in
      let e = ap (λ (j : ℕ). flat_map shown (take j items)) s ∙ ap (flat_map shown) (take-suc items i 0 l) ∙ spread_append shown (take i items) (get_or items i 0 ∷ []) in
      subst (Appended t v) (sym e) (on p (subst (Appended u v) (sym (append-nil (shown (get_or items i 0)))) q))

  pub all : Appended t u (flat_map shown (take i items)) → length items ≤ i → Appended t u (flat_map shown items)
  all p l = subst (λ (xs : List ℕ). Appended t u (flat_map shown xs)) (take_all i items l) p

-- The length of a number's decimal: one digit, one more, and at most so many.
pub small_length : (n : ℕ) → n < 10 → length (decimal n) ≡ 1
small_length n h = ap length (decimal_small n h)

pub more_length : (n : ℕ) → 10 ≤ n → length (decimal n) ≡ length (decimal (n / 10)) + 1
more_length n h = ap length (decimal_more n h) ∙ length-append (decimal (n / 10)) (digit (n % 10) ∷ [])

pub decimal_length : (k n : ℕ) → n < 10 ^ suc k → length (decimal n) ≤ suc k
decimal_length zero n h = omega (arith, small_length n h)
decimal_length (suc k) n h =
    let p : 10 ^ suc (suc k) ≡ 10 ^ suc k * 10 = pow-suc 10 (suc k) in go (ltb n 10) refl (decimal_length k (n / 10) (omega arith))
  where
    go : (b : Bool) → ltb n 10 ≡ b → length (decimal (n / 10)) ≤ suc k → length (decimal n) ≤ suc (suc k)
    go true t below = omega (arith, small_length n (ltb-true n 10 t))
    go false t below = omega (arith, more_length n (ltb-false n 10 t))

pub decimal_most : (n : ℕ) → n < 18446744073709551616 → length (decimal n) ≤ 20
decimal_most n h = decimal_length 19 n (omega arith)

-- A number's decimal is written: its one digit, or its last digit behind the others.
pub decimal_one : (m : List ℕ) (at n d : ℕ) → n < 10 → d ≡ digit n → (at + 1 ≡ at + length (decimal n)) × (set m at d ≡ write m at (decimal n))
unfolding write
decimal_one m at n d h e = rw (decimal_small n h, e) (refl, refl)

pub decimal_behind : (m u : List ℕ) (at last n d : ℕ) → 10 ≤ n → (last ≡ at + length (decimal (n / 10))) × (u ≡ write m at (decimal (n / 10))) → d ≡ digit (n % 10)
    → (last + 1 ≡ at + length (decimal n)) × (set u last d ≡ write m at (decimal n))
unfolding write
decimal_behind m u at last n d h p e =
    (omega (arith, more_length n h, p.0), rw (decimal_more n h, ← e) (written_on m u (set u last d) at last (decimal (n / 10)) (d ∷ []) p.1 refl (sym p.0)))

-- Bytes in hexadecimal and decimals with single spaces are the first, and each other behind a space.
abbrev pub hexadecimal_behind : ℕ → List ℕ
hexadecimal_behind b = space ∷ hexadecimal (b ∷ [])

pub hexadecimal_each : (b : ℕ) (rest : List ℕ) → hexadecimal (b ∷ rest) ≡ hexadecimal (b ∷ []) ++ flat_map hexadecimal_behind rest
unfolding hexadecimal flat_map
hexadecimal_each b [] = refl
hexadecimal_each b (c ∷ rest) = ap (λ (zs : List ℕ). digit (b / 16) ∷ digit (b % 16) ∷ space ∷ zs) (hexadecimal_each c rest)

pub spaced_each : (n : ℕ) (rest : List ℕ) → spaced (n ∷ rest) ≡ decimal n ++ flat_map behind_space rest
unfolding spaced flat_map
spaced_each n [] = sym (append-nil (decimal n))
spaced_each n (m ∷ rest) = ap (λ (zs : List ℕ). decimal n ++ (space ∷ zs)) (spaced_each m rest)

-- The same by the parts of a slice that isn't empty.
behind_first : (x : ℕ) (rest : List ℕ) → take (length (x ∷ rest) - 1) (drop 1 (x ∷ rest)) ≡ rest
behind_first x rest = take_all (length (x ∷ rest) - 1) rest (omega arith)

pub hexadecimal_parts : (xs : List ℕ) → 1 ≤ length xs → hexadecimal xs ≡ hexadecimal (get_or xs 0 0 ∷ []) ++ flat_map hexadecimal_behind (take (length xs - 1) (drop 1 xs))
hexadecimal_parts [] h = absurd (omega arith)
hexadecimal_parts (b ∷ rest) h = rw (behind_first b rest) (hexadecimal_each b rest)

pub spaced_parts : (xs : List ℕ) → 1 ≤ length xs → spaced xs ≡ decimal (get_or xs 0 0) ++ flat_map behind_space (take (length xs - 1) (drop 1 xs))
spaced_parts [] h = absurd (omega arith)
spaced_parts (n ∷ rest) h = rw (behind_first n rest) (spaced_each n rest)

-- Of no bytes and of no numbers there is nothing to write.
pub hexadecimal_none : (t : Text) (xs : List ℕ) → length xs < 1 → Room t (hexadecimal xs) → Appended t t (hexadecimal xs)
unfolding hexadecimal
hexadecimal_none t [] h k = none t (omega (arith, k.fits))
hexadecimal_none t (x ∷ xs) h k = absurd (omega arith)

pub spaced_none : (t : Text) (xs : List ℕ) → length xs < 1 → Room t (spaced xs) → Appended t t (spaced xs)
unfolding spaced
spaced_none t [] h k = none t (omega (arith, k.fits))
spaced_none t (x ∷ xs) h k = absurd (omega arith)

-- How long they are.
pub hexadecimal_length : (xs : List ℕ) → 0 < length xs → length (hexadecimal xs) + 1 ≡ 3 * length xs
unfolding hexadecimal
hexadecimal_length [] h = absurd (omega arith)
hexadecimal_length (x ∷ []) h = refl
hexadecimal_length (x ∷ y ∷ xs) h = omega (arith, hexadecimal_length (y ∷ xs) (omega arith))

pub trace_length : (k : ℕ) (trace : List ℕ) → 0 < k → k ≤ length trace → length (hexadecimal (take k trace)) + 1 ≡ 3 * k
trace_length k trace h l = let n = length-take-le k trace l in omega (arith, n, hexadecimal_length (take k trace) (omega (arith, n)))

spaced_length : (xs : List ℕ) → ((i : ℕ) → get_or xs i 0 < 18446744073709551616) → length (spaced xs) ≤ 21 * length xs
unfolding spaced
spaced_length [] h = omega arith
spaced_length (x ∷ []) h = omega (arith, decimal_most x (h 0))
spaced_length (x ∷ y ∷ xs) h = omega (arith, decimal_most x (h 0), spaced_length (y ∷ xs) (λ i. h (suc i)), length-append (decimal x) (space ∷ spaced (y ∷ xs)))

pub invalid_length : (c l : ℕ) (shown : List ℕ) → length (printed_for (gives (invalid c l)) shown) ≡ 11 + length (decimal c) + length (decimal l) + length (hexadecimal shown)
unfolding printed_for
invalid_length c l shown = omega (
  arith,
  length-append (decimal c) (behind_space l),
  length-append (decimal c ++ behind_space l) end_line,
  length-append (decimal c ++ behind_space l ++ end_line) (hexadecimal shown),
  length-append (decimal c ++ behind_space l ++ end_line ++ hexadecimal shown) end_line,
)

-- There is room for a line, and for those of "invalid" with its trace, in a text that is empty.
pub line_room : (t : Text) (word : List ℕ) (n : ℕ) → t.length ≡ 0 → length word ≤ 7 → n < 18446744073709551616 → Room t (word ++ behind_space n ++ end_line)
line_room t word n e w h = record { fits = omega (arith, length-append word (behind_space n), length-append (word ++ behind_space n) end_line, decimal_most n h) }

pub invalid_room : (t : Text) (c l : ℕ) (trace : List ℕ) → t.length ≡ 0 → c < 18446744073709551616 → l ≤ 64 → 1 + 2 * l ≤ length trace
    → Room t (printed_for (gives (invalid c l)) (take (1 + 2 * l) trace))
invalid_room t c l trace e h k m =
    record { fits = omega (arith, invalid_length c l (take (1 + 2 * l) trace), decimal_most c h, decimal_most l (omega arith), trace_length (1 + 2 * l) trace (omega arith) m) }

-- A word is its bytes, one behind the other.
pub word_each : (word : List ℕ) → flat_map (λ (b : ℕ). b ∷ []) word ≡ word
unfolding flat_map
word_each [] = refl
word_each (b ∷ word) = ap (λ (bytes : List ℕ). b ∷ bytes) (word_each word)

-- There is room for six numbers of 64 bits in a text that is empty, and for their line's end.
module _ (numbers : List ℕ) (few : length numbers ≤ 6) (small : (i : ℕ) → get_or numbers i 0 < 18446744073709551616) {t : Text} (begun : t.length ≡ 0) where
  pub numbers_room : Room t (spaced numbers)
  numbers_room = record { fits = omega (arith, spaced_length numbers small) }

  pub end_room : {u : Text} (b : ℕ) → Appended t u (spaced numbers) → Room u (b ∷ [])
  end_room b p = record { fits = omega (arith, p.longer, spaced_length numbers small) }

-- The line of numbers.
pub line_written : (out : MutBor (List ℕ)) (numbers : List ℕ) (u v : Text) → Appended (record { bytes = out; length = 0 }) u (spaced numbers) → Appended u v end_line
    → (v.length ≡ length (numbers_line numbers)) × (v.bytes.now ≡ write out.now 0 (numbers_line numbers)) × (v.length ≤ most_lines)
unfolding numbers_line
line_written out numbers u v p q = let r = on p q in (omega (arith, r.longer), r.written, r.within)

-- What is shown of a verdict "invalid".
pub printable_invalid : (v : Result Verdict VerifyError) (c l : ℕ) → v ≡ Ok (Verdict.Invalid c l) → Printable v → l ≤ 64
unfolding Printable
printable_invalid v c l e h = rw e at h

-- What was written are the lines of the verdict: of the one that it is, and of a refusal by its number.
module _ {t u : Text} (trace : List ℕ) where
  pub lines_of : (v w : Result Verdict VerifyError) → v ≡ w → Appended t u (printed_for (answer_of w) (shown_in (answer_of w) trace)) → Appended t u (printed_for (answer_of v) (shown_in (answer_of v) trace))
  lines_of v w e h = rw e h

  pub refused_lines : (k : ℕ) (x : VerifyError) → k ≡ number_for (answer_of (Err x)) → Appended t u (refused_word ++ behind_space k ++ end_line)
      → Appended t u (printed_for (answer_of (Err x)) (shown_in (answer_of (Err x)) trace))
  unfolding printed_for answer_of number_for shown_in
  refused_lines k x e h = go x (subst (λ (j : ℕ). Appended t u (refused_word ++ behind_space j ++ end_line)) e h)
    where
      go : (x : VerifyError) → Appended t u (refused_word ++ behind_space (number_for (answer_of (Err x))) ++ end_line)
          → Appended t u (printed_for (answer_of (Err x)) (shown_in (answer_of (Err x)) trace))
      go VerifyError.ShortMemory h = h
      go (VerifyError.Refused r) h = h

-- Behind the first number the others are written behind the first place.
write_behind : (x : ℕ) (xs : List ℕ) (i : ℕ) (ys : List ℕ) → write (x ∷ xs) (suc i) ys ≡ x ∷ write xs i ys
unfolding write
write_behind x xs i [] = refl
write_behind x xs i (y ∷ ys) = ap (λ (j : ℕ). write (x ∷ set xs i y) j ys) (let e : suc i + 1 ≡ suc (i + 1) = omega arith in e) ∙ write_behind x (set xs i y) (i + 1) ys

-- So lines that were written are read back.
pub lines_back : (out lines : List ℕ) → length lines ≤ length out → take (length lines) (write out 0 lines) ≡ lines
unfolding write
lines_back out [] h = refl
lines_back [] (y ∷ ys) h = absurd (omega arith)
lines_back (x ∷ xs) (y ∷ ys) h = ap (take (suc (length ys))) (write_behind y xs 0 ys) ∙ ap (λ (zs : List ℕ). y ∷ zs) (lines_back xs ys (omega arith))

-- Lines that were printed into an array of their room are its first bytes.
pub lines_first : (n : ℕ) (out lines after : List ℕ) → n ≡ length lines → after ≡ write out 0 lines → n ≤ most_lines → length out ≡ most_lines → (take n after ≡ lines) × (n ≤ length after)
lines_first n out lines after e w l k =
    let fit : length lines ≤ length out = omega (arith, e, l, k) in
    ((λ i. take (e i) (w i)) ∙ lines_back out lines fit, omega (arith, l, k, ap length w, write_length out 0 lines))
