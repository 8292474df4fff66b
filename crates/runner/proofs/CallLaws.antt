-- What 31 asks of a record, part by part, and what an accepted report makes of it. Assumes nothing.
use Prim.Native.Nat.{ℕ, suc, ◌+◌, ◌-◌, ◌≤◌, ◌<◌}
use native.Mathlib.Omega.{arith}
use mathlib.Core.Path.{◌≡◌, refl, sym, ◌∙◌, ap}
use mathlib.Core.List.{List, [], ◌∷◌, ◌++◌, append_assoc}
use mathlib.Core.Bool.{Bool, true, false}
use lib.Dec.{eqb, ltb}
use lib.ListN.{length, replicate, take, drop, set, get_or, length-append, length-drop, take-append-drop}
use lib.Seq.{drop-cons, set_split, length-take-le}
use borrow.Author.Tests.{eqb-true}
use Rattle.lists.specs.Lists.{every}
use Rattle.std.specs.Prelude.{if◌then◌else◌}
use Rattle.lists.proofs.ListLaws.{both_true}
use Rattle.format.specs.Syntax.{reply_count, Sheet, action_of}
use Rattle.format.specs.Format.{Answer, gives, refused, on_accepted, reading, most_bytes, most_acts, given_or}
use Rattle.reader.specs.Answers.{without_value}
use Rattle.reader.proofs.AnswerLaws.{was_accepted}
use Rattle.semantics.specs.Runs.{History, entry}
use Rattle.semantics.specs.Routine.{Policy, done, perform, routine}
use Rattle.semantics.specs.Replies.{left_after, history_of, still_possible, reported_to, reported, are_of_run}
use Rattle.semantics.proofs.ReplyLaws.{accepted_run}
use Rattle.semantics.proofs.AcceptedLaws.{replies_most}
use Rattle.runner.specs.declared.calls.Record.{Record}
use Rattle.runner.specs.Answers.{bad_record}
use Rattle.runner.specs.Records.{padded, are_zero, record_of, held_sheet, held_replies, is_padded, sheet_in, are_replies, passing, held_by, report_on, record_after}
use Rattle.runner.proofs.RecordLaws.{padded_within, padded_rest}

-- An answer that without its value is a refusal changes no record.
pub refused_unchanged : {A : Type 0} (made : A → Record) (r : Record) (k : ℕ) (a : Answer A) → refused k ≡ without_value a → r ≡ given_or r made a
unfolding without_value given_or
refused_unchanged made r k (gives x) e = let z : ◌≡◌ {A = ℕ} 0 1 = cc in absurd (omega arith)
refused_unchanged made r k (refused m) e = refl

-- What follows on an acceptance is accepted where both are.
pub on_accepted_law : {A B : Type 0} (f : A → Answer B) (a : Answer A) (y : B) → on_accepted f a ≡ gives y → (x : A) × (a ≡ gives x) × (f x ≡ gives y)
unfolding on_accepted
on_accepted_law f (gives x) y e = (x, refl, e)
on_accepted_law f (refused k) y e = let z : ◌≡◌ {A = ℕ} 0 1 = cc in absurd (omega arith)

-- What passes the test of 31.
passing_passed : {A : Type 0} (test : A → Bool) (a : Answer A) (x : A) → passing test a ≡ gives x → (a ≡ gives x) × (test x ≡ true)
unfolding passing
passing_passed test (refused k) x e = let z : ◌≡◌ {A = ℕ} 0 1 = cc in absurd (omega arith)
passing_passed test (gives y) x e = go (test y) refl e
  where
    go : (b : Bool) → test y ≡ b → (if b then gives y else bad_record) ≡ gives x → (gives y ≡ gives x) × (test x ≡ true)
    go true t k = let same : y ≡ x = cc in (k, sym (ap test same) ∙ t)
    go false t k = let z : ◌≡◌ {A = ℕ} 0 1 = cc in absurd (omega arith)

-- An accepted report adds its reply to the replies.
pub reported_adds : (sheet : Sheet) (rs : List ℕ) (x : ℕ) (qs : List ℕ) → reported sheet rs x ≡ gives qs → qs ≡ rs ++ (x ∷ [])
unfolding reported reported_to
reported_adds sheet rs x qs e = go (left_after (routine sheet) rs) (history_of (routine sheet) rs) e
  where
    tests : (b c : Bool) → (if b then (if c then gives (rs ++ (x ∷ [])) else refused 34) else refused 33) ≡ gives qs → qs ≡ rs ++ (x ∷ [])
    tests true true k = cc
    tests true false k = let z : ◌≡◌ {A = ℕ} 0 1 = cc in absurd (omega arith)
    tests false c k = let z : ◌≡◌ {A = ℕ} 0 1 = cc in absurd (omega arith)

    go : (p : Policy) (h : History) → reported_to sheet p h rs x ≡ gives qs → qs ≡ rs ++ (x ∷ [])
    go done h k = let z : ◌≡◌ {A = ℕ} 0 1 = cc in absurd (omega arith)
    go (perform a after) h k = tests (ltb x (reply_count (action_of sheet a))) (still_possible sheet h (entry a x)) k

-- Bytes that are all 0 are that many zeros.
zeros_are : (xs : List ℕ) → are_zero xs ≡ true → xs ≡ replicate {A = ℕ} (length xs) 0
unfolding are_zero every
zeros_are [] e = refl
zeros_are (b ∷ xs) e =
    let t = both_true (eqb b 0) (are_zero xs) e in
    let here : b ≡ 0 = eqb-true b 0 t.0 in
    let rest = zeros_are xs t.1 in
    λ i. here i ∷ rest i

-- Behind a byte of such bytes there are such bytes.
more_zeros : (b : ℕ) (xs : List ℕ) → are_zero (b ∷ xs) ≡ true → are_zero xs ≡ true
unfolding are_zero every
more_zeros b xs e = (both_true (eqb b 0) (are_zero xs) e).1

-- A byte written where the zeros begin: the bytes before them with it, and one zero less.
written_padded : (l : ℕ) (xs : List ℕ) (c x : ℕ) → length xs ≡ l → c < l → are_zero (drop c xs) ≡ true → set xs c x ≡ padded l (take c xs ++ (x ∷ []))
unfolding padded
written_padded l xs c x e h z =
    let h' : c < length xs = omega arith in
    let w = drop-cons xs c 0 h' in
    let zs : are_zero (get_or xs c 0 ∷ drop (suc c) xs) ≡ true = sym (ap are_zero w) ∙ z in
    let left = zeros_are (drop (suc c) xs) (more_zeros (get_or xs c 0) (drop (suc c) xs) zs) in
    let len : length (drop (suc c) xs) ≡ l - length (take c xs ++ (x ∷ [])) =
    omega (arith, length-drop (suc c) xs, length-append (take c xs) (x ∷ []), length-take-le c xs (omega arith)) in
    set_split xs c x h'
    ∙ ap (λ (ys : List ℕ). take c xs ++ x ∷ ys) (left ∙ ap (λ (n : ℕ). replicate {A = ℕ} n 0) len)
    ∙ sym (append_assoc (take c xs) (x ∷ []) (replicate {A = ℕ} (l - length (take c xs ++ (x ∷ []))) 0))

-- A padded array is the bytes before the length and zeros behind them, and there are as many.
module _ (l : ℕ) (xs : List ℕ) (n : ℕ) (e : length xs ≡ l) (h : is_padded l xs n ≡ true) where
  pub before_length : length (take n xs) ≡ n
  before_length = length-take-le n xs (omega (arith, padded_within l xs n h))

  pub padded_back : padded l (take n xs) ≡ xs
  unfolding padded
  padded_back =
      let left = zeros_are (drop n xs) (padded_rest l xs n h) in
      let len : l - length (take n xs) ≡ length (drop n xs) = omega (arith, length-drop n xs, before_length) in
      ap (λ (k : ℕ). take n xs ++ replicate {A = ℕ} k 0) len ∙ ap (λ (ys : List ℕ). take n xs ++ ys) (sym left) ∙ take-append-drop n xs

module _ (r : Record) where
  -- What a record holds, by what the parts of 31 say.
  pub sheet_padded : is_padded most_bytes r.sheet r.len ≡ true → sheet_in r ≡ reading (held_sheet r)
  unfolding sheet_in
  sheet_padded h = ap (λ (b : Bool). if b then reading (held_sheet r) else bad_record) h

  pub sheet_not : is_padded most_bytes r.sheet r.len ≡ false → sheet_in r ≡ bad_record
  unfolding sheet_in
  sheet_not h = ap (λ (b : Bool). if b then reading (held_sheet r) else bad_record) h

  pub held_is : (sheet : Sheet) (b : Bool) → sheet_in r ≡ gives sheet → are_replies sheet r.replies r.count ≡ b → held_by r ≡ (if b then gives sheet else bad_record)
  unfolding held_by passing
  held_is sheet b e t =
      ap (passing (λ (s : Sheet). are_replies s r.replies r.count)) e ∙ ap (λ (c : Bool). if c then gives sheet else bad_record) t

  pub held_refused : (k : ℕ) → sheet_in r ≡ refused k → held_by r ≡ bad_record
  unfolding held_by passing
  held_refused k e = ap (passing (λ (s : Sheet). are_replies s r.replies r.count)) e

  -- And back.
  pub sheet_accepted : (sheet : Sheet) → sheet_in r ≡ gives sheet → (is_padded most_bytes r.sheet r.len ≡ true) × (reading (held_sheet r) ≡ gives sheet)
  sheet_accepted sheet e = go (is_padded most_bytes r.sheet r.len) refl
    where
      go : (b : Bool) → is_padded most_bytes r.sheet r.len ≡ b → (is_padded most_bytes r.sheet r.len ≡ true) × (reading (held_sheet r) ≡ gives sheet)
      go true h = (h, sym (sheet_padded h) ∙ e)
      go false h = let no_way : bad_record ≡ gives sheet = sym (sheet_not h) ∙ e in let z : ◌≡◌ {A = ℕ} 0 1 = cc in absurd (omega arith)

  pub held_parts : (sheet : Sheet) → held_by r ≡ gives sheet
      → (is_padded most_bytes r.sheet r.len ≡ true) × (reading (held_sheet r) ≡ gives sheet) × (is_padded most_acts r.replies r.count ≡ true) × (are_of_run sheet (held_replies r) ≡ true)
  unfolding held_by are_replies held_replies
  held_parts sheet e =
      let p = passing_passed (λ (s : Sheet). are_replies s r.replies r.count) (sheet_in r) sheet e in
      let s = sheet_accepted sheet p.0 in
      let t = both_true (is_padded most_acts r.replies r.count) (are_of_run sheet (take r.count r.replies)) p.1 in
      (s.0, s.1, t.0, t.1)

  module _ (x : ℕ) where
    -- A refused report changes nothing.
    pub after_refused : (k : ℕ) → refused k ≡ without_value (report_on r x) → r ≡ record_after r x
    unfolding record_after
    after_refused k e = refused_unchanged (record_of (held_sheet r)) r k (report_on r x) e

    -- An accepted report: the record was not refused, there was room, and its reply stands behind the others.
    module _ (sheet_sized : length r.sheet ≡ most_bytes) (replies_sized : length r.replies ≡ most_acts) (e : gives tt ≡ without_value (report_on r x)) where
      by_sheet : (qs : List ℕ) × (report_on r x ≡ gives qs) × ((sheet : Sheet) × (held_by r ≡ gives sheet) × (reported sheet (held_replies r) x ≡ gives qs))
      unfolding report_on
      by_sheet =
          let a = was_accepted (report_on r x) e in
          (a.0, a.1, on_accepted_law (λ (s : Sheet). reported s (held_replies r) x) (held_by r) a.0 a.1)

      parts : (is_padded most_bytes r.sheet r.len ≡ true) × (reading (held_sheet r) ≡ gives by_sheet.2.0) × (is_padded most_acts r.replies r.count ≡ true) × (are_of_run by_sheet.2.0 (held_replies r) ≡ true)
      parts = held_parts by_sheet.2.0 by_sheet.2.1

      added : report_on r x ≡ gives (held_replies r ++ (x ∷ []))
      added = by_sheet.1 ∙ ap gives (reported_adds by_sheet.2.0 (held_replies r) x by_sheet.0 by_sheet.2.2)

      at_most : length (held_replies r ++ (x ∷ [])) ≤ most_acts
      at_most =
          let q = reported_adds by_sheet.2.0 (held_replies r) x by_sheet.0 by_sheet.2.2 in
          replies_most (held_sheet r) by_sheet.2.0 parts.1 (held_replies r ++ (x ∷ [])) (accepted_run by_sheet.2.0 (held_replies r) x (by_sheet.2.2 ∙ ap gives q))

      longer : length (held_replies r ++ (x ∷ [])) ≡ r.count + 1
      unfolding held_replies
      longer = omega (arith, length-append (take r.count r.replies) (x ∷ []), before_length most_acts r.replies r.count replies_sized parts.2)

      pub has_room : r.count < most_acts
      has_room = omega (arith, at_most, longer)

      pub after_accepted : record { sheet = r.sheet; len = r.len; replies = set r.replies r.count x; count = r.count + 1 } ≡ record_after r x
      unfolding record_after given_or record_of held_replies held_sheet
      after_accepted =
          let w = written_padded most_acts r.replies r.count x replies_sized has_room (padded_rest most_acts r.replies r.count parts.2) in
          let s = sym (padded_back most_bytes r.sheet r.len sheet_sized parts.0) in
          let n = sym (before_length most_bytes r.sheet r.len sheet_sized parts.0) in
          (λ i. record { sheet = s i; len = n i; replies = w i; count = sym longer i }) ∙ sym (ap (given_or r (record_of (held_sheet r))) added)
