-- The record that belongs to a sheet and to replies of a run: what it holds, and what "Next" and "Report" make of it. Assumes nothing.
use Prim.Native.Nat.{ℕ, zero, suc, ◌-◌, ◌≤◌}
use mathlib.Core.Path.{◌≡◌, refl, sym, ap, ◌∙◌}
use mathlib.Core.Logic.{◌↔◌}
use mathlib.Core.List.{List}
use mathlib.Core.Bool.{true}
use lib.ListN.{length, replicate, take, drop}
use lib.Seq.{take-append_seam, drop-append_seam}
use Rattle.lists.specs.Lists.{every}
use Rattle.lists.proofs.ListLaws.{and_both}
use Rattle.format.specs.Syntax.{Sheet}
use Rattle.format.specs.Format.{Answer, gives, refused, on_accepted, reading, most_bytes, most_acts, given_or}
use Rattle.format.proofs.SheetLaws.{accepted_length}
use Rattle.semantics.specs.Replies.{told, reported, RepliesOfRun, are_of_run}
use Rattle.semantics.proofs.ReplyLaws.{of_run, run_of}
use Rattle.semantics.proofs.AcceptedLaws.{replies_most}
use Rattle.runner.specs.declared.calls.Record.{Record}
use Rattle.runner.specs.Records.{padded, are_zero, record_of, held_sheet, held_replies, is_padded, sheet_in, are_replies, held_by, next_on, report_on, record_after}
use Rattle.runner.proofs.RecordLaws.{rest_decides}
use Rattle.runner.proofs.CallLaws.{on_accepted_law, sheet_padded, held_is, held_parts, before_length, padded_back}

-- Zeros are zeros.
zeros_zero : (n : ℕ) → are_zero (replicate n 0) ≡ true
unfolding are_zero every
zeros_zero zero = refl
zeros_zero (suc n) = zeros_zero n

-- Behind the bytes there are zeros.
behind_zero : (l : ℕ) (xs : List ℕ) → are_zero (drop (length xs) (padded l xs)) ≡ true
unfolding padded
behind_zero l xs = ap are_zero (drop-append_seam xs (replicate (l - length xs) 0)) ∙ zeros_zero (l - length xs)

before_bytes : (l : ℕ) (xs : List ℕ) → take (length xs) (padded l xs) ≡ xs
unfolding padded
before_bytes l xs = take-append_seam xs (replicate (l - length xs) 0)

-- So bytes and zeros behind them are padded.
is_padded_law : (l : ℕ) (xs : List ℕ) → length xs ≤ l → is_padded l (padded l xs) (length xs) ≡ true
is_padded_law l xs h = rest_decides l (padded l xs) (length xs) h ∙ behind_zero l xs

module _ (bytes rs : List ℕ) where
  held_sheet_law : held_sheet (record_of bytes rs) ≡ bytes
  unfolding held_sheet record_of
  held_sheet_law = before_bytes most_bytes bytes

  held_replies_law : held_replies (record_of bytes rs) ≡ rs
  unfolding held_replies record_of
  held_replies_law = before_bytes most_acts rs

module _ (bytes : List ℕ) (sheet : Sheet) (read : reading bytes ≡ gives sheet) (rs : List ℕ) (run : RepliesOfRun sheet rs) where
  sheet_held : sheet_in (record_of bytes rs) ≡ gives sheet
  unfolding record_of
  sheet_held = sheet_padded (record_of bytes rs) (is_padded_law most_bytes bytes (accepted_length bytes sheet read)) ∙ ap reading (held_sheet_law bytes rs) ∙ read

  replies_held : are_replies sheet (record_of bytes rs).replies (record_of bytes rs).count ≡ true
  unfolding are_replies record_of
  replies_held =
      and_both (is_padded most_acts (padded most_acts rs) (length rs)) (are_of_run sheet (take (length rs) (padded most_acts rs)))
      (is_padded_law most_acts rs (replies_most bytes sheet read rs run)) (ap (are_of_run sheet) (before_bytes most_acts rs) ∙ run_of sheet rs run)

  held : held_by (record_of bytes rs) ≡ gives sheet
  held = held_is (record_of bytes rs) sheet true sheet_held replies_held

  pub next_held : next_on (record_of bytes rs) ≡ gives (told sheet rs)
  unfolding next_on on_accepted
  next_held = λ i. on_accepted (λ (s : Sheet). gives (told s (held_replies_law bytes rs i))) (held i)

  pub report_held : (reply : ℕ) → report_on (record_of bytes rs) reply ≡ reported sheet rs reply
  unfolding report_on on_accepted
  report_held reply = λ i. on_accepted (λ (s : Sheet). reported s (held_replies_law bytes rs i) reply) (held i)

  -- After a report that adds replies it is the record that belongs to these; after a refused one it is the same.
  pub after_added : (reply : ℕ) (qs : List ℕ) → reported sheet rs reply ≡ gives qs → record_after (record_of bytes rs) reply ≡ record_of bytes qs
  unfolding record_after given_or
  after_added reply qs e =
      ap (given_or (record_of bytes rs) (record_of (held_sheet (record_of bytes rs)))) (report_held reply ∙ e) ∙ ap (λ (b : List ℕ). record_of b qs) (held_sheet_law bytes rs)

  pub after_refused : (reply k : ℕ) → reported sheet rs reply ≡ refused k → record_after (record_of bytes rs) reply ≡ record_of bytes rs
  unfolding record_after given_or
  after_refused reply k e = ap (given_or (record_of bytes rs) (record_of (held_sheet (record_of bytes rs)))) (report_held reply ∙ e)

-- 31 by `record_of`: a record isn't refused, and holds a sheet, exactly if it is the record of bytes that are this sheet and of replies of a run. (The lengths of its arrays are
-- those of their types.)
module _ (r : Record) (sheet_sized : length r.sheet ≡ most_bytes) (replies_sized : length r.replies ≡ most_acts) (sheet : Sheet) where
  pub held_record : (held_by r ≡ gives sheet) ↔ ((bytes : List ℕ) × (rs : List ℕ) × (r ≡ record_of bytes rs) × (reading bytes ≡ gives sheet) × RepliesOfRun sheet rs)
  unfolding record_of held_sheet held_replies
  held_record = (
    λ e.
        let p = held_parts r sheet e in
        let bytes = sym (padded_back most_bytes r.sheet r.len sheet_sized p.0) in
        let len = sym (before_length most_bytes r.sheet r.len sheet_sized p.0) in
        let replies = sym (padded_back most_acts r.replies r.count replies_sized p.2) in
        let count = sym (before_length most_acts r.replies r.count replies_sized p.2) in
        (held_sheet r, held_replies r, λ i. record { sheet = bytes i; len = len i; replies = replies i; count = count i }, p.1, of_run sheet (held_replies r) p.3),
    λ q. ap held_by q.2 ∙ held q.0 sheet q.3 q.1 q.4,
  )

-- A report leaves the memory of the sheet as it is, accepted or not.
pub kept_sheet : (r : Record) → length r.sheet ≡ most_bytes → (reply : ℕ) → r.sheet ≡ (record_after r reply).sheet
unfolding record_after given_or record_of held_sheet report_on
kept_sheet r sized reply = go (report_on r reply) refl
  where
    go : (a : Answer (List ℕ)) → report_on r reply ≡ a → r.sheet ≡ (given_or r (record_of (held_sheet r)) a).sheet
    go (refused k) e = refl
    go (gives rs) e =
        let h = on_accepted_law (λ (sheet : Sheet). reported sheet (held_replies r) reply) (held_by r) rs e in
        sym (padded_back most_bytes r.sheet r.len sized (held_parts r h.0 h.1).0)
