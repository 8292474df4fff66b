-- `reader::header` meets its contract: a sheet by its length, and each return by the law of its case (FieldLaws of `format`). Assumes nothing.
use Prim.Native.Nat.{ℕ}
use mathlib.Core.Path.{◌≡◌, sym, ap, ◌∙◌}
use mathlib.Core.Bool.{true}
use mathlib.Core.List.{List}
use Rattle.format.specs.Format.{gives, got, fault, field, mapped, on_accepted, is_edition, header}
use Rattle.format.proofs.FieldLaws.{one_to_eight, below_one, above_eight, edition_cut, edition_out, facts_cut, facts_out, header_goes_on}
use Rattle.reader.specs.Answers.{number_of, answer_of, found, edition_taken, spaced, header_is_read}
use Rattle.reader.proofs.HeaderLaws.{taken_is, taken_out}
use Rattle.reader.proofs.PackedLaws.{packed_given, packed_refused}
use Rattle.reader.proofs.headers.header.Goals as goal

pub returns-in-Err : goal.returns-in-Err
unfolding answer_of header_is_read mapped
returns-in-Err c = ap (mapped spaced) (packed_refused (header is_edition) _ _ c.in-Err.ensures)

pub returns-in-Err-field : goal.returns-in-Err-field
unfolding header_is_read number_of found mapped answer_of
returns-in-Err-field c =
    ap (mapped spaced) (sym (edition_cut is_edition _ (sym c.in-Err-field.ensures)) ∙ packed_given (header is_edition) _ _ c.in-Ok.ensures)

pub returns-in-Err-try_from : goal.returns-in-Err-try_from
unfolding header_is_read number_of found mapped on_accepted answer_of
returns-in-Err-try_from c = let out = taken_out _ c.in-Err-try_from.ensures in
    ap fault out.0 ∙ ap (mapped spaced) (sym (edition_out is_edition _ (sym c.in-Ok-field.ensures) out.1) ∙ packed_given (header is_edition) _ _ c.in-Ok.ensures)

-- A number that is taken is its edition's.
read_taken : (bytes : List ℕ) {number k p : ℕ} → got number p ≡ field 4 bytes 0 → gives k ≡ edition_taken number → (field 4 bytes 0 ≡ got k p) × (is_edition k ≡ true)
read_taken bytes {p = p} e f = let taken = taken_is _ f in (sym e ∙ ap (λ (x : ℕ). got x p) (sym taken.0), taken.1)

pub returns-in-Err-field-2 : goal.returns-in-Err-field-2
unfolding header_is_read number_of found mapped on_accepted answer_of
returns-in-Err-field-2 c = let edition = read_taken _ c.in-Ok-field.ensures c.in-Ok-try_from.ensures in
    ap (mapped spaced) (sym (facts_cut is_edition _ edition.0 edition.1 (sym c.in-Err-field-2.ensures)) ∙ packed_given (header is_edition) _ _ c.in-Ok.ensures)

pub returns-then-n-lt1 : goal.returns-then-n-lt1
unfolding header_is_read number_of found mapped on_accepted answer_of
returns-then-n-lt1 c = let edition = read_taken _ c.in-Ok-field.ensures c.in-Ok-try_from.ensures in
    ap (mapped spaced) (sym (facts_out is_edition _ edition.0 edition.1 (sym c.in-Ok-field-2.ensures) (below_one _ c.if-n-lt1.true)) ∙ packed_given (header is_edition) _ _ c.in-Ok.ensures)

pub returns-then-n-gt-FACTS : goal.returns-then-n-gt-FACTS
unfolding header_is_read number_of found mapped on_accepted answer_of
returns-then-n-gt-FACTS c = let edition = read_taken _ c.in-Ok-field.ensures c.in-Ok-try_from.ensures in
    ap (mapped spaced) (sym (facts_out is_edition _ edition.0 edition.1 (sym c.in-Ok-field-2.ensures) (above_eight _ c.if-n-gt-FACTS.true)) ∙ packed_given (header is_edition) _ _ c.in-Ok.ensures)

pub returns : goal.returns
unfolding found on_accepted answer_of
returns c = let edition = read_taken _ c.in-Ok-field.ensures c.in-Ok-try_from.ensures in
    c.header_behind.ensures ∙ ap (mapped spaced) (sym (header_goes_on is_edition _ edition.0 edition.1 (sym c.in-Ok-field-2.ensures) (one_to_eight _ c.if-n-lt1.false c.if-n-gt-FACTS.false)) ∙ packed_given (header is_edition) _ _ c.in-Ok.ensures)
