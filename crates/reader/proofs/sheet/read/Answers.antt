-- `reader::sheet::read` meets its contract: the header, the fields behind it and the tests behind these, as `reading` has them. Assumes nothing.
use mathlib.Core.Path.{◌≡◌, sym, ap, ◌∙◌}
use mathlib.Core.List.{List}
use Prim.Native.Nat.{ℕ}
use Rattle.format.specs.Format.{Answer, gives, Read, mapped, of_sheet, is_edition, header, reading}
use Rattle.reader.specs.Answers.{answer_of, without_value, packed, found, HeaderKept, spaced, header_is_read}
use Rattle.reader.proofs.PackedLaws.{packed_is, packed_sheet}
use Rattle.reader.proofs.BodyLaws.{long_refused, read_limits, no_header, no_body, read_tested}
use Rattle.reader.proofs.sheet.read.Goals as goal

-- The header of the packed bytes is that of a sheet.
header_is : (bytes kept : List ℕ) → gives kept ≡ packed bytes → {x : Read HeaderKept} → x ≡ mapped spaced (header is_edition kept 0)
    → mapped spaced (of_sheet (header is_edition) kept 0) ≡ x
header_is bytes kept e f = sym (f ∙ ap (mapped spaced) (packed_sheet (header is_edition) bytes 0 e))

-- What the packed bytes are, the bytes are.
of_packed : (bytes kept : List ℕ) → gives kept ≡ packed bytes → {x : Answer (Unit {0})} → x ≡ without_value (reading kept) → x ≡ without_value (reading bytes)
of_packed bytes kept e f = f ∙ ap (λ (b : List ℕ). without_value (reading b)) (packed_is bytes e)

pub returns-in-Err : goal.returns-in-Err
unfolding answer_of
returns-in-Err c = long_refused c.args.bytes.now c.in-Err.ensures

pub returns-in-Err-header : goal.returns-in-Err-header
unfolding answer_of header_is_read
returns-in-Err-header c = let kept = c.in-Ok.value in
    of_packed c.args.bytes.now kept c.in-Ok.ensures (sym (no_header kept (header_is c.args.bytes.now kept c.in-Ok.ensures c.in-Err-header.ensures)))

pub test_body-requires : goal.test_body-requires
unfolding answer_of header_is_read
test_body-requires c = let kept = c.in-Ok.value in
    read_limits kept c.in-Ok-header.value (header_is c.args.bytes.now kept c.in-Ok.ensures c.in-Ok-header.ensures)

pub returns-in-Err-read_body : goal.returns-in-Err-read_body
unfolding found answer_of header_is_read
returns-in-Err-read_body c = let kept = c.in-Ok.value in
    of_packed c.args.bytes.now kept c.in-Ok.ensures
    (sym (no_body kept c.in-Ok-header.value (header_is c.args.bytes.now kept c.in-Ok.ensures c.in-Ok-header.ensures) (λ constraint. sym (c.in-Err-read_body.ensures constraint))))

pub returns : goal.returns
unfolding found answer_of header_is_read
returns c = let kept = c.in-Ok.value in
    of_packed c.args.bytes.now kept c.in-Ok.ensures
    (read_tested kept c.in-Ok-header.value (header_is c.args.bytes.now kept c.in-Ok.ensures c.in-Ok-header.ensures)
    (λ constraint. sym (c.in-Ok-read_body.ensures constraint)) c.test_body.ensures)
