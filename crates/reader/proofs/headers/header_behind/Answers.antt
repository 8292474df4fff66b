-- `reader::headers::header_behind` meets its contract: the constraint, and the number of actions behind it. Assumes nothing.
use mathlib.Core.Path.{sym, ap}
use Rattle.format.specs.Format.{mapped, constraint_over}
use Rattle.format.proofs.FieldLaws.{constraint_refused, actions_cut, header_got}
use Rattle.format.proofs.ReaderLaws.{mapped_got, mapped_fault}
use Rattle.reader.proofs.HeaderLaws.{header_spaced}
use Rattle.reader.specs.Answers.{number_of, found, edition_of, space_set, spaced, kept_of, header_is_read}
use Rattle.reader.proofs.headers.header_behind.Goals as goal

pub returns-in-Err : goal.returns-in-Err
unfolding header_is_read found mapped
returns-in-Err c = let a = c.args in
    let edition = edition_of a.edition in
    let constraint = mapped_fault (space_set a.n) (constraint_over edition a.n a.packed.now a.at) (sym c.in-Err.ensures) in
    sym (ap (mapped spaced) (constraint_refused edition a.n a.packed.now a.at constraint))

pub returns-in-Err-field : goal.returns-in-Err-field
unfolding header_is_read number_of found mapped
returns-in-Err-field c = let a = c.args in
    let edition = edition_of a.edition in
    let constraint = mapped_got (space_set a.n) (constraint_over edition a.n a.packed.now a.at) (sym c.in-Ok.ensures) in
    sym (ap (mapped spaced) (actions_cut edition a.n a.packed.now a.at constraint.1 (sym c.in-Err-field.ensures)))

pub returns : goal.returns
unfolding header_is_read kept_of found
returns c = let a = c.args in
    let edition = edition_of a.edition in
    let constraint = mapped_got (space_set a.n) (constraint_over edition a.n a.packed.now a.at) (sym c.in-Ok.ensures) in
    header_spaced constraint.0 constraint.2
    (header_got edition a.n a.packed.now a.at constraint.1 (sym c.in-Ok-field.ensures))
