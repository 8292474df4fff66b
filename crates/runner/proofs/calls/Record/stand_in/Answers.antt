-- `Record::stand_in` meets its contract: a sheet that is padded is walked, another leads nowhere and leaves the tables as they were. Assumes nothing.
use Prim.Native.Nat.{ℕ}
use mathlib.Core.Path.{sym, ap, ◌∙◌}
use Rattle.format.specs.Format.{most_bytes}
use Rattle.runner.specs.Records.{is_padded}
use Rattle.runner.proofs.RecordLaws.{padded_within}
use Rattle.runner.proofs.WalkLaws.{stands_not, stands_walked, unprepared, was_prepared}
use Rattle.runner.proofs.Sizes.{sheet_size}
use Rattle.runner.proofs.calls.Record.stand_in.Goals as goal

pub returns-then-not-is_padded : goal.returns-then-not-is_padded
returns-then-not-is_padded c =
    let sized = sheet_size c.args.self _ c.well_formed.0 in
    let tested = c.is_padded.ensures ∙ ap (λ (n : ℕ). is_padded n c.args.self.sheet c.args.self.len) sized in
    let start = c in
    let e = sym tested ∙ c.if-not-is_padded.true in (
      stands_not start.args.self _ _ _ e,
      unprepared start.args.self e _ _ _,
    )

pub shared_ref_as_front-sheet : goal.shared_ref_as_front-sheet
shared_ref_as_front-sheet c =
    let sized = sheet_size c.args.self _ c.well_formed.0 in
    let tested = c.is_padded.ensures ∙ ap (λ (n : ℕ). is_padded n c.args.self.sheet c.args.self.len) sized in
    padded_within most_bytes c.args.self.sheet c.args.self.len (sym tested ∙ c.if-not-is_padded.false)

pub returns : goal.returns
returns c =
    let sized = sheet_size c.args.self _ c.well_formed.0 in
    let tested = c.is_padded.ensures ∙ ap (λ (n : ℕ). is_padded n c.args.self.sheet c.args.self.len) sized in
    let start = c in
    let e = sym tested ∙ c.if-not-is_padded.false in
    let w = c.walk.ensures in (
      stands_walked start.args.self _ _ _ e _ w.0,
      was_prepared start.args.self e _ _ _ _ _ _ w.1,
    )
