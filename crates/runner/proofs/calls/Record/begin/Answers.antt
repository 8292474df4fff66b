-- `Record::begin` meets its contract: the answer decides which record is loaded, and an accepted sheet fits into it. Assumes nothing.
use mathlib.Core.Path.{sym, ap, ◌∙◌}
use lib.ListN.{length, replicate}
use Rattle.format.specs.Format.{most_acts}
use Rattle.reader.specs.Answers.{answer_of}
use Rattle.runner.proofs.RecordLaws.{accepted_fits, loaded_accepted, loaded_refused}
use Rattle.runner.proofs.calls.Record.begin.Goals as goal

pub copied-requires : goal.copied-requires
unfolding answer_of
copied-requires c = accepted_fits _ (sym (ap answer_of c.in-Ok.is) ∙ c.requires)

pub returns-in-Err : goal.returns-in-Err
unfolding answer_of
returns-in-Err c = let refuses = sym (ap answer_of c.in-Err.is) ∙ c.requires in
    (c.requires, c.zero-kept.ensures ∙ sym (loaded_refused _ _ refuses))

pub returns-in-Ok : goal.returns-in-Ok
unfolding answer_of
returns-in-Ok c = let bytes = c.args.bytes.now in
    (c.requires, sym (loaded_accepted bytes (sym (ap answer_of c.in-Ok.is) ∙ c.requires) ∙ λ i. record { sheet = sym c.copied.ensures i; len = length bytes; replies = replicate most_acts 0; count = 0 }))
