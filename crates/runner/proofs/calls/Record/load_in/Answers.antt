-- `Record::load_in` meets its contract: where no reply is left the walk tells whether the sheet is accepted. Assumes nothing.
use mathlib.Core.Path.{ap, ◌∙◌}
use Rattle.reader.specs.Answers.{answer_of}
use Rattle.runner.proofs.WalkLaws.{accepted_in_law}
use Rattle.runner.proofs.calls.Record.load_in.Goals as goal

pub begin-requires : goal.begin-requires
begin-requires c = ap answer_of c.acceptance-answer.ensures ∙ accepted_in_law _ _ _ _ _ _ _ c.walk-walked.ensures.0
