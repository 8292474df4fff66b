-- `reader::actions::test_action` meets its contract: the tests of a theory or of replies, behind the kind. Assumes nothing.
use mathlib.Core.Path.{sym, ◌∙◌}
use Rattle.states.specs.Sets.{members}
use Rattle.format.specs.Format.{mapped}
use Rattle.format.proofs.ReaderLaws.{found_as}
use Rattle.reader.specs.Answers.{answer_of, found, kind_of}
use Rattle.reader.proofs.TestLaws.{kind_tested, change_tested, probe_tested}
use Rattle.reader.proofs.actions.test_action.Goals as goal

pub returns-in-Err : goal.returns-in-Err
unfolding answer_of found mapped
returns-in-Err c = let a = c.args in kind_tested (members a.space) a.n a.packed.now a.at (sym c.in-Err.ensures)

pub returns-in-Change : goal.returns-in-Change
unfolding found mapped kind_of
returns-in-Change c = let a = c.args in
    c.test_theory.ensures ∙ change_tested (members a.space) a.n a.packed.now a.at (found_as kind_of c.in-Ok.ensures c.in-Change.is)

pub returns-in-Probe : goal.returns-in-Probe
unfolding found mapped kind_of
returns-in-Probe c = let a = c.args in
    c.test_replies.ensures ∙ probe_tested (members a.space) a.n a.packed.now a.at (found_as kind_of c.in-Ok.ensures c.in-Probe.is)
