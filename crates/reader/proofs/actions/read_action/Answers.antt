-- `reader::actions::read_action` meets its contract: a theory or replies, behind the kind. Assumes nothing.
use mathlib.Core.Path.{sym, ap, ◌∙◌}
use Rattle.format.specs.Syntax.{change, probe}
use Rattle.format.specs.Format.{mapped, theory_over, replies_over}
use Rattle.format.proofs.ReaderLaws.{found_as, also_refused, action_refused, action_change, action_probe}
use Rattle.reader.specs.Answers.{found, kind_of, in_theory}
use Rattle.reader.specs.Method.{end_read, ending, some_holds}
use Rattle.reader.proofs.EndLaws.{also_ends, ends_mapped}
use Rattle.reader.proofs.actions.read_action.Goals as goal

pub returns-in-Err : goal.returns-in-Err
unfolding end_read found mapped
returns-in-Err c = let a = c.args in
    sym (ap (mapped ending) (action_refused a.n a.packed.now a.at (sym c.in-Err.ensures)))

pub returns-in-Change : goal.returns-in-Change
unfolding found mapped kind_of in_theory
returns-in-Change c = let a = c.args in
    let e = found_as kind_of c.in-Ok.ensures c.in-Change.is in
    c.read_objective.ensures ∙ sym (ap (mapped ending) (action_change a.n a.packed.now a.at e) ∙ ends_mapped change (theory_over a.n a.packed.now _))

pub returns-in-Err-evaluate_replies : goal.returns-in-Err-evaluate_replies
unfolding end_read found mapped kind_of
returns-in-Err-evaluate_replies c = let a = c.args in
    let e = found_as kind_of c.in-Ok.ensures c.in-Probe.is in
    let none = sym c.in-Err-evaluate_replies.ensures in
    sym (ap (mapped ending) (action_probe a.n a.packed.now a.at e) ∙ ends_mapped probe (replies_over a.n a.packed.now _) ∙ also_refused some_holds ending (replies_over a.n a.packed.now _) none)

pub returns-in-Ok-evaluate_replies : goal.returns-in-Ok-evaluate_replies
unfolding end_read found mapped kind_of
returns-in-Ok-evaluate_replies c = let a = c.args in
    let e = found_as kind_of c.in-Ok.ensures c.in-Probe.is in
    let some = sym c.in-Ok-evaluate_replies.ensures in
    sym (ap (mapped ending) (action_probe a.n a.packed.now a.at e) ∙ ends_mapped probe (replies_over a.n a.packed.now _) ∙ also_ends some_holds (replies_over a.n a.packed.now _) some)
