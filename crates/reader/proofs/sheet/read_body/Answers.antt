-- `reader::sheet::read_body` meets its contract: the fields one behind the other (proofs/BodyLaws.antt). Assumes nothing.
use mathlib.Core.Path.{sym}
use Rattle.reader.specs.Answers.{found, in_theory}
use Rattle.reader.specs.Method.{end_read, count_read, header_of}
use Rattle.reader.proofs.BodyLaws.{no_actions, no_start, no_goal, no_program, body_got}
use Rattle.reader.proofs.sheet.read_body.Goals as goal

pub returns-in-Err : goal.returns-in-Err
unfolding end_read found count_read in_theory header_of
returns-in-Err c = λ constraint.
    sym (no_actions (header_of c.args.h constraint) c.args.packed.now c.args.h.at (sym c.in-Err.ensures))

pub returns-in-Err-evaluate : goal.returns-in-Err-evaluate
unfolding end_read found count_read in_theory header_of
returns-in-Err-evaluate c = λ constraint.
    sym (no_start (header_of c.args.h constraint) c.args.packed.now c.args.h.at (sym c.in-Ok.ensures) (sym c.in-Err-evaluate.ensures))

pub returns-in-Err-read_epistemic : goal.returns-in-Err-read_epistemic
unfolding end_read found count_read in_theory header_of
returns-in-Err-read_epistemic c = λ constraint.
    sym (no_goal (header_of c.args.h constraint) c.args.packed.now c.args.h.at (sym c.in-Ok.ensures) (sym c.in-Ok-evaluate.ensures) (sym c.in-Err-read_epistemic.ensures))

pub returns-in-Err-read_program : goal.returns-in-Err-read_program
unfolding end_read found count_read in_theory header_of
returns-in-Err-read_program c = λ constraint.
    sym (no_program (header_of c.args.h constraint) c.args.packed.now c.args.h.at (sym c.in-Ok.ensures) (sym c.in-Ok-evaluate.ensures) (sym c.in-Ok-read_epistemic.ensures) (sym c.in-Err-read_program.ensures))

pub returns : goal.returns
unfolding end_read found count_read in_theory header_of
returns c = λ constraint.
    sym (body_got (header_of c.args.h constraint) c.args.packed.now c.args.h.at (sym c.in-Ok.ensures) (sym c.in-Ok-evaluate.ensures) (sym c.in-Ok-read_epistemic.ensures) (sym c.in-Ok-read_program.ensures))
