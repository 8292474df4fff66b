-- `put_lines` meets its contract: one line of each verdict but "invalid". Assumes nothing.
use Prim.Native.Nat.{◌<◌}
use mathlib.Core.Path.{ap, ◌∙◌}
use native.Mathlib.Omega.{arith}
use borrow.Author.Rules.{rules}
use Rattle.std.specs.Prelude.{Ok}
use Rattle.semantics.specs.Printing.{printed_for, valid_word, stopped_word, refused_word}
use Rattle.verifier.specs.Answers.{answer_of}
use Rattle.printing.specs.Lines.{shown_in}
use Rattle.printing.proofs.LineLaws.{line_room, invalid_room, printable_invalid, lines_of, refused_lines}
use Rattle.printing.proofs.put_lines.Goals as goal

pub line-requires : goal.line-requires
line-requires c = let small : c.in-Ok-Valid.c < 4294967296 = search rules in line_room _ valid_word _ c.requires.0 (omega arith) (omega arith)

pub invalid-requires : goal.invalid-requires
invalid-requires c =
    let s = c.in-Ok-Invalid in
    let small : s.c < 4294967296 = search rules in
    let l = printable_invalid _ _ _ (s.is ∙ ap Ok (rw s.is at s.field-0-is)) c.requires.1 in
    (omega (arith, l, c.told-trace), invalid_room _ _ _ _ c.requires.0 (omega arith) l (omega (arith, l, c.told-trace)))

pub line-requires-in-Ok-Stopped : goal.line-requires-in-Ok-Stopped
line-requires-in-Ok-Stopped c = let small : c.in-Ok-Stopped.b < 4294967296 = search rules in line_room _ stopped_word _ c.requires.0 (omega arith) (omega arith)

pub line-requires-in-Err : goal.line-requires-in-Err
line-requires-in-Err c = let small : c.number.result < 256 = search rules in line_room _ refused_word _ c.requires.0 (omega arith) (omega arith)

pub returns-in-Ok-Valid : goal.returns-in-Ok-Valid
unfolding printed_for answer_of
returns-in-Ok-Valid c = let s = c.in-Ok-Valid in lines_of _ _ _ (s.is ∙ ap Ok (rw s.is at s.field-0-is)) c.line.ensures

pub returns-in-Ok-Invalid : goal.returns-in-Ok-Invalid
unfolding answer_of shown_in
returns-in-Ok-Invalid c = let s = c.in-Ok-Invalid in lines_of _ _ _ (s.is ∙ ap Ok (rw s.is at s.field-0-is)) c.invalid.ensures

pub returns-in-Ok-Stopped : goal.returns-in-Ok-Stopped
unfolding printed_for answer_of
returns-in-Ok-Stopped c = let s = c.in-Ok-Stopped in lines_of _ _ _ (s.is ∙ ap Ok (rw s.is at s.field-0-is)) c.line-in-Ok-Stopped.ensures

pub returns-in-Err : goal.returns-in-Err
returns-in-Err c = lines_of _ _ _ c.in-Err.is (refused_lines _ _ _ c.number.ensures c.line-in-Err.ensures)
