-- `routine::prepare` meets its contract: it fills the memory for an accepted sheet and nothing else. Assumes nothing.
use Rattle.reader.specs.Answers.{answer_of}
use Rattle.routine.specs.Tables.{sheet_heads, node_cells, set_words}
use Rattle.routine.proofs.PrepareLaws.{some_sheet, refused_start, refused_memory}
use Rattle.routine.proofs.sheet.prepare.Goals as goal

pub fill-requires : goal.fill-requires
unfolding answer_of
fill-requires c = some_sheet c.args.bytes.now (c.in-Ok.ensures)

pub returns-in-Err : goal.returns-in-Err
unfolding answer_of
returns-in-Err c = let bytes = c.args.bytes.now in
    let e = c.in-Err.ensures in
    (refused_start bytes _ e, (refused_memory bytes _ e sheet_heads _, refused_memory bytes _ e node_cells _, refused_memory bytes _ e set_words _))
