-- `routine::sheet::fill` meets its contract: each part is written where PrepareLaws says. Assumes nothing.
use Rattle.reader.specs.Answers.{answer_of, in_theory, header_is_read}
use Rattle.reader.specs.Answers as read
use Rattle.reader.specs.declared.formula.View.{View}
use Rattle.routine.specs.Tables.{sheet_heads, node_cells, set_words}
use Rattle.routine.proofs.EvaluatedLaws.{found, never_refused}
use Rattle.routine.proofs.PrepareLaws.{packed_never, packed_reading, header_refused, header_found, actions_room, start_stands, start_filled, start_accepted, routine_room, prepared_accepted, heads_filled, nodes_filled, sets_filled}
use Rattle.routine.proofs.sheet.fill.Goals as goal

pub returns-in_default : goal.returns-in_default
unfolding answer_of
returns-in_default c = packed_never c.args.bytes.now c.requires.sheet c.requires.read c.in_default.ensures

pub returns-in_default-header : goal.returns-in_default-header
unfolding answer_of header_is_read
returns-in_default-header c = let kept = c.in-Ok.packed in
    let reads = packed_reading c.args.bytes.now c.requires.sheet c.requires.read c.in-Ok.ensures in
    header_refused kept c.requires.sheet reads c.in_default-header.ensures

pub fill_actions-actions-requires : goal.fill_actions-actions-requires
unfolding answer_of header_is_read
fill_actions-actions-requires c = let kept = c.in-Ok.packed in
    let reads = packed_reading c.args.bytes.now c.requires.sheet c.requires.read c.in-Ok.ensures in
    let h = c.in-Ok-header.h in
    actions_room kept c.requires.sheet reads h (header_found kept c.requires.sheet reads h c.in-Ok-header.ensures)

pub returns-in_default-objective : goal.returns-in_default-objective
unfolding answer_of header_is_read read.found in_theory
returns-in_default-objective c = let kept = c.in-Ok.packed in
    let reads = packed_reading c.args.bytes.now c.requires.sheet c.requires.read c.in-Ok.ensures in
    let h = c.in-Ok-header.h in
    let counts = header_found kept c.requires.sheet reads h c.in-Ok-header.ensures in
    let starts = start_stands kept c.requires.sheet reads h counts _ _ _ _ c.fill_actions-actions.result c.fill_actions-actions.ensures in
    never_refused kept h.facts View.States _ c.in_default-objective.ensures c.requires.sheet.start _ starts

pub fill_routine-requires : goal.fill_routine-requires
unfolding answer_of header_is_read read.found in_theory
fill_routine-requires c = let kept = c.in-Ok.packed in
    let reads = packed_reading c.args.bytes.now c.requires.sheet c.requires.read c.in-Ok.ensures in
    let h = c.in-Ok-header.h in
    let counts = header_found kept c.requires.sheet reads h c.in-Ok-header.ensures in
    let starts = start_stands kept c.requires.sheet reads h counts _ _ _ _ c.fill_actions-actions.result c.fill_actions-actions.ensures in
    let is = found kept h.facts View.States c.fill_actions-actions.result.at c.in-Ok-objective.ensures c.requires.sheet.start _ starts in
    routine_room kept c.requires.sheet reads h counts _ _ _ _ _ c.fill_actions-actions.ensures _ _ is.0 is.1

pub returns : goal.returns
unfolding answer_of header_is_read read.found in_theory
returns c = let bytes = c.args.bytes.now in
    let kept = c.in-Ok.packed in
    let sheet = c.requires.sheet in
    let accepted = c.requires.read in
    let reads = packed_reading bytes sheet accepted c.in-Ok.ensures in
    let h = c.in-Ok-header.h in
    let counts = header_found kept sheet reads h c.in-Ok-header.ensures in
    let starts = start_stands kept sheet reads h counts _ _ _ _ c.fill_actions-actions.result c.fill_actions-actions.ensures in
    let is = found kept h.facts View.States c.fill_actions-actions.result.at c.in-Ok-objective.ensures sheet.start _ starts in
    let actions = c.fill_actions-actions.ensures in
    let goal = c.fill_routine.ensures in (
      start_accepted bytes sheet accepted _ (start_filled kept sheet reads h counts _ _ _ _ _ actions _ _ is.0 is.1 _ c.intersect.ensures),
      (
        prepared_accepted bytes sheet accepted sheet_heads _ _ (heads_filled kept sheet reads h counts _ _ _ _ _ actions),
        prepared_accepted bytes sheet accepted node_cells _ _ (nodes_filled kept sheet reads h counts _ _ _ _ _ actions _ _ is.0 is.1 _ _ _ goal),
        prepared_accepted bytes sheet accepted set_words _ _ (sets_filled kept sheet reads h counts _ _ _ _ _ actions _ _ is.0 is.1 _ _ _ goal),
      ),
    )
