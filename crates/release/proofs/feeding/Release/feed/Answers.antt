-- `Release::feed` meets its contract. The loop's invariant: what is left of the piece gives what the whole piece gives. The measure is the number of lengths that are left. Assumes nothing.
use Rattle.std.proofs.Common.{refl}
use Rattle.release.proofs.FramingLaws.{opened_within}
use Rattle.release.proofs.FeedLaws.{is_short, is_not, cut_state, cut_memo, cut_tables, all_there, going_next, done_state, done_memo, done_tables, standing_none, fed_promise}
use Rattle.release.proofs.feeding.Release.feed.Goals as goal

pub returns-then-begun-size : goal.returns-then-begun-size
returns-then-begun-size c = let l = c in
    let start = l in
    let g = l.loop-lengths.invariant _ l.settled-begun.ensures (opened_within start.args.self.begun) in
    let more = c.loop-lengths-test.true in
    let f = c.fill-filled.ensures g.bytes g.kept g.within in
    let short = is_short g more _ _ f _ c.size.ensures.0 c.if-begun-size.true in
    fed_promise start.args.self _ _ _ _ _ _ _ _ _ _ (cut_state g more _ _ f short _ (c.stored-stored.ensures _ f.added) _ refl) (cut_memo g more _ _ f short) (cut_tables g more _ _ f short)

pub loop-lengths-preserved : goal.loop-lengths-preserved
loop-lengths-preserved c o e within = let l = c in
    let g = l.loop-lengths.invariant o e within in
    let more = c.loop-lengths-test.true in
    let f = c.fill-filled.ensures g.bytes g.kept g.within in
    let not_IsShort = is_not g more _ _ f _ c.size.ensures.0 c.if-begun-size.false in
    going_next g more _ _ f not_IsShort _ (c.answer_in-answer.ensures _ f.added (all_there g more _ _ f not_IsShort)) _ c.with_answer-figures.ensures _ c.nothing-begun.ensures

pub returns : goal.returns
returns c = let l = c in
    let start = l in
    let g = l.loop-lengths.invariant _ l.settled-begun.ensures (opened_within start.args.self.begun) in
    let done = c.loop-lengths-test.false in
    fed_promise start.args.self _ _ _ _ _ _ _ _ _ _ (done_state g done _ (standing_none _ _ _ c.nothing-none.ensures)) (done_memo g done) (done_tables g done)
