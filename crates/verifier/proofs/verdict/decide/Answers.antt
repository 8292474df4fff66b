-- `decide` meets its contract: it answers as the search finds, and shows the least run along the path that the search leaves. Assumes nothing.
use Rattle.std.proofs.Common.{◌≡◌, length, take, sym, refl, arith, length-take-le}
use Rattle.verifier.proofs.MemoLaws.{empty_sound}
use Rattle.verifier.proofs.AnswerLaws.{passed_decides, over_decides, failed_short, failed_decides}
use Rattle.verifier.proofs.verdict.decide.Goals as goal

pub search-found-requires : goal.search-found-requires
search-found-requires c = (omega arith, omega arith, empty_sound _ _ _ _)

pub show-requires : goal.show-requires
show-requires c = let s = c in
    let short = failed_short _ _ refl _ _ s.search-found.ensures.0 _ _ c.in-Failed.is in
    let m : length (take c.in-Failed.len c.search-found.new.path) ≡ c.in-Failed.len = length-take-le _ _ (omega (arith, short, c.search-found.array_long)) in
    (omega (arith, m, short), omega (arith, m, short, s.requires))

pub slice_bounds-path-end : goal.slice_bounds-path-end
slice_bounds-path-end c = let short = failed_short _ _ refl _ _ c.search-found.ensures.0 _ _ c.in-Failed.is in
    omega (arith, short, c.search-found.array_long)

pub slice_bounds-show-end : goal.slice_bounds-show-end
slice_bounds-show-end c = let short = failed_short _ _ refl _ _ c.search-found.ensures.0 _ _ c.in-Failed.is in
    sym (length-take-le _ c.search-found.new.path (omega (arith, short, c.search-found.array_long)))

pub returns-in-Passed : goal.returns-in-Passed
returns-in-Passed c = let d = passed_decides _ _ _ _ _ _ _ refl _ _ c.search-found.ensures.0 _ c.in-Passed.is in
    (d.0, d.1, refl)

pub returns-in-Over : goal.returns-in-Over
returns-in-Over c = let d = over_decides _ _ _ _ _ _ _ refl _ _ c.search-found.ensures.0 c.in-Over.is in
    (d.0, d.1, refl)

pub returns-in-Failed : goal.returns-in-Failed
returns-in-Failed c = let n = c in
    let d = failed_decides _ _ _ _ _ _ _ refl _ _ n.search-found.ensures.0 _ _ n.in-Failed.is _ c.show.ensures in
    (d.0, d.1, refl)
