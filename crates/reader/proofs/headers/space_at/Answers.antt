-- `reader::headers::space_at` meets its contract: all states over n facts, or those of them in which the constraint holds (proofs/HeaderLaws.antt). Assumes nothing.
use mathlib.Core.Path.{sym, ap}
use native.Mathlib.Omega.{arith}
use Rattle.reader.proofs.HeaderLaws.{space_all, space_refused, space_read}
use Rattle.reader.specs.Answers.{found, edition_of, in_theory}
use Rattle.reader.proofs.headers.space_at.Goals as goal

pub returns-in-First : goal.returns-in-First
unfolding found edition_of
returns-in-First c = let a = c.args in
    let first = ap edition_of c.in-First.is in
    space_all (edition_of a.edition) a.n a.packed.now a.at (λ e. omega (arith, first, e)) c.all-all.ensures

pub returns-in-Err : goal.returns-in-Err
unfolding found in_theory edition_of
returns-in-Err c = let a = c.args in
    space_refused (edition_of a.edition) a.n a.packed.now a.at (ap edition_of c.in-Second.is) (sym c.in-Err.ensures)

pub returns-in-Ok : goal.returns-in-Ok
unfolding found in_theory edition_of
returns-in-Ok c = let a = c.args in
    space_read (edition_of a.edition) a.n a.packed.now a.at (ap edition_of c.in-Second.is) (sym c.in-Ok.ensures) c.all-all.ensures c.intersect.ensures
