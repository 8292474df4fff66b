-- `recovery::recovery_figures_feed` meets its contract: the state that was lent is fed, and its numbers are written. Assumes nothing.
use Rattle.recovery.proofs.NumberLaws.{flag_cast, fed_lent, memo_fed, tables_fed}
use Rattle.recovery.proofs.recovery_figures_feed.Goals as goal

pub returns : goal.returns
returns c = let put = c.put_release.ensures in
    let lent = c.lent_release-state.ensures in
    let after = c.feed-after.ensures in
    let f = fed_lent _ _ _ _ _ _ _ _ lent after.0 put.0 put.1 c.is_done.ensures.0 (flag_cast _) in
    (f.0, f.1, f.2, memo_fed _ _ _ lent _ _ after.2, tables_fed _ _ _ lent _ _ _ _ _ _ after.3)
