-- `routine::actions::fill_action` meets its contract: a change writes its rows, the set of all states and its head, a probe the tables of its replies and its head. Assumes nothing.
use mathlib.Core.Path.{sym}
use native.Mathlib.Omega.{arith}
use Rattle.format.specs.Format.{mapped}
use Rattle.format.proofs.ReaderLaws.{found_as}
use Rattle.reader.specs.Answers.{found, kind_of}
use Rattle.routine.proofs.ActionLaws.{change_found, probe_found, never_faulty, never_uncounted, change_room, probe_room, change_filled, probe_filled}
use Rattle.routine.proofs.actions.fill_action.Goals as goal

pub returns-in_default : goal.returns-in_default
unfolding found mapped
returns-in_default c = λ x q h. never_faulty _ _ _ c.in_default.ensures x q h

pub fill_rows-requires : goal.fill_rows-requires
unfolding found mapped kind_of
fill_rows-requires c = let changes = sym (found_as kind_of c.in-Ok.ensures c.in-Change.is) in
    let x = change_room _ _ _ _ _ c.requires.1 changes in omega (arith, x)

pub put_set-requires : goal.put_set-requires
unfolding found mapped kind_of
put_set-requires c = let changes = sym (found_as kind_of c.in-Ok.ensures c.in-Change.is) in
    omega (arith, change_room _ _ _ _ _ c.requires.1 changes)

pub returns-in-Change : goal.returns-in-Change
unfolding found mapped kind_of
returns-in-Change c = let changes = sym (found_as kind_of c.in-Ok.ensures c.in-Change.is) in λ x q h.
    let y = change_found _ _ _ changes x q h in
    change_filled _ _ _ _ _ _ _ q x y.0 _ _ _ y.1 (c.theory_end-end.ensures y.0 q y.2) (c.fill_rows.ensures y.0 q y.2) c.uniform.ensures c.put_set.ensures c.put_head.ensures

pub returns-in_default-reply_total : goal.returns-in_default-reply_total
unfolding found mapped kind_of
returns-in_default-reply_total c = let probes = sym (found_as kind_of c.in-Ok.ensures c.in-Probe.is) in λ x q h.
    never_uncounted _ _ _ probes x q h c.in_default-reply_total.ensures

pub fill_replies-end-requires : goal.fill_replies-end-requires
unfolding found mapped kind_of
fill_replies-end-requires c = let probes = sym (found_as kind_of c.in-Ok.ensures c.in-Probe.is) in probe_room _ _ _ _ _ c.requires.1 probes c.in-Ok-reply_total.ensures

pub put_head-requires-in-Probe : goal.put_head-requires-in-Probe
unfolding found mapped kind_of
put_head-requires-in-Probe c = let probes = sym (found_as kind_of c.in-Ok.ensures c.in-Probe.is) in
    let x = probe_room _ _ _ _ _ c.requires.1 probes c.in-Ok-reply_total.ensures in (c.requires.0, omega (arith, x.room), omega (arith, x.room), omega (arith, x.room))

pub overflow_add-result-in-Probe : goal.overflow_add-result-in-Probe
unfolding found mapped kind_of
overflow_add-result-in-Probe c = let probes = sym (found_as kind_of c.in-Ok.ensures c.in-Probe.is) in
    let x = probe_room _ _ _ _ _ c.requires.1 probes c.in-Ok-reply_total.ensures in omega (arith, x.room)

pub returns-in-Ok-reply_total : goal.returns-in-Ok-reply_total
unfolding found mapped kind_of
returns-in-Ok-reply_total c = let probes = sym (found_as kind_of c.in-Ok.ensures c.in-Probe.is) in λ x q h.
    let y = probe_found _ _ _ probes x q h c.in-Ok-reply_total.ensures in
    probe_filled _ _ _ _ _ _ _ q x y.0 _ _ y.1 y.2 (c.fill_replies-end.ensures y.0 q y.3 y.2) c.put_head-in-Probe.ensures
