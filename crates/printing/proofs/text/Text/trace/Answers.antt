-- `Text::trace` meets its contract: the first byte, and each other behind a space. Assumes nothing.
use Rattle.std.proofs.Common.{subst, sym}
use Rattle.printing.specs.Lines.{Appended, Room}
use Rattle.printing.proofs.LineLaws.{none_yet, on, ahead, behind, next, next_room, all, hexadecimal_behind, hexadecimal_none, hexadecimal_parts}
use Rattle.printing.proofs.text.Text.trace.Goals as goal

pub returns-in_default : goal.returns-in_default
returns-in_default c = hexadecimal_none _ _ c.in_default.len_below c.requires

pub hexadecimal-requires : goal.hexadecimal-requires
hexadecimal-requires c = ahead _ _ (subst (Room _) (hexadecimal_parts _ c.in-len1-up.len_at_least) c.requires)

pub loop-byte-init : goal.loop-byte-init
loop-byte-init c = none_yet _ _ c.hexadecimal.ensures.within

pub push-requires : goal.push-requires
push-requires c =
    let h = subst (Room _) (hexadecimal_parts _ c.in-len1-up.len_at_least) c.requires in
    ahead _ _ (next_room hexadecimal_behind _ _ (behind _ h c.hexadecimal.ensures) c.loop-byte.invariant c.loop-byte-test.true)

pub hexadecimal-requires-in-loop-byte : goal.hexadecimal-requires-in-loop-byte
hexadecimal-requires-in-loop-byte c =
    let h = subst (Room _) (hexadecimal_parts _ c.in-len1-up.len_at_least) c.requires in
    behind _ (next_room hexadecimal_behind _ _ (behind _ h c.hexadecimal.ensures) c.loop-byte.invariant c.loop-byte-test.true) c.push.ensures

pub loop-byte-preserved : goal.loop-byte-preserved
loop-byte-preserved c = next hexadecimal_behind _ _ c.loop-byte.invariant c.loop-byte-test.true (on c.push.ensures c.hexadecimal-in-loop-byte.ensures)

pub returns : goal.returns
returns c = subst (Appended _ _) (sym (hexadecimal_parts _ c.in-len1-up.len_at_least)) (on c.hexadecimal.ensures (all hexadecimal_behind _ _ c.loop-byte.invariant c.loop-byte-test.false))
