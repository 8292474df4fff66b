-- `Text::numbers` meets its contract: the first number, and each other behind a space. Assumes nothing.
use Rattle.std.proofs.Common.{subst, sym}
use Rattle.semantics.specs.Printing.{behind_space}
use Rattle.printing.specs.Lines.{Appended, Room}
use Rattle.printing.proofs.LineLaws.{none_yet, on, ahead, behind, next, next_room, all, spaced_none, spaced_parts}
use Rattle.printing.proofs.text.Text.numbers.Goals as goal

pub returns-in_default : goal.returns-in_default
returns-in_default c = spaced_none _ _ c.in_default.len_below c.requires

pub decimal-requires : goal.decimal-requires
decimal-requires c = ahead _ _ (subst (Room _) (spaced_parts _ c.in-len1-up.len_at_least) c.requires)

pub loop-n-init : goal.loop-n-init
loop-n-init c = none_yet _ _ c.decimal.ensures.within

pub behind_space-requires : goal.behind_space-requires
behind_space-requires c =
    let h = subst (Room _) (spaced_parts _ c.in-len1-up.len_at_least) c.requires in
    next_room behind_space _ _ (behind _ h c.decimal.ensures) c.loop-n.invariant c.loop-n-test.true

pub loop-n-preserved : goal.loop-n-preserved
loop-n-preserved c = next behind_space _ _ c.loop-n.invariant c.loop-n-test.true c.behind_space.ensures

pub returns : goal.returns
returns c = subst (Appended _ _) (sym (spaced_parts _ c.in-len1-up.len_at_least)) (on c.decimal.ensures (all behind_space _ _ c.loop-n.invariant c.loop-n-test.false))
