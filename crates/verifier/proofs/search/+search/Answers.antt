-- `verifier::search` meets its contract. The loop's invariant: the replies from `reply` on with the count reached give what all replies give from the beginning. The measure is the number of
-- actions that there is room for behind `depth`. What the slots of the memory say is so before and after: a slot is written where all replies have passed. Assumes nothing.
use Rattle.std.proofs.Common.{◌≡◌, ◌+◌, ◌-◌, ◌<◌, Bool, length, take, set, sym, refl, ap, ◌∙◌, subst, arith}
use Rattle.routine.specs.declared.memory.Head.{Head}
use Rattle.progression.specs.declared.place.Place.{Place}
use Rattle.verifier.specs.declared.search.Searched.{Searched}
use Rattle.verifier.specs.Search.{searched, SearchedBy}
use Rattle.verifier.specs.Memo.{Sound}
use Rattle.verifier.proofs.PathLaws.{replies_from, replies_end, reply_skip, reply_over, reply_deeper, searched_passed, searched_failed, searched_over, searched_act, searched_within, node_inside, here_passed, here_failed, here_over, after_failed, after_over, after_passed}
use Rattle.verifier.proofs.MemoLaws.{reaching_searched, recalled_found, passed_sound, written_sound}
use Rattle.verifier.proofs.search.+search.Goals as goal
use mathlib.Core.Bool.{not}
use Rattle.verifier.proofs.search.+search.Goals.{then-not-is_empty+else-counted-budget+in-Passed, else-not-is_empty}

pub returns-then-holds : goal.returns-then-holds
returns-then-holds t c =
    let a = c.args in
    let found = searched a.heads.now a.nodes.now a.sets.now a.budget (64 - a.depth) a.at a.set a.count in
    (here_passed a.depth a.path.now a.path.now found refl refl a.count (searched_passed a.heads.now a.nodes.now a.sets.now a.budget (64 - a.depth) a.at a.set a.count (sym c.settle.ensures.0 ∙ c.in-End.is ∙ ap (λ (b : Bool). Place.End b) c.if-holds.true)), c.requires.2)

pub returns-else-holds : goal.returns-else-holds
returns-else-holds t c =
    let a = c.args in
    let found = searched a.heads.now a.nodes.now a.sets.now a.budget (64 - a.depth) a.at a.set a.count in
    (here_failed a.depth a.path.now a.path.now found refl refl a.count (searched_failed a.heads.now a.nodes.now a.sets.now a.budget (64 - a.depth) a.at a.set a.count (sym c.settle.ensures.0 ∙ c.in-End.is ∙ ap (λ (b : Bool). Place.End b) c.if-holds.false)), c.requires.2)

pub returns-then-depth-ge-ACTION_NODES : goal.returns-then-depth-ge-ACTION_NODES
returns-then-depth-ge-ACTION_NODES t c =
    let a = c.args in
    let found = searched a.heads.now a.nodes.now a.sets.now a.budget (64 - a.depth) a.at a.set a.count in
    (here_over a.depth a.path.now a.path.now found refl refl (searched_over a.heads.now a.nodes.now a.sets.now a.budget (64 - a.depth) a.at a.set a.count _ _ (sym c.settle.ensures.0 ∙ c.in-Act.is) (omega (arith, c.if-depth-ge-ACTION_NODES.true))), c.requires.2)

pub overflow_add-onward : goal.overflow_add-onward
overflow_add-onward t c =
    record { fits = omega (arith, node_inside c.settle.result c.in-Act.node c.in-Act.action c.in-Act.is c.settle.ensures.1) }

pub returns-in-Some : goal.returns-in-Some
returns-in-Some t c =
    let a = c.args in
    let found = searched a.heads.now a.nodes.now a.sets.now a.budget (64 - a.depth) a.at a.set a.count in
    let room : a.depth < 64 = omega (arith, c.if-depth-ge-ACTION_NODES.false) in
    let place = sym c.settle.ensures.0 ∙ c.in-Act.is in (
      reaching_searched a.budget (a.count + c.in-Some.behind) a.depth a.path.now _ found
          (recalled_found a.heads.now a.nodes.now a.sets.now a.budget a.depth a.at a.count c.in-Act.node c.in-Act.action a.set room c.requires.1 place a.memo.now c.slot_number-j.result c.in-Some.behind c.requires.2 c.slot_number-j.ensures (sym c.recall.ensures ∙ c.in-Some.is))
          c.count_passed.ensures,
      c.requires.2,
    )

pub returns-then-counted-budget : goal.returns-then-counted-budget
returns-then-counted-budget t c =
    let a = c.args in
    let found = searched a.heads.now a.nodes.now a.sets.now a.budget (64 - a.depth) a.at a.set a.count in
    let room : a.depth < 64 = omega (arith, c.if-depth-ge-ACTION_NODES.false) in
    let place = sym c.settle.ensures.0 ∙ c.in-Act.is in
    let onward = searched a.heads.now a.nodes.now a.sets.now a.budget (64 - (a.depth + 1)) (c.in-Act.node + 1) in
    let l = c.loop-reply in
    let rest = replies_from a.heads.now a.nodes.now a.sets.now a.budget onward a.set c.in-Act.action c.head_at-head.result.count in
    let there = ap (λ (y : Head). y.count) c.head_at-head.ensures.0 in
    let whole = searched_act a.heads.now a.nodes.now a.sets.now a.budget (64 - a.depth) a.at a.set a.count c.in-Act.node c.in-Act.action place (64 - (a.depth + 1)) c.head_at-head.result.count (omega (arith, room)) there ∙ l.invariant.4 in
    (here_over a.depth a.path.now l.path found l.invariant.2 l.invariant.3 (whole ∙ reply_over a.heads.now a.nodes.now a.sets.now a.budget onward a.set c.in-Act.action c.head_at-head.result.count l.reply l.counted c.step-next.result c.is_empty.result c.step-next.ensures c.is_empty.ensures c.loop-reply-test.true (ap not c.if-not-is_empty.true) c.if-counted-budget.true), l.invariant.5)

pub returns-in-Failed : goal.returns-in-Failed
returns-in-Failed t c =
    let a = c.args in
    let found = searched a.heads.now a.nodes.now a.sets.now a.budget (64 - a.depth) a.at a.set a.count in
    let room : a.depth < 64 = omega (arith, c.if-depth-ge-ACTION_NODES.false) in
    let place = sym c.settle.ensures.0 ∙ c.in-Act.is in
    let onward = searched a.heads.now a.nodes.now a.sets.now a.budget (64 - (a.depth + 1)) (c.in-Act.node + 1) in
    let l = c.loop-reply in
    let rest = replies_from a.heads.now a.nodes.now a.sets.now a.budget onward a.set c.in-Act.action c.head_at-head.result.count in
    let there = ap (λ (y : Head). y.count) c.head_at-head.ensures.0 in
    let whole = searched_act a.heads.now a.nodes.now a.sets.now a.budget (64 - a.depth) a.at a.set a.count c.in-Act.node c.in-Act.action place (64 - (a.depth + 1)) c.head_at-head.result.count (omega (arith, room)) there ∙ l.invariant.4 in
    let deeper = onward c.step-next.result (l.counted + 1) in
    let goes_on = whole ∙ reply_deeper a.heads.now a.nodes.now a.sets.now a.budget onward a.set c.in-Act.action c.head_at-head.result.count l.reply l.counted c.step-next.result c.is_empty.result c.step-next.ensures c.is_empty.ensures c.loop-reply-test.true (ap not c.if-not-is_empty.true) c.if-counted-budget.false in
    let deep : a.depth < length l.path = omega (arith, room, l.invariant.2, c.told-path) in
    let told = subst (λ (x : Searched). SearchedBy (a.depth + 1) (set l.path a.depth c.path_byte.result) c.search.new.path x deeper) c.in-Failed.is c.search.ensures.0 in
    (after_failed a.depth c.in-Act.action l.reply c.path_byte.result a.path.now l.path c.search.new.path c.path_byte.ensures deep l.invariant.2 l.invariant.3 deeper found (rest (l.reply + 1)) goes_on c.in-Failed.c c.in-Failed.length told, c.search.ensures.1)

pub returns-in-Over : goal.returns-in-Over
returns-in-Over t c =
    let a = c.args in
    let found = searched a.heads.now a.nodes.now a.sets.now a.budget (64 - a.depth) a.at a.set a.count in
    let room : a.depth < 64 = omega (arith, c.if-depth-ge-ACTION_NODES.false) in
    let place = sym c.settle.ensures.0 ∙ c.in-Act.is in
    let onward = searched a.heads.now a.nodes.now a.sets.now a.budget (64 - (a.depth + 1)) (c.in-Act.node + 1) in
    let l = c.loop-reply in
    let rest = replies_from a.heads.now a.nodes.now a.sets.now a.budget onward a.set c.in-Act.action c.head_at-head.result.count in
    let there = ap (λ (y : Head). y.count) c.head_at-head.ensures.0 in
    let whole = searched_act a.heads.now a.nodes.now a.sets.now a.budget (64 - a.depth) a.at a.set a.count c.in-Act.node c.in-Act.action place (64 - (a.depth + 1)) c.head_at-head.result.count (omega (arith, room)) there ∙ l.invariant.4 in
    let deeper = onward c.step-next.result (l.counted + 1) in
    let goes_on = whole ∙ reply_deeper a.heads.now a.nodes.now a.sets.now a.budget onward a.set c.in-Act.action c.head_at-head.result.count l.reply l.counted c.step-next.result c.is_empty.result c.step-next.ensures c.is_empty.ensures c.loop-reply-test.true (ap not c.if-not-is_empty.true) c.if-counted-budget.false in
    let deep : a.depth < length l.path = omega (arith, room, l.invariant.2, c.told-path) in
    let told = subst (λ (x : Searched). SearchedBy (a.depth + 1) (set l.path a.depth c.path_byte.result) c.search.new.path x deeper) c.in-Over.is c.search.ensures.0 in
    (after_over a.depth c.in-Act.action l.reply c.path_byte.result a.path.now l.path c.search.new.path c.path_byte.ensures deep l.invariant.2 l.invariant.3 deeper found (rest (l.reply + 1)) goes_on told, c.search.ensures.1)

pub loop-reply-preserved : goal.loop-reply-preserved
loop-reply-preserved t c =
    let a = c.args in
    let found = searched a.heads.now a.nodes.now a.sets.now a.budget (64 - a.depth) a.at a.set a.count in
    let room : a.depth < 64 = omega (arith, c.if-depth-ge-ACTION_NODES.false) in
    let place = sym c.settle.ensures.0 ∙ c.in-Act.is in
    let onward = searched a.heads.now a.nodes.now a.sets.now a.budget (64 - (a.depth + 1)) (c.in-Act.node + 1) in
    let l = c.loop-reply in
    let rest = replies_from a.heads.now a.nodes.now a.sets.now a.budget onward a.set c.in-Act.action c.head_at-head.result.count in
    let there = ap (λ (y : Head). y.count) c.head_at-head.ensures.0 in
    let whole = searched_act a.heads.now a.nodes.now a.sets.now a.budget (64 - a.depth) a.at a.set a.count c.in-Act.node c.in-Act.action place (64 - (a.depth + 1)) c.head_at-head.result.count (omega (arith, room)) there ∙ l.invariant.4 in
    let deeper = onward c.step-next.result (l.counted + 1) in
    let deep : a.depth < length l.path = omega (arith, room, l.invariant.2, c.told-path) in
    let R = Sound a.heads.now a.nodes.now a.sets.now a.budget in
    elim c.if-not-is_empty.branch [
      | then-not-is_empty+else-counted-budget+in-Passed w ↦
          let goes_on = whole ∙ reply_deeper a.heads.now a.nodes.now a.sets.now a.budget onward a.set c.in-Act.action c.head_at-head.result.count l.reply l.counted c.step-next.result c.is_empty.result c.step-next.ensures c.is_empty.ensures c.loop-reply-test.true (ap not w.if-not-is_empty.true) w.if-counted-budget.false in
          let told = subst (λ (x : Searched). SearchedBy (a.depth + 1) (set l.path a.depth w.path_byte.result) w.search.new.path x deeper) w.in-Passed.is w.search.ensures.0 in
          let p = after_passed a.depth c.in-Act.action l.reply w.path_byte.result a.path.now l.path w.search.new.path w.path_byte.ensures deep l.invariant.2 l.invariant.3 deeper found (rest (l.reply + 1)) goes_on w.in-Passed.c told in
          let within = searched_within a.heads.now a.nodes.now a.sets.now a.budget (64 - (a.depth + 1)) (c.in-Act.node + 1) c.step-next.result (l.counted + 1) w.in-Passed.c (let n : l.counted ≡ a.budget → ⊥ = w.if-counted-budget.false in omega (arith, l.invariant.1)) p.0 in
          (omega arith, omega (arith, w.counted-is, within), ap length w.path-is ∙ p.2, ap (take a.depth) w.path-is ∙ p.3, l.invariant.4 ∙ sym whole ∙ p.1 ∙ ap (rest (l.reply + 1)) (sym w.counted-is), subst R (sym w.memo-is) w.search.ensures.1)
      | else-not-is_empty w ↦ (
        omega arith,
        omega (arith, w.counted-is, l.invariant.1),
        ap length w.path-is ∙ l.invariant.2,
        ap (take a.depth) w.path-is ∙ l.invariant.3,
        l.invariant.4 ∙ reply_skip a.heads.now a.nodes.now a.sets.now a.budget onward a.set c.in-Act.action c.head_at-head.result.count l.reply l.counted c.step-next.result c.is_empty.result c.step-next.ensures c.is_empty.ensures c.loop-reply-test.true (ap not w.if-not-is_empty.false) ∙ ap (rest (l.reply + 1)) (sym w.counted-is),
        subst R (sym w.memo-is) l.invariant.5,
      )
    ]

pub overflow_sub-slot : goal.overflow_sub-slot
overflow_sub-slot t c =
    let a = c.args in
    let found = searched a.heads.now a.nodes.now a.sets.now a.budget (64 - a.depth) a.at a.set a.count in
    let room : a.depth < 64 = omega (arith, c.if-depth-ge-ACTION_NODES.false) in
    let place = sym c.settle.ensures.0 ∙ c.in-Act.is in
    let onward = searched a.heads.now a.nodes.now a.sets.now a.budget (64 - (a.depth + 1)) (c.in-Act.node + 1) in
    let l = c.loop-reply in
    let there = ap (λ (y : Head). y.count) c.head_at-head.ensures.0 in
    let over = replies_end a.heads.now a.nodes.now a.sets.now a.budget onward a.set c.in-Act.action c.head_at-head.result.count l.reply l.counted (omega arith) in
    let ended = passed_sound a.heads.now a.nodes.now a.sets.now a.budget a.depth (c.in-Act.node + 1) a.set c.in-Act.action room c.head_at-head.result.count a.count l.counted there (l.invariant.4 ∙ over) in
    ended.0

pub returns-after-loop-reply : goal.returns-after-loop-reply
returns-after-loop-reply t c =
    let a = c.args in
    let found = searched a.heads.now a.nodes.now a.sets.now a.budget (64 - a.depth) a.at a.set a.count in
    let room : a.depth < 64 = omega (arith, c.if-depth-ge-ACTION_NODES.false) in
    let place = sym c.settle.ensures.0 ∙ c.in-Act.is in
    let onward = searched a.heads.now a.nodes.now a.sets.now a.budget (64 - (a.depth + 1)) (c.in-Act.node + 1) in
    let l = c.loop-reply in
    let rest = replies_from a.heads.now a.nodes.now a.sets.now a.budget onward a.set c.in-Act.action c.head_at-head.result.count in
    let there = ap (λ (y : Head). y.count) c.head_at-head.ensures.0 in
    let whole = searched_act a.heads.now a.nodes.now a.sets.now a.budget (64 - a.depth) a.at a.set a.count c.in-Act.node c.in-Act.action place (64 - (a.depth + 1)) c.head_at-head.result.count (omega (arith, room)) there ∙ l.invariant.4 in
    let over = replies_end a.heads.now a.nodes.now a.sets.now a.budget onward a.set c.in-Act.action c.head_at-head.result.count l.reply l.counted (omega arith) in
    let ended = passed_sound a.heads.now a.nodes.now a.sets.now a.budget a.depth (c.in-Act.node + 1) a.set c.in-Act.action room c.head_at-head.result.count a.count l.counted there (l.invariant.4 ∙ over) in
    (here_passed a.depth a.path.now l.path found l.invariant.2 l.invariant.3 l.counted (whole ∙ over), written_sound a.heads.now a.nodes.now a.sets.now a.budget l.memo _ c.slot_number-j.result _ l.invariant.5 c.slot_number-j.ensures ended.1 c.remember.ensures)
