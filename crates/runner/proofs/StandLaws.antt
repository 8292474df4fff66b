-- Where replies lead by a routine's tables, read one reply at a time. Assumes nothing.
use Prim.Native.Nat.{ℕ, ◌+◌, ◌<◌, ◌≤◌}
use mathlib.Core.Path.{◌≡◌, refl, sym, ap, ◌∙◌}
use mathlib.Core.List.{List, [], ◌∷◌}
use mathlib.Core.Bool.{Bool, true, false, not}
use native.Mathlib.Omega.{arith}
use lib.Dec.{ltb}
use lib.ListN.{length, get_or, take, drop, drop_of_length-le}
use borrow.Author.Tests.{lt-ltb, le-ltb, not-true, not-false}
use Rattle.lists.proofs.ListLaws.{drop_next}
use Rattle.lists.specs.Lists.{nonempty}
use Rattle.std.specs.Prelude.{if◌then◌else◌, Some, None, Result, Ok, Err}
use Rattle.states.specs.declared.States.{States}
use Rattle.states.specs.Sets.{members}
use Rattle.routine.specs.declared.memory.Head.{Head}
use Rattle.format.specs.Format.{refused, Answer, gives, on_accepted, reading, most_acts}
use Rattle.reader.specs.Answers.{number_of}
use Rattle.reader.specs.declared.refusal.Refusal.{Refusal}
use Rattle.routine.specs.Memory.{head_at}
use Rattle.routine.specs.Tables.{start_of}
use Rattle.progression.specs.declared.place.Place.{Place}
use Rattle.progression.specs.declared.reply.Passed.{Passed}
use Rattle.progression.specs.Machine.{settled, effect, stepped, passed_by}
use Rattle.runner.specs.declared.answer.Rejection.{Rejection}
use Rattle.runner.specs.declared.answer.Told.{Told}
use Rattle.runner.specs.Walks.{Stand, walked_of, goes_on, stands_from, stands_by, walked, judged, judged_at, told_at}
use Rattle.runner.specs.Records.{is_padded}

-- One step, by whether a reply is left.
module _ (heads nodes sets : List ℕ) (set : States) (at : ℕ) where
  pub none_left : stands_from heads nodes sets set at [] ≡ Some (settled nodes sets set at, set)
  unfolding stands_from
  none_left = refl

  pub one_left : (r : ℕ) (rs : List ℕ) → stands_from heads nodes sets set at (r ∷ rs)
      ≡ goes_on heads sets (settled nodes sets set at) set r (λ after next. stands_from heads nodes sets after next rs)
  unfolding stands_from
  one_left r rs = refl

-- A reply at the end, and at an action, by whether some state is possible behind it.
module _ (heads sets : List ℕ) (set : States) (r : ℕ) (onward : States → (at : ℕ) → Stand) where
  pub end_stops : (holds : Bool) → goes_on heads sets (Place.End holds) set r onward ≡ None
  unfolding goes_on
  end_stops holds = refl

  module _ (node action : ℕ) where
    by_states : goes_on heads sets (Place.Act node action) set r onward
        ≡ (if nonempty (members (stepped heads sets set action r)) then onward (stepped heads sets set action r) (node + 1) else None)
    unfolding goes_on
    by_states = refl

    pub none_possible : nonempty (members (stepped heads sets set action r)) ≡ false → goes_on heads sets (Place.Act node action) set r onward ≡ None
    none_possible e = by_states ∙ ap (λ (b : Bool). if b then onward (stepped heads sets set action r) (node + 1) else None) e

    pub some_possible : nonempty (members (stepped heads sets set action r)) ≡ true
        → goes_on heads sets (Place.Act node action) set r onward ≡ onward (stepped heads sets set action r) (node + 1)
    some_possible e = by_states ∙ ap (λ (b : Bool). if b then onward (stepped heads sets set action r) (node + 1) else None) e

-- What the code asks of a set: whether it is empty.
is_none : (set next : States) → next ≡ set → (empty : Bool) → empty ≡ not (nonempty (members next)) → empty ≡ true → nonempty (members set) ≡ false
is_none set next s empty e t = ap (λ (u : States). nonempty (members u)) (sym s) ∙ not-true (nonempty (members next)) (sym e ∙ t)

is_some : (set next : States) → next ≡ set → (empty : Bool) → empty ≡ not (nonempty (members next)) → empty ≡ false → nonempty (members set) ≡ true
is_some set next s empty e t = ap (λ (u : States). nonempty (members u)) (sym s) ∙ not-false (nonempty (members next)) (sym e ∙ t)

-- From reply k on.
module _ (heads nodes sets replies : List ℕ) (set : States) (at k : ℕ) where
  abbrev from : Stand
  from = stands_from heads nodes sets set at (drop k replies)

  abbrev r : ℕ
  r = get_or replies k 0

  abbrev onward : States → (next : ℕ) → Stand
  onward after next = stands_from heads nodes sets after next (drop (k + 1) replies)

  -- One reply more: the routine ends before it, no state is possible behind it, or the run goes on.
  module _ (room : k < length replies) where
    one_reply : (place : Place) → settled nodes sets set at ≡ place → from ≡ goes_on heads sets place set r onward
    one_reply place e =
        ap (stands_from heads nodes sets set at) (drop_next replies k room) ∙ one_left heads nodes sets set at r (drop (k + 1) replies)
        ∙ ap (λ (p : Place). goes_on heads sets p set r onward) e

    pub ends_before : (holds : Bool) → settled nodes sets set at ≡ Place.End holds → from ≡ None
    ends_before holds e = one_reply (Place.End holds) e ∙ end_stops heads sets set r onward holds

    module _ (node action : ℕ) (e : settled nodes sets set at ≡ Place.Act node action) (next : States) (s : next ≡ stepped heads sets set action r) (empty : Bool)
        (q : empty ≡ not (nonempty (members next))) where
      pub no_state : empty ≡ true → from ≡ None
      no_state t = one_reply (Place.Act node action) e ∙ none_possible heads sets set r onward node action (is_none _ next s empty q t)

      pub steps_on : empty ≡ false → from ≡ stands_from heads nodes sets next (node + 1) (drop (k + 1) replies)
      steps_on t =
          one_reply (Place.Act node action) e ∙ some_possible heads sets set r onward node action (is_some _ next s empty q t)
          ∙ ap (λ (u : States). onward u (node + 1)) (sym s)

  -- No reply is left.
  pub all_read : (place : Place) → place ≡ settled nodes sets set at → length replies ≤ k → Some (place, set) ≡ from
  all_read place e l = sym (ap (stands_from heads nodes sets set at) (drop_of_length-le replies l) ∙ none_left heads nodes sets set at ∙ ap (λ (p : Place). Some (p, set)) (sym e))

abbrev accepts : States → Result States Rejection
accepts set = Ok set

-- The answer to a reply, by whether the action has it and whether it keeps some state.
abbrev pub answered : (has some : Bool) → (kept : States) → Result States Rejection
answered has some kept = if has then (if some then Ok kept else Err Rejection.NotPossible) else Err Rejection.NoSuchReply

-- A reply to an action: the action doesn't have it, it keeps no state, or it is accepted with those that it keeps.
module _ (heads sets : List ℕ) (set : States) (action reply : ℕ) where
  abbrev by_pass : Passed
  by_pass = passed_by heads sets set action reply

  pub judged_by_law : (has some : Bool) → ltb reply (head_at heads action).count ≡ has → by_pass.possible ≡ some → judged heads sets set action reply ≡ answered has some by_pass.kept
  unfolding judged
  judged_by_law has some h s = λ i. answered (h i) (s i) by_pass.kept

  module _ (head : Head) (h : head ≡ head_at heads action) where
    count_is : head.count ≡ (head_at heads action).count
    count_is = ap (λ (x : Head). x.count) h

    pub no_reply : head.count ≤ reply → Err Rejection.NoSuchReply ≡ judged heads sets set action reply
    no_reply l = sym (judged_by_law false _ (le-ltb reply (head_at heads action).count (omega (arith, l, count_is))) refl)

    module _ (l : reply < head.count) (passed : Passed) (p : passed ≡ by_pass) where
      by_possible : (some : Bool) → passed.possible ≡ some → judged heads sets set action reply ≡ answered true some by_pass.kept
      by_possible some e = judged_by_law true some (lt-ltb reply (head_at heads action).count (omega (arith, l, count_is))) (ap (λ (x : Passed). x.possible) (sym p) ∙ e)

      pub possible : passed.possible ≡ true → Ok passed.kept ≡ judged heads sets set action reply
      possible e = ap (λ (x : Passed). accepts x.kept) p ∙ sym (by_possible true e)

      pub impossible : passed.possible ≡ false → Err Rejection.NotPossible ≡ judged heads sets set action reply
      impossible e = sym (by_possible false e)

-- What is told and answered where the replies lead nowhere; at an action, and at the end.
module _ (w : Result Stand Refusal) (stand : Stand) (e : w ≡ Ok stand) (f : stand ≡ None) where
  pub told_nowhere : Err Rejection.BadRecord ≡ told_at w
  unfolding told_at
  told_nowhere = sym (ap told_at e ∙ ap (λ (s : Stand). told_at (Ok s)) f)

  pub judged_nowhere : (heads sets : List ℕ) (reply : ℕ) → Err Rejection.BadRecord ≡ judged_at heads sets w reply
  unfolding judged_at
  judged_nowhere heads sets reply = sym (ap (λ (v : Result Stand Refusal). judged_at heads sets v reply) e ∙ ap (λ (s : Stand). judged_at heads sets (Ok s) reply) f)

module _ (w : Result Stand Refusal) (stand : Stand) (place : Place) (set : States) (e : w ≡ Ok stand) (f : stand ≡ Some (place, set)) where
  leads : w ≡ Ok (Some (place, set))
  leads = e ∙ ap Ok f

  pub told_act : (node action : ℕ) → place ≡ Place.Act node action → Ok (Told.Act action) ≡ told_at w
  unfolding told_at
  told_act node action p = sym (ap told_at leads ∙ ap (λ (q : Place). told_at (Ok (Some (q, set)))) p)

  pub told_end : (holds : Bool) → place ≡ Place.End holds → Ok (Told.End holds) ≡ told_at w
  unfolding told_at
  told_end holds p = sym (ap told_at leads ∙ ap (λ (q : Place). told_at (Ok (Some (q, set)))) p)

  module _ (heads sets : List ℕ) (reply : ℕ) where
    abbrev judged_by : Result Stand Refusal → Result States Rejection
    judged_by v = judged_at heads sets v reply

    pub judged_act : (node action : ℕ) → place ≡ Place.Act node action → (after : States) → after ≡ effect sets (head_at heads action) set
        → (j : Result States Rejection) → j ≡ judged heads sets after action reply → j ≡ judged_at heads sets w reply
    unfolding judged_at
    judged_act node action p after a j k =
        k ∙ ap (λ (u : States). judged heads sets u action reply) a ∙ sym (ap judged_by leads ∙ ap (λ (q : Place). judged_by (Ok (Some (q, set)))) p)

    pub judged_end : (holds : Bool) → place ≡ Place.End holds → Err Rejection.AtEnd ≡ judged_at heads sets w reply
    unfolding judged_at
    judged_end holds p = sym (ap judged_by leads ∙ ap (λ (q : Place). judged_by (Ok (Some (q, set)))) p)

-- Where the code walks, by what `prepare` answers and whether the replies are padded.
module _ (heads nodes sets bytes replies : List ℕ) (count : ℕ) where
  abbrev whole : Answer States → Answer Stand
  whole a = on_accepted (λ start. gives (stands_by heads nodes sets replies count start)) a

  pub walk_refused : (r : Refusal) → refused (number_of r) ≡ start_of (reading bytes) → walked_of (Err r) ≡ walked heads nodes sets bytes replies count
  unfolding walked walked_of on_accepted
  walk_refused r e = ap whole e

  module _ (start : States) (e : gives start ≡ start_of (reading bytes)) (long : length replies ≡ most_acts) (b : Bool)
      (t : b ≡ is_padded (length replies) replies count) where
    by_start : gives (stands_by heads nodes sets replies count start) ≡ walked heads nodes sets bytes replies count
    unfolding walked on_accepted
    by_start = ap whole e

    is_padded_law : is_padded most_acts replies count ≡ b
    is_padded_law = sym (t ∙ ap (λ (n : ℕ). is_padded n replies count) long)

    pub walk_unpadded : b ≡ false → walked_of (Ok None) ≡ walked heads nodes sets bytes replies count
    unfolding walked_of stands_by
    walk_unpadded f = sym (ap (λ (c : Bool). gives (if c then stands_from heads nodes sets start 0 (take count replies) else None)) (is_padded_law ∙ f)) ∙ by_start

    pub walk_followed : b ≡ true → (stand : Stand) → stand ≡ stands_from heads nodes sets start 0 (take count replies) → walked_of (Ok stand) ≡ walked heads nodes sets bytes replies count
    unfolding walked_of stands_by
    walk_followed f stand s = ap gives s ∙ sym (ap (λ (c : Bool). gives (if c then stands_from heads nodes sets start 0 (take count replies) else None)) (is_padded_law ∙ f)) ∙ by_start
