-- The method: where replies lead by a routine's tables, whatever numbers are in the memory. An auditor of the promises needs none of it; proofs/WalkLaws.antt shows its agreement.
use Rattle.std.specs.Prelude.{if◌then◌else◌, ℕ, ◌+◌, take, Option, Some, None, Result, Ok, Err}
use mathlib.Core.List.{List, [], ◌∷◌}
use Rattle.std.proofs.Math.Dec.{ltb}
use Rattle.lists.specs.Lists.{nonempty}
use Rattle.states.specs.declared.States.{States}
use Rattle.states.specs.Sets.{members}
use Rattle.format.specs.Format.{Answer, gives, refused, on_accepted, most_bytes, most_acts, reading}
use Rattle.reader.specs.declared.refusal.Refusal.{Refusal}
use Rattle.reader.specs.Answers.{number_of}
use Rattle.routine.specs.Memory.{head_at}
use Rattle.routine.specs.Tables.{start_of}
use Rattle.progression.specs.declared.place.Place.{Place}
use Rattle.progression.specs.Machine.{settled, effect, stepped, passed_by}
use Rattle.runner.specs.declared.answer.Rejection.{Rejection}
use Rattle.runner.specs.declared.answer.Told.{Told}
use Rattle.runner.specs.declared.calls.Record.{Record}
use Rattle.runner.specs.Records.{is_padded, held_sheet}

-- Where replies lead, with the states possible there; nowhere, if they are not those of a run.
abbrev pub Stand : Type 0
Stand = Option (Place × States)

-- The number of a sheet's refusal, or where the replies lead.
unfoldable pub walked_of : Result Stand Refusal → Answer Stand
unfolding number_of
walked_of (Ok stand) = gives stand
walked_of (Err r) = refused (number_of r)

module _ (heads : List ℕ) where
  -- A reply leads on from an action if some state is possible behind it.
  unfoldable pub goes_on : (sets : List ℕ) → Place → States → (reply : ℕ) → (onward : States → (at : ℕ) → Stand) → Stand
  unfolding nonempty members stepped
  goes_on sets (Place.End holds) set reply onward = None
  goes_on sets (Place.Act node action) set reply onward =
      if nonempty (members (stepped heads sets set action reply)) then onward (stepped heads sets set action reply) (node + 1) else None

  -- From node `at` on, where the states of a set are possible.
  unfoldable pub stands_from : (nodes sets : List ℕ) → States → (at : ℕ) → List ℕ → Stand
  unfolding goes_on settled
  stands_from nodes sets set at [] = Some (settled nodes sets set at, set)
  stands_from nodes sets set at (r ∷ rs) = goes_on sets (settled nodes sets set at) set r (λ after next. stands_from nodes sets after next rs)

  -- From the first node on, by so many replies of a memory.
  unfoldable pub stands_by : (nodes sets : List ℕ) → (replies : List ℕ) (count : ℕ) → States → Stand
  unfolding is_padded stands_from
  stands_by nodes sets replies count start = if is_padded most_acts replies count then stands_from nodes sets start 0 (take count replies) else None

  -- From the start of a sheet that bytes are.
  unfoldable pub walked : (nodes sets : List ℕ) → (bytes replies : List ℕ) (count : ℕ) → Answer Stand
  unfolding on_accepted stands_by start_of reading
  walked nodes sets bytes replies count = on_accepted (λ start. gives (stands_by nodes sets replies count start)) (start_of (reading bytes))

  -- Of a record.
  unfoldable pub stands : (nodes sets : List ℕ) → Record → Answer Stand
  unfolding is_padded walked held_sheet
  stands nodes sets r = if is_padded most_bytes r.sheet r.len then walked nodes sets (held_sheet r) r.replies r.count else gives None

  -- A reply to an action, where the states of a set are possible after the effect: 33 before 34, and the states that the pass keeps.
  unfoldable pub judged : (sets : List ℕ) → States → (action reply : ℕ) → Result States Rejection
  unfolding passed_by head_at
  judged sets set action reply =
      if ltb reply (head_at heads action).count then
      (if (passed_by heads sets set action reply).possible then Ok (passed_by heads sets set action reply).kept else Err Rejection.NotPossible)
      else Err Rejection.NoSuchReply

  -- One reply more, where replies lead.
  unfoldable pub judged_at : (sets : List ℕ) → Result Stand Refusal → (reply : ℕ) → Result States Rejection
  unfolding judged effect head_at
  judged_at sets (Ok (Some (Place.Act node action, set))) reply = judged sets (effect sets (head_at heads action) set) action reply
  judged_at sets (Ok (Some (Place.End holds, set))) reply = Err Rejection.AtEnd
  judged_at sets (Ok None) reply = Err Rejection.BadRecord
  judged_at sets (Err r) reply = Err Rejection.BadRecord

-- What "Next" tells where replies lead, and what loading answers.
unfoldable pub told_at : Result Stand Refusal → Result Told Rejection
told_at (Ok (Some (Place.Act node action, set))) = Ok (Told.Act action)
told_at (Ok (Some (Place.End holds, set))) = Ok (Told.End holds)
told_at (Ok None) = Err Rejection.BadRecord
told_at (Err r) = Err Rejection.BadRecord

unfoldable pub accepted_at : Result Stand Refusal → Result (Unit {0}) Refusal
accepted_at (Ok stand) = Ok tt
accepted_at (Err r) = Err r
