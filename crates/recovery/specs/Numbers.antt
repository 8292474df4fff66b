-- Answers as numbers, for callers in other languages, and how these read them.
use Rattle.std.specs.Prelude.{ℕ, ◌+◌, ◌*◌, ◌^◌, ◌≤◌, ◌<◌, ◌≡◌, List, [], ◌∷◌, Bool, true, false, get_or}
use Rattle.format.specs.Syntax.{Sheet}
use Rattle.format.specs.Format.{Answer, gives, refused, given_or}
use Rattle.semantics.specs.Verdict.{Verdict, valid, invalid, stopped}
use Rattle.states.specs.Sets.{words}
use Rattle.routine.specs.Tables.{sheet_start}
use Rattle.progression.specs.declared.place.Place.{Place}
use Rattle.semantics.specs.Replies.{Told, to_do, at_end}
use Rattle.runner.specs.declared.calls.Record.{Record}
use Rattle.release.specs.declared.feeding.Release.{Release}

-- A memory after a call: the numbers of what it gives; a refusal leaves it as it was.
unfoldable pub memory_after : {A : Type 0} (numbers : A → List ℕ) → Answer A → (old : List ℕ) → List ℕ
unfolding given_or
memory_after numbers answer old = given_or old numbers answer

-- The words of a sheet's start set.
unfoldable pub start_words : Sheet → List ℕ
unfolding words sheet_start
start_words sheet = words (sheet_start sheet)

-- A place as one number: an end at which the goal fails or holds, or a node with its action, both of 16 bits.
unfoldable pub place_number : Place → ℕ
place_number (Place.End false) = 0
place_number (Place.End true) = 1
place_number (Place.Act node action) = 2 + 65536 * node + action

-- Yes and no: 1 and 0.
unfoldable pub flag_number : Bool → ℕ
flag_number true = 1
flag_number false = 0

-- A verdict as three numbers: 0 and the count for "valid", 1, the count and the length for "invalid", 2 and the budget for "stopped".
unfoldable pub verdict_numbers : Verdict → List ℕ
verdict_numbers (valid c) = 0 ∷ c ∷ 0 ∷ []
verdict_numbers (invalid c l) = 1 ∷ c ∷ l ∷ []
verdict_numbers (stopped b) = 2 ∷ b ∷ 0 ∷ []

-- The checker's answer: 0 for yes, 255 for no, else the number of the refusal.
unfoldable pub checked_number : Answer Bool → ℕ
checked_number (gives true) = 0
checked_number (gives false) = 255
checked_number (refused r) = r

-- The record that lent memory holds: a sheet, replies, and the lengths of both.
unfoldable pub lent_record : (sheet replies lengths : List ℕ) → Record
lent_record sheet replies lengths = record { sheet = sheet; len = get_or lengths 0 0; replies = replies; count = get_or lengths 1 0 }

-- The lengths of a record.
unfoldable pub lengths_of : Record → List ℕ
lengths_of r = r.len ∷ r.count ∷ []

-- What "Next" tells as two numbers: 0 and the action, or at the end 1, and 1 if the goal holds, else 0.
unfoldable pub told_numbers : Told → List ℕ
told_numbers (to_do action) = 0 ∷ action ∷ []
told_numbers (at_end true) = 1 ∷ 1 ∷ []
told_numbers (at_end false) = 1 ∷ 0 ∷ []

-- The state of a stream that lent memory holds: six figures, the lengths that are read with their sheets and the number of bytes that are begun; and the first of these bytes.
unfoldable pub lent_release : (numbers begun : List ℕ) → Release
lent_release numbers begun = record {
  figures = record {
    valid = get_or numbers 0 0;
    invalid = get_or numbers 1 0;
    stopped = get_or numbers 2 0;
    refused = get_or numbers 3 0;
    sum = get_or numbers 4 0;
    greatest = get_or numbers 5 0;
  };
  lengths = get_or numbers 6 0;
  begun = record { held = get_or numbers 7 0; bytes = begun };
}

-- The numbers of a state.
unfoldable pub release_numbers : Release → List ℕ
release_numbers s =
    s.figures.valid ∷ s.figures.invalid ∷ s.figures.stopped ∷ s.figures.refused ∷ s.figures.sum ∷ s.figures.greatest ∷ s.lengths ∷ s.begun.held ∷ []

-- How a caller reads the numbers: only these say this, and they say nothing else (ReadLaws). 0, or the number of a refusal;
unfoldable pub DoneRead : (k : ℕ) → Answer (Unit {0}) → Type 0
DoneRead k (gives u) = k ≡ 0
DoneRead k (refused n) = (k ≡ n) × (1 ≤ n)

-- with a value in memory;
unfoldable pub ValueRead : {A : Type 0} → (numbers : A → List ℕ) → (k : ℕ) (memory : List ℕ) → Answer A → Type 0
ValueRead numbers k memory (gives a) = (k ≡ 0) × (memory ≡ numbers a)
ValueRead numbers k memory (refused n) = (k ≡ n) × (1 ≤ n)

-- of the checker 0 for yes and 255 for no;
unfoldable pub CheckRead : (k : ℕ) → Answer Bool → Type 0
CheckRead k (gives true) = k ≡ 0
CheckRead k (gives false) = k ≡ 255
CheckRead k (refused n) = (k ≡ n) × (1 ≤ n) × (n < 255)

-- yes and no;
unfoldable pub FlagRead : (k : ℕ) → Bool → Type 0
FlagRead k true = k ≡ 1
FlagRead k false = k ≡ 0

-- and where a routine settles: 0 and 1 for an end, else a node and an action of 16 bits.
unfoldable pub PlaceRead : (k : ℕ) → Place → Type 0
PlaceRead k (Place.End false) = k ≡ 0
PlaceRead k (Place.End true) = k ≡ 1
PlaceRead k (Place.Act node action) = (k ≡ 2 + 2 ^ 16 * node + action) × (action < 2 ^ 16)
