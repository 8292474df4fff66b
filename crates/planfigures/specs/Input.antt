-- What the calls of `read` say of the input, which state they lead to, and what is printed.
use Rattle.std.specs.Prelude.{ℕ, zero, suc, ◌≤◌, ◌<◌, ◌≡◌, List, [], ◌++◌, true, length, take, get_or, Result, Ok, Err, Option, Some, None}
use Rattle.semantics.specs.Printing.{numbers_line}
use Rattle.semantics.specs.Figures.{figure_numbers, figures_line}
use Rattle.release.specs.declared.feeding.Release.{Release}
use Rattle.release.specs.Counting.{meant_by}
use Rattle.release.specs.Feeding.{state_of, is_done, ended}
use Rattle.planfigures.specs.declared.Ending.{Ending}
use Rattle.planfigures.specs.declared.Step.{Step}
use Rattle.planfigures.specs.declared.Input.{Input}

-- What a call of `read` brought: bytes, or the end of the input. Only the answer 0 is the end; an error is a failure, whatever was read before.
unfoldable pub after_read : {E : Type 0} → Result ℕ E → Result (Option ℕ) E
after_read (Err e) = Err e
after_read (Ok zero) = Ok None
after_read (Ok (suc k)) = Ok (Some (suc k))

-- A state after a call of `read` that put some bytes into the memory, from its first on: that of the stream so far with these bytes behind it.
pub record Followed (before : Release) (came : ℕ) (memory : List ℕ) (after : Release) : Type 0 where
  pub some : 0 < came
  pub within : came ≤ length memory
  pub onward : (stream : List ℕ) → before ≡ state_of stream → after ≡ state_of (stream ++ take came memory)

-- So it is where a call of `read` brought bytes.
unfoldable pub Brought : {E : Type 0} → (before : Release) → Result (Option Step) E → (memory : List ℕ) → Type 0
Brought before (Ok (Some step)) memory = Followed before step.came memory step.state
Brought before (Ok None) memory = Unit {0}
Brought before (Err e) memory = Unit {0}

-- Numbers that are bytes.
abbrev pub Bytes : List ℕ → Type 0
Bytes stream = (i : ℕ) → get_or stream i 0 < 256

-- A state that is that of a stream of bytes. (The logic has no record of the calls of `read`: that these are all the bytes that were read, once and in order, is seen in
-- `read_input`, and `Followed` says it of each call.)
pub record Reached (state : Release) : Type 0 where
  pub stream : List ℕ
  pub bytes : Bytes stream
  pub same : state ≡ state_of stream

-- Reading is done before the input ends only where the state says that nothing more is looked at.
unfoldable pub Over : Ending → Release → Type 0
unfolding is_done
Over Ending.End state = Unit {0}
Over Ending.Done state = is_done state ≡ true

-- What is printed: the line of the figures, and nothing for an input that couldn't be read. By the state that was reached.
unfoldable pub line_of : {E : Type 0} → Result Input E → List ℕ
unfolding numbers_line figure_numbers meant_by ended
line_of (Ok input) = numbers_line (figure_numbers (meant_by (ended input.state)))
line_of (Err e) = []

-- By the stream that reached it.
pub record LineRead (input : Input) (line : List ℕ) : Type 0 where
  pub reached : Reached input.state
  pub over : Over input.ending input.state
  pub printed : line ≡ figures_line reached.stream

unfoldable pub LineFor : {E : Type 0} → Result Input E → (line : List ℕ) → Type 0
LineFor (Ok input) line = LineRead input line
LineFor (Err e) line = line ≡ []
