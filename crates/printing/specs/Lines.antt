-- The method: what the parts of `print` and `print_figures` write, for the contracts of inner functions. An auditor of the promises needs none of it.
use Rattle.std.specs.Prelude.{ℕ, ◌+◌, ◌*◌, ◌≤◌, ◌≡◌, List, [], length, take, Result, Ok, Err}
use Rattle.format.specs.Format.{Answer, gives, refused, most_acts}
use Rattle.semantics.specs.Verdict.{Verdict as Meant, valid, invalid, stopped}
use Rattle.semantics.specs.Printing.{most_lines}
use Rattle.lists.specs.Lists.{write}
use Rattle.verifier.specs.declared.verdict.Verdict.{Verdict}
use Rattle.verifier.specs.declared.verdict.VerifyError.{VerifyError}
use Rattle.printing.specs.declared.text.Text.{Text}

-- There is room for bytes behind a text.
pub record Room (text : Text) (bytes : List ℕ) : Type 0 where
  pub fits : text.length + length bytes ≤ most_lines

-- Bytes are written behind a text, and nothing else is; it still lies within its memory, which is the one that was lent.
pub record Appended (before after : Text) (bytes : List ℕ) : Type 0 where
  pub longer : after.length ≡ before.length + length bytes
  pub written : after.bytes.now ≡ write before.bytes.now before.length bytes
  pub within : after.length ≤ most_lines
  pub lent : after.bytes.ghost_name ≡ before.bytes.ghost_name

-- The trace that an answer shows, out of the trace memory after the call: "1 + 2L bytes".
unfoldable pub shown_in : Answer Meant → (memory : List ℕ) → List ℕ
shown_in (gives (valid c)) memory = []
shown_in (gives (invalid c l)) memory = take (1 + 2 * l) memory
shown_in (gives (stopped b)) memory = []
shown_in (refused r) memory = []

-- An answer whose trace, if it has one, is of at most 64 actions.
unfoldable pub Printable : Result Verdict VerifyError → Type 0
Printable (Ok (Verdict.Valid c)) = Unit {0}
Printable (Ok (Verdict.Invalid c l)) = l ≤ most_acts
Printable (Ok (Verdict.Stopped b)) = Unit {0}
Printable (Err error) = Unit {0}
