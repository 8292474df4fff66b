-- Figures of 64 bits, and answers counted into them, whatever they were before. Counted from zero they are those of document 02 (proofs/FigureLaws.antt, `counted_figures`).
use Rattle.std.specs.Prelude.{ℕ, ◌+◌, ◌%◌, ◌^◌, Bool, true, false, List, [], ◌∷◌}
use Rattle.format.specs.Format.{Answer}
use Rattle.semantics.specs.Verdict.{Verdict}
use Rattle.semantics.specs.Figures as meaning
use Rattle.semantics.specs.Figures.{is_valid, is_invalid, is_stopped, is_refused, count_in, length_in, greater}
use Rattle.release.specs.declared.figures.Figures.{Figures}

-- The figures that the code's are.
unfoldable pub meant_by : Figures → meaning.Figures
meant_by f =
    record { valid = f.valid; invalid = f.invalid; stopped = f.stopped; refused = f.refused; sum = f.sum; greatest = f.greatest }

abbrev pub no_figures : Figures
no_figures = record { valid = 0; invalid = 0; stopped = 0; refused = 0; sum = 0; greatest = 0 }

-- A sum of 64 bits.
unfoldable pub plus : (a b : ℕ) → ℕ
plus a b = (a + b) % 2 ^ 64

-- One for each that passes a test.
unfoldable pub one : Bool → ℕ
one true = 1
one false = 0

-- One answer more.
unfoldable pub counted_one : Figures → Answer Verdict → Figures
unfolding plus one is_valid is_invalid is_stopped is_refused count_in length_in greater
counted_one f answer = record {
  valid = plus f.valid (one (is_valid answer));
  invalid = plus f.invalid (one (is_invalid answer));
  stopped = plus f.stopped (one (is_stopped answer));
  refused = plus f.refused (one (is_refused answer));
  sum = plus f.sum (count_in answer);
  greatest = greater f.greatest (length_in answer);
}

-- More answers, one after the other.
unfoldable pub counted : Figures → List (Answer Verdict) → Figures
unfolding counted_one
counted f [] = f
counted f (answer ∷ rest) = counted (counted_one f answer) rest

-- So many more that were cut.
unfoldable pub with_cut : (cut : ℕ) → Figures → Figures
unfolding plus
with_cut cut f =
    record { valid = f.valid; invalid = f.invalid; stopped = f.stopped; refused = plus f.refused cut; sum = f.sum; greatest = f.greatest }
