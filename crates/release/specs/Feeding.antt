-- The state that belongs to the bytes of a stream that were fed so far, and the figures at its end.
use Rattle.std.specs.Prelude.{◌≡◌, ℕ, ◌+◌, ◌-◌, Bool, List, [], ◌∷◌, ◌++◌, map, length, nat_le}
use Rattle.format.specs.Syntax.{Sheet}
use Rattle.format.specs.Format.{Answer, reading}
use Rattle.semantics.specs.Figures.{apart, most_lengths, answers_to, cuts}
use Rattle.routine.specs.Tables.{prepared, sheet_heads, node_cells, set_words}
use Rattle.verifier.specs.Answers.{cleared}
use Rattle.release.specs.declared.figures.Figures.{Figures}
use Rattle.release.specs.declared.feeding.Release.{Release}
use Rattle.release.specs.Counting.{no_figures, counted, with_cut}
use Rattle.release.specs.Framing.{begun_of, opened}

-- Some figures, the number of lengths whose sheets they count, and the bytes that are begun behind these.
unfoldable pub standing : Figures → (lengths : ℕ) (begun : List ℕ) → Release
unfolding begun_of
standing f lengths begun = record { figures = f; lengths = lengths; begun = begun_of begun }

-- From there on: the whole sheets of the bytes are counted, and what is cut is begun.
unfoldable pub onward : Figures → (lengths : ℕ) (bytes : List ℕ) → Release
unfolding standing counted apart answers_to
onward f lengths bytes =
    let a = apart (most_lengths - lengths) bytes in
    standing (counted f (answers_to a.sheets)) (lengths + length a.sheets) a.cut

-- The state after a piece more: what is begun, and the piece behind it.
unfoldable pub fed : Release → (piece : List ℕ) → Release
unfolding onward opened
fed state piece = onward state.figures state.lengths (opened state.begun ++ piece)

-- The state that belongs to the bytes of a stream.
unfoldable pub state_of : (stream : List ℕ) → Release
unfolding onward
state_of stream = onward no_figures 0 stream

-- "Reading ends after 65,535 lengths."
unfoldable pub is_done : Release → Bool
is_done state = nat_le most_lengths state.lengths

-- The figures where the stream ends: what is begun then is cut.
unfoldable pub ended : Release → Figures
unfolding with_cut cuts opened
ended state = with_cut (cuts (opened state.begun)) state.figures

-- The sheets that are verified when a piece is fed, as they are read; and the tables and the memo that are then left: each sheet leaves its own, a refused one leaves those before it.
unfoldable pub read_by : Release → (piece : List ℕ) → List (Answer Sheet)
unfolding apart opened reading
read_by state piece = map reading (apart (most_lengths - state.lengths) (opened state.begun ++ piece)).sheets

unfoldable pub prepared_all : (Sheet → List ℕ) → List (Answer Sheet) → (memory : List ℕ) → List ℕ
unfolding prepared
prepared_all has [] memory = memory
prepared_all has (sheet ∷ rest) memory = prepared_all has rest (prepared has sheet memory)

unfoldable pub cleared_all : List (Answer Sheet) → (memo : List ℕ) → List ℕ
unfolding cleared
cleared_all [] memo = memo
cleared_all (sheet ∷ rest) memo = cleared_all rest (cleared sheet memo)

abbrev pub TablesAfterAll : List (Answer Sheet) → (heads nodes sets heads' nodes' sets' : List ℕ) → Type 0
TablesAfterAll sheets heads nodes sets heads' nodes' sets' =
    (heads' ≡ prepared_all sheet_heads sheets heads) × (nodes' ≡ prepared_all node_cells sheets nodes) × (sets' ≡ prepared_all set_words sheets sets)
