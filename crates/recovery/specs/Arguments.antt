-- The arguments of the functions that C links, in their order: numbers, and memory that the caller lends. The first piece of memory lies
-- at place 0, the next at place 1, and so on.
use Rattle.std.specs.Prelude.{ℕ, ◌+◌, ◌*◌, List, [], ◌∷◌, ◌++◌}
use Rattle.std.specs.Int.{w8, w16, w32, w64}
use Rattle.machine.specs.Calls.{Place, slice, array, Lent, reads, writes, Argument, number, memory}
use Rattle.format.specs.Syntax.{Sheet}
use Rattle.format.specs.Format.{Answer, most_bytes, most_acts}
use Rattle.semantics.specs.Printing.{most_lines}
use Rattle.routine.specs.Memory.{head_most, node_most, set_most}
use Rattle.routine.specs.Tables.{prepared, sheet_heads, node_cells, set_words}
use Rattle.verifier.specs.Answers.{slot_most, slot_size}
use Rattle.runner.specs.declared.calls.Record.{Record}
use Rattle.release.specs.Framing.{most_begun}
use Rattle.release.specs.Feeding.{prepared_all}
use Rattle.recovery.specs.Numbers.{lengths_of}

-- How many numbers there are in the memories of fixed length: a set of states, the tables, the memo, how often a reply was evaluated, a
-- verdict, a record's lengths, what "Next" tells, six figures, and the numbers of a stream's state.
abbrev pub set_width : ℕ
set_width = 4

abbrev pub heads_width : ℕ
heads_width = 3 * head_most

abbrev pub nodes_width : ℕ
nodes_width = 3 * node_most

abbrev pub sets_width : ℕ
sets_width = set_width * set_most

abbrev pub memo_width : ℕ
memo_width = slot_size * slot_most

abbrev pub evaluations_width : ℕ
evaluations_width = 1

abbrev pub verdict_width : ℕ
verdict_width = 3

abbrev pub lengths_width : ℕ
lengths_width = 2

abbrev pub told_width : ℕ
told_width = 2

abbrev pub figures_width : ℕ
figures_width = 6

abbrev pub state_width : ℕ
state_width = figures_width + 2

-- The three tables, and what they hold after a call that prepares a sheet; a refusal leaves them as they were.
pub record Tables : Type 0 where
  pub heads : List ℕ
  pub nodes : List ℕ
  pub sets : List ℕ

abbrev pub tables_after : Answer Sheet → Tables → Tables
tables_after answer t =
    record {
      heads = prepared sheet_heads answer t.heads;
      nodes = prepared node_cells answer t.nodes;
      sets = prepared set_words answer t.sets;
    }

-- And after one that prepares sheet after sheet.
abbrev pub tables_after_all : List (Answer Sheet) → Tables → Tables
tables_after_all sheets t =
    record {
      heads = prepared_all sheet_heads sheets t.heads;
      nodes = prepared_all node_cells sheets t.nodes;
      sets = prepared_all set_words sheets t.sets;
    }

abbrev pub heads_at : Lent → Place → Tables → Argument
heads_at l p t = memory (array heads_width) l w16 p t.heads

abbrev pub nodes_at : Lent → Place → Tables → Argument
nodes_at l p t = memory (array nodes_width) l w16 p t.nodes

abbrev pub sets_at : Lent → Place → Tables → Argument
sets_at l p t = memory (array sets_width) l w64 p t.sets

abbrev pub memo_at : Place → List ℕ → Argument
memo_at p memo = memory (array memo_width) writes w64 p memo

-- Tables that are lent to be written.
abbrev pub lent_tables : (p q r : Place) → Tables → List Argument
lent_tables p q r t = heads_at writes p t ∷ nodes_at writes q t ∷ sets_at writes r t ∷ []

abbrev pub bytes_at : Place → List ℕ → Argument
bytes_at p bytes = memory slice reads w8 p bytes

abbrev pub words_lent : Lent → Place → List ℕ → Argument
words_lent l p words = memory (array set_width) l w64 p words

-- A record lies in three pieces of memory: the sheet, the replies, and the lengths of both. ("Report" only reads the first.)
abbrev pub record_pieces : (sheet rest : Lent) → (i j k : Place) → (sheet replies lengths : List ℕ) → List Argument
record_pieces l m i j k sheet replies lengths =
    memory (array most_bytes) l w8 i sheet ∷ memory (array most_acts) m w8 j replies ∷ memory (array lengths_width) m w64 k lengths ∷ []

abbrev pub record_at : (sheet rest : Lent) → (i j k : Place) → Record → List Argument
record_at l m i j k r = record_pieces l m i j k r.sheet r.replies (lengths_of r)

abbrev pub told_lent : Place → List ℕ → Argument
told_lent i told = memory (array told_width) writes w64 i told

-- The state of a stream lies in two: its numbers, and the bytes that are begun.
abbrev pub state_at : Lent → (i j : Place) → (numbers begun : List ℕ) → List Argument
state_at l i j numbers begun = memory (array state_width) l w64 i numbers ∷ memory (array most_begun) l w8 j begun ∷ []

abbrev pub figures_lent : Lent → Place → List ℕ → Argument
figures_lent l i figures = memory (array figures_width) l w64 i figures

module _ (p : ℕ → Place) where
  abbrev pub to_read : (sheet : List ℕ) → List Argument
  to_read sheet = bytes_at (p 0) sheet ∷ []

  abbrev pub to_prepare : (sheet : List ℕ) → Tables → (start : List ℕ) → List Argument
  to_prepare sheet t start =
      bytes_at (p 0) sheet ∷ heads_at writes (p 1) t ∷ nodes_at writes (p 2) t ∷ sets_at writes (p 3) t ∷ words_lent writes (p 4) start ∷ []

  abbrev pub to_step : Tables → (set : List ℕ) → (action reply : ℕ) → List Argument
  to_step t set action reply =
      heads_at reads (p 0) t ∷ sets_at reads (p 1) t ∷ words_lent writes (p 2) set ∷ number w64 action ∷ number w64 reply ∷ []

  abbrev pub to_pass : Tables → (set : List ℕ) → (action reply : ℕ) → (evaluations : List ℕ) → List Argument
  to_pass t set action reply evaluations =
      heads_at reads (p 0) t ∷ sets_at reads (p 1) t ∷ words_lent writes (p 2) set ∷ number w64 action ∷ number w64 reply
      ∷ memory (array evaluations_width) writes w64 (p 3) evaluations ∷ []

  abbrev pub to_settle : Tables → (set : List ℕ) → (at : ℕ) → List Argument
  to_settle t set at = nodes_at reads (p 0) t ∷ sets_at reads (p 1) t ∷ words_lent reads (p 2) set ∷ number w64 at ∷ []

  abbrev pub to_know : Tables → (set : List ℕ) → (k : ℕ) → List Argument
  to_know t set k = sets_at reads (p 0) t ∷ words_lent reads (p 1) set ∷ number w64 k ∷ []

  abbrev pub to_verify : (sheet : List ℕ) (budget : ℕ) (trace verdict : List ℕ) → List Argument
  to_verify sheet budget trace verdict =
      bytes_at (p 0) sheet ∷ number w32 budget ∷ memory slice writes w8 (p 1) trace
      ∷ memory (array verdict_width) writes w64 (p 2) verdict ∷ []

  abbrev pub to_verify_in : (sheet : List ℕ) (budget : ℕ) (trace verdict : List ℕ) → Tables → (memo : List ℕ) → List Argument
  to_verify_in sheet budget trace verdict t memo =
      to_verify sheet budget trace verdict ++ (lent_tables (p 3) (p 4) (p 5) t ++ (memo_at (p 6) memo ∷ []))

  abbrev pub to_check : (sheet trace : List ℕ) → List Argument
  to_check sheet trace = bytes_at (p 0) sheet ∷ bytes_at (p 1) trace ∷ []

  abbrev pub to_check_in : (sheet trace : List ℕ) → Tables → List Argument
  to_check_in sheet trace t = to_check sheet trace ++ lent_tables (p 2) (p 3) (p 4) t

  abbrev pub to_print : (sheet out : List ℕ) → List Argument
  to_print sheet out = bytes_at (p 0) sheet ∷ memory (array most_lines) writes w8 (p 1) out ∷ []

  abbrev pub to_load : (sheet : List ℕ) → Record → List Argument
  to_load sheet r = bytes_at (p 0) sheet ∷ record_at writes writes (p 1) (p 2) (p 3) r

  abbrev pub to_load_in : (sheet : List ℕ) → Record → Tables → List Argument
  to_load_in sheet r t = to_load sheet r ++ lent_tables (p 4) (p 5) (p 6) t

  abbrev pub to_next : Record → (told : List ℕ) → List Argument
  to_next r told = record_at reads reads (p 0) (p 1) (p 2) r ++ (told_lent (p 3) told ∷ [])

  abbrev pub to_next_in : Record → (told : List ℕ) → Tables → List Argument
  to_next_in r told t = to_next r told ++ lent_tables (p 4) (p 5) (p 6) t

  abbrev pub to_report : Record → (reply : ℕ) → List Argument
  to_report r reply = record_at reads writes (p 0) (p 1) (p 2) r ++ (number w8 reply ∷ [])

  abbrev pub to_report_in : Record → (reply : ℕ) → Tables → List Argument
  to_report_in r reply t = to_report r reply ++ lent_tables (p 3) (p 4) (p 5) t

  abbrev pub to_feed : (piece numbers begun : List ℕ) → Tables → (memo : List ℕ) → List Argument
  to_feed piece numbers begun t memo =
      bytes_at (p 0) piece ∷ (state_at writes (p 1) (p 2) numbers begun ++ (lent_tables (p 3) (p 4) (p 5) t ++ (memo_at (p 6) memo ∷ [])))

  abbrev pub to_end : (numbers begun figures : List ℕ) → List Argument
  to_end numbers begun figures = state_at reads (p 0) (p 1) numbers begun ++ (figures_lent writes (p 2) figures ∷ [])

  abbrev pub to_line : (figures out : List ℕ) → List Argument
  to_line figures out = figures_lent reads (p 0) figures ∷ memory (array most_lines) writes w8 (p 1) out ∷ []
