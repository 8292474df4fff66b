-- The lengths of a record's two arrays, from what owning the record tells: `c.well_formed.0` of a function whose first parameter is the record. Assumes nothing.
use mathlib.Core.List.{List}
use mathlib.Core.Path.{◌≡◌}
use lib.ListN.{length}
use mir.Val.{Val}
use denote.Laws.{Is}
use denote.Struct.Declared.{row}
use Rattle.format.specs.Format.{most_bytes, most_acts}
use Rattle.runner.specs.declared.calls.Record.{Record}
use Rattle.runner.specs.contracts.calls.Record.{the_type}

module _ (r : Record) (vs : List Val) (good : Is (row the_type) r vs) where
  -- The sheet's array.
  pub sheet_size : length r.sheet ≡ most_bytes
  sheet_size = good.1.1.0.1.0.1

  -- The array of the replies.
  pub replies_size : length r.replies ≡ most_acts
  replies_size = good.1.1.1.1.0.1.0.1
