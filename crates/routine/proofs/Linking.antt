-- How the compiled functions are linked: a program with the crate's table, and with the tables that it needs, has the code of each
-- function that other crates can call. Written by tools/linking.py. Assumes nothing.
use mathlib.Core.Bool.{true}
use prog.Linked.{World, Tree, Holds, in_world}
use prog.LinkedThreads.{HasT}
use Rattle.reader.proofs.Linking as reader
use Rattle.states.proofs.Linking as states
use Rattle.routine.proofs.TheLink as link
use Rattle.routine.proofs.head_at.Symbol as head_at-symbol
use Rattle.routine.proofs.node_at.Symbol as node_at-symbol
use Rattle.routine.proofs.prepare.Symbol as prepare-symbol
use Rattle.routine.proofs.set_at.Symbol as set_at-symbol

abbrev pub table : Tree
table = link.table

-- The tables that a program needs.
abbrev pub Needs : World → Type 0
Needs W = Holds W "routine" table × reader.Needs W × states.Needs W

module _ (W : World) (needs : Needs W) where
  below : link.Below W
  below = (reader.Packed_epistemic_node_has W needs.1, (reader.first_program_node_has W needs.1, (reader.Packed_header_has W needs.1, (reader.kind_has W needs.1, (reader.new_has W needs.1, (reader.objective_has W needs.1, (reader.Packed_reply_total_has W needs.1, (reader.read_has W needs.1, (states.at_has W needs.2, (states.empty_has W needs.2, (states.has_has W needs.2, (states.intersect_has W needs.2, (states.put_has W needs.2, (states.uniform_has W needs.2, tt))))))))))))))

  pub head_at_has : HasT (in_world W) true head_at-symbol.code
  head_at_has = link.linked-routine::memory::head_at W needs.0 below

  pub node_at_has : HasT (in_world W) true node_at-symbol.code
  node_at_has = link.linked-routine::memory::node_at W needs.0 below

  pub prepare_has : HasT (in_world W) true prepare-symbol.code
  prepare_has = link.linked-routine::sheet::prepare W needs.0 below

  pub set_at_has : HasT (in_world W) true set_at-symbol.code
  set_at_has = link.linked-routine::memory::set_at W needs.0 below
