-- How the compiled functions are linked: a program with the crate's table, and with the tables that it needs, has the code of each
-- function that other crates can call. Written by tools/linking.py. Assumes nothing.
use mathlib.Core.Bool.{true}
use prog.Linked.{World, Tree, Holds, in_world}
use prog.LinkedThreads.{HasT}
use Rattle.states.proofs.Linking as states
use Rattle.reader.proofs.TheLink as link
use Rattle.reader.proofs.action_kind.Symbol as action_kind-symbol
use Rattle.reader.proofs.bits.Packed.epistemic_node.Symbol as Packed_epistemic_node-symbol
use Rattle.reader.proofs.bits.Packed.first_program_node.Symbol as first_program_node-symbol
use Rattle.reader.proofs.bits.Packed.header.Symbol as Packed_header-symbol
use Rattle.reader.proofs.bits.Packed.kind.Symbol as kind-symbol
use Rattle.reader.proofs.bits.Packed.new.Symbol as new-symbol
use Rattle.reader.proofs.bits.Packed.objective.Symbol as objective-symbol
use Rattle.reader.proofs.bits.Packed.program_node.Symbol as Packed_program_node-symbol
use Rattle.reader.proofs.bits.Packed.reply_total.Symbol as Packed_reply_total-symbol
use Rattle.reader.proofs.epistemic_node.Symbol as epistemic_node-symbol
use Rattle.reader.proofs.header.Symbol as header-symbol
use Rattle.reader.proofs.layout.EditionTryFromUsize.try_from.Symbol as try_from-symbol
use Rattle.reader.proofs.objective_states.Symbol as objective_states-symbol
use Rattle.reader.proofs.program_node.Symbol as program_node-symbol
use Rattle.reader.proofs.read.Symbol as read-symbol
use Rattle.reader.proofs.refusal.U8FromRefusal.from.Symbol as from-symbol
use Rattle.reader.proofs.reply_total.Symbol as reply_total-symbol

abbrev pub table : Tree
table = link.table

-- The tables that a program needs.
abbrev pub Needs : World → Type 0
Needs W = Holds W "reader" table × states.Needs W

module _ (W : World) (needs : Needs W) where
  below : link.Below W
  below = (states.agreement_has W needs.1, (states.all_has W needs.1, (states.complement_has W needs.1, (states.difference_has W needs.1, (states.empty_has W needs.1, (states.has_has W needs.1, (states.intersect_has W needs.1, (states.is_empty_has W needs.1, (states.uniform_has W needs.1, (states.union_has W needs.1, tt))))))))))

  pub action_kind_has : HasT (in_world W) true action_kind-symbol.code
  action_kind_has = link.linked-reader::nodes::action_kind W needs.0 below

  pub Packed_epistemic_node_has : HasT (in_world W) true Packed_epistemic_node-symbol.code
  Packed_epistemic_node_has = link.linked-reader::bits::Packed::epistemic_node W needs.0 below

  pub first_program_node_has : HasT (in_world W) true first_program_node-symbol.code
  first_program_node_has = link.linked-reader::bits::Packed::first_program_node W needs.0 below

  pub Packed_header_has : HasT (in_world W) true Packed_header-symbol.code
  Packed_header_has = link.linked-reader::bits::Packed::header W needs.0 below

  pub kind_has : HasT (in_world W) true kind-symbol.code
  kind_has = link.linked-reader::bits::Packed::kind W needs.0 below

  pub new_has : HasT (in_world W) true new-symbol.code
  new_has = link.linked-reader::bits::Packed::new W needs.0 below

  pub objective_has : HasT (in_world W) true objective-symbol.code
  objective_has = link.linked-reader::bits::Packed::objective W needs.0 below

  pub Packed_program_node_has : HasT (in_world W) true Packed_program_node-symbol.code
  Packed_program_node_has = link.linked-reader::bits::Packed::program_node W needs.0 below

  pub Packed_reply_total_has : HasT (in_world W) true Packed_reply_total-symbol.code
  Packed_reply_total_has = link.linked-reader::bits::Packed::reply_total W needs.0 below

  pub epistemic_node_has : HasT (in_world W) true epistemic_node-symbol.code
  epistemic_node_has = link.linked-reader::nodes::epistemic_node W needs.0 below

  pub header_has : HasT (in_world W) true header-symbol.code
  header_has = link.linked-reader::headers::header W needs.0 below

  pub try_from_has : HasT (in_world W) true try_from-symbol.code
  try_from_has = link.linked-reader::layout::EditionTryFromUsize::try_from W needs.0 below

  pub objective_states_has : HasT (in_world W) true objective_states-symbol.code
  objective_states_has = link.linked-reader::formula::objective_states W needs.0 below

  pub program_node_has : HasT (in_world W) true program_node-symbol.code
  program_node_has = link.linked-reader::nodes::program_node W needs.0 below

  pub read_has : HasT (in_world W) true read-symbol.code
  read_has = link.linked-reader::sheet::read W needs.0 below

  pub from_has : HasT (in_world W) true from-symbol.code
  from_has = link.linked-reader::refusal::U8FromRefusal::from W needs.0 below

  pub reply_total_has : HasT (in_world W) true reply_total-symbol.code
  reply_total_has = link.linked-reader::nodes::reply_total W needs.0 below
