-- How the compiled functions are linked: a program with the crate's table, and with the tables that it needs, has the code of each
-- function that other crates can call. Written by tools/linking.py. Assumes nothing.
use mathlib.Core.Bool.{true}
use prog.Linked.{World, Tree, Holds, in_world}
use prog.LinkedThreads.{HasT}
use Rattle.progression.proofs.Linking as progression
use Rattle.reader.proofs.Linking as reader
use Rattle.routine.proofs.Linking as routine
use Rattle.states.proofs.Linking as states
use Rattle.verifier.proofs.TheLink as link
use Rattle.verifier.proofs.number.Symbol as number-symbol
use Rattle.verifier.proofs.verdict.VerifyErrorFromRefusal.from.Symbol as from-symbol
use Rattle.verifier.proofs.verify.Symbol as verify-symbol
use Rattle.verifier.proofs.verify_in.Symbol as verify_in-symbol

abbrev pub table : Tree
table = link.table

-- The tables that a program needs.
abbrev pub Needs : World → Type 0
Needs W = Holds W "verifier" table × progression.Needs W × reader.Needs W × routine.Needs W × states.Needs W

module _ (W : World) (needs : Needs W) where
  below : link.Below W
  below = (progression.settle_has W needs.1, (progression.step_has W needs.1, (reader.from_has W needs.2, (routine.head_at_has W needs.3, (routine.prepare_has W needs.3, (routine.set_at_has W needs.3, (states.at_has W needs.4, (states.empty_has W needs.4, (states.equals_has W needs.4, (states.intersect_has W needs.4, (states.is_empty_has W needs.4, (states.least_has W needs.4, (states.one_has W needs.4, (states.put_has W needs.4, (states.uniform_has W needs.4, (states.with_has W needs.4, tt))))))))))))))))

  pub number_has : HasT (in_world W) true number-symbol.code
  number_has = link.linked-verifier::verdict::number W needs.0 below

  pub from_has : HasT (in_world W) true from-symbol.code
  from_has = link.linked-verifier::verdict::VerifyErrorFromRefusal::from W needs.0 below

  pub verify_has : HasT (in_world W) true verify-symbol.code
  verify_has = link.linked-verifier::verdict::verify W needs.0 below

  pub verify_in_has : HasT (in_world W) true verify_in-symbol.code
  verify_in_has = link.linked-verifier::verdict::verify_in W needs.0 below
