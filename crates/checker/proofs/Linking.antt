-- How the compiled functions are linked: a program with the crate's table, and with the tables that it needs, has the code of each
-- function that other crates can call. Written by tools/linking.py. Assumes nothing.
use mathlib.Core.Bool.{true}
use prog.Linked.{World, Tree, Holds, in_world}
use prog.LinkedThreads.{HasT}
use Rattle.progression.proofs.Linking as progression
use Rattle.routine.proofs.Linking as routine
use Rattle.states.proofs.Linking as states
use Rattle.checker.proofs.TheLink as link
use Rattle.checker.proofs.check.Symbol as check-symbol
use Rattle.checker.proofs.check_in.Symbol as check_in-symbol

abbrev pub table : Tree
table = link.table

-- The tables that a program needs.
abbrev pub Needs : World → Type 0
Needs W = Holds W "checker" table × progression.Needs W × routine.Needs W × states.Needs W

module _ (W : World) (needs : Needs W) where
  below : link.Below W
  below = (progression.settle_has W needs.1, (progression.step_has W needs.1, (routine.prepare_has W needs.2, (states.has_has W needs.3, (states.one_has W needs.3, tt)))))

  pub check_has : HasT (in_world W) true check-symbol.code
  check_has = link.linked-checker::check W needs.0 below

  pub check_in_has : HasT (in_world W) true check_in-symbol.code
  check_in_has = link.linked-checker::check_in W needs.0 below
