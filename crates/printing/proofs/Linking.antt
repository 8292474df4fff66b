-- How the compiled functions are linked: a program with the crate's table, and with the tables that it needs, has the code of each
-- function that other crates can call. Written by tools/linking.py. Assumes nothing.
use mathlib.Core.Bool.{true}
use prog.Linked.{World, Tree, Holds, in_world}
use prog.LinkedThreads.{HasT}
use Rattle.verifier.proofs.Linking as verifier
use Rattle.printing.proofs.TheLink as link
use Rattle.printing.proofs.print.Symbol as print-symbol
use Rattle.printing.proofs.print_figures.Symbol as print_figures-symbol

abbrev pub table : Tree
table = link.table

-- The tables that a program needs.
abbrev pub Needs : World → Type 0
Needs W = Holds W "printing" table × verifier.Needs W

module _ (W : World) (needs : Needs W) where
  below : link.Below W
  below = (verifier.number_has W needs.1, (verifier.verify_has W needs.1, tt))

  pub print_has : HasT (in_world W) true print-symbol.code
  print_has = link.linked-printing::print W needs.0 below

  pub print_figures_has : HasT (in_world W) true print_figures-symbol.code
  print_figures_has = link.linked-printing::print_figures W needs.0 below
