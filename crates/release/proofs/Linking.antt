-- How the compiled functions are linked: a program with the crate's table, and with the tables that it needs, has the code of each
-- function that other crates can call. Written by tools/linking.py. Assumes nothing.
use mathlib.Core.Bool.{true}
use prog.Linked.{World, Tree, Holds, in_world}
use prog.LinkedThreads.{HasT}
use Rattle.progression.proofs.Linking as progression
use Rattle.verifier.proofs.Linking as verifier
use Rattle.release.proofs.TheLink as link
use Rattle.release.proofs.feeding.Release.end.Symbol as end-symbol
use Rattle.release.proofs.feeding.Release.feed.Symbol as feed-symbol
use Rattle.release.proofs.feeding.Release.is_done.Symbol as is_done-symbol
use Rattle.release.proofs.feeding.Release.start.Symbol as start-symbol
use Rattle.release.proofs.figures.Figures.numbers.Symbol as numbers-symbol

abbrev pub table : Tree
table = link.table

-- The tables that a program needs.
abbrev pub Needs : World → Type 0
Needs W = Holds W "release" table × progression.Needs W × verifier.Needs W

module _ (W : World) (needs : Needs W) where
  below : link.Below W
  below = (progression.lesser_has W needs.1, (verifier.verify_in_has W needs.2, tt))

  pub end_has : HasT (in_world W) true end-symbol.code
  end_has = link.linked-release::feeding::Release::end W needs.0 below

  pub feed_has : HasT (in_world W) true feed-symbol.code
  feed_has = link.linked-release::feeding::Release::feed W needs.0 below

  pub is_done_has : HasT (in_world W) true is_done-symbol.code
  is_done_has = link.linked-release::feeding::Release::is_done W needs.0 below

  pub start_has : HasT (in_world W) true start-symbol.code
  start_has = link.linked-release::feeding::Release::start W needs.0 below

  pub numbers_has : HasT (in_world W) true numbers-symbol.code
  numbers_has = link.linked-release::figures::Figures::numbers W needs.0 below
