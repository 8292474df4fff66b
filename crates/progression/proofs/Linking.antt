-- How the compiled functions are linked: a program with the crate's table, and with the tables that it needs, has the code of each
-- function that other crates can call. Written by tools/linking.py. Assumes nothing.
use mathlib.Core.Bool.{true}
use prog.Linked.{World, Tree, Holds, in_world}
use prog.LinkedThreads.{HasT}
use Rattle.routine.proofs.Linking as routine
use Rattle.states.proofs.Linking as states
use Rattle.progression.proofs.TheLink as link
use Rattle.progression.proofs.effect.Symbol as effect-symbol
use Rattle.progression.proofs.known.Symbol as known-symbol
use Rattle.progression.proofs.lesser.Symbol as lesser-symbol
use Rattle.progression.proofs.pass.Symbol as pass-symbol
use Rattle.progression.proofs.position.Symbol as position-symbol
use Rattle.progression.proofs.settle.Symbol as settle-symbol
use Rattle.progression.proofs.step.Symbol as step-symbol

abbrev pub table : Tree
table = link.table

-- The tables that a program needs.
abbrev pub Needs : World → Type 0
Needs W = Holds W "progression" table × routine.Needs W × states.Needs W

module _ (W : World) (needs : Needs W) where
  below : link.Below W
  below = (routine.head_at_has W needs.1, (routine.node_at_has W needs.1, (routine.set_at_has W needs.1, (states.difference_has W needs.2, (states.empty_has W needs.2, (states.intersect_has W needs.2, (states.is_empty_has W needs.2, (states.of_words_has W needs.2, (states.union_has W needs.2, (states.words_has W needs.2, tt))))))))))

  pub effect_has : HasT (in_world W) true effect-symbol.code
  effect_has = link.linked-progression::steps::effect W needs.0 below

  pub known_has : HasT (in_world W) true known-symbol.code
  known_has = link.linked-progression::place::known W needs.0 below

  pub lesser_has : HasT (in_world W) true lesser-symbol.code
  lesser_has = link.linked-progression::place::lesser W needs.0 below

  pub pass_has : HasT (in_world W) true pass-symbol.code
  pass_has = link.linked-progression::reply::pass W needs.0 below

  pub position_has : HasT (in_world W) true position-symbol.code
  position_has = link.linked-progression::place::position W needs.0 below

  pub settle_has : HasT (in_world W) true settle-symbol.code
  settle_has = link.linked-progression::place::settle W needs.0 below

  pub step_has : HasT (in_world W) true step-symbol.code
  step_has = link.linked-progression::steps::step W needs.0 below
