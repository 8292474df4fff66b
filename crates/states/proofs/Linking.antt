-- How the compiled functions are linked: a program with the crate's table, and with the tables that it needs, has the code of each
-- function that other crates can call. Written by tools/linking.py. Assumes nothing.
use mathlib.Core.Bool.{true}
use prog.Linked.{World, Tree, Holds, in_world}
use prog.LinkedThreads.{HasT}
use Rattle.states.proofs.TheLink as link
use Rattle.states.proofs.States.agreement.Symbol as agreement-symbol
use Rattle.states.proofs.States.all.Symbol as all-symbol
use Rattle.states.proofs.States.at.Symbol as at-symbol
use Rattle.states.proofs.States.complement.Symbol as complement-symbol
use Rattle.states.proofs.States.difference.Symbol as difference-symbol
use Rattle.states.proofs.States.empty.Symbol as empty-symbol
use Rattle.states.proofs.States.equals.Symbol as equals-symbol
use Rattle.states.proofs.States.has.Symbol as has-symbol
use Rattle.states.proofs.States.intersect.Symbol as intersect-symbol
use Rattle.states.proofs.States.is_empty.Symbol as is_empty-symbol
use Rattle.states.proofs.States.least.Symbol as least-symbol
use Rattle.states.proofs.States.of_words.Symbol as of_words-symbol
use Rattle.states.proofs.States.one.Symbol as one-symbol
use Rattle.states.proofs.States.put.Symbol as put-symbol
use Rattle.states.proofs.States.uniform.Symbol as uniform-symbol
use Rattle.states.proofs.States.union.Symbol as union-symbol
use Rattle.states.proofs.States.with.Symbol as with-symbol
use Rattle.states.proofs.States.words.Symbol as words-symbol

abbrev pub table : Tree
table = link.table

-- The tables that a program needs.
abbrev pub Needs : World → Type 0
Needs W = Holds W "states" table

module _ (W : World) (needs : Needs W) where
  below : link.Below W
  below = tt

  pub agreement_has : HasT (in_world W) true agreement-symbol.code
  agreement_has = link.linked-states::States::agreement W needs below

  pub all_has : HasT (in_world W) true all-symbol.code
  all_has = link.linked-states::States::all W needs below

  pub at_has : HasT (in_world W) true at-symbol.code
  at_has = link.linked-states::States::at W needs below

  pub complement_has : HasT (in_world W) true complement-symbol.code
  complement_has = link.linked-states::States::complement W needs below

  pub difference_has : HasT (in_world W) true difference-symbol.code
  difference_has = link.linked-states::States::difference W needs below

  pub empty_has : HasT (in_world W) true empty-symbol.code
  empty_has = link.linked-states::States::empty W needs below

  pub equals_has : HasT (in_world W) true equals-symbol.code
  equals_has = link.linked-states::States::equals W needs below

  pub has_has : HasT (in_world W) true has-symbol.code
  has_has = link.linked-states::States::has W needs below

  pub intersect_has : HasT (in_world W) true intersect-symbol.code
  intersect_has = link.linked-states::States::intersect W needs below

  pub is_empty_has : HasT (in_world W) true is_empty-symbol.code
  is_empty_has = link.linked-states::States::is_empty W needs below

  pub least_has : HasT (in_world W) true least-symbol.code
  least_has = link.linked-states::States::least W needs below

  pub of_words_has : HasT (in_world W) true of_words-symbol.code
  of_words_has = link.linked-states::States::of_words W needs below

  pub one_has : HasT (in_world W) true one-symbol.code
  one_has = link.linked-states::States::one W needs below

  pub put_has : HasT (in_world W) true put-symbol.code
  put_has = link.linked-states::States::put W needs below

  pub uniform_has : HasT (in_world W) true uniform-symbol.code
  uniform_has = link.linked-states::States::uniform W needs below

  pub union_has : HasT (in_world W) true union-symbol.code
  union_has = link.linked-states::States::union W needs below

  pub with_has : HasT (in_world W) true with-symbol.code
  with_has = link.linked-states::States::with W needs below

  pub words_has : HasT (in_world W) true words-symbol.code
  words_has = link.linked-states::States::words W needs below
