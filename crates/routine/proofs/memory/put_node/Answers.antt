-- `routine::memory::put_node` meets its contract: the numbers that `put_cells` writes are those of the node. Assumes nothing.
use Prim.Native.Nat.{ℕ, ◌<◌}
use mathlib.Core.List.{List, [], ◌∷◌}
use mathlib.Core.Path.{◌≡◌, refl, subst}
use mathlib.Core.Bool.{Bool, true, false}
use mir.Val.{bool_byte}
use native.Mathlib.Omega.{arith}
use Rattle.routine.specs.declared.memory.Node.{Node}
use Rattle.lists.specs.Lists.{write}
use Rattle.routine.specs.Memory.{flag, cells, Small}
use Rattle.routine.proofs.memory.put_node.Goals as goal

-- A node is written as what it is equal to.
cells_same : (before after : List ℕ) (at : ℕ) (node same : Node) → node ≡ same → after ≡ write before at (cells same) → after ≡ write before at (cells node)
cells_same before after at node same e h = rw e h

third_same : (before after : List ℕ) (at kind operand second same : ℕ) → second ≡ same → after ≡ write before at (kind ∷ operand ∷ second ∷ []) → after ≡ write before at (kind ∷ operand ∷ same ∷ [])
third_same before after at kind operand second same e h = rw (← e) h

-- A truth value as a number, and that it fits.
flag_is : (x : Bool) → bool_byte x ≡ flag x
unfolding flag
flag_is true = refl
flag_is false = refl

flag_fits : (x : Bool) → bool_byte x < 65536
flag_fits true = omega arith
flag_fits false = omega arith

pub put_cells-requires : goal.put_cells-requires
unfolding Small
put_cells-requires c = let s = subst Small c.in-Act.is c.requires.1 in (c.requires.0, s.0, s.1)

pub put_cells-requires-in-Branch : goal.put_cells-requires-in-Branch
unfolding Small
put_cells-requires-in-Branch c = let s = subst Small c.in-Branch.is c.requires.1 in (c.requires.0, s.0, s.1)

pub put_cells-requires-in-Jump : goal.put_cells-requires-in-Jump
unfolding Small
put_cells-requires-in-Jump c = (c.requires.0, subst Small c.in-Jump.is c.requires.1, omega arith)

pub put_cells-requires-in-Join : goal.put_cells-requires-in-Join
unfolding Small
put_cells-requires-in-Join c = (c.requires.0, subst Small c.in-Join.is c.requires.1, flag_fits c.in-Join.all)

pub put_cells-requires-in-Atom : goal.put_cells-requires-in-Atom
unfolding Small
put_cells-requires-in-Atom c = (c.requires.0, subst Small c.in-Atom.is c.requires.1, flag_fits c.in-Atom.positive)

pub put_cells-requires-in-End : goal.put_cells-requires-in-End
unfolding Small
put_cells-requires-in-End c = (c.requires.0, subst Small c.in-End.is c.requires.1, omega arith)

pub returns-in-Act : goal.returns-in-Act
unfolding cells
returns-in-Act c = cells_same _ _ _ _ _ c.in-Act.is c.put_cells.ensures

pub returns-in-Branch : goal.returns-in-Branch
unfolding cells
returns-in-Branch c = cells_same _ _ _ _ _ c.in-Branch.is c.put_cells-in-Branch.ensures

pub returns-in-Jump : goal.returns-in-Jump
unfolding cells
returns-in-Jump c = cells_same _ _ _ _ _ c.in-Jump.is c.put_cells-in-Jump.ensures

pub returns-in-Join : goal.returns-in-Join
unfolding cells
returns-in-Join c = cells_same _ _ _ _ _ c.in-Join.is (third_same _ _ _ _ _ _ _ (flag_is c.in-Join.all) c.put_cells-in-Join.ensures)

pub returns-in-Atom : goal.returns-in-Atom
unfolding cells
returns-in-Atom c = cells_same _ _ _ _ _ c.in-Atom.is (third_same _ _ _ _ _ _ _ (flag_is c.in-Atom.positive) c.put_cells-in-Atom.ensures)

pub returns-in-End : goal.returns-in-End
unfolding cells
returns-in-End c = cells_same _ _ _ _ _ c.in-End.is c.put_cells-in-End.ensures
