-- Laws of writing numbers one after the other, and of what is written. Assumes nothing.
use Prim.Native.Nat.{ℕ, zero, suc, ◌+◌, ◌*◌, ◌<◌, ◌≤◌}
use mathlib.Core.Path.{◌≡◌, refl, ap, ap₂, sym, ◌∙◌}
use mathlib.Core.List.{List, [], ◌∷◌, ◌++◌, flat_map, append_assoc, append-nil}
use native.Mathlib.Omega.{arith}
use native.Mathlib.Nat.{mul-zero, mul-suc, mul-add}
use lib.ListN.{length, get_or, set, length-set, length-append}
use lib.Seq.{set_comm, get_or-set_same, get_or-set_other}
use Rattle.states.specs.declared.States.{States}
use Rattle.routine.specs.declared.memory.Node.{Node}
use Rattle.states.specs.Sets.{words}
use Rattle.lists.specs.Lists.{write}
use Rattle.routine.specs.Memory.{cells}

-- Writing keeps the length.
pub write_length : (xs : List ℕ) (i : ℕ) (ys : List ℕ) → length (write xs i ys) ≡ length xs
unfolding write
write_length xs i [] = refl
write_length xs i (y ∷ ys) = write_length (set xs i y) (i + 1) ys ∙ length-set xs i y

-- What isn't written stays.
pub write_elsewhere : (xs : List ℕ) (i : ℕ) (ys : List ℕ) (j : ℕ) → ((k : ℕ) → k < length ys → i + k ≡ j → ⊥) → get_or (write xs i ys) j 0 ≡ get_or xs j 0
unfolding write
write_elsewhere xs i [] j n = refl
write_elsewhere xs i (y ∷ ys) j n =
    write_elsewhere (set xs i y) (i + 1) ys j (λ k l e. n (suc k) (omega arith) (omega arith)) ∙ get_or-set_other xs i j y 0 (λ e. n 0 (omega arith) (omega arith))

-- What is written is read back.
pub write_back : (xs : List ℕ) (i : ℕ) (ys : List ℕ) → i + length ys ≤ length xs → (j : ℕ) → j < length ys → get_or (write xs i ys) (i + j) 0 ≡ get_or ys j 0
unfolding write
write_back xs i [] h j l = absurd (omega arith)
write_back xs i (y ∷ ys) h zero l =
    let e : i + 0 ≡ i = omega arith in
    ap (λ (v : ℕ). get_or (write (set xs i y) (i + 1) ys) v 0) e ∙ write_elsewhere (set xs i y) (i + 1) ys i (λ k l e. omega (arith, e)) ∙ get_or-set_same xs i y 0 (omega arith)
write_back xs i (y ∷ ys) h (suc j) l =
    let e : i + suc j ≡ i + 1 + j = omega arith in
    ap (λ (v : ℕ). get_or (write (set xs i y) (i + 1) ys) v 0) e ∙ write_back (set xs i y) (i + 1) ys (omega (arith, length-set xs i y)) j (omega arith)

write_append : (xs : List ℕ) (i : ℕ) (ys zs : List ℕ) → write xs i (ys ++ zs) ≡ write (write xs i ys) (i + length ys) zs
unfolding write
write_append xs i [] zs = let e : i ≡ i + 0 = omega arith in ap (λ (j : ℕ). write xs j zs) e
write_append xs i (y ∷ ys) zs =
    let e : i + 1 + length ys ≡ i + suc (length ys) = omega arith in
    write_append (set xs i y) (i + 1) ys zs ∙ ap (λ (j : ℕ). write (write (set xs i y) (i + 1) ys) j zs) e

-- A number written before others.
set_write : (xs : List ℕ) (i j : ℕ) (y : ℕ) (zs : List ℕ) → i < j → set (write xs j zs) i y ≡ write (set xs i y) j zs
unfolding write
set_write xs i j y [] l = refl
set_write xs i j y (z ∷ zs) l = set_write (set xs j z) i (j + 1) y zs (omega arith) ∙ ap (λ (us : List ℕ). write us (j + 1) zs) (set_comm xs j i z y (λ e. omega (arith, e)))

write_prepend : (xs : List ℕ) (i j : ℕ) (ys zs : List ℕ) → i + length ys ≤ j → write (write xs j zs) i ys ≡ write (write xs i ys) j zs
unfolding write
write_prepend xs i j [] zs l = refl
write_prepend xs i j (y ∷ ys) zs l =
    ap (λ (us : List ℕ). write us (i + 1) ys) (set_write xs i j y zs (omega arith)) ∙ write_prepend (set xs i y) (i + 1) j ys zs (omega arith)

-- Parts written one behind the other, the first part first, or the second part first.
module _ (xs us vs : List ℕ) (i j : ℕ) (ys zs : List ℕ) where
  pub written_on : us ≡ write xs i ys → vs ≡ write us j zs → i + length ys ≡ j → vs ≡ write xs i (ys ++ zs)
  written_on a b e =
      b ∙ ap (λ (w : List ℕ). write w j zs) a ∙ ap (λ (k : ℕ). write (write xs i ys) k zs) (sym e) ∙ sym (write_append xs i ys zs)

  written_back : us ≡ write xs j zs → vs ≡ write us i ys → i + length ys ≡ j → vs ≡ write xs i (ys ++ zs)
  written_back a b e =
      b ∙ ap (λ (w : List ℕ). write w i ys) a ∙ write_prepend xs i j ys zs (omega (arith, e))
      ∙ ap (λ (k : ℕ). write (write xs i ys) k zs) (sym e) ∙ sym (write_append xs i ys zs)

-- Stores at places that are counted from the first are a writing.
module _ (xs : List ℕ) (i a b c : ℕ) where
  pub three_stores : set (set (set xs i a) (i + 1) b) (i + 2) c ≡ write xs i (a ∷ b ∷ c ∷ [])
  unfolding write
  three_stores = let e : i + 2 ≡ i + 1 + 1 = omega arith in ap (λ (j : ℕ). set (set (set xs i a) (i + 1) b) j c) e

  pub four_stores : (d : ℕ) → set (set (set (set xs i a) (i + 1) b) (i + 2) c) (i + 3) d ≡ write xs i (a ∷ b ∷ c ∷ d ∷ [])
  unfolding write
  four_stores d =
      let e : i + 3 ≡ i + 1 + 1 + 1 = omega arith in
      ap₂ (λ (us : List ℕ) (j : ℕ). set us j d) three_stores e

-- Items that take w numbers each.
module _ {A : Type 0} (w : ℕ) (spread : A → List ℕ) (wide : (a : A) → length (spread a) ≡ w) where
  pub spread_length : (items : List A) → length (flat_map spread items) ≡ w * length items
  unfolding flat_map
  spread_length [] = sym (mul-zero w)
  spread_length (a ∷ items) = omega (arith, length-append (spread a) (flat_map spread items), wide a, spread_length items, mul-suc w (length items))

  -- Behind i items that take w numbers each.
  spread_behind : (items : List A) (i j : ℕ) → i + length items ≡ j → w * i + length (flat_map spread items) ≡ w * j
  spread_behind items i j e = ap (λ (v : ℕ). w * i + v) (spread_length items) ∙ sym (mul-add w i (length items)) ∙ ap (λ (v : ℕ). w * v) e

  -- Where one is written, the others are left to be written behind it.
  pub spread_step : (xs us : List ℕ) (k j : ℕ) (a : A) (items : List A) → us ≡ write xs (w * k) (spread a) → k + 1 ≡ j
      → write us (w * j) (flat_map spread items) ≡ write xs (w * k) (flat_map spread (a ∷ items))
  unfolding flat_map
  spread_step xs us k j a items h e =
      let behind : w * k + length (spread a) ≡ w * j = ap (λ (v : ℕ). w * k + v) (wide a) ∙ sym (mul-suc w k) ∙ ap (λ (v : ℕ). w * v) (let f : suc k ≡ k + 1 = omega arith in f ∙ e) in
      written_on xs us (write us (w * j) (flat_map spread items)) (w * k) (w * j) (spread a) (flat_map spread items) h refl behind

pub words_four : (set : States) → length (words set) ≡ 4
unfolding words
words_four set = refl

pub cells_three : (node : Node) → length (cells node) ≡ 3
unfolding cells
cells_three (Node.Act a number) = refl
cells_three (Node.Branch met unmet) = refl
cells_three (Node.Jump skip) = refl
cells_three (Node.End count) = refl
cells_three (Node.Join all size) = refl
cells_three (Node.Atom positive k) = refl

pub spread_append : {A : Type 0} (spread : A → List ℕ) (items more : List A) → flat_map spread (items ++ more) ≡ flat_map spread items ++ flat_map spread more
unfolding flat_map
spread_append spread [] more = refl
spread_append spread (a ∷ items) more =
    ap (λ (us : List ℕ). spread a ++ us) (spread_append spread items more) ∙ sym (append_assoc (spread a) (flat_map spread items) (flat_map spread more))

pub spread_one : {A : Type 0} (spread : A → List ℕ) (a : A) (xs : List ℕ) (i : ℕ) {us : List ℕ} → us ≡ write xs i (spread a) → us ≡ write xs i (flat_map spread (a ∷ []))
unfolding flat_map
spread_one spread a xs i e = e ∙ ap (write xs i) (sym (append-nil (spread a)))

-- Items that are spread, written one part behind the other: the first part first, or the second part first.
module _ {A : Type 0} (w : ℕ) (spread : A → List ℕ) (wide : (a : A) → length (spread a) ≡ w) (xs us vs : List ℕ) (i j : ℕ) (items more : List A) where
  pub spread_on : us ≡ write xs (w * i) (flat_map spread items) → vs ≡ write us (w * j) (flat_map spread more) → i + length items ≡ j
      → vs ≡ write xs (w * i) (flat_map spread (items ++ more))
  spread_on a b e =
      written_on xs us vs (w * i) (w * j) (flat_map spread items) (flat_map spread more) a b (spread_behind w spread wide items i j e)
      ∙ ap (write xs (w * i)) (sym (spread_append spread items more))

  spread_back : us ≡ write xs (w * j) (flat_map spread more) → vs ≡ write us (w * i) (flat_map spread items) → i + length items ≡ j
      → vs ≡ write xs (w * i) (flat_map spread (items ++ more))
  spread_back a b e =
      written_back xs us vs (w * i) (w * j) (flat_map spread items) (flat_map spread more) a b (spread_behind w spread wide items i j e)
      ∙ ap (write xs (w * i)) (sym (spread_append spread items more))

-- A node before the nodes that were written behind it.
pub node_before : (nodes nodes₁ nodes₂ : List ℕ) (i : ℕ) (node : Node) (later : List Node) → nodes₁ ≡ write nodes (3 * (i + 1)) (flat_map cells later) → nodes₂ ≡ write nodes₁ (3 * i) (cells node)
    → nodes₂ ≡ write nodes (3 * i) (flat_map cells (node ∷ later))
node_before nodes nodes₁ nodes₂ i node later a b =
    spread_back 3 cells cells_three nodes nodes₁ nodes₂ i (i + 1) (node ∷ []) later a (spread_one cells node nodes₁ (3 * i) b) refl
