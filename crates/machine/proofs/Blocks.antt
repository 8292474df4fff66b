-- There are the calls, for every model: a memory has room for one more block of any numbers that fit their width, so there is a memory from which a call with any arguments of the
-- right sizes can be made. Assumes nothing.
use Prim.Native.Nat.{ℕ, zero, suc, ◌^◌}
use mathlib.Core.List.{List, [], ◌∷◌, map}
use mathlib.Core.Option.{some as just}
use mathlib.Core.Path.{◌≡◌, refl}
use mathlib.Core.Logic.{∥∥₁_prop, ∥∥₁_elim, ∥∥₁_map}
use lib.ListN.{length}
use lib.Dec.{T}
use seplogic.Ra.Ura.{Ura}
use base.Fraction.{full_share}
use seplogic.Bi.Sat
use mir.Syntax.{Width, w8, Ty, ty_int, ty_array}
use mir.Val.{Val, vint, WT, has_ty, bits}
use base.Logic.{Sat_exists, SProp, ent, sep, ex, emp, guard, upd, via, assoc∗, assoc', mono_l, mono_r, fst∗, snd∗, emp∗, ex_i, ex∗, upd_mono, upd_frame}
use base.Fml.{Fml, fsep, feq, fat}
use prog.Memory.{Memory, store_m, alloc_m}
use prog.Model.{Model}
use prog.AdequacyRun.{start_mem}
use types.Logic.{Logic, sem}
use types.Kit.{‵, ◌$◌, ◌∵◌, !, qed, move, use0, fjoin, fpack, done}
use contract.Adequate.{Satisfies, sat_weaken, sat_upd, start_Satisfies}
use denote.Shadow.{shadow}
use denote.Laws.{Is}
use denote.Memory.{part_of, cell_at}
use denote.Array.{array_val, each, Array-Typed, Array-Makes}
use denote.Plain.{UInt, uint_Lawful, uint_Makes}
use Rattle.lists.specs.Lists.{AllUnder}
use Rattle.machine.specs.Calls.{Place, slice, array, Argument, number, memory, Fits, AllFit, Owned, Callable}
use Rattle.machine.proofs.Lending.{Table, Cells, Lying, Held, lying_out}

-- Arguments in whose memory every number fits its width.
unfoldable pub AllSmall : List Argument → Type 0
unfolding AllUnder
AllSmall [] = Unit {0}
AllSmall (number w n ∷ more) = AllSmall more
AllSmall (memory s l w p xs ∷ more) = AllUnder (2 ^ bits w) xs × AllSmall more

-- The same arguments with the first piece of memory at place 0, the next at place 1, and so on.
abbrev pub placed : List Argument → (ℕ → Place) → List Argument
placed [] p = []
placed (number w n ∷ more) p = number w n ∷ placed more p
placed (memory s l w q xs ∷ more) p = memory s l w (p 0) xs ∷ placed more (λ i. p (suc i))

-- One place in front of the others.
abbrev before : Place → (ℕ → Place) → ℕ → Place
before q p zero = q
before q p (suc i) = p i

-- Sizes don't depend on places.
placed_fit : (args : List Argument) (p : ℕ → Place) → AllFit args → AllFit (placed args p)
unfolding AllFit Fits
placed_fit [] p f = tt
placed_fit (number w n ∷ more) p f = (f.0, placed_fit more p f.1)
placed_fit (memory slice l w q xs ∷ more) p f = (f.0, placed_fit more (λ i. p (suc i)) f.1)
placed_fit (memory (array n) l w q xs ∷ more) p f = (f.0, placed_fit more (λ i. p (suc i)) f.1)

-- The machine's value of a list of numbers.
abbrev values : Width → List ℕ → List Val
values w xs = map (λ x. vint w x) xs

abbrev whole : Width → List ℕ → Val
whole w xs = array_val (values w xs)

-- Numbers that fit the width are elements of an array,
each_is : (w : Width) (xs : List ℕ) → AllUnder (2 ^ bits w) xs → shadow (each ℕ (UInt w).own_val xs (values w xs))
unfolding AllUnder
each_is w [] h = tt
each_is w (x ∷ xs) h = ((refl, h.0), each_is w xs h.1)

-- and as many of them as it has are a value of it.
table_is : (w : Width) (xs : List ℕ) → AllUnder (2 ^ bits w) xs → Is (Table w (length xs)) xs (whole w xs ∷ [])
table_is w xs h = (values w xs, ((refl, refl), each_is w xs h))

module _ {M : Type 1} {𝓤 : Ura M} (𝓛 : Logic 𝓤) (𝓜 : Model 𝓤 𝓛.H) where
  open 𝓛 use {H}

  abbrev ⟦◌⟧ : Fml → SProp 𝓤
  ⟦ P ⟧ = sem 𝓛 P

  abbrev ◌∗◌ : SProp 𝓤 → SProp 𝓤 → SProp 𝓤
  P ∗ Q = sep 𝓤 P Q

  abbrev ◌⊨◌ : Memory → SProp 𝓤 → Type 1
  σ ⊨ P = Satisfies 𝓤 H 𝓜 σ P

  infixr 35 ◌∗◌
  infix 26 ◌⊨◌
  -- Room for a type, beside what there is.
  room_more : (σ : Memory) (F : SProp 𝓤) (τ : Ty) → σ ⊨ F → alloc_m σ τ ⊨ H.room τ (length σ) 0 ∗ F
  room_more σ F τ s =
      let room : SProp 𝓤 = H.room τ (length σ) 0 in
      let dies : SProp 𝓤 = H.dies τ (length σ) in
      let m : SProp 𝓤 = 𝓜.mem (alloc_m σ τ) in
      sat_upd 𝓤 H 𝓜 σ (alloc_m σ τ) F (room ∗ F)
      (via 𝓤 (upd 𝓤 (m ∗ room ∗ dies) ∗ F) (mono_l 𝓤 F (𝓜.alloc σ τ))
      (via 𝓤 (upd 𝓤 ((m ∗ room ∗ dies) ∗ F)) (upd_frame 𝓤 (m ∗ room ∗ dies) F)
      (upd_mono 𝓤 (via 𝓤 (m ∗ (room ∗ dies) ∗ F) (assoc∗ 𝓤 m (room ∗ dies) F) (mono_r 𝓤 m (mono_l 𝓤 F (fst∗ 𝓤 room dies))))))) s

  -- A value that is stored in room for it is there.
  store_more : (σ : Memory) (F : SProp 𝓤) (τ : Ty) (b : ℕ) (v : Val) → T (has_ty τ v) → WT v → σ ⊨ H.room τ b 0 ∗ F → ∥ ((σ' : Memory) × (σ' ⊨ H.at full_share τ b 0 v ∗ F)) ∥₁
  unfolding Satisfies
  store_more σ F τ b v t f s =
      let room : SProp 𝓤 = H.room τ b 0 in
      let at : SProp 𝓤 = H.at full_share τ b 0 v in
      let Stored : (Memory → Type 0) = λ σ'. store_m σ τ b 0 v ≡ just σ' in
      let after : (Memory → SProp 𝓤) = λ σ'. upd 𝓤 (𝓜.mem σ' ∗ at ∗ F) in
      ∥∥₁_map
      (Sat_exists 𝓤 after (Sat.mono 𝓤.op
      (via 𝓤 ((𝓜.mem σ ∗ room) ∗ F) (assoc' 𝓤 (𝓜.mem σ) room F)
      (via 𝓤 (ex 𝓤 (λ (σ' : Memory). guard 𝓤 (Stored σ') (upd 𝓤 (𝓜.mem σ' ∗ at))) ∗ F) (mono_l 𝓤 F (𝓜.room_store σ τ b 0 v t f))
      (ex∗ 𝓤 (λ (σ' : Memory). guard 𝓤 (Stored σ') (upd 𝓤 (𝓜.mem σ' ∗ at))) F (λ σ'.
      ex∗ 𝓤 (λ (_ : Stored σ'). upd 𝓤 (𝓜.mem σ' ∗ at)) F (λ e.
      via 𝓤 (upd 𝓤 ((𝓜.mem σ' ∗ at) ∗ F)) (upd_frame 𝓤 (𝓜.mem σ' ∗ at) F)
      (via 𝓤 (after σ') (upd_mono 𝓤 (assoc∗ 𝓤 (𝓜.mem σ') at F)) (ex_i 𝓤 after σ')))))))
      s))
      (λ q. (q.0, Sat.bupd 𝓤 (𝓜.mem q.0 ∗ at ∗ F) q.1))

  module _ (w : Width) (xs : List ℕ) (h : AllUnder (2 ^ bits w) xs) where
    abbrev n : ℕ
    n = length xs

    -- Where a block holds the machine's value of the numbers, they lie as an array,
    table_in : (b : ℕ) → ent 𝓤 (H.at full_share (ty_array (ty_int w) n) b 0 (whole w xs)) ⟦ Lying 𝓛 𝓜 w n xs b 0 ⟧
    unfolding part_of
    table_in b =
        qed 𝓛 (‵ (fat full_share (ty_array (ty_int w) n) b 0 (whole w xs)) ∷ []) ∵
        use0 𝓛 (‵ ((Table w n).own_val xs (whole w xs ∷ []))) (Array-Makes 𝓛 (UInt w) (uint_Makes 𝓛 w) n xs (whole w xs ∷ []) (table_is w xs h)) $
        move ! (1 ∷ 0 ∷ []) $ fjoin ! $ fpack ! (List Val) (λ vs. fsep (cell_at full_share (ty_array (ty_int w) n ∷ []) vs b 0) ((Table w n).own_val xs vs)) (whole w xs ∷ []) $ done !

    -- side by side.
    cells_in : (b : ℕ) → ent 𝓤 (H.at full_share (ty_array (ty_int w) n) b 0 (whole w xs)) (Cells 𝓛 𝓜 w b 0 xs)
    cells_in b =
        via 𝓤 ⟦ Lying 𝓛 𝓜 w n xs b 0 ⟧ (table_in b)
        (via 𝓤 (Held 𝓛 𝓜 w n b 0 xs) (lying_out 𝓛 𝓜 w n xs b 0) (snd∗ 𝓤 ⟦ feq ℕ n n ⟧ (Cells 𝓛 𝓜 w b 0 xs)))

    -- So some memory has them in a block, beside what there was.
    pub block_more : (σ : Memory) (F : SProp 𝓤) → σ ⊨ F → ∥ ((σ' : Memory) × (b : ℕ) × (σ' ⊨ Cells 𝓛 𝓜 w b 0 xs ∗ F)) ∥₁
    block_more σ F s =
        let τ : Ty = ty_array (ty_int w) n in
        let typed = Array-Typed (UInt w) (uint_Lawful 𝓛 w).typed n xs (whole w xs ∷ []) (table_is w xs h) in
        ∥∥₁_map (store_more (alloc_m σ τ) F τ (length σ) (whole w xs) typed.0.0 typed.0.1 (room_more σ F τ s)) (λ q.
        (q.0, length σ, sat_weaken 𝓤 H 𝓜 q.0 (mono_l 𝓤 F (cells_in (length σ))) q.1))

  -- The memory with which a run begins.
  start : start_mem [] [] ⊨ emp 𝓤
  start =
      let P : SProp 𝓤 = Cells 𝓛 𝓜 w8 0 0 [] ∗ Cells 𝓛 𝓜 w8 1 0 [] in
      sat_weaken 𝓤 H 𝓜 (start_mem [] []) (via 𝓤 (emp 𝓤 ∗ P) (emp∗ 𝓤 P) (fst∗ 𝓤 (emp 𝓤) P)) (start_Satisfies 𝓤 H 𝓜 [] [] tt tt)

  -- A block for each piece of memory, beside what there was.
  abbrev Laid : List Argument → SProp 𝓤 → Type 1
  Laid args F = (σ : Memory) × (p : ℕ → Place) × (σ ⊨ Owned 𝓤 H 𝓜 (placed args p) ∗ F)

  pub laid : (args : List Argument) → AllSmall args → (σ : Memory) (F : SProp 𝓤) → σ ⊨ F → ∥ Laid args F ∥₁
  unfolding AllSmall Owned
  laid [] h σ F s = ∣ (σ, (λ i. record { block = 0; at = 0 }), sat_weaken 𝓤 H 𝓜 σ (emp∗ 𝓤 F) s) ∣₁
  laid (number w n ∷ more) h σ F s = laid more h σ F s
  laid (memory t l w q xs ∷ more) h σ F s =
      ∥∥₁_elim (laid more h.1 σ F s) ∥∥₁_prop (λ m.
      let rest = Owned 𝓤 H 𝓜 (placed more m.1) in
      ∥∥₁_map (block_more w xs h.0 m.0 (rest ∗ F) m.2) (λ r.
      (r.0, before (record { block = r.1; at = 0 }) m.1, sat_weaken 𝓤 H 𝓜 r.0 (assoc' 𝓤 (Cells 𝓛 𝓜 w r.1 0 xs) rest F) r.2)))

  -- There is a memory from which the call can be made.
  pub callable : (args : List Argument) → AllFit args → AllSmall args → ∥ ((p : ℕ → Place) × Callable 𝓤 H 𝓜 (placed args p) []) ∥₁
  unfolding Owned
  callable args f h =
      ∥∥₁_map (laid args h (start_mem [] []) (emp 𝓤) start) (λ l. (l.1, record { memory = l.0; owned = l.2; fit = placed_fit args l.1 f }))
