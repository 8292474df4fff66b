-- Lent numbers of any width, for every model: memory that a caller owns is lent as an array or a slice before a call and is taken back after it, one argument at a time.
-- Assumes nothing.
use Prim.Native.Nat.{ℕ, ◌+◌}
use mathlib.Core.List.{List, [], ◌∷◌}
use mathlib.Core.Path.{◌≡◌, refl}
use mathlib.Core.Logic.{∥∥₁_prop, ∥∥₁_elim, ∥∥₁_map}
use lib.ListN.{length}
use seplogic.Ra.Ura.{Ura}
use base.Fraction.{full_share}
use mir.Syntax.{named, Width, ty_int}
use mir.Val.{Val, vint, vptr, bytes}
use base.Logic.{SProp, ent, sep, ex, emp, id⊢, via, mono_l, snd∗, ex_i}
use base.Fml.{GName, Fml, fsep, feq, fat, flft, fbor, flent, fres, fhide}
use prog.Memory.{Memory}
use prog.Wp.{run}
use prog.Model.{Model}
use types.Logic.{Logic, sem}
use types.Kit.{‵, raw, ◌⊛◌, some, later, ◌$◌, ◌∵◌, !, qed, by, move, keep, use1, use3, split, join, pick, fsplit, fjoin, feq_i, feq_l, suffices, frame, await, updating, now as at_once, done}
use types.Tokens.{lft_new, lft_end, lent_back}
use types.SemTy.{Body, Arr, cells}
use types.Share.{PartsLaws, parts, arr_parts, cells_whole_in, cells_whole_out}
use contract.Adequate.{Satisfies, sat_weaken, sat_ex∗, sat_⇛}
use denote.RattleType.{RattleType}
use denote.Laws.{Is, shows}
use denote.Memory.{part_at, mem, shares, share_laws}
use denote.Array.{Array}
use denote.ArrayMemory.{Array-apart, Array-whole}
use denote.Plain.{UInt, uint_vals, uint_Tells, uint_copy, uint_in, uint_out}
use denote.Ref.{Bor, MutBor, MutRef, ShrRef}
use denote.Shadow.{pure_i}
use denote.Lends.{Lent-map}
use denote.Copied.{uint_Copied, each_lends, Array-Copied}
use denote.Slice.{MutSlice, ShrSlice, slice_val, shr_slice_at, elements_shared, Room, finally}
use denote.Lend.{Held as Borrowed, lends_ref, lends_free, ref_back, lends_slice, slice_back}

abbrev pub Table : Width → ℕ → RattleType
Table w n = Array (UInt w) n

abbrev pub reference : List ℕ → (b o : ℕ) → GName → MutBor (List ℕ)
reference xs b o δ = record { ref_ptr = (b, o); ghost_name = δ; now = xs }

abbrev pub seen : List ℕ → (b o : ℕ) → Bor (List ℕ)
seen xs b o = record { ref_ptr = (b, o); now = xs }

module _ {M : Type 1} {𝓤 : Ura M} (𝓛 : Logic 𝓤) (𝓜 : Model 𝓤 𝓛.H) where
  open 𝓛 use {H}

  abbrev ⟦◌⟧ : Fml → SProp 𝓤
  ⟦ P ⟧ = sem 𝓛 P

  abbrev ◌∗◌ : SProp 𝓤 → SProp 𝓤 → SProp 𝓤
  P ∗ Q = sep 𝓤 P Q

  abbrev ◌⊨◌ : Memory → SProp 𝓤 → Type 1
  σ ⊨ P = Satisfies 𝓤 H 𝓜 σ P

  infixr 35 ◌∗◌
  infix 26 ◌⊨◌
  abbrev pub Cells : Width → (b o : ℕ) → List ℕ → SProp 𝓤
  Cells w b o xs = run 𝓤 H full_share w b o xs

  abbrev Parts : Width → List ℕ → (b o : ℕ) → Fml
  Parts w xs b o = parts (mem (UInt w)) (shares (UInt w)) full_share xs b o

  -- Numbers side by side are what an array holds, each way.
  in_step : (w : Width) (x : ℕ) (xs : List ℕ) (b o : ℕ) → ent 𝓤 (Cells w b (o + bytes w) xs) ⟦ Parts w xs b (o + bytes w) ⟧ → ent 𝓤 (Cells w b o (x ∷ xs)) ⟦ Parts w (x ∷ xs) b o ⟧
  in_step w x xs b o h =
      qed 𝓛 (‵ (fat full_share (ty_int w) b o (vint w x)) ∷ raw (Cells w b (o + bytes w) xs) ∷ []) ∵
      use1 𝓛 (‵ (part_at (UInt w) full_share x b o)) (uint_in 𝓛 full_share w x b o) $ frame ! $ by ! h

  parts_in : (w : Width) (xs : List ℕ) (b o : ℕ) → ent 𝓤 (Cells w b o xs) ⟦ Parts w xs b o ⟧
  parts_in w [] b o = id⊢ 𝓤 (emp 𝓤)
  parts_in w (x ∷ xs) b o = in_step w x xs b o (parts_in w xs b (o + bytes w))

  out_step : (w : Width) (x : ℕ) (xs : List ℕ) (b o : ℕ) → ent 𝓤 ⟦ Parts w xs b (o + bytes w) ⟧ (Cells w b (o + bytes w) xs) → ent 𝓤 ⟦ Parts w (x ∷ xs) b o ⟧ (Cells w b o (x ∷ xs))
  out_step w x xs b o h =
      qed 𝓛 (‵ (part_at (UInt w) full_share x b o) ∷ ‵ (Parts w xs b (o + bytes w)) ∷ []) ∵
      use1 𝓛 (‵ (fat full_share (ty_int w) b o (vint w x))) (uint_out 𝓛 full_share w x b o) $ frame ! $ by ! h

  parts_out : (w : Width) (xs : List ℕ) (b o : ℕ) → ent 𝓤 ⟦ Parts w xs b o ⟧ (Cells w b o xs)
  parts_out w [] b o = id⊢ 𝓤 (emp 𝓤)
  parts_out w (x ∷ xs) b o = out_step w x xs b o (parts_out w xs b (o + bytes w))

  abbrev pub Lying : (w : Width) (n : ℕ) → List ℕ → (b o : ℕ) → Fml
  Lying w n xs b o = part_at (Table w n) full_share xs b o

  -- So many numbers, which the caller owns.
  abbrev pub Held : (w : Width) (n b o : ℕ) → List ℕ → SProp 𝓤
  Held w n b o xs = ⟦ feq ℕ (length xs) n ⟧ ∗ Cells w b o xs

  pub held_in : (w : Width) (n b o : ℕ) (xs : List ℕ) → length xs ≡ n → ent 𝓤 (Cells w b o xs) (Held w n b o xs)
  held_in w n b o xs e = qed 𝓛 (raw (Cells w b o xs) ∷ []) ∵ feq_i ! ℕ (length xs) n e $ done !

  lying_in : (w : Width) (n : ℕ) (xs : List ℕ) (b o : ℕ) → ent 𝓤 (Held w n b o xs) ⟦ Lying w n xs b o ⟧
  lying_in w n xs b o =
      qed 𝓛 (‵ (feq ℕ (length xs) n) ∷ raw (Cells w b o xs) ∷ []) ∵ move ! (1 ∷ 0 ∷ []) $ use1 𝓛 (‵ (Parts w xs b o)) (parts_in w xs b o) $ move ! (1 ∷ 0 ∷ []) $ fjoin ! $
      by ! (Array-whole 𝓛 (UInt w) full_share n xs b o)

  pub lying_out : (w : Width) (n : ℕ) (xs : List ℕ) (b o : ℕ) → ent 𝓤 ⟦ Lying w n xs b o ⟧ (Held w n b o xs)
  lying_out w n xs b o =
      qed 𝓛 (‵ (Lying w n xs b o) ∷ []) ∵ use1 𝓛 (‵ ((arr_parts (shares (UInt w)) n).part full_share xs b o)) (Array-apart 𝓛 (UInt w) full_share tt n xs b o) $
      fsplit ! $ frame ! $ by ! (parts_out w xs b o)

  -- What a parameter that is lent owns, O, and what gives its memory back, A, under a new lifetime.
  abbrev pub Live : ℕ → SProp 𝓤
  Live α = 𝓛.A.lft (α ∷ []) full_share

  abbrev Lent : (O A : ℕ → GName → SProp 𝓤) → ℕ → GName → SProp 𝓤
  Lent O A α δ = (Live α ∗ O α δ) ∗ A α δ

  abbrev SomeLent : (O A : ℕ → GName → SProp 𝓤) → SProp 𝓤
  SomeLent O A = ex 𝓤 (λ (α : ℕ). ex 𝓤 (λ (δ : GName). Lent O A α δ))

  is_lent : (O A : ℕ → GName → SProp 𝓤) (α : ℕ) (δ : GName) → ent 𝓤 (Lent O A α δ) (SomeLent O A)
  is_lent O A α δ = via 𝓤 (ex 𝓤 (λ (δ' : GName). Lent O A α δ')) (ex_i 𝓤 (λ (δ' : GName). Lent O A α δ') δ) (ex_i 𝓤 (λ (α' : ℕ). ex 𝓤 (λ (δ' : GName). Lent O A α' δ')) α)

  -- An array that is read. (No name is needed for it.)
  abbrev pub ReadArray : (j : ℕ) (w : Width) (n : ℕ) (xs : List ℕ) (b o α : ℕ) → GName → SProp 𝓤
  ReadArray j w n xs b o α δ = ⟦ (ShrRef (named j) (α ∷ []) (Table w n)).own_val (seen xs b o) (vptr b o ∷ []) ⟧

  abbrev pub ReadBack : (w : Width) (n : ℕ) (xs : List ℕ) (b o α : ℕ) → GName → SProp 𝓤
  ReadBack w n xs b o α δ = 𝓛.A.lent (α ∷ []) (Lying w n xs b o)

  pub lends_read : (j : ℕ) (w : Width) (n : ℕ) (xs : List ℕ) (b o : ℕ) → ent 𝓤 (Held w n b o xs) (H.⇛ (SomeLent (ReadArray j w n xs b o) (ReadBack w n xs b o)))
  lends_read j w n xs b o =
      qed 𝓛 (raw (Held w n b o xs) ∷ []) ∵ updating ! $ use1 𝓛 (‵ (Lying w n xs b o)) (lying_in w n xs b o) $ lft_new ! tt (λ α. move ! (1 ∷ []) $
      use1 𝓛 (later (‵ ((ShrRef (named j) (α ∷ []) (Table w n)).own_val (seen xs b o) (vptr b o ∷ [])) ⊛ ‵ (flent (α ∷ []) (Lying w n xs b o))))
      (lends_free 𝓛 (Table w n) (named j) (α ∷ []) full_share xs b o ((Array-Copied 𝓛 (UInt w) (uint_Copied 𝓛 w) tt n).lends full_share xs b o)) $
      await ! tt $ split ! $ at_once ! $ suffices ! (Lent (ReadArray j w n xs b o) (ReadBack w n xs b o) α 0) (is_lent (ReadArray j w n xs b o) (ReadBack w n xs b o) α 0) $
      move ! (2 ∷ 0 ∷ []) $ join ! $ done !)

  pub read_back : (w : Width) (n : ℕ) (xs : List ℕ) (b o α : ℕ) (δ : GName) → ent 𝓤 (Live α ∗ ReadBack w n xs b o α δ ∗ emp 𝓤) (H.⇛ (Cells w b o xs))
  read_back w n xs b o α δ =
      qed 𝓛 (‵ (flft (α ∷ []) full_share) ∷ ‵ (flent (α ∷ []) (Lying w n xs b o)) ∷ raw (emp 𝓤) ∷ []) ∵ updating ! $
      lft_end ! tt $ lent_back ! tt $ at_once ! $ keep ! (0 ∷ []) $ by ! (via 𝓤 (Held w n b o xs) (lying_out w n xs b o) (snd∗ 𝓤 ⟦ feq ℕ (length xs) n ⟧ (Cells w b o xs)))

  -- An array that is written: what comes back is its last value.
  abbrev pub WriteArray : (j : ℕ) (w : Width) (n : ℕ) (xs : List ℕ) (b o α : ℕ) → GName → SProp 𝓤
  WriteArray j w n xs b o α δ = ⟦ (MutRef (named j) (α ∷ []) (Table w n)).own_val (reference xs b o δ) (vptr b o ∷ []) ⟧

  abbrev pub WriteBack : (w : Width) (n b o α : ℕ) → GName → SProp 𝓤
  WriteBack w n b o α δ = 𝓛.A.lent (α ∷ []) (Body (mem (Table w n)) b o δ)

  abbrev pub Last : (w : Width) (n b o α : ℕ) → GName → List ℕ → SProp 𝓤
  Last w n b o α δ ys = ⟦ fsep (fres δ ((Table w n).coded.code ys)) (fbor (α ∷ []) (Body (mem (Table w n)) b o δ)) ⟧

  pub lends_write : (j : ℕ) (w : Width) (n : ℕ) (xs : List ℕ) (b o : ℕ) → ent 𝓤 (Held w n b o xs) (H.⇛ (SomeLent (WriteArray j w n xs b o) (WriteBack w n b o)))
  lends_write j w n xs b o =
      qed 𝓛 (raw (Held w n b o xs) ∷ []) ∵ updating ! $ use1 𝓛 (‵ (Lying w n xs b o)) (lying_in w n xs b o) $ lft_new ! tt (λ α. move ! (1 ∷ []) $
      use1 𝓛 (later (some (λ (δ : GName). ‵ ((MutRef (named j) (α ∷ []) (Table w n)).own_val (reference xs b o δ) (vptr b o ∷ [])) ⊛ ‵ (flent (α ∷ []) (Body (mem (Table w n)) b o δ)))))
      (lends_ref 𝓛 (Table w n) (named j) (α ∷ []) xs b o) $
      await ! tt $ pick ! (λ δ. split ! $ at_once ! $ suffices ! (Lent (WriteArray j w n xs b o) (WriteBack w n b o) α δ) (is_lent (WriteArray j w n xs b o) (WriteBack w n b o) α δ) $
      move ! (2 ∷ 0 ∷ []) $ join ! $ done !))

  pub write_back : (w : Width) (n : ℕ) (ys : List ℕ) (b o α : ℕ) (δ : GName) → ent 𝓤 (Live α ∗ WriteBack w n b o α δ ∗ Last w n b o α δ ys) (H.⇛ (Held w n b o ys))
  write_back w n ys b o α δ =
      let held : Fml = Body (mem (Table w n)) b o δ in
      qed 𝓛 (‵ (flft (α ∷ []) full_share) ∷ ‵ (flent (α ∷ []) held) ∷ ‵ (fsep (fres δ ((Table w n).coded.code ys)) (fbor (α ∷ []) held)) ∷ []) ∵ updating ! $
      move ! (2 ∷ []) $ fsplit ! $ move ! (2 ∷ 3 ∷ 0 ∷ []) $ lft_end ! tt $ use3 𝓛 (later (‵ (Lying w n ys b o))) (ref_back 𝓛 (Table w n) (α ∷ []) δ ys b o) $ await ! tt $ at_once ! $ keep ! (0 ∷ []) $ by ! (lying_out w n ys b o)

  -- One parameter in front of those that are lent already, and one taken back: its lifetime beside the others, what it owns beside what they own, what gives its memory back
  -- beside what gives theirs.
  first_in : (L O A Ls Os As F : SProp 𝓤) → ent 𝓤 (((L ∗ O) ∗ A) ∗ ((Ls ∗ Os) ∗ As ∗ F)) (((L ∗ Ls) ∗ (O ∗ Os)) ∗ (A ∗ As) ∗ F)
  first_in L O A Ls Os As F =
      qed 𝓛 (((raw L ⊛ raw O) ⊛ raw A) ∷ (raw Ls ⊛ raw Os) ∷ raw As ∷ raw F ∷ []) ∵ split ! $ split ! $ move ! (3 ∷ []) $ split ! $
      -- Ls, Os, L, O, A, As, F
      move ! (4 ∷ 5 ∷ []) $ join ! $ move ! (4 ∷ 2 ∷ []) $ join ! $ move ! (3 ∷ 2 ∷ []) $ join ! $ move ! (0 ∷ 1 ∷ []) $ join ! $ done !

  pub lent_in : (P : SProp 𝓤) (O A : ℕ → GName → SProp 𝓤) → ent 𝓤 P (H.⇛ (SomeLent O A)) → (Ls Os As F : SProp 𝓤) (σ : Memory) → σ ⊨ P ∗ ((Ls ∗ Os) ∗ As ∗ F)
      → ∥ ((α : ℕ) × (δ : GName) × (σ ⊨ ((Live α ∗ Ls) ∗ (O α δ ∗ Os)) ∗ (A α δ ∗ As) ∗ F)) ∥₁
  lent_in P O A lend Ls Os As F σ s =
      let G : SProp 𝓤 = (Ls ∗ Os) ∗ As ∗ F in
      ∥∥₁_elim (sat_ex∗ 𝓤 H 𝓜 σ (λ (α : ℕ). ex 𝓤 (λ (δ : GName). Lent O A α δ)) G (sat_⇛ 𝓤 H 𝓜 σ (SomeLent O A) G (sat_weaken 𝓤 H 𝓜 σ (mono_l 𝓤 G lend) s))) ∥∥₁_prop (λ α.
      ∥∥₁_map (sat_ex∗ 𝓤 H 𝓜 σ (λ (δ : GName). Lent O A α.0 δ) G α.1) (λ δ.
      (α.0, δ.0, sat_weaken 𝓤 H 𝓜 σ (first_in (Live α.0) (O α.0 δ.0) (A α.0 δ.0) Ls Os As F) δ.1)))

  first_out : (L Z A Ls Zs As F : SProp 𝓤) → ent 𝓤 (((L ∗ Ls) ∗ (Z ∗ Zs)) ∗ (A ∗ As) ∗ F) ((L ∗ A ∗ Z) ∗ ((Ls ∗ Zs) ∗ As ∗ F))
  first_out L Z A Ls Zs As F =
      qed 𝓛 (((raw L ⊛ raw Ls) ⊛ (raw Z ⊛ raw Zs)) ∷ (raw A ⊛ raw As) ∷ raw F ∷ []) ∵ split ! $ split ! $ move ! (2 ∷ []) $ split ! $ move ! (4 ∷ []) $ split ! $
      -- A, As, Z, Zs, L, Ls, F
      move ! (5 ∷ 3 ∷ []) $ join ! $ move ! (1 ∷ 3 ∷ []) $ join ! $ move ! (3 ∷ 0 ∷ []) $ join ! $ done !

  pub taken_out : (Q Z A : SProp 𝓤) (α : ℕ) → ent 𝓤 (Live α ∗ A ∗ Z) (H.⇛ Q) → (Ls Zs As F : SProp 𝓤) (σ : Memory)
      → σ ⊨ ((Live α ∗ Ls) ∗ (Z ∗ Zs)) ∗ (A ∗ As) ∗ F → σ ⊨ Q ∗ ((Ls ∗ Zs) ∗ As ∗ F)
  taken_out Q Z A α back Ls Zs As F σ s =
      let G : SProp 𝓤 = (Ls ∗ Zs) ∗ As ∗ F in
      sat_⇛ 𝓤 H 𝓜 σ Q G (sat_weaken 𝓤 H 𝓜 σ (via 𝓤 ((Live α ∗ A ∗ Z) ∗ G) (first_out (Live α) Z A Ls Zs As F) (mono_l 𝓤 G back)) s)

  -- A slice that is read, and one that is written.
  laws : (w : Width) → PartsLaws 𝓛 (mem (UInt w)) (shares (UInt w))
  laws w = share_laws 𝓛 (UInt w) (Is (UInt w)) (shows 𝓛 (UInt w)) (uint_vals w) (uint_Tells w) (uint_copy 𝓛 w)

  cells_in : (w : Width) (xs : List ℕ) (b o : ℕ) → ent 𝓤 (Cells w b o xs) ⟦ cells (mem (UInt w)) xs b o ⟧
  cells_in w xs b o = via 𝓤 ⟦ Parts w xs b o ⟧ (parts_in w xs b o) (cells_whole_in 𝓛 (mem (UInt w)) (shares (UInt w)) (laws w) xs b o)

  cells_out : (w : Width) (xs : List ℕ) (b o : ℕ) → ent 𝓤 ⟦ cells (mem (UInt w)) xs b o ⟧ (Cells w b o xs)
  cells_out w xs b o = via 𝓤 ⟦ Parts w xs b o ⟧ (cells_whole_out 𝓛 (mem (UInt w)) (shares (UInt w)) (laws w) xs b o) (parts_out w xs b o)

  abbrev pointer : List ℕ → (b o : ℕ) → Val
  pointer xs b o = slice_val (b, o) (length xs)

  abbrev pub ReadSlice : (j : ℕ) (w : Width) (xs : List ℕ) (b o α : ℕ) → GName → SProp 𝓤
  ReadSlice j w xs b o α δ = ⟦ (ShrSlice (named j) (α ∷ []) (UInt w)).own_val (seen xs b o) (pointer xs b o ∷ []) ⟧

  abbrev pub SliceBack : (w : Width) (xs : List ℕ) (b o α : ℕ) → GName → SProp 𝓤
  SliceBack w xs b o α δ = 𝓛.A.lent (α ∷ []) ((arr_parts (shares (UInt w)) (length xs)).part full_share xs b o)

  pub lends_slice_read : (j : ℕ) (w : Width) (xs : List ℕ) (b o : ℕ) → Room (UInt w) (length xs) → ent 𝓤 (Cells w b o xs) (H.⇛ (SomeLent (ReadSlice j w xs b o) (SliceBack w xs b o)))
  lends_slice_read j w xs b o fits =
      let whole : Fml = (arr_parts (shares (UInt w)) (length xs)).part full_share xs b o in
      let long : Fml = feq ℕ (length xs) (length xs) in
      qed 𝓛 (raw (Cells w b o xs) ∷ []) ∵ updating ! $ use1 𝓛 (‵ (Parts w xs b o)) (parts_in w xs b o) $ feq_i ! ℕ (length xs) (length xs) refl $ fjoin ! $
      lft_new ! tt (λ α. move ! (1 ∷ []) $
      use1 𝓛 (later (‵ (fhide (elements_shared (UInt w) xs b o (α ∷ []))) ⊛ ‵ (flent (α ∷ []) whole)))
      (Lent-map 𝓛 whole (Parts w xs b o) (elements_shared (UInt w) xs b o) (snd∗ 𝓤 ⟦ long ⟧ ⟦ Parts w xs b o ⟧)
      (qed 𝓛 (‵ (Parts w xs b o) ∷ []) ∵ feq_i ! ℕ (length xs) (length xs) refl $ fjoin ! $ done !)
      (each_lends 𝓛 (UInt w) (uint_Copied 𝓛 w) full_share xs b o) (α ∷ [])) $
      await ! tt $ split ! $ at_once ! $ suffices ! (Lent (ReadSlice j w xs b o) (SliceBack w xs b o) α 0) (is_lent (ReadSlice j w xs b o) (SliceBack w xs b o) α 0) $
      pure_i ! (shr_slice_at (UInt w) (seen xs b o) (pointer xs b o ∷ [])) (tt, (tt, tt)) (refl, fits) $ fjoin ! $ move ! (2 ∷ 0 ∷ []) $ join ! $ done !)

  pub slice_read_back : (w : Width) (xs : List ℕ) (b o α : ℕ) (δ : GName) → ent 𝓤 (Live α ∗ SliceBack w xs b o α δ ∗ emp 𝓤) (H.⇛ (Cells w b o xs))
  slice_read_back w xs b o α δ =
      qed 𝓛 (‵ (flft (α ∷ []) full_share) ∷ ‵ (flent (α ∷ []) ((arr_parts (shares (UInt w)) (length xs)).part full_share xs b o)) ∷ raw (emp 𝓤) ∷ []) ∵ updating ! $
      lft_end ! tt $ lent_back ! tt $ at_once ! $ keep ! (0 ∷ []) $ fsplit ! $ feq_l ! (λ e. by ! (parts_out w xs b o))

  abbrev pub WriteSlice : (j : ℕ) (w : Width) (xs : List ℕ) (b o α : ℕ) → GName → SProp 𝓤
  WriteSlice j w xs b o α δ = ⟦ (MutSlice (named j) (α ∷ []) (UInt w)).own_val (reference xs b o δ) (pointer xs b o ∷ []) ⟧

  abbrev pub SliceHeld : (w : Width) (n b o α : ℕ) → GName → SProp 𝓤
  SliceHeld w n b o α δ = 𝓛.A.lent (α ∷ []) (Borrowed (UInt w) n b o δ)

  abbrev pub Finally : (w : Width) (b o α : ℕ) → GName → (ys : List ℕ) (n : ℕ) → SProp 𝓤
  Finally w b o α δ ys n = ⟦ fsep (fsep (finally (UInt w) δ ys) (feq ℕ (length ys) n)) (fbor (α ∷ []) (Borrowed (UInt w) n b o δ)) ⟧

  pub lends_slice_write : (j : ℕ) (w : Width) (xs : List ℕ) (b o : ℕ) → Room (UInt w) (length xs) → ent 𝓤 (Cells w b o xs) (H.⇛ (SomeLent (WriteSlice j w xs b o) (SliceHeld w (length xs) b o)))
  lends_slice_write j w xs b o fits =
      qed 𝓛 (raw (Cells w b o xs) ∷ []) ∵ updating ! $ use1 𝓛 (‵ (cells (mem (UInt w)) xs b o)) (cells_in w xs b o) $ lft_new ! tt (λ α. move ! (1 ∷ []) $
      use1 𝓛 (later (some (λ (δ : GName). ‵ ((MutSlice (named j) (α ∷ []) (UInt w)).own_val (reference xs b o δ) (pointer xs b o ∷ [])) ⊛ ‵ (flent (α ∷ []) (Borrowed (UInt w) (length xs) b o δ)))))
      (lends_slice 𝓛 (UInt w) (named j) (α ∷ []) xs b o fits) $
      await ! tt $ pick ! (λ δ. split ! $ at_once ! $ suffices ! (Lent (WriteSlice j w xs b o) (SliceHeld w (length xs) b o) α δ) (is_lent (WriteSlice j w xs b o) (SliceHeld w (length xs) b o) α δ) $
      move ! (2 ∷ 0 ∷ []) $ join ! $ done !))

  pub slice_write_back : (w : Width) (n : ℕ) (ys : List ℕ) (b o α : ℕ) (δ : GName) → ent 𝓤 (Live α ∗ SliceHeld w n b o α δ ∗ Finally w b o α δ ys n) (H.⇛ (Held w n b o ys))
  slice_write_back w n ys b o α δ =
      let held : Fml = Borrowed (UInt w) n b o δ in
      qed 𝓛 (‵ (flft (α ∷ []) full_share) ∷ ‵ (flent (α ∷ []) held) ∷ ‵ (fsep (fsep (finally (UInt w) δ ys) (feq ℕ (length ys) n)) (fbor (α ∷ []) held)) ∷ []) ∵ updating ! $
      move ! (2 ∷ []) $ fsplit ! $ fsplit ! $ move ! (3 ∷ 4 ∷ 0 ∷ []) $ lft_end ! tt $ use3 𝓛 (later (‵ ((Arr (mem (UInt w)) n).own_at ys b o))) (slice_back 𝓛 (UInt w) (α ∷ []) δ ys n b o) $ await ! tt $
      at_once ! $ keep ! (0 ∷ []) $ fsplit ! $ feq_l ! (λ e. feq_i ! ℕ (length ys) n e $ frame ! $ by ! (cells_out w ys b o))
