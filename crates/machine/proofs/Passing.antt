-- Arguments, for every model: numbers, and memory that the caller owns and lends, any number of pieces of any width, are passed to a function, and the memory is owned again
-- after the call, at its last values. Assumes nothing.
use Prim.Native.Nat.{ℕ, suc, ◌*◌, ◌<◌, ◌^◌}
use native.Mathlib.Omega.{arith}
use mathlib.Core.List.{List, [], ◌∷◌}
use mathlib.Core.Path.{◌≡◌, refl, sym, ap, subst, ◌∙◌}
use mathlib.Core.Logic.{∥∥₁_prop, ∥∥₁_elim, ∥∥₁_map}
use lib.ListN.{length, replicate}
use seplogic.Ra.Ura.{Ura}
use base.Fraction.{full_share}
use mir.Syntax.{Width, w8, w16, w32, w64, w128}
use mir.Val.{Val, vint, bytes}
use base.Logic.{SProp, ent, sep, ex, emp, id⊢, via, mono_l, mono_r, emp∗, fst∗, snd∗, comm∗}
use base.Fml.{GName, feq}
use prog.Memory.{Memory}
use prog.Model.{Model}
use prog.Routine.{Routine, ends}
use types.Logic.{Logic, sem}
use types.Kit.{raw, ◌⊛◌, ◌$◌, ◌∵◌, !, qed, move, use0, split, join, done}
use contract.Lifetimes.{Lfts, Shares}
use contract.Monad.{fact}
use contract.Running.{Running}
use contract.Adequate.{Satisfies, sat_weaken}
use denote.Laws.{Is}
use denote.Plain.{UInt, uint_Makes}
use denote.Ref.{Bor, MutBor}
use denote.Slice.{Room}
use denote.Signature.{Signature, type_at}
use denote.Triple.Bound.{Bound, passed}
use denote.Triple.Entry.{Res}
use denote.Triple.End.{Kepts, Fins, Outs, outs}
use denote.Triple.Spec.{Spec, triple_of, Meets, exits}
use Rattle.machine.specs.Calls.{Place, Shape, slice, array, Lent, reads, writes, Argument, number, memory, value_of, values_of, Fits, AllFit, blank, Alike, Owned}
use Rattle.machine.proofs.Contracts.{front_fact, Left, leaves}
use Rattle.machine.proofs.Lending.{Cells, Held, held_in, Live, reference, seen, ReadArray, ReadBack, WriteArray, WriteBack, Last, lends_read, read_back, lends_write, write_back, ReadSlice, SliceBack, WriteSlice, SliceHeld, Finally, lends_slice_read, slice_read_back, lends_slice_write, slice_write_back, lent_in, taken_out}

-- The lifetimes and names under which arguments are lent, and the last values of those that are written.
abbrev pub Names : List Argument → Type 0
Names [] = Unit {0}
Names (number w n ∷ more) = Names more
Names (memory s l w p xs ∷ more) = (ℕ × GName) × Names more

abbrev pub Lasts : List Argument → Type 0
Lasts [] = Unit {0}
Lasts (number w n ∷ more) = Unit {0} × Lasts more
Lasts (memory s reads w p xs ∷ more) = Unit {0} × Lasts more
Lasts (memory s writes w p xs ∷ more) = List ℕ × Lasts more

abbrev pub after : (args : List Argument) → Lasts args → List Argument
after [] ys = []
after (number w n ∷ more) ys = number w n ∷ after more ys.1
after (memory s reads w p xs ∷ more) ys = memory s reads w p xs ∷ after more ys.1
after (memory s writes w p xs ∷ more) ys = memory s writes w p ys.0 ∷ after more ys.1

-- What a contract binds for them.
abbrev pub count : List Argument → ℕ
count [] = 0
count (number w n ∷ more) = count more
count (memory s l w p xs ∷ more) = suc (count more)

abbrev pub lifetimes : (args : List Argument) → Names args → Lfts (count args)
lifetimes [] ns = tt
lifetimes (number w n ∷ more) ns = lifetimes more ns
lifetimes (memory s l w p xs ∷ more) ns = (ns.0.0 ∷ [], lifetimes more ns.1)

abbrev pub shares : (args : List Argument) → Shares (count args)
shares [] = tt
shares (number w n ∷ more) = shares more
shares (memory s l w p xs ∷ more) = (full_share, shares more)

abbrev pub Denoted : List Argument → Type 0
Denoted [] = Unit {0}
Denoted (number w n ∷ more) = ℕ × Denoted more
Denoted (memory s reads w p xs ∷ more) = Bor (List ℕ) × Denoted more
Denoted (memory s writes w p xs ∷ more) = MutBor (List ℕ) × Denoted more

abbrev pub denoted : (args : List Argument) → Names args → Denoted args
denoted [] ns = tt
denoted (number w n ∷ more) ns = (n, denoted more ns)
denoted (memory s reads w p xs ∷ more) ns = (seen xs p.block p.at, denoted more ns.1)
denoted (memory s writes w p xs ∷ more) ns = (reference xs p.block p.at ns.0.1, denoted more ns.1)

abbrev pub Singly : List Argument → Type 0
Singly [] = Unit {0}
Singly (a ∷ more) = List Val × Singly more

abbrev pub singly : (args : List Argument) → Singly args
unfolding value_of
singly [] = tt
singly (a ∷ more) = (value_of a ∷ [], singly more)

abbrev pub bound : (args : List Argument) → Names args → Lfts (count args) × Shares (count args) × Unit {0} × Denoted args × Singly args
bound args ns = (lifetimes args ns, shares args, tt, denoted args ns, singly args)

-- A slice of under 2^63 bytes has room.
room : (w : Width) (xs : List ℕ) → length xs * bytes w < 2 ^ 63 → Room (UInt w) (length xs)
room w8 xs h = (omega (arith, h), omega (arith, h))
room w16 xs h = (omega (arith, h), omega (arith, h))
room w32 xs h = (omega (arith, h), omega (arith, h))
room w64 xs h = (omega (arith, h), omega (arith, h))
room w128 xs h = (omega (arith, h), omega (arith, h))

module _ {M : Type 1} {𝓤 : Ura M} (𝓛 : Logic 𝓤) (𝓜 : Model 𝓤 𝓛.H) where
  open 𝓛 use {H}

  abbrev ◌∗◌ : SProp 𝓤 → SProp 𝓤 → SProp 𝓤
  P ∗ Q = sep 𝓤 P Q

  abbrev ◌⊨◌ : Memory → SProp 𝓤 → Type 1
  σ ⊨ P = Satisfies 𝓤 H 𝓜 σ P

  infixr 35 ◌∗◌
  infix 26 ◌⊨◌
  -- One piece of memory: what its argument owns under a lifetime and a name, what gives it back, and what is left of the argument after the call.
  abbrev pub Own : Shape → Lent → (j : ℕ) (w : Width) (p : Place) (xs : List ℕ) (α : ℕ) → GName → SProp 𝓤
  Own slice reads j w p xs α δ = ReadSlice 𝓛 𝓜 j w xs p.block p.at α δ
  Own slice writes j w p xs α δ = WriteSlice 𝓛 𝓜 j w xs p.block p.at α δ
  Own (array n) reads j w p xs α δ = ReadArray 𝓛 𝓜 j w n xs p.block p.at α δ
  Own (array n) writes j w p xs α δ = WriteArray 𝓛 𝓜 j w n xs p.block p.at α δ

  abbrev pub Back : Shape → Lent → (w : Width) (p : Place) (xs : List ℕ) (α : ℕ) → GName → SProp 𝓤
  Back slice reads w p xs α δ = SliceBack 𝓛 𝓜 w xs p.block p.at α δ
  Back slice writes w p xs α δ = SliceHeld 𝓛 𝓜 w (length xs) p.block p.at α δ
  Back (array n) reads w p xs α δ = ReadBack 𝓛 𝓜 w n xs p.block p.at α δ
  Back (array n) writes w p xs α δ = WriteBack 𝓛 𝓜 w n p.block p.at α δ

  abbrev pub End : Shape → (w : Width) (p : Place) (xs ys : List ℕ) (α : ℕ) → GName → SProp 𝓤
  End slice w p xs ys α δ = Finally 𝓛 𝓜 w p.block p.at α δ ys (length xs)
  End (array n) w p xs ys α δ = Last 𝓛 𝓜 w n p.block p.at α δ ys

  abbrev cells : Width → Place → List ℕ → SProp 𝓤
  cells w p xs = Cells 𝓛 𝓜 w p.block p.at xs

  -- So many numbers, which the caller owns.
  abbrev held : Width → Place → (n : ℕ) → List ℕ → SProp 𝓤
  held w p n xs = Held 𝓛 𝓜 w n p.block p.at xs

  lends : (s : Shape) (l : Lent) (j : ℕ) (w : Width) (p : Place) (xs : List ℕ) → Fits (memory s l w p xs)
      → ent 𝓤 (cells w p xs) (H.⇛ (ex 𝓤 (λ (α : ℕ). ex 𝓤 (λ (δ : GName). (Live 𝓛 𝓜 α ∗ Own s l j w p xs α δ) ∗ Back s l w p xs α δ))))
  unfolding Fits
  lends slice reads j w p xs f = lends_slice_read 𝓛 𝓜 j w xs p.block p.at (room w xs f)
  lends slice writes j w p xs f = lends_slice_write 𝓛 𝓜 j w xs p.block p.at (room w xs f)
  lends (array n) reads j w p xs f = via 𝓤 (held w p n xs) (held_in 𝓛 𝓜 w n p.block p.at xs f) (lends_read 𝓛 𝓜 j w n xs p.block p.at)
  lends (array n) writes j w p xs f = via 𝓤 (held w p n xs) (held_in 𝓛 𝓜 w n p.block p.at xs f) (lends_write 𝓛 𝓜 j w n xs p.block p.at)

  -- Memory that was read comes back as it was; of memory that was written, as many numbers.
  read_again : (s : Shape) (w : Width) (p : Place) (xs : List ℕ) (α : ℕ) (δ : GName) → ent 𝓤 (Live 𝓛 𝓜 α ∗ Back s reads w p xs α δ ∗ emp 𝓤) (H.⇛ (cells w p xs))
  read_again slice w p xs α δ = slice_read_back 𝓛 𝓜 w xs p.block p.at α δ
  read_again (array n) w p xs α δ = read_back 𝓛 𝓜 w n xs p.block p.at α δ

  abbrev size : Shape → List ℕ → ℕ
  size slice xs = length xs
  size (array n) xs = n

  written_again : (s : Shape) (w : Width) (p : Place) (xs ys : List ℕ) (α : ℕ) (δ : GName)
      → ent 𝓤 (Live 𝓛 𝓜 α ∗ Back s writes w p xs α δ ∗ End s w p xs ys α δ) (H.⇛ (held w p (size s xs) ys))
  written_again slice w p xs ys α δ = slice_write_back 𝓛 𝓜 w (length xs) ys p.block p.at α δ
  written_again (array n) w p xs ys α δ = write_back 𝓛 𝓜 w n ys p.block p.at α δ

  as_many : (s : Shape) (l : Lent) (w : Width) (p : Place) (xs ys : List ℕ) → Fits (memory s l w p xs) → length ys ≡ size s xs → (length xs ≡ length ys) × Fits (memory s l w p ys)
  unfolding Fits
  as_many slice l w p xs ys f e = (sym e, subst (λ (k : ℕ). k * bytes w < 2 ^ 63) (sym e) f)
  as_many (array n) l w p xs ys f e = (f ∙ sym e, e)

  -- The lifetimes, what the arguments own, what gives their memory back, and what is left of them after the call.
  abbrev pub Lives : (args : List Argument) → Names args → SProp 𝓤
  Lives [] ns = emp 𝓤
  Lives (number w n ∷ more) ns = Lives more ns
  Lives (memory s l w p xs ∷ more) ns = Live 𝓛 𝓜 ns.0.0 ∗ Lives more ns.1

  abbrev Number : Width → ℕ → SProp 𝓤
  Number w x = sem 𝓛 ((UInt w).own_val x (vint w x ∷ []))

  abbrev pub Owns : (j : ℕ) (args : List Argument) → Names args → SProp 𝓤
  Owns j [] ns = emp 𝓤
  Owns j (number w n ∷ more) ns = Number w n ∗ Owns j more ns
  Owns j (memory s l w p xs ∷ more) ns = Own s l j w p xs ns.0.0 ns.0.1 ∗ Owns (suc j) more ns.1

  abbrev pub Backs : (args : List Argument) → Names args → SProp 𝓤
  Backs [] ns = emp 𝓤
  Backs (number w n ∷ more) ns = Backs more ns
  Backs (memory s l w p xs ∷ more) ns = Back s l w p xs ns.0.0 ns.0.1 ∗ Backs more ns.1

  abbrev pub Ends : (args : List Argument) → Names args → Lasts args → SProp 𝓤
  Ends [] ns ys = emp 𝓤
  Ends (number w n ∷ more) ns ys = emp 𝓤 ∗ Ends more ns ys.1
  Ends (memory s reads w p xs ∷ more) ns ys = emp 𝓤 ∗ Ends more ns.1 ys.1
  Ends (memory s writes w p xs ∷ more) ns ys = End s w p xs ys.0 ns.0.0 ns.0.1 ∗ Ends more ns.1 ys.1

  -- In.
  none_in : (F : SProp 𝓤) → ent 𝓤 (emp 𝓤 ∗ F) ((emp 𝓤 ∗ emp 𝓤) ∗ emp 𝓤 ∗ F)
  none_in F =
      qed 𝓛 (raw (emp 𝓤) ∷ raw F ∷ []) ∵ use0 𝓛 (raw (emp 𝓤)) (id⊢ 𝓤 (emp 𝓤)) $ use0 𝓛 (raw (emp 𝓤)) (id⊢ 𝓤 (emp 𝓤)) $ join ! $ done !

  number_in : (N Ls Os R : SProp 𝓤) → ent 𝓤 (emp 𝓤) N → ent 𝓤 ((Ls ∗ Os) ∗ R) ((Ls ∗ (N ∗ Os)) ∗ R)
  number_in N Ls Os R h =
      qed 𝓛 ((raw Ls ⊛ raw Os) ∷ raw R ∷ []) ∵ split ! $ move ! (1 ∷ []) $ use0 𝓛 (raw N) h $ join ! $ move ! (1 ∷ 0 ∷ []) $ join ! $ done !

  rest_first : (P Q F : SProp 𝓤) → ent 𝓤 ((P ∗ Q) ∗ F) (Q ∗ (P ∗ F))
  rest_first P Q F = qed 𝓛 ((raw P ⊛ raw Q) ∷ raw F ∷ []) ∵ split ! $ move ! (1 ∷ 0 ∷ []) $ done !

  next_of : (X P Q F : SProp 𝓤) → ent 𝓤 (P ∗ Q ∗ (X ∗ F)) (X ∗ (P ∗ Q ∗ F))
  next_of X P Q F = qed 𝓛 (raw P ∷ raw Q ∷ (raw X ⊛ raw F) ∷ []) ∵ move ! (2 ∷ []) $ split ! $ move ! (0 ∷ 2 ∷ 3 ∷ 1 ∷ []) $ done !

  abbrev Passed : (j : ℕ) (args : List Argument) → Names args → SProp 𝓤 → Memory → Type 1
  Passed j args ns F σ = σ ⊨ (Lives args ns ∗ Owns j args ns) ∗ Backs args ns ∗ F

  all_in : (j : ℕ) (args : List Argument) → AllFit args → (F : SProp 𝓤) (σ : Memory) → σ ⊨ Owned 𝓤 H 𝓜 args ∗ F → ∥ ((ns : Names args) × Passed j args ns F σ) ∥₁
  unfolding AllFit Owned
  all_in j [] fit F σ q = ∣ (tt, sat_weaken 𝓤 H 𝓜 σ (none_in F) q) ∣₁
  all_in j (number w n ∷ more) fit F σ q =
      ∥∥₁_map (all_in j more fit.1 F σ q)
      (λ t. (
        t.0,
        sat_weaken 𝓤 H 𝓜 σ
            (number_in (Number w n) (Lives more t.0) (Owns j more t.0) (Backs more t.0 ∗ F) (uint_Makes 𝓛 w n (vint w n ∷ []) (refl, fit.0))) t.1,
      ))
  all_in j (memory s l w p xs ∷ more) fit F σ q =
      let P = cells w p xs in
      let O : (ℕ → GName → SProp 𝓤) = Own s l j w p xs in
      let B : (ℕ → GName → SProp 𝓤) = Back s l w p xs in
      ∥∥₁_elim (all_in (suc j) more fit.1 (P ∗ F) σ (sat_weaken 𝓤 H 𝓜 σ (rest_first P (Owned 𝓤 H 𝓜 more) F) q)) ∥∥₁_prop (λ t.
      ∥∥₁_map (lent_in 𝓛 𝓜 P O B (lends s l j w p xs fit.0) (Lives more t.0) (Owns (suc j) more t.0) (Backs more t.0) F σ
      (sat_weaken 𝓤 H 𝓜 σ (next_of P (Lives more t.0 ∗ Owns (suc j) more t.0) (Backs more t.0) F) t.1))
      (λ u. (((u.0, u.1), t.0), u.2)))

  -- Out.
  abbrev Kept : (args : List Argument) → Names args → Lasts args → SProp 𝓤 → SProp 𝓤
  Kept args ns ys F = (Lives args ns ∗ Ends args ns ys) ∗ Backs args ns ∗ F

  none_out : (F : SProp 𝓤) → ent 𝓤 ((emp 𝓤 ∗ emp 𝓤) ∗ emp 𝓤 ∗ F) (emp 𝓤 ∗ F)
  none_out F = snd∗ 𝓤 (emp 𝓤 ∗ emp 𝓤) (emp 𝓤 ∗ F)

  number_out : (Ls Zs R : SProp 𝓤) → ent 𝓤 ((Ls ∗ (emp 𝓤 ∗ Zs)) ∗ R) ((Ls ∗ Zs) ∗ R)
  number_out Ls Zs R = mono_l 𝓤 R (mono_r 𝓤 Ls (snd∗ 𝓤 (emp 𝓤) Zs))

  aside : (X P Q F : SProp 𝓤) → ent 𝓤 (X ∗ (P ∗ Q ∗ F)) (P ∗ Q ∗ (X ∗ F))
  aside X P Q F = qed 𝓛 (raw X ∷ raw P ∷ raw Q ∷ raw F ∷ []) ∵ move ! (0 ∷ 3 ∷ []) $ join ! $ move ! (1 ∷ 2 ∷ []) $ done !

  in_front : (Q P F : SProp 𝓤) → ent 𝓤 (Q ∗ (P ∗ F)) ((P ∗ Q) ∗ F)
  in_front Q P F = qed 𝓛 (raw Q ∷ raw P ∷ raw F ∷ []) ∵ move ! (1 ∷ 0 ∷ []) $ join ! $ done !

  -- What is there after the call: the memory at its last values, of the sizes that it had.
  abbrev pub There : (args : List Argument) → Lasts args → SProp 𝓤 → Memory → Type 1
  There args ys F σ = Alike args (after args ys) × AllFit (after args ys) × (σ ⊨ Owned 𝓤 H 𝓜 (after args ys) ∗ F)

  all_out : (args : List Argument) → AllFit args → (ns : Names args) (ys : Lasts args) (F : SProp 𝓤) (σ : Memory) → σ ⊨ Kept args ns ys F → ∥ There args ys F σ ∥₁
  unfolding AllFit Owned Alike blank
  all_out [] fit ns ys F σ q = ∣ (refl, tt, sat_weaken 𝓤 H 𝓜 σ (none_out F) q) ∣₁
  all_out (number w n ∷ more) fit ns ys F σ q =
      ∥∥₁_map (all_out more fit.1 ns ys.1 F σ (sat_weaken 𝓤 H 𝓜 σ (number_out (Lives more ns) (Ends more ns ys.1) (Backs more ns ∗ F)) q)) (λ t.
      (ap (λ (z : List Argument). number w n ∷ z) t.0, (fit.0, t.1), t.2))
  all_out (memory s reads w p xs ∷ more) fit ns ys F σ q =
      let P = cells w p xs in
      let B = Back s reads w p xs ns.0.0 ns.0.1 in
      let back = taken_out 𝓛 𝓜 P (emp 𝓤) B ns.0.0 (read_again s w p xs ns.0.0 ns.0.1) (Lives more ns.1) (Ends more ns.1 ys.1) (Backs more ns.1) F σ q in
      ∥∥₁_map (all_out more fit.1 ns.1 ys.1 (P ∗ F) σ
      (sat_weaken 𝓤 H 𝓜 σ (aside P (Lives more ns.1 ∗ Ends more ns.1 ys.1) (Backs more ns.1) F) back)) (λ t. (
        ap (λ (z : List Argument). memory s reads w p xs ∷ z) t.0,
        (fit.0, t.1),
        sat_weaken 𝓤 H 𝓜 σ (in_front (Owned 𝓤 H 𝓜 (after more ys.1)) P F) t.2,
      ))
  all_out (memory s writes w p xs ∷ more) fit ns ys F σ q =
      let P = held w p (size s xs) ys.0 in
      let long = sem 𝓛 (feq ℕ (length ys.0) (size s xs)) in
      let C = cells w p ys.0 in
      let B = Back s writes w p xs ns.0.0 ns.0.1 in
      let Z = End s w p xs ys.0 ns.0.0 ns.0.1 in
      let back = taken_out 𝓛 𝓜 P Z B ns.0.0 (written_again s w p xs ys.0 ns.0.0 ns.0.1) (Lives more ns.1) (Ends more ns.1 ys.1) (Backs more ns.1) F σ q in
      let others = (Lives more ns.1 ∗ Ends more ns.1 ys.1) ∗ Backs more ns.1 ∗ F in
      ∥∥₁_elim (front_fact 𝓛 𝓜 σ P others (length ys.0 ≡ size s xs) (fst∗ 𝓤 long C) back) ∥∥₁_prop (λ e.
      let fits = as_many s writes w p xs ys.0 fit.0 e in
      ∥∥₁_map (all_out more fit.1 ns.1 ys.1 (C ∗ F) σ
      (sat_weaken 𝓤 H 𝓜 σ (via 𝓤 (C ∗ others) (mono_l 𝓤 others (snd∗ 𝓤 long C)) (aside C (Lives more ns.1 ∗ Ends more ns.1 ys.1) (Backs more ns.1) F)) back)) (λ t. (
        (λ i. memory s writes w p (replicate (fits.0 i) 0) ∷ t.0 i),
        (fits.1, t.1),
        sat_weaken 𝓤 H 𝓜 σ (in_front (Owned 𝓤 H 𝓜 (after more ys.1)) C F) t.2,
      )))

  -- What there is after a call from σ, with F beside what is lent: this result, and this in the memory that was lent.
  abbrev pub Gone : Routine → (before : List Argument) → Memory → SProp 𝓤 → (result : Val) (last : List Argument) → Memory → Type 1
  Gone function before σ F result last σ' = ends function (values_of before) σ result σ' × Alike before last × AllFit last × (σ' ⊨ Owned 𝓤 H 𝓜 last ∗ F)

  -- What a call leaves: from any memory in which it can be made it ends so.
  abbrev pub Leaves : Routine → (before : List Argument) → (result : Val) → (last : List Argument) → Type 2
  Leaves function before result last =
      AllFit before → (σ : Memory) (F : SProp 𝓤) → σ ⊨ Owned 𝓤 H 𝓜 before ∗ F → ∥ ((σ' : Memory) × Gone function before σ F result last σ') ∥₁

  -- It may be said by other names.
  pub so : (function : Routine) (before : List Argument) (σ : Memory) (F : SProp 𝓤) (v u : Val) (given last : List Argument) (σ' : Memory) → v ≡ u → given ≡ last
      → Gone function before σ F v given σ' → (σ'' : Memory) × Gone function before σ F u last σ''
  so function before σ F v u given last σ' e l g = (σ', subst (λ (z : Val × List Argument). Gone function before σ F z.0 z.1 σ') (λ i. (e i, l i)) g)

  -- So a contract that is met says it, of a signature that takes these arguments: its fact φ holds of the result and the last values.
  module _ (𝓡 : Running 𝓤 H 𝓜) (S : Signature) (ρ : Routine) (c : Spec 𝓤 S) (met : Meets 𝓛 S (𝓡.returns ρ) c) (ks : Kepts S.params) (args : List Argument)
      (x : Names args → Bound 𝓛 S) (g : (ns : Names args) → (c (x ns).0 (x ns).3).ghost)
      (φ : (ns : Names args) → Res S (x ns).0 → Outs (x ns).0 S.params ks → Type 0)
      (says : (ns : Names args) (t : Res S (x ns).0) → ent 𝓤 ((c (x ns).0 (x ns).3).ensures (g ns) t) (exits 𝓛 S ks (x ns).0 (x ns).3 (λ e. fact 𝓤 (φ ns t e))))
      (values : (ns : Names args) → passed 𝓛 S (x ns) ≡ values_of args)
      (enters : (ns : Names args) → ent 𝓤 ((Lives args ns ∗ Owns 0 args ns) ∗ emp 𝓤) ((triple_of 𝓛 S c).pre (x ns, g ns)))
      (lasts : (ns : Names args) → Fins (x ns).0 S.params ks (x ns).3 → Lasts args)
      (left : (ns : Names args) (ws : Fins (x ns).0 S.params ks (x ns).3)
      → ent 𝓤 (Left 𝓛 𝓜 𝓡 S ρ c met (x ns) (g ns) ks (φ ns) (says ns) ws) (Lives args ns ∗ Ends args ns (lasts ns ws))) where
    abbrev Said : SProp 𝓤 → Memory → Type 1
    Said F σ =
        (ns : Names args) × (v : Val) × (σ' : Memory) × (t : Res S (x ns).0) × (ws : Fins (x ns).0 S.params ks (x ns).3) × ends ρ (values_of args) σ v σ'
        × Is (type_at S.result (x ns).0) t (v ∷ []) × φ ns t (outs (x ns).0 S.params ks (x ns).3 ws) × There args (lasts ns ws) F σ'

    beside : (P Q F : SProp 𝓤) → ent 𝓤 (P ∗ Q ∗ F) ((P ∗ emp 𝓤) ∗ (Q ∗ F))
    beside P Q F = mono_l 𝓤 (Q ∗ F) (via 𝓤 (emp 𝓤 ∗ P) (emp∗ 𝓤 P) (comm∗ 𝓤 (emp 𝓤) P))

    pub said : AllFit args → (σ : Memory) (F : SProp 𝓤) → σ ⊨ Owned 𝓤 H 𝓜 args ∗ F → ∥ Said F σ ∥₁
    said fit σ F s =
        ∥∥₁_elim (all_in 0 args fit F σ s) ∥∥₁_prop (λ t.
        let ns = t.0 in
        let P = Lives args ns ∗ Owns 0 args ns in
        let G = Backs args ns ∗ F in
        ∥∥₁_elim (leaves 𝓛 𝓜 𝓡 S ρ c met (x ns) (g ns) ks (φ ns) (says ns) σ G
        (sat_weaken 𝓤 H 𝓜 σ (via 𝓤 ((P ∗ emp 𝓤) ∗ G) (beside P (Backs args ns) F) (mono_l 𝓤 G (enters ns))) t.1)) ∥∥₁_prop (λ q.
        ∥∥₁_map (all_out args fit ns (lasts ns q.3) F q.1 (sat_weaken 𝓤 H 𝓜 q.1 (mono_l 𝓤 G (left ns q.3)) q.7)) (λ there.
        (ns, q.0, q.1, q.2, q.3, subst (λ (vs : List Val). ends ρ vs σ q.0 q.1) (values ns) q.4, q.5, q.6, there))))
