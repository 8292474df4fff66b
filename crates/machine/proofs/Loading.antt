-- What a call gave is what it leaves, for every model: a call from a given memory ends, and whatever it returned and the machine then loads from the memory that was lent is
-- that. Assumes nothing.
use Prim.Native.Nat.{ℕ, ◌+◌}
use native.Mathlib.Omega.{arith}
use mathlib.Core.List.{List, [], ◌∷◌, map}
use mathlib.Core.Option.{some as just}
use mathlib.Core.Path.{◌≡◌, refl, sym, ap, subst, ◌∙◌}
use mathlib.Core.Logic.{∥∥₁_prop, ∥∥₁_elim, ∥∥₁_map}
use lib.ListN.{length, replicate, length-replicate}
use seplogic.Ra.Ura.{Ura}
use base.Fraction.{full_share}
use mir.Syntax.{Width, ty_int}
use mir.Val.{Val, vint, bytes}
use base.Logic.{SProp, sep, guard, via, assoc∗, assoc', mono_l, fst∗, snd∗, comm∗, guard_e}
use prog.Memory.{Memory, load_m}
use prog.Wp.{run}
use prog.Model.{Model}
use prog.Routine.{Routine, ends-one}
use types.Logic.{Logic}
use contract.Monad.{fact_i}
use contract.Adequate.{Satisfies, sat_weaken, sat_fact}
use Rattle.machine.specs.Calls.{Place, reads, writes, Argument, number, memory, values_of, LoadsFrom, Loads, blank, Alike, Owned, Callable, Ended}
use Rattle.machine.proofs.Passing.{Leaves}

-- So many loads give one list.
loads_one : (w : Width) (σ : Memory) (b o : ℕ) (xs ys : List ℕ) → length xs ≡ length ys → LoadsFrom σ w b o xs → LoadsFrom σ w b o ys → xs ≡ ys
unfolding LoadsFrom
loads_one w σ b o [] [] e l m = refl
loads_one w σ b o [] (y ∷ ys) e l m = absurd (omega arith)
loads_one w σ b o (x ∷ xs) [] e l m = absurd (omega arith)
loads_one w σ b o (x ∷ xs) (y ∷ ys) e l m =
    let loaded : just (vint w x) ≡ just (vint w y) = sym l.0 ∙ m.0 in
    let first : x ≡ y = cc in
    let rest = loads_one w σ b (o + bytes w) xs ys (omega arith) l.1 m.1 in
    λ i. first i ∷ rest i

-- So of arguments that are alike.
pub all_one : (σ : Memory) (xs ys : List Argument) → Alike xs ys → Loads σ xs → Loads σ ys → xs ≡ ys
unfolding Loads Alike blank
all_one σ [] [] e l m = refl
all_one σ [] (y ∷ ys) e l m = let z : ◌≡◌ {A = ℕ} 0 1 = cc in absurd (omega arith)
all_one σ (x ∷ xs) [] e l m = let z : ◌≡◌ {A = ℕ} 0 1 = cc in absurd (omega arith)
all_one σ (number w n ∷ xs) (number v k ∷ ys) e l m =
    let same : number w n ≡ number v k = cc in
    let rest : map blank xs ≡ map blank ys = cc in
    let more = all_one σ xs ys rest l m in
    λ i. same i ∷ more i
all_one σ (number w n ∷ xs) (memory t reads v q zs ∷ ys) e l m = let z : ◌≡◌ {A = ℕ} 0 1 = cc in absurd (omega arith)
all_one σ (number w n ∷ xs) (memory t writes v q zs ∷ ys) e l m = let z : ◌≡◌ {A = ℕ} 0 1 = cc in absurd (omega arith)
all_one σ (memory s reads w p us ∷ xs) (number v k ∷ ys) e l m = let z : ◌≡◌ {A = ℕ} 0 1 = cc in absurd (omega arith)
all_one σ (memory s writes w p us ∷ xs) (number v k ∷ ys) e l m = let z : ◌≡◌ {A = ℕ} 0 1 = cc in absurd (omega arith)
all_one σ (memory s reads w p us ∷ xs) (memory t writes v q zs ∷ ys) e l m = let z : ◌≡◌ {A = ℕ} 0 1 = cc in absurd (omega arith)
all_one σ (memory s writes w p us ∷ xs) (memory t reads v q zs ∷ ys) e l m = let z : ◌≡◌ {A = ℕ} 0 1 = cc in absurd (omega arith)
all_one σ (memory s reads w p us ∷ xs) (memory t reads v q zs ∷ ys) e l m =
    let same : memory s reads w p us ≡ memory t reads v q zs = cc in
    let rest : map blank xs ≡ map blank ys = cc in
    let more = all_one σ xs ys rest l.1 m.1 in
    λ i. same i ∷ more i
all_one σ (memory s writes w p us ∷ xs) (memory t writes v q zs ∷ ys) e l m =
    let shapes : s ≡ t = cc in
    let widths : w ≡ v = cc in
    let places : p ≡ q = cc in
    let blanks : replicate {A = ℕ} (length us) 0 ≡ replicate (length zs) 0 = cc in
    let rest : map blank xs ≡ map blank ys = cc in
    let long = sym (length-replicate _ _) ∙ ap length blanks ∙ length-replicate _ _ in
    let loaded = subst (λ (z : Width × Place). LoadsFrom σ z.0 z.1.block z.1.at us) (λ i. (widths i, places i)) l.0 in
    let cells = loads_one v σ q.block q.at us zs long loaded m.0 in
    let more = all_one σ xs ys rest l.1 m.1 in
    λ i. memory (shapes i) writes (widths i) (places i) (cells i) ∷ more i

module _ {M : Type 1} {𝓤 : Ura M} (𝓛 : Logic 𝓤) (𝓜 : Model 𝓤 𝓛.H) where
  open 𝓛 use {H}

  abbrev ◌∗◌ : SProp 𝓤 → SProp 𝓤 → SProp 𝓤
  P ∗ Q = sep 𝓤 P Q

  abbrev ◌⊨◌ : Memory → SProp 𝓤 → Type 1
  σ ⊨ P = Satisfies 𝓤 H 𝓜 σ P

  infixr 35 ◌∗◌
  infix 26 ◌⊨◌
  -- Where a block holds numbers of a width, the machine loads each.
  load_one : (w : Width) (σ : Memory) (x : ℕ) (b o : ℕ) (F : SProp 𝓤) → σ ⊨ (H.at full_share (ty_int w) b o (vint w x)) ∗ F → ∥ load_m σ (ty_int w) b o ≡ just (vint w x) ∥₁
  load_one w σ x b o F s =
      let cell : SProp 𝓤 = H.at full_share (ty_int w) b o (vint w x) in
      let loaded : Type 0 = load_m σ (ty_int w) b o ≡ just (vint w x) in
      sat_fact 𝓤 H 𝓜 σ (cell ∗ F) loaded
      (via 𝓤 ((𝓜.mem σ ∗ cell) ∗ F) (assoc' 𝓤 (𝓜.mem σ) cell F)
      (via 𝓤 (𝓜.mem σ ∗ cell) (fst∗ 𝓤 (𝓜.mem σ ∗ cell) F)
      (via 𝓤 (guard 𝓤 loaded (𝓜.mem σ ∗ cell)) (𝓜.at_load σ full_share (ty_int w) b o (vint w x))
      (guard_e 𝓤 loaded (𝓜.mem σ ∗ cell) (λ e. fact_i 𝓤 loaded (𝓜.mem σ ∗ cell) e))))) s

  loads_cells : (w : Width) (xs : List ℕ) (b o : ℕ) (σ : Memory) (F : SProp 𝓤) → σ ⊨ run 𝓤 H full_share w b o xs ∗ F → ∥ LoadsFrom σ w b o xs ∥₁
  unfolding LoadsFrom
  loads_cells w [] b o σ F s = ∣ tt ∣₁
  loads_cells w (x ∷ xs) b o σ F s =
      let cell : SProp 𝓤 = H.at full_share (ty_int w) b o (vint w x) in
      let rest : SProp 𝓤 = run 𝓤 H full_share w b (o + bytes w) xs in
      ∥∥₁_elim (load_one w σ x b o (rest ∗ F) (sat_weaken 𝓤 H 𝓜 σ (assoc∗ 𝓤 cell rest F) s)) ∥∥₁_prop (λ e.
      ∥∥₁_map (loads_cells w xs b (o + bytes w) σ F (sat_weaken 𝓤 H 𝓜 σ (mono_l 𝓤 F (snd∗ 𝓤 cell rest)) s)) (λ more. (e, more)))

  -- So of all that is owned.
  pub loads_all : (args : List Argument) (σ : Memory) (F : SProp 𝓤) → σ ⊨ Owned 𝓤 H 𝓜 args ∗ F → ∥ Loads σ args ∥₁
  unfolding Owned Loads
  loads_all [] σ F s = ∣ tt ∣₁
  loads_all (number w n ∷ more) σ F s = loads_all more σ F s
  loads_all (memory t l w p xs ∷ more) σ F s =
      let first : SProp 𝓤 = run 𝓤 H full_share w p.block p.at xs in
      let rest = Owned 𝓤 H 𝓜 more in
      ∥∥₁_elim (loads_cells w xs p.block p.at σ (rest ∗ F) (sat_weaken 𝓤 H 𝓜 σ (assoc∗ 𝓤 first rest F) s)) ∥∥₁_prop (λ e.
      ∥∥₁_map (loads_all more σ F (sat_weaken 𝓤 H 𝓜 σ (mono_l 𝓤 F (snd∗ 𝓤 first rest)) s)) (λ m. (e, m)))

  module _ (function : Routine) (before : List Argument) (result : Val) (last : List Argument) (leaves : Leaves 𝓛 𝓜 function before result last) where
    -- A call from a given memory ends,
    pub ended : (others : List Argument) (from : Callable 𝓤 H 𝓜 before others) → ∥ Ended 𝓤 H 𝓜 function from result last ∥₁
    ended others from =
        let there = Owned 𝓤 H 𝓜 last in
        let beside = Owned 𝓤 H 𝓜 others in
        ∥∥₁_elim (leaves from.fit from.memory beside from.owned) ∥∥₁_prop (λ q.
        ∥∥₁_elim (loads_all last q.0 beside q.1.3) ∥∥₁_prop (λ l.
        ∥∥₁_map (loads_all others q.0 there (sat_weaken 𝓤 H 𝓜 q.0 (comm∗ 𝓤 there beside) q.1.3)) (λ m. record {
          after = record { memory = q.0; owned = q.1.3; fit = q.1.2 };
          ran = q.1.0;
          alike = q.1.1;
          loads = l;
          beside = m;
        })))

    -- and whatever it gave is this.
    pub fixed : (others : List Argument) (from : Callable 𝓤 H 𝓜 before others) (v : Val) (given : List Argument) → Ended 𝓤 H 𝓜 function from v given
        → ∥ ((v ≡ result) × (given ≡ last)) ∥₁
    unfolding Alike
    fixed others from v given e =
        ∥∥₁_map (ended others from) (λ d.
        let one : ◌≡◌ {A = Val × Memory} (v, e.after.memory) (result, d.after.memory) =
        ends-one function (values_of before) from.memory (v, e.after.memory) (result, d.after.memory) e.ran d.ran in
        let there : Loads d.after.memory given = subst (λ (z : Val × Memory). Loads z.1 given) one e.loads in
        (ap (λ (z : Val × Memory). z.0) one, all_one d.after.memory given last (sym e.alike ∙ d.alike) there d.loads))
