-- What a contract gives of the machine, for every model: from a memory in which the function may be called it ends, and what it leaves is what the contract says. Assumes
-- nothing.
use mathlib.Core.List.{[], ◌∷◌}
use mathlib.Core.Logic.{∥∥₁_prop, ∥∥₁_elim, ∥∥₁_map}
use seplogic.Ra.Ura.{Ura}
use mir.Val.{Val}
use base.Logic.{SProp, ent, sep, ex, via, mono_l, fst∗, snd∗}
use prog.Memory.{Memory}
use prog.Model.{Model}
use prog.Routine.{Routine, ends, any_callee}
use types.Logic.{Logic, sem}
use types.Kit.{raw, ◌⊛◌, some, ◌$◌, ◌∵◌, !, qed, move, keep, use1, split, join, pick, show, done}
use contract.Monad.{fact}
use contract.Running.{Running, strict, alone}
use contract.Adequate.{Satisfies, sat_weaken, sat_fact, sat_ex∗, sat_⇛}
use denote.Laws.{Is, shows}
use denote.Signature.{Signature, type_at}
use denote.Triple.Bound.{Bound, passed}
use denote.Triple.Entry.{Res, alive}
use denote.Triple.End.{Kepts, Fins, Outs, outs, lasts_of}
use denote.Triple.Spec.{Spec, Back, triple_of, Meets, exits}
use denote.Triple.Adequate.{adequate}

module _ {M : Type 1} {𝓤 : Ura M} (𝓛 : Logic 𝓤) (𝓜 : Model 𝓤 𝓛.H) where
  open 𝓛 use {H}

  abbrev ◌∗◌ : SProp 𝓤 → SProp 𝓤 → SProp 𝓤
  P ∗ Q = sep 𝓤 P Q

  infixr 35 ◌∗◌
  -- A fact that what stands in front gives.
  pub front_fact : (σ : Memory) (P F : SProp 𝓤) (φ : Type 0) → ent 𝓤 P (fact 𝓤 φ) → Satisfies 𝓤 H 𝓜 σ (P ∗ F) → ∥ φ ∥₁
  front_fact σ P F φ h s = sat_fact 𝓤 H 𝓜 σ (P ∗ F) φ (via 𝓤 (P ∗ F) (snd∗ 𝓤 (𝓜.mem σ) (P ∗ F)) (via 𝓤 P (fst∗ 𝓤 P F) h)) s

  -- What a run leaves: from a memory in which the call may be made, with F beside that, the routine ends; what it returns stands for a value, the contract's fact φ holds of it
  -- and of what the parameters are at exit, and the lifetimes and the last values are there for whoever lent them, with F.
  module _ (𝓡 : Running 𝓤 H 𝓜) (S : Signature) (ρ : Routine) (c : Spec 𝓤 S) (met : Meets 𝓛 S (𝓡.returns ρ) c) (x : Bound 𝓛 S) (g : (c x.0 x.3).ghost) (ks : Kepts S.params)
      (φ : Res S x.0 → Outs x.0 S.params ks → Type 0)
      (says : (t : Res S x.0) → ent 𝓤 ((c x.0 x.3).ensures g t) (exits 𝓛 S ks x.0 x.3 (λ e. fact 𝓤 (φ t e)))) where
    abbrev pub Left : Fins x.0 S.params ks x.3 → SProp 𝓤
    Left ws = alive 𝓛 S x.0 x.1 ∗ sem 𝓛 (lasts_of x.0 S.params ks x.3 ws)

    abbrev told : Res S x.0 → Fins x.0 S.params ks x.3 → SProp 𝓤
    told t ws = Left ws ∗ fact 𝓤 (φ t (outs x.0 S.params ks x.3 ws))

    abbrev returned : Val → Res S x.0 → SProp 𝓤
    returned v t = Back 𝓛 S x v t ∗ (c x.0 x.3).ensures g t

    -- What is handed back shows that the machine value is one of the result,
    is_value : (v : Val) (t : Res S x.0) → ent 𝓤 (returned v t) (fact 𝓤 (Is (type_at S.result x.0) t (v ∷ [])))
    is_value v t =
        let own = sem 𝓛 ((type_at S.result x.0).own_val t (v ∷ [])) in
        via 𝓤 (Back 𝓛 S x v t) (fst∗ 𝓤 (Back 𝓛 S x v t) ((c x.0 x.3).ensures g t))
        (via 𝓤 own (snd∗ 𝓤 (alive 𝓛 S x.0 x.1) own) (shows 𝓛 (type_at S.result x.0) t (v ∷ [])))

    -- and leaves the lifetimes, the last values and the contract's fact.
    told_all : (v : Val) (t : Res S x.0) → ent 𝓤 (returned v t) (ex 𝓤 (told t))
    told_all v t =
        let own = sem 𝓛 ((type_at S.result x.0).own_val t (v ∷ [])) in
        let live = alive 𝓛 S x.0 x.1 in
        let last : (Fins x.0 S.params ks x.3 → SProp 𝓤) = λ ws. sem 𝓛 (lasts_of x.0 S.params ks x.3 ws) in
        let fact' : (Fins x.0 S.params ks x.3 → SProp 𝓤) = λ ws. fact 𝓤 (φ t (outs x.0 S.params ks x.3 ws)) in
        qed 𝓛 ((raw live ⊛ raw own) ∷ raw ((c x.0 x.3).ensures g t) ∷ []) ∵ split ! $ keep ! (2 ∷ 0 ∷ []) $
        use1 𝓛 (some (λ (ws : Fins x.0 S.params ks x.3). raw (last ws) ⊛ raw (fact' ws))) (says t) $ pick ! (λ ws. split ! $
        show ! (told t) ws $ move ! (2 ∷ 0 ∷ []) $ join ! $ done !)

    pub leaves : (σ : Memory) (F : SProp 𝓤) → Satisfies 𝓤 H 𝓜 σ ((triple_of 𝓛 S c).pre (x, g) ∗ F)
        → ∥ ((v : Val) × (σ' : Memory) × (t : Res S x.0) × (ws : Fins x.0 S.params ks x.3) × ends ρ (passed 𝓛 S x) σ v σ'
        × Is (type_at S.result x.0) t (v ∷ []) × φ t (outs x.0 S.params ks x.3 ws) × Satisfies 𝓤 H 𝓜 σ' (Left ws ∗ F)) ∥₁
    unfolding alone
    leaves σ F s =
        ∥∥₁_elim (adequate 𝓤 H 𝓜 (alone 𝓤 H 𝓜 (strict 𝓤 H 𝓜 𝓡) ρ) ((λ s o. o), tt) any_callee (triple_of 𝓛 S c) met (x, g) σ F s) ∥∥₁_prop (λ q.
        ∥∥₁_elim (sat_ex∗ 𝓤 H 𝓜 q.2 (returned q.1) F (sat_⇛ 𝓤 H 𝓜 q.2 (ex 𝓤 (returned q.1)) F q.4)) ∥∥₁_prop (λ t.
        ∥∥₁_elim (front_fact q.2 (returned q.1 t.0) F (Is (type_at S.result x.0) t.0 (q.1 ∷ [])) (is_value q.1 t.0) t.1) ∥∥₁_prop (λ i.
        ∥∥₁_elim (sat_ex∗ 𝓤 H 𝓜 q.2 (told t.0) F (sat_weaken 𝓤 H 𝓜 q.2 (mono_l 𝓤 F (told_all q.1 t.0)) t.1)) ∥∥₁_prop (λ ws.
        let fact' = fact 𝓤 (φ t.0 (outs x.0 S.params ks x.3 ws.0)) in
        ∥∥₁_map (front_fact q.2 (told t.0 ws.0) F (φ t.0 (outs x.0 S.params ks x.3 ws.0)) (snd∗ 𝓤 (Left ws.0) fact') ws.1) (λ f.
        (q.1, q.2, t.0, ws.0, (q.0, q.3), i, f, sat_weaken 𝓤 H 𝓜 q.2 (mono_l 𝓤 F (fst∗ 𝓤 (Left ws.0) fact')) ws.1))))))
