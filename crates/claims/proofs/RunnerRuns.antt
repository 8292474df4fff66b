-- The runner that C links, for every model: whatever a call did is what the definitions say, and from every memory that holds a record each call can be made, once there is
-- memory for what else it is lent. Assumes nothing.
use Prim.Native.Nat.{ℕ, zero, suc, ◌*◌, ◌<◌, ◌^◌}
use native.Mathlib.Omega.{arith}
use mathlib.Core.List.{List, [], ◌∷◌, ◌++◌}
use mathlib.Core.Path.{◌≡◌, refl, sym, ap, subst, ◌∙◌}
use mathlib.Core.Logic.{∥∥₁_prop, ∥∥₁_elim, ∥∥₁_map}
use lib.ListN.{length, get_or, replicate, length-replicate}
use seplogic.Ra.Ura.{Ura}
use base.Fraction.{full_share}
use mir.Syntax.{w8}
use base.Logic.{SProp, ent, sep, emp, via, assoc∗, assoc', comm∗, mono_l, mono_r, fst∗, snd∗, emp∗}
use prog.Memory.{Memory}
use prog.Wp.{run}
use prog.Model.{Model}
use types.Logic.{Logic}
use contract.Adequate.{Satisfies, sat_weaken}
use Rattle.lists.specs.Lists.{AllUnder}
use Rattle.machine.specs.Calls.{Place, writes, Argument, number, memory, Fits, AllFit, Owned, Callable}
use Rattle.machine.proofs.Blocks.{AllSmall, placed, laid}
use Rattle.format.specs.Format.{Answer, gives, refused, reading}
use Rattle.reader.specs.Answers.{without_value}
use Rattle.routine.specs.Memory.{head_most, node_most, set_most}
use Rattle.runner.specs.declared.calls.Record.{Record}
use Rattle.runner.specs.Records.{next_on, report_on, record_after}
use Rattle.runner.specs.Calls as runner
use Rattle.runner.specs.Calls.{Form, own, lent, Call, CallAnswer, CallFits, done_or, told_answer, answer_on, record_left}
use Rattle.runner.proofs.ListLaws.{RunnerContracts, Going}
use Rattle.recovery.specs.Arguments.{Tables, bytes_at, lent_tables, record_at, told_lent}
use Rattle.claims.specs.Library.{Library, Gave, ToLoad, AfterLoad, ToNext, AfterNext, ToReport, AfterReport, EveryCallEnds}
use Rattle.claims.specs.Terms.{loaded_as, told_as, reported_as}
use Rattle.claims.specs.Linked.{Functions, loading, telling, reporting, InMemory, Does, linked}
use Rattle.claims.proofs.CallLaws.{Laws}
use Rattle.claims.proofs.FunctionRuns as functions

-- An answer is done or refused without its value as with it.
done_without : {A : Type 0} (a : Answer A) → done_or (without_value a) ≡ done_or a
unfolding done_or without_value
done_without (gives x) = refl
done_without (refused k) = refl

-- The calls by the definitions.
load_as : (form : Form) (r : Record) (x : ToLoad) (y : AfterLoad) → y ≡ loaded_as form x
    → (done_or y.answer ≡ answer_on r (runner.load x.sheet)) × (y.kept ≡ record_left r (runner.load x.sheet))
unfolding loaded_as answer_on record_left
load_as form r x y e = (ap (λ (z : AfterLoad). done_or z.answer) e ∙ done_without (reading x.sheet), ap (λ (z : AfterLoad). z.kept) e)

next_as : (form : Form) (r : Record) (x : ToNext) (y : AfterNext) → x.kept ≡ r → y ≡ told_as form x → (told_answer y.answer ≡ answer_on r runner.next) × (y.kept ≡ record_left r runner.next)
unfolding told_as answer_on record_left
next_as form r x y s e = (ap (λ (z : AfterNext). told_answer z.answer) e ∙ ap (λ (q : Record). told_answer (next_on q)) s, ap (λ (z : AfterNext). z.kept) e ∙ s)

report_as : (form : Form) (r : Record) (x : ToReport) (y : AfterReport) → x.kept ≡ r → y ≡ reported_as form x
    → (done_or y.answer ≡ answer_on r (runner.report x.reply)) × (y.kept ≡ record_left r (runner.report x.reply))
unfolding reported_as answer_on record_left
report_as form r x y s e = (
  ap (λ (z : AfterReport). done_or z.answer) e ∙ done_without (report_on x.kept x.reply) ∙ ap (λ (q : Record). done_or (report_on q x.reply)) s,
  ap (λ (z : AfterReport). z.kept) e ∙ ap (λ (q : Record). record_after q x.reply) s,
)

-- Memory of zeros, for what a call is lent beside the record.
pub zeros_under : (m : ℕ) → 0 < m → (n : ℕ) → AllUnder m (replicate n 0)
unfolding AllUnder
zeros_under m h zero = tt
zeros_under m h (suc n) = (h, zeros_under m h n)

abbrev pub zero_tables : Tables
zero_tables = record { heads = replicate (3 * head_most) 0; nodes = replicate (3 * node_most) 0; sets = replicate (4 * set_most) 0 }

abbrev nowhere : Place
nowhere = record { block = 0; at = 0 }

tables_small : AllSmall (lent_tables nowhere nowhere nowhere zero_tables)
unfolding AllSmall
tables_small = (zeros_under (2 ^ 16) (omega arith) (3 * head_most), (zeros_under (2 ^ 16) (omega arith) (3 * node_most), (zeros_under (2 ^ 64) (omega arith) (4 * set_most), tt)))

module _ {M : Type 1} {𝓤 : Ura M} (𝓛 : Logic 𝓤) (𝓜 : Model 𝓤 𝓛.H) (fs : Functions) (laws : Laws 𝓛 𝓜 fs) where
  open 𝓛 use {H}

  abbrev library : Library {1}
  library = linked 𝓤 H 𝓜 fs

  pub runner_contracts : RunnerContracts library.runner
  unfolding Gave
  runner_contracts = record { answered = go }
    where
      go : (form : Form) (c : Call) (k : InMemory 𝓤 H 𝓜) (a : CallAnswer) (l : InMemory 𝓤 H 𝓜) → Does 𝓤 H 𝓜 fs form c k a l
          → (a ≡ answer_on k.kept c) × (l.kept ≡ record_left k.kept c)
      go form c k a l (Does.load f x y call gave same b) = let w = load_as form k.kept x y (functions.load_fixed 𝓛 𝓜 fs laws form x y (call, gave)) in (w.0, b.left ∙ w.1)
      go form c k a l (Does.next f x y call gave same b) = let w = next_as form k.kept x y same (functions.next_fixed 𝓛 𝓜 fs laws form x y (call, gave)) in (w.0, b.left ∙ w.1)
      go form c k a l (Does.report f x y call gave same b) = let w = report_as form k.kept x y same (functions.report_fixed 𝓛 𝓜 fs laws form x y (call, gave)) in (w.0, b.left ∙ w.1)

  abbrev ◌∗◌ : SProp 𝓤 → SProp 𝓤 → SProp 𝓤
  P ∗ Q = sep 𝓤 P Q

  abbrev ◌⊨◌ : Memory → SProp 𝓤 → Type 1
  σ ⊨ P = Satisfies 𝓤 H 𝓜 σ P

  abbrev owns : List Argument → SProp 𝓤
  owns = Owned 𝓤 H 𝓜

  infixr 35 ◌∗◌
  infix 26 ◌⊨◌
  -- Pieces one behind the other, and those in front.
  joined : (xs ys : List Argument) → ent 𝓤 (owns xs ∗ owns ys) (owns (xs ++ ys))
  unfolding Owned
  joined [] ys = snd∗ 𝓤 (emp 𝓤) (owns ys)
  joined (number w n ∷ xs) ys = joined xs ys
  joined (memory t l w p zs ∷ xs) ys =
      let P = run 𝓤 H full_share w p.block p.at zs in
      via 𝓤 (P ∗ owns xs ∗ owns ys) (assoc∗ 𝓤 P (owns xs) (owns ys)) (mono_r 𝓤 P (joined xs ys))

  nothing : (P : SProp 𝓤) → ent 𝓤 P (emp 𝓤)
  nothing P = via 𝓤 (emp 𝓤 ∗ P) (emp∗ 𝓤 P) (fst∗ 𝓤 (emp 𝓤) P)

  in_front : (xs ys : List Argument) → ent 𝓤 (owns (xs ++ ys)) (owns xs)
  unfolding Owned
  in_front [] ys = nothing (owns ys)
  in_front (number w n ∷ xs) ys = in_front xs ys
  in_front (memory t l w p zs ∷ xs) ys = mono_r 𝓤 (run 𝓤 H full_share w p.block p.at zs) (in_front xs ys)

  -- More pieces behind those that are owned, or before them.
  behind : (xs ys : List Argument) → AllSmall ys → (σ : Memory) (R : SProp 𝓤) → σ ⊨ owns xs ∗ R → ∥ ((σ' : Memory) × (p : ℕ → Place) × (σ' ⊨ owns (xs ++ placed ys p) ∗ R)) ∥₁
  behind xs ys h σ R s =
      ∥∥₁_map (laid 𝓛 𝓜 ys h σ (owns xs ∗ R) s) (λ q.
      let Y = owns (placed ys q.1) in (
        q.0,
        q.1,
        sat_weaken 𝓤 H 𝓜 q.0
            (via 𝓤 ((Y ∗ owns xs) ∗ R) (assoc' 𝓤 Y (owns xs) R) (mono_l 𝓤 R (via 𝓤 (owns xs ∗ Y) (comm∗ 𝓤 Y (owns xs)) (joined xs (placed ys q.1))))) q.2,
      ))

  before : (xs ys : List Argument) → AllSmall ys → (σ : Memory) (R : SProp 𝓤) → σ ⊨ owns xs ∗ R → ∥ ((σ' : Memory) × (p : ℕ → Place) × (σ' ⊨ owns (placed ys p ++ xs) ∗ R)) ∥₁
  before xs ys h σ R s =
      ∥∥₁_map (laid 𝓛 𝓜 ys h σ (owns xs ∗ R) s) (λ q.
      let Y = owns (placed ys q.1) in
      (q.0, q.1, sat_weaken 𝓤 H 𝓜 q.0 (via 𝓤 ((Y ∗ owns xs) ∗ R) (assoc' 𝓤 Y (owns xs) R) (mono_l 𝓤 R (joined (placed ys q.1) xs))) q.2))

  -- The record lies where it lay, whatever else there is.
  abbrev Lies : (i j m : Place) → Record → Memory → Type 1
  Lies i j m r σ = (lies : Callable 𝓤 H 𝓜 (record_at writes writes i j m r) []) × (lies.memory ≡ σ)

  lying : (i j m : Place) (r : Record) (ys : List Argument) (σ : Memory) (R : SProp 𝓤) → AllFit (record_at writes writes i j m r) → σ ⊨ owns (record_at writes writes i j m r ++ ys) ∗ R
      → Lies i j m r σ
  unfolding Owned
  lying i j m r ys σ R fit s =
      let xs = record_at writes writes i j m r in
      (record { memory = σ; owned = sat_weaken 𝓤 H 𝓜 σ (via 𝓤 (owns xs ∗ R) (mono_l 𝓤 R (in_front xs ys)) (mono_r 𝓤 (owns xs) (nothing R))) s; fit = fit }, refl)

  -- What keeps a record at the places at which k keeps one.
  abbrev keeps : (k : InMemory 𝓤 H 𝓜) (r : Record) (σ : Memory) → Lies (k.place 0) (k.place 1) (k.place 2) r σ → InMemory 𝓤 H 𝓜
  keeps k r σ lies = record { kept = r; place = k.place; others = []; lies = lies.0 }

  abbrev these : List Place → ℕ → Place
  these ps i = get_or ps i nowhere

  -- From a memory that holds a record a call with these arguments can be made, in some memory in which the record lies where it lay.
  abbrev Ready : (k : InMemory 𝓤 H 𝓜) → ((ℕ → Place) → List Argument) → (i j m : (ℕ → Place) → Place) → Type 1
  Ready k arguments i j m =
      (p : ℕ → Place) × (c : Callable 𝓤 H 𝓜 (arguments p) k.others) × Lies (k.place 0) (k.place 1) (k.place 2) k.kept c.memory × (k.place 0 ≡ i p) × (k.place 1 ≡ j p) × (k.place 2 ≡ m p)

  abbrev record_of_kept : (k : InMemory 𝓤 H 𝓜) → List Argument
  record_of_kept k = record_at writes writes (k.place 0) (k.place 1) (k.place 2) k.kept

  -- "Next".
  next_ready : (form : Form) (k : InMemory 𝓤 H 𝓜) → ∥ Ready k (λ p. telling form p k.kept (0 ∷ 0 ∷ []) zero_tables) (λ p. p 0) (λ p. p 1) (λ p. p 2) ∥₁
  unfolding telling AllFit Fits AllSmall AllUnder Owned
  next_ready own k =
      let f = k.lies.fit in
      let R = owns k.others in
      ∥∥₁_map (behind (record_of_kept k) (told_lent nowhere (0 ∷ 0 ∷ []) ∷ []) ((omega arith, (omega arith, tt)), tt) k.lies.memory R k.lies.owned) (λ q. (
        these (k.place 0 ∷ k.place 1 ∷ k.place 2 ∷ q.1 0 ∷ []),
        record { memory = q.0; owned = q.2; fit = (f.0, (f.1.0, (f.1.1.0, (refl, tt)))) },
        lying (k.place 0) (k.place 1) (k.place 2) k.kept (told_lent (q.1 0) (0 ∷ 0 ∷ []) ∷ []) q.0 R f q.2,
        refl,
        refl,
        refl,
      ))
  next_ready lent k =
      let f = k.lies.fit in
      let R = owns k.others in
      ∥∥₁_map (behind (record_of_kept k) (told_lent nowhere (0 ∷ 0 ∷ []) ∷ lent_tables nowhere nowhere nowhere zero_tables) ((omega arith, (omega arith, tt)), tables_small) k.lies.memory R k.lies.owned) (λ q. (
        these (k.place 0 ∷ k.place 1 ∷ k.place 2 ∷ q.1 0 ∷ q.1 1 ∷ q.1 2 ∷ q.1 3 ∷ []),
        record {
          memory = q.0;
          owned = q.2;
          fit = (f.0, (f.1.0, (f.1.1.0, (refl, (length-replicate {A = ℕ} (3 * head_most) 0, (length-replicate {A = ℕ} (3 * node_most) 0, (length-replicate {A = ℕ} (4 * set_most) 0, tt)))))));
        },
        lying (k.place 0) (k.place 1) (k.place 2) k.kept (told_lent (q.1 0) (0 ∷ 0 ∷ []) ∷ lent_tables (q.1 1) (q.1 2) (q.1 3) zero_tables) q.0 R f q.2,
        refl,
        refl,
        refl,
      ))

  -- After a call the record lies there again.
  there : (k : InMemory 𝓤 H 𝓜) (i j m : Place) → k.place 0 ≡ i → k.place 1 ≡ j → k.place 2 ≡ m → (r : Record) (σ : Memory) → Lies i j m r σ → Lies (k.place 0) (k.place 1) (k.place 2) r σ
  there k i j m e₀ e₁ e₂ r σ l = subst (λ (z : Place × Place × Place). Lies z.0 z.1 z.2 r σ) (λ n. (sym e₀ n, sym e₁ n, sym e₂ n)) l

  next_again : (form : Form) (p : ℕ → Place) (r : Record) (told : List ℕ) (t : Tables) (others : List Argument) (σ : Memory) → AllFit (telling form p r told t)
      → σ ⊨ owns (telling form p r told t) ∗ owns others → Lies (p 0) (p 1) (p 2) r σ
  unfolding telling AllFit Fits Owned
  next_again own p r told t others σ f s = lying (p 0) (p 1) (p 2) r (told_lent (p 3) told ∷ []) σ (owns others) (f.0, (f.1.0, (f.1.1.0, tt))) s
  next_again lent p r told t others σ f s =
      lying (p 0) (p 1) (p 2) r (told_lent (p 3) told ∷ lent_tables (p 4) (p 5) (p 6) t) σ (owns others) (f.0, (f.1.0, (f.1.1.0, tt))) s

  abbrev Gone : Form → Call → InMemory 𝓤 H 𝓜 → Type 1
  Gone form c k = (m : InMemory 𝓤 H 𝓜) × (k.kept ≡ m.kept) × (a : CallAnswer) × (l : InMemory 𝓤 H 𝓜) × Does 𝓤 H 𝓜 fs form c m a l

  next_goes : (form : Form) (k : InMemory 𝓤 H 𝓜) → ∥ Gone form runner.next k ∥₁
  unfolding EveryCallEnds
  next_goes form k =
      ∥∥₁_elim (next_ready form k) ∥∥₁_prop (λ c.
      let x : ToNext = record { kept = k.kept; told = 0 ∷ 0 ∷ []; tables = zero_tables } in
      let p = c.0 in
      ∥∥₁_map (functions.next_ends 𝓛 𝓜 fs laws form x (p, k.others, c.1)) (λ g.
      let y = g.0 in
      let after = g.1.2.after in
      let last = g.1.3.2 in
      let again = next_again form p y.kept y.told y.tables k.others after.memory (subst AllFit last after.fit)
      (subst (λ (z : List Argument). after.memory ⊨ owns z ∗ owns k.others) last after.owned) in
      let lies = there k (p 0) (p 1) (p 2) c.3 c.4 c.5 y.kept after.memory again in (
        keeps k k.kept c.1.memory c.2,
        refl,
        told_answer y.answer,
        keeps k y.kept after.memory lies,
        Does.next form x y (p, k.others, c.1) g.1 refl
            (record { from = c.2.1; to = lies.1; sheet_at = (c.3, c.3); replies_at = (c.4, c.4); lengths_at = (c.5, c.5); left = refl }),
      )))

  -- "Report".
  report_ready : (form : Form) (x : ℕ) → x < 2 ^ 8 → (k : InMemory 𝓤 H 𝓜) → ∥ Ready k (λ p. reporting form p k.kept x zero_tables) (λ p. p 0) (λ p. p 1) (λ p. p 2) ∥₁
  unfolding reporting AllFit Fits AllSmall AllUnder Owned
  report_ready own x small k =
      let f = k.lies.fit in
      let R = owns k.others in
      ∥∥₁_map (behind (record_of_kept k) [] tt k.lies.memory R k.lies.owned) (λ q. (
        these (k.place 0 ∷ k.place 1 ∷ k.place 2 ∷ []),
        record { memory = q.0; owned = q.2; fit = (f.0, (f.1.0, (f.1.1.0, (small, tt)))) },
        lying (k.place 0) (k.place 1) (k.place 2) k.kept [] q.0 R f q.2,
        refl,
        refl,
        refl,
      ))
  report_ready lent x small k =
      let f = k.lies.fit in
      let R = owns k.others in
      ∥∥₁_map (behind (record_of_kept k) (lent_tables nowhere nowhere nowhere zero_tables) tables_small k.lies.memory R k.lies.owned) (λ q. (
        these (k.place 0 ∷ k.place 1 ∷ k.place 2 ∷ q.1 0 ∷ q.1 1 ∷ q.1 2 ∷ []),
        record {
          memory = q.0;
          owned = q.2;
          fit = (f.0, (f.1.0, (f.1.1.0, (small, (length-replicate {A = ℕ} (3 * head_most) 0, (length-replicate {A = ℕ} (3 * node_most) 0, (length-replicate {A = ℕ} (4 * set_most) 0, tt)))))));
        },
        lying (k.place 0) (k.place 1) (k.place 2) k.kept (lent_tables (q.1 0) (q.1 1) (q.1 2) zero_tables) q.0 R f q.2,
        refl,
        refl,
        refl,
      ))

  report_again : (form : Form) (p : ℕ → Place) (r : Record) (x : ℕ) (t : Tables) (others : List Argument) (σ : Memory) → AllFit (reporting form p r x t)
      → σ ⊨ owns (reporting form p r x t) ∗ owns others → Lies (p 0) (p 1) (p 2) r σ
  unfolding reporting AllFit Fits Owned
  report_again own p r x t others σ f s = lying (p 0) (p 1) (p 2) r [] σ (owns others) (f.0, (f.1.0, (f.1.1.0, tt))) s
  report_again lent p r x t others σ f s = lying (p 0) (p 1) (p 2) r (lent_tables (p 3) (p 4) (p 5) t) σ (owns others) (f.0, (f.1.0, (f.1.1.0, tt))) s

  report_goes : (form : Form) (n : ℕ) → n < 2 ^ 8 → (k : InMemory 𝓤 H 𝓜) → ∥ Gone form (runner.report n) k ∥₁
  unfolding EveryCallEnds
  report_goes form n small k =
      ∥∥₁_elim (report_ready form n small k) ∥∥₁_prop (λ c.
      let x : ToReport = record { kept = k.kept; reply = n; tables = zero_tables } in
      let p = c.0 in
      ∥∥₁_map (functions.report_ends 𝓛 𝓜 fs laws form x (p, k.others, c.1)) (λ g.
      let y = g.0 in
      let after = g.1.2.after in
      let last = g.1.3.2 in
      let again = report_again form p y.kept n y.tables k.others after.memory (subst AllFit last after.fit)
      (subst (λ (z : List Argument). after.memory ⊨ owns z ∗ owns k.others) last after.owned) in
      let lies = there k (p 0) (p 1) (p 2) c.3 c.4 c.5 y.kept after.memory again in (
        keeps k k.kept c.1.memory c.2,
        refl,
        done_or y.answer,
        keeps k y.kept after.memory lies,
        Does.report form x y (p, k.others, c.1) g.1 refl
            (record { from = c.2.1; to = lies.1; sheet_at = (c.3, c.3); replies_at = (c.4, c.4); lengths_at = (c.5, c.5); left = refl }),
      )))

  -- Loading: a sheet in front of the record.
  load_ready : (form : Form) (bytes : List ℕ) → length bytes < 2 ^ 63 → AllUnder (2 ^ 8) bytes → (k : InMemory 𝓤 H 𝓜)
      → ∥ Ready k (λ p. loading form p bytes k.kept zero_tables) (λ p. p 1) (λ p. p 2) (λ p. p 3) ∥₁
  unfolding loading AllFit Fits AllSmall Owned
  load_ready own bytes short small k =
      let f = k.lies.fit in
      let R = owns k.others in
      let xs = record_of_kept k in
      ∥∥₁_map (before xs (bytes_at nowhere bytes ∷ []) (small, tt) k.lies.memory R k.lies.owned) (λ q.
      let S = run 𝓤 H full_share w8 (q.1 0).block (q.1 0).at bytes in (
        these (q.1 0 ∷ k.place 0 ∷ k.place 1 ∷ k.place 2 ∷ []),
        record { memory = q.0; owned = q.2; fit = (omega (arith, short), (f.0, (f.1.0, (f.1.1.0, tt)))) },
        lying (k.place 0) (k.place 1) (k.place 2) k.kept [] q.0 R f (sat_weaken 𝓤 H 𝓜 q.0 (mono_l 𝓤 R (snd∗ 𝓤 S (owns xs))) q.2),
        refl,
        refl,
        refl,
      ))
  load_ready lent bytes short small k =
      let f = k.lies.fit in
      let R = owns k.others in
      let xs = record_of_kept k in
      ∥∥₁_elim (behind xs (lent_tables nowhere nowhere nowhere zero_tables) tables_small k.lies.memory R k.lies.owned) ∥∥₁_prop (λ t.
      let tables = lent_tables (t.1 0) (t.1 1) (t.1 2) zero_tables in
      ∥∥₁_map (before (xs ++ tables) (bytes_at nowhere bytes ∷ []) (small, tt) t.0 R t.2) (λ q.
      let S = run 𝓤 H full_share w8 (q.1 0).block (q.1 0).at bytes in (
        these (q.1 0 ∷ k.place 0 ∷ k.place 1 ∷ k.place 2 ∷ t.1 0 ∷ t.1 1 ∷ t.1 2 ∷ []),
        record {
          memory = q.0;
          owned = q.2;
          fit = (
            omega (arith, short),
            (f.0, (f.1.0, (f.1.1.0, (length-replicate {A = ℕ} (3 * head_most) 0, (length-replicate {A = ℕ} (3 * node_most) 0, (length-replicate {A = ℕ} (4 * set_most) 0, tt)))))),
          );
        },
        lying (k.place 0) (k.place 1) (k.place 2) k.kept tables q.0 R f (sat_weaken 𝓤 H 𝓜 q.0 (mono_l 𝓤 R (snd∗ 𝓤 S (owns (xs ++ tables)))) q.2),
        refl,
        refl,
        refl,
      )))

  load_again : (form : Form) (p : ℕ → Place) (bytes : List ℕ) (r : Record) (t : Tables) (others : List Argument) (σ : Memory) → AllFit (loading form p bytes r t)
      → σ ⊨ owns (loading form p bytes r t) ∗ owns others → Lies (p 1) (p 2) (p 3) r σ
  unfolding loading AllFit Fits Owned
  load_again own p bytes r t others σ f s =
      let S = run 𝓤 H full_share w8 (p 0).block (p 0).at bytes in
      let xs = record_at writes writes (p 1) (p 2) (p 3) r in
      lying (p 1) (p 2) (p 3) r [] σ (owns others) (f.1.0, (f.1.1.0, (f.1.1.1.0, tt))) (sat_weaken 𝓤 H 𝓜 σ (mono_l 𝓤 (owns others) (snd∗ 𝓤 S (owns xs))) s)
  load_again lent p bytes r t others σ f s =
      let S = run 𝓤 H full_share w8 (p 0).block (p 0).at bytes in
      let tables = lent_tables (p 4) (p 5) (p 6) t in
      let xs = record_at writes writes (p 1) (p 2) (p 3) r ++ tables in
      lying (p 1) (p 2) (p 3) r tables σ (owns others) (f.1.0, (f.1.1.0, (f.1.1.1.0, tt))) (sat_weaken 𝓤 H 𝓜 σ (mono_l 𝓤 (owns others) (snd∗ 𝓤 S (owns xs))) s)

  load_goes : (form : Form) (bytes : List ℕ) → length bytes < 2 ^ 63 → AllUnder (2 ^ 8) bytes → (k : InMemory 𝓤 H 𝓜) → ∥ Gone form (runner.load bytes) k ∥₁
  unfolding EveryCallEnds
  load_goes form bytes short small k =
      ∥∥₁_elim (load_ready form bytes short small k) ∥∥₁_prop (λ c.
      let x : ToLoad = record { sheet = bytes; kept = k.kept; tables = zero_tables } in
      let p = c.0 in
      ∥∥₁_map (functions.load_ends 𝓛 𝓜 fs laws form x (p, k.others, c.1)) (λ g.
      let y = g.0 in
      let after = g.1.2.after in
      let last = g.1.3.2 in
      let again = load_again form p bytes y.kept y.tables k.others after.memory (subst AllFit last after.fit)
      (subst (λ (z : List Argument). after.memory ⊨ owns z ∗ owns k.others) last after.owned) in
      let lies = there k (p 1) (p 2) (p 3) c.3 c.4 c.5 y.kept after.memory again in (
        keeps k k.kept c.1.memory c.2,
        refl,
        done_or y.answer,
        keeps k y.kept after.memory lies,
        Does.load form x y (p, k.others, c.1) g.1 refl
            (record { from = c.2.1; to = lies.1; sheet_at = (c.3, c.3); replies_at = (c.4, c.4); lengths_at = (c.5, c.5); left = refl }),
      )))

  pub going : Going library.runner
  unfolding CallFits
  going = record { goes = go }
    where
      go : (form : Form) (c : Call) → CallFits c → (k : InMemory 𝓤 H 𝓜) → ∥ Gone form c k ∥₁
      go form (runner.load bytes) f k = load_goes form bytes f.0 f.1 k
      go form runner.next f k = next_goes form k
      go form (runner.report x) f k = report_goes form x f k
