-- The functions of a stream's figures that C links, for every model: each call ends, and whatever it gave is what the definitions say. Assumes nothing.
use Prim.Native.Nat.{ℕ, ◌≤◌}
use mathlib.Core.Bool.{Bool}
use mathlib.Core.List.{List}
use mathlib.Core.Path.{◌≡◌, refl, sym, subst, ◌∙◌}
use mathlib.Core.Logic.{∥∥₁_elim, ∥∥₁_map}
use lib.ListN.{length, take}
use seplogic.Ra.Ura.{Ura}
use mir.Syntax.{w8, w64}
use mir.Val.{Val, vint, vunit}
use prog.Model.{Model}
use types.Logic.{Logic}
use base.Stored.{Coded-set, coded_bool}
use Rattle.machine.specs.Calls.{Place, Argument, Fits, AllFit, Owned, Callable}
use Rattle.machine.proofs.Passing.{Leaves}
use Rattle.lists.specs.Lists.{write}
use Rattle.semantics.specs.Printing.{numbers_line}
use Rattle.semantics.specs.Figures.{figure_numbers}
use Rattle.printing.proofs.LineLaws.{lines_back}
use Rattle.release.specs.declared.feeding.Release.{Release}
use Rattle.release.specs.Counting.{meant_by}
use Rattle.release.specs.Feeding.{fed, is_done, ended, read_by, cleared_all}
use Rattle.recovery.specs.Numbers.{flag_number, lent_release, release_numbers, FlagRead}
use Rattle.recovery.proofs.ReadLaws.{flag_read, flag_one}
use Rattle.recovery.specs.Arguments.{Tables, tables_after_all, to_feed, to_end, to_line}
use Rattle.claims.specs.Library.{Library, Gave, EveryCallEnds, AfterPrint, ToFeed, AfterFeed, ToFinish, ToLine}
use Rattle.claims.specs.Linked.{Functions, linked}
use Rattle.claims.proofs.CallLaws.{Laws}
use Rattle.claims.specs.Terms.{fed_as, finished_as, line_as}
use Rattle.claims.proofs.FunctionRuns.{list_set, every_ends, gave_meant}

-- The parts of what was lent to be fed.
abbrev FeedParts : (numbers begun : List ℕ) (t : Tables) (memo numbers' begun' : List ℕ) (t' : Tables) (memo' : List ℕ) → Type 0
FeedParts numbers begun t memo numbers' begun' t' memo' =
    (numbers ≡ numbers') × (begun ≡ begun') × (t.heads ≡ t'.heads) × (t.nodes ≡ t'.nodes) × (t.sets ≡ t'.sets) × (memo ≡ memo')

feed_parts : (p : ℕ → Place) (piece numbers begun : List ℕ) (t : Tables) (memo numbers' begun' : List ℕ) (t' : Tables) (memo' : List ℕ)
    → to_feed p piece numbers begun t memo ≡ to_feed p piece numbers' begun' t' memo' → FeedParts numbers begun t memo numbers' begun' t' memo'
feed_parts p piece numbers begun t memo numbers' begun' t' memo' e = (cc, cc, cc, cc, cc, cc)

module _ {M : Type 1} {𝓤 : Ura M} (𝓛 : Logic 𝓤) (𝓜 : Model 𝓤 𝓛.H) (fs : Functions) (laws : Laws 𝓛 𝓜 fs) where
  open 𝓛 use {H}

  abbrev library : Library {1}
  library = linked 𝓤 H 𝓜 fs

  -- Feeding.
  abbrev feed_state : ToFeed → Release
  feed_state x = lent_release x.numbers x.begun

  abbrev feed_done : ToFeed → Bool
  feed_done x = is_done (fed (feed_state x) x.piece)

  abbrev feed_arguments : (ℕ → Place) → ToFeed → List Argument
  feed_arguments p x = to_feed p x.piece x.numbers x.begun x.tables x.memo

  abbrev feed_result : ToFeed → Val
  feed_result x = vint w8 (flag_number (feed_done x))

  abbrev feed_last : (ℕ → Place) → ToFeed → List Argument
  feed_last p x =
      to_feed p x.piece (release_numbers (fed (feed_state x) x.piece)) (fed (feed_state x) x.piece).begun.bytes
      (tables_after_all (read_by (feed_state x) x.piece) x.tables) (cleared_all (read_by (feed_state x) x.piece) x.memo)

  feed_leaves : (p : ℕ → Place) (x : ToFeed) → Leaves 𝓛 𝓜 fs.feed (feed_arguments p x) (feed_result x) (feed_last p x)
  feed_leaves p x = laws.feed_leaves p x.piece x.numbers x.begun x.tables x.memo

  pub feed_ends : EveryCallEnds library.feed
  unfolding fed_as
  feed_ends = every_ends 𝓛 𝓜 fs laws fs.feed feed_arguments _ feed_result feed_last feed_leaves (λ p x others c.
      ∣ (fed_as x, (flag_number (feed_done x), refl, refl, flag_read (feed_done x))) ∣₁)

  module _ (x : ToFeed) (y : AfterFeed) (g : Gave library.feed x y) where
    abbrev z : AfterFeed
    z = fed_as x

    feed_meant : ∥ ((y.done ≡ z.done) × FeedParts y.numbers y.begun y.tables y.memo z.numbers z.begun z.tables z.memo) ∥₁
    unfolding fed_as
    feed_meant =
        ∥∥₁_map (gave_meant 𝓛 𝓜 fs laws fs.feed feed_arguments _ feed_result feed_last feed_leaves x y g) (λ m.
        let parts = feed_parts m.0 x.piece _ _ _ _ _ _ _ _ (sym m.2.2) in
        let k : flag_number (feed_done x) ≡ m.2.0 = let e = m.2.1 in cc in
        (flag_one m.2.0 y.done (feed_done x) m.2.3 (subst (λ (n : ℕ). FlagRead n (feed_done x)) k (flag_read (feed_done x))), parts))

    pub feed_fixed : y ≡ z
    feed_fixed =
        let done = ∥∥₁_elim feed_meant (Coded-set coded_bool _ _) (λ m. m.0) in
        let numbers = ∥∥₁_elim feed_meant (list_set _ _) (λ m. m.1.0) in
        let begun = ∥∥₁_elim feed_meant (list_set _ _) (λ m. m.1.1) in
        let heads = ∥∥₁_elim feed_meant (list_set _ _) (λ m. m.1.2) in
        let nodes = ∥∥₁_elim feed_meant (list_set _ _) (λ m. m.1.3) in
        let sets = ∥∥₁_elim feed_meant (list_set _ _) (λ m. m.1.4) in
        let memo = ∥∥₁_elim feed_meant (list_set _ _) (λ m. m.1.5) in
        λ i. record { done = done i; numbers = numbers i; begun = begun i; tables = record { heads = heads i; nodes = nodes i; sets = sets i }; memo = memo i }

  -- Finishing.
  abbrev finish_figures : ToFinish → List ℕ
  finish_figures x = figure_numbers (meant_by (ended (lent_release x.numbers x.begun)))

  abbrev finish_arguments : (ℕ → Place) → ToFinish → List Argument
  finish_arguments p x = to_end p x.numbers x.begun x.figures

  abbrev finish_last : (ℕ → Place) → ToFinish → List Argument
  finish_last p x = to_end p x.numbers x.begun (finish_figures x)

  finish_leaves : (p : ℕ → Place) (x : ToFinish) → Leaves 𝓛 𝓜 fs.finish (finish_arguments p x) vunit (finish_last p x)
  finish_leaves p x = laws.end_leaves p x.numbers x.begun x.figures

  pub finish_ends : EveryCallEnds library.finish
  finish_ends = every_ends 𝓛 𝓜 fs laws fs.finish finish_arguments _ (λ x. vunit) finish_last finish_leaves (λ p x others c. ∣ (finish_figures x, (refl, refl)) ∣₁)

  pub finish_fixed : (x : ToFinish) (figures : List ℕ) → Gave library.finish x figures → figures ≡ finished_as x
  unfolding finished_as
  finish_fixed x figures g =
      ∥∥₁_elim (gave_meant 𝓛 𝓜 fs laws fs.finish finish_arguments _ (λ x. vunit) finish_last finish_leaves x figures g) (list_set _ _) (λ m.
      let e = m.2.1 in cc)

  -- The line.
  abbrev line_arguments : (ℕ → Place) → ToLine → List Argument
  line_arguments p x = to_line p x.figures x.out

  abbrev line_result : ToLine → Val
  line_result x = vint w64 (length (numbers_line x.figures))

  abbrev line_last : (ℕ → Place) → ToLine → List Argument
  line_last p x = to_line p x.figures (write x.out 0 (numbers_line x.figures))

  line_leaves : (p : ℕ → Place) (x : ToLine) → Leaves 𝓛 𝓜 fs.line (line_arguments p x) (line_result x) (line_last p x)
  line_leaves p x = laws.line_leaves p x.figures x.out

  -- The line has room, so it is read back.
  line_said : (p : ℕ → Place) (x : ToLine) (others : List Argument) → Callable 𝓤 H 𝓜 (line_arguments p x) others
      → ∥ (take (length (numbers_line x.figures)) (write x.out 0 (numbers_line x.figures)) ≡ numbers_line x.figures) ∥₁
  unfolding AllFit Fits
  line_said p x others c =
      ∥∥₁_map (laws.line_within p x.figures x.out c.fit c.memory (Owned 𝓤 H 𝓜 others) c.owned) (λ l.
      lines_back x.out (numbers_line x.figures) (subst (λ (n : ℕ). length (numbers_line x.figures) ≤ n) (sym c.fit.1.0) l))

  pub line_ends : EveryCallEnds library.line
  unfolding line_as
  line_ends = every_ends 𝓛 𝓜 fs laws fs.line line_arguments _ line_result line_last line_leaves (λ p x others c.
      ∥∥₁_map (line_said p x others c) (λ e. (line_as x, (length (numbers_line x.figures), refl, refl, refl, sym e))))

  pub line_fixed : (x : ToLine) (y : AfterPrint) → Gave library.line x y → y ≡ line_as x
  unfolding line_as
  line_fixed x y g =
      let meant = gave_meant 𝓛 𝓜 fs laws fs.line line_arguments _ line_result line_last line_leaves x y g in
      let out : y.out ≡ write x.out 0 (numbers_line x.figures) = ∥∥₁_elim meant (list_set _ _) (λ m. let e = m.2.2 in cc) in
      let lines : y.lines ≡ numbers_line x.figures = ∥∥₁_elim meant (list_set _ _) (λ m.
      ∥∥₁_elim (line_said m.0 x m.1.0 m.1.1) (list_set _ _) (λ said.
      let k : length (numbers_line x.figures) ≡ m.2.0 = let e = m.2.1 in cc in
      m.2.4 ∙ (λ i. take (sym k i) (out i)) ∙ said)) in
      λ i. record { lines = lines i; out = out i }
