-- There are the calls that feed a stream of bytes in any pieces and give its figures, and those that answer for any sheets. Assumes nothing.
use Prim.Native.Nat.{ℕ, ◌-◌, ◌^◌, ◌<◌}
use native.Mathlib.Omega.{arith}
use mathlib.Core.Path.{refl, sym, subst}
use mathlib.Core.Logic.{∥∥₁_prop, ∥∥₁_elim, ∥∥₁_map}
use mathlib.Core.List.{List, [], ◌∷◌, ◌++◌, map, flat_map, append_assoc, append-nil}
use lib.ListN.{replicate, get_or, length-replicate}
use seplogic.Ra.Ura.{Ura}
use prog.Model.{Model}
use types.Logic.{Logic}
use Rattle.lists.specs.Lists.{AllUnder}
use Rattle.lists.proofs.ListLaws.{number_at}
use Rattle.format.specs.Syntax.{Sheet}
use Rattle.format.specs.Format.{Answer, gives, refused, given_or, reading}
use Rattle.semantics.specs.Verdict.{Verdict, longest_trace}
use Rattle.semantics.specs.Figures.{apart, most_lengths, release_budget}
use Rattle.release.specs.declared.feeding.Release.{Release as State}
use Rattle.release.specs.Framing.{most_begun, opened}
use Rattle.release.specs.Feeding.{fed, state_of, read_by, prepared_all, cleared_all}
use Rattle.verifier.specs.Answers.{cleared}
use Rattle.release.proofs.SizeLaws.{Fitting, bytes_append, state_fits, fed_fits}
use Rattle.runner.specs.Calls.{own}
use Rattle.recovery.specs.Numbers.{lent_release, release_numbers}
use Rattle.recovery.specs.Arguments.{Tables, tables_after, tables_after_all, heads_width, nodes_width, sets_width, memo_width, verdict_width, state_width, figures_width}
use Rattle.claims.specs.Library.{Library, Gave, EveryCallEnds, CanBeCalled, ToVerify, ToFeed, AfterFeed, ToFinish}
use Rattle.claims.specs.Linked.{Functions, linked}
use Rattle.claims.proofs.CallLaws.{Laws}
use Rattle.claims.specs.Terms.{fed_as}
use Rattle.claims.specs.Release.{Fed, nothing, piece, Figured, Answered}
use Rattle.claims.specs.Release as spec
use Rattle.claims.specs.Support.{Numbers, Bytes, AllBytes, TablesFit, VerifyFits}
use Rattle.claims.proofs.FunctionRuns as functions
use Rattle.claims.proofs.StreamRuns as streams
use Rattle.claims.proofs.RunnerRuns.{zeros_under, zero_tables}
use Rattle.claims.proofs.SupportLaws as supports
use Rattle.claims.proofs.Contracts.{Contracts}
use Rattle.claims.proofs.ReleaseLaws.{fed_memory}

-- Zeros fit any memory.
zeros_fit : (bits n : ℕ) → 0 < 2 ^ bits → Numbers bits n (replicate n 0)
zeros_fit bits n h = record { long = length-replicate {A = ℕ} n 0; small = zeros_under (2 ^ bits) h n }

zero_tables_law : TablesFit zero_tables
zero_tables_law = record { heads = zeros_fit 16 heads_width (omega arith); nodes = zeros_fit 16 nodes_width (omega arith); sets = zeros_fit 64 sets_width (omega arith) }

-- The numbers of a state that fits.
numbers_fit : (s : State) → Fitting s → Numbers 64 state_width (release_numbers s)
unfolding release_numbers AllUnder
numbers_fit s f = record {
  long = refl;
  small =
      (f.valid_fits, (f.invalid_fits, (f.stopped_fits, (f.refused_fits, (f.sum_fits, (f.greatest_fits, (f.lengths_fit, (f.held_fits, tt))))))));
}

-- The state that memory of these sizes holds.
lent_fits : (numbers begun : List ℕ) → Numbers 64 state_width numbers → Numbers 8 most_begun begun → Fitting (lent_release numbers begun)
unfolding lent_release
lent_fits numbers begun n b =
    let at : ((i : ℕ) → get_or numbers i 0 < 2 ^ 64) = λ i. number_at numbers i (2 ^ 64) (omega arith) n.small in
    record {
      valid_fits = at 0;
      invalid_fits = at 1;
      stopped_fits = at 2;
      refused_fits = at 3;
      sum_fits = at 4;
      greatest_fits = at 5;
      lengths_fit = at 6;
      held_fits = at 7;
      begun_length = b.long;
      begun_fits = b.small;
    }

-- Tables and memo after any sheets.
all_tables : (sheets : List (List ℕ)) (t : Tables) → TablesFit t → TablesFit (tables_after_all (map reading sheets) t)
unfolding prepared_all
all_tables [] t f = f
all_tables (bytes ∷ sheets) t f = all_tables sheets (tables_after (reading bytes) t) (supports.tables_fit bytes t f)

memo_one : (sheet : Answer Sheet) (memo : List ℕ) → Numbers 64 memo_width memo → Numbers 64 memo_width (cleared sheet memo)
unfolding cleared given_or
memo_one (gives sheet) memo f = zeros_fit 64 memo_width (omega arith)
memo_one (refused r) memo f = f

all_memo : (sheets : List (List ℕ)) (memo : List ℕ) → Numbers 64 memo_width memo → Numbers 64 memo_width (cleared_all (map reading sheets) memo)
unfolding cleared_all
all_memo [] memo f = f
all_memo (bytes ∷ sheets) memo f = all_memo sheets (cleared (reading bytes) memo) (memo_one (reading bytes) memo f)

abbrev sheets_fed : ToFeed → List (List ℕ)
sheets_fed x =
    let state = lent_release x.numbers x.begun in
    (apart (most_lengths - state.lengths) (opened state.begun ++ x.piece)).sheets

fed_as_fits : (x : ToFeed) → Fitting (fed (lent_release x.numbers x.begun) x.piece) → TablesFit x.tables → Numbers 64 memo_width x.memo
    → Numbers 64 state_width (fed_as x).numbers × Numbers 8 most_begun (fed_as x).begun × TablesFit (fed_as x).tables × Numbers 64 memo_width (fed_as x).memo
unfolding fed_as read_by
fed_as_fits x f t m = (
  numbers_fit _ f,
  record { long = f.begun_length; small = f.begun_fits },
  all_tables (sheets_fed x) x.tables t,
  all_memo (sheets_fed x) x.memo m,
)

module _ {M : Type 1} {𝓤 : Ura M} (𝓛 : Logic 𝓤) (𝓜 : Model 𝓤 𝓛.H) (fs : Functions) (laws : Laws 𝓛 𝓜 fs) (contracts : Contracts (linked 𝓤 𝓛.H 𝓜 fs)) where
  open 𝓛 use {H}

  abbrev library : Library {1}
  library = linked 𝓤 H 𝓜 fs

  -- The memory after the bytes of a stream, as it was fed.
  abbrev After : List ℕ → Type 1
  After stream = (numbers : List ℕ) × (begun : List ℕ) × Fed library stream numbers begun

  memory_fits : (stream : List ℕ) → AllUnder 256 stream → (a : After stream) → Numbers 64 state_width a.0 × Numbers 8 most_begun a.1
  memory_fits stream h a =
      let m = fed_memory library contracts a.2 in
      let f = state_fits stream h in (
        subst (Numbers 64 state_width) (sym m.0) (numbers_fit (state_of stream) f),
        subst (Numbers 8 most_begun) (sym m.1) (record { long = f.begun_length; small = f.begun_fits }),
      )

  -- One piece more, and then all of them.
  feed_one : (stream p : List ℕ) → AllUnder 256 stream → Bytes p → After stream → ∥ After (stream ++ p) ∥₁
  unfolding CanBeCalled EveryCallEnds Gave
  feed_one stream p h b a =
      let fits = memory_fits stream h a in
      let x : ToFeed = record { piece = p; numbers = a.0; begun = a.1; tables = zero_tables; memo = replicate memo_width 0 } in
      ∥∥₁_elim (supports.can_feed 𝓛 𝓜 fs laws x (b, fits.0, fits.1, zero_tables_law, zeros_fit 64 memo_width (omega arith))) ∥∥₁_prop (λ call.
      ∥∥₁_map (streams.feed_ends 𝓛 𝓜 fs laws x call) (λ y.
      (y.0.numbers, y.0.begun, piece x y.0 a.2 (call, y.1))))

  feed_all : (pieces : List (List ℕ)) → AllBytes pieces → (stream : List ℕ) → AllUnder 256 stream → After stream → ∥ After (stream ++ flat_map (λ p. p) pieces) ∥₁
  unfolding AllBytes flat_map
  feed_all [] b stream h a = ∣ subst After (sym (append-nil stream)) a ∣₁
  feed_all (p ∷ pieces) b stream h a =
      ∥∥₁_elim (feed_one stream p h b.0 a) ∥∥₁_prop (λ next.
      ∥∥₁_map (feed_all pieces b.1 (stream ++ p) (bytes_append stream p h b.0.small) next) (λ last.
      subst After (append_assoc stream p (flat_map (λ q. q) pieces)) last))

  bytes_all : (pieces : List (List ℕ)) → AllBytes pieces → AllUnder 256 (flat_map (λ p. p) pieces)
  unfolding AllBytes AllUnder flat_map
  bytes_all [] b = tt
  bytes_all (p ∷ pieces) b = bytes_append p (flat_map (λ q. q) pieces) b.0.small (bytes_all pieces b.1)

  -- What a call that feeds leaves is of these sizes again, whatever it was lent.
  pub fed_fit : (x : ToFeed) (y : AfterFeed) → Gave library.feed x y → Bytes x.piece → Numbers 64 state_width x.numbers → Numbers 8 most_begun x.begun
      → TablesFit x.tables → Numbers 64 memo_width x.memo
      → Numbers 64 state_width y.numbers × Numbers 8 most_begun y.begun × TablesFit y.tables × Numbers 64 memo_width y.memo
  fed_fit x y g p n b t m =
      let state = lent_release x.numbers x.begun in
      let after = fed_fits state x.piece (lent_fits x.numbers x.begun n b) p.small in
      subst (λ (z : AfterFeed). Numbers 64 state_width z.numbers × Numbers 8 most_begun z.begun × TablesFit z.tables × Numbers 64 memo_width z.memo)
      (sym (contracts.feed_contract x y g)) (fed_as_fits x after t m)

  pub streams_fed : (pieces : List (List ℕ)) → AllBytes pieces → ∥ ((numbers : List ℕ) × Figured library (flat_map (λ p. p) pieces) numbers) ∥₁
  unfolding CanBeCalled EveryCallEnds Gave
  streams_fed pieces b =
      ∥∥₁_elim (feed_all pieces b [] (none_under 256) (_, _, nothing)) ∥∥₁_prop (λ a.
      let fits = memory_fits (flat_map (λ p. p) pieces) (bytes_all pieces b) a in
      let x : ToFinish = record { numbers = a.0; begun = a.1; figures = replicate figures_width 0 } in
      ∥∥₁_elim (supports.can_finish 𝓛 𝓜 fs laws x (fits.0, fits.1, zeros_fit 64 figures_width (omega arith))) ∥∥₁_prop (λ call.
      ∥∥₁_map (streams.finish_ends 𝓛 𝓜 fs laws x call) (λ y.
      (y.0, record { asked = x; fed = a.2; gave = (call, y.1) }))))
    where
      none_under : (bound : ℕ) → AllUnder bound []
      none_under bound = unfold AllUnder in tt

  -- A call for each sheet.
  pub sheets_answered : (sheets : List (List ℕ)) → AllBytes sheets → ∥ ((answers : List (Answer Verdict)) × Answered library sheets answers) ∥₁
  unfolding AllBytes CanBeCalled EveryCallEnds Gave
  sheets_answered [] b = ∣ ([], spec.none) ∣₁
  sheets_answered (sheet ∷ sheets) b =
      let x : ToVerify = record { sheet = sheet; budget = release_budget; trace = replicate longest_trace 0; verdict = replicate verdict_width 0; tables = zero_tables; memo = replicate memo_width 0 } in
      let trace : Bytes (replicate longest_trace 0) = record { short = omega (arith, length-replicate {A = ℕ} longest_trace 0); small = zeros_under (2 ^ 8) (omega arith) longest_trace } in
      let fits : VerifyFits x = record { sheet = b.0; budget = omega arith; trace = trace; verdict = zeros_fit 64 verdict_width (omega arith); tables = zero_tables_law; memo = zeros_fit 64 memo_width (omega arith) } in
      ∥∥₁_elim (sheets_answered sheets b.1) ∥∥₁_prop (λ later.
      ∥∥₁_elim (supports.can_verify 𝓛 𝓜 fs laws own x fits) ∥∥₁_prop (λ call.
      ∥∥₁_map (functions.verify_ends 𝓛 𝓜 fs laws own x call) (λ y.
      (y.0.answer ∷ later.0, spec.next own x y.0 (call, y.1) refl (omega (arith, length-replicate {A = ℕ} longest_trace 0)) later.1))))
