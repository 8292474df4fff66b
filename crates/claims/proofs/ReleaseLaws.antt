-- The figures of a stream, of any library that keeps the contracts. Assumes nothing.
use Prim.Native.Nat.{ℕ, ◌+◌, ◌*◌, ◌≤◌, ◌<◌}
use native.Mathlib.Omega.{arith}
use mathlib.Core.Path.{◌≡◌, refl, sym, ap, ◌∙◌}
use mathlib.Core.Logic.{⊎_elim, ◌↔◌}
use mathlib.Core.List.{List, [], ◌∷◌, ◌++◌, map, append-nil}
use mathlib.Core.Bool.{Bool, true, false}
use lib.ListN.{length, replicate, drop_of_length-le}
use lib.Seq.{take_all}
use lib.Dec.{ltb, leb}
use borrow.Author.Tests.{ltb-true, ltb-false, leb-true, le-leb}
use Rattle.lists.specs.Lists.{AllUnder}
use Rattle.format.specs.Syntax.{Sheet}
use Rattle.format.specs.Format.{Answer, refused, most_bytes, reading}
use Rattle.semantics.specs.Verdict.{Verdict, outcome_of, verdict_of, verified}
use Rattle.semantics.specs.Printing.{numbers_line}
use Rattle.semantics.specs.Figures.{framed, AllSaid, whole, none, first, Apart, apart, most_lengths, cuts, answer_to, answers_to, count_in, sum_of, figures_of, Figures, figures, together, lengths_begun, figure_numbers, figures_line}
use Rattle.semantics.proofs.MemoryLaws.{admitted_long}
use Rattle.semantics.proofs.FigureLaws.{first_some, first_cut, apart_none, apart_whole, apart_empty, apart_cut, apart_full, apart_sheets, every_stream, figures_by, figures_add_up, figures_together, answer_is, reading_long}
use Rattle.release.specs.declared.feeding.Release.{Release as State}
use Rattle.release.specs.Counting.{meant_by, no_figures}
use Rattle.release.specs.Framing.{most_begun, length_of, size_of}
use Rattle.release.specs.Feeding.{fed, state_of, is_done, ended}
use Rattle.release.proofs.FramingLaws.{gathered_none}
use Rattle.release.proofs.StreamLaws.{none_short, state_on}
use Rattle.release.proofs.FeedLaws.{state_none}
use Rattle.release.proofs.FigureLaws.{ended_figures, state_done}
use Rattle.runner.specs.Calls.{Form}
use Rattle.recovery.specs.Numbers.{lent_release, release_numbers}
use Rattle.recovery.specs.Arguments.{state_width}
use Rattle.claims.specs.Library.{Library, Gave, ToVerify, AfterVerify, AfterPrint, ToFeed, AfterFeed, ToFinish, ToLine}
use Rattle.claims.specs.Terms.{verified_as, fed_as, finished_as, line_as}
use Rattle.claims.specs.Release.{Cut, length_cut, sheet_cut, Parts, all_whole, one_cut, all_read, one_refused, both_numbers, Fed, nothing, piece, Figured, Answered, Release}
use Rattle.claims.specs.Release as spec
use Rattle.claims.proofs.Contracts.{Contracts}

-- The memory of a state, and the state that it holds.
held_back : (s : State) → lent_release (release_numbers s) s.begun.bytes ≡ s
unfolding lent_release release_numbers
held_back s = refl

state_zeros : lent_release (replicate state_width 0) (replicate most_begun 0) ≡ state_of []
unfolding lent_release
state_zeros = sym (state_none ∙ (λ i. record { figures = no_figures; lengths = 0; begun = gathered_none i }))

-- What is cut has no whole sheet, and is some bytes.
cut_first : {rest : List ℕ} → Cut rest → (first rest ≡ none) × (cuts rest ≡ 1)
unfolding first cuts
cut_first (length_cut high) = (refl, refl)
cut_first (sheet_cut high low bytes h) = (first_cut (256 * high + low) bytes h, refl)

-- A stream by its parts.
parts_apart : {sheets : List (List ℕ)} {rest : List ℕ} {cut : ℕ} → Parts sheets rest cut
    → (a : Apart) × (apart most_lengths (framed sheets ++ rest) ≡ a) × (a.sheets ≡ sheets) × (cuts a.cut ≡ cut)
parts_apart {sheets} (all_whole h) = (_, apart_sheets most_lengths sheets h, refl, unfold cuts in refl)
parts_apart {sheets} (one_cut rest h c) = (_, apart_cut most_lengths sheets rest h (cut_first c).0, refl, (cut_first c).1)
parts_apart {sheets} (all_read rest e) = (_, apart_full most_lengths sheets rest e, refl, unfold cuts in refl)

by_parts : {sheets : List (List ℕ)} {rest : List ℕ} {cut : ℕ} → Parts sheets rest cut → figures (framed sheets ++ rest) ≡ figures_of (answers_to sheets) cut
by_parts parts =
    let p = parts_apart parts in
    figures_by _ _ p.1 ∙ (λ i. figures_of (answers_to (p.2 i)) (p.3 i))

begun_parts : {sheets : List (List ℕ)} {rest : List ℕ} {cut : ℕ} → Parts sheets rest cut → lengths_begun (framed sheets ++ rest) ≡ length sheets + cut
unfolding lengths_begun
begun_parts parts =
    let p = parts_apart parts in
    ap (λ (a : Apart). length a.sheets + cuts a.cut) p.1 ∙ (λ i. length (p.2 i) + p.3 i)

-- What has no whole sheet is empty, or cut.
none_parts : (sheets : List (List ℕ)) (rest : List ℕ) → length sheets < most_lengths → first rest ≡ none → (cut : ℕ) × Parts sheets rest cut
none_parts sheets [] h e = (0, all_whole (omega (arith, h)))
none_parts sheets (high ∷ []) h e = (1, one_cut (high ∷ []) h (length_cut high))
none_parts sheets (high ∷ low ∷ bytes) h e =
    let short = none_short (high ∷ low ∷ bytes) e in
    let fewer : length bytes < 256 * high + low = unfold size_of length_of in (omega (arith, short)) in
    (1, one_cut (high ∷ low ∷ bytes) h (sheet_cut high low bytes fewer))

every_input : (stream : List ℕ) → AllUnder 256 stream
    → (sheets : List (List ℕ)) × (rest : List ℕ) × (cut : ℕ) × AllSaid sheets × Parts sheets rest cut × (stream ≡ framed sheets ++ rest)
every_input stream h =
    let f = every_stream most_lengths stream h in
    ⊎_elim
    (λ (z : (length f.sheets < most_lengths) × (first f.rest ≡ none)).
    let p = none_parts f.sheets f.rest z.0 z.1 in
    (f.sheets, f.rest, p.0, f.said, p.1, f.laid))
    (λ (z : length f.sheets ≡ most_lengths). (f.sheets, f.rest, 0, f.said, all_read f.rest z, f.laid))
    f.ends

-- One sheet that is too long, whole or cut.
one_long : (bytes : List ℕ) → most_bytes < length bytes → figures_of (answers_to (bytes ∷ [])) (cuts []) ≡ one_refused
unfolding answers_to figures_of cuts
one_long bytes h = ap (λ (a : Answer Sheet). figures_of (answer_to a ∷ []) 0) (reading_long bytes h) ∙ unfold figures_of answer_to outcome_of verdict_of in refl

one_whole : (high low : ℕ) (bytes : List ℕ) → length bytes ≡ 256 * high + low → first (high ∷ low ∷ bytes) ≡ whole bytes []
unfolding first
one_whole high low bytes all =
    let n = 256 * high + low in
    let none_left : length bytes ≤ n = omega (arith, all) in
    first_some n bytes (omega (arith, all)) ∙ (λ i. whole (take_all n bytes none_left i) (drop_of_length-le bytes none_left i))

long_sheet : (high low : ℕ) (bytes : List ℕ) → most_bytes < 256 * high + low → length bytes ≤ 256 * high + low → figures (high ∷ low ∷ bytes) ≡ one_refused
long_sheet high low bytes long within = go (ltb (length bytes) n) refl
  where
    n : ℕ
    n = 256 * high + low

    go : (t : Bool) → ltb (length bytes) n ≡ t → figures (high ∷ low ∷ bytes) ≡ one_refused
    go true t =
        let c = sheet_cut high low bytes (ltb-true (length bytes) n t) in
        figures_by (high ∷ low ∷ bytes) _ (apart_none 65534 (high ∷ low ∷ bytes) (cut_first c).0) ∙ ap (figures_of (answers_to [])) (cut_first c).1 ∙ unfold answers_to figures_of in refl
    go false t =
        let all : length bytes ≡ n = let h = ltb-false (length bytes) n t in omega (arith, h, within) in
        let one : first (high ∷ low ∷ bytes) ≡ whole bytes [] = one_whole high low bytes all in
        figures_by (high ∷ low ∷ bytes) _ (apart_whole 65534 (high ∷ low ∷ bytes) bytes [] one)
        ∙ (λ i. figures_of (answers_to (bytes ∷ (apart_empty 65534 i).sheets)) (cuts (apart_empty 65534 i).cut))
        ∙ one_long bytes (omega (arith, all, long))

-- What the definitions of a call's numbers open to.
zero_numbers : replicate state_width 0 ≡ release_numbers (state_of [])
zero_numbers = zeros_back ∙ ap release_numbers state_zeros
  where
    zeros_back : replicate state_width 0 ≡ release_numbers (lent_release (replicate state_width 0) (replicate most_begun 0))
    zeros_back = unfold release_numbers lent_release in refl

zero_begun : replicate most_begun 0 ≡ (state_of []).begun.bytes
zero_begun = zeros_back ∙ ap (λ (s : State). s.begun.bytes) state_zeros
  where
    zeros_back : replicate most_begun 0 ≡ (lent_release (replicate state_width 0) (replicate most_begun 0)).begun.bytes
    zeros_back = unfold lent_release in refl

fed_numbers : (x : ToFeed) → (fed_as x).numbers ≡ release_numbers (fed (lent_release x.numbers x.begun) x.piece)
unfolding fed_as
fed_numbers x = refl

fed_begun : (x : ToFeed) → (fed_as x).begun ≡ (fed (lent_release x.numbers x.begun) x.piece).begun.bytes
unfolding fed_as
fed_begun x = refl

fed_done : (x : ToFeed) → (fed_as x).done ≡ is_done (fed (lent_release x.numbers x.begun) x.piece)
unfolding fed_as
fed_done x = refl

finished_is : (x : ToFinish) → finished_as x ≡ figure_numbers (meant_by (ended (lent_release x.numbers x.begun)))
unfolding finished_as
finished_is x = refl

line_lines : (x : ToLine) → (line_as x).lines ≡ numbers_line x.figures
unfolding line_as
line_lines x = refl

verified_is : (form : Form) (x : ToVerify) → (verified_as form x).answer ≡ (verified x.sheet x.budget x.trace).answer
unfolding verified_as
verified_is form x = refl

-- Where so many lengths are read, so many sheets stand there.
read_all : (stream : List ℕ) → AllUnder 256 stream → most_lengths ≤ length (apart most_lengths stream).sheets
    → (sheets : List (List ℕ)) × (rest : List ℕ) × (length sheets ≡ most_lengths) × (stream ≡ framed sheets ++ rest)
read_all stream h all =
    let f = every_stream most_lengths stream h in
    ⊎_elim
    (λ (z : (length f.sheets < most_lengths) × (first f.rest ≡ none)).
    let same = ap (λ (s : List ℕ). apart most_lengths s) f.laid ∙ apart_cut most_lengths f.sheets f.rest z.0 z.1 in
    let count : length (apart most_lengths stream).sheets ≡ length f.sheets = ap (λ (a : Apart). length a.sheets) same in
    absurd (omega (arith, count, all, z.0)))
    (λ (z : length f.sheets ≡ most_lengths). (f.sheets, f.rest, z, f.laid))
    f.ends

-- An empty input, and an empty sheet.
empty_numbers : numbers_line (figure_numbers (figures [])) ≡ 0x30 ∷ 0x20 ∷ 0x30 ∷ 0x20 ∷ 0x30 ∷ 0x20 ∷ 0x30 ∷ 0x20 ∷ 0x30 ∷ 0x20 ∷ 0x30 ∷ 0x0A ∷ []
unfolding numbers_line figure_numbers figures
empty_numbers = refl

empty_sheet : (reading [] ≡ refused 2) × (figures (framed ([] ∷ [])) ≡ one_refused)
unfolding reading figures framed
empty_sheet = (refl, refl)

line_of : (stream : List ℕ) → numbers_line (figure_numbers (figures stream)) ≡ figures_line stream
unfolding figures_line
line_of stream = refl

-- Six numbers.
six_together : (f g : Figures) (one two both : List ℕ) → one ≡ figure_numbers f → two ≡ figure_numbers g → both ≡ figure_numbers (together f g) → both ≡ both_numbers one two
unfolding figure_numbers together both_numbers
six_together f g one two both a b c = c ∙ (λ i. both_numbers (sym a i) (sym b i))

six_add : (stream : List ℕ) (v i t r s g : ℕ) → v ∷ i ∷ t ∷ r ∷ s ∷ g ∷ [] ≡ figure_numbers (figures stream) → v + i + t + r ≡ lengths_begun stream
unfolding figure_numbers
six_add stream v i t r s g e = six_parts (figures stream) v i t r s g e ∙ figures_add_up stream
  where
    six_parts : (f : Figures) (v i t r s g : ℕ) → v ∷ i ∷ t ∷ r ∷ s ∷ g ∷ [] ≡ f.valid ∷ f.invalid ∷ f.stopped ∷ f.refused ∷ f.sum ∷ f.greatest ∷ []
        → v + i + t + r ≡ f.valid + f.invalid + f.stopped + f.refused
    six_parts f v i t r s g e =
        let a : v ≡ f.valid = cc in
        let b : i ≡ f.invalid = cc in
        let c : t ≡ f.stopped = cc in
        let d : r ≡ f.refused = cc in
        λ k. a k + b k + c k + d k

six_sum : (answers : List (Answer Verdict)) (cut v i t r s g : ℕ) → v ∷ i ∷ t ∷ r ∷ s ∷ g ∷ [] ≡ figure_numbers (figures_of answers cut) → s ≡ sum_of (map count_in answers)
unfolding figure_numbers
six_sum answers cut v i t r s g e = fifth (figures_of answers cut) v i t r s g e ∙ unfold figures_of in refl
  where
    fifth : (f : Figures) (v i t r s g : ℕ) → v ∷ i ∷ t ∷ r ∷ s ∷ g ∷ [] ≡ f.valid ∷ f.invalid ∷ f.stopped ∷ f.refused ∷ f.sum ∷ f.greatest ∷ [] → s ≡ f.sum
    fifth f v i t r s g e = cc

side_by_side : (sheets : List (List ℕ)) (rest : List ℕ) → length sheets + lengths_begun rest ≤ most_lengths
    → figures (framed sheets ++ rest) ≡ together (figures (framed sheets)) (figures rest)
side_by_side sheets rest fits =
    let few : length sheets ≤ most_lengths = omega (arith, fits) in
    let alone : framed sheets ++ [] ≡ framed sheets = append-nil (framed sheets) in
    let ends : (apart most_lengths (framed sheets)).cut ≡ [] =
    ap (λ (z : List ℕ). (apart most_lengths z).cut) (sym alone) ∙ ap (λ (a : Apart). a.cut) (apart_sheets most_lengths sheets few) in
    let count : lengths_begun (framed sheets) ≡ length sheets + 0 = ap lengths_begun (sym alone) ∙ begun_parts (all_whole few) in
    figures_together (framed sheets) rest ends (omega (arith, count, fits))

module _ {ℓ} (library : Library {ℓ}) (contracts : Contracts library) where
  -- The state after the bytes of a stream, whatever the pieces.
  pub fed_memory : {stream numbers begun : List ℕ} → Fed library stream numbers begun
      → (numbers ≡ release_numbers (state_of stream)) × (begun ≡ (state_of stream).begun.bytes)
  fed_memory nothing = (zero_numbers, zero_begun)
  fed_memory (piece {stream} x y f g) =
      let before = fed_memory f in
      let state : fed (lent_release x.numbers x.begun) x.piece ≡ state_of (stream ++ x.piece) =
      (λ i. fed (lent_release (before.0 i) (before.1 i)) x.piece) ∙ ap (λ (s : State). fed s x.piece) (held_back (state_of stream)) ∙ state_on stream x.piece in
      let given = contracts.feed_contract x y g in (
        ap (λ (z : AfterFeed). z.numbers) given ∙ fed_numbers x ∙ ap release_numbers state,
        ap (λ (z : AfterFeed). z.begun) given ∙ fed_begun x ∙ ap (λ (s : State). s.begun.bytes) state,
      )

  fed_state : {stream numbers begun : List ℕ} → Fed library stream numbers begun → lent_release numbers begun ≡ state_of stream
  fed_state {stream} f = let m = fed_memory f in (λ i. lent_release (m.0 i) (m.1 i)) ∙ held_back (state_of stream)

  figured : (stream numbers : List ℕ) → Figured library stream numbers → numbers ≡ figure_numbers (figures stream)
  figured stream numbers f =
      contracts.finish_contract f.asked numbers f.gave ∙ finished_is f.asked
      ∙ ap (λ (s : State). figure_numbers (meant_by (ended s))) (fed_state f.fed)
      ∙ ap figure_numbers (ended_figures stream)

  -- The verifier's own answers.
  answered : {sheets : List (List ℕ)} {answers : List (Answer Verdict)} → Answered library sheets answers → answers ≡ answers_to sheets
  unfolding answers_to
  answered spec.none = refl
  answered (spec.next form x y g b l rest) =
      let first_is = ap (λ (z : AfterVerify). z.answer) (contracts.verify_contract form x y g) ∙ verified_is form x
      ∙ ap (λ (n : ℕ). (verified x.sheet n x.trace).answer) b ∙ answer_is x.sheet x.trace (reading x.sheet) (admitted_long x.sheet x.trace l) in
      let later = answered rest in
      λ i. first_is i ∷ later i

  figures_right : (sheets : List (List ℕ)) (rest : List ℕ) (cut : ℕ) → Parts sheets rest cut → (answers : List (Answer Verdict)) → Answered library sheets answers
      → (numbers : List ℕ) → Figured library (framed sheets ++ rest) numbers → numbers ≡ figure_numbers (figures_of answers cut)
  figures_right sheets rest cut parts answers a numbers f =
      figured (framed sheets ++ rest) numbers f ∙ ap figure_numbers (by_parts parts) ∙ ap (λ (us : List (Answer Verdict)). figure_numbers (figures_of us cut)) (sym (answered a))

  -- Whether all lengths are read.
  done_is : (stream : List ℕ) (x : ToFeed) (y : AfterFeed) → Fed library stream x.numbers x.begun → Gave library.feed x y
      → y.done ≡ leb most_lengths (length (apart most_lengths (stream ++ x.piece)).sheets)
  done_is stream x y f g =
      ap (λ (z : AfterFeed). z.done) (contracts.feed_contract x y g) ∙ fed_done x
      ∙ ap (λ (s : State). is_done (fed s x.piece)) (fed_state f) ∙ ap is_done (state_on stream x.piece) ∙ state_done (stream ++ x.piece)

  done_exactly : (stream : List ℕ) (x : ToFeed) (y : AfterFeed) → Fed library stream x.numbers x.begun → Gave library.feed x y → AllUnder 256 (stream ++ x.piece)
      → (y.done ≡ true) ↔ ((sheets : List (List ℕ)) × (rest : List ℕ) × (length sheets ≡ most_lengths) × (stream ++ x.piece ≡ framed sheets ++ rest))
  done_exactly stream x y f g h = (
    λ e. read_all (stream ++ x.piece) h (leb-true most_lengths _ (sym (done_is stream x y f g) ∙ e)),
    λ w.
        let all = ap (λ (z : List ℕ). apart most_lengths z) w.3 ∙ apart_full most_lengths w.0 w.1 w.2 in
        let count : length (apart most_lengths (stream ++ x.piece)).sheets ≡ most_lengths = ap (λ (a : Apart). length a.sheets) all ∙ w.2 in
        done_is stream x y f g ∙ le-leb most_lengths (length (apart most_lengths (stream ++ x.piece)).sheets) (omega (arith, count)),
  )

  pub release : Release library
  release = record {
    figures_right = figures_right;
    every_input = every_input;
    figures_defined = figured;
    pieces_same = λ stream numbers numbers' begun begun' f f'.
        ((fed_memory f).0 ∙ sym (fed_memory f').0, (fed_memory f).1 ∙ sym (fed_memory f').1);
    done_exactly = done_exactly;
    line_right = λ stream numbers f x y e g. ap (λ (z : AfterPrint). z.lines) (contracts.line_contract x y g) ∙ line_lines x ∙ ap numbers_line (e ∙ figured stream numbers f) ∙ line_of stream;
    empty_line = λ numbers f. ap numbers_line (figured [] numbers f) ∙ empty_numbers;
    empty_sheet = empty_sheet;
    long_sheet = long_sheet;
    add_up = λ stream v i t r s g f. six_add stream v i t r s g (figured stream _ f);
    begun_right = λ sheets rest cut parts. begun_parts parts;
    sum_right = λ sheets rest cut parts answers a v i t r s g f. six_sum answers cut v i t r s g (figures_right sheets rest cut parts answers a _ f);
    side_by_side = λ sheets rest fits one two both f g h. six_together (figures (framed sheets)) (figures rest) one two both (figured _ _ f) (figured _ _ g) (figured _ _ h ∙ ap figure_numbers (side_by_side sheets rest fits));
  }
