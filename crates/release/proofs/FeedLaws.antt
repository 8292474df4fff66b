-- Feeding a piece: what stays true while its sheets are counted, and what is left behind the last. Assumes nothing.
use Rattle.std.proofs.Common.{◌≡◌, ℕ, zero, suc, ◌+◌, ◌-◌, ◌^◌, ◌<◌, ◌≤◌, List, [], ◌∷◌, ◌++◌, length, take, drop, sym, refl, ap, ◌∙◌, subst, ⊎_elim, append_assoc, append-nil, arith, length-drop, length-take-le, get_or-take, ext_get_or}
use lib.Seq.{take-nil}
use Rattle.std.specs.Prelude.{Result, Err}
use Rattle.format.specs.Syntax.{Sheet}
use Rattle.format.specs.Format.{Answer, refused, on_accepted, given_or, reading}
use Rattle.reader.specs.declared.refusal.Refusal.{Refusal}
use Rattle.reader.specs.Answers.{number_of}
use Rattle.semantics.specs.Verdict.{verdict_of, outcome_of, LongEnough, admitted, verified}
use Rattle.semantics.proofs.MemoryLaws.{admitted_long}
use Rattle.semantics.proofs.FigureLaws.{reading_long, answer_is}
use Rattle.semantics.specs.Figures.{most_lengths, cuts, release_budget, answer_to}
use Rattle.routine.specs.Tables.{prepared, sheet_heads, node_cells, set_words, TablesAfter}
use Rattle.verifier.specs.declared.verdict.Verdict.{Verdict}
use Rattle.verifier.specs.declared.verdict.VerifyError.{VerifyError}
use Rattle.verifier.specs.Answers.{answer_of, verified_by, cleared}
use Rattle.verifier.proofs.AnswerLaws.{parts}
use Rattle.release.specs.declared.figures.Figures.{Figures}
use Rattle.release.specs.declared.framing.Begun.{Begun}
use Rattle.release.specs.declared.feeding.Release.{Release}
use Rattle.release.specs.Counting.{no_figures, plus, counted_one, with_cut}
use Rattle.release.specs.Framing.{first_of, most_begun, size_of, begun_of, opened}
use Rattle.release.specs.Filling.{gathered, FilledUp}
use Rattle.release.specs.Feeding.{standing, onward, fed, state_of, ended, read_by, prepared_all, cleared_all, TablesAfterAll}
use Rattle.release.proofs.FramingLaws.{begun_none, first_length, first_get, size_first, size_least, opened_length, held_some, held_none}
use Rattle.release.proofs.CountLaws.{plus_none}
use Rattle.release.proofs.StreamLaws.{read_from, onward_done, onward_cut, onward_whole, read_done, read_cut, read_whole, state_on}

-- What is left of a piece behind the bytes that are counted so far gives what the whole piece gives.
pub record Going (o₀ piece heads₀ nodes₀ sets₀ memo₀ : List ℕ) (figures₀ : Figures) (lengths₀ : ℕ) (heads nodes sets memo : List ℕ) (figures : Figures) (lengths : ℕ) (begun : Begun) (rest : List ℕ) : Type 0 where
  pub bytes : List ℕ
  pub kept : begun ≡ gathered bytes
  pub within : length bytes ≤ size_of bytes
  pub state : onward figures lengths (bytes ++ rest) ≡ onward figures₀ lengths₀ (o₀ ++ piece)
  pub heads_left : prepared_all sheet_heads (read_from lengths (bytes ++ rest)) heads ≡ prepared_all sheet_heads (read_from lengths₀ (o₀ ++ piece)) heads₀
  pub nodes_left : prepared_all node_cells (read_from lengths (bytes ++ rest)) nodes ≡ prepared_all node_cells (read_from lengths₀ (o₀ ++ piece)) nodes₀
  pub sets_left : prepared_all set_words (read_from lengths (bytes ++ rest)) sets ≡ prepared_all set_words (read_from lengths₀ (o₀ ++ piece)) sets₀
  pub memo_stays : cleared_all (read_from lengths (bytes ++ rest)) memo ≡ cleared_all (read_from lengths₀ (o₀ ++ piece)) memo₀

-- What was answered for a whole sheet.
abbrev pub Answered : (bytes : List ℕ) (r : Result Verdict VerifyError) (heads nodes sets memo heads' nodes' sets' memo' : List ℕ) → Type 0
Answered bytes r heads nodes sets memo heads' nodes' sets' memo' =
    (answer_of r ≡ answer_to (reading (drop 2 bytes))) × (memo' ≡ cleared (reading (drop 2 bytes)) memo)
    × TablesAfter (reading (drop 2 bytes)) heads nodes sets heads' nodes' sets'

module _ {o₀ piece heads₀ nodes₀ sets₀ memo₀ : List ℕ} {figures₀ : Figures} {lengths₀ : ℕ} {heads nodes sets memo : List ℕ} {figures : Figures} {lengths : ℕ} {begun : Begun} {rest : List ℕ}
    (g : Going o₀ piece heads₀ nodes₀ sets₀ memo₀ figures₀ lengths₀ heads nodes sets memo figures lengths begun rest) where
  -- No more lengths are read.
  module _ (done : most_lengths ≤ lengths) where
    pub done_state : (r : Release) → r ≡ standing figures lengths [] → r ≡ onward figures₀ lengths₀ (o₀ ++ piece)
    done_state r e = e ∙ sym (onward_done figures lengths (g.bytes ++ rest) done) ∙ g.state

    none_read : read_from lengths (g.bytes ++ rest) ≡ []
    none_read = read_done lengths (g.bytes ++ rest) done

    pub done_memo : memo ≡ cleared_all (read_from lengths₀ (o₀ ++ piece)) memo₀
    unfolding cleared_all
    done_memo = sym (ap (λ (zs : List (Answer Sheet)). cleared_all zs memo) none_read) ∙ g.memo_stays

    pub done_tables : TablesAfterAll (read_from lengths₀ (o₀ ++ piece)) heads₀ nodes₀ sets₀ heads nodes sets
    unfolding prepared_all
    done_tables = (
      sym (ap (λ (zs : List (Answer Sheet)). prepared_all sheet_heads zs heads) none_read) ∙ g.heads_left,
      sym (ap (λ (zs : List (Answer Sheet)). prepared_all node_cells zs nodes) none_read) ∙ g.nodes_left,
      sym (ap (λ (zs : List (Answer Sheet)). prepared_all set_words zs sets) none_read) ∙ g.sets_left,
    )

  -- The piece is filled in, up to a whole sheet or to its end.
  module _ (more : lengths < most_lengths) (r : Begun) (rest' : List ℕ) (f : FilledUp g.bytes rest r rest') where
    abbrev pub filled : List ℕ
    filled = g.bytes ++ f.taken

    same_rest : filled ++ rest' ≡ g.bytes ++ rest
    same_rest = append_assoc g.bytes f.taken rest' ∙ ap (λ (z : List ℕ). g.bytes ++ z) f.split

    -- What the code sees of it.
    held_is : r.held ≡ length filled
    held_is = ap (λ (b : Begun). b.held) f.added ∙ unfold gathered in refl

    size_is : size_of r.bytes ≡ size_of filled
    size_is = ap (λ (b : Begun). size_of b.bytes) f.added ∙ unfold gathered in (size_first most_begun filled (omega arith))

    pub is_short : (size : ℕ) → size ≡ size_of r.bytes → r.held < size → length filled < size_of filled
    is_short size e h = omega (arith, h, e, held_is, size_is)

    pub is_not : (size : ℕ) → size ≡ size_of r.bytes → size ≤ r.held → size_of filled ≤ length filled
    is_not size e h = omega (arith, h, e, held_is, size_is)

    -- Not whole: the piece has ended.
    module _ (short : length filled < size_of filled) where
      at_end : rest' ≡ []
      at_end = ⊎_elim (λ (z : length filled ≡ size_of filled). absurd (omega (arith, z, short))) (λ (z : rest' ≡ []). z) f.full

      all_in : g.bytes ++ rest ≡ filled
      all_in = sym same_rest ∙ ap (λ (z : List ℕ). filled ++ z) at_end ∙ append-nil filled

      pub cut_state : (b : Begun) → b ≡ begun_of filled → (s : Release) → s ≡ record { figures = figures; lengths = lengths; begun = b } → s ≡ onward figures₀ lengths₀ (o₀ ++ piece)
      cut_state b stored s e =
          e ∙ unfold standing in (ap (λ (x : Begun). record { figures = figures; lengths = lengths; begun = x }) stored)
          ∙ sym (ap (onward figures lengths) all_in ∙ onward_cut figures lengths filled more short) ∙ g.state

      none_cut : read_from lengths (g.bytes ++ rest) ≡ []
      none_cut = ap (read_from lengths) all_in ∙ read_cut lengths filled more short

      pub cut_memo : memo ≡ cleared_all (read_from lengths₀ (o₀ ++ piece)) memo₀
      unfolding cleared_all
      cut_memo = sym (ap (λ (zs : List (Answer Sheet)). cleared_all zs memo) none_cut) ∙ g.memo_stays

      pub cut_tables : TablesAfterAll (read_from lengths₀ (o₀ ++ piece)) heads₀ nodes₀ sets₀ heads nodes sets
      unfolding prepared_all
      cut_tables = (
        sym (ap (λ (zs : List (Answer Sheet)). prepared_all sheet_heads zs heads) none_cut) ∙ g.heads_left,
        sym (ap (λ (zs : List (Answer Sheet)). prepared_all node_cells zs nodes) none_cut) ∙ g.nodes_left,
        sym (ap (λ (zs : List (Answer Sheet)). prepared_all set_words zs sets) none_cut) ∙ g.sets_left,
      )

    -- Whole: it is counted, and nothing is begun.
    module _ (not_IsShort : size_of filled ≤ length filled) where
      pub all_there : length filled ≡ size_of filled
      all_there = let m = f.most in omega (arith, not_IsShort, m)

      read_next : read_from lengths (g.bytes ++ rest) ≡ reading (drop 2 filled) ∷ read_from (lengths + 1) (rest')
      read_next = ap (read_from lengths) (sym same_rest) ∙ read_whole lengths filled (rest') more all_there

      module _ (answer : Result Verdict VerifyError) {heads' nodes' sets' memo' : List ℕ} (a : Answered filled answer heads nodes sets memo heads' nodes' sets' memo')
          (figures' : Figures) (counts : figures' ≡ counted_one figures (answer_of answer)) (begun' : Begun) (none : begun' ≡ gathered []) where
        counted_on : onward figures' (lengths + 1) (rest') ≡ onward figures₀ lengths₀ (o₀ ++ piece)
        counted_on =
            ap (λ (h : Figures). onward h (lengths + 1) (rest')) (counts ∙ ap (counted_one figures) a.0)
            ∙ sym (onward_whole figures lengths filled (rest') more all_there)
            ∙ ap (onward figures lengths) same_rest ∙ g.state

        table_on : (has : Sheet → List ℕ) (t t' last : List ℕ) → t' ≡ prepared has (reading (drop 2 filled)) t
            → prepared_all has (read_from lengths (g.bytes ++ rest)) t ≡ last → prepared_all has (read_from (lengths + 1) (rest')) t' ≡ last
        unfolding prepared_all
        table_on has t t' last e w =
            ap (prepared_all has (read_from (lengths + 1) (rest'))) e ∙ sym (ap (λ (zs : List (Answer Sheet)). prepared_all has zs t) read_next) ∙ w

        memo_on : cleared_all (read_from (lengths + 1) (rest')) memo' ≡ cleared_all (read_from lengths₀ (o₀ ++ piece)) memo₀
        unfolding cleared_all
        memo_on =
            ap (cleared_all (read_from (lengths + 1) (rest'))) a.1 ∙ sym (ap (λ (zs : List (Answer Sheet)). cleared_all zs memo) read_next) ∙ g.memo_stays

        pub going_next : Going o₀ piece heads₀ nodes₀ sets₀ memo₀ figures₀ lengths₀ heads' nodes' sets' memo' figures' (lengths + 1) begun' rest'
        going_next = record {
          bytes = [];
          kept = none;
          within = let s = size_least [] in omega (arith, s);
          state = counted_on;
          heads_left = table_on sheet_heads heads heads' _ a.2.0 g.heads_left;
          nodes_left = table_on node_cells nodes nodes' _ a.2.1 g.nodes_left;
          sets_left = table_on set_words sets sets' _ a.2.2 g.sets_left;
          memo_stays = memo_on;
        }

-- Where nothing is begun.
pub standing_none : (f : Figures) (lengths : ℕ) (b : Begun) → b ≡ gathered [] → ◌≡◌ {A = Release} (record { figures = f; lengths = lengths; begun = b }) (standing f lengths [])
unfolding standing
standing_none f lengths b e = ap (λ (x : Begun). record { figures = f; lengths = lengths; begun = x }) (e ∙ sym begun_none)

-- What was promised of the whole piece.
pub fed_promise : (self r : Release) (piece heads nodes sets memo heads' nodes' sets' memo' : List ℕ)
    → r ≡ onward self.figures self.lengths (opened self.begun ++ piece)
    → memo' ≡ cleared_all (read_from self.lengths (opened self.begun ++ piece)) memo
    → TablesAfterAll (read_from self.lengths (opened self.begun ++ piece)) heads nodes sets heads' nodes' sets'
    → (r ≡ fed self piece) × ((stream : List ℕ) → self ≡ state_of stream → r ≡ state_of (stream ++ piece))
    × (memo' ≡ cleared_all (read_by self piece) memo) × TablesAfterAll (read_by self piece) heads nodes sets heads' nodes' sets'
unfolding fed read_by
fed_promise self r piece heads nodes sets memo heads' nodes' sets' memo' s m t =
    (s, λ stream e. s ∙ ap (λ (x : Release). fed x piece) e ∙ state_on stream piece, m, t)

-- The state of no bytes, and that at the end.
pub state_none : state_of [] ≡ record { figures = no_figures; lengths = 0; begun = gathered [] }
unfolding state_of standing
state_none =
    onward_cut no_figures 0 [] (omega arith) (let s = size_least [] in omega (arith, s))
    ∙ (λ i. record { figures = no_figures; lengths = 0; begun = begun_none i })

pub ended_cut : (state : Release) → 0 < state.begun.held → with_cut 1 state.figures ≡ ended state
unfolding ended
ended_cut state h = ap (λ (n : ℕ). with_cut n state.figures) (sym (some_cut (opened state.begun) (omega (arith, opened_length state.begun, held_some state.begun h))))
  where
    some_cut : (o : List ℕ) → 0 < length o → cuts o ≡ 1
    some_cut [] l = absurd (omega (arith, l))
    some_cut (b ∷ o) l = unfold cuts in refl

pub ended_not : (state : Release) → state.figures.refused < 2 ^ 64 → state.begun.held ≤ 0 → state.figures ≡ ended state
unfolding ended with_cut
ended_not state small h =
    let none : cuts (opened state.begun) ≡ 0 = no_cut (opened state.begun) (omega (arith, opened_length state.begun, held_none state.begun h)) in
    let f = state.figures in
    let same : f.refused ≡ plus f.refused (cuts (opened state.begun)) = plus_none f.refused small ∙ ap (plus f.refused) (sym none) in
    λ i. record { valid = f.valid; invalid = f.invalid; stopped = f.stopped; refused = same i; sum = f.sum; greatest = f.greatest }
  where
    no_cut : (o : List ℕ) → length o ≤ 0 → cuts o ≡ 0
    no_cut [] l = unfold cuts in refl
    no_cut (b ∷ o) l = absurd (omega (arith, l))

-- A whole sheet as the verifier is given it.
first_taken : (o : List ℕ) (size : ℕ) → size ≡ length o → size ≤ most_begun → take size (first_of most_begun o) ≡ o
first_taken o size e h =
    let long : length (take size (first_of most_begun o)) ≡ size = length-take-le size (first_of most_begun o) (omega (arith, h, first_length most_begun o)) in
    ext_get_or 0 _ o (long ∙ e) (λ i l.
    let below : i < size = omega (arith, l, long) in
    get_or-take size (first_of most_begun o) i 0 below ∙ first_get most_begun o i (omega (arith, below, h)))

take_of_drop : (n : ℕ) (xs : List ℕ) → take (n - 2) (drop 2 xs) ≡ drop 2 (take n xs)
take_of_drop zero xs = refl
take_of_drop (suc zero) [] = refl
take_of_drop (suc zero) (x ∷ xs) = refl
take_of_drop (suc (suc n)) [] = take-nil (suc (suc n) - 2)
take_of_drop (suc (suc n)) (x ∷ []) = take-nil (suc (suc n) - 2)
take_of_drop (suc (suc n)) (x ∷ y ∷ zs) =
    let same : suc (suc n) - 2 ≡ n = omega arith in
    ap (λ (k : ℕ). take k zs) same

sheet_given : (o : List ℕ) (size : ℕ) → size ≡ length o → size ≤ most_begun → take (size - 2) (drop 2 (first_of most_begun o)) ≡ drop 2 o
sheet_given o size e h =
    take_of_drop size (first_of most_begun o) ∙ ap (drop 2) (first_taken o size e h)

pub sheet_kept_law : (begun : Begun) (o : List ℕ) (size : ℕ) → begun ≡ gathered o → size ≡ length o → size ≤ most_begun → take (size - 2) (drop 2 begun.bytes) ≡ drop 2 o
unfolding gathered
sheet_kept_law begun o size k e h = ap (λ (b : Begun). take (size - 2) (drop 2 b.bytes)) k ∙ sheet_given o size e h

-- The answer to one that is too long, and that of the verifier to any other.
long_read : (bytes : List ℕ) → length bytes ≡ size_of bytes → most_begun < size_of bytes → reading (drop 2 bytes) ≡ refused 1
long_read bytes all long = reading_long (drop 2 bytes) (omega (arith, length-drop 2 bytes, all, long))

pub answered_long : (bytes heads nodes sets memo : List ℕ) → length bytes ≡ size_of bytes → most_begun < size_of bytes
    → Answered bytes (Err (VerifyError.Refused Refusal.Length)) heads nodes sets memo heads nodes sets memo
answered_long bytes heads nodes sets memo all long =
    subst (λ (a : Answer Sheet). (answer_of (Err (VerifyError.Refused Refusal.Length)) ≡ answer_to a) × (memo ≡ cleared a memo) × TablesAfter a heads nodes sets heads nodes sets)
    (sym (long_read bytes all long)) (refused_one heads nodes sets memo)
  where
    refused_one : (heads nodes sets memo : List ℕ)
        → (answer_of (Err (VerifyError.Refused Refusal.Length)) ≡ answer_to (refused 1)) × (memo ≡ cleared (refused 1) memo) × TablesAfter (refused 1) heads nodes sets heads nodes sets
    refused_one heads nodes sets memo = unfold answer_of number_of answer_to verdict_of outcome_of on_accepted cleared prepared given_or in (refl, refl, (refl, refl, refl))

pub answered_verified : (bytes sheet old : List ℕ) (r : Result Verdict VerifyError) (trace heads nodes sets memo heads' nodes' sets' memo' : List ℕ) → sheet ≡ drop 2 bytes → LongEnough old
    → verified_by r trace ≡ verified sheet release_budget old → memo' ≡ cleared (admitted sheet old) memo
    → TablesAfter (admitted sheet old) heads nodes sets heads' nodes' sets' → Answered bytes r heads nodes sets memo heads' nodes' sets' memo'
answered_verified bytes sheet old r trace heads nodes sets memo heads' nodes' sets' memo' e long v m t =
    let read : admitted sheet old ≡ reading (drop 2 bytes) = admitted_long sheet old long ∙ ap reading e in
    let answer : (verified sheet release_budget old).answer ≡ answer_to (reading (drop 2 bytes)) = answer_is sheet old (reading (drop 2 bytes)) read in
    ((parts r trace _ v).0 ∙ answer, m ∙ ap (λ (a : Answer Sheet). cleared a memo) read, subst (λ (a : Answer Sheet). TablesAfter a heads nodes sets heads' nodes' sets') read t)
