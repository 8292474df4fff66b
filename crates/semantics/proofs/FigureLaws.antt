-- A stream taken apart: whole sheets and what is behind them, streams laid end to end; and the figures: that four of them add up to the lengths begun, how large they get, and
-- that those of streams laid end to end are their sums. Assumes nothing.
use Prim.Native.Nat.{ℕ, zero, suc, ◌+◌, ◌*◌, ◌-◌, ◌/◌, ◌%◌, ◌≤◌, ◌<◌}
use native.Mathlib.Omega.{arith}
use mathlib.Core.Path.{◌≡◌, refl, sym, ap, subst, ◌∙◌}
use mathlib.Core.Logic.{◌⊎◌, inl, inr, ⊎_elim}
use mathlib.Core.List.{List, [], ◌∷◌, ◌++◌, map, map-append, append_assoc, append-nil}
use mathlib.Core.Bool.{Bool, true, false}
use lib.Dec.{ltb}
use lib.ListN.{length, take, drop, replicate, length-replicate, length-append, length-map, take-append-drop}
use lib.Seq.{take-append-le, drop-append-le, take-append_seam, drop-append_seam, length-take-le}
use borrow.Author.Tests.{ltb-true, ltb-false, lt-ltb, le-ltb}
use Rattle.lists.proofs.ListLaws.{keep_append, kept_length}
use Rattle.lists.specs.Lists.{keep, AllUnder}
use Rattle.std.specs.Prelude.{if◌then◌else◌}
use Rattle.format.specs.Syntax.{Sheet}
use Rattle.format.specs.Format.{Answer, gives, refused, on_accepted, most_bytes, reading, is_edition, header}
use Rattle.format.proofs.ReaderLaws.{sheet_long}
use Rattle.format.proofs.SheetLaws.{reading_refused}
use Rattle.semantics.specs.Verdict.{Verdict, valid, invalid, stopped, history_count, failures, concluded, outcome, outcome_of, verdict_of, longest_trace, admitted, verified}
use Rattle.semantics.specs.Runs.{History}
use Rattle.semantics.proofs.MemoryLaws.{admitted_long, invalid_short}
use Rattle.semantics.specs.Figures.{framed, AllSaid, First, whole, none, behind_length, first, Apart, apart_behind, apart, most_lengths, cuts, lengths_begun, release_budget, answer_to, answers_to, is_valid, is_invalid, is_stopped, is_refused, count_in, length_in, how_many, sum_of, greater, greatest_of, figures_of, together, figures}

-- What stands first.
pub first_some : (n : ℕ) (rest : List ℕ) → n ≤ length rest → behind_length n rest ≡ whole (take n rest) (drop n rest)
unfolding behind_length
first_some n rest h = ap (λ (b : Bool). if b then none else whole (take n rest) (drop n rest)) (le-ltb (length rest) n h)

pub first_cut : (n : ℕ) (rest : List ℕ) → length rest < n → behind_length n rest ≡ none
unfolding behind_length
first_cut n rest h = ap (λ (b : Bool). if b then none else whole (take n rest) (drop n rest)) (lt-ltb (length rest) n h)

never : {A : Type 0} {s r : List ℕ} → none ≡ whole s r → A
never e = let z : ◌≡◌ {A = ℕ} 0 1 = cc in absurd (omega (arith, z))

-- A whole sheet stays what stands first, whatever is laid behind.
pub first_append : (x y s r : List ℕ) → first x ≡ whole s r → first (x ++ y) ≡ whole s (r ++ y)
unfolding first
first_append [] y s r e = never e
first_append (b ∷ []) y s r e = never e
first_append (b ∷ c ∷ rest) y s r e = go (ltb (length rest) n) refl
  where
    n : ℕ
    n = 256 * b + c

    go : (t : Bool) → ltb (length rest) n ≡ t → behind_length n (rest ++ y) ≡ whole s (r ++ y)
    go true t = never (sym (first_cut n rest (ltb-true (length rest) n t)) ∙ e)
    go false t =
        let fits : n ≤ length rest = ltb-false (length rest) n t in
        let same : whole (take n rest) (drop n rest) ≡ whole s r = sym (first_some n rest fits) ∙ e in
        let taken : take n rest ≡ s = cc in
        let left : drop n rest ≡ r = cc in
        first_some n (rest ++ y) (omega (arith, fits, length-append rest y))
        ∙ (λ i. whole ((take-append-le n rest y fits ∙ taken) i) ((drop-append-le n rest y fits ∙ ap (λ (z : List ℕ). z ++ y) left) i))

-- Taking apart, by what stands first.
pub apart_none : (k : ℕ) (s : List ℕ) → first s ≡ none → apart (suc k) s ≡ record { sheets = []; cut = s }
unfolding apart apart_behind
apart_none k s e = ap (λ (f : First). apart_behind s f (apart k)) e

pub apart_whole : (k : ℕ) (s b r : List ℕ) → first s ≡ whole b r → apart (suc k) s ≡ record { sheets = b ∷ (apart k r).sheets; cut = (apart k r).cut }
unfolding apart apart_behind
apart_whole k s b r e = ap (λ (f : First). apart_behind s f (apart k)) e

-- Of no bytes.
pub apart_empty : (k : ℕ) → apart k [] ≡ record { sheets = []; cut = [] }
unfolding apart apart_behind first
apart_empty zero = refl
apart_empty (suc k) = refl

-- What is cut has no whole sheet, and there are no more sheets than lengths.
pub cut_none : (k : ℕ) (s : List ℕ) → first (apart k s).cut ≡ none
unfolding apart first
cut_none zero s = refl
cut_none (suc k) s = go (first s) refl (λ r. cut_none k r)
  where
    go : (f : First) → first s ≡ f → ((r : List ℕ) → first (apart k r).cut ≡ none) → first (apart (suc k) s).cut ≡ none
    go none e more = ap (λ (a : Apart). first a.cut) (apart_none k s e) ∙ e
    go (whole b r) e more = ap (λ (a : Apart). first a.cut) (apart_whole k s b r e) ∙ more r

pub sheets_most : (k : ℕ) (s : List ℕ) → length (apart k s).sheets ≤ k
unfolding apart
sheets_most zero s = omega arith
sheets_most (suc k) s = go (first s) refl (λ r. sheets_most k r)
  where
    go : (f : First) → first s ≡ f → ((r : List ℕ) → length (apart k r).sheets ≤ k) → length (apart (suc k) s).sheets ≤ suc k
    go none e more = subst (λ (a : Apart). length a.sheets ≤ suc k) (sym (apart_none k s e)) (omega arith)
    go (whole b r) e more = subst (λ (a : Apart). length a.sheets ≤ suc k) (sym (apart_whole k s b r e)) (omega (arith, more r))

-- Two streams end to end: the sheets of the first, and what it cuts with the second behind it.
abbrev pub joined : (a b : Apart) → Apart
joined a b = record { sheets = a.sheets ++ b.sheets; cut = b.cut }

abbrev pub behind : (k : ℕ) (a : Apart) (y : List ℕ) → Apart
behind k a y = apart (k - length a.sheets) (a.cut ++ y)

pub apart_append : (k : ℕ) (x y : List ℕ) → apart k (x ++ y) ≡ joined (apart k x) (behind k (apart k x) y)
unfolding apart
apart_append zero x y = refl
apart_append (suc k) x y = go (first x) refl (λ r. apart_append k r y)
  where
    go : (f : First) → first x ≡ f → ((r : List ℕ) → apart k (r ++ y) ≡ joined (apart k r) (behind k (apart k r) y))
        → apart (suc k) (x ++ y) ≡ joined (apart (suc k) x) (behind (suc k) (apart (suc k) x) y)
    go none e more =
        let all : suc k ≡ suc k - 0 = omega arith in
        ap (λ (n : ℕ). apart n (x ++ y)) all
        ∙ sym (ap (λ (a : Apart). joined a (behind (suc k) a y)) (apart_none k x e))
    go (whole b r) e more =
        let left : k - length (apart k r).sheets ≡ suc k - suc (length (apart k r).sheets) = omega arith in
        apart_whole k (x ++ y) b (r ++ y) (first_append x y b r e)
        ∙ ap (λ (a : Apart). record { sheets = b ∷ a.sheets; cut = a.cut }) (more r)
        ∙ ap (λ (n : ℕ). record { sheets = b ∷ ((apart k r).sheets ++ (apart n ((apart k r).cut ++ y)).sheets); cut = (apart n ((apart k r).cut ++ y)).cut }) left
        ∙ sym (ap (λ (a : Apart). joined a (behind (suc k) a y)) (apart_whole k x b r e))

-- Where no more lengths are begun than may be, more may be.
none_begun : (xs : List (List ℕ)) → length xs ≤ 0 → xs ≡ []
none_begun [] h = refl
none_begun (x ∷ xs) h = absurd (omega (arith, h))

none_cut : (xs : List ℕ) → cuts xs ≤ 0 → xs ≡ []
unfolding cuts
none_cut [] h = refl
none_cut (x ∷ xs) h = absurd (omega (arith, h))

apart_fewer : (m k : ℕ) (y : List ℕ) → m ≤ k → length (apart k y).sheets + cuts (apart k y).cut ≤ m → apart m y ≡ apart k y
apart_fewer zero k y le few =
    let s = none_begun (apart k y).sheets (omega (arith, few)) in
    let c = none_cut (apart k y).cut (omega (arith, few)) in
    unfold apart in (λ i. record { sheets = sym s i; cut = sym c i })
apart_fewer (suc m) zero y le few = absurd (omega (arith, le))
apart_fewer (suc m) (suc k) y le few = go (first y) refl (λ r h. apart_fewer m k r (omega (arith, le)) h)
  where
    go : (f : First) → first y ≡ f → ((r : List ℕ) → length (apart k r).sheets + cuts (apart k r).cut ≤ m → apart m r ≡ apart k r) → apart (suc m) y ≡ apart (suc k) y
    go none e more = apart_none m y e ∙ sym (apart_none k y e)
    go (whole b r) e more =
        let few' : length (apart k r).sheets + cuts (apart k r).cut ≤ m =
        let h = subst (λ (a : Apart). length a.sheets + cuts a.cut ≤ suc m) (apart_whole k y b r e) few in omega (arith, h) in
        apart_whole m y b r e ∙ ap (λ (a : Apart). record { sheets = b ∷ a.sheets; cut = a.cut }) (more r few') ∙ sym (apart_whole k y b r e)

-- A sheet of more than 1,024 bytes is refused, whatever they are.
pub reading_long : (bytes : List ℕ) → most_bytes < length bytes → reading bytes ≡ refused 1
reading_long bytes h = reading_refused bytes (sym (sheet_long (header is_edition) bytes 0 h))

-- Each answer is counted once.
each_once : (a : Answer Verdict) (answers : List (Answer Verdict))
    → how_many is_valid (a ∷ answers) + how_many is_invalid (a ∷ answers) + how_many is_stopped (a ∷ answers) + how_many is_refused (a ∷ answers)
    ≡ suc (how_many is_valid answers + how_many is_invalid answers + how_many is_stopped answers + how_many is_refused answers)
unfolding how_many keep is_valid is_invalid is_stopped is_refused
each_once (gives (valid c)) answers = omega arith
each_once (gives (invalid c l)) answers = omega arith
each_once (gives (stopped b)) answers = omega arith
each_once (refused r) answers = omega arith

four_add : (answers : List (Answer Verdict)) → how_many is_valid answers + how_many is_invalid answers + how_many is_stopped answers + how_many is_refused answers ≡ length answers
unfolding how_many keep
four_add [] = refl
four_add (a ∷ answers) = unfold how_many in (each_once a answers) ∙ ap suc (four_add answers)

with_cut_law : (v i t r n l c : ℕ) → v + i + t + r ≡ n → n ≡ l → v + i + t + (r + c) ≡ l + c
with_cut_law v i t r n l c e f = omega (arith, e, f)

pub answers_length : (sheets : List (List ℕ)) → length (answers_to sheets) ≡ length sheets
unfolding answers_to
answers_length sheets = length-map sheets (λ bytes. answer_to (reading bytes))

pub figures_add_up : (stream : List ℕ) → (figures stream).valid + (figures stream).invalid + (figures stream).stopped + (figures stream).refused ≡ lengths_begun stream
unfolding figures figures_of lengths_begun
figures_add_up stream =
    let a = apart most_lengths stream in
    with_cut_law _ _ _ _ _ _ (cuts a.cut) (four_add (answers_to a.sheets)) (answers_length a.sheets)

-- The verdict over and within the budget.
over_budget : (sheet : Sheet) (budget : ℕ) → ltb budget (history_count sheet) ≡ true → (outcome sheet budget).verdict ≡ stopped budget
unfolding outcome
over_budget sheet budget e =
    ap (λ (b : Bool). (if b then record { verdict = stopped budget; shown = [] } else concluded sheet (history_count sheet) (failures sheet)).verdict) e

within_budget : (sheet : Sheet) (budget : ℕ) → ltb budget (history_count sheet) ≡ false
    → (outcome sheet budget).verdict ≡ (concluded sheet (history_count sheet) (failures sheet)).verdict
unfolding outcome
within_budget sheet budget e =
    ap (λ (b : Bool). (if b then record { verdict = stopped budget; shown = [] } else concluded sheet (history_count sheet) (failures sheet)).verdict) e

-- A count is within the budget, and so the sum within as many budgets as there are sheets.
concluded_most : (sheet : Sheet) (c : ℕ) (failing : List History) → count_in (gives (concluded sheet c failing).verdict) ≡ c
unfolding concluded count_in
concluded_most sheet c [] = refl
concluded_most sheet c (h ∷ later) = refl

count_most : (a : Answer Sheet) → count_in (answer_to a) ≤ release_budget
unfolding answer_to outcome_of verdict_of on_accepted count_in
count_most (refused r) = omega arith
count_most (gives sheet) = go (ltb release_budget (history_count sheet)) refl
  where
    go : (b : Bool) → ltb release_budget (history_count sheet) ≡ b → count_in (gives (outcome sheet release_budget).verdict) ≤ release_budget
    go true e =
        subst (λ (v : Verdict). count_in (gives v) ≤ release_budget) (sym (over_budget sheet release_budget e)) (unfold count_in in (omega arith))
    go false e =
        subst (λ (v : Verdict). count_in (gives v) ≤ release_budget) (sym (within_budget sheet release_budget e))
        (omega (arith, concluded_most sheet (history_count sheet) (failures sheet), ltb-false release_budget (history_count sheet) e))

pub sum_most : (sheets : List (List ℕ)) → sum_of (map count_in (answers_to sheets)) ≤ release_budget * length sheets
unfolding answers_to sum_of
sum_most [] = omega arith
sum_most (bytes ∷ sheets) = let rest = sum_most sheets in omega (arith, count_most (reading bytes), rest)

-- Numbers of lists laid end to end.
many_append : {A : Type 0} (test : A → Bool) (xs ys : List A) → how_many test (xs ++ ys) ≡ how_many test xs + how_many test ys
unfolding how_many
many_append test xs ys = kept_length test xs ys

sum_append : {A : Type 0} (f : A → ℕ) (xs ys : List A) → sum_of (map f (xs ++ ys)) ≡ sum_of (map f xs) + sum_of (map f ys)
unfolding sum_of
sum_append f [] ys = omega arith
sum_append f (x ∷ xs) ys = let rest = sum_append f xs ys in omega (arith, rest)

-- The greater of two numbers.
pub greater_right : (a b : ℕ) → a ≤ b → greater a b ≡ b
unfolding greater
greater_right a b h = go (ltb a b) refl
  where
    go : (t : Bool) → ltb a b ≡ t → (if t then b else a) ≡ b
    go true e = refl
    go false e = omega (arith, h, ltb-false a b e)

pub greater_left : (a b : ℕ) → b ≤ a → greater a b ≡ a
unfolding greater
greater_left a b h = go (ltb a b) refl
  where
    go : (t : Bool) → ltb a b ≡ t → (if t then b else a) ≡ a
    go true e = omega (arith, h, ltb-true a b e)
    go false e = refl

pub greater_assoc : (a b c : ℕ) → greater (greater a b) c ≡ greater a (greater b c)
greater_assoc a b c = go (ltb a b) refl (ltb b c) refl
  where
    go : (t : Bool) → ltb a b ≡ t → (u : Bool) → ltb b c ≡ u → greater (greater a b) c ≡ greater a (greater b c)
    go true e true f =
        let p = ltb-true a b e in
        let q = ltb-true b c f in
        ap (λ (n : ℕ). greater n c) (greater_right a b (omega (arith, p))) ∙ greater_right b c (omega (arith, q))
        ∙ sym (ap (greater a) (greater_right b c (omega (arith, q))) ∙ greater_right a c (omega (arith, p, q)))
    go true e false f =
        let p = ltb-true a b e in
        let q = ltb-false b c f in
        ap (λ (n : ℕ). greater n c) (greater_right a b (omega (arith, p))) ∙ greater_left b c q
        ∙ sym (ap (greater a) (greater_left b c q) ∙ greater_right a b (omega (arith, p)))
    go false e true f =
        let p = ltb-false a b e in
        let q = ltb-true b c f in
        ap (λ (n : ℕ). greater n c) (greater_left a b p) ∙ ap (greater a) (sym (greater_right b c (omega (arith, q))))
    go false e false f =
        let p = ltb-false a b e in
        let q = ltb-false b c f in
        ap (λ (n : ℕ). greater n c) (greater_left a b p) ∙ greater_left a c (omega (arith, p, q))
        ∙ sym (ap (greater a) (greater_left b c q) ∙ greater_left a b p)

greatest_append : (xs ys : List ℕ) → greatest_of (xs ++ ys) ≡ greater (greatest_of xs) (greatest_of ys)
unfolding greatest_of
greatest_append [] ys = sym (greater_right 0 (greatest_of ys) (omega arith))
greatest_append (x ∷ xs) ys = ap (greater x) (greatest_append xs ys) ∙ sym (greater_assoc x (greatest_of xs) (greatest_of ys))

lengths_append : (us vs : List (Answer Verdict))
    → greatest_of (map length_in (keep is_invalid (us ++ vs))) ≡ greater (greatest_of (map length_in (keep is_invalid us))) (greatest_of (map length_in (keep is_invalid vs)))
lengths_append us vs =
    ap (λ (zs : List (Answer Verdict)). greatest_of (map length_in zs)) (keep_append is_invalid us vs)
    ∙ ap greatest_of (map-append length_in (keep is_invalid us) (keep is_invalid vs))
    ∙ greatest_append (map length_in (keep is_invalid us)) (map length_in (keep is_invalid vs))

pub answers_append : (xs ys : List (List ℕ)) → answers_to (xs ++ ys) ≡ answers_to xs ++ answers_to ys
unfolding answers_to
answers_append xs ys = map-append (λ bytes. answer_to (reading bytes)) xs ys

-- The figures of a stream, by what it is taken apart into.
pub figures_by : (stream : List ℕ) (a : Apart) → apart most_lengths stream ≡ a → figures stream ≡ figures_of (answers_to a.sheets) (cuts a.cut)
unfolding figures
figures_by stream a e = ap (λ (b : Apart). figures_of (answers_to b.sheets) (cuts b.cut)) e

-- The figures of answers laid end to end.
figures_append : (us vs : List (Answer Verdict)) (cut : ℕ) → figures_of (us ++ vs) cut ≡ together (figures_of us 0) (figures_of vs cut)
unfolding figures_of together
figures_append us vs cut =
    let v = many_append is_valid us vs in
    let i = many_append is_invalid us vs in
    let t = many_append is_stopped us vs in
    let r : how_many is_refused (us ++ vs) + cut ≡ (how_many is_refused us + 0) + (how_many is_refused vs + cut) =
    let m = many_append is_refused us vs in omega (arith, m) in
    let s = sum_append count_in us vs in
    let g = lengths_append us vs in
    λ j. record { valid = v j; invalid = i j; stopped = t j; refused = r j; sum = s j; greatest = g j }

-- The figures of a stream of whole sheets with another behind it, where they begin no more lengths than are read.
module _ (x y : List ℕ) (ends : (apart most_lengths x).cut ≡ []) (fits : lengths_begun x + lengths_begun y ≤ most_lengths) where
  abbrev first_part : Apart
  first_part = apart most_lengths x

  begun_first : lengths_begun x ≡ length first_part.sheets
  unfolding lengths_begun cuts
  begun_first =
      let none : cuts first_part.cut ≡ 0 = ap cuts ends in
      omega (arith, none)

  begun_second : length (apart most_lengths y).sheets + cuts (apart most_lengths y).cut ≤ most_lengths - length first_part.sheets
  begun_second =
      let second : lengths_begun y ≡ length (apart most_lengths y).sheets + cuts (apart most_lengths y).cut = unfold lengths_begun in refl in
      omega (arith, fits, begun_first, second)

  apart_both : apart most_lengths (x ++ y) ≡ joined first_part (apart most_lengths y)
  apart_both =
      apart_append most_lengths x y
      ∙ ap (λ (z : List ℕ). joined first_part (apart (most_lengths - length first_part.sheets) (z ++ y))) ends
      ∙ ap (joined first_part) (apart_fewer (most_lengths - length first_part.sheets) most_lengths y (omega arith) begun_second)

  pub figures_together : figures (x ++ y) ≡ together (figures x) (figures y)
  figures_together =
      figures_by (x ++ y) (joined first_part (apart most_lengths y)) apart_both
      ∙ ap (λ (us : List (Answer Verdict)). figures_of us (cuts (apart most_lengths y).cut)) (answers_append first_part.sheets (apart most_lengths y).sheets)
      ∙ figures_append (answers_to first_part.sheets) (answers_to (apart most_lengths y).sheets) (cuts (apart most_lengths y).cut)
      ∙ sym (λ i. together (by_cut i) (figures_by y (apart most_lengths y) refl i))
    where
      by_cut : figures x ≡ figures_of (answers_to first_part.sheets) 0
      by_cut = figures_by x first_part refl ∙ ap (figures_of (answers_to first_part.sheets)) (ap cuts ends ∙ unfold cuts in refl)

-- A stream of sheets is taken apart into them, and what is cut behind them.
said_back : (n : ℕ) → 256 * (n / 256) + n % 256 ≡ n
said_back n = omega arith

first_framed : (sheet : List ℕ) (sheets : List (List ℕ)) (rest : List ℕ) → first (framed (sheet ∷ sheets) ++ rest) ≡ whole sheet (framed sheets ++ rest)
unfolding framed first
first_framed sheet sheets rest =
    ap (λ (n : ℕ). behind_length n ((sheet ++ framed sheets) ++ rest)) (said_back (length sheet))
    ∙ ap (behind_length (length sheet)) (append_assoc sheet (framed sheets) rest)
    ∙ first_some (length sheet) (sheet ++ (framed sheets ++ rest)) (omega (arith, length-append sheet (framed sheets ++ rest)))
    ∙ (λ i. whole (take-append_seam sheet (framed sheets ++ rest) i) (drop-append_seam sheet (framed sheets ++ rest) i))

apart_framed : (k : ℕ) (sheets : List (List ℕ)) (rest : List ℕ) → length sheets ≤ k
    → apart k (framed sheets ++ rest) ≡ record { sheets = sheets ++ (apart (k - length sheets) rest).sheets; cut = (apart (k - length sheets) rest).cut }
unfolding framed
apart_framed k [] rest h =
    let all : k ≡ k - 0 = omega arith in
    ap (λ (n : ℕ). apart n rest) all
apart_framed zero (sheet ∷ sheets) rest h = absurd (omega (arith, h))
apart_framed (suc k) (sheet ∷ sheets) rest h =
    let more = apart_framed k sheets rest (omega (arith, h)) in
    let left : k - length sheets ≡ suc k - suc (length sheets) = omega arith in
    apart_whole k (framed (sheet ∷ sheets) ++ rest) sheet (framed sheets ++ rest) (first_framed sheet sheets rest)
    ∙ ap (λ (a : Apart). record { sheets = sheet ∷ a.sheets; cut = a.cut }) more
    ∙ ap (λ (n : ℕ). record { sheets = sheet ∷ (sheets ++ (apart n rest).sheets); cut = (apart n rest).cut }) left

-- With fewer sheets than lengths, what has no whole sheet is cut; with as many, nothing more is looked at.
pub apart_cut : (k : ℕ) (sheets : List (List ℕ)) (rest : List ℕ) → length sheets < k → first rest ≡ none → apart k (framed sheets ++ rest) ≡ record { sheets = sheets; cut = rest }
apart_cut k sheets rest h e =
    let left : k - length sheets ≡ suc (k - length sheets - 1) = omega (arith, h) in
    apart_framed k sheets rest (omega (arith, h))
    ∙ ap (λ (a : Apart). record { sheets = sheets ++ a.sheets; cut = a.cut }) (ap (λ (n : ℕ). apart n rest) left ∙ apart_none (k - length sheets - 1) rest e)
    ∙ ap (λ (z : List (List ℕ)). record { sheets = z; cut = rest }) (append-nil sheets)

apart_none_left : (rest : List ℕ) → apart 0 rest ≡ record { sheets = []; cut = [] }
unfolding apart
apart_none_left rest = refl

pub apart_full : (k : ℕ) (sheets : List (List ℕ)) (rest : List ℕ) → length sheets ≡ k → apart k (framed sheets ++ rest) ≡ record { sheets = sheets; cut = [] }
apart_full k sheets rest e =
    let none_left : k - length sheets ≡ 0 = omega (arith, e) in
    apart_framed k sheets rest (omega (arith, e))
    ∙ ap (λ (a : Apart). record { sheets = sheets ++ a.sheets; cut = a.cut }) (ap (λ (n : ℕ). apart n rest) none_left ∙ apart_none_left rest)
    ∙ ap (λ (z : List (List ℕ)). record { sheets = z; cut = [] }) (append-nil sheets)

-- Nothing behind them is cut.
pub apart_sheets : (k : ℕ) (sheets : List (List ℕ)) → length sheets ≤ k → apart k (framed sheets ++ []) ≡ record { sheets = sheets; cut = [] }
apart_sheets k sheets h =
    apart_framed k sheets [] h
    ∙ ap (λ (a : Apart). record { sheets = sheets ++ a.sheets; cut = a.cut }) (apart_empty (k - length sheets))
    ∙ ap (λ (z : List (List ℕ)). record { sheets = z; cut = [] }) (append-nil sheets)

-- Every stream of bytes is sheets behind their lengths, and then what has no whole sheet, unless as many lengths are read as may be.
pub record Framing (k : ℕ) (stream : List ℕ) : Type 0 where
  pub sheets : List (List ℕ)
  pub rest : List ℕ
  pub laid : stream ≡ framed sheets ++ rest
  pub said : AllSaid sheets
  pub ends : ((length sheets < k) × (first rest ≡ none)) ⊎ (length sheets ≡ k)

bytes_drop : (n : ℕ) (xs : List ℕ) → AllUnder 256 xs → AllUnder 256 (drop n xs)
unfolding AllUnder
bytes_drop zero xs h = h
bytes_drop (suc n) [] h = tt
bytes_drop (suc n) (x ∷ xs) h = bytes_drop n xs h.1

abbrev pub Laid : (stream : List ℕ) → First → Type 0
Laid stream none = Unit {0}
Laid stream (whole sheet rest) = (stream ≡ length sheet / 256 ∷ length sheet % 256 ∷ sheet ++ rest) × (length sheet ≤ 65535) × AllUnder 256 rest

first_laid : (stream : List ℕ) → AllUnder 256 stream → Laid stream (first stream)
unfolding first AllUnder
first_laid [] h = tt
first_laid (b ∷ []) h = tt
first_laid (b ∷ c ∷ rest) h = go (ltb (length rest) n) refl
  where
    n : ℕ
    n = 256 * b + c

    go : (t : Bool) → ltb (length rest) n ≡ t → Laid (b ∷ c ∷ rest) (behind_length n rest)
    go true t = subst (Laid (b ∷ c ∷ rest)) (sym (first_cut n rest (ltb-true (length rest) n t))) tt
    go false t =
        let fits = ltb-false (length rest) n t in
        let long : length (take n rest) ≡ n = length-take-le n rest fits in
        let high : b ≡ length (take n rest) / 256 = omega (arith, long, h.1.0) in
        let low : c ≡ length (take n rest) % 256 = omega (arith, long, h.1.0) in
        subst (Laid (b ∷ c ∷ rest)) (sym (first_some n rest fits)) (
          (λ i. high i ∷ low i ∷ sym (take-append-drop n rest) i),
          omega (arith, long, h.0, h.1.0),
          bytes_drop n rest h.1.1,
        )

framing_more : (k : ℕ) (stream sheet r : List ℕ) → Laid stream (whole sheet r) → Framing k r → Framing (suc k) stream
unfolding framed AllSaid
framing_more k stream sheet r there m = record {
  sheets = sheet ∷ m.sheets;
  rest = m.rest;
  laid =
      there.0 ∙ ap (λ (z : List ℕ). length sheet / 256 ∷ length sheet % 256 ∷ sheet ++ z) m.laid
      ∙ ap (λ (z : List ℕ). length sheet / 256 ∷ length sheet % 256 ∷ z) (sym (append_assoc sheet (framed m.sheets) m.rest));
  said = (there.1, m.said);
  ends =
      ⊎_elim (λ (z : (length m.sheets < k) × (first m.rest ≡ none)). inl (omega (arith, z.0), z.1))
      (λ (z : length m.sheets ≡ k). inr (omega (arith, z)))
      m.ends;
}

pub every_stream : (k : ℕ) (stream : List ℕ) → AllUnder 256 stream → Framing k stream
every_stream zero stream h = unfold framed AllSaid in (record { sheets = []; rest = stream; laid = refl; said = tt; ends = inr refl })
every_stream (suc k) stream h = go (first stream) refl (first_laid stream h) (λ r b. every_stream k r b)
  where
    go : (f : First) → first stream ≡ f → Laid stream (first stream) → ((r : List ℕ) → AllUnder 256 r → Framing k r) → Framing (suc k) stream
    go none e l more = unfold framed AllSaid in (record { sheets = []; rest = stream; laid = refl; said = tt; ends = inl (omega arith, e) })
    go (whole sheet r) e l more =
        let there : Laid stream (whole sheet r) = subst (Laid stream) e l in
        framing_more k stream sheet r there (more r there.2)

-- What is cut of bytes are bytes.
pub cut_bytes : (k : ℕ) (stream : List ℕ) → AllUnder 256 stream → AllUnder 256 (apart k stream).cut
cut_bytes zero stream h = unfold apart AllUnder in tt
cut_bytes (suc k) stream h = go (first stream) refl (first_laid stream h) (λ r b. cut_bytes k r b)
  where
    go : (f : First) → first stream ≡ f → Laid stream (first stream) → ((r : List ℕ) → AllUnder 256 r → AllUnder 256 (apart k r).cut) → AllUnder 256 (apart (suc k) stream).cut
    go none e l more = subst (λ (a : Apart). AllUnder 256 a.cut) (sym (apart_none k stream e)) h
    go (whole sheet r) e l more =
        let there : Laid stream (whole sheet r) = subst (Laid stream) e l in
        subst (λ (a : Apart). AllUnder 256 a.cut) (sym (apart_whole k stream sheet r e)) (more r there.2)

-- The verifier's answer with that budget.
pub answer_is : (sheet old : List ℕ) (a : Answer Sheet) → admitted sheet old ≡ a → (verified sheet release_budget old).answer ≡ answer_to a
unfolding verified answer_to
answer_is sheet old a read = ap (λ (b : Answer Sheet). verdict_of (outcome_of b release_budget)) read

-- The length of an invalid one.
pub length_most : (bytes : List ℕ) → length_in (answer_to (reading bytes)) ≤ 64
length_most bytes = go (answer_to (reading bytes)) refl
  where
    given : (verified bytes release_budget (replicate longest_trace 0)).answer ≡ answer_to (reading bytes)
    given =
        answer_is bytes (replicate longest_trace 0) (reading bytes) (admitted_long bytes (replicate longest_trace 0) (omega (arith, length-replicate {A = ℕ} longest_trace 0)))

    go : (a : Answer Verdict) → answer_to (reading bytes) ≡ a → length_in a ≤ 64
    go (gives (valid c)) e = unfold length_in in (omega arith)
    go (gives (invalid c l)) e = unfold length_in in (invalid_short bytes release_budget (replicate longest_trace 0) c l (given ∙ e))
    go (gives (stopped b)) e = unfold length_in in (omega arith)
    go (refused r) e = unfold length_in in (omega arith)
