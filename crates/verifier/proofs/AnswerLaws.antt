-- From the search and the least run over the tables of an accepted sheet to the verifier's answer and the trace memory. Assumes nothing.
use Rattle.std.proofs.Common.{◌≡◌, ℕ, ◌+◌, ◌*◌, ◌/◌, ◌%◌, ◌<◌, ◌≤◌, Bool, true, false, ltb, List, [], ◌∷◌, ◌++◌, map, length, get_or, take, drop, sym, refl, ap, ◌∙◌, subst, append_assoc, append-nil, arith, length-append, take-append-drop}
use mathlib.Core.List.{Memᴰ}
use lib.ListN.{length-map}
use Rattle.std.specs.Prelude.{if◌then◌else◌, Result, Ok, Err}
use Rattle.lists.proofs.ListLaws.{append_past}
use Rattle.states.specs.declared.States.{States}
use Rattle.format.specs.Syntax.{Sheet}
use Rattle.format.specs.Format.{refused, Answer, gives, most_acts, reading}
use Rattle.reader.specs.Answers.{number_of}
use Rattle.reader.specs.declared.refusal.Refusal.{Refusal}
use Rattle.format.proofs.SheetLaws.{accepted_shape}
use Rattle.semantics.specs.Runs.{Entry, entry, History}
use Rattle.semantics.specs.Routine.{Following, Full, Failing}
use Rattle.semantics.specs.Verdict.{history_count, failures, trace, stopped, Outcome, least_run, concluded, outcome, written, longest_trace, LongEnough, admitted, Verified, verified, short_memory}
use Rattle.semantics.proofs.RunLaws.{run_occurs}
use Rattle.semantics.proofs.VerdictLaws.{listed_failing}
use Rattle.semantics.proofs.MemoryLaws.{admitted_long, admitted_short, verified_short, verified_accepted, verified_refused}
use Rattle.semantics.proofs.AcceptedLaws.{EntriesFit, starts, entries_fit}
use Rattle.routine.specs.Memory.{Sized}
use Rattle.routine.specs.Tables.{sheet_start, start_of, prepared, TablesAfter}
use Rattle.routine.proofs.TableLaws.{Tabled, tables_tabled, ready_sheet, refused_sheet}
use Rattle.verifier.specs.declared.search.Searched.{Searched}
use Rattle.verifier.specs.declared.verdict.Verdict.{Verdict}
use Rattle.verifier.specs.declared.verdict.VerifyError.{VerifyError}
use Rattle.verifier.specs.Search.{Found, passed, failed, over, searched, path_byte, path_bytes, searched_of, SearchedBy}
use Rattle.verifier.specs.Least.{path_from, least_states}
use Rattle.verifier.specs.Answers.{answer_of, verified_by, empty_memo, cleared}
use Rattle.verifier.specs.Concluding.{verdict_for, shown_entry, memory_for}
use Rattle.verifier.proofs.SearchLaws.{conclusion, search_found}
use Rattle.verifier.proofs.LeastLaws.{least_is}

-- The bytes of a history show its entries.
abbrev bytes_of : History → List ℕ
bytes_of h = map (λ (e : Entry). path_byte e.action e.reply) h

byte_shows : (e : Entry) → entry (path_byte e.action e.reply / 8) (path_byte e.action e.reply % 8) ≡ shown_entry e
unfolding path_byte shown_entry
byte_shows e =
    let x : (e.action % 32 * 8 + e.reply % 8) / 8 ≡ e.action % 32 = omega arith in
    let y : (e.action % 32 * 8 + e.reply % 8) % 8 ≡ e.reply % 8 = omega arith in
    λ i. entry (x i) (y i)

path_shows : (front : List ℕ) (h : History) (back : List ℕ) (at : ℕ) → at ≡ length front → path_from (front ++ (bytes_of h ++ back)) at (length h) ≡ map shown_entry h
unfolding path_from shown_entry
path_shows front [] back at e = refl
path_shows front (x ∷ h) back at e =
    let b = path_byte x.action x.reply in
    let place : at ≡ length front + 0 = omega (arith, e) in
    let there : get_or (front ++ (b ∷ (bytes_of h ++ back))) at 0 ≡ b =
    ap (λ (k : ℕ). get_or (front ++ (b ∷ (bytes_of h ++ back))) k 0) place ∙ append_past front (b ∷ (bytes_of h ++ back)) 0 0 in
    let same : front ++ (b ∷ (bytes_of h ++ back)) ≡ (front ++ (b ∷ [])) ++ (bytes_of h ++ back) = sym (append_assoc front (b ∷ []) (bytes_of h ++ back)) in
    let rest = path_shows (front ++ (b ∷ [])) h back (at + 1) (omega (arith, e, length-append front (b ∷ []))) in
    let tail : path_from (front ++ (b ∷ (bytes_of h ++ back))) (at + 1) (length h) ≡ map shown_entry h = ap (λ (p : List ℕ). path_from p (at + 1) (length h)) same ∙ rest in
    let first : entry (get_or (front ++ (b ∷ (bytes_of h ++ back))) at 0 / 8) (get_or (front ++ (b ∷ (bytes_of h ++ back))) at 0 % 8) ≡ shown_entry x =
    ap (λ (k : ℕ). entry (k / 8) (k % 8)) there ∙ byte_shows x in
    λ i. first i ∷ tail i

-- What the code says of a search from the start is what was found; where a history failed, the path shows it.
module _ (before after : List ℕ) (places : length before ≡ most_acts) (found : Found) where
  pub said_passed : (c : ℕ) → SearchedBy 0 before after (Searched.Passed c) found → found ≡ passed c
  unfolding searched_of
  said_passed c s = go found s.answer
    where
      go : (x : Found) → Searched.Passed c ≡ searched_of 0 x → x ≡ passed c
      go (passed n) e = cc
      go (failed n h) e = let z : ◌≡◌ {A = ℕ} 0 1 = cc in absurd (omega arith)
      go over e = let z : ◌≡◌ {A = ℕ} 0 1 = cc in absurd (omega arith)

  pub said_over : SearchedBy 0 before after Searched.Over found → found ≡ over
  unfolding searched_of
  said_over s = go found s.answer
    where
      go : (x : Found) → Searched.Over ≡ searched_of 0 x → x ≡ over
      go (passed n) e = let z : ◌≡◌ {A = ℕ} 0 1 = cc in absurd (omega arith)
      go (failed n h) e = let z : ◌≡◌ {A = ℕ} 0 1 = cc in absurd (omega arith)
      go over e = refl

  -- The history that failed, by the code's answer and path.
  pub record Shows (c len : ℕ) : Type 0 where
    pub history : History
    pub fails : found ≡ failed c history
    pub long : len ≡ length history
    pub short : len ≤ most_acts
    pub shows : path_from (take len after) 0 (length (take len after)) ≡ map shown_entry history

  pub said_failed : (c len : ℕ) → SearchedBy 0 before after (Searched.Failed c len) found → Shows c len
  unfolding searched_of path_bytes
  said_failed c len s = go found refl s.answer s.path
    where
      go : (x : Found) → found ≡ x → Searched.Failed c len ≡ searched_of 0 x → take (0 + length (path_bytes x)) after ≡ take 0 before ++ path_bytes x → Shows c len
      go (passed n) f e p = let z : ◌≡◌ {A = ℕ} 0 1 = cc in absurd (omega arith)
      go over f e p = let z : ◌≡◌ {A = ℕ} 0 1 = cc in absurd (omega arith)
      go (failed n h) f e p =
          let m : n ≡ c = cc in
          let k : len ≡ 0 + length h = cc in
          let l : len ≡ length h = omega (arith, k) in
          let z : 0 + length (bytes_of h) ≡ len = omega (arith, l, length-map h (λ (d : Entry). path_byte d.action d.reply)) in
          let whole : after ≡ bytes_of h ++ drop len after =
          sym (take-append-drop len after) ∙ ap (λ (xs : List ℕ). xs ++ drop len after) (ap (λ (j : ℕ). take j after) (sym z) ∙ p) in
          let front : take len after ≡ bytes_of h = ap (λ (j : ℕ). take j after) (sym z) ∙ p in
          let many : length (bytes_of h) ≡ length h = length-map h (λ (d : Entry). path_byte d.action d.reply) in
          let size = s.size in
          record {
            history = h;
            fails = f ∙ ap (λ (j : ℕ). failed j h) m;
            long = l;
            short = omega (arith, size, places, ap length whole, length-append (bytes_of h) (drop len after), l, length-map h (λ (d : Entry). path_byte d.action d.reply));
            shows = ap (λ (xs : List ℕ). path_from xs 0 (length xs)) front ∙ ap (path_from (bytes_of h) 0) many ∙ ap (λ (xs : List ℕ). path_from xs 0 (length h)) (sym (append-nil (bytes_of h))) ∙ path_shows [] h [] 0 refl;
          }

module _ (before after : List ℕ) (places : length before ≡ most_acts) (found : Found) (o : Searched) (said : SearchedBy 0 before after o found) where
  failed_shows : (c len : ℕ) → o ≡ Searched.Failed c len → Shows before after places found c len
  failed_shows c len e = said_failed before after places found c len (subst (λ (x : Searched). SearchedBy 0 before after x found) e said)

  pub failed_short : (c len : ℕ) → o ≡ Searched.Failed c len → len ≤ most_acts
  failed_short c len e = (failed_shows c len e).short

-- So the code decides as the search found.
module _ (heads sets : List ℕ) (start : States) (budget : ℕ) (old before after : List ℕ) (places : length before ≡ most_acts) (found : Found) (o : Searched) (said : SearchedBy 0 before after o found) where
  pub passed_decides : (c : ℕ) → o ≡ Searched.Passed c → (Verdict.Valid c ≡ verdict_for budget found) × (old ≡ memory_for heads sets start found old)
  unfolding verdict_for memory_for
  passed_decides c e = rw (said_passed before after places found c (subst (λ (x : Searched). SearchedBy 0 before after x found) e said)) (refl, refl)

  pub over_decides : o ≡ Searched.Over → (Verdict.Stopped budget ≡ verdict_for budget found) × (old ≡ memory_for heads sets start found old)
  unfolding verdict_for memory_for
  over_decides e = rw (said_over before after places found (subst (λ (x : Searched). SearchedBy 0 before after x found) e said)) (refl, refl)

  pub failed_decides : (c len : ℕ) → o ≡ Searched.Failed c len → (memory : List ℕ) → memory ≡ written (trace (path_from (take len after) 0 (length (take len after))) (least_states heads sets start (path_from (take len after) 0 (length (take len after))))) old
      → (Verdict.Invalid c len ≡ verdict_for budget found) × (memory ≡ memory_for heads sets start found old)
  unfolding verdict_for memory_for
  failed_decides c len e memory m =
      let s = failed_shows before after places found o said c len e in (
        ap (Verdict.Invalid c) s.long ∙ sym (ap (verdict_for budget) s.fails),
        m ∙ ap (λ (g : History). written (trace g (least_states heads sets start g)) old) s.shows ∙ sym (ap (λ (x : Found). memory_for heads sets start x old) s.fails),
      )

-- Entries of an accepted sheet's histories are shown as they are.
fitting_shown : (h : History) → EntriesFit h → map shown_entry h ≡ h
unfolding EntriesFit shown_entry
fitting_shown [] f = refl
fitting_shown (e ∷ h) f =
    let x : e.action % 32 ≡ e.action = omega (arith, f.0) in
    let y : e.reply % 8 ≡ e.reply = omega (arith, f.1) in
    let rest = fitting_shown h f.2 in
    λ i. record { action = x i; reply = y i } ∷ rest i

module _ (bytes : List ℕ) (sheet : Sheet) (read : reading bytes ≡ gives sheet) (heads nodes sets : List ℕ) (tabled : Tabled sheet heads nodes sets) (budget : ℕ) where
  abbrev found : Found
  found = searched heads nodes sets budget most_acts 0 (sheet_start sheet) 0

  -- The verdict and the trace memory by what the search finds.
  abbrev Decides : Found → Outcome → Type 0
  Decides x o = (answer_of (Ok (verdict_for budget x)) ≡ gives o.verdict) × ((old : List ℕ) → memory_for heads sets (sheet_start sheet) x old ≡ written o.shown old)

  failing_trace : (h : History) → Memᴰ h (failures sheet)
      → trace (map shown_entry h) (least_states heads sets (sheet_start sheet) (map shown_entry h)) ≡ trace h (least_run sheet h)
  unfolding Failing Full Following
  failing_trace h m =
      let f = listed_failing sheet (starts bytes sheet read) m in
      let follows = f.1.0.0 in
      ap (λ (g : History). trace g (least_states heads sets (sheet_start sheet) g)) (fitting_shown h (entries_fit bytes sheet read h f.0 follows))
      ∙ ap (trace h) (least_is sheet (accepted_shape bytes sheet read).facts_most heads nodes sets tabled h (run_occurs sheet h f.0 follows.0))

  concluded_decides : (c : ℕ) (hs : List History) → failures sheet ≡ hs → Decides (conclusion c hs) (concluded sheet c hs)
  unfolding conclusion concluded answer_of verdict_for memory_for written
  concluded_decides c [] e = (refl, λ old. refl)
  concluded_decides c (h ∷ later) e =
      (refl, λ old. ap (λ (shown : List ℕ). shown ++ drop (length shown) old) (failing_trace h (subst (Memᴰ h) (sym e) (Memᴰ.head refl))))

  stopped_decides : Decides over (record { verdict = stopped budget; shown = [] })
  unfolding answer_of verdict_for memory_for written
  stopped_decides = (refl, λ old. refl)

  pub decides : Decides found (outcome sheet budget)
  unfolding outcome
  decides = subst (λ (x : Found). Decides x (outcome sheet budget)) (sym (search_found sheet budget heads nodes sets bytes read tabled)) (go (ltb budget (history_count sheet)))
    where
      go : (b : Bool) → Decides (if b then over else conclusion (history_count sheet) (failures sheet)) (if b then record { verdict = stopped budget; shown = [] } else concluded sheet (history_count sheet) (failures sheet))
      go true = stopped_decides
      go false = concluded_decides (history_count sheet) (failures sheet) refl

-- What the contract says of the answer and of the trace memory.
pub parts : (r : Result Verdict VerifyError) (memory : List ℕ) (v : Verified) → verified_by r memory ≡ v → (answer_of r ≡ v.answer) × (memory ≡ v.memory)
unfolding verified_by
parts r memory v e = (ap (λ (x : Verified). x.answer) e, ap (λ (x : Verified). x.memory) e)

-- The whole answer, from the answer of `prepare`.
module _ (bytes : List ℕ) (budget : ℕ) (old heads nodes sets memo : List ℕ) (z : Sized heads nodes sets) where
  -- The tables and the memo for a sheet or a refusal.
  abbrev Left : Answer Sheet → (heads' nodes' sets' memo' : List ℕ) → Type 0
  Left a heads' nodes' sets' memo' = (memo' ≡ cleared a memo) × TablesAfter a heads nodes sets heads' nodes' sets'

  -- The answer and the trace memory are those of the definition, and so are the tables and the memo.
  abbrev Answered : Result Verdict VerifyError → (memory heads' nodes' sets' memo' : List ℕ) → Type 0
  Answered r memory heads' nodes' sets' memo' =
      (verified_by r memory ≡ verified bytes budget old)
      × (memo' ≡ cleared (admitted bytes old) memo)
      × TablesAfter (admitted bytes old) heads nodes sets heads' nodes' sets'

  answered : (a : Answer Sheet) → admitted bytes old ≡ a → (r : Result Verdict VerifyError) (memory heads' nodes' sets' memo' : List ℕ)
      → verified_by r memory ≡ verified bytes budget old → Left a heads' nodes' sets' memo' → Answered r memory heads' nodes' sets' memo'
  answered a e r memory heads' nodes' sets' memo' v k =
      let m = subst (λ (b : Answer Sheet). Left b heads' nodes' sets' memo') (sym e) k in
      (v, m.0, m.1)

  pub short_answered : length old < longest_trace → Answered (Err VerifyError.ShortMemory) old heads nodes sets memo
  unfolding verified_by answer_of prepared cleared
  short_answered l = answered (short_memory) (admitted_short bytes old l) (Err VerifyError.ShortMemory) old heads nodes sets memo (sym (verified_short bytes budget old l)) (refl, (refl, refl, refl))

  module _ (enough : LongEnough old) (heads' nodes' sets' : List ℕ) where
    pub refused_answered : (r : Refusal) → (refused (number_of r) ≡ start_of (reading bytes)) × TablesAfter (reading bytes) heads nodes sets heads' nodes' sets' → (error : VerifyError) → error ≡ VerifyError.Refused r → Answered (Err error) old heads' nodes' sets' memo
    unfolding verified_by answer_of cleared
    refused_answered r tables error k =
        let q = refused_sheet (reading bytes) (number_of r) tables.0 in
        answered (reading bytes) (admitted_long bytes old enough) (Err error) old heads' nodes' sets' memo
        (ap (λ (x : VerifyError). verified_by (Err x) old) k ∙ sym (verified_refused bytes (number_of r) q budget old enough)) (ap (λ (a : Answer Sheet). cleared a memo) (sym q), tables.1)

    pub ready_answered : (start : States) → (gives start ≡ start_of (reading bytes)) × TablesAfter (reading bytes) heads nodes sets heads' nodes' sets' → (r : Verdict) (memory memo' : List ℕ)
        → (r ≡ verdict_for budget (searched heads' nodes' sets' budget most_acts 0 start 0)) × (memory ≡ memory_for heads' sets' start (searched heads' nodes' sets' budget most_acts 0 start 0) old) × (memo' ≡ empty_memo)
        → Answered (Ok r) memory heads' nodes' sets' memo'
    unfolding verified_by cleared
    ready_answered start tables r memory memo' k =
        let q = ready_sheet (reading bytes) start tables.0 in
        let sheet = q.0 in
        let at : (States → Found) = λ s. searched heads' nodes' sets' budget most_acts 0 s 0 in
        let verdict : verified_by (Ok r) memory ≡ verified bytes budget old =
        let tabled : Tabled sheet heads' nodes' sets' = tables_tabled bytes sheet q.1 heads nodes sets z heads' nodes' sets' tables.1 in
        let d = decides bytes sheet q.1 heads' nodes' sets' tabled budget in
        let x = ap (λ (v : Verdict). answer_of (Ok v)) (k.0 ∙ ap (λ (s : States). verdict_for budget (at s)) q.2) ∙ d.0 in
        let y = k.1 ∙ ap (λ (s : States). memory_for heads' sets' s (at s) old) q.2 ∙ d.1 old in
        let same : verified_by (Ok r) memory ≡ record { answer = gives (outcome sheet budget).verdict; memory = written (outcome sheet budget).shown old } = λ i. record { answer = x i; memory = y i } in
        same ∙ sym (verified_accepted bytes sheet q.1 budget old enough) in
        answered (reading bytes) (admitted_long bytes old enough) (Ok r) memory heads' nodes' sets' memo' verdict
        (k.2 ∙ ap (λ (a : Answer Sheet). cleared a memo) (sym q.1), tables.1)
