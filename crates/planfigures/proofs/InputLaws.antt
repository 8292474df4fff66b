-- Laws of what a call of `read` brings, and of the line for an input. Assumes nothing.
use Prim.Native.Nat.{ℕ, zero, suc, ◌≤◌, ◌<◌}
use mathlib.Core.Path.{◌≡◌, refl, sym, ap, ◌∙◌, subst}
use mathlib.Core.Bool.{Bool, false, not}
use mathlib.Core.List.{List, ◌++◌}
use native.Mathlib.Omega.{arith}
use lib.ListN.{length, take}
use borrow.Author.Tests.{not-false}
use Rattle.std.specs.Prelude.{Result, Ok, Err, Option, Some, None, IfOk}
use Rattle.std.specs.Io.{ReadsAtMost}
use Rattle.lists.specs.Lists.{write}
use Rattle.semantics.specs.Printing.{numbers_line}
use Rattle.semantics.specs.Figures as meaning
use Rattle.semantics.specs.Figures.{figure_numbers, figures, figures_line}
use Rattle.release.specs.declared.figures.Figures.{Figures}
use Rattle.release.specs.declared.feeding.Release.{Release}
use Rattle.release.specs.Counting.{meant_by}
use Rattle.release.specs.Feeding.{state_of, is_done, ended}
use Rattle.release.proofs.FigureLaws.{ended_figures}
use Rattle.planfigures.specs.declared.Ending.{Ending}
use Rattle.planfigures.specs.declared.Step.{Step}
use Rattle.planfigures.specs.declared.Input.{Input}
use Rattle.planfigures.specs.Input.{after_read, Followed, Brought, Reached, Over, line_of, LineFor}

-- The cases of `after_read` as the code tells them apart.
some : (E : Type 0) (k : ℕ) → (k ≡ 0 → ⊥) → Ok (Some k) ≡ after_read {E = E} (Ok k)
unfolding after_read
some E zero n = absurd (n refl)
some E (suc k) n = refl

module _ {E : Type 0} (got : Result ℕ E) where
  pub after_failed : (e : E) → got ≡ Err e → Err e ≡ after_read got
  unfolding after_read
  after_failed e g = rw g refl

  pub after_end : (k : ℕ) → got ≡ Ok k → k ≡ 0 → Ok None ≡ after_read got
  unfolding after_read
  after_end k g z = rw g (rw z refl)

  pub after_some : (k : ℕ) → got ≡ Ok k → (k ≡ 0 → ⊥) → Ok (Some k) ≡ after_read got
  after_some k g n = some E k n ∙ ap after_read (sym g)

-- What came lies within the memory.
abbrev Within : {E : Type 0} → Result (Option ℕ) E → (room : ℕ) → Type 0
Within (Ok (Some n)) room = (0 < n) × (n ≤ room)
Within (Ok None) room = Unit {0}
Within (Err e) room = Unit {0}

module _ (E : Type 0) where
  within : (got : Result ℕ E) (memory : List ℕ) → ReadsAtMost got memory → Within (after_read got) (length memory)
  unfolding after_read
  within (Err e) memory m = tt
  within (Ok zero) memory m = tt
  within (Ok (suc k)) memory m = (omega arith, m.0)

pub came_within : {E : Type 0} (x : Result (Option ℕ) E) (n : ℕ) (got : Result ℕ E) (memory : List ℕ) → x ≡ after_read got → ReadsAtMost got memory → x ≡ Ok (Some n)
    → (0 < n) × (n ≤ length memory)
came_within {E} x n got memory e m g = subst (λ (y : Result (Option ℕ) E). Within y (length memory)) (sym e ∙ g) (within E got memory m)

-- What a call of `read` leads to: a state where it brought bytes, and nothing else.
module _ (E : Type 0) (before : Release) (memory : List ℕ) where
  pub brought_step : (came : ℕ) (after : Release) → (0 < came) × (came ≤ length memory)
      → ((stream : List ℕ) → before ≡ state_of stream → after ≡ state_of (stream ++ take came memory)) → Brought {E = E} before (Ok (Some (record { came = came; state = after }))) memory
  unfolding Brought
  brought_step came after w k = record { some = w.0; within = w.1; onward = k }

  pub brought_end : Brought {E = E} before (Ok None) memory
  unfolding Brought
  brought_end = tt

module _ {E : Type 0} (before : Release) (memory : List ℕ) where
  pub brought_failed : (x : Result (Option Step) E) (e : E) → x ≡ Err e → Brought before x memory
  unfolding Brought
  brought_failed x e g = rw g tt

  pub followed : (x : Result (Option Step) E) (step : Step) → Brought before x memory → x ≡ Ok (Some step) → Followed before step.came memory step.state
  unfolding Brought
  followed x step h g = rw g at h

-- How reading is over: by the end of the input, or since the state says that nothing more is looked at.
pub end_over : (state : Release) → Over Ending.End state
unfolding Over
end_over state = tt

pub done_over : (state : Release) (d : Bool) → d ≡ is_done state → not d ≡ false → Over Ending.Done state
unfolding Over
done_over state d e n = sym e ∙ not-false d n

-- The line for an input: what `print_figures` wrote, and none if it couldn't be read.
module _ {E : Type 0} (input : Result Input E) where
  pub line_read : (i : Input) (f : Figures) (numbers : List ℕ) → input ≡ Ok i → f ≡ ended i.state → numbers ≡ figure_numbers (meant_by f) → numbers_line numbers ≡ line_of input
  unfolding line_of
  line_read i f numbers g e d = rw g (ap numbers_line (d ∙ ap (λ (h : Figures). figure_numbers (meant_by h)) e))

  pub line_failed : (e : E) (old : List ℕ) → input ≡ Err e → (0 ≡ length (line_of input)) × (old ≡ write old 0 (line_of input))
  unfolding line_of write
  line_failed e old g = let h : _ ≡ line_of input = sym (ap line_of g) in (ap length h, ap (write old 0) h)

-- The same by the stream.
figures_line_law : (stream : List ℕ) → numbers_line (figure_numbers (figures stream)) ≡ figures_line stream
unfolding figures_line
figures_line_law stream = refl

module _ (E : Type 0) where
  for_stream : (input : Result Input E) (line : List ℕ) → IfOk input (λ i. Reached i.state × Over i.ending i.state) → line ≡ line_of input → LineFor input line
  unfolding line_of LineFor
  for_stream (Ok i) line r e =
      let same = ap (λ (state : Release). meant_by (ended state)) r.0.same ∙ ended_figures r.0.stream in
      record {
        reached = r.0;
        over = r.1;
        printed = e ∙ ap (λ (f : meaning.Figures). numbers_line (figure_numbers f)) same ∙ figures_line_law r.0.stream;
      }
  for_stream (Err f) line r e = e

pub line_for_stream : {E : Type 0} (input : Result Input E) (line : List ℕ) → IfOk input (λ i. Reached i.state × Over i.ending i.state) → line ≡ line_of input → LineFor input line
line_for_stream {E} input line r e = for_stream E input line r e
