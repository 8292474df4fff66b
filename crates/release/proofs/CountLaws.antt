-- An answer counted into figures of 64 bits, by its kind. Assumes nothing.
use Rattle.std.proofs.Common.{◌≡◌, ℕ, ◌+◌, ◌%◌, ◌^◌, ◌<◌, ◌≤◌, sym, arith}
use Rattle.format.specs.Format.{gives, refused}
use Rattle.semantics.specs.Verdict.{valid, invalid, stopped}
use Rattle.semantics.specs.Figures.{is_valid, is_invalid, is_stopped, is_refused, count_in, length_in, greater}
use Rattle.semantics.proofs.FigureLaws.{greater_left, greater_right}
use Rattle.release.specs.declared.figures.Figures.{Figures}
use Rattle.release.specs.Counting.{plus, one, counted_one, with_cut}

-- Figures of 64 bits.
abbrev pub Small : Figures → Type 0
Small f = (f.valid < 2 ^ 64) × (f.invalid < 2 ^ 64) × (f.stopped < 2 ^ 64) × (f.refused < 2 ^ 64) × (f.sum < 2 ^ 64)

pub plus_none : (x : ℕ) → x < 2 ^ 64 → x ≡ plus x 0
unfolding plus
plus_none x h = omega (arith, h)

greater_none : (x : ℕ) → x ≡ greater x 0
greater_none x = sym (greater_left x 0 (omega arith))

pub greater_less : (x l : ℕ) → x < l → l ≡ greater x l
greater_less x l h = sym (greater_right x l (omega (arith, h)))

pub greater_not : (x l : ℕ) → l ≤ x → x ≡ greater x l
greater_not x l h = sym (greater_left x l h)

module _ (f : Figures) (small : Small f) where
  pub count_valid : (c v s : ℕ) → v ≡ (f.valid + 1) % 2 ^ 64 → s ≡ (f.sum + c) % 2 ^ 64
      → ◌≡◌ {A = Figures} (record { valid = v; invalid = f.invalid; stopped = f.stopped; refused = f.refused; sum = s; greatest = f.greatest }) (counted_one f (gives (valid c)))
  unfolding counted_one one is_valid is_invalid is_stopped is_refused count_in length_in plus
  count_valid c v s a b =
      let i = plus_none f.invalid small.1 in
      let t = plus_none f.stopped small.2 in
      let r = plus_none f.refused small.3 in
      let g = greater_none f.greatest in
      λ j. record { valid = a j; invalid = i j; stopped = t j; refused = r j; sum = b j; greatest = g j }

  pub count_invalid : (c l v s g : ℕ) → v ≡ (f.invalid + 1) % 2 ^ 64 → s ≡ (f.sum + c) % 2 ^ 64 → g ≡ greater f.greatest l
      → ◌≡◌ {A = Figures} (record { valid = f.valid; invalid = v; stopped = f.stopped; refused = f.refused; sum = s; greatest = g }) (counted_one f (gives (invalid c l)))
  unfolding counted_one one is_valid is_invalid is_stopped is_refused count_in length_in plus
  count_invalid c l v s g a b h =
      let i = plus_none f.valid small.0 in
      let t = plus_none f.stopped small.2 in
      let r = plus_none f.refused small.3 in
      λ j. record { valid = i j; invalid = a j; stopped = t j; refused = r j; sum = b j; greatest = h j }

  pub count_stopped : (c v s : ℕ) → v ≡ (f.stopped + 1) % 2 ^ 64 → s ≡ (f.sum + c) % 2 ^ 64
      → ◌≡◌ {A = Figures} (record { valid = f.valid; invalid = f.invalid; stopped = v; refused = f.refused; sum = s; greatest = f.greatest }) (counted_one f (gives (stopped c)))
  unfolding counted_one one is_valid is_invalid is_stopped is_refused count_in length_in plus
  count_stopped c v s a b =
      let i = plus_none f.valid small.0 in
      let t = plus_none f.invalid small.1 in
      let r = plus_none f.refused small.3 in
      let g = greater_none f.greatest in
      λ j. record { valid = i j; invalid = t j; stopped = a j; refused = r j; sum = b j; greatest = g j }

  pub count_refused : (n : ℕ) → with_cut 1 f ≡ counted_one f (refused n)
  unfolding with_cut counted_one one is_valid is_invalid is_stopped is_refused count_in length_in
  count_refused n =
      let v = plus_none f.valid small.0 in
      let i = plus_none f.invalid small.1 in
      let t = plus_none f.stopped small.2 in
      let s = plus_none f.sum small.4 in
      let g = greater_none f.greatest in
      λ j. record { valid = v j; invalid = i j; stopped = t j; refused = plus f.refused 1; sum = s j; greatest = g j }
