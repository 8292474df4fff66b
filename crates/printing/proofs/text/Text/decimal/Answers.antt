-- `Text::decimal` meets its contract. Assumes nothing.
use mathlib.Core.Path.{refl}
use native.Mathlib.Omega.{arith}
use Rattle.printing.proofs.text.Text.decimal.Goals as goal

pub put_decimal-self-requires : goal.put_decimal-self-requires
put_decimal-self-requires c = c.requires.fits

pub returns : goal.returns
returns c = record {
  longer = c.put_decimal-self.ensures.0;
  written = c.put_decimal-self.ensures.1;
  within = omega (arith, c.requires.fits, c.put_decimal-self.ensures.0);
  lent = refl;
}
