-- `train_text::pattern` meets its contract. Assumes nothing.
use mathlib.Core.Path.{◌≡◌}
use mathlib.Core.Bool.{true, false, not, false≢true}
use lib.Dec.{T}
use lib.Ieee.{Float, nan, inf, fin, binary64, eq, is_nan, to_bits}
use Rattle.train_text.specs.Text.{pattern}
use Rattle.train_text.proofs.pattern.Goals as goal

no_nan : (x : Float) → eq x x ≡ true → T (not (is_nan x))
unfolding eq is_nan
no_nan nan e = absurd (false≢true e)
no_nan (inf s) e = tt
no_nan (fin s m d) e = tt

number : (x : Float) → eq x x ≡ true → to_bits binary64 x ≡ pattern x
unfolding pattern
number x e = rw e

no_number : (x : Float) → eq x x ≡ false → 0x7FF8_0000_0000_0000 ≡ pattern x
unfolding pattern
no_number x e = rw e

pub float_to_bits-result : goal.float_to_bits-result
float_to_bits-result c = no_nan _ c.if-x.true

pub returns-then-x : goal.returns-then-x
returns-then-x c = number _ c.if-x.true

pub returns-else-x : goal.returns-else-x
returns-else-x c = no_number _ c.if-x.false
