-- `test_sqrt::pattern` meets its contract: what it hands to `to_bits` is no NaN. Assumes nothing.
use mathlib.Core.Path.{◌≡◌}
use mathlib.Core.Bool.{true, not, false≢true}
use lib.Dec.{T}
use lib.Ieee.{Float, nan, inf, fin, eq, is_nan}
use Rattle.test_sqrt.proofs.pattern.Goals as goal

equals_itself : (x : Float) → eq x x ≡ true → T (not (is_nan x))
unfolding eq is_nan
equals_itself nan e = absurd (false≢true e)
equals_itself (inf s) e = tt
equals_itself (fin s m d) e = tt

pub float_to_bits-result : goal.float_to_bits-result
float_to_bits-result c = equals_itself c.args.x c.if-x.true
