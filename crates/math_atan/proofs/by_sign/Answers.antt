-- `math_atan::by_sign` meets its contract. Assumes nothing.
use mathlib.Core.Path.{sym, subst}
use mathlib.Core.Bool.{Bool, not}
use lib.Dec.{T}
use lib.Ieee.{binary64, fits}
use Rattle.ieee.proofs.Signs.{is_nan_lem, not_nan}
use Rattle.math_atan.proofs.Tests.{sign_set, sign_clear}
use Rattle.math_atan.proofs.by_sign.Goals as goal

pub float_to_bits-x : goal.float_to_bits-x
float_to_bits-x c = subst (λ (b : Bool). T (not b)) (sym (not_nan _ c.if-x.false)) tt

pub returns-then-x : goal.returns-then-x
returns-then-x c = simp (is_nan_lem _ c.if-x.true)

pub returns-then-x-lt9223372036854775808 : goal.returns-then-x-lt9223372036854775808
returns-then-x-lt9223372036854775808 c = simp (sign_clear _ ((subst T (sym c.well_formed.0.1) tt)) (not_nan _ c.if-x.false) c.if-x-lt9223372036854775808.true)

pub returns-else-x-lt9223372036854775808 : goal.returns-else-x-lt9223372036854775808
returns-else-x-lt9223372036854775808 c = simp (sign_set _ ((subst T (sym c.well_formed.0.1) tt)) (not_nan _ c.if-x.false) c.if-x-lt9223372036854775808.false)
