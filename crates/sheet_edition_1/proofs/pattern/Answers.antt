-- `sheet_edition_1::pattern` meets its contract. Assumes nothing.
use mathlib.Core.Path.{sym, subst}
use mathlib.Core.Bool.{Bool, not}
use lib.Dec.{T}
use lib.Ieee.{to_bits}
use Rattle.ieee.proofs.Signs.{is_nan_lem, not_nan}
use Rattle.sheet_edition_1.proofs.pattern.Goals as goal

pub returns-then-x : goal.returns-then-x
unfolding to_bits
returns-then-x c = simp (is_nan_lem _ c.if-x.true)

pub float_to_bits-result : goal.float_to_bits-result
float_to_bits-result c = subst (λ (b : Bool). T (not b)) (sym (not_nan _ c.if-x.false)) tt
