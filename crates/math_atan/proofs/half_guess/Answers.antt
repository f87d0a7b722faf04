-- `math_atan::half_guess` promises nothing, and is safe. Assumes nothing.
use mathlib.Core.Path.{sym, subst}
use mathlib.Core.Bool.{Bool, not}
use borrow.Author.Rules.{rules}
use lib.Dec.{T}
use Rattle.ieee.proofs.Signs.{not_nan}
use Rattle.math_atan.proofs.half_guess.Goals as goal

pub float_to_bits-h : goal.float_to_bits-h
float_to_bits-h c = subst (λ (b : Bool). T (not b)) (sym (not_nan _ c.if-h.false)) tt
