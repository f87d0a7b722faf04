-- `ieee::abs` meets its contract. Assumes nothing.
use mathlib.Core.Path.{◌≡◌, sym, ap, ◌∙◌, subst}
use Prim.Native.Nat.{◌%◌, ◌^◌}
use mathlib.Core.Bool.{Bool, false, not, true≢false}
use lib.Dec.{T}
use lib.Ieee.{Float, nan, inf, fin, binary64, is_nan, to_bits, of_bits}
use lib.Ieee.Bits.{of_bits-to_bits, nan_bits_is}
use Rattle.ieee.specs.Functions.{abs}
use Rattle.ieee.proofs.Signs.{is_nan_lem, not_nan}
use Rattle.ieee.proofs.Patterns.{bits_abs}
use Rattle.ieee.proofs.abs.Goals as goal

-- owning an `f64` tells that the format holds it, so its pattern stands for it
is_abs : (x : Float) → of_bits binary64 (to_bits binary64 x) ≡ x → of_bits binary64 (to_bits binary64 x % 2 ^ 63) ≡ abs x
is_abs x e = bits_abs (to_bits binary64 x) ∙ ap abs e

kept : (x : Float) → is_nan x ≡ false → T (not (is_nan (abs x)))
unfolding abs is_nan
kept nan e = absurd (true≢false e)
kept (inf s) e = tt
kept (fin s m d) e = tt

pub float_to_bits-result : goal.float_to_bits-result
float_to_bits-result c = subst (λ (b : Bool). T (not b)) (sym (not_nan _ c.if-x.false)) tt

pub float_from_bits-result : goal.float_from_bits-result
float_from_bits-result c = subst (λ (b : Bool). T (not b)) (sym (nan_bits_is binary64 (to_bits binary64 c.args.x % 2 ^ 63) ∙ ap is_nan (is_abs c.args.x (of_bits-to_bits binary64 c.args.x (subst T (sym c.well_formed.0.1) tt))))) (kept c.args.x (not_nan _ c.if-x.false))

pub returns-then-x : goal.returns-then-x
unfolding abs
returns-then-x c = simp (is_nan_lem _ c.if-x.true)

pub returns-else-x : goal.returns-else-x
returns-else-x c = is_abs c.args.x (of_bits-to_bits binary64 c.args.x (subst T (sym c.well_formed.0.1) tt))
