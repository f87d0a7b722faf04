-- `surface_real::same_number` meets its contract. Assumes nothing.
use mathlib.Core.Path.{◌≡◌, sym, ap, ◌∙◌, subst}
use mathlib.Core.Bool.{true, not}
use lib.Dec.{T, eqb→eq}
use lib.Ieee.{Float, nan, inf, fin, binary64, is_nan, eq, of_bits}
use lib.Ieee.Bits.{of_bits-to_bits}
use Rattle.ieee.proofs.Signs.{of_true}
use Rattle.surface_real.proofs.same_number.Goals as goal

-- numbers that compare equal are none of them a NaN
left : (x y : Float) → T (eq x y) → T (not (is_nan x))
unfolding eq is_nan
left nan y t = absurd t
left (inf s) y t = tt
left (fin s m e) y t = tt

right : (x y : Float) → T (eq x y) → T (not (is_nan y))
unfolding eq is_nan
right nan y t = absurd t
right (inf s) nan t = absurd t
right (inf s) (inf r) t = tt
right (inf s) (fin r m e) t = tt
right (fin s m e) nan t = absurd t
right (fin s m e) (inf r) t = tt
right (fin s m e) (fin r n d) t = tt

pub returns-then-x-y : goal.returns-then-x-y
returns-then-x-y c t =
    let a = c.args in
    sym (of_bits-to_bits binary64 a.x (subst T (sym c.well_formed.0.1) tt)) ∙ ap (of_bits binary64) (eqb→eq _ _ t)
    ∙ of_bits-to_bits binary64 a.y (subst T (sym c.well_formed.1.0.1) tt)

pub returns-else-x-y : goal.returns-else-x-y
returns-else-x-y c t = absurd t

pub float_to_bits-result-then-x-y : goal.float_to_bits-result-then-x-y
float_to_bits-result-then-x-y c = right _ _ (of_true _ c.if-x-y.true)
