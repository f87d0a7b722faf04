-- A lossless layer within the limits: its angle, admittances and phase. Assumes nothing.
use mathlib.Core.Path.{◌≡◌, refl, sym, ap, ◌∙◌, subst}
use lib.Dec.{T, lit≤}
use lib.Ieee.{Float, binary64, neg, fits}
use lib.Ieee.Fits.{mul-fits, sub-fits}
use Rattle.ieee.specs.Operators.{◌⊕◌, ◌⊖◌, ◌⊗◌}
use Rattle.ieee.specs.Functions.{zero_f, one}
use Rattle.ieee.specs.Range.{Mag, In}
use Rattle.ieee.proofs.Range.Laws.{in_mag, neg_mag, mul_mag, mul_in, sq_in}
use Rattle.ieee.proofs.Range.Sums.{add_mag, sub_mag, sub_in}
use Rattle.ieee.proofs.Range.Quotients.{div_mag, div_in}
use Rattle.ieee.proofs.Range.Zero.{zero_mul_mag, mul_zero_mag, add_zero_in, sub_zero_in, add_zero_size}
use Rattle.ieee.proofs.Range.Ratio.{slope, quotient_mag}
use Rattle.ieee.proofs.Range.Constants.{zero_mag, one_in, one_mag}
use Rattle.math_exp.specs.Exp as Exp
use Rattle.math_exp.proofs.ExpBounds.{exp_zero}
use Rattle.thin_film_complex.specs.declared.Complex.{Complex}
use Rattle.thin_film_complex.specs.Complex.{real, scale, norm_sq, sub, mul, quotient, div}
use Rattle.thin_film_solver.specs.declared.ThinFilmLayer.{ThinFilmLayer}
use Rattle.thin_film_matrix.specs.Film.{sin_theta, cos_theta}
use Rattle.thin_film_solver.specs.Layer.{index, delta}
use Rattle.thin_film_bounds.specs.Range.{Real}
use Rattle.thin_film_bounds.specs.Solver.{AdmittedLayer}
use Rattle.thin_film_bounds.proofs.Complex.{real_up, norm_same, norm_in, div_is, mul_real, sqrt_real}
use Rattle.thin_film_bounds.proofs.Powers.{real_pow}
use Rattle.thin_film_bounds.proofs.Film.{factor_mag, Turns, Admittance, Made, Bounds}

-- ---- the angle: its sine is at most 7/8 and one part in 2 ^ 51
index_real : (snell : Float) (layer : ThinFilmLayer) → AdmittedLayer snell layer → Real 1 0 4 0 (index layer)
unfolding index
index_real snell layer g = record { re = g.index; im = neg_mag g.lossless }

record Slope (z : Complex) : Type 0 where
  re : Mag slope 51 z.re
  im : Mag 0 0 z.im

sine_quotient : (snell : Float) (layer : ThinFilmLayer) → Mag 4 0 snell → AdmittedLayer snell layer → Slope (quotient (real snell) (index layer) (layer.n ⊗ layer.n))
unfolding quotient real index
sine_quotient snell layer h g =
    let n = layer.n in
    let N : In 1 0 4 0 n = g.index in
    let K : Mag 0 0 (neg layer.k) = neg_mag g.lossless in
    let d : In 1 0 16 0 (n ⊗ n) = mul_in N N tt in
    let p : Mag 16 0 (snell ⊗ n) = mul_mag h (in_mag N) tt in
    let z = add_zero_size (snell ⊗ n) p.fine (mul-fits binary64 snell n) (zero_mul_mag zero_mag K) in
    let i : Mag 0 0 (zero_f ⊗ n ⊖ snell ⊗ neg layer.k) = sub_mag (zero_mul_mag zero_mag (in_mag N)) (mul_zero_mag h K) tt in
    record {
      re = quotient_mag snell n h.fine N g.refracts (snell ⊗ n ⊕ zero_f ⊗ neg layer.k) z.0 z.1;
      im = div_mag i d tt;
    }

sine_slope : (snell : Float) (layer : ThinFilmLayer) → Mag 4 0 snell → AdmittedLayer snell layer → Slope (sin_theta snell (index layer))
unfolding sin_theta
sine_slope snell layer h g =
    let N = index_real snell layer g in
    let d : In 1 0 16 0 (norm_sq (index layer)) = norm_in N tt in
    subst (λ (z : Complex). Slope z)
    (sym (div_is (real snell) (index layer) d tt ∙ ap (λ (x : Float). quotient (real snell) (index layer) x) (norm_same 16 0 N tt ∙ square layer)))
    (sine_quotient snell layer h g)
  where
    square : (layer : ThinFilmLayer) → (index layer).re ⊗ (index layer).re ≡ layer.n ⊗ layer.n
    square layer = unfold index in refl

-- 1 - sin ^ 2 is from 7/32 to 1
one_minus : (t : Complex) → Slope t → Real 7 5 1 0 (sub (real one) (mul t t))
unfolding sub real mul
one_minus t h =
    let b : In 0 0 25 5 (t.re ⊗ t.re) = sq_in h.re tt in
    let c : In 0 0 25 5 (t.re ⊗ t.re ⊖ t.im ⊗ t.im) = sub_zero_in b (zero_mul_mag h.im h.im) tt in
    let i : Mag 0 0 (t.re ⊗ t.im ⊕ t.im ⊗ t.re) = add_mag (mul_zero_mag h.re h.im) (zero_mul_mag h.im h.re) tt in
    record { re = sub_in one_in c tt; im = sub_mag zero_mag i tt }

cosine_real : (snell : Float) (layer : ThinFilmLayer) → Mag 4 0 snell → AdmittedLayer snell layer → Real 7 4 1 0 (cos_theta snell (index layer))
unfolding cos_theta
cosine_real snell layer h g =
    let t = sin_theta snell (index layer) in
    sqrt_real (sub (real one) (mul t t)) (one_minus t (sine_slope snell layer h g)) (fit t)
  where
    fit : (t : Complex) → T (fits binary64 (sub (real one) (mul t t)).re)
    fit t = unfold sub real in sub-fits binary64 one (mul t t).re

-- ---- the admittances
eta_s_real : (snell : Float) (layer : ThinFilmLayer) → Mag 4 0 snell → AdmittedLayer snell layer → Real 7 4 4 0 (mul (index layer) (cos_theta snell (index layer)))
eta_s_real snell layer h g = mul_real (index_real snell layer g) (cosine_real snell layer h g) tt tt

-- an index over a cosine
eta_quotient : (z w : Complex) (d : Float) → Real 1 0 4 0 z → Real 7 4 1 0 w → In 3 4 1 0 d → Real 7 4 22 0 (quotient z w d)
unfolding quotient
eta_quotient z w d Z W D =
    let a : In 7 4 4 0 (z.re ⊗ w.re) = mul_in Z.re W.re tt in
    let b : In 7 4 4 0 (z.re ⊗ w.re ⊕ z.im ⊗ w.im) = add_zero_in a (zero_mul_mag Z.im W.im) tt in
    let i : Mag 0 0 (z.im ⊗ w.re ⊖ z.re ⊗ w.im) = sub_mag (zero_mul_mag Z.im (in_mag W.re)) (mul_zero_mag (in_mag Z.re) W.im) tt in
    record { re = div_in b D tt; im = div_mag i D tt }

pub eta_div : (z w : Complex) → Real 1 0 4 0 z → Real 7 4 1 0 w → Real 7 4 22 0 (div z w)
eta_div z w Z W =
    let d : In 3 4 1 0 (norm_sq w) = norm_in W tt in
    subst (λ (v : Complex). Real 7 4 22 0 v) (sym (div_is z w d tt)) (eta_quotient z w (norm_sq w) Z W d)

eta_p_real : (snell : Float) (layer : ThinFilmLayer) → Mag 4 0 snell → AdmittedLayer snell layer → Real 7 4 22 0 (div (index layer) (cos_theta snell (index layer)))
eta_p_real snell layer h g = eta_div (index layer) (cos_theta snell (index layer)) (index_real snell layer g) (cosine_real snell layer h g)

-- ---- Im δ is a zero here, and the exponentials are 1
exp_one : {x : Float} → Mag 0 0 x → Mag 1 0 (Exp.exp x)
exp_one {x} h = subst (λ (z : Float). Mag 1 0 z) (sym (exp_zero x h)) one_mag

scale_turns : {z : Complex} {f : Float} → Real 7 4 4 0 z → Mag 8192 0 f → Turns 1 (scale z f)
unfolding scale
scale_turns {z} {f} h g =
    let i : Mag 0 0 (z.im ⊗ f) = zero_mul_mag h.im g in
    record { angle = mul_mag (in_mag h.re) g tt; growth = exp_one (neg_mag i); decay = exp_one i }

pub bounds_lossless : Bounds 1 0 5 3
bounds_lossless = record { tests = record { once = tt; twice = tt; halved = tt; before = tt; behind = tt }; under = tt; deep = tt; room = lit≤ tt }

-- ---- what its matrices are made of
real_admittance : {z : Complex} → Real 7 4 22 0 z → Admittance 5 3 z
real_admittance g = record { size = real_pow 5 g tt; least = norm_in g tt }

pub made_lossless : (snell w : Float) → Mag 4 0 snell → In 100 0 10000 0 w → (layer : ThinFilmLayer) → AdmittedLayer snell layer → Made 1 5 3 snell w layer
unfolding delta
made_lossless snell w S W layer g =
    let e = eta_s_real snell layer S g in
    record { turns = scale_turns e (factor_mag g.thickness W); eta_s = real_admittance (real_up e tt); eta_p = real_admittance (eta_p_real snell layer S g) }
