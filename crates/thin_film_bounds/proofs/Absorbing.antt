-- An absorbing layer that is met head-on, within the limits: the light goes straight through it, and Im δ is of the size of the product that is limited. Assumes nothing.
use mathlib.Core.Path.{◌≡◌, refl, sym, subst}
use Prim.Native.Nat.{◌^◌}
use lib.Dec.{T, lit≤}
use lib.Ieee.{Float, binary64, neg, fits}
use lib.Ieee.Fits.{mul-fits, sub-fits, neg-fits}
use Rattle.ieee.specs.Operators.{◌⊕◌, ◌⊖◌, ◌⊗◌}
use Rattle.ieee.specs.Functions.{zero_f, one}
use Rattle.ieee.specs.Range.{Mag, In}
use Rattle.ieee.proofs.Range.Laws.{in_mag, in_up, neg_mag, mul_mag, mul_in, sq_in}
use Rattle.ieee.proofs.Range.Sums.{add_mag, sub_mag, add_in}
use Rattle.ieee.proofs.Range.Quotients.{div_mag, div_in}
use Rattle.ieee.proofs.Range.Powers.{to_pow}
use Rattle.ieee.proofs.Range.Zero.{zero_mul_mag, mul_zero_mag, add_zero_in, sub_zero_in}
use Rattle.ieee.proofs.Range.Constants.{zero_mag, one_in}
use Rattle.math_exp.proofs.ExpBounds.{exp_in}
use Rattle.thin_film_complex.specs.declared.Complex.{Complex}
use Rattle.thin_film_complex.specs.Complex.{real, scale, norm_sq, sub, mul, quotient, div}
use Rattle.thin_film_solver.specs.declared.ThinFilmLayer.{ThinFilmLayer}
use Rattle.thin_film_matrix.specs.Film.{sin_theta, cos_theta}
use Rattle.thin_film_solver.specs.Layer.{index, factor, delta}
use Rattle.thin_film_bounds.specs.Range.{CMag, Real}
use Rattle.thin_film_bounds.specs.Solver.{AbsorbingLayer}
use Rattle.thin_film_bounds.proofs.Complex.{div_is, norm_in, sqrt_one}
use Rattle.thin_film_bounds.proofs.Size.{Same, same_trans, neg_same, times_unit, zero_plus, swapped}
use Rattle.thin_film_bounds.proofs.Film.{factor_mag, Turns, Admittance, Made, Bounds}

-- ---- an index, or an admittance: the real part 1/16 to 4, the imaginary part up to 8 in size
record Lossy (z : Complex) : Type 0 where
  re : In 1 4 4 0 z.re
  im : Mag 8 0 z.im

norm_of : {z : Complex} → Lossy z → In 1 8 80 0 (norm_sq z)
unfolding norm_sq
norm_of {z} h =
    let a : In 1 8 16 0 (z.re ⊗ z.re) = mul_in h.re h.re tt in
    let b : In 0 0 64 0 (z.im ⊗ z.im) = sq_in h.im tt in
    add_in a b tt

lossy_admittance : {z : Complex} → Lossy z → Admittance 3 8 z
lossy_admittance h = record { size = record { re = to_pow 3 (in_mag h.re) tt; im = to_pow 3 h.im tt }; least = in_up (norm_of h) tt }

module _ (snell w : Float) (S : Mag 0 0 snell) (wave : In 100 0 10000 0 w) (layer : ThinFilmLayer) (g : AbsorbingLayer w layer) where
  index_is : Lossy (index layer)
  unfolding index
  index_is = record { re = g.index; im = neg_mag g.absorbs }

  -- ---- the light goes straight: sin 0, cos 1
  sine : CMag 0 0 (sin_theta snell (index layer))
  unfolding sin_theta
  sine =
      let d = norm_of index_is in
      subst (λ (z : Complex). CMag 0 0 z) (sym (div_is (real snell) (index layer) d tt)) (at (norm_sq (index layer)) d)
    where
      at : (d : Float) → In 1 8 80 0 d → CMag 0 0 (quotient (real snell) (index layer) d)
      at d D = unfold quotient real index in (
          let n : Mag 0 0 (snell ⊗ layer.n ⊕ zero_f ⊗ neg layer.k) = add_mag (zero_mul_mag S (in_mag g.index)) (zero_mul_mag zero_mag (neg_mag g.absorbs)) tt in
          let i : Mag 0 0 (zero_f ⊗ layer.n ⊖ snell ⊗ neg layer.k) = sub_mag (zero_mul_mag zero_mag (in_mag g.index)) (zero_mul_mag S (neg_mag g.absorbs)) tt in
          record { re = div_mag n D tt; im = div_mag i D tt })

  under_root : (t : Complex) → CMag 0 0 t → Real 1 0 1 0 (sub (real one) (mul t t))
  unfolding sub real mul
  under_root t h =
      let a : Mag 0 0 (t.re ⊗ t.re ⊖ t.im ⊗ t.im) = sub_mag (zero_mul_mag h.re h.re) (zero_mul_mag h.im h.im) tt in
      let i : Mag 0 0 (t.re ⊗ t.im ⊕ t.im ⊗ t.re) = add_mag (zero_mul_mag h.re h.im) (zero_mul_mag h.im h.re) tt in
      record { re = sub_zero_in one_in a tt; im = sub_mag zero_mag i tt }

  cosine : Real 1 0 1 0 (cos_theta snell (index layer))
  unfolding cos_theta
  cosine = let t = sin_theta snell (index layer) in sqrt_one (sub (real one) (mul t t)) (under_root t sine) (fit t)
    where
      fit : (t : Complex) → T (fits binary64 (sub (real one) (mul t t)).re)
      fit t = unfold sub real in sub-fits binary64 one (mul t t).re

  -- ---- the admittances
  re_product : In 1 4 4 0 ((index layer).re ⊗ (cos_theta snell (index layer)).re)
  re_product = mul_in index_is.re cosine.re tt

  im_product : Mag 8 0 ((index layer).im ⊗ (cos_theta snell (index layer)).re)
  im_product = mul_mag index_is.im (in_mag cosine.re) tt

  eta_s : Lossy (mul (index layer) (cos_theta snell (index layer)))
  unfolding mul
  eta_s = record { re = sub_zero_in re_product (mul_zero_mag index_is.im cosine.im) tt; im = add_mag (mul_zero_mag (in_mag index_is.re) cosine.im) im_product tt }

  eta_p : Lossy (div (index layer) (cos_theta snell (index layer)))
  eta_p =
      let c = cos_theta snell (index layer) in
      let d : In 1 0 1 0 (norm_sq c) = norm_in cosine tt in
      subst (λ (z : Complex). Lossy z) (sym (div_is (index layer) c d tt)) (at (norm_sq c) d)
    where
      at : (d : Float) → In 1 0 1 0 d → Lossy (quotient (index layer) (cos_theta snell (index layer)) d)
      at d D = unfold quotient in (
          let b : In 1 4 4 0 ((index layer).re ⊗ (cos_theta snell (index layer)).re ⊕ (index layer).im ⊗ (cos_theta snell (index layer)).im) = add_zero_in re_product (mul_zero_mag index_is.im cosine.im) tt in
          let i : Mag 8 0 ((index layer).im ⊗ (cos_theta snell (index layer)).re ⊖ (index layer).re ⊗ (cos_theta snell (index layer)).im) = sub_mag im_product (mul_zero_mag (in_mag index_is.re) cosine.im) tt in
          record { re = div_in b D tt; im = div_mag i D tt })

  -- ---- the phase: Im δ is of the size of the limited product, so it is at most 16 and both exponentials are at most 2 ^ 24
  im_same : Same layer.k (mul (index layer) (cos_theta snell (index layer))).im
  unfolding mul
  im_same =
      let k = layer.k in
      let m : Same k (neg k ⊗ (cos_theta snell (index layer)).re) = same_trans (neg_same k g.absorbs.fine) (times_unit (neg k) (neg_mag g.absorbs).fine (neg-fits binary64 k g.held) cosine.re) in
      let z : Mag 0 0 ((index layer).re ⊗ (cos_theta snell (index layer)).im) = mul_zero_mag (in_mag index_is.re) cosine.im in
      let n : Same k ((index layer).im ⊗ (cos_theta snell (index layer)).re) = subst (λ (x : Float). Same k (x ⊗ (cos_theta snell (index layer)).re)) im_is m in
      same_trans n (zero_plus ((index layer).im ⊗ (cos_theta snell (index layer)).re) n.fine (mul-fits binary64 (index layer).im (cos_theta snell (index layer)).re) z)
    where
      im_is : neg layer.k ≡ (index layer).im
      im_is = unfold index in refl

  turns : Turns (2 ^ 24) (delta snell w layer)
  unfolding delta scale
  turns =
      let z = mul (index layer) (cos_theta snell (index layer)) in
      let f = factor_mag g.thickness wave in
      let i : Mag 16 0 (z.im ⊗ factor layer.thickness_nm w) = swapped (factor layer.thickness_nm w) im_same g.absorbs.fine f.fine g.damped in
      record {
        angle = mul_mag (in_mag eta_s.re) f tt;
        growth = in_mag (exp_in (neg (z.im ⊗ factor layer.thickness_nm w)) (neg_mag i));
        decay = in_mag (exp_in (z.im ⊗ factor layer.thickness_nm w) i);
      }

  pub made_absorbing : Made (2 ^ 24) 3 8 snell w layer
  made_absorbing = record { turns = turns; eta_s = lossy_admittance eta_s; eta_p = lossy_admittance eta_p }

pub bounds_absorbing : Bounds (2 ^ 24) 24 3 8
bounds_absorbing = record { tests = record { once = tt; twice = tt; halved = tt; before = tt; behind = tt }; under = tt; deep = tt; room = lit≤ tt }
