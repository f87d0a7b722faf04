-- One layer, for a bound p of both exponentials of Im δ and a bound of its admittances, and the products of the matrices through a list of such layers. Assumes nothing.
use mathlib.Core.Path.{◌≡◌, refl, sym, subst}
use mathlib.Core.List.{List, [], ◌∷◌}
use Prim.Native.Nat.{ℕ, suc, ◌+◌, ◌*◌, ◌^◌, ◌≤◌}
use native.Mathlib.Omega.{arith}
use lib.Dec.{T, leb}
use lib.ListN.{length}
use lib.Ieee.{Float, neg}
use Rattle.ieee.specs.Operators.{◌⊕◌, ◌⊖◌, ◌⊗◌}
use Rattle.ieee.specs.Functions.{two, half}
use Rattle.ieee.specs.Range.{Mag, In, at_most, wider}
use Rattle.ieee.proofs.Range.Laws.{in_mag, neg_mag, mul_mag}
use Rattle.ieee.proofs.Range.Sums.{add_mag, sub_mag}
use Rattle.ieee.proofs.Range.Quotients.{div_mag}
use Rattle.ieee.proofs.Range.Zero.{mul_zero_mag}
use Rattle.ieee.proofs.Range.Constants.{zero_mag, half_in, two_in}
use Rattle.math_trig.specs.Angles.{pi}
use Rattle.math_exp.specs.Exp as Exp
use Rattle.math_atan.proofs.AtanBounds.{pi_mag}
use Rattle.thin_film_complex.specs.declared.Complex.{Complex}
use Rattle.thin_film_complex.specs.Complex.{scale, norm_sq, add, sub, mul, div}
use Rattle.thin_film_solver.specs.declared.ThinFilmLayer.{ThinFilmLayer}
use Rattle.thin_film_matrix.specs.Matrix.{Matrix, mat_mul, identity}
use Rattle.thin_film_matrix.specs.Film.{cos_theta, exp_pos, exp_neg, cos_delta, sin_delta, i_sin_delta, characteristic}
use Rattle.thin_film_solver.specs.Layer.{index, factor, delta, layer_s, layer_p}
use Rattle.thin_film_solver.specs.Solve.{product_s, product_p}
use Rattle.thin_film_bounds.specs.Range.{CMag, CPow, MPow}
use Rattle.thin_film_bounds.specs.Solver.{Each}
use Rattle.thin_film_bounds.proofs.Complex.{div_is, exp_mag}
use Rattle.thin_film_bounds.proofs.Powers.{cpow_up, cmag_pow, cmul_pow, quotient_pow, mpow_up, mat_mul_pow, identity_pow}

-- ---- 2 π d / λ is at most 8192
pub factor_mag : {d w : Float} → Mag 100000 0 d → In 100 0 10000 0 w → Mag 8192 0 (factor d w)
unfolding factor
factor_mag {d} h g =
    let a : Mag 8 0 (two ⊗ pi) = mul_mag (in_mag two_in) pi_mag tt in
    let b : Mag 800000 0 (two ⊗ pi ⊗ d) = mul_mag a h tt in
    div_mag b g tt

-- ---- cos δ and i sin δ, where both exponentials of Im δ are at most p: both parts are at most p. The tests hold of every numeral below 2 ^ 52
pub record Room (p : ℕ) : Type 0 where
  pub once : T (at_most (p * 1) (2 ^ 0 * 2 ^ 0) p 0)
  pub twice : T (at_most (p * 2 ^ 0 + p * 2 ^ 0) (2 ^ 0 * 2 ^ 0) (2 * p) 0)
  pub halved : T (at_most (2 * p * 1) (2 ^ 0 * 2 ^ 1) p 0)
  pub before : T (at_most (0 * 2 ^ 0 + p * 2 ^ 0) (2 ^ 0 * 2 ^ 0) p 0)
  pub behind : T (at_most (p * 2 ^ 0 + 0 * 2 ^ 0) (2 ^ 0 * 2 ^ 0) p 0)

pub record Turns (p : ℕ) (δ : Complex) : Type 0 where
  pub angle : Mag 32768 0 δ.re
  pub growth : Mag p 0 (Exp.exp (neg δ.im))
  pub decay : Mag p 0 (Exp.exp δ.im)

half_mag : Mag 1 1 half
half_mag = in_mag half_in

module _ {p : ℕ} (r : Room p) {δ : Complex} (h : Turns p δ) where
  exp_pos_mag : CMag p 0 (exp_pos δ)
  unfolding exp_pos
  exp_pos_mag = exp_mag (record { re = neg δ.im; im = δ.re }) h.growth h.angle.fine r.once

  exp_neg_mag : CMag p 0 (exp_neg δ)
  unfolding exp_neg
  exp_neg_mag = exp_mag (record { re = δ.im; im = neg δ.re }) h.decay (neg_mag h.angle).fine r.once

  pub cos_delta_mag : CMag p 0 (cos_delta δ)
  unfolding cos_delta scale add
  cos_delta_mag =
      let a : Mag (2 * p) 0 ((exp_pos δ).re ⊕ (exp_neg δ).re) = add_mag exp_pos_mag.re exp_neg_mag.re r.twice in
      let b : Mag (2 * p) 0 ((exp_pos δ).im ⊕ (exp_neg δ).im) = add_mag exp_pos_mag.im exp_neg_mag.im r.twice in
      record { re = mul_mag a half_mag r.halved; im = mul_mag b half_mag r.halved }

  pub i_sin_delta_mag : CMag p 0 (i_sin_delta δ)
  unfolding i_sin_delta sin_delta mul sub
  i_sin_delta_mag =
      let a : Mag (2 * p) 0 ((exp_pos δ).re ⊖ (exp_neg δ).re) = sub_mag exp_pos_mag.re exp_neg_mag.re r.twice in
      let b : Mag (2 * p) 0 ((exp_pos δ).im ⊖ (exp_neg δ).im) = sub_mag exp_pos_mag.im exp_neg_mag.im r.twice in
      let a' : Mag p 0 (((exp_pos δ).re ⊖ (exp_neg δ).re) ⊗ neg half) = mul_mag a (neg_mag half_mag) r.halved in
      let b' : Mag p 0 (((exp_pos δ).im ⊖ (exp_neg δ).im) ⊗ neg half) = mul_mag b (neg_mag half_mag) r.halved in
      record { re = neg_mag (add_mag a' (mul_zero_mag b zero_mag) r.behind); im = sub_mag (mul_zero_mag a zero_mag) b' r.before }

-- ---- an admittance: its parts are at most 2 ^ h, and its squared size is 2 ^ -l at least
pub record Admittance (h l : ℕ) (z : Complex) : Type 0 where
  pub size : CPow h z
  pub least : In 1 l 1024 0 (norm_sq z)

-- what the matrices of a layer are made of
pub record Made (p h l : ℕ) (snell wavelength : Float) (layer : ThinFilmLayer) : Type 0 where
  pub turns : Turns p (delta snell wavelength layer)
  pub eta_s : Admittance h l (mul (index layer) (cos_theta snell (index layer)))
  pub eta_p : Admittance h l (div (index layer) (cos_theta snell (index layer)))

-- such bounds, for a p of at most 2 ^ g
pub record Bounds (p g h l : ℕ) : Type 0 where
  pub tests : Room p
  pub under : T (leb p (2 ^ g * 2 ^ 0))
  pub deep : T (wider 1 93 1 l)
  pub room : suc (g + h) + l ≤ 1023

-- ---- the matrix: its entries are at most 2 ^ (g + h + l + 1)
module _ {p g h l : ℕ} (r : Bounds p g h l) where
  div_pow : (z w : Complex) → CPow g z → Admittance h l w → CPow (suc (g + h) + l) (div z w)
  div_pow z w Z A = subst (λ (v : Complex). CPow (suc (g + h) + l) v) (sym (div_is z w A.least r.deep)) (quotient_pow z w (norm_sq w) Z A.size A.least r.room)

  characteristic_pow : (δ eta : Complex) → Turns p δ → Admittance h l eta → MPow (suc (g + h) + l) (characteristic δ eta)
  unfolding characteristic
  characteristic_pow δ eta t A =
      let c : CPow g (cos_delta δ) = cmag_pow g (cos_delta_mag r.tests t) r.under in
      let i : CPow g (i_sin_delta δ) = cmag_pow g (i_sin_delta_mag r.tests t) r.under in
      let m : CPow (suc (g + h) + l) (cos_delta δ) = cpow_up c (omega arith) in
      record { m11 = m; m12 = div_pow (i_sin_delta δ) eta i A; m21 = cpow_up (cmul_pow i A.size (omega (arith, r.room))) (omega arith); m22 = m }

-- ---- the product through the layers, of a matrix for each: entries up to 2 ^ k before n layers are up to 2 ^ (k + (e + 2) n) behind them
module _ {e : ℕ} (P : ThinFilmLayer → Type 0) (of : ThinFilmLayer → Matrix) (through : Matrix → List ThinFilmLayer → Matrix)
    (through-none : (m : Matrix) → through m [] ≡ m)
    (through-one : (m : Matrix) (layer : ThinFilmLayer) (layers : List ThinFilmLayer) → through m (layer ∷ layers) ≡ through (mat_mul m (of layer)) layers)
    (of_pow : (layer : ThinFilmLayer) → P layer → MPow e (of layer)) where
  product_pow : (k : ℕ) (m : Matrix) (layers : List ThinFilmLayer) → MPow k m → Each P layers → k + (e + 2) * length layers ≤ 1023 → MPow (k + (e + 2) * length layers) (through m layers)
  product_pow k m [] M gs b = subst (λ (z : Matrix). MPow (k + (e + 2) * 0) z) (sym (through-none m)) (mpow_up M (omega arith))
  product_pow k m (layer ∷ layers) M gs b =
      subst (λ (z : Matrix). MPow (k + (e + 2) * suc (length layers)) z) (sym (through-one m layer layers))
      (mpow_up (product_pow (suc (suc (k + e))) (mat_mul m (of layer)) layers (mat_mul_pow M (of_pow layer gs.0) (omega arith)) gs.1 (omega arith)) (omega arith))

-- ---- both polarizations
module _ (snell w : Float) {p g h l : ℕ} (r : Bounds p g h l) (P : ThinFilmLayer → Type 0)
    (made : (layer : ThinFilmLayer) → P layer → Made p h l snell w layer) where
  layer_s_pow : (layer : ThinFilmLayer) → P layer → MPow (suc (g + h) + l) (layer_s snell w layer)
  unfolding layer_s
  layer_s_pow layer q = let m = made layer q in characteristic_pow r (delta snell w layer) (mul (index layer) (cos_theta snell (index layer))) m.turns m.eta_s

  layer_p_pow : (layer : ThinFilmLayer) → P layer → MPow (suc (g + h) + l) (layer_p snell w layer)
  unfolding layer_p
  layer_p_pow layer q = let m = made layer q in characteristic_pow r (delta snell w layer) (div (index layer) (cos_theta snell (index layer))) m.turns m.eta_p

  pub product_s_pow : (layers : List ThinFilmLayer) → Each P layers → 0 + (suc (g + h) + l + 2) * length layers ≤ 1023 → MPow (0 + (suc (g + h) + l + 2) * length layers) (product_s snell w identity layers)
  unfolding product_s
  product_s_pow layers gs b = product_pow P (layer_s snell w) (product_s snell w) (λ m. refl) (λ m layer layers. refl) layer_s_pow 0 identity layers identity_pow gs b

  pub product_p_pow : (layers : List ThinFilmLayer) → Each P layers → 0 + (suc (g + h) + l + 2) * length layers ≤ 1023 → MPow (0 + (suc (g + h) + l + 2) * length layers) (product_p snell w identity layers)
  unfolding product_p
  product_p_pow layers gs b = product_pow P (layer_p snell w) (product_p snell w) (λ m. refl) (λ m layer layers. refl) layer_p_pow 0 identity layers identity_pow gs b
