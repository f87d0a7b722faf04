-- A film that does not absorb: its matrices are those of section 4, up to a zero's sign, where its numbers are finite. Assumes nothing.
use mathlib.Core.Path.{◌≡◌, sym, ap, ap₂, ◌∙◌, subst}
use mathlib.Core.Bool.{true}
use lib.Ieee.{Float, binary64, eq}
use lib.Ieee.Fits.{sub-fits}
use Rattle.ieee.specs.Operators.{◌⊖◌, ◌⊗◌}
use Rattle.ieee.specs.Functions.{zero_f, one}
use Rattle.ieee.proofs.Signs.{of_true}
use Rattle.ieee.proofs.Range.Laws.{neg_mag}
use Rattle.ieee.proofs.Range.FromZero.{equals_zero}
use Rattle.math_trig.specs.Trig as Trig
use Rattle.thin_film_complex.specs.declared.Complex.{Complex}
use Rattle.thin_film_complex.specs.Complex.{real, scale, sqrt, sub, mul, ◌⊟◌, ◌⊠◌, ◌⧄◌}
use Rattle.thin_film_matrix.specs.Film as Film
use Rattle.thin_film_matrix.specs.Film.{sin_theta, cos_delta, i_sin_delta, characteristic}
use Rattle.thin_film_solver.specs.declared.ThinFilmLayer.{ThinFilmLayer}
use Rattle.thin_film_solver.specs.Layer.{index, factor, delta, layer_s, layer_p}
use Rattle.polarization_value.proofs.Keeps.{Zero, kept}
use Rattle.thin_film_real.proofs.Keeps.{Fine, mul_back, sub_back, zero_times, keeps_square, keeps_same, square_less_zero, zero_less_zero}
use Rattle.thin_film_real.proofs.Parts.{Re, Im, Of, real_re, re_is, im_is, re_re, im_re, re_over, im_over}
use Rattle.thin_film_real.proofs.Phase.{cos_real, i_sin_imaginary}
use Rattle.surface_real.specs.declared.Film as D
use Rattle.surface_real.specs.Internal.{over, root, cos_theta, medium_of, film_in, film_of}
use Rattle.surface_real.proofs.Back.{chosen, Quotient, over_back, cos_back, root_back}

module _ (snell : Float) (layer : ThinFilmLayer) (f : Fine (cos_theta snell layer)) where
  abbrev n : Float
  n = layer.n

  abbrev q : Float
  q = over snell n

  abbrev square : Float
  square = one ⊖ q ⊗ q

  lossless : (eq layer.k zero_f ≡ true) × (cos_theta snell layer ≡ root square)
  unfolding cos_theta
  lossless = chosen (eq layer.k zero_f) (root square) f

  pub index_real : Re n (index layer)
  unfolding index
  index_real = record { re = kept; im = neg_mag (equals_zero layer.k (of_true _ lossless.0)) }

  here : Fine square × Re (root square) (sqrt (real square))
  here = root_back square (sub-fits binary64 one (q ⊗ q)) (subst Fine lossless.1 f)

  square_fine : Fine (q ⊗ q)
  square_fine = (sub_back one (q ⊗ q) here.0).1

  sine : Quotient snell n
  sine = over_back snell n (mul_back q q square_fine).0

  sin_real : Re q (sin_theta snell (index layer))
  unfolding sin_theta
  sin_real = re_is (sym sine.is) (re_over sine.below index_real sine.large sine.divides sine.above (real_re snell))

  -- 1 - sin^2, bit for bit
  square_is : real one ⊟ sin_theta snell (index layer) ⊠ sin_theta snell (index layer) ≡ real square
  unfolding real sub mul
  square_is =
      let s = sin_theta snell (index layer) in
      let g = (mul_back q q square_fine).0 in
      ap₂ (λ (x y : Float). record { re = one ⊖ x; im = y })
      (ap (λ (x : Float). x ⊖ s.im ⊗ s.im) (keeps_square sin_real.re) ∙ square_less_zero q square_fine g sin_real.im)
      (zero_less_zero (re_re g g sin_real sin_real).im)

  theta_is : Film.cos_theta snell (index layer) ≡ sqrt (real square)
  unfolding Film.cos_theta
  theta_is = ap sqrt square_is

  pub theta_real : Re (cos_theta snell layer) (Film.cos_theta snell (index layer))
  theta_real = re_is (sym lossless.1) (subst (Re (root square)) (sym theta_is) here.1)

-- ---- the matrices
module _ (snell wavelength : Float) (layer : ThinFilmLayer) where
  abbrev F : D.Film
  F = film_of snell wavelength layer

  -- the numbers that its matrices are made of
  abbrev cos : Float
  cos = cos_theta snell layer

  abbrev es : Float
  es = layer.n ⊗ cos

  abbrev ep : Float
  ep = over layer.n cos

  abbrev t : Float
  t = factor layer.thickness_nm wavelength

  abbrev d : Float
  d = es ⊗ t

  abbrev sin : Float
  sin = Trig.sin d

  module _ (fc : Fine F.cos) (fs : Fine F.y_s) (fp : Fine F.y_p) where
    by_s : Quotient sin es
    unfolding film_of medium_of film_in
    by_s = over_back sin es fs

    by_p : Quotient sin ep
    unfolding film_of medium_of film_in
    by_p = over_back sin ep fp

    phase : Fine d
    unfolding film_of medium_of film_in
    phase = cos_back d fc

    cos_fine : Fine cos
    cos_fine = (mul_back layer.n cos by_s.below).1

    n_over : Quotient layer.n cos
    n_over = over_back layer.n cos by_p.below

    eta_s : Re es (index layer ⊠ Film.cos_theta snell (index layer))
    eta_s = re_re n_over.above cos_fine (index_real snell layer cos_fine) (theta_real snell layer cos_fine)

    eta_p : Re ep (index layer ⧄ Film.cos_theta snell (index layer))
    eta_p = re_is (sym n_over.is) (re_over n_over.below (theta_real snell layer cos_fine) n_over.large n_over.divides n_over.above (index_real snell layer cos_fine))

    abbrev δ : Complex
    δ = delta snell wavelength layer

    delta_re : δ.re ≡ d
    unfolding delta scale
    delta_re = ap (λ (x : Float). x ⊗ t) (keeps_same eta_s.re by_s.divides)

    delta_im : Zero δ.im
    unfolding delta scale
    delta_im = zero_times eta_s.im (mul_back es t phase).1

    cos_re : Re F.cos (cos_delta δ)
    unfolding film_of medium_of film_in
    cos_re = cos_real d δ delta_re delta_im phase

    sin_im : Im sin (i_sin_delta δ)
    sin_im = i_sin_imaginary d δ delta_re delta_im phase

    pub of_s : Of F.cos F.y_s F.z_s F.cos (layer_s snell wavelength layer)
    unfolding film_of medium_of film_in layer_s characteristic
    of_s = record {
      m11 = cos_re;
      m12 = im_is (sym by_s.is) (im_over by_s.below eta_s by_s.large by_s.divides by_s.above sin_im);
      m21 = im_re by_s.above by_s.below sin_im eta_s;
      m22 = cos_re;
    }

    pub of_p : Of F.cos F.y_p F.z_p F.cos (layer_p snell wavelength layer)
    unfolding film_of medium_of film_in layer_p characteristic
    of_p = record {
      m11 = cos_re;
      m12 = im_is (sym by_p.is) (im_over by_p.below eta_p by_p.large by_p.divides by_p.above sin_im);
      m21 = im_re by_p.above by_p.below sin_im eta_p;
      m22 = cos_re;
    }
