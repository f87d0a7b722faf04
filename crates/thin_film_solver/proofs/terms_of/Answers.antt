-- `thin_film_solver::terms_of` meets its contract. Assumes nothing.
use mathlib.Core.Path.{◌≡◌}
use lib.Ieee.{Float, neg}
use Rattle.ieee.specs.Operators.{◌⊗◌, ◌⊘◌}
use Rattle.ieee.specs.Functions.{two}
use Rattle.math_trig.specs.Angles.{pi}
use Rattle.thin_film_complex.specs.declared.Complex.{Complex}
use Rattle.thin_film_complex.specs.Complex.{scale, mul, div}
use Rattle.thin_film_matrix.specs.declared.Phase.{Phase}
use Rattle.thin_film_matrix.specs.Film.{cos_theta, cos_delta, i_sin_delta}
use Rattle.thin_film_solver.specs.declared.ThinFilmLayer.{ThinFilmLayer}
use Rattle.thin_film_solver.specs.declared.Terms.{Terms}
use Rattle.thin_film_solver.specs.Layer.{index, factor, delta}
use Rattle.thin_film_solver.specs.Internal.{terms_of}
use borrow.Author.Rules.{rules}
use Rattle.thin_film_solver.proofs.terms_of.Goals as goal

parts : (snell wavelength : Float) (layer : ThinFilmLayer) (n z e f d : Complex) (q : Phase) → n ≡ record { re = layer.n; im = neg layer.k } → z ≡ cos_theta snell n → e ≡ mul n z → f ≡ div n z
    → d ≡ scale e (two ⊗ pi ⊗ layer.thickness_nm ⊘ wavelength) → q ≡ record { cos = cos_delta d; i_sin = i_sin_delta d } → ◌≡◌ {A = Terms} (record { phase = q; eta_s = e; eta_p = f }) (terms_of snell wavelength layer)
unfolding terms_of delta index factor
parts snell wavelength layer n z e f d q n_is z-is e-is f-is d-is q-is = simp (q-is, d-is, f-is, e-is, z-is, n_is)

pub returns : goal.returns
returns c = parts _ _ _ _ _ _ _ _ _ c.new-n_c.ensures c.cos_theta-cos.ensures c.mul-eta_s.ensures c.div-eta_p.ensures c.scale.ensures c.phase_of-phase.ensures
