-- One layer of evaluate_tmm_multilayer in thin_film.rs, in the Rust's order of operations. Definitions only.
-- `snell` is n_incident * sin_theta0.
use Rattle.std.specs.Prelude.{Float}
use Rattle.std.specs.Float.Ieee.{neg}
use Rattle.ieee.specs.Operators.{◌⊗◌, ◌⊘◌}
use Rattle.ieee.specs.Functions.{two}
use Rattle.math_trig.specs.Angles.{pi}
use Rattle.thin_film_complex.specs.declared.Complex.{Complex}
use Rattle.thin_film_complex.specs.Complex.{scale, ◌⊠◌, ◌⧄◌}
use Rattle.thin_film_matrix.specs.Matrix.{Matrix}
use Rattle.thin_film_matrix.specs.Film.{cos_theta, characteristic}
use Rattle.thin_film_solver.specs.declared.ThinFilmLayer.{ThinFilmLayer}

-- n_c = Complex::new(layer.n, -layer.k)
unfoldable pub index : ThinFilmLayer → Complex
index layer = record { re = layer.n; im = neg layer.k }

-- 2.0 * PI * layer.thickness_nm / wavelength_nm
unfoldable pub factor : Float → Float → Float
factor thickness wavelength = two ⊗ pi ⊗ thickness ⊘ wavelength

-- Phase thickness delta = 2*pi * d / lambda * n_c * cos(theta)
unfoldable pub delta : Float → Float → ThinFilmLayer → Complex
delta snell wavelength layer = scale (index layer ⊠ cos_theta snell (index layer)) (factor layer.thickness_nm wavelength)

-- m_layer_s, of the admittance n_c * cos_theta
unfoldable pub layer_s : Float → Float → ThinFilmLayer → Matrix
layer_s snell wavelength layer = characteristic (delta snell wavelength layer) (index layer ⊠ cos_theta snell (index layer))

-- m_layer_p, of the admittance n_c / cos_theta
unfoldable pub layer_p : Float → Float → ThinFilmLayer → Matrix
layer_p snell wavelength layer = characteristic (delta snell wavelength layer) (index layer ⧄ cos_theta snell (index layer))
