-- `surface_real::medium_of` meets its contract. Assumes nothing.
use mathlib.Core.Path.{◌≡◌, refl}
use lib.Ieee.{Float}
use Rattle.ieee.specs.Operators.{◌⊗◌, ◌⊘◌}
use Rattle.ieee.specs.Functions.{two}
use Rattle.math_trig.specs.Angles.{pi}
use Rattle.thin_film_solver.specs.declared.ThinFilmLayer.{ThinFilmLayer}
use Rattle.thin_film_solver.specs.Layer.{factor}
use Rattle.surface_real.specs.declared.Medium.{Medium}
use Rattle.surface_real.specs.Internal.{over, cos_theta, medium_of}
use borrow.Author.Rules.{rules}
use Rattle.surface_real.proofs.medium_of.Goals as goal

parts : (snell wavelength : Float) (layer : ThinFilmLayer) (c e : Float) → c ≡ cos_theta snell layer → e ≡ over layer.n c
    → ◌≡◌ {A = Medium} (record { eta_s = layer.n ⊗ c; eta_p = e; delta = layer.n ⊗ c ⊗ (two ⊗ pi ⊗ layer.thickness_nm ⊘ wavelength) }) (medium_of snell wavelength layer)
unfolding medium_of factor
parts snell wavelength layer c e h1 h2 = simp (h2, h1)

pub returns : goal.returns
returns c = parts _ _ _ _ _ c.cos_theta-cos.ensures c.over-eta_p.ensures
