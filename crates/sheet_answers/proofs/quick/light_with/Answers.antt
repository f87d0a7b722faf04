-- `sheet_answers::quick::light_with` meets its contract. Assumes nothing.
use mathlib.Core.Path.{◌≡◌, ap}
use lib.Ieee.{Float}
use Rattle.ieee.specs.Operators.{◌⊗◌}
use Rattle.math_trig.specs.declared.SinCos.{SinCos}
use Rattle.math_trig.specs.Trig.{sin_cos}
use Rattle.thin_film_solver.specs.Internal.{incidence}
use Rattle.sheet_answers.proofs.quick.light_with.Goals as goal

lit : (n_incident n_substrate angle w : Float) (t : SinCos) → t ≡ sin_cos angle → record { n_incident = n_incident; n_substrate = n_substrate; cos_theta0 = t.cos; snell = n_incident ⊗ t.sin; wavelength_nm = w } ≡ incidence n_incident n_substrate angle w
unfolding incidence
lit n_incident n_substrate angle w t e = ap (λ (z : SinCos). record { n_incident = n_incident; n_substrate = n_substrate; cos_theta0 = z.cos; snell = n_incident ⊗ z.sin; wavelength_nm = w }) e

pub returns : goal.returns
returns c = λ e. lit _ _ _ _ _ e
