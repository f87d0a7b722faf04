-- What 02 slip 2 says of a response's two numbers. Assumes nothing.
use mathlib.Core.Path.{◌≡◌, refl}
use lib.Ieee as Ieee
use lib.Ieee.{Float, nan, inf, fin, binary64, of_bits}
use Rattle.ieee.specs.Functions.{one, clamp}
use Rattle.ieee.specs.Operators.{◌⊖◌}
use Rattle.thin_film_solver.specs.Absorptance.{absorptance, with_absorptance, AbsorptanceClaim}

-- a NaN stays NaN, whatever it is taken from
beside_nan : (x : Float) → Ieee.sub binary64 x nan ≡ nan
unfolding Ieee.sub Ieee.add Ieee.neg
beside_nan nan = refl
beside_nan (inf s) = refl
beside_nan (fin s m e) = refl

nan_t : (r : Float) → absorptance r nan ≡ nan
unfolding absorptance clamp Ieee.lt of_bits
nan_t r = rw (beside_nan (one ⊖ r)) refl

nan_r : (t : Float) → absorptance nan t ≡ nan
unfolding absorptance clamp Ieee.lt Ieee.sub Ieee.add Ieee.neg of_bits
nan_r t = refl

pub absorptance_claim : AbsorptanceClaim
unfolding absorptance with_absorptance clamp Ieee.lt Ieee.sub Ieee.add Ieee.neg of_bits
absorptance_claim = record {
  kept = λ r. refl;
  of_s = λ r. refl;
  of_p = λ r. refl;
  in_order = refl;
  from_zero = refl;
  to_one = refl;
  nan_reflectance = nan_r;
  nan_transmittance = nan_t;
}
