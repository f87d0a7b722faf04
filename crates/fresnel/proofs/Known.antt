-- Known answers of document 01, computed by the checker. Assumes nothing.
use mathlib.Core.Path.{◌≡◌, refl}
use lib.Ieee.{add, sub, mul, div, lt, le, of_bits}
use Rattle.ieee.specs.Functions.{zero_f, one, abs, max, clamp, three, quarter}
use Rattle.math_root.specs.Root.{square_root}
use Rattle.fresnel.specs.Fresnel.{sin2_t, cos_t, power, refracted, fresnel_dielectric, r_zero, schlick, schlick_approx}

-- fresnel_dielectric(1, 1, 3) = (0.25, 0.25)
pub dielectric_straight : fresnel_dielectric one one three ≡ record { rs = quarter; rp = quarter }
unfolding fresnel_dielectric refracted power sin2_t cos_t square_root abs max clamp add sub mul div lt le of_bits
dielectric_straight = refl

-- fresnel_dielectric(0, 1, 1) = (1, 1)
pub dielectric_grazing : fresnel_dielectric zero_f one one ≡ record { rs = one; rp = one }
unfolding fresnel_dielectric refracted power sin2_t cos_t square_root abs max clamp add sub mul div lt le of_bits
dielectric_grazing = refl

-- schlick_approx(0, 1, 3) = 1
pub schlick_grazing : schlick_approx zero_f one three ≡ one
unfolding schlick_approx schlick r_zero sin2_t cos_t square_root max clamp add sub mul div lt le of_bits
schlick_grazing = refl
