-- A bare surface within the limits: its powers are from 0 to 1, nothing refuses, and its Jones matrices have entries up to 16. Assumes nothing.
use mathlib.Core.Path.{◌≡◌}
use mathlib.Core.Bool.{true}
use lib.Dec.{T}
use lib.Ieee.{Float, lt, le}
use lib.Ieee.Bits.{is_true, is_false}
use lib.Ieee.Scale.{finite}
use Rattle.ieee.specs.Operators.{◌⊕◌, ◌⊖◌, ◌⊗◌, ◌⊘◌}
use Rattle.ieee.specs.Functions.{zero_f, one, two, abs, clamp}
use Rattle.ieee.specs.Range.{Mag, In}
use Rattle.ieee.proofs.Range.Laws.{in_mag, in_up, abs_in, mul_mag, mul_in, sq_in}
use Rattle.ieee.proofs.Range.Sums.{sub_mag, add_in, sub_in}
use Rattle.ieee.proofs.Range.Quotients.{div_mag, div_in}
use Rattle.ieee.proofs.Range.Tests.{choose, cond_in, max_in, never_above, never_under, clamp_in, clamp_same}
use Rattle.ieee.proofs.Range.FromZero.{in_positive}
use Rattle.ieee.proofs.Range.Ratio.{slope, ratio_mag}
use Rattle.ieee.proofs.Range.Falls.{in_zero_to_one, to_tests}
use Rattle.ieee.proofs.Range.Constants.{zero_in, zero_foot, one_in, two_in}
use Rattle.math_root.proofs.Range.{sqrt_in}
use Rattle.math_trig.specs.Trig.{sin, cos}
use Rattle.refusal.specs.Outcome.{answer}
use Rattle.fresnel.specs.declared.Reflectances.{Reflectances}
use Rattle.fresnel.specs.Fresnel as Fresnel
use Rattle.fresnel.specs.Fresnel.{sin2_t, power, least_den, fresnel_dielectric}
use Rattle.polarization.specs.declared.SurfaceJones.{SurfaceJones}
use Rattle.polarization.specs.Surface.{indices_valid, cos_t, refracted, bare, surface_fresnel_jones}
use Rattle.thin_film_bounds.proofs.Solve.{cosine_in, snell_mag}
use Rattle.gate_limits.specs.declared.Surface.{Surface}
use Rattle.gate_limits.specs.Limits.{within}
use Rattle.surface.specs.Answers.{bare_powers}
use Rattle.surface.specs.Finite.{UnitPowers}
use Rattle.gate_limits.proofs.Ranges.{Inside}
use Rattle.surface.proofs.Polarized.{PowerJones, diattenuator_pow, of_real_pow}

-- ---- section 5: the powers
-- an amplitude up to 96, as its divisor is 1/4 at least
power_in : {num den : Float} → Mag 24 0 num → In 1 2 24 0 den → In 0 0 1 0 (power num den)
unfolding power
power_in {num} {den} h g =
    let q : Mag 96 0 (num ⊘ den) = div_mag h g tt in
    let z : In 0 0 9216 0 ((num ⊘ den) ⊗ (num ⊘ den)) = sq_in q tt in
    cond_in (lt (abs den) least_den) zero_foot (clamp_in one_in zero_foot z tt)

record UnitReflectances (r : Reflectances) : Type 0 where
  rs : In 0 0 1 0 r.rs
  rp : In 0 0 1 0 r.rp

refracted_powers : (cos-i cos_t n1 n2 : Float) → In 1 2 1 0 cos-i → In 0 0 5 0 cos_t → In 1 0 4 0 n1 → In 1 0 4 0 n2 → UnitReflectances (Fresnel.refracted cos-i cos_t n1 n2)
unfolding Fresnel.refracted
refracted_powers cos-i cos_t n1 n2 C D N M =
    let a : In 1 2 4 0 (n1 ⊗ cos-i) = mul_in N C tt in
    let b : In 0 0 20 0 (n2 ⊗ cos_t) = mul_in M D tt in
    let c : In 1 2 4 0 (n2 ⊗ cos-i) = mul_in M C tt in
    let d : In 0 0 20 0 (n1 ⊗ cos_t) = mul_in N D tt in
    record { rs = power_in (sub_mag (in_mag a) (in_mag b) tt) (add_in a b tt); rp = power_in (sub_mag (in_mag c) (in_mag d) tt) (add_in c d tt) }

sin2_in : (cos-i n1 n2 : Float) → In 1 2 1 0 cos-i → In 1 0 4 0 n1 → In 1 0 4 0 n2 → In 0 0 16 0 (sin2_t cos-i n1 n2)
unfolding sin2_t
sin2_in cos-i n1 n2 C N M =
    let e : In 1 2 4 0 (n1 ⊘ n2) = div_in N M tt in
    let f : In 0 0 16 0 ((n1 ⊘ n2) ⊗ (n1 ⊘ n2)) = mul_in e e tt in
    let d : In 0 0 1 0 (one ⊖ cos-i ⊗ cos-i) = sub_in one_in (sq_in {r = 1} {n = 0} (in_mag C) tt) tt in
    mul_in f (max_in (in_mag d) zero_foot) tt

cos_t_in : (sin2 : Float) → In 0 0 16 0 sin2 → In 0 0 5 0 (Fresnel.cos_t sin2)
unfolding Fresnel.cos_t
cos_t_in sin2 h =
    let d : Mag 17 0 (one ⊖ sin2) = sub_mag (in_mag one_in) (in_mag h) tt in
    sqrt_in {a = 0} {i = 0} {p = 17} {j = 0} (max_in d (in_up zero_in tt)) tt

dielectric_in : (c n1 n2 : Float) → In 1 2 1 0 c → In 1 0 4 0 n1 → In 1 0 4 0 n2 → UnitReflectances (fresnel_dielectric c n1 n2)
unfolding fresnel_dielectric
dielectric_in c n1 n2 C N M =
    let same : clamp c zero_f one ≡ c = clamp_same c zero_f one (never_under C zero_in tt) (never_above one_in (in_mag C) tt) in
    let s = sin2_t c n1 n2 in
    rw same
    (choose (λ r. UnitReflectances r) (le one s) (record { rs = one; rp = one }) (Fresnel.refracted c (Fresnel.cos_t s) n1 n2) (λ t. record { rs = in_up one_in tt; rp = in_up one_in tt })
    (λ t. refracted_powers c (Fresnel.cos_t s) n1 n2 C (cos_t_in s (sin2_in c n1 n2 C N M)) N M))

pub bare_unit : (s : Surface) → Inside s → UnitPowers (bare_powers s)
unfolding bare_powers within
bare_unit s h =
    let r = dielectric_in (cos s.angle_rad) s.n_incident s.n_substrate h.cosine h.incident h.substrate in
    record {
      reflectance_s = to_tests (in_zero_to_one r.rs);
      reflectance_p = to_tests (in_zero_to_one r.rp);
      transmittance_s = to_tests (in_zero_to_one (sub_in one_in r.rs tt));
      transmittance_p = to_tests (in_zero_to_one (sub_in one_in r.rp tt));
    }

-- ---- section 6: surface_fresnel_jones refuses nothing here
stands : (n1 n2 angle : Float) → In 1 0 4 0 n1 → In 1 0 4 0 n2 → T (finite angle) → indices_valid n1 n2 angle ≡ true
unfolding indices_valid
stands n1 n2 angle N M f = simp (in_positive N tt, in_positive M tt, is_true (finite angle) f)

-- both divisors are 1/2 at least, so the amplitudes are up to 16
refracted_jones : (n1 n2 cos-i cos_t : Float) → In 1 0 4 0 n1 → In 1 0 4 0 n2 → In 1 2 1 0 cos-i → In 7 4 1 0 cos_t → PowerJones (refracted n1 n2 cos-i cos_t)
unfolding refracted
refracted_jones n1 n2 cos-i cos_t N M C D =
    let a : In 1 2 4 0 (n1 ⊗ cos-i) = mul_in N C tt in
    let b : In 7 4 4 0 (n2 ⊗ cos_t) = mul_in M D tt in
    let c : In 1 2 4 0 (n2 ⊗ cos-i) = mul_in M C tt in
    let d : In 7 4 4 0 (n1 ⊗ cos_t) = mul_in N D tt in
    let s : In 1 1 8 0 (n1 ⊗ cos-i ⊕ n2 ⊗ cos_t) = add_in a b tt in
    let p : In 1 1 8 0 (n2 ⊗ cos-i ⊕ n1 ⊗ cos_t) = add_in c d tt in
    let rs : Mag 8 0 (n1 ⊗ cos-i ⊖ n2 ⊗ cos_t) = sub_mag (in_mag a) (in_mag b) tt in
    let rp : Mag 8 0 (n2 ⊗ cos-i ⊖ n1 ⊗ cos_t) = sub_mag (in_mag c) (in_mag d) tt in
    let t : Mag 8 0 (two ⊗ n1 ⊗ cos-i) = mul_mag {p = 8} {j = 0} (mul_mag (in_mag two_in) (in_mag N) tt) (in_mag C) tt in
    record {
      reflection = diattenuator_pow (of_real_pow {p = 16} {j = 0} 475 (div_mag rs s tt) tt) (of_real_pow {p = 16} {j = 0} 475 (div_mag rp p tt) tt);
      transmission = diattenuator_pow (of_real_pow {p = 16} {j = 0} 475 (div_mag t s tt) tt) (of_real_pow {p = 16} {j = 0} 475 (div_mag t p tt) tt);
    }

jones_cos_in : (q : Float) → Mag slope 51 q → In 7 4 1 0 (cos_t q)
unfolding cos_t
jones_cos_in q h = cosine_in q h

-- the sine is below 1, so there is no total reflection
bare_jones_pow : (n1 n2 sin-i cos-i : Float) → In 1 0 4 0 n1 → In 1 0 4 0 n2 → In 1 2 1 0 cos-i → Mag slope 51 (n1 ⊗ sin-i ⊘ n2) → PowerJones (bare n1 n2 sin-i cos-i)
unfolding bare
bare_jones_pow n1 n2 sin-i cos-i N M C h =
    let q = n1 ⊗ sin-i ⊘ n2 in
    rw (is_false (lt one (abs q)) (never_above one_in (in_mag (abs_in h)) tt)) (refracted_jones n1 n2 cos-i (cos_t q) N M C (jones_cos_in q h))

pub record BareJones (s : Surface) : Type 0 where
  pub value : SurfaceJones
  pub is : surface_fresnel_jones s.n_incident s.n_substrate s.angle_rad ≡ answer value
  pub pow : PowerJones value

pub bare_jones : (s : Surface) → Inside s → BareJones s
unfolding surface_fresnel_jones
bare_jones s h =
    let n1 = s.n_incident in
    let n2 = s.n_substrate in
    let angle = s.angle_rad in
    record {
      value = bare n1 n2 (sin angle) (cos angle);
      is = rw (stands n1 n2 angle h.incident h.substrate h.finite_angle);
      pow = bare_jones_pow n1 n2 (sin angle) (cos angle) h.incident h.substrate h.cosine (ratio_mag (n1 ⊗ sin angle) n2 (snell_mag angle h.incident h.finite_angle).fine h.substrate h.bent);
    }
