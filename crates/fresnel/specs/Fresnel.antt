-- fresnel.rs, function by function, in the Rust's order of operations. Definitions only.
use Rattle.std.specs.Prelude.{cond, Float}
use Rattle.std.specs.Float.{binary64}
use Rattle.std.specs.Float.Ieee.{lt, le, of_bits}
use Rattle.ieee.specs.Operators.{◌⊕◌, ◌⊖◌, ◌⊗◌, ◌⊘◌}
use Rattle.ieee.specs.Functions.{zero_f, one, half, abs, max, clamp, powi2, powi5}
use Rattle.math_root.specs.Root.{sqrt}
use Rattle.fresnel.specs.declared.Reflectances.{Reflectances}
use Rattle.fresnel.specs.declared.Unpolarized.{Unpolarized}

-- ---- Snell's law
-- sin2_t = eta * eta * (1.0 - cos_i * cos_i).max(0.0), where eta = n1 / n2
unfoldable pub sin2_t : Float → Float → Float → Float
sin2_t cos-i n1 n2 = (n1 ⊘ n2) ⊗ (n1 ⊘ n2) ⊗ max (one ⊖ cos-i ⊗ cos-i) zero_f

-- cos_t = (1.0 - sin2_t).max(0.0).sqrt()
unfoldable pub cos_t : Float → Float
cos_t sin2 = sqrt (max (one ⊖ sin2) zero_f)

-- ---- fresnel_dielectric
-- 1e-30
abbrev pub least_den : Float
least_den = of_bits binary64 0x39B4_484B_FEEB_C2A0

-- (num / den).powi(2).clamp(0.0, 1.0), or zero where den.abs() < 1e-30
unfoldable pub power : Float → Float → Float
power num den = cond (lt (abs den) least_den) zero_f (clamp (powi2 (num ⊘ den)) zero_f one)

-- Rs and Rp where the light is refracted
unfoldable pub refracted : Float → Float → Float → Float → Reflectances
refracted cos-i cos_t n1 n2 = record {
  rs = power (n1 ⊗ cos-i ⊖ n2 ⊗ cos_t) (n1 ⊗ cos-i ⊕ n2 ⊗ cos_t);
  rp = power (n2 ⊗ cos-i ⊖ n1 ⊗ cos_t) (n2 ⊗ cos-i ⊕ n1 ⊗ cos_t);
}

-- total internal reflection at sin2_t >= 1
unfoldable pub fresnel_dielectric : Float → Float → Float → Reflectances
fresnel_dielectric cos-theta-i n1 n2 =
    let cos-i = clamp cos-theta-i zero_f one in
    let sin2 = sin2_t cos-i n1 n2 in
    cond (le one sin2) (record { rs = one; rp = one }) (refracted cos-i (cos_t sin2) n1 n2)

-- ---- fresnel_unpolarized
-- r_total = (rs + rp) * 0.5
unfoldable pub r_total : Reflectances → Float
r_total r = (r.rs ⊕ r.rp) ⊗ half

-- t_total = (1.0 - r_total).clamp(0.0, 1.0)
unfoldable pub fresnel_unpolarized : Float → Float → Float → Unpolarized
fresnel_unpolarized cos-theta-i n1 n2 =
    let r = r_total (fresnel_dielectric cos-theta-i n1 n2) in
    record { r_total = r; t_total = clamp (one ⊖ r) zero_f one }

-- ---- schlick_approx
-- r0 = ((n1 - n2) / (n1 + n2)).powi(2)
unfoldable pub r_zero : Float → Float → Float
r_zero n1 n2 = powi2 ((n1 ⊖ n2) ⊘ (n1 ⊕ n2))

-- (r0 + (1.0 - r0) * x.powi(5)).clamp(0.0, 1.0), where x = (1.0 - cos_theta).clamp(0.0, 1.0)
unfoldable pub schlick : Float → Float → Float
schlick r0 cos_theta = clamp (r0 ⊕ (one ⊖ r0) ⊗ powi5 (clamp (one ⊖ cos_theta) zero_f one)) zero_f one

-- cos_i where n1 <= n2; else total internal reflection at sin2_t >= 1, or cos_t
unfoldable pub schlick_approx : Float → Float → Float → Float
schlick_approx cos-theta-i n1 n2 =
    let cos-i = clamp cos-theta-i zero_f one in
    let sin2 = sin2_t cos-i n1 n2 in
    cond (le n1 n2) (schlick (r_zero n1 n2) cos-i) (cond (le one sin2) one (schlick (r_zero n1 n2) (cos_t sin2)))
