-- The solver's response to a surface within the limits: every number is finite, and the powers are from 0 to 1. Assumes nothing.
use mathlib.Core.List.{List}
use Prim.Native.Nat.{ℕ}
use lib.Dec.{T, lit≤}
use lib.Ieee.{Float, lt, eq, le, of_bits}
use lib.Ieee.Bits.{is_true}
use lib.Ieee.Scale.{finite}
use Rattle.ieee.specs.Operators.{◌⊖◌, ◌⊗◌, ◌⊘◌}
use Rattle.ieee.specs.Functions.{zero_f, one, two, abs, max}
use Rattle.ieee.specs.Range.{Mag, In, Pow}
use Rattle.ieee.proofs.Range.Laws.{in_mag, in_lit, abs_in, mul_mag, mul_in, sq_in}
use Rattle.ieee.proofs.Range.Sums.{sub_in}
use Rattle.ieee.proofs.Range.Quotients.{div_in}
use Rattle.ieee.proofs.Range.Tests.{max_keep, surely_below, clamp_in}
use Rattle.ieee.proofs.Range.Falls.{or_l}
use Rattle.ieee.proofs.Range.Ratio.{slope, ratio_mag}
use Rattle.ieee.proofs.Range.Powers.{to_pow, mul_pow}
use Rattle.ieee.proofs.Range.Plus.{mul_plus, plus_in}
use Rattle.ieee.proofs.Range.Constants.{zero_in, zero_foot, one_in, two_in}
use Rattle.math_root.specs.Root.{sqrt}
use Rattle.math_root.proofs.Range.{sqrt_in}
use Rattle.math_trig.specs.Trig.{sin, cos}
use Rattle.math_trig.proofs.TrigBounds.{sin_mag}
use Rattle.ieee.proofs.Signs.{finite_number}
use Rattle.math_atan.proofs.AtanBounds.{atan2_mag}
use Rattle.thin_film_complex.specs.declared.Complex.{Complex}
use Rattle.thin_film_complex.specs.Complex.{real, scale, norm_sq, arg, add, sub, mul}
use Rattle.thin_film_solver.specs.declared.ThinFilmLayer.{ThinFilmLayer}
use Rattle.thin_film_matrix.specs.Matrix.{Matrix, identity}
use Rattle.thin_film_solver.specs.Solve.{eta0_s, eta0_p, least_cos, cos_theta_sub, eta_sub_s, eta_sub_p, product_s, product_p, b_of, c_of, reflection, transmission, reflectance, transmittance, solve, rust_respond, respond, rust_evaluate, evaluate}
use Rattle.thin_film_solver.specs.Absorptance.{with_absorptance}
use Rattle.thin_film_bounds.specs.Range.{CPow, Real, MPow}
use Rattle.thin_film_bounds.specs.Solver.{AdmittedArguments, Bounded, EveryResponseBounded}
use Rattle.thin_film_bounds.proofs.Complex.{real_in, real_up, mul_real}
use Rattle.thin_film_bounds.proofs.Powers.{cpow_up, real_pow, cadd_pow, csub_pow, cmul_pow, norm_pow, norm_plus, cdiv_pow}
use Rattle.thin_film_bounds.proofs.InTheGlass.{absorptance_passes}
use Rattle.thin_film_bounds.proofs.Lossless.{eta_div}
use Rattle.thin_film_bounds.proofs.Layer.{Products, all_products}

-- ---- the amplitudes, from a matrix with entries up to 2 ^ 176
double_pow : {z : Complex} → CPow 5 z → CPow 6 (scale z two)
unfolding scale
double_pow h =
    let t : Pow 1 two = to_pow 1 (in_mag two_in) tt in
    record { re = mul_pow h.re t (lit≤ tt); im = mul_pow h.im t (lit≤ tt) }

module _ (m : Matrix) (eta0 eta : Complex) (M : MPow 176 m) (E0 : CPow 5 eta0) (E : CPow 5 eta) where
  b_pow : CPow 183 (b_of m eta)
  unfolding b_of
  b_pow = cadd_pow (cpow_up M.m11 (lit≤ tt)) (cmul_pow M.m12 E (lit≤ tt)) (lit≤ tt)

  c_pow : CPow 189 (c_of m eta)
  unfolding c_of
  c_pow = cpow_up (cadd_pow (cpow_up M.m21 (lit≤ tt)) (cmul_pow M.m22 E (lit≤ tt)) (lit≤ tt)) (lit≤ tt)

  scaled : CPow 189 (mul eta0 (b_of m eta))
  scaled = cmul_pow E0 b_pow (lit≤ tt)

  divisor : CPow 190 (add (mul eta0 (b_of m eta)) (c_of m eta))
  divisor = cadd_pow scaled c_pow (lit≤ tt)

  reflection_pow : CPow 475 (reflection m eta0 eta)
  unfolding reflection
  reflection_pow = cdiv_pow (sub (mul eta0 (b_of m eta)) (c_of m eta)) (add (mul eta0 (b_of m eta)) (c_of m eta)) (csub_pow scaled c_pow (lit≤ tt)) divisor (lit≤ tt) (lit≤ tt)

  transmission_pow : CPow 291 (transmission m eta0 eta)
  unfolding transmission
  transmission_pow = cdiv_pow (scale eta0 two) (add (mul eta0 (b_of m eta)) (c_of m eta)) (double_pow E0) divisor (lit≤ tt) (lit≤ tt)

-- ---- the powers, clamped between 0 and 1, and the phases
reflectance_in : {r : Complex} → CPow 475 r → In 0 0 1 0 (reflectance r)
unfolding reflectance
reflectance_in h = clamp_in one_in zero_foot (plus_in (norm_plus h (lit≤ tt)) (norm_pow h (lit≤ tt))) tt

transmittance_in : {eta0 eta t : Complex} → Real 1 2 16 0 eta0 → Real 7 4 22 0 eta → CPow 291 t → In 0 0 1 0 (transmittance eta0 eta t)
unfolding transmittance
transmittance_in {eta0} {eta} {t} h g c =
    let q : In 0 0 88 0 (eta.re ⊘ eta0.re) = div_in g.re h.re tt in
    let x : Pow 590 (eta.re ⊘ eta0.re ⊗ norm_sq t) = mul_pow (to_pow 7 (in_mag q) tt) (norm_pow c (lit≤ tt)) (lit≤ tt) in
    clamp_in one_in zero_foot (plus_in (mul_plus (eta.re ⊘ eta0.re) (norm_sq t) q.sign (norm_plus c (lit≤ tt)) x.fine) x) tt

arg_mag : {k : ℕ} {z : Complex} → CPow k z → Mag 8 0 (arg z)
unfolding arg
arg_mag {z = z} h = atan2_mag z.im z.re (finite_number z.im h.im.fine) (finite_number z.re h.re.fine)

response_bounded : (ms mp : Matrix) (e0s es e0p ep : Complex) → MPow 176 ms → MPow 176 mp → Real 1 2 16 0 e0s → Real 7 4 22 0 es → Real 1 2 16 0 e0p → Real 7 4 22 0 ep
    → Bounded (respond (solve ms e0s es) (solve mp e0p ep))
unfolding rust_respond with_absorptance respond solve
response_bounded ms mp e0s es e0p ep MS MP A B C D =
    let rs = reflection_pow ms e0s es MS (real_pow 5 A tt) (real_pow 5 B tt) in
    let rp = reflection_pow mp e0p ep MP (real_pow 5 C tt) (real_pow 5 D tt) in
    let ts = transmission_pow ms e0s es MS (real_pow 5 A tt) (real_pow 5 B tt) in
    let tp = transmission_pow mp e0p ep MP (real_pow 5 C tt) (real_pow 5 D tt) in
    record {
      rs = rs;
      rp = rp;
      ts = ts;
      tp = tp;
      reflectance_s = reflectance_in rs;
      reflectance_p = reflectance_in rp;
      transmittance_s = transmittance_in A B ts;
      transmittance_p = transmittance_in C D tp;
      phase_rs = arg_mag rs;
      phase_rp = arg_mag rp;
      absorptance_s = absorptance_passes (reflectance_in rs) (transmittance_in A B ts);
      absorptance_p = absorptance_passes (reflectance_in rp) (transmittance_in C D tp);
    }

-- ---- the two ends
eta0_s_real : {n c : Float} → In 1 0 4 0 n → In 1 2 1 0 c → Real 1 2 16 0 (eta0_s n c)
unfolding eta0_s
eta0_s_real h g = real_in (mul_in h g tt)

least_cos_in : In 0 0 1 39 least_cos
unfolding of_bits
least_cos_in = in_lit least_cos tt

eta0_p_real : {n c : Float} → In 1 0 4 0 n → In 1 2 1 0 c → Real 1 2 16 0 (eta0_p n c)
unfolding eta0_p
eta0_p_real h g = real_in (div_in h (max_keep g least_cos_in tt) tt)

-- no total reflection
below_one : (q : Float) → Mag slope 51 q → T (le (abs q) one)
unfolding le
below_one q h = or_l (lt (abs q) one) (eq (abs q) one) (surely_below one_in (abs_in h) tt)

pub cosine_in : (q : Float) → Mag slope 51 q → In 7 4 1 0 (sqrt (max (one ⊖ q ⊗ q) zero_f))
cosine_in q h =
    let z : In 0 0 25 5 (q ⊗ q) = sq_in h tt in
    let d : In 7 5 1 0 (one ⊖ q ⊗ q) = sub_in one_in z tt in
    let m : In 7 5 1 0 (max (one ⊖ q ⊗ q) zero_f) = max_keep d zero_in tt in
    sqrt_in m tt

cos_sub_real : (q : Float) → Mag slope 51 q → Real 7 4 1 0 (cos_theta_sub q)
unfolding cos_theta_sub
cos_sub_real q h = rw (is_true (le (abs q) one) (below_one q h)) (real_in (cosine_in q h))

-- ---- the whole
pub snell_mag : {n0 : Float} (angle : Float) → In 1 0 4 0 n0 → T (finite angle) → Mag 4 0 (n0 ⊗ sin angle)
snell_mag angle h f = mul_mag (in_mag h) (sin_mag angle f) tt

module _ (n0 ns angle w : Float) (layers : List ThinFilmLayer) (g : AdmittedArguments n0 ns angle w layers) where
  snell : Mag 4 0 (n0 ⊗ sin angle)
  snell = snell_mag angle g.incident g.finite_angle

  cosine : Real 7 4 1 0 (cos_theta_sub (n0 ⊗ sin angle ⊘ ns))
  cosine = cos_sub_real (n0 ⊗ sin angle ⊘ ns) (ratio_mag (n0 ⊗ sin angle) ns snell.fine g.substrate g.refracts)

  eta_s : Real 7 4 22 0 (eta_sub_s (n0 ⊗ sin angle) ns)
  unfolding eta_sub_s
  eta_s = real_up (mul_real {c = 7} {m = 4} {r = 4} {n = 0} (real_in g.substrate) cosine tt tt) tt

  eta_p : Real 7 4 22 0 (eta_sub_p (n0 ⊗ sin angle) ns)
  unfolding eta_sub_p
  eta_p = eta_div (real ns) (cos_theta_sub (n0 ⊗ sin angle ⊘ ns)) (real_in g.substrate) cosine

  products : Products (n0 ⊗ sin angle) w layers
  products = all_products (n0 ⊗ sin angle) w layers snell g.wavelength_in g.admitted

  bounded : Bounded (evaluate n0 ns angle w layers)
  unfolding respond rust_evaluate evaluate
  bounded =
      response_bounded (product_s (n0 ⊗ sin angle) w identity layers) (product_p (n0 ⊗ sin angle) w identity layers)
      (eta0_s n0 (cos angle)) (eta_sub_s (n0 ⊗ sin angle) ns) (eta0_p n0 (cos angle)) (eta_sub_p (n0 ⊗ sin angle) ns)
      products.s products.p (eta0_s_real g.incident g.cosine) eta_s (eta0_p_real g.incident g.cosine) eta_p

pub every_response_bounded : EveryResponseBounded
every_response_bounded = bounded
