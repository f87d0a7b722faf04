-- Internal: the whole response of films that do not absorb, over real numbers, as the code has it. What this way does not cover is not
-- known.
-- A reader need not believe it: `RealResponse` ties it to the definitions of section 4.
use Rattle.std.specs.Prelude.{◌≡◌, Bool, true, false, not, ◌&&◌, cond, List, Float}
use Rattle.std.specs.Float.Ieee.{neg, lt, eq}
use Rattle.std.specs.Float.Ieee.Scale.{finite}
use Rattle.ieee.specs.Operators.{◌⊕◌, ◌⊖◌, ◌⊗◌, ◌⊘◌}
use Rattle.ieee.specs.Functions.{zero_f, one, two, tiny, max, clamp}
use Rattle.thin_film_complex.specs.declared.Complex.{Complex}
use Rattle.thin_film_complex.specs.Complex.{real, norm_sq, arg, ◌⊠◌, ◌⧄◌}
use Rattle.thin_film_solver.specs.declared.ThinFilmLayer.{ThinFilmLayer}
use Rattle.thin_film_solver.specs.declared.Incidence.{Incidence}
use Rattle.thin_film_solver.specs.declared.Polarized.{Polarized}
use Rattle.thin_film_solver.specs.Solve.{least_cos, respond, no_response}
use Rattle.thin_film_solver.specs.Internal.{solved}
use Rattle.surface_real.specs.declared.Product.{Product}
use Rattle.surface_real.specs.declared.Shares.{Shares}
use Rattle.surface_real.specs.declared.Stack.{Stack}
use Rattle.surface_real.specs.Internal.{no_number, real_part, cos_theta_sub, no_films, stacked}
use Rattle.response_real.specs.declared.Amplitudes.{Amplitudes}
use Rattle.response_real.specs.declared.Known.{Known}

-- ---- amplitudes
unfoldable pub shares_of : Complex → Complex → Float → Float → Float → Shares
shares_of r t eta0 eta denom =
    cond (lt denom tiny) (record { r = no_number; t = no_number }) (record { r = norm_sq r; t = eta ⊘ eta0 ⊗ norm_sq t })

-- from numerator, denominator and the square of the latter
unfoldable pub amplitudes_of : Float → Float → Float → Float → Float → Float → Float → Amplitudes
amplitudes_of eta0 eta nr ni dr di denom =
    let r : Complex = record { re = (nr ⊗ dr ⊕ ni ⊗ di) ⊘ denom; im = (ni ⊗ dr ⊖ nr ⊗ di) ⊘ denom } in
    let t : Complex = record { re = (eta0 ⊗ two ⊗ dr) ⊘ denom; im = neg (eta0 ⊗ two ⊗ di) ⊘ denom } in
    record { r = r; t = t; shares = shares_of r t eta0 eta denom }

unfoldable pub amplitudes : Product → Float → Float → Amplitudes
amplitudes m eta0 eta =
    let br = eta0 ⊗ m.a in
    let bi = eta0 ⊗ (m.b ⊗ eta) in
    let cr = m.d ⊗ eta in
    let dr = br ⊕ cr in
    let di = bi ⊕ m.c in
    amplitudes_of eta0 eta (br ⊖ cr) (bi ⊖ m.c) dr di (dr ⊗ dr ⊕ di ⊗ di)

-- ---- the response
unfoldable pub no_zero : Complex → Bool
no_zero z = cond (eq z.re zero_f) false (not (eq z.im zero_f))

unfoldable pub plain : Amplitudes → Bool
plain k = no_zero k.r && no_zero k.t

unfoldable pub certain : Amplitudes → Amplitudes → Bool
certain s p = finite ((s.shares.r ⊕ s.shares.t) ⊕ (p.shares.r ⊕ p.shares.t)) && (plain s && plain p)

unfoldable pub polarized : Amplitudes → Polarized
polarized k = record {
  r = k.r;
  t = k.t;
  reflectance = clamp k.shares.r zero_f one;
  transmittance = clamp k.shares.t zero_f one;
  phase = arg k.r;
}

unfoldable pub known_of : Amplitudes → Amplitudes → Known
known_of s p =
    cond (certain s p)
    (record { known = true; response = respond (polarized s) (polarized p) })
    (record { known = false; response = no_response })

unfoldable pub finish : Incidence → Stack → Known
finish i k =
    let cos = real (cos_theta_sub (i.snell ⊘ i.n_substrate)) in
    known_of
    (amplitudes k.s (i.n_incident ⊗ i.cos_theta0) (real_part (real i.n_substrate ⊠ cos)))
    (amplitudes k.p (i.n_incident ⊘ max i.cos_theta0 least_cos) (real_part (real i.n_substrate ⧄ cos)))

-- the response of a list of layers, over real numbers
abbrev pub real_response : Incidence → List ThinFilmLayer → Known
real_response i layers = finish i (stacked i.snell i.wavelength_nm no_films layers)

-- where it is known, it is that of section 4, bit for bit; proofs/Whole.antt has the proof
abbrev pub RealResponse : Type 0
RealResponse =
    (i : Incidence) (layers : List ThinFilmLayer) → (real_response i layers).known ≡ true
    → (real_response i layers).response ≡ solved i layers
