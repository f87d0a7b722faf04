-- Internal: the powers of films that do not absorb, over real numbers, as the code has them. What this way does not cover is a NaN.
-- A reader need not believe it: `RealPowers` ties it to the definitions of section 4.
use Rattle.std.specs.Prelude.{◌≡◌, true, cond, ◌⊎◌, List, [], ◌∷◌, Float}
use Rattle.std.specs.Float.{binary64}
use Rattle.std.specs.Float.Ieee.{neg, lt, le, eq, of_bits}
use Rattle.std.specs.Float.Ieee.Scale.{finite}
use Rattle.ieee.specs.Operators.{◌⊕◌, ◌⊖◌, ◌⊗◌, ◌⊘◌}
use Rattle.ieee.specs.Functions.{zero_f, one, two, tiny, abs, max, clamp}
use Rattle.math_root.specs.Root.{square_root}
use Rattle.math_trig.specs.Trig.{sin, cos}
use Rattle.thin_film_complex.specs.declared.Complex.{Complex}
use Rattle.thin_film_complex.specs.Complex.{real, half_root, ◌⊠◌, ◌⧄◌}
use Rattle.thin_film_solver.specs.declared.ThinFilmLayer.{ThinFilmLayer}
use Rattle.thin_film_solver.specs.declared.Incidence.{Incidence}
use Rattle.thin_film_solver.specs.Layer.{factor}
use Rattle.thin_film_solver.specs.Solve.{least_cos}
use Rattle.thin_film_solver.specs.Internal.{solved}
use Rattle.surface.specs.declared.Powers.{Powers}
use Rattle.surface.specs.Answers.{coated_powers}
use Rattle.surface_real.specs.declared.Medium.{Medium}
use Rattle.surface_real.specs.declared.Film.{Film}
use Rattle.surface_real.specs.declared.Product.{Product}
use Rattle.surface_real.specs.declared.Stack.{Stack}
use Rattle.surface_real.specs.declared.Shares.{Shares}
use Rattle.surface_real.specs.declared.Known.{Known}
use Rattle.surface_real.specs.declared.Seen.{Seen}
use Rattle.surface_real.specs.declared.Recent.{Recent}

-- a NaN
abbrev pub no_number : Float
no_number = zero_f ⊘ zero_f

-- ---- films
unfoldable pub over : Float → Float → Float
over x y = cond (lt (y ⊗ y) tiny) no_number ((x ⊗ y) ⊘ (y ⊗ y))

unfoldable pub real_part : Complex → Float
real_part z = cond (eq z.im zero_f) z.re no_number

-- 2 ^ -10 and 2 ^ 10
abbrev pub least_square : Float
least_square = of_bits binary64 0x3F50_0000_0000_0000

abbrev pub most_square : Float
most_square = of_bits binary64 0x4090_0000_0000_0000

unfoldable pub root : Float → Float
root x = cond (le least_square x) (cond (le x most_square) (half_root (x ⊕ x)) no_number) no_number

unfoldable pub cos_theta : Float → ThinFilmLayer → Float
cos_theta snell layer =
    let sin = over snell layer.n in
    cond (eq layer.k zero_f) (root (one ⊖ sin ⊗ sin)) no_number

unfoldable pub medium_of : Float → Float → ThinFilmLayer → Medium
medium_of snell wavelength layer =
    let cos-θ = cos_theta snell layer in
    let eta_s = layer.n ⊗ cos-θ in
    record { eta_s = eta_s; eta_p = over layer.n cos-θ; delta = eta_s ⊗ factor layer.thickness_nm wavelength }

unfoldable pub film_in : Float → Float → Float → Float → Film
film_in eta_s eta_p sin-δ cos-δ = record {
  cos = cos-δ;
  y_s = over sin-δ eta_s;
  z_s = sin-δ ⊗ eta_s;
  y_p = over sin-δ eta_p;
  z_p = sin-δ ⊗ eta_p;
}

unfoldable pub film_of : Float → Float → ThinFilmLayer → Film
film_of snell wavelength layer =
    let m = medium_of snell wavelength layer in
    film_in m.eta_s m.eta_p (sin m.delta) (cos m.delta)

-- ---- products
unfoldable pub times : Product → Float → Float → Float → Product
times m cos y z = record {
  a = m.a ⊗ cos ⊖ m.b ⊗ z;
  b = m.a ⊗ y ⊕ m.b ⊗ cos;
  c = m.c ⊗ cos ⊕ m.d ⊗ z;
  d = m.d ⊗ cos ⊖ m.c ⊗ y;
}

unfoldable pub join : Stack → Film → Stack
join k f = record { s = times k.s f.cos f.y_s f.z_s; p = times k.p f.cos f.y_p f.z_p }

abbrev pub no_films : Stack
no_films =
    let m : Product = record { a = one; b = zero_f; c = zero_f; d = one } in
    record { s = m; p = m }

-- through the layers
unfoldable pub stacked : Float → Float → Stack → List ThinFilmLayer → Stack
stacked snell wavelength k [] = k
stacked snell wavelength k (layer ∷ layers) = stacked snell wavelength (join k (film_of snell wavelength layer)) layers

-- ---- powers
unfoldable pub power_of : Float → Float → Float → Float → Float → Float → Float → Shares
power_of eta0 eta nr ni dr di denom =
    let r-re = (nr ⊗ dr ⊕ ni ⊗ di) ⊘ denom in
    let r-im = (ni ⊗ dr ⊖ nr ⊗ di) ⊘ denom in
    let t-re = (eta0 ⊗ two ⊗ dr) ⊘ denom in
    let t-im = neg (eta0 ⊗ two ⊗ di) ⊘ denom in
    cond (lt denom tiny) (record { r = no_number; t = no_number })
    (record { r = r-re ⊗ r-re ⊕ r-im ⊗ r-im; t = eta ⊘ eta0 ⊗ (t-re ⊗ t-re ⊕ t-im ⊗ t-im) })

unfoldable pub power : Product → Float → Float → Shares
power m eta0 eta =
    let br = eta0 ⊗ m.a in
    let bi = eta0 ⊗ (m.b ⊗ eta) in
    let cr = m.d ⊗ eta in
    let dr = br ⊕ cr in
    let di = bi ⊕ m.c in
    power_of eta0 eta (br ⊖ cr) (bi ⊖ m.c) dr di (dr ⊗ dr ⊕ di ⊗ di)

unfoldable pub cos_theta_sub : Float → Float
cos_theta_sub sin-theta-sub =
    cond (le (abs sin-theta-sub) one) (square_root binary64 (max (one ⊖ sin-theta-sub ⊗ sin-theta-sub) zero_f)) no_number

unfoldable pub known_of : Shares → Shares → Known
known_of s p = record {
  known = finite ((s.r ⊕ s.t) ⊕ (p.r ⊕ p.t));
  powers = record {
    reflectance_s = clamp s.r zero_f one;
    reflectance_p = clamp p.r zero_f one;
    transmittance_s = clamp s.t zero_f one;
    transmittance_p = clamp p.t zero_f one;
  };
}

unfoldable pub finish : Incidence → Stack → Known
finish i k =
    let cos = real (cos_theta_sub (i.snell ⊘ i.n_substrate)) in
    known_of
    (power k.s (i.n_incident ⊗ i.cos_theta0) (real_part (real i.n_substrate ⊠ cos)))
    (power k.p (i.n_incident ⊘ max i.cos_theta0 least_cos) (real_part (real i.n_substrate ⧄ cos)))

-- the powers of a list of layers, over real numbers
abbrev pub real_powers : Incidence → List ThinFilmLayer → Known
real_powers i layers = finish i (stacked i.snell i.wavelength_nm no_films layers)

-- where they are known, they are those of section 4, bit for bit; proofs/Whole.antt has the proof
abbrev pub RealPowers : Type 0
RealPowers =
    (i : Incidence) (layers : List ThinFilmLayer) → (real_powers i layers).known ≡ true
    → (real_powers i layers).powers ≡ coated_powers (solved i layers)

-- ---- layers that come again
-- no layer, with its medium
abbrev pub unseen : Seen
unseen = record {
  layer = record { n = no_number; k = no_number; thickness_nm = no_number };
  medium = record { eta_s = no_number; eta_p = no_number; delta = no_number };
}

abbrev pub no_recent : Recent
no_recent = record { earlier = unseen; last = unseen }

-- a layer's medium, or that of the earlier layer, which it is again
abbrev pub Again : Float → Float → ThinFilmLayer → Seen → Medium → Type 0
Again snell wavelength layer earlier m = (m ≡ medium_of snell wavelength layer) ⊎ ((layer ≡ earlier.layer) × (m ≡ earlier.medium))

-- the media are those of the layers
pub record Right (snell wavelength : Float) (recent : Recent) : Type 0 where
  pub earlier : recent.earlier.medium ≡ medium_of snell wavelength recent.earlier.layer
  pub last : recent.last.medium ≡ medium_of snell wavelength recent.last.layer
