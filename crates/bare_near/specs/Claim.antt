-- A bare surface, from its angle on: fresnel_dielectric(cos(x), n1, n2) and what is left of 1, beside Fresnel's exact fractions at the
-- exact cosine of x, wherever the gate lets the light through. Types only; proofs/Claim.antt inhabits `EveryAngle`, Exists.antt `Exists`.
use Rattle.std.specs.Prelude.{◌≡◌, ℕ, ◌*◌, ◌^◌, ◌≤◌, T, pos, Float}
use Rattle.std.specs.Float.Ieee.{le}
use Rattle.ieee.specs.Operators.{◌⊗◌}
use Rattle.ieee.specs.Functions.{quarter, seven_eighths, abs}
use Rattle.ieee_near.specs.Index.{Index}
use Rattle.math_trig.specs.Trig.{sin, cos}
use Rattle.math_phase.specs.Claim.{Thick, two_pi}
use Rattle.trig_near.specs.Sums.{cosine_top, cosine_bottom}
use Rattle.trig_near.specs.Claim.{TwoPi, left}
use Rattle.fresnel.specs.Fresnel.{fresnel_dielectric}
use Rattle.fresnel_tilted.specs.Claim.{Root, Snell, Tilted}

-- the gate's own tests, and an angle up to 2^20 in size
pub record Admitted (x n1 n2 : Float) : Type 0 where
  pub angle : Thick x
  pub incident : Index n1
  pub substrate : Index n2
  -- cos at least 0.25
  pub cosine : T (le quarter (cos x))
  -- n1·abs(sin) at most 0.875·n2, each product rounded
  pub sine : T (le (n1 ⊗ abs (sin x)) (seven_eighths ⊗ n2))

-- fractions that stand for the exact numbers, as near to them as one likes
pub record Optics (x n1 n2 : Float) : Type 0 where
  -- P / Q is 2π, and x less its turns the angle
  pub P : ℕ
  pub Q : ℕ
  pub turn : TwoPi P Q
  -- C / K is its cosine, by N terms of the series
  pub N : ℕ
  pub terms : 11 ≤ N
  pub C : ℕ
  pub K : ℕ
  pub top : cosine_top (left x P Q) (Q * 2 ^ 1074) N ≡ pos C
  pub bottom : cosine_bottom (Q * 2 ^ 1074) N ≡ K
  -- t / L is the cosine of the refracted light, by Snell's law
  pub t : ℕ
  pub L : ℕ
  pub snell : Snell n1 n2 C K t L

abbrev pub EveryAngle : Type 0
EveryAngle =
    (x n1 n2 : Float) → Admitted x n1 n2 → (o : Optics x n1 n2)
    → Tilted n1 n2 o.C o.K o.t o.L (fresnel_dielectric (cos x) n1 n2)

-- such fractions exist at every admitted angle: for each P / Q that may stand for 2π, each number N of terms from 11 on, and any E
pub record Found (x n1 n2 : Float) (P Q N E : ℕ) : Type 0 where
  pub optics : Optics x n1 n2
  pub turn : optics.P ≡ P
  pub over : optics.Q ≡ Q
  pub terms : optics.N ≡ N
  -- t / L is as near as one likes
  pub root : Root E n1 n2 optics.C optics.K optics.t optics.L

pub record Exists : Type 0 where
  -- two-pi / 2 ^ 110 may stand for 2π
  pub turn : TwoPi two_pi (2 ^ 110)
  pub optics : (x n1 n2 : Float) → Admitted x n1 n2 → (P Q : ℕ) → TwoPi P Q → (N : ℕ) → 11 ≤ N → (E : ℕ) → Found x n1 n2 P Q N E
