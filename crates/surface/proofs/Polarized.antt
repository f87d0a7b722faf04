-- Jones matrices with entries up to 2 ^ 475, and what follows of their Mueller matrices: Stokes parts are up to 2 ^ 956, entries up to 2 ^ 958. Assumes nothing.
use Prim.Native.Nat.{ℕ, zero, suc, ◌*◌, ◌^◌, ◌<◌, zero-le}
use native.Mathlib.Nat.{not-suc-le-zero, le_of_suc-le-suc}
use mathlib.Core.List.{List, [], ◌∷◌}
use lib.Dec.{T, leb, lit≤}
use lib.ListN.{length, get_or}
use lib.Ieee.{Float, nan, of_bits}
use Rattle.ieee.specs.Operators.{◌⊖◌}
use Rattle.ieee.specs.Functions.{half, two}
use Rattle.ieee.specs.Range.{Mag, Pow}
use Rattle.ieee.proofs.Range.Laws.{in_mag, mag_lit, neg_mag}
use Rattle.ieee.proofs.Range.Powers.{to_pow, pow_up, mul_pow, add_pow, sub_pow}
use Rattle.ieee.proofs.Range.Constants.{zero_mag, half_in, one_mag, two_in}
use Rattle.thin_film_complex.specs.declared.Complex.{Complex}
use Rattle.thin_film_complex.specs.Complex.{real}
use Rattle.polarization_stokes.specs.declared.JonesVector.{JonesVector}
use Rattle.polarization_mueller.specs.declared.JonesMatrix.{JonesMatrix}
use Rattle.polarization.specs.declared.SurfaceJones.{SurfaceJones}
use Rattle.polarization_stokes.specs.declared.StokesVector.{StokesVector}
use Rattle.polarization_stokes.specs.Jones.{inv_sqrt2, linear_horizontal, linear_vertical, linear_45, circular_right, to_stokes}
use Rattle.polarization_mueller.specs.Jones.{entry, diattenuator, apply}
use Rattle.polarization_mueller.specs.Mueller.{response, mean, half_gap, columns, to_mueller}
use Rattle.thin_film_bounds.specs.Range.{CPow}
use Rattle.thin_film_bounds.proofs.Powers.{zero_pow, dot_pow}
use Rattle.surface.specs.Finite.{Finite, FiniteComplex, FiniteJones, FiniteMueller}

-- ---- a list's elements, one by one
data Each (P : Float → Type 0) : List Float → Type 0 where
  nil : Each P []
  more : {x : Float} {xs : List Float} → P x → Each P xs → Each P (x ∷ xs)

each_at : {P : Float → Type 0} {xs : List Float} (d : Float) → Each P xs → (i : ℕ) → i < length xs → P (get_or xs i d)
each_at d nil i l = absurd (not-suc-le-zero l)
each_at d (more p e) zero l = p
each_at d (more p e) (suc i) l = each_at d e i (le_of_suc-le-suc l)

-- ---- Jones matrices
pub record JonesPow (j : JonesMatrix) : Type 0 where
  pub j0 : CPow 475 (entry j 0)
  pub j1 : CPow 475 (entry j 1)
  pub j2 : CPow 475 (entry j 2)
  pub j3 : CPow 475 (entry j 3)

pub diattenuator_pow : {x y : Complex} → CPow 475 x → CPow 475 y → JonesPow (diattenuator x y)
unfolding diattenuator
diattenuator_pow h g = record { j0 = h; j1 = zero_pow 475; j2 = zero_pow 475; j3 = g }

pub record PowerJones (j : SurfaceJones) : Type 0 where
  pub reflection : JonesPow j.reflection
  pub transmission : JonesPow j.transmission

pub cpow_finite : {k : ℕ} {z : Complex} → CPow k z → FiniteComplex z
cpow_finite h = record { re = h.re.fine; im = h.im.fine }

pub jones_finite : {j : JonesMatrix} → JonesPow j → FiniteJones j
jones_finite J zero l = cpow_finite J.j0
jones_finite J (suc zero) l = cpow_finite J.j1
jones_finite J (suc (suc zero)) l = cpow_finite J.j2
jones_finite J (suc (suc (suc zero))) l = cpow_finite J.j3
jones_finite J (suc (suc (suc (suc i)))) l = absurd (not-suc-le-zero (le_of_suc-le-suc (le_of_suc-le-suc (le_of_suc-le-suc (le_of_suc-le-suc l)))))

-- ---- the four states, of components up to 1
record UnitVector (v : JonesVector) : Type 0 where
  ex : CPow 0 v.ex
  ey : CPow 0 v.ey

inv_sqrt2_mag : Mag 1 0 inv_sqrt2
unfolding of_bits
inv_sqrt2_mag = mag_lit inv_sqrt2 tt

pub of_real_pow : {p j : ℕ} (k : ℕ) {x : Float} → Mag p j x → T (leb p (2 ^ k * 2 ^ j)) → CPow k (real x)
unfolding real
of_real_pow k h t = record { re = to_pow k h t; im = pow_up (to_pow 0 zero_mag tt) zero-le }

horizontal : UnitVector linear_horizontal
unfolding linear_horizontal
horizontal = record { ex = of_real_pow 0 one_mag tt; ey = zero_pow 0 }

vertical : UnitVector linear_vertical
unfolding linear_vertical
vertical = record { ex = zero_pow 0; ey = of_real_pow 0 one_mag tt }

diagonal : UnitVector linear_45
unfolding linear_45
diagonal = record { ex = of_real_pow 0 inv_sqrt2_mag tt; ey = of_real_pow 0 inv_sqrt2_mag tt }

right : UnitVector circular_right
unfolding circular_right
right = record { ex = of_real_pow 0 inv_sqrt2_mag tt; ey = record { re = to_pow 0 zero_mag tt; im = to_pow 0 (neg_mag inv_sqrt2_mag) tt } }

-- ---- Stokes vectors
record StokesPow (s : StokesVector) : Type 0 where
  s0 : Pow 956 s.s0
  s1 : Pow 956 s.s1
  s2 : Pow 956 s.s2
  s3 : Pow 956 s.s3

two_pow : Pow 1 two
two_pow = to_pow 1 (in_mag two_in) tt

stokes_pow : {v : JonesVector} → CPow 477 v.ex → CPow 477 v.ey → StokesPow (to_stokes v)
unfolding to_stokes
stokes_pow h g =
    let x = add_pow (mul_pow h.re h.re (lit≤ tt)) (mul_pow h.im h.im (lit≤ tt)) (lit≤ tt) in
    let y = add_pow (mul_pow g.re g.re (lit≤ tt)) (mul_pow g.im g.im (lit≤ tt)) (lit≤ tt) in
    record {
      s0 = add_pow x y (lit≤ tt);
      s1 = sub_pow x y (lit≤ tt);
      s2 = mul_pow two_pow (add_pow (mul_pow h.re g.re (lit≤ tt)) (mul_pow h.im g.im (lit≤ tt)) (lit≤ tt)) (lit≤ tt);
      s3 = mul_pow two_pow (sub_pow (mul_pow h.re g.im (lit≤ tt)) (mul_pow h.im g.re (lit≤ tt)) (lit≤ tt)) (lit≤ tt);
    }

response_pow : {j : JonesMatrix} {v : JonesVector} → JonesPow j → UnitVector v → StokesPow (response j v)
unfolding response apply
response_pow J v = stokes_pow (dot_pow J.j0 v.ex J.j1 v.ey (lit≤ tt)) (dot_pow J.j2 v.ex J.j3 v.ey (lit≤ tt))

-- ---- Mueller matrices
half_pow : Pow 0 half
half_pow = to_pow 0 (in_mag half_in) tt

-- one row, of a Stokes part of each response
module _ {a b c d : Float} (A : Pow 956 a) (B : Pow 956 b) (C : Pow 956 c) (D : Pow 956 d) where
  mean_pow : Pow 957 (mean a b)
  mean_pow = mul_pow half_pow (add_pow A B (lit≤ tt)) (lit≤ tt)

  gap_pow : Pow 957 (half_gap a b)
  gap_pow = mul_pow half_pow (sub_pow A B (lit≤ tt)) (lit≤ tt)

  third_pow : Pow 958 (c ⊖ mean a b)
  third_pow = sub_pow (pow_up C (lit≤ tt)) mean_pow (lit≤ tt)

  fourth_pow : Pow 958 (d ⊖ mean a b)
  fourth_pow = sub_pow (pow_up D (lit≤ tt)) mean_pow (lit≤ tt)

  row : {rest : List Float} → Each Finite rest → Each Finite (mean a b ∷ half_gap a b ∷ (c ⊖ mean a b) ∷ (d ⊖ mean a b) ∷ rest)
  row r = more mean_pow.fine (more gap_pow.fine (more third_pow.fine (more fourth_pow.fine r)))

columns_finite : {h v p45 rcp : StokesVector} → StokesPow h → StokesPow v → StokesPow p45 → StokesPow rcp → FiniteMueller (columns h v p45 rcp)
unfolding columns
columns_finite {h} {v} {p45} {rcp} H G P R i l =
    each_at nan (row H.s0 G.s0 P.s0 R.s0 (row H.s1 G.s1 P.s1 R.s1 (row H.s2 G.s2 P.s2 R.s2 (row H.s3 G.s3 P.s3 R.s3 nil)))) i l

pub mueller_finite : {j : JonesMatrix} → JonesPow j → FiniteMueller (to_mueller j)
unfolding to_mueller
mueller_finite J = columns_finite (response_pow J horizontal) (response_pow J vertical) (response_pow J diagonal) (response_pow J right)
