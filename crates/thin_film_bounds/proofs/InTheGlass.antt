-- What stays in the glass is from 0 to 1, for powers that are. Assumes nothing.
use mathlib.Core.Path.{◌≡◌, sym, subst}
use Prim.Native.Nat.{ℕ, zero, suc, ◌+◌, ◌*◌}
use native.Mathlib.Nat.{eq-or-lt_of_le, eq-zero-or-pos}
use native.Mathlib.Omega.{arith}
use mathlib.Core.Bool.{Bool, true, false, not, ◌&&◌, ◌||◌, cond}
use mathlib.Core.Logic.{inl, inr}
use lib.Dec.{T, ltb, eqb, eqb_refl, lt→ltb, nltb→le}
use lib.Ieee.{Float, nan, inf, fin, up, down, below, level, lt, le, of_bits}
use lib.Ieee.Fits.{and_i}
use lib.Ieee.Scale.{finite}
use Rattle.ieee.specs.Operators.{◌⊖◌}
use Rattle.ieee.specs.Functions.{zero_f, one, clamp}
use Rattle.ieee.specs.Range.{Mag, In}
use Rattle.ieee.proofs.Range.Laws.{in_mag}
use Rattle.ieee.proofs.Range.Sums.{sub_mag}
use Rattle.ieee.proofs.Range.Tests.{choose}
use Rattle.ieee.proofs.Range.Falls.{or_l}
use Rattle.ieee.proofs.Range.Constants.{zero_mag, one_mag}
use Rattle.thin_film_solver.specs.Absorptance.{absorptance}
use Rattle.thin_film_bounds.specs.Solver.{FromZeroToOne}

-- ---- of two finite numbers, one is at most the other
or_r : (a b : Bool) → T b → T (a || b)
or_r true b t = tt
or_r false b t = t

alike : (a b : ℕ) → a ≡ b → T (eqb a b && true)
alike a b e = and_i (eqb a b) true (subst (λ (x : ℕ). T (eqb a x)) e (eqb_refl a)) tt

-- a zero of either sign
nought : (a b : ℕ) → a + b ≡ 0 → T (eqb a b && eqb a 0)
nought zero zero e = tt
nought zero (suc b) e = let z : ⊥ = omega arith in absurd z
nought (suc a) b e = let z : ⊥ = omega arith in absurd z

turned : (s : Bool) (a : ℕ) (t : Bool) (b : ℕ) → T (not (below s a t b)) → T (below t b s a || level t b s a)
turned false a false b h = elim (eq-or-lt_of_le (nltb→le a b h)) [
  | inl e ↦ or_r (ltb b a) (eqb b a && true) (alike b a e)
  | inr l ↦ or_l (ltb b a) (eqb b a && true) (lt→ltb b a l)
]
turned true a true b h = elim (eq-or-lt_of_le (nltb→le b a h)) [
  | inl e ↦ or_r (ltb a b) (eqb b a && true) (alike b a (sym e))
  | inr l ↦ or_l (ltb a b) (eqb b a && true) (lt→ltb a b l)
]
turned false a true b h = elim (eq-zero-or-pos (b + a)) [
  | inl e ↦ or_r (ltb 0 (b + a)) (eqb b a && eqb b 0) (nought b a e)
  | inr l ↦ or_l (ltb 0 (b + a)) (eqb b a && eqb b 0) (lt→ltb 0 (b + a) l)
]
turned true a false b h = let l = nltb→le 0 (a + b) h in nought b a (omega (arith, l))

not_below : (x y : Float) → T (finite x) → T (finite y) → T (not (lt x y)) → T (le y x)
unfolding le
not_below nan y f g t = absurd f
not_below (inf s) y f g t = absurd f
not_below (fin s m e) nan f g t = absurd g
not_below (fin s m e) (inf r) f g t = absurd g
not_below (fin s m e) (fin r n d) f g t = turned s (m * up e * down d) r (n * up d * down e) t

-- ---- what is clamped lies between the ends
zero_passes : FromZeroToOne zero_f
unfolding le of_bits
zero_passes = tt

one_passes : FromZeroToOne one
unfolding le of_bits
one_passes = tt

clamp_passes : (x : Float) → T (finite x) → FromZeroToOne (clamp x zero_f one)
unfolding clamp
clamp_passes x f =
    choose FromZeroToOne (lt x zero_f) zero_f (cond (lt one x) one x) (λ t. zero_passes)
    (λ t. choose FromZeroToOne (lt one x) one x (λ u. one_passes) (λ u. and_i (le zero_f x) (le x one) (not_below x zero_f f zero_mag.fine t) (not_below one x one_mag.fine f u)))

pub absorptance_passes : {r t : Float} → In 0 0 1 0 r → In 0 0 1 0 t → FromZeroToOne (absorptance r t)
unfolding absorptance
absorptance_passes {r} {t} h g =
    let first : Mag 2 0 (one ⊖ r) = sub_mag one_mag (in_mag h) tt in
    let second : Mag 3 0 ((one ⊖ r) ⊖ t) = sub_mag first (in_mag g) tt in
    clamp_passes ((one ⊖ r) ⊖ t) second.fine
