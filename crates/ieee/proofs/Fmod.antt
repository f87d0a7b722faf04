-- The language's % is C's fmod, for all f64. Assumes nothing.
use mathlib.Core.Path.{◌≡◌, refl, sym, ap, ◌∙◌}
use Prim.Native.Nat.{ℕ, zero, suc, ◌+◌, ◌*◌, ◌/◌, ◌%◌, ◌<◌}
use native.Mathlib.Nat.{mul_assoc, mul_comm, mul_left_comm, mul-pos, add-mul, div-add-mod', zero-lt-suc}
use mathlib.Core.Bool.{Bool, true, false, not, ◌||◌, cond}
use lib.Dec.{T, eqb}
use lib.Ieee.{Float, nan, inf, fin, binary64, up, down, round, fits, is_nan, rem}
use lib.Ieee.Fits.{up_pos, rem-fits}
use lib.Ieee.Scale.{finite}
use lib.Ieee.Positive.{num, den}
use Rattle.ieee.specs.Functions.{is_inf, is_zero}
use Rattle.ieee.specs.Fmod.{Remainder, Fmod}
use Rattle.ieee.proofs.Range.Round.{value_cross, value_sign}
use Rattle.ieee.proofs.Range.Rem.{rem_exact, rem_finite, rem_lt}

-- with q whole times and w left: X / dx = q * Y / dy + R / dr
whole_and_rest : (X dx Y dy R dr q w : ℕ) → q * (Y * dx) + w ≡ X * dy → R * (dx * dy) ≡ w * dr → X * (dy * dr) ≡ (q * Y * dr + R * dy) * dx
whole_and_rest X dx Y dy R dr q w e h =
    sym (mul_assoc X dy dr)
    ∙ ap (λ (z : ℕ). z * dr) (sym e)
    ∙ add-mul (q * (Y * dx)) w dr
    ∙ ap (λ (z : ℕ). q * (Y * dx) * dr + z) (sym h)
    ∙ ap (λ (z : ℕ). z + R * (dx * dy)) (simp (mul_assoc, mul_comm, mul_left_comm))
    ∙ ap (λ (z : ℕ). q * Y * dr * dx + z) (ap (λ (z : ℕ). R * z) (mul_comm dx dy) ∙ sym (mul_assoc R dy dx))
    ∙ sym (add-mul (q * Y * dr) (R * dy) dx)

above_zero : (y : Float) → T (finite y) → T (not (is_zero y)) → 0 < num y
above_zero nan f n = absurd f
above_zero (inf s) f n = absurd f
above_zero (fin s zero e) f n = absurd n
above_zero (fin s (suc m) e) f n = mul-pos (zero-lt-suc m) (up_pos e)

rem_remainder : (x y : Float) → T (fits binary64 x) → T (fits binary64 y) → T (finite x) → T (finite y) → T (not (is_zero y)) → Remainder x y (rem binary64 x y)
rem_remainder x y hx hy fx fy n =
    let r = rem binary64 x y in
    let Y = above_zero y fy n in
    let N = num x * den y in
    let M = num y * den x in
    let v = rem_exact binary64 x y fx fy hx hy Y in
    record {
      held = rem-fits binary64 x y hx;
      fine = rem_finite binary64 x y fx fy hx hy Y;
      sign = value_sign r _ (N % M) (den x * den y) v;
      times = N / M;
      exact = whole_and_rest (num x) (den x) (num y) (den y) (num r) (den r) (N / M) (N % M) (div-add-mod' N M) (value_cross r _ (N % M) (den x * den y) v);
      below = rem_lt binary64 x y fx fy hx hy Y;
    }

rem_infinite : (x y : Float) → T (finite x) → T (is_inf y) → rem binary64 x y ≡ x
unfolding rem
rem_infinite nan y f i = absurd f
rem_infinite (inf s) y f i = absurd f
rem_infinite (fin s m e) nan f i = absurd i
rem_infinite (fin s m e) (inf t) f i = refl
rem_infinite (fin s m e) (fin t n d) f i = absurd i

rem_otherwise : (x y : Float) → T (not (finite x) || (is_nan y || is_zero y)) → rem binary64 x y ≡ nan
unfolding rem is_nan
rem_otherwise nan y h = refl
rem_otherwise (inf s) y h = refl
rem_otherwise (fin s m e) nan h = refl
rem_otherwise (fin s m e) (inf t) h = absurd h
rem_otherwise (fin s m e) (fin t n d) h = at (eqb n 0) h (round binary64 s (m * up e * down d % (n * up d * down e)) (down e * down d))
  where
    at : (b : Bool) → T b → (z : Float) → cond b nan z ≡ nan
    at true t z = refl
    at false t z = absurd t

pub rem_is_fmod : Fmod (rem binary64)
rem_is_fmod = record { remainder = rem_remainder; infinite = rem_infinite; otherwise = rem_otherwise }
