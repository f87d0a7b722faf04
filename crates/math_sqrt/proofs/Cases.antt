-- Which values pass the tests of `sqrt`, and their roots where no root is computed. Assumes nothing.
use Rattle.std.proofs.Common.{◌≡◌, ℕ, zero, suc, ◌*◌, ◌^◌, ◌<◌, ◌≤◌, true, false, not, ◌||◌, T, eqb, ltb, pos, sym, refl, ap, ◌∙◌, subst, true≢false, le_trans, lt_of_le_of_lt, le_of_lt, zero-lt-suc, mul-pos, arith, eqb→eq, ltb→lt, lt→ltb}
use native.Mathlib.Nat.{mod-le}
use mathlib.Core.Bool.{beq, false≢true}
use lib.Ieee.{Float, nan, inf, fin, binary64, up, down, lt, eq, div, is_nan, nan_bits, of_bits}
use lib.Ieee.Bits.{is_true}
use lib.Ieee.Fits.{up_pos}
use lib.Ieee.Positive.{above, first_pos}
use Rattle.ieee.specs.Range.{clear}
use Rattle.ieee.proofs.Signs.{zero_is, of_true, and-true, not_zero, nothing', zero_level}
use Rattle.ieee.proofs.Patterns.{nan_is, no_nan}
use Rattle.math_root.specs.Root.{square_root}

-- 0 < x
lt_above : (x : Float) → lt (fin false 0 (pos 0)) x ≡ true → T (above x)
unfolding lt
lt_above nan e = absurd (false≢true e)
lt_above (inf true) e = absurd (false≢true e)
lt_above (inf false) e = tt
lt_above (fin true n d) e = absurd (false≢true e)
lt_above (fin false n d) e =
    lt→ltb 0 n (first_pos n (up d) (first_pos (n * up d) 1 (lt_of_le_of_lt (none (0 * 1 * down d)) (ltb→lt (0 * 1 * down d) (n * up d * 1) (of_true (ltb (0 * 1 * down d) (n * up d * 1)) e)))))
  where
    none : (x : ℕ) → 0 ≤ x
    none x = omega arith

pub is_above : (x : Float) → lt (of_bits binary64 0) x ≡ true → T (above x)
is_above x e = lt_above x (ap (λ (z : Float). lt z x) (sym zero_is) ∙ e)

pub above_no_nan : (x : Float) → T (above x) → T (not (is_nan x))
unfolding is_nan
above_no_nan nan a = absurd a
above_no_nan (inf s) a = tt
above_no_nan (fin s m e) a = tt

pub clear_no_nan : (x : Float) → T (clear x) → T (not (is_nan x))
unfolding is_nan
clear_no_nan nan t = absurd t
clear_no_nan (inf s) t = tt
clear_no_nan (fin s m e) t = tt

-- a pattern below the infinity's is no NaN's
pub below_no_nan : (r : ℕ) → r < 0x7ff0_0000_0000_0000 → T (not (nan_bits binary64 r))
below_no_nan r h = no_nan r (le_trans (mod-le r (2 ^ 63)) (le_of_lt h))

-- ---- the roots that are the argument itself

pub root_inf : (x : Float) → x ≡ inf false → x ≡ square_root binary64 x
unfolding square_root
root_inf x e = e ∙ sym (ap (square_root binary64) e)

zero_root : (x : Float) → eq x (fin false 0 (pos 0)) ≡ true → x ≡ square_root binary64 x
unfolding eq square_root
zero_root nan e = absurd (false≢true e)
zero_root (inf s) e = absurd (false≢true e)
zero_root (fin s zero d) e = refl
zero_root (fin s (suc m) d) e =
    absurd (not_zero m (up d) (down d) (up_pos d) (eqb→eq (suc m * up d * 1) (0 * 1 * down d) (and-true (eqb (suc m * up d * 1) (0 * 1 * down d)) (beq s false || eqb (suc m * up d * 1) 0) e)))

pub root_zero : (x : Float) → eq x (of_bits binary64 0) ≡ true → x ≡ square_root binary64 x
root_zero x e = zero_root x (ap (eq x) (sym zero_is) ∙ e)

-- ---- what is neither above zero nor zero has no root

above_zero : (m u v : ℕ) → 0 < u → ltb (0 * 1 * v) (suc m * u * 1) ≡ true
above_zero m u v U =
    is_true (ltb (0 * 1 * v) (suc m * u * 1))
    (lt→ltb (0 * 1 * v) (suc m * u * 1) (subst (λ (x : ℕ). x < suc m * u * 1) (sym (nothing' v)) (mul-pos (mul-pos (zero-lt-suc m) U) (zero-lt-suc 0))))

no_root : (x : Float) → lt (fin false 0 (pos 0)) x ≡ false → eq x (fin false 0 (pos 0)) ≡ false → square_root binary64 x ≡ nan
unfolding lt eq square_root
no_root nan e h = refl
no_root (inf true) e h = refl
no_root (inf false) e h = absurd (true≢false e)
no_root (fin s zero d) e h = absurd (true≢false (sym (zero_level s (up d) (down d)) ∙ h))
no_root (fin true (suc m) d) e h = refl
no_root (fin false (suc m) d) e h = absurd (true≢false (sym (above_zero m (up d) (down d) (up_pos d)) ∙ e))

pub root_none : (x : Float) → lt (of_bits binary64 0) x ≡ false → eq x (of_bits binary64 0) ≡ false → div binary64 (of_bits binary64 0) (of_bits binary64 0) ≡ square_root binary64 x
root_none x e h = nan_is ∙ sym (no_root x (ap (λ (z : Float). lt z x) (sym zero_is) ∙ e) (ap (eq x) (sym zero_is) ∙ h))
