-- The remainder of two patterns is that of the floats that they stand for; and the patterns that are turned aside first. Assumes nothing.
use mathlib.Core.Path.{◌≡◌, refl, sym, ap, ap₂, ◌∙◌, subst}
use Prim.Native.Nat.{ℕ, ◌+◌, ◌-◌, ◌*◌, ◌/◌, ◌%◌, ◌^◌, ◌≤◌, ◌<◌}
use native.Mathlib.Nat.{le_trans, le_of_eq, lt_trans, lt_of_lt_of_le, mul_assoc, mul-le-mul, mul-lt-mul_of_pos_right, mul-pos, mod-lt, mod-eq_of_lt, pow-succ'}
use native.Mathlib.Omega.{arith}
use mathlib.Core.Bool.{Bool, true, false, not, cond, true≢false}
use borrow.Author.Tests.{le-leb, lt-leb, leb-true, leb-false}
use lib.Dec.{T, eqb}
use lib.Pow.{pow_pos, pow_mono}
use lib.Ieee.{Float, nan, inf, binary64, odd, fits, is_nan, rem, of_fields, of_bits}
use lib.Ieee.Bits.{of_bits-fits}
use lib.Ieee.Scale.{finite}
use lib.Ieee.Exact.{HasValue}
use Rattle.ieee.specs.Functions.{is_inf, is_zero}
use Rattle.ieee_rem.specs.Internal.{field, digits, place, pack, of_patterns}
use Rattle.ieee_rem.proofs.Value.{minus, read, value, digits_lt, digits_pos, digits_full, Packed, packed, rem_of, less_shift}

pub place_most : (b : ℕ) → b % 2 ^ 63 < 0x7ff0_0000_0000_0000 → place b ≤ 2045
place_most b h = omega arith

pub rest_lt : (a b d : ℕ) → 0 < b % 2 ^ 63 → digits a * 2 ^ d % digits b < 2 ^ 53
rest_lt a b d h = lt_trans (mod-lt (digits a * 2 ^ d) (digits_pos b h)) (digits_lt b)

-- ---- with a sign in front
signed_part : (w q : ℕ) → q < 0x7ff0_0000_0000_0000 → (w * 2 ^ 63 + q) % 2 ^ 63 ≡ q
signed_part w q g = omega arith

signed_minus : (a q : ℕ) → q < 0x7ff0_0000_0000_0000 → minus (a / 2 ^ 63 * 2 ^ 63 + q) ≡ minus a
signed_minus a q g = go (minus a) refl
  where
    above : (a q : ℕ) → 2 ^ 63 ≤ a → 2 ^ 63 ≤ a / 2 ^ 63 * 2 ^ 63 + q
    above a q h = omega arith

    below : (a q : ℕ) → q < 0x7ff0_0000_0000_0000 → a < 2 ^ 63 → a / 2 ^ 63 * 2 ^ 63 + q < 2 ^ 63
    below a q g h = omega arith

    go : (v : Bool) → minus a ≡ v → minus (a / 2 ^ 63 * 2 ^ 63 + q) ≡ v
    go true e = le-leb _ _ (above a q (leb-true _ _ e))
    go false e = lt-leb _ _ (below a q g (leb-false _ _ e))

-- ---- the remainder
module _ (a b : ℕ) (fa : a % 2 ^ 63 < 0x7ff0_0000_0000_0000) (fb : b % 2 ^ 63 < 0x7ff0_0000_0000_0000) (nb : 0 < b % 2 ^ 63) where
  abbrev r : ℕ
  r = digits a * 2 ^ (place a - place b) % digits b

  abbrev q : ℕ
  q = pack r (place b)

  pk : Packed (a / 2 ^ 63) r (place b) q
  pk = packed (a / 2 ^ 63) r (place b) (rest_lt a b (place a - place b) nb) (place_most b fb)

  pub finite_pattern : of_patterns a b % 2 ^ 63 < 0x7ff0_0000_0000_0000
  unfolding of_patterns
  finite_pattern = subst (λ (n : ℕ). n < 0x7ff0_0000_0000_0000) (sym (signed_part (a / 2 ^ 63) q pk.most)) pk.most

  -- a z of as many units as are left
  units_left : (z : Float) → T (fits binary64 z) → HasValue z (minus a) (digits a * 2 ^ place a % (digits b * 2 ^ place b)) (2 ^ 1074) → z ≡ rem binary64 (of_bits binary64 a) (of_bits binary64 b)
  units_left z hz =
      rem_of (of_bits binary64 a) (of_bits binary64 b) z (minus a) (minus b) (digits a * 2 ^ place a) (digits b * 2 ^ place b)
      (of_bits-fits binary64 a) (of_bits-fits binary64 b) hz (mul-pos (digits_pos b nb) (pow_pos (place b))) (value a fa) (value b fb)

  pub patterns_rem : place b ≤ place a → of_bits binary64 (of_patterns a b) ≡ rem binary64 (of_bits binary64 a) (of_bits binary64 b)
  patterns_rem h =
      let p = of_patterns a b in
      let sign : minus p ≡ minus a = unfold of_patterns in signed_minus a q pk.most in
      let units : digits p * 2 ^ place p ≡ r * 2 ^ place b = unfold of_patterns in pk.is in
      units_left (of_bits binary64 p) (of_bits-fits binary64 p)
      (subst (λ (s : Bool). HasValue (of_bits binary64 p) s (digits a * 2 ^ place a % (digits b * 2 ^ place b)) (2 ^ 1074)) sign
      (subst (λ (n : ℕ). HasValue (of_bits binary64 p) (minus p) n (2 ^ 1074)) (units ∙ sym (less_shift a b (digits_pos b nb) h)) (value p finite_pattern)))

  -- with a lower place x is the remainder itself
  pub patterns_small : place a < place b → of_bits binary64 a ≡ rem binary64 (of_bits binary64 a) (of_bits binary64 b)
  patterns_small h = units_left (of_bits binary64 a) (of_bits-fits binary64 a) (subst (λ (n : ℕ). HasValue (of_bits binary64 a) (minus a) n (2 ^ 1074)) (sym (mod-eq_of_lt less)) (value a fa))
    where
      above : (i j : ℕ) → i < j → 0 < j
      above i j h = omega arith

      less : digits a * 2 ^ place a < digits b * 2 ^ place b
      less =
          lt_of_lt_of_le (mul-lt-mul_of_pos_right (digits_lt a) (pow_pos (place a)))
          (le_trans (le_of_eq (mul_assoc (2 ^ 52) 2 (2 ^ place a) ∙ ap (λ (n : ℕ). 2 ^ 52 * n) (sym (pow-succ' 2 (place a)))))
          (mul-le-mul (digits_full b (above (place a) (place b) h)) (pow_mono h)))

-- ---- the patterns of no number, of an infinity and of a zero
top_is : (b : ℕ) → 0x7ff0_0000_0000_0000 ≤ b % 2 ^ 63 → of_bits binary64 b ≡ cond (eqb (b % 2 ^ 52) 0) (inf (minus b)) nan
unfolding of_fields
top_is b h = read b ∙ ap (λ (x : ℕ). of_fields binary64 (minus b) x (b % 2 ^ 52)) (full b h)
  where
    full : (b : ℕ) → 0x7ff0_0000_0000_0000 ≤ b % 2 ^ 63 → field b ≡ 2047
    full b h = omega arith

pub not_finite : (b : ℕ) → 0x7ff0_0000_0000_0000 ≤ b % 2 ^ 63 → T (not (finite (of_bits binary64 b)))
not_finite b h = subst (λ (x : Float). T (not (finite x))) (sym (top_is b h)) (go (eqb (b % 2 ^ 52) 0))
  where
    go : (v : Bool) → T (not (finite (cond v (inf (minus b)) nan)))
    go true = tt
    go false = tt

pub infinite : (b : ℕ) → 0x7ff0_0000_0000_0000 ≤ b % 2 ^ 63 → is_nan (of_bits binary64 b) ≡ false → T (is_inf (of_bits binary64 b))
infinite b h n = subst (λ (x : Float). T (is_inf x)) (sym (top_is b h)) (go (eqb (b % 2 ^ 52) 0) (ap is_nan (sym (top_is b h)) ∙ n))
  where
    go : (v : Bool) → is_nan (cond v (inf (minus b)) nan) ≡ false → T (is_inf (cond v (inf (minus b)) nan))
    go true e = tt
    go false e = unfold is_nan in absurd (true≢false e)

pub zero_pattern : (b : ℕ) → b % 2 ^ 63 ≡ 0 → T (is_zero (of_bits binary64 b))
zero_pattern b e = subst (λ (x : Float). T (is_zero x)) (sym (read b ∙ ap₂ (of_fields binary64 (minus b)) (none b e) (nought b e))) (unfold of_fields odd in tt)
  where
    none : (b : ℕ) → b % 2 ^ 63 ≡ 0 → field b ≡ 0
    none b e = omega arith

    nought : (b : ℕ) → b % 2 ^ 63 ≡ 0 → b % 2 ^ 52 ≡ 0
    nought b e = omega arith
