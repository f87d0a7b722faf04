-- The remainder: it is exact, it is smaller than the divisor, and so it is finite. Over either format, for a divisor that is not zero. Assumes nothing.
use mathlib.Core.Path.{◌≡◌, refl, sym, ap, ◌∙◌, subst}
use Prim.Native.Nat.{ℕ, ◌+◌, ◌-◌, ◌*◌, ◌^◌, ◌≤◌, ◌<◌, ◌%◌}
use native.Mathlib.Nat.{le_trans, le_of_eq, le_of_lt, lt_of_lt_of_le, lt_of_le_of_lt, mul_comm, mul_assoc, mul_right_comm, mul-le-mul_right, mul-pos, mod-lt, mod-le, mul-div_cancel, mul-mod_left, add-zero, lt_of_mul-lt-mul_right, mul-lt-mul_of_pos_right}
use native.Mathlib.Omega.{arith}
use mathlib.Core.Bool.{Bool, true, false, not, ◌&&◌, cond}
use lib.Dec.{T, ltb, leb, eqb, eqb→eq, ltb→lt, nleb→lt, leb→le}
use lib.Pow.{pow_pos}
use lib.Ieee.{Float, nan, inf, fin, binary64, up, down, round, Format, prec, low, rem, fits}
use lib.Ieee.Fits.{and_l, and_r}
use lib.Ieee.Scale.{finite}
use lib.Ieee.Positive.{num, den, den_pos, first_pos}
use Rattle.ieee.specs.Range.{sgn, Mag, In, holds}
use Rattle.ieee.proofs.Range.Round.{value_cross, value_finite}
use Rattle.ieee.proofs.Range.Values.{split_pow, Whole, whole}
use Rattle.ieee.proofs.Range.Laws.{plus_finite, rep_small, round_rep}
use lib.Arith.{mod-mul}
use lib.Ieee.Exact.{HasValue, round_exact}

-- ---- a remainder of multiples
pub mod_scale : (a m c : ℕ) → 0 < m → 0 < c → a * c % (m * c) ≡ a % m * c
mod_scale a m c M C =
    mod-mul (a * c) M C
    ∙ ap (λ (z : ℕ). z % m * c + a * c % c) (mul-div_cancel a C)
    ∙ ap (λ (z : ℕ). a % m * c + z) (mul-mod_left a c)
    ∙ add-zero (a % m * c)

-- ---- the remainder of two whole numbers m * 2 ^ i and n * 2 ^ j is a number of no more digits, with one of the two powers
pub record Left (p A B : ℕ) : Type 0 where
  pub q : ℕ
  pub j : ℕ
  pub few : q < 2 ^ p
  pub is : A % B ≡ q * 2 ^ j

left : (p m i n j : ℕ) → m < 2 ^ p → n < 2 ^ p → 0 < n → Left p (m * 2 ^ i) (n * 2 ^ j)
left p m i n j M N P = go (leb i j) (leb→le i j) (nleb→lt i j)
  where
    go : (b : Bool) → (T b → i ≤ j) → (T (not b) → j < i) → Left p (m * 2 ^ i) (n * 2 ^ j)
    go true h k = record {
      q = m % (n * 2 ^ (j - i));
      j = i;
      few = lt_of_le_of_lt (mod-le m (n * 2 ^ (j - i))) M;
      is = ap (λ (x : ℕ). m * 2 ^ i % x) (split_pow n i j (h tt)) ∙ mod_scale m (n * 2 ^ (j - i)) (2 ^ i) (mul-pos P (pow_pos (j - i))) (pow_pos i);
    }
    go false h k = record {
      q = m * 2 ^ (i - j) % n;
      j = j;
      few = lt_of_le_of_lt (le_of_lt (mod-lt (m * 2 ^ (i - j)) P)) N;
      is = ap (λ (x : ℕ). x % (n * 2 ^ j)) (split_pow m j i (le_of_lt (k tt))) ∙ mod_scale (m * 2 ^ (i - j)) n (2 ^ j) P (pow_pos j);
    }

-- ---- what `rem` rounds
pub rem_is : (f : Format) (x y : Float) → T (finite x) → T (finite y) → 0 < num y → rem f x y ≡ round f (sgn x) (num x * den y % (num y * den x)) (den x * den y)
unfolding rem
rem_is f nan y p q h = absurd p
rem_is f (inf s) y p q h = absurd p
rem_is f (fin s m e) nan p q h = absurd q
rem_is f (fin s m e) (inf t) p q h = absurd q
rem_is f (fin s m e) (fin t n d) p q h = go (eqb n 0) (λ u. none n (first_pos n (up d) h) (eqb→eq n 0 u))
  where
    none : (n : ℕ) → 0 < n → n ≡ 0 → ⊥
    none n h e = omega arith

    go : (b : Bool) → (T b → ⊥) → cond b nan (round f s (m * up e * down d % (n * up d * down e)) (down e * down d)) ≡ round f s (m * up e * down d % (n * up d * down e)) (down e * down d)
    go true k = absurd (k tt)
    go false k = refl

-- in units, the remainder of the two fractions is that of the two whole numbers
pub in_units : (X dx Y dy L A B : ℕ) → 0 < L → 0 < Y → 0 < dx → 0 < dy → 0 < B → X * L ≡ A * dx → Y * L ≡ B * dy → X * dy % (Y * dx) * L ≡ A % B * (dx * dy)
in_units X dx Y dy L A B L0 Y0 X0 D0 B0 h g =
    sym (mod_scale (X * dy) (Y * dx) L (mul-pos Y0 X0) L0)
    ∙ ap (λ (z : ℕ). z % (Y * dx * L)) (mul_right_comm X dy L ∙ ap (λ (z : ℕ). z * dy) h ∙ mul_assoc A dx dy)
    ∙ ap (λ (z : ℕ). A * (dx * dy) % z) (mul_right_comm Y dx L ∙ ap (λ (z : ℕ). z * dx) g ∙ mul_assoc B dy dx ∙ ap (λ (z : ℕ). B * z) (mul_comm dy dx))
    ∙ mod_scale A B (dx * dy) B0 (mul-pos X0 D0)

module _ (f : Format) (x y : Float) (fx : T (finite x)) (fy : T (finite y)) (hx : T (fits f x)) (hy : T (fits f y)) (Y0 : 0 < num y) where
  wx : Whole f x
  wx = whole f x fx hx

  wy : Whole f y
  wy = whole f y fy hy

  B0 : 0 < wy.m * 2 ^ wy.j
  B0 = first_pos (wy.m * 2 ^ wy.j) (den y) (subst (λ (z : ℕ). 0 < z) wy.is (mul-pos Y0 (pow_pos (low f))))

  lf : Left (prec f) (wx.m * 2 ^ wx.j) (wy.m * 2 ^ wy.j)
  lf = left (prec f) wx.m wx.j wy.m wy.j wx.few wy.few (first_pos wy.m (2 ^ wy.j) B0)

  -- no rounding happens
  pub rem_exact : HasValue (rem f x y) (sgn x) (num x * den y % (num y * den x)) (den x * den y)
  rem_exact =
      subst (λ (z : Float). HasValue z (sgn x) (num x * den y % (num y * den x)) (den x * den y)) (sym (rem_is f x y fx fy Y0))
      (round_exact f (sgn x) (num x * den y % (num y * den x)) (den x * den y) lf.q lf.j (mul-pos (den_pos x) (den_pos y)) lf.few
      (lt_of_le_of_lt (le_trans (le_of_eq (sym lf.is)) (mod-le (wx.m * 2 ^ wx.j) (wy.m * 2 ^ wy.j))) wx.under)
      (in_units (num x) (den x) (num y) (den y) (2 ^ low f) (wx.m * 2 ^ wx.j) (wy.m * 2 ^ wy.j) (pow_pos (low f)) Y0 (den_pos x) (den_pos y) B0 wx.is wy.is
      ∙ ap (λ (z : ℕ). z * (den x * den y)) lf.is))

  pub rem_finite : T (finite (rem f x y))
  rem_finite = value_finite (rem f x y) (sgn x) (num x * den y % (num y * den x)) (den x * den y) rem_exact

  -- |rem x y| < |y|
  pub rem_lt : num (rem f x y) * den y < num y * den (rem f x y)
  rem_lt =
      let r = rem f x y in
      lt_of_mul-lt-mul_right (den x)
      (subst (λ (z : ℕ). z < num y * den r * den x)
      (sym (mul_assoc (num r) (den y) (den x) ∙ ap (λ (z : ℕ). num r * z) (mul_comm (den y) (den x)) ∙ value_cross r (sgn x) (num x * den y % (num y * den x)) (den x * den y) rem_exact))
      (subst (λ (z : ℕ). num x * den y % (num y * den x) * den r < z) (mul_right_comm (num y) (den x) (den r))
      (mul-lt-mul_of_pos_right (mod-lt (num x * den y) (mul-pos Y0 (den_pos x))) (den_pos r))))

-- the same as a range, for an x that need not fit: |rem x y| ≤ p / 2 ^ j where |y| is
pub rem_mag : {a i p j : ℕ} {y : Float} (x : Float) → T (finite x) → In a i p j y → T (ltb 0 a && holds p j) → Mag p j (rem binary64 x y)
rem_mag {a} {i} {p} {j} {y} x fx h t =
    let A : 0 < a = ltb→lt 0 a (and_l (ltb 0 a) (holds p j) t) in
    let Y : 0 < num y = first_pos (num y) (2 ^ i) (lt_of_lt_of_le (mul-pos A (den_pos y)) h.least) in
    let N = num x * den y % (num y * den x) in
    subst (λ (z : Float). Mag p j z) (sym (rem_is binary64 x y fx (plus_finite y h.sign) Y))
    (round_rep (sgn x) N (den x * den y) p j (mul-pos (den_pos x) (den_pos y)) (rep_small p j (and_r (ltb 0 a) (holds p j) t))
    (le_trans (mul-le-mul_right (2 ^ j) (le_of_lt (mod-lt (num x * den y) (mul-pos Y (den_pos x)))))
    (le_trans (le_of_eq (mul_right_comm (num y) (den x) (2 ^ j)))
    (le_trans (mul-le-mul_right (den x) h.most)
    (le_of_eq (mul_assoc p (den y) (den x) ∙ ap (λ (z : ℕ). p * z) (mul_comm (den y) (den x))))))))
