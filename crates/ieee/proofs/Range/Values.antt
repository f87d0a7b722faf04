-- Values that a format holds. Each is a whole number m * 2 ^ j of the format's smallest values, m of few digits (`whole`), and is rounded to itself (`own_round`).
-- It is known by its sign and its size (`unique`). Over either format. Assumes nothing.
use mathlib.Core.Path.{◌≡◌, refl, sym, ap, ◌∙◌, subst}
use Prim.Native.Nat.{ℕ, zero, suc, ◌+◌, ◌-◌, ◌*◌, ◌/◌, ◌%◌, ◌^◌, ◌≤◌, ◌<◌}
use native.Mathlib.Nat.{le_trans, le_of_eq, le_of_suc-le-suc, lt_of_lt_of_le, lt_of_not-le, lt_irrefl, not-le_of_lt, mul-one, one-mul, zero-mul, mul_comm, mul_assoc, mul_right_comm, mul-le-mul_right, mul-lt-mul_of_pos_right, lt_of_mul-lt-mul_right, eq_of_mul-eq-mul_right, mul-pos}
use mathlib.Core.Bool.{Bool, ◌&&◌, cond}
use lib.IntN.{ℤ, pos, negsuc}
use lib.Dec.{T, ltb, leb, eqb, eqb→eq, ltb→lt, leb→le}
use lib.Pow.{pow-add, pow_pos, pow-lt, pow_mono}
use lib.Ieee.{Float, nan, inf, fin, Format, prec, emax, low, size, up, down, top, hid, round, fits, to_bits, of_bits}
use lib.Ieee.Digits.{back}
use lib.Ieee.Bits.{of_bits-to_bits}
use lib.Ieee.Fits.{and_l, and_r, up_pos, down_pos, round-fits}
use lib.Ieee.Nearest.{div_same}
use lib.Ieee.Scale.{finite}
use lib.Ieee.Exact.{HasValue, round_exact}
use lib.Ieee.Positive.{num, den, den_pos}
use Rattle.ieee.specs.Range.{sgn}

-- ---- orders of powers
pub pow_lt_back : (i p : ℕ) → 2 ^ i < 2 ^ p → i < p
pow_lt_back i p h = lt_of_not-le (λ (g : p ≤ i). not-le_of_lt h (pow_mono g))

pub split_pow : (n i j : ℕ) → i ≤ j → n * 2 ^ j ≡ n * 2 ^ (j - i) * 2 ^ i
split_pow n i j h = ap (λ (x : ℕ). n * 2 ^ x) (sym (back j i h)) ∙ ap (λ (x : ℕ). n * x) (pow-add 2 (j - i) i) ∙ sym (mul_assoc n (2 ^ (j - i)) (2 ^ i))

pub pow_le_back : (a l : ℕ) → 2 ^ a ≤ 2 ^ l → a ≤ l
pow_le_back a l h = le_of_suc-le-suc (lt_of_not-le (λ (g : suc l ≤ a). lt_irrefl (2 ^ l) (lt_of_lt_of_le (pow-lt g) h)))

place : (l : ℕ) (e : ℤ) → down e ≤ 2 ^ l → (j : ℕ) × (up e * 2 ^ l ≡ 2 ^ j * down e)
place l (pos a) h = (a + l, sym (pow-add 2 a l) ∙ sym (mul-one (2 ^ (a + l))))
place l (negsuc a) h = (l - suc a, one-mul (2 ^ l) ∙ ap (λ (x : ℕ). 2 ^ x) (sym (back l (suc a) (pow_le_back (suc a) l h))) ∙ pow-add 2 (l - suc a) (suc a))

pub record Whole (f : Format) (x : Float) : Type 0 where
  pub m : ℕ
  pub j : ℕ
  pub few : m < 2 ^ prec f
  pub is : num x * 2 ^ low f ≡ m * 2 ^ j * den x
  pub under : m * 2 ^ j < 2 ^ (low f + suc (emax f))

whole_at : (f : Format) (s : Bool) (m : ℕ) (e : ℤ) → m < 2 ^ prec f → down e ≤ 2 ^ low f → m * up e < 2 ^ suc (emax f) * down e → Whole f (fin s m e)
whole_at f s m e a b c =
    let pl = place (low f) e b in
    let j = pl.0 in
    let is : m * up e * 2 ^ low f ≡ m * 2 ^ j * down e = mul_assoc m (up e) (2 ^ low f) ∙ ap (λ (x : ℕ). m * x) pl.1 ∙ sym (mul_assoc m (2 ^ j) (down e)) in
    record {
      m = m;
      j = j;
      few = a;
      is = is;
      under = lt_of_mul-lt-mul_right (down e)
          (subst (λ (x : ℕ). x < 2 ^ (low f + suc (emax f)) * down e) is
          (lt_of_lt_of_le (mul-lt-mul_of_pos_right c (pow_pos (low f)))
          (le_of_eq (mul_right_comm (2 ^ suc (emax f)) (down e) (2 ^ low f) ∙ ap (λ (x : ℕ). x * down e) (mul_comm (2 ^ suc (emax f)) (2 ^ low f) ∙ sym (pow-add 2 (low f) (suc (emax f))))))));
    }

one_each : (u d l : ℕ) → 0 < u → u * d ≡ 1 → 0 < l → d ≤ l
one_each u d l U e L = le_trans (le_trans (le_of_eq (sym (one-mul d))) (mul-le-mul_right d U)) (le_trans (le_of_eq e) L)

pub whole : (f : Format) (x : Float) → T (finite x) → T (fits f x) → Whole f x
unfolding fits
whole f nan a t = absurd a
whole f (inf s) a t = absurd a
whole f (fin s zero e) a t =
    whole_at f s 0 e (pow_pos (prec f)) (one_each (up e) (down e) (2 ^ low f) (up_pos e) (eqb→eq (up e * down e) 1 t) (pow_pos (low f)))
    (rw (zero-mul (up e)) (mul-pos (pow_pos (suc (emax f))) (down_pos e)))
whole f (fin s (suc m) e) a t =
    let A : Bool = eqb (suc m % 2) 1 in
    let B : Bool = ltb (suc m) (2 ^ prec f) in
    let C : Bool = leb (down e) (2 ^ low f) in
    let D : Bool = ltb (suc m * up e) (2 ^ suc (emax f) * down e) in
    let t3 = and_l (A && B && C) D t in
    let t2 = and_l (A && B) C t3 in
    whole_at f s (suc m) e (ltb→lt (suc m) (2 ^ prec f) (and_r A B t2)) (leb→le (down e) (2 ^ low f) (and_r (A && B) C t3)) (ltb→lt (suc m * up e) (2 ^ suc (emax f) * down e) (and_r (A && B && C) D t))

-- ---- a value that the format holds is rounded to itself
pub self_value : (x : Float) → T (finite x) → HasValue x (sgn x) (num x) (den x)
self_value nan a = absurd a
self_value (inf s) a = absurd a
self_value (fin s m e) a = (refl, refl)

pub own_round : (f : Format) (x : Float) → T (finite x) → T (fits f x) → HasValue (round f (sgn x) (num x) (den x)) (sgn x) (num x) (den x)
own_round f x a h = let w = whole f x a h in round_exact f (sgn x) (num x) (den x) w.m w.j (den_pos x) w.few w.under w.is

-- equal sizes have one pattern
bits_same : (f : Format) (x y : Float) (s : Bool) (a c : ℕ) → 0 < c → HasValue x s a c → HasValue y s a c → to_bits f x ≡ to_bits f y
unfolding to_bits
bits_same f nan y s a c C h g = absurd h
bits_same f (inf t) y s a c C h g = absurd h
bits_same f (fin t m e) nan s a c C h g = absurd g
bits_same f (fin t m e) (inf u) s a c C h g = absurd g
bits_same f (fin t m e) (fin u n d) s a c C h g =
    let L = 2 ^ low f in
    let k : m * up e * L * down d ≡ n * up d * L * down e =
    mul_right_comm (m * up e) L (down d) ∙ ap (λ (z : ℕ). z * L) (cross (m * up e) (n * up d) (down e) (down d) a c C h.1 g.1) ∙ mul_right_comm (n * up d) (down e) L in
    ap (λ (z : Bool). at z (m * up e * L / down e)) (h.0 ∙ sym g.0) ∙ ap (λ (z : ℕ). at u z) (div_same (m * up e * L) (down e) (n * up d * L) (down d) (down_pos e) (down_pos d) k)
  where
    at : Bool → ℕ → ℕ
    at s n = let k = size n - prec f in cond s (top f) 0 + k * hid f + n / 2 ^ k

    cross : (X Y dx dy a c : ℕ) → 0 < c → X * c ≡ a * dx → Y * c ≡ a * dy → X * dy ≡ Y * dx
    cross X Y dx dy a c C h g = eq_of_mul-eq-mul_right c C (X * dy) (Y * dx) (mul_right_comm X dy c ∙ ap (λ (z : ℕ). z * dy) h ∙ mul_right_comm a dx dy ∙ ap (λ (z : ℕ). z * dx) (sym g) ∙ mul_right_comm Y c dx)

pub unique : (f : Format) (x y : Float) (s : Bool) (a c : ℕ) → 0 < c → T (fits f x) → T (fits f y) → HasValue x s a c → HasValue y s a c → x ≡ y
unique f x y s a c C p q h g = sym (of_bits-to_bits f x p) ∙ ap (of_bits f) (bits_same f x y s a c C h g) ∙ of_bits-to_bits f y q

pub round_itself : (f : Format) (x : Float) → T (finite x) → T (fits f x) → round f (sgn x) (num x) (den x) ≡ x
round_itself f x a h = unique f (round f (sgn x) (num x) (den x)) x (sgn x) (num x) (den x) (den_pos x) (round-fits f (sgn x) (num x) (den x)) h (own_round f x a h) (self_value x a)
