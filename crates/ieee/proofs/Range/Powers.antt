-- Bounds that are powers of two, at an exponent that need not be a numeral: `Pow k x` is |x| ≤ 2 ^ k. The tests are orders of exponents, for `omega`. Assumes nothing.
use mathlib.Core.Path.{sym, ap, ◌∙◌, subst}
use Prim.Native.Nat.{ℕ, suc, ◌+◌, ◌*◌, ◌^◌, ◌≤◌, ◌<◌}
use native.Mathlib.Nat.{pow-suc, le_trans, le_of_eq, lt_of_lt_of_le, mul-one, one-mul, mul_comm, mul_assoc, mul_left_comm, mul-le-mul, mul-le-mul_right, mul-pos}
use native.Mathlib.Omega.{arith}
use mathlib.Core.Bool.{Bool}
use lib.Dec.{T, leb, leb→le, lit≤}
use lib.Pow.{pow-add, pow_pos, pow_mono}
use lib.Ieee.{Float, nan, inf, fin, binary64, unlike, round, neg, sum, add, sub, mul, div}
use lib.Ieee.Scale.{finite}
use lib.Ieee.Positive.{num, den, den_pos, through, first_pos}
use Rattle.ieee.specs.Range.{sgn, Mag, In, Pow}
use Rattle.ieee.proofs.Range.Laws.{sum_any, plus_finite, rep_pow, round_rep, mul_is, add_is, sub_is, div_is}

-- ---- in and out
pub to_pow : {p j : ℕ} {x : Float} (k : ℕ) → Mag p j x → T (leb p (2 ^ k * 2 ^ j)) → Pow k x
to_pow {p} {j} {x} k h t = record { fine = h.fine; most = le_trans (le_of_eq (sym (mul-one (num x)))) (through (num x) p (2 ^ k) (den x) (2 ^ j) 1 (pow_pos j) h.most (le_trans (le_of_eq (mul-one p)) (leb→le p (2 ^ k * 2 ^ j) t))) }

pub of_pow : {k : ℕ} {x : Float} → Pow k x → Mag (2 ^ k) 0 x
of_pow {x = x} h = record { fine = h.fine; most = le_trans (le_of_eq (mul-one (num x))) h.most }

pub pow_up : {i k : ℕ} {x : Float} → Pow i x → i ≤ k → Pow k x
pow_up {i} {k} {x} h l = record { fine = h.fine; most = le_trans h.most (mul-le-mul_right (den x) (pow_mono l)) }

-- ---- a rounded fraction
round_pow : (s : Bool) (N D k : ℕ) → 0 < D → k ≤ 1023 → N ≤ 2 ^ k * D → Pow k (round binary64 s N D)
round_pow s N D k D0 l h =
    let g = round_rep s N D (2 ^ k) 0 D0 (rep_pow k l) (le_trans (le_of_eq (mul-one N)) h) in
    record { fine = g.fine; most = le_trans (le_of_eq (sym (mul-one (num (round binary64 s N D))))) g.most }

-- ---- the operations
ac_mul : (X dx Y dy i j : ℕ) → X ≤ 2 ^ i * dx → Y ≤ 2 ^ j * dy → X * Y ≤ 2 ^ (i + j) * (dx * dy)
ac_mul X dx Y dy i j h g = rw (pow-add 2 i j) (le_trans (mul-le-mul h g) (le_of_eq (simp (mul_assoc, mul_comm, mul_left_comm))))

pub mul_pow : {i j : ℕ} {x y : Float} → Pow i x → Pow j y → i + j ≤ 1023 → Pow (i + j) (mul binary64 x y)
mul_pow {i} {j} {x} {y} h g t =
    subst (λ (z : Float). Pow (i + j) z) (sym (mul_is x y h.fine g.fine))
    (round_pow (unlike (sgn x) (sgn y)) (num x * num y) (den x * den y) (i + j) (mul-pos (den_pos x) (den_pos y)) t (ac_mul (num x) (den x) (num y) (den y) i j h.most g.most))

sum_pow : (s : Bool) (a : ℕ) (t : Bool) (b c k : ℕ) → 0 < c → k ≤ 1023 → a + b ≤ 2 ^ k * c → Pow k (sum binary64 s a t b c)
sum_pow s a t b c k C l h = sum_any (λ z. Pow k z) s a t b c (λ s n g. round_pow s n c k C l (le_trans g h))

ac_add : (X dx Y dy k : ℕ) → X ≤ 2 ^ k * dx → Y ≤ 2 ^ k * dy → X * dy + Y * dx ≤ 2 ^ suc k * (dx * dy)
ac_add X dx Y dy k h g =
    let a : X * dy ≤ 2 ^ k * (dx * dy) = le_trans (mul-le-mul_right dy h) (le_of_eq (mul_assoc (2 ^ k) dx dy)) in
    let b : Y * dx ≤ 2 ^ k * (dx * dy) = le_trans (mul-le-mul_right dx g) (le_of_eq (mul_assoc (2 ^ k) dy dx ∙ ap (λ (z : ℕ). 2 ^ k * z) (mul_comm dy dx))) in
    rw (pow-suc 2 k) (twice (2 ^ k) (X * dy) (Y * dx) (dx * dy) a b)
  where
    twice : (K x y D : ℕ) → x ≤ K * D → y ≤ K * D → x + y ≤ K * 2 * D
    twice K x y D a b = omega arith

pub add_pow : {k : ℕ} {x y : Float} → Pow k x → Pow k y → suc k ≤ 1023 → Pow (suc k) (add binary64 x y)
add_pow {k} {x} {y} h g t =
    subst (λ (z : Float). Pow (suc k) z) (sym (add_is x y h.fine g.fine))
    (sum_pow (sgn x) (num x * den y) (sgn y) (num y * den x) (den x * den y) (suc k) (mul-pos (den_pos x) (den_pos y)) t (ac_add (num x) (den x) (num y) (den y) k h.most g.most))

pub neg_pow : {k : ℕ} {x : Float} → Pow k x → Pow k (neg x)
neg_pow {k} {x} h = go x h.fine h.most
  where
    go : (x : Float) → T (finite x) → num x ≤ 2 ^ k * den x → Pow k (neg x)
    go nan a b = absurd a
    go (inf s) a b = absurd a
    go (fin s m e) a b = unfold neg in record { fine = tt; most = b }

pub sub_pow : {k : ℕ} {x y : Float} → Pow k x → Pow k y → suc k ≤ 1023 → Pow (suc k) (sub binary64 x y)
sub_pow {k} {x} {y} h g t = subst (λ (z : Float). Pow (suc k) z) (sym (sub_is x y)) (add_pow h (neg_pow g) t)

-- the divisor is 2 ^ -j at least
ac_div : (X dx Y dy i j : ℕ) → X ≤ 2 ^ i * dx → 1 * dy ≤ Y * 2 ^ j → X * dy ≤ 2 ^ (i + j) * (Y * dx)
ac_div X dx Y dy i j h g = rw (pow-add 2 i j) (le_trans (mul-le-mul h (rw (one-mul dy) at g)) (le_of_eq (simp (mul_assoc, mul_comm, mul_left_comm))))

pub div_pow : {i j q l : ℕ} {x y : Float} → Pow i x → In 1 j q l y → i + j ≤ 1023 → Pow (i + j) (div binary64 x y)
div_pow {i} {j} {q} {l} {x} {y} h g t =
    let Y : 0 < num y = first_pos (num y) (2 ^ j) (lt_of_lt_of_le (mul-pos (lit≤ tt) (den_pos y)) g.least) in
    subst (λ (z : Float). Pow (i + j) z) (sym (div_is x y h.fine (plus_finite y g.sign) Y))
    (round_pow (unlike (sgn x) (sgn y)) (num x * den y) (num y * den x) (i + j) (mul-pos Y (den_pos x)) t (ac_div (num x) (den x) (num y) (den y) i j h.most g.least))
