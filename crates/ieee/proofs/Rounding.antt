-- The laws of rounding (specs/Rounding.antt), for either format. Assumes nothing.
use mathlib.Core.Path.{◌≡◌, refl, sym, ap, ◌∙◌, subst}
use Prim.Native.Nat.{ℕ, suc, ◌+◌, ◌-◌, ◌*◌, ◌/◌, ◌^◌, ◌≤◌, ◌<◌}
use native.Mathlib.Nat.{le_trans, le_of_eq, le_of_lt, lt_of_lt_of_le, mul-one, one-mul, mul_comm, mul_right_comm, mul-le-mul_right, lt_of_mul-lt-mul_right, div-lt_iff_lt-mul}
use native.Mathlib.Omega.{arith}
use mathlib.Core.Bool.{Bool, true, false, cond}
use lib.Dec.{T, ltb, lit≤}
use lib.Ieee.{Float, inf, Format, binary32, binary64, prec, emax, low, size, odd, units, round}
use lib.Ieee.Digits.{size-le}
use lib.Ieee.Exact.{odd_sign}
use lib.Ieee.Fits.{round_is}
use lib.Ieee.Nearest.{closest}
use lib.Ieee.Order.{drop, kept, round_mono}
use lib.Ieee.Scale.{finite, grid, round_under}
use lib.Ieee.Positive.{num, den}
use Rattle.ieee.specs.Range.{Rep}
use Rattle.ieee.specs.Rounding.{Within, OnePart, HalfUnit, Rounding}
use Rattle.ieee.proofs.Range.Round.{round_value, round_most, value_cross, value_finite}
use Rattle.ieee.proofs.Range.Relative.{Close, near, relative}
use Rattle.ieee.proofs.Range.Values.{round_itself}

-- ---- whether a result is finite does not turn on its sign
units_finite : (f : Format) (s : Bool) (q k : ℕ) → T (finite (units f s q k)) → T (finite (units f false q k))
unfolding units
units_finite f s q k = go (ltb (q * 2 ^ k) (2 ^ (low f + suc (emax f))))
  where
    go : (b : Bool) → T (finite (cond b (odd (suc (prec f)) s q k (low f)) (inf s))) → T (finite (cond b (odd (suc (prec f)) false q k (low f)) (inf false)))
    go true t = value_finite (odd (suc (prec f)) false q k (low f)) false (q * 2 ^ k) (2 ^ low f) (odd_sign (suc (prec f)) false q k (low f))
    go false t = t

clear_finite : (f : Format) (s : Bool) (a c : ℕ) → T (finite (round f s a c)) → T (finite (round f false a c))
clear_finite f s a c t =
    let q = kept (prec f) (a * 2 ^ low f) c in
    let k = drop (prec f) (a * 2 ^ low f) c in
    subst (λ (x : Float). T (finite x)) (sym (round_is f false a c)) (units_finite f s q k (subst (λ (x : Float). T (finite x)) (round_is f s a c) t))

normal_law : (f : Format) (s : Bool) (a c : ℕ) → 0 < c → 2 ^ (prec f - 1) * c ≤ a * 2 ^ low f → T (finite (round f s a c)) → OnePart f a c (round f s a c)
normal_law f s a c C h t = relative f s a c C h (clear_finite f s a c t)

-- ---- below the normal range no digit is dropped
none_dropped : (f : Format) (n c : ℕ) → 0 < c → n < 2 ^ (prec f - 1) * c → drop (prec f) n c ≡ 0
none_dropped f n c C h = short (size (n / c)) (prec f) (size-le (n / c) (prec f - 1) ((div-lt_iff_lt-mul C).1 h))
  where
    short : (z p : ℕ) → z ≤ p - 1 → z - p ≡ 0
    short z p h = omega arith

whole_grid : (f : Format) (a c : ℕ) → 0 < c → a * 2 ^ low f < 2 ^ (prec f - 1) * c → grid f a c ≡ closest (a * 2 ^ low f) c
whole_grid f a c C h =
    let n = a * 2 ^ low f in
    ap (λ (k : ℕ). closest n (c * 2 ^ k) * 2 ^ k) (none_dropped f n c C h) ∙ mul-one (closest n (c * 1)) ∙ ap (closest n) (mul-one c)

-- 1 is a bound, and the normal range starts below it
one_rep : (f : Format) → Rep f 1 0
one_rep binary32 = record { q = 1; i = 0; few = lit≤ tt; is = refl; deep = lit≤ tt; under = lit≤ tt }
one_rep binary64 = record { q = 1; i = 0; few = lit≤ tt; is = refl; deep = lit≤ tt; under = lit≤ tt }

starts : (f : Format) → 2 ^ (prec f - 1) ≤ 2 ^ low f
starts binary32 = lit≤ tt
starts binary64 = lit≤ tt

below_one : (f : Format) (a c : ℕ) → a * 2 ^ low f < 2 ^ (prec f - 1) * c → a * 1 ≤ 1 * c
below_one f a c h =
    le_trans (le_of_eq (mul-one a))
    (le_trans (le_of_lt (lt_of_mul-lt-mul_right (2 ^ low f) (lt_of_lt_of_le h (le_trans (mul-le-mul_right c (starts f)) (le_of_eq (mul_comm (2 ^ low f) c)))))) (le_of_eq (sym (one-mul c))))

half_of : (N d G L a c : ℕ) → N * L ≡ G * d → Close G (a * L) c → Within (c * d) (2 * (N * c * L)) (2 * (a * d * L))
half_of N d G L a c e h =
    let k : N * c * L ≡ G * c * d = mul_right_comm N c L ∙ ap (λ (z : ℕ). z * c) e ∙ mul_right_comm G d c in
    let u : 2 * (G * c) * d ≤ (2 * (a * L) + c) * d = mul-le-mul_right d h.0 in
    let v : 2 * (a * L) * d ≤ (2 * (G * c) + c) * d = mul-le-mul_right d h.1 in
    (omega arith, omega arith)

below_law : (f : Format) (s : Bool) (a c : ℕ) → 0 < c → a * 2 ^ low f < 2 ^ (prec f - 1) * c → HalfUnit f a c (round f s a c)
below_law f s a c C h =
    let r = round f s a c in
    let n = a * 2 ^ low f in
    let fine = (round_most f a c 1 0 C (one_rep f) (below_one f a c h) false).0 in
    let v = value_cross r s (grid f a c) (2 ^ low f) (round_value f s a c (round_under f a c fine)) in
    half_of (num r) (den r) (closest n c) (2 ^ low f) a c (v ∙ ap (λ (g : ℕ). g * den r) (whole_grid f a c C h)) (near n c C)

pub rounding : (f : Format) → Rounding f
rounding f = record { monotone = round_mono f; exact = λ x h t. round_itself f x t h; normal = normal_law f; below = below_law f }
