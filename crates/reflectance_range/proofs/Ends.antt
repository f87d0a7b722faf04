-- f64s of a range: their order is that of their counts. Assumes nothing.
use mathlib.Core.Path.{◌≡◌, sym, ap, ◌∙◌}
use Prim.Native.Nat.{ℕ, ◌*◌, ◌^◌, ◌≤◌, ◌<◌}
use native.Mathlib.Nat.{le_refl, le_trans, le_of_eq, mul_comm, mul_assoc, mul_right_comm, mul-le-mul_right, mul-pos, le_of_mul-le-mul_right, lt_of_mul-lt-mul_right, mul-lt-mul_of_pos_right, lt_of_le_of_lt, lt_of_lt_of_le}
use native.Mathlib.Omega.{arith}
use mathlib.Core.Bool.{Bool, true, false, not}
use lib.Dec.{T, ltb, ltb→lt, nltb→le, lt→ltb, lit≤}
use lib.Ieee.{Float, nan, inf, fin, binary64, fits, up, lt, le, of_bits}
use lib.Ieee.Fits.{and_i}
use lib.Ieee.Positive.{num, den, den_pos, positive, le→cross, cross→le, first_pos}
use borrow.Author.Tests.{lt-ltb, le-ltb}
use Rattle.ieee.specs.Functions.{one, four}
use Rattle.ieee.specs.Range.{plus, In}
use Rattle.ieee.specs.Count.{count}
use Rattle.ieee.proofs.Count.{count_is}
use Rattle.ieee.proofs.Range.Laws.{plus_finite}
use Rattle.ieee.proofs.Range.Tests.{gate_in}
use Rattle.ieee_near.specs.Index.{Between, Index}
use Rattle.ieee_near.proofs.Pair.{index_in}
use Rattle.reflectance_range.specs.Claim.{Range}

in_positive : {x : Float} → In 1 0 4 0 x → T (positive x)
in_positive {x} i = go x i.sign (above (num x) (den x) (den_pos x) i.least)
  where
    above : (n d : ℕ) → 0 < d → 1 * d ≤ n * 1 → 0 < n
    above n d p h = omega arith

    go : (x : Float) → T (plus x) → 0 < num x → T (positive x)
    go nan p h = absurd p
    go (inf s) p h = absurd p
    go (fin true m e) p h = absurd p
    go (fin false m e) p h = lt→ltb 0 m (first_pos m (up e) h)

index_positive : {x : Float} → Index x → T (positive x)
index_positive i = in_positive (index_in i)

-- ---- of two finite values that are not below zero
module _ (x y : Float) (hx : T (fits binary64 x)) (hy : T (fits binary64 y)) (px : T (plus x)) (py : T (plus y)) where
  cx : count x * den x ≡ num x * 2 ^ 1074
  cx = count_is x hx (plus_finite x px)

  cy : count y * den y ≡ num y * 2 ^ 1074
  cy = count_is y hy (plus_finite y py)

  -- both counts over both denominators
  left : (g n d e K : ℕ) → g * d ≡ n * K → g * (d * e) ≡ n * e * K
  left g n d e K p = sym (mul_assoc g d e) ∙ ap (λ (z : ℕ). z * e) p ∙ mul_right_comm n K e

  right : (h m d e K : ℕ) → h * e ≡ m * K → h * (d * e) ≡ m * d * K
  right h m d e K q = ap (λ (z : ℕ). h * z) (mul_comm d e) ∙ left h m e d K q

  pub count_order : num x * den y ≤ num y * den x → count x ≤ count y
  count_order h =
      le_of_mul-le-mul_right (le_trans (le_of_eq (left (count x) (num x) (den x) (den y) (2 ^ 1074) cx)) (le_trans (mul-le-mul_right (2 ^ 1074) h) (le_of_eq (sym (right (count y) (num y) (den x) (den y) (2 ^ 1074) cy)))))
      (mul-pos (den_pos x) (den_pos y))

  count_below : num x * den y < num y * den x → count x < count y
  count_below h =
      lt_of_mul-lt-mul_right (den x * den y)
      (lt_of_le_of_lt (le_of_eq (left (count x) (num x) (den x) (den y) (2 ^ 1074) cx)) (lt_of_lt_of_le (mul-lt-mul_of_pos_right h (lit≤ {m = 1} {n = 2 ^ 1074} tt)) (le_of_eq (sym (right (count y) (num y) (den x) (den y) (2 ^ 1074) cy)))))

-- x < y by cross products
tested : (x y : Float) → T (plus x) → T (plus y) → lt x y ≡ ltb (num x * den y) (num y * den x)
unfolding lt
tested nan y p q = absurd p
tested (inf s) y p q = absurd p
tested (fin true m e) y p q = absurd p
tested (fin false m e) nan p q = absurd q
tested (fin false m e) (inf s) p q = absurd q
tested (fin false m e) (fin true n d) p q = absurd q
tested (fin false m e) (fin false n d) p q = λ i. ltb (num (fin false m e) * den (fin false n d)) (num (fin false n d) * den (fin false m e))

-- and by counts
pub lt_count : (x y : Float) → T (fits binary64 x) → T (fits binary64 y) → T (plus x) → T (plus y) → lt x y ≡ ltb (count x) (count y)
lt_count x y hx hy px py = tested x y px py ∙ go (ltb (num x * den y) (num y * den x)) (ltb→lt (num x * den y) (num y * den x)) (nltb→le (num x * den y) (num y * den x))
  where
    go : (b : Bool) → (T b → num x * den y < num y * den x) → (T (not b) → num y * den x ≤ num x * den y) → b ≡ ltb (count x) (count y)
    go true f g = sym (lt-ltb (count x) (count y) (count_below x y hx hy px py (f tt)))
    go false f g = sym (le-ltb (count x) (count y) (count_order y x hy hx py px (g tt)))

-- ---- indices
pub index_lt : {x y : Float} → Index x → Index y → lt x y ≡ ltb (count x) (count y)
index_lt {x} {y} i j = lt_count x y i.held j.held (index_in i).sign (index_in j).sign

pub count_le : {x y : Float} → Index x → Index y → T (le x y) → count x ≤ count y
count_le {x} {y} i j t = count_order x y i.held j.held (index_in i).sign (index_in j).sign (le→cross x y (index_positive i) (index_positive j) t)

-- counts that are in order are of values that are
pub le_count : {x y : Float} → Index x → Index y → count x ≤ count y → T (le x y)
le_count {x} {y} i j h =
    cross→le x y (index_positive i) (index_positive j)
    (le_of_mul-le-mul_right {k = 2 ^ 1074}
    (le_trans (le_of_eq (sym (left x y i.held j.held (index_in i).sign (index_in j).sign (count x) (num x) (den x) (den y) (2 ^ 1074) (count_is x i.held (plus_finite x (index_in i).sign)))))
    (le_trans (mul-le-mul_right (den x * den y) h) (le_of_eq (right x y i.held j.held (index_in i).sign (index_in j).sign (count y) (num y) (den x) (den y) (2 ^ 1074) (count_is y j.held (plus_finite y (index_in j).sign))))))
    (lit≤ {m = 1} {n = 2 ^ 1074} tt))

-- what lies within a range is an index
pub inside : {lo hi x : Float} → Range lo hi → Between lo hi x → Index x
inside {lo} {hi} {x} r b =
    let h : In 1 0 4 0 x = gate_in lo hi x (index_in r.low_end) (index_in r.high_end) (and_i (positive lo) (positive hi) (index_positive r.low_end) (index_positive r.high_end)) b.least b.most in
    record { held = b.held; least = at_least h; most = at_most h }
  where
    at_least : In 1 0 4 0 x → T (le one x)
    at_least h = unfold of_bits in cross→le one x tt (in_positive h) h.least

    at_most : In 1 0 4 0 x → T (le x four)
    at_most h = unfold of_bits in cross→le x four (in_positive h) tt h.most

pub self : {x : Float} → Index x → T (le x x)
self {x} i = le_count i i (le_refl (count x))
