-- sin of section 2 beside the partial sums of the sine's series. Assumes nothing.
use mathlib.Core.Path.{◌≡◌, refl, sym, ap, ap₂, ◌∙◌, subst}
use Prim.Native.Nat.{ℕ, zero, suc, ◌+◌, ◌-◌, ◌*◌, ◌^◌, ◌≤◌, ◌<◌, min}
use native.Mathlib.Nat.{le_refl, le_trans, le_of_eq, le_of_lt, lt_of_le_of_lt, mul-one, one-mul, mul_comm, mul_assoc, mul_left_comm, mul_right_comm, mul-le-mul, mul-le-mul_left, mul-le-mul_right, le_of_mul-le-mul_right, mul-pos, lt_of_not-le, mul-lt-mul_of_pos_right}
use native.Mathlib.Decide.{dec_le}
use native.Mathlib.Omega.{arith}
use mathlib.Core.Bool.{Bool, true, false, not, ◌&&◌, cond}
use lib.Dec.{T, lit≤}
use lib.Pow.{pow_pos}
use lib.IntN.{ℤ, pos}
use lib.Ieee.{Float, binary64, fits, unlike, round, lt, neg, of_bits, of_int}
use lib.Ieee.Fits.{mul-fits}
use lib.Ieee.Scale.{finite}
use lib.Ieee.Positive.{num, den, den_pos}
use Rattle.ieee.specs.Operators.{◌⊖◌, ◌⊗◌, ◌⊘◌}
use Rattle.ieee.specs.Functions.{one, minus_one, clamp}
use Rattle.ieee.specs.Range.{sgn, In, Mag, plus}
use Rattle.ieee.specs.Count.{count}
use Rattle.ieee.proofs.Count.{count_is}
use Rattle.ieee.proofs.Range.Laws.{plus_finite, plus_sgn, in_mag, mul_is, mul_mag}
use Rattle.ieee.proofs.Range.Constants.{one_in}
use Rattle.ieee.proofs.Range.Tests.{choose, lt_in, lt_size, within}
use Rattle.near_abs.specs.Off.{Within}
use Rattle.near_abs.proofs.Counts.{U, Held, count_most, Result, mul_off, round_sgn}
use Rattle.near_abs.proofs.Laws.{Near, itself, renamed, wider, mul_near}
use Rattle.math_trig.specs.Trig.{series, sin_div, sin_at}
use Rattle.math_trig.proofs.Constants.{minus_one_is}
use Rattle.trig_near.specs.Sums.{bottom, top, sine_steps}
use Rattle.trig_near.proofs.Runs.{run_top, run_bottom}
use Rattle.trig_near.proofs.Sums.{run, run_top_is, run_bottom_is, run_same, run_most}
use Rattle.trig_near.proofs.Series.{At, one_count, err, start, sum_at}
use Rattle.trig_near.proofs.Below.{at_most_one}
use Rattle.trig_near.proofs.Angle.{P, Beside}
use Rattle.trig_near.proofs.Cosine.{stepsb, steps_of}

sine_divs : T (stepsb sine_steps sin_div 10)
unfolding of_int count fits
sine_divs = tt

sine_big : (k : ℕ) → 506 ≤ sine_steps (suc (10 + k))
sine_big k = omega arith

-- a value cut to 1, beside a fraction that is above 1 by so little
capped : (e B y A v : ℕ) → Within (e * B) (y * B) (A * v) → 2 ^ 53 * A ≤ (2 ^ 53 + 1) * B → v ≤ e * 2 ^ 53 → Within (e * B) (min y v * B) (A * v)
capped e B y A v h one small = go (dec_le y v)
  where
    first : (y v : ℕ) → y ≤ v → min y v ≡ y
    first y v h = omega (arith, h)

    second : (y v : ℕ) → v ≤ y → min y v ≡ v
    second y v h = omega (arith, h)

    -- A is B and 2 ^ -53 of it at most
    over : A * v ≤ v * B + e * B
    over =
        let x : 2 ^ 53 * A * v ≤ (2 ^ 53 + 1) * B * v = mul-le-mul_right v one in
        let y : v * B ≤ e * 2 ^ 53 * B = mul-le-mul_right B small in
        omega (arith, x, y)

    go : Dec (y ≤ v) → Within (e * B) (min y v * B) (A * v)
    go (yes p) = rw (first y v p) h
    go (no p) = rw (second y v (le_of_lt (lt_of_not-le p))) (record { most = le_trans (mul-le-mul_right B (le_of_lt (lt_of_not-le p))) h.most; least = over })

one_held' : Held one
unfolding fits of_bits
one_held' = record { fine = tt; held = tt }

minus_count : count minus_one ≡ U
unfolding count of_bits
minus_count = refl

minus_held : T (fits binary64 minus_one)
unfolding fits of_bits
minus_held = tt

minus_sgn : sgn minus_one ≡ true
unfolding of_bits
minus_sgn = refl

-- the error of r·p
abbrev pub sine_err : ℕ → ℕ → ℕ
sine_err d f = d * 1 + 2 * err f sine_steps 10 start + 2 ^ 1022

module _ (d f X W : ℕ) (r : Float) (b : Beside d f X W r) where
  abbrev Z : ℕ
  Z = X * X

  abbrev Y : ℕ
  Y = W * W

  h : T (fits binary64 r)
  h = b.held

  m : Mag P 52 r
  m = b.mag

  hr : Held r
  hr = record { fine = m.fine; held = h }

  unfoldable p : Float
  p = series sin_div 10 (r ⊗ r) one

  r_most : count r ≤ 2 * U
  r_most = go (count r) U (count_most P 52 hr m.most)
    where
      go : (c v : ℕ) → c * 2 ^ 52 ≤ P * v → c ≤ 2 * v
      go c v h = omega (arith, h)

  six_more : (k : ℕ) → Z ≤ Y * sine_steps (suc k)
  six_more k = go (Z) (Y) (sine_steps (suc k)) b.most (six k)
    where
      six : (k : ℕ) → 6 ≤ sine_steps (suc k)
      six k = omega arith

      go : (z y d : ℕ) → z * 2 ^ 10 ≤ 2527 * y → 6 ≤ d → z ≤ y * d
      go z y d a b = let c : y * 6 ≤ y * d = mul-le-mul_left y b in omega (arith, a, c)

  abbrev A : ℕ → ℕ
  A N = run_top sine_steps (Z) (Y) N 1 1

  pub top_is : (N : ℕ) → top sine_steps (Z) (Y) N ≡ pos (A N)
  top_is N = sym (run_top_is sine_steps (Z) (Y) N) ∙ run_same sine_steps (Z) (Y) N 1 1 six_more (lit≤ tt)

  pub bottom_is : (N : ℕ) → run_bottom sine_steps (Y) N 1 ≡ bottom sine_steps (Y) N
  bottom_is N = run_bottom_is sine_steps (Y) N 1 ∙ mul-one (bottom sine_steps (Y) N)

  series_near : (j : ℕ) → At (err f sine_steps 10 start) (A (10 + j)) (run_bottom sine_steps (Y) (10 + j) 1) p
  unfolding p
  series_near j = sum_at f sine_steps sin_div (Z) (Y) (r ⊗ r) (steps_of sine_steps sin_div 10 sine_divs) sine_big (mul-pos b.base b.base) b.most b.square j

  pub bottom_pos : (N : ℕ) → 0 < bottom sine_steps (Y) N
  bottom_pos zero = lit≤ tt
  bottom_pos (suc N) = mul-pos (bottom_pos N) (mul-pos (mul-pos b.base b.base) (six N))
    where
      six : (k : ℕ) → 0 < sine_steps (suc k)
      six k = omega arith

  p_near : (j : ℕ) → Near (err f sine_steps 10 start) (A (10 + j)) (bottom sine_steps Y (10 + j)) p
  p_near j =
      let s = series_near j in
      record { ok = s.ok; base = bottom_pos (10 + j); off = subst (λ (B : ℕ). Within (err f sine_steps 10 start * B) (count p * B) (A (10 + j) * U)) (bottom_is (10 + j)) s.off }

  -- the angle: 2 at most
  angle_most : X ≤ 2 * W
  angle_most = go X W b.small
    where
      go : (x w : ℕ) → x * 2 ^ 52 ≤ (P + 4) * w → x ≤ 2 * w
      go x w h = omega (arith, h)

  r_near : Near d X W r
  r_near = record { ok = hr; base = b.base; off = b.near }

  -- before the clamp
  unfoldable y : Float
  y = r ⊗ p

  y_near : (j : ℕ) → Near (sine_err d f) (X * A (10 + j)) (W * bottom sine_steps Y (10 + j)) y
  unfolding y
  y_near j = mul_near 2 1 2 1022 (lit≤ tt) (lit≤ tt) r_near (p_near j) angle_most r_most (le_trans (le_of_eq (sym (mul-one (count p)))) (count_most 1 0 (series_near j).ok (series_near j).range.most))

  y_sgn : sgn y ≡ sgn r
  unfolding y
  y_sgn = ap sgn (mul_is r p m.fine (series_near 0).ok.fine) ∙ round_sgn (unlike (sgn r) (sgn p)) (num r * num p) (den r * den p) ∙ ap (unlike (sgn r)) (plus_sgn p (series_near 0).range.sign) ∙ same (sgn r)
    where
      same : (s : Bool) → unlike s false ≡ s
      same true = refl
      same false = refl

  -- the clamp keeps the sign, and cuts the size to 1
  clamped : (sgn (clamp y minus_one one) ≡ sgn y) × (count (clamp y minus_one one) ≡ min (count y) U)
  unfolding clamp
  clamped =
      choose Good (lt y minus_one) minus_one (cond (lt one y) one y) under
      (λ a. choose Good (lt one y) one y over (λ b. (refl, sym (first (count y) U (unit (count y) U (count_most 1 0 y_held (within one_in y_held.fine b (subst (λ (z : Float). T (not (lt y z))) minus_one_is a)).most))))))
    where
      Good : Float → Type 0
      Good z = (sgn z ≡ sgn y) × (count z ≡ min (count y) U)

      y_held : Held y
      y_held = (y_near 0).ok

      y_mag : Mag 4 0 y
      y_mag = unfold y in mul_mag m (in_mag (series_near 0).range) tt

      unit : (c v : ℕ) → c * 1 ≤ 1 * v → c ≤ v
      unit c v h = omega (arith, h)

      first : (y v : ℕ) → y ≤ v → min y v ≡ y
      first y v h = omega (arith, h)

      second : (y v : ℕ) → v ≤ y → min y v ≡ v
      second y v h = omega (arith, h)

      more : 1 * den y ≤ num y * 1 → U ≤ count y
      more a = go (num y) (den y) (count y) U (den_pos y) (count_is y y_held.held y_held.fine) a
        where
          go : (n d c v : ℕ) → 0 < d → c * d ≡ n * v → 1 * d ≤ n * 1 → v ≤ c
          go n d c v D e h = le_of_mul-le-mul_right (le_trans (le_of_eq (swap v d)) (le_trans (mul-le-mul_right v h) (le_of_eq (ap (λ (z : ℕ). z * v) (mul-one n) ∙ sym e)))) D
            where
              swap : (v d : ℕ) → v * d ≡ 1 * d * v
              swap v d = omega arith

      is_true : (b : Bool) → T b → b ≡ true
      is_true true t = refl
      is_true false t = absurd t

      under : T (lt y minus_one) → Good minus_one
      under a =
          let s = lt_size one_in y_mag (subst (λ (z : Float). T (lt y z)) minus_one_is a) in
          (minus_sgn ∙ sym (is_true (sgn y) s.0), minus_count ∙ sym (second (count y) U (more s.1.least)))

      over : T (lt one y) → Good one
      over a =
          let s = lt_in one_in y_mag a in
          (plus_sgn one one_in.sign ∙ sym (plus_sgn y s.sign), one_count ∙ sym (second (count y) U (more s.least)))

  pub sin_at_fits : T (fits binary64 (sin_at r))
  unfolding sin_at clamp y p
  sin_at_fits = choose (λ z. T (fits binary64 z)) (lt y minus_one) minus_one (cond (lt one y) one y) (λ a. minus_held) (λ a. choose (λ z. T (fits binary64 z)) (lt one y) one y (λ b. one_held'.held) (λ b. mul-fits binary64 r p))

  sin_at_is : sin_at r ≡ clamp y minus_one one
  unfolding sin_at y p
  sin_at_is = refl

  pub sin_sgn : sgn (sin_at r) ≡ sgn r
  sin_sgn = ap sgn sin_at_is ∙ clamped.0 ∙ y_sgn

  abbrev B : ℕ → ℕ
  B N = W * bottom sine_steps Y N

  -- the sum is 1 and 2 ^ -53 at most
  top_most : (j : ℕ) → 2 ^ 53 * (X * A (10 + j)) ≤ (2 ^ 53 + 1) * B (10 + j)
  top_most j = subst (λ (k : ℕ). 2 ^ 53 * (X * A (10 + j)) ≤ (2 ^ 53 + 1) * (W * k)) (bottom_is (10 + j)) (at_most_one X W b.base (go Z Y b.most) j)
    where
      go : (z y : ℕ) → z * 2 ^ 10 ≤ 2527 * y → z * 2 ≤ 5 * y
      go z y h = omega (arith, h)

  -- the sizes
  pub sin_off : (j : ℕ) → U ≤ sine_err d f * 2 ^ 53 → Within (sine_err d f * B (10 + j)) (count (sin_at r) * B (10 + j)) (X * A (10 + j) * U)
  sin_off j enough =
      subst (λ (c : ℕ). Within (sine_err d f * B (10 + j)) (c * B (10 + j)) (X * A (10 + j) * U)) (sym (ap count sin_at_is ∙ clamped.1)) (capped (sine_err d f) (B (10 + j)) (count y) (X * A (10 + j)) U (y_near j).off (top_most j) enough)

  -- no larger than r, but for a rounding
  pub sin_small : count (sin_at r) ≤ count r + 2 ^ 1022
  unfolding y
  sin_small = le_trans (le_of_eq (ap count sin_at_is ∙ clamped.1)) (le_trans (less (count y) U) (le_of_mul-le-mul_right (go (count y) (count r) (count p) U (2 ^ 1022) product.off.most p_most) (pow_pos 1074)))
    where
      less : (a b : ℕ) → min a b ≤ a
      less a b = omega arith

      p_most : count p ≤ U
      p_most = le_trans (le_of_eq (sym (mul-one (count p)))) (le_trans (count_most 1 0 (series_near 0).ok (series_near 0).range.most) (le_of_eq (one-mul U)))

      small : (x y v W : ℕ) → 0 < v → x ≤ 2 * v → y ≤ v → 2 * v < W → x * y < W * v
      small x y v W p h g l = lt_of_le_of_lt (mul-le-mul h g) (mul-lt-mul_of_pos_right l p)

      product : Result (count r * count p) U 1022 (r ⊗ p)
      product = mul_off 1022 (lit≤ tt) hr (series_near 0).ok (small (count r) (count p) U (2 ^ (53 + suc 1022)) (pow_pos 1074) r_most p_most (lit≤ tt))

      go : (y r p v e : ℕ) → y * v ≤ r * p + e * v → p ≤ v → y * v ≤ (r + e) * v
      go y r p v e h l = let x : r * p ≤ r * v = mul-le-mul_left r l in omega (arith, h, x)

  pub sum_most : (N : ℕ) → A N ≤ bottom sine_steps Y N
  sum_most N = le_trans (run_most sine_steps Z Y N 1 1 (lit≤ tt)) (le_of_eq (bottom_is N))
