-- Of all f64, `sqrt x` is the one nearest to the exact root of x, and no other is as near. Assumes nothing.
use mathlib.Core.Path.{◌≡◌, refl, sym, ap, ◌∙◌, subst}
use mathlib.Core.Logic.{◌⊎◌, inl, inr}
use Prim.Native.Nat.{ℕ, zero, suc, ◌+◌, ◌-◌, ◌*◌, ◌%◌, ◌^◌, ◌≤◌, ◌<◌, zero-le}
use native.Mathlib.Nat.{le_trans, le_of_eq, le_of_lt, le_of_suc-le-suc, lt_of_lt_of_le, lt_of_le_of_lt, not-le_of_lt, lt_irrefl, eq-or-lt_of_le, mul-one, mul_assoc, mul_comm, mul-mul-mul_comm, mul-le-mul, mul-le-mul_left, mul-le-mul_right, eq-zero-or-pos, mul-lt-mul_of_pos_right, lt_of_mul-lt-mul_right, le_of_mul-le-mul_right, eq_of_mul-eq-mul_right, mul-pos, pow-succ'}
use native.Mathlib.Omega.{arith}
use mathlib.Core.Bool.{Bool, true, false, not, cond}
use lib.Dec.{T, leb, ltb, leb→le, ltb→lt, nleb→lt}
use lib.Arith.{lt_of_le-ne}
use lib.Pow.{pow-add, pow_pos, pow_mono}
use lib.Ieee.{Float, inf, Format, binary64, prec, low, odd, units, fits}
use lib.Ieee.Exact.{HasValue, units_val}
use lib.Ieee.Fits.{two, two-le_pos}
use lib.Ieee.Scale.{finite, overflow}
use lib.Ieee.Positive.{num, den, den_pos, positive, positive-finite, first_pos, value_pos}
use Rattle.ieee.specs.Count.{count}
use Rattle.ieee.specs.Range.{plus}
use Rattle.ieee.proofs.Count.{count_of}
use Rattle.ieee.proofs.Range.Round.{value_cross}
use Rattle.ieee.proofs.Range.Laws.{plus_finite}
use Rattle.ieee.proofs.Range.Values.{split_pow, Whole, whole}
use Rattle.math_root.specs.Root.{mid_square, square_root, sqrt}
use Rattle.math_root.specs.Nearest.{square, Nearest}
use Rattle.math_root.proofs.Closest.{Half, closest_root_half, closest_root_same}
use Rattle.math_root.proofs.Grid.{root_drop, root_kept, round_root_is, root_reaches, kept_ge}
use Rattle.math_root.proofs.Laws.{square_root_is, square_root_fits, square_root_positive}

-- ---- an odd s with s * 2 ^ a = m * 2 ^ b is no more than m, and b is no more than a
no_lower : (s m a b : ℕ) → s % 2 ≡ 1 → a < b → s * 2 ^ a ≡ m * 2 ^ b → ⊥
no_lower s m a b o h e = even s m (2 ^ (b - suc a)) o (eq_of_mul-eq-mul_right (2 ^ a) (pow_pos a) s (m * (2 * 2 ^ (b - suc a))) (e ∙ split_pow m a b (le_of_lt h) ∙ ap (λ (z : ℕ). m * 2 ^ z * 2 ^ a) (step a b h) ∙ ap (λ (z : ℕ). m * z * 2 ^ a) (pow-succ' 2 (b - suc a))))
  where
    step : (a b : ℕ) → a < b → b - a ≡ suc (b - suc a)
    step a b h = omega arith

    even : (s m c : ℕ) → s % 2 ≡ 1 → s ≡ m * (2 * c) → ⊥
    even s m c o e = omega arith

odd_le : (s m a b : ℕ) → s % 2 ≡ 1 → s * 2 ^ a ≡ m * 2 ^ b → s ≤ m
odd_le s m a b o e = go (leb b a) (leb→le b a) (nleb→lt b a)
  where
    go : (c : Bool) → (T c → b ≤ a) → (T (not c) → a < b) → s ≤ m
    go true h k =
        le_trans (le_of_eq (sym (mul-one s)))
        (le_trans (mul-le-mul_left s (pow_pos (a - b)))
        (le_of_eq (eq_of_mul-eq-mul_right (2 ^ b) (pow_pos b) (s * 2 ^ (a - b)) m (sym (split_pow s b a (h tt)) ∙ e))))
    go false h k = absurd (no_lower s m a b o (k tt) e)

odd_square : (g : ℕ) → mid_square g % 2 ≡ 1
odd_square g = omega arith

-- ---- no tie: the square of (2 * a + 1) / 2 * 2 ^ k is not m * 2 ^ t, for an m of p digits
no_tie : (p m t k a : ℕ) → m < 2 ^ p → (0 < k → 2 ^ p ≤ mid_square a) → mid_square a * (2 ^ k * 2 ^ k) ≡ 4 * (m * 2 ^ t) → ⊥
no_tie p m t k a few big e =
    let s = mid_square a in
    let d : s * 2 ^ (k + k) ≡ m * 2 ^ (t + 2) = ap (λ (z : ℕ). s * z) (pow-add 2 k k) ∙ e ∙ four m (2 ^ t) ∙ ap (λ (z : ℕ). m * z) (sym (pow-add 2 t 2)) in
    elim (eq-zero-or-pos k) [
      | inl z ↦ no_lower s m (k + k) (t + 2) (odd_square a) (none k t z) d
      | inr K ↦ not-le_of_lt (lt_of_lt_of_le few (big K)) (odd_le s m (k + k) (t + 2) (odd_square a) d)
    ]
  where
    four : (m u : ℕ) → 4 * (m * u) ≡ m * (u * 4)
    four m u = omega arith

    none : (k t : ℕ) → k ≡ 0 → k + k < t + 2
    none k t e = omega arith

-- ---- in whole numbers: the root of N = m * 2 ^ t is kept as q * 2 ^ k, with q = g + 1, and m has p digits
module _ (p m t k g : ℕ) (P : 2 ≤ p) (few : m < 2 ^ p) (half : Half (m * 2 ^ t) (2 ^ k * 2 ^ k) (suc g)) (big : 0 < k → 2 ^ (p - 1) ≤ suc g) where
  -- the root lies strictly between the midpoints q - 1 / 2 and q + 1 / 2
  digits : 0 < k → 2 ^ p ≤ 2 * suc g
  digits K = le_trans (le_of_eq (ap (λ (z : ℕ). 2 ^ z) (step p P) ∙ pow-succ' 2 (p - 1))) (mul-le-mul_left 2 (big K))
    where
      step : (p : ℕ) → 2 ≤ p → p ≡ suc (p - 1)
      step p h = omega arith

  low_end : mid_square g * (2 ^ k * 2 ^ k) < 4 * (m * 2 ^ t)
  low_end =
      lt_of_le-ne (subst (λ (z : ℕ). z * z * (2 ^ k * 2 ^ k) ≤ 4 * (m * 2 ^ t)) (odd g) half.0)
      (no_tie p m t k g few (λ (K : 0 < k). at_least g (2 ^ p) (le_trans (pow_mono P) (le_of_eq refl)) (digits K)))
    where
      odd : (g : ℕ) → 2 * suc g - 1 ≡ 2 * g + 1
      odd g = omega arith

      at_least : (g y : ℕ) → 4 ≤ y → y ≤ 2 * suc g → y ≤ mid_square g
      at_least g y f h = omega arith

  high_end : 4 * (m * 2 ^ t) < mid_square (suc g) * (2 ^ k * 2 ^ k)
  high_end = lt_of_le-ne half.1 (λ (e : 4 * (m * 2 ^ t) ≡ mid_square (suc g) * (2 ^ k * 2 ^ k)). no_tie p m t k (suc g) few (λ (K : 0 < k). at_least g (2 ^ p) (digits K)) (sym e))
    where
      at_least : (g y : ℕ) → y ≤ 2 * suc g → y ≤ mid_square (suc g)
      at_least g y h = omega arith

  -- a value n * 2 ^ i of few digits with a smaller unit is below 2 ^ (p - 1) * 2 ^ k
  finer : (n i : ℕ) → n < 2 ^ p → i < k → n * 2 ^ i < 2 ^ (p - 1) * 2 ^ k
  finer n i N h =
      lt_of_lt_of_le (mul-lt-mul_of_pos_right N (pow_pos i))
      (le_trans (le_of_eq (sym (pow-add 2 p i))) (le_trans (pow_mono (room p i k P h)) (le_of_eq (pow-add 2 (p - 1) k))))
    where
      room : (p i k : ℕ) → 2 ≤ p → i < k → p + i ≤ p - 1 + k
      room p i k P h = omega arith

  -- a larger value is larger by a whole unit
  next : (n i : ℕ) → n < 2 ^ p → suc g * 2 ^ k < n * 2 ^ i → suc (suc g) * 2 ^ k ≤ n * 2 ^ i
  next n i N h = go (leb k i) (leb→le k i) (nleb→lt k i)
    where
      go : (c : Bool) → (T c → k ≤ i) → (T (not c) → i < k) → suc (suc g) * 2 ^ k ≤ n * 2 ^ i
      go true a b =
          let e = split_pow n k i (a tt) in
          le_trans (mul-le-mul_right (2 ^ k) (lt_of_mul-lt-mul_right (2 ^ k) (lt_of_lt_of_le h (le_of_eq e)))) (le_of_eq (sym e))
      go false a b = absurd (not-le_of_lt h (le_trans (le_of_lt (finer n i N (b tt))) (mul-le-mul_right (2 ^ k) (big (lt_of_le_of_lt zero-le (b tt))))))

  -- a smaller value is smaller by a whole unit, or q is the smallest number of p digits
  last : (n i : ℕ) → n < 2 ^ p → n * 2 ^ i < suc g * 2 ^ k → (n * 2 ^ i ≤ g * 2 ^ k) ⊎ ((0 < k) × (2 ^ (p - 1) ≡ suc g))
  last n i N h = go (leb k i) (leb→le k i) (nleb→lt k i)
    where
      go : (c : Bool) → (T c → k ≤ i) → (T (not c) → i < k) → (n * 2 ^ i ≤ g * 2 ^ k) ⊎ ((0 < k) × (2 ^ (p - 1) ≡ suc g))
      go true a b =
          let e = split_pow n k i (a tt) in
          inl (le_trans (le_of_eq e) (mul-le-mul_right (2 ^ k) (le_of_suc-le-suc (lt_of_mul-lt-mul_right (2 ^ k) (lt_of_le_of_lt (le_of_eq (sym e)) h)))))
      go false a b =
          let K : 0 < k = lt_of_le_of_lt zero-le (b tt) in
          elim (eq-or-lt_of_le (big K)) [
            | inl e ↦ inr (K, e)
            | inr l ↦ inl (le_trans (le_of_lt (finer n i N (b tt))) (mul-le-mul_right (2 ^ k) (le_of_suc-le-suc l)))
          ]

  larger_whole : (n i : ℕ) → n < 2 ^ p → suc g * 2 ^ k < n * 2 ^ i → 4 * (m * 2 ^ t) < square (suc g * 2 ^ k + n * 2 ^ i)
  larger_whole n i N h = lt_of_lt_of_le high_end (le_trans (le_of_eq (mul-mul-mul_comm (2 * suc g + 1) (2 * suc g + 1) (2 ^ k) (2 ^ k))) (mul-le-mul a a))
    where
      sum : (g K v : ℕ) → suc (suc g) * K ≤ v → (2 * suc g + 1) * K ≤ suc g * K + v
      sum g K v h = omega arith

      a : (2 * suc g + 1) * 2 ^ k ≤ suc g * 2 ^ k + n * 2 ^ i
      a = sum g (2 ^ k) (n * 2 ^ i) (next n i N h)

  smaller_whole : (0 < k → square (2 ^ (p - 1) * 2 ^ k) ≤ m * 2 ^ t) → (n i : ℕ) → n < 2 ^ p → n * 2 ^ i < suc g * 2 ^ k → square (suc g * 2 ^ k + n * 2 ^ i) < 4 * (m * 2 ^ t)
  smaller_whole reach n i N h = elim (last n i N h) [
    | inl l ↦ lt_of_le_of_lt (le_trans (mul-le-mul (sum g (2 ^ k) (n * 2 ^ i) l) (sum g (2 ^ k) (n * 2 ^ i) l)) (le_of_eq (mul-mul-mul_comm (2 * g + 1) (2 ^ k) (2 * g + 1) (2 ^ k)))) low_end
    | inr e ↦ twice (suc g * 2 ^ k) (n * 2 ^ i) (m * 2 ^ t) h (subst (λ (z : ℕ). square (z * 2 ^ k) ≤ m * 2 ^ t) e.1 (reach e.0))
  ]
    where
      sum : (g K v : ℕ) → v ≤ g * K → suc g * K + v ≤ (2 * g + 1) * K
      sum g K v h = omega arith

      twice : (r v N : ℕ) → v < r → r * r ≤ N → (r + v) * (r + v) < 4 * N
      twice r v N h e =
          let a : suc (r + v) * suc (r + v) ≤ (r + r) * (r + r) = mul-le-mul (less r v h) (less r v h) in
          omega arith
        where
          less : (r v : ℕ) → v < r → suc (r + v) ≤ r + r
          less r v h = omega arith

-- ---- on floats: r is q * 2 ^ k smallest values
units_under : (f : Format) (q k : ℕ) → T (finite (units f false q k)) → q * 2 ^ k < overflow f
unfolding units
units_under f q k = go (ltb (q * 2 ^ k) (overflow f)) (ltb→lt (q * 2 ^ k) (overflow f))
  where
    go : (b : Bool) → (T b → q * 2 ^ k < overflow f) → T (finite (cond b (odd (suc (prec f)) false q k (low f)) (inf false))) → q * 2 ^ k < overflow f
    go true h t = h tt
    go false h t = absurd t

larger_at : (p m t k q : ℕ) → 2 ≤ p → m < 2 ^ p → Half (m * 2 ^ t) (2 ^ k * 2 ^ k) q → (0 < k → 2 ^ (p - 1) ≤ q) → 0 < q
    → (n i : ℕ) → n < 2 ^ p → q * 2 ^ k < n * 2 ^ i → 4 * (m * 2 ^ t) < square (q * 2 ^ k + n * 2 ^ i)
larger_at p m t k zero P few half big Q = absurd (lt_irrefl 0 Q)
larger_at p m t k (suc g) P few half big Q = larger_whole p m t k g P few half big

smaller_at : (p m t k q : ℕ) → 2 ≤ p → m < 2 ^ p → Half (m * 2 ^ t) (2 ^ k * 2 ^ k) q → (0 < k → 2 ^ (p - 1) ≤ q) → 0 < q → (0 < k → square (2 ^ (p - 1) * 2 ^ k) ≤ m * 2 ^ t)
    → (n i : ℕ) → n < 2 ^ p → n * 2 ^ i < q * 2 ^ k → square (q * 2 ^ k + n * 2 ^ i) < 4 * (m * 2 ^ t)
smaller_at p m t k zero P few half big Q = absurd (lt_irrefl 0 Q)
smaller_at p m t k (suc g) P few half big Q = smaller_whole p m t k g P few half big

module _ (f : Format) (x : Float) (hx : T (fits f x)) (px : T (positive x)) where
  w : Whole f x
  w = whole f x (positive-finite x px) hx

  n : ℕ
  n = num x * 2 ^ low f * 2 ^ low f

  k : ℕ
  k = root_drop (prec f) n (den x)

  q : ℕ
  q = root_kept (prec f) n (den x)

  -- x in squared units: n / den x is the whole number m * 2 ^ t
  t : ℕ
  t = w.j + low f

  n_is : n ≡ w.m * 2 ^ t * den x
  unfolding n t
  n_is = ap (λ (z : ℕ). z * 2 ^ low f) w.is ∙ turn w.m (2 ^ w.j) (den x) (2 ^ low f) ∙ ap (λ (z : ℕ). w.m * z * den x) (sym (pow-add 2 w.j (low f)))
    where
      turn : (m u d l : ℕ) → m * u * d * l ≡ m * (u * l) * d
      turn m u d l = simp (mul_assoc, mul_comm)

  root_half : Half (w.m * 2 ^ t) (2 ^ k * 2 ^ k) q
  unfolding k q
  root_half =
      let K = 2 ^ k in
      let N = w.m * 2 ^ t in
      subst (λ (z : ℕ). Half N (K * K) z)
      (sym (closest_root_same n (den x * K * K) N (K * K) (mul-pos (mul-pos (den_pos x) (pow_pos k)) (pow_pos k)) (mul-pos (pow_pos k) (pow_pos k)) (ap (λ (z : ℕ). z * (K * K)) n_is ∙ turn N (den x) K)))
      (closest_root_half N (K * K) (mul-pos (pow_pos k) (pow_pos k)))
    where
      turn : (N d K : ℕ) → N * d * (K * K) ≡ N * (d * K * K)
      turn N d K = simp mul_assoc

  root_units : square_root f x ≡ units f false q k
  unfolding k q n
  root_units = square_root_is f x px ∙ round_root_is f (num x) (den x)

  root_value : HasValue (square_root f x) false (q * 2 ^ k) (2 ^ low f)
  root_value =
      subst (λ (r : Float). HasValue r false (q * 2 ^ k) (2 ^ low f)) (sym root_units)
      (units_val f false q k (units_under f q k (subst (λ (r : Float). T (finite r)) root_units (positive-finite (square_root f x) (square_root_positive f x hx px)))))

  kept_pos : 0 < q
  kept_pos = first_pos q (2 ^ k) (value_pos (square_root f x) (q * 2 ^ k) (2 ^ low f) (square_root_positive f x hx px) (pow_pos (low f)) root_value)

  kept_big : 0 < k → 2 ^ (prec f - 1) ≤ q
  unfolding k q
  kept_big K = kept_ge (prec f) n (den x) (two-le_pos (prec f) (two f)) (den_pos x) K

  reaches : 0 < k → square (2 ^ (prec f - 1) * 2 ^ k) ≤ w.m * 2 ^ t
  unfolding k
  reaches K = le_of_mul-le-mul_right (le_trans (root_reaches (prec f) n (den x) (two-le_pos (prec f) (two f)) K) (le_of_eq n_is)) (den_pos x)

  larger_held : (v : Float) (u : Whole f v) → q * 2 ^ k < u.m * 2 ^ u.j → 4 * (w.m * 2 ^ t) < square (q * 2 ^ k + u.m * 2 ^ u.j)
  larger_held v u h = larger_at (prec f) w.m t k q (two f) w.few root_half kept_big kept_pos u.m u.j u.few h

  smaller_held : (v : Float) (u : Whole f v) → u.m * 2 ^ u.j < q * 2 ^ k → square (q * 2 ^ k + u.m * 2 ^ u.j) < 4 * (w.m * 2 ^ t)
  smaller_held v u h = smaller_at (prec f) w.m t k q (two f) w.few root_half kept_big kept_pos reaches u.m u.j u.few h

-- ---- in counts
sums : (R r W v : ℕ) → R ≡ r → W ≡ v → R + W ≡ r + v
sums R r W v b c = ap (λ (z : ℕ). z + W) b ∙ ap (λ (z : ℕ). r + z) c

larger_by : (A X R r W v : ℕ) → A ≡ X → R ≡ r → W ≡ v → (R < W → 4 * A < square (R + W)) → r < v → 4 * X < square (r + v)
larger_by A X R r W v a b c f h =
    subst (λ (z : ℕ). 4 * z < square (r + v)) a
    (subst (λ (z : ℕ). 4 * A < square z) (sums R r W v b c) (f (subst (λ (z : ℕ). R < z) (sym c) (subst (λ (z : ℕ). z < v) (sym b) h))))

smaller_by : (A X R r W v : ℕ) → A ≡ X → R ≡ r → W ≡ v → (W < R → square (R + W) < 4 * A) → v < r → square (r + v) < 4 * X
smaller_by A X R r W v a b c f h =
    subst (λ (z : ℕ). square (r + v) < 4 * z) a
    (subst (λ (z : ℕ). square z < 4 * A) (sums R r W v b c) (f (subst (λ (z : ℕ). z < R) (sym c) (subst (λ (z : ℕ). v < z) (sym b) h))))

module _ (x : Float) (hx : T (fits binary64 x)) (px : T (positive x)) where
  x_count : (w binary64 x hx px).m * 2 ^ t binary64 x hx px ≡ count x * 2 ^ 1074
  unfolding t
  x_count =
      let u = w binary64 x hx px in
      ap (λ (z : ℕ). u.m * z) (pow-add 2 u.j 1074) ∙ sym (mul_assoc u.m (2 ^ u.j) (2 ^ 1074)) ∙ ap (λ (z : ℕ). z * 2 ^ 1074) (sym (count_of x (u.m * 2 ^ u.j) u.is))

  root_count : q binary64 x hx px * 2 ^ k binary64 x hx px ≡ count (sqrt x)
  root_count = let g = q binary64 x hx px * 2 ^ k binary64 x hx px in sym (count_of (sqrt x) g (value_cross (sqrt x) false g (2 ^ low binary64) (root_value binary64 x hx px)))

  module _ (v : Float) (hv : T (fits binary64 v)) (pv : T (plus v)) where
    v_whole : Whole binary64 v
    v_whole = whole binary64 v (plus_finite v pv) hv

    v_count : v_whole.m * 2 ^ v_whole.j ≡ count v
    v_count = sym (count_of v (v_whole.m * 2 ^ v_whole.j) v_whole.is)

    larger : count (sqrt x) < count v → 4 * (count x * 2 ^ 1074) < square (count (sqrt x) + count v)
    larger h =
        larger_by ((w binary64 x hx px).m * 2 ^ t binary64 x hx px) (count x * 2 ^ 1074) (q binary64 x hx px * 2 ^ k binary64 x hx px) (count (sqrt x)) (v_whole.m * 2 ^ v_whole.j) (count v)
        x_count root_count v_count (larger_held binary64 x hx px v v_whole) h

    smaller : count v < count (sqrt x) → square (count (sqrt x) + count v) < 4 * (count x * 2 ^ 1074)
    smaller h =
        smaller_by ((w binary64 x hx px).m * 2 ^ t binary64 x hx px) (count x * 2 ^ 1074) (q binary64 x hx px * 2 ^ k binary64 x hx px) (count (sqrt x)) (v_whole.m * 2 ^ v_whole.j) (count v)
        x_count root_count v_count (smaller_held binary64 x hx px v v_whole) h

pub root_is_nearest : (x : Float) → T (fits binary64 x) → T (positive x) → Nearest x (sqrt x)
root_is_nearest x hx px = record { held = square_root_fits binary64 x hx; above = square_root_positive binary64 x hx px; larger = larger x hx px; smaller = smaller x hx px }
