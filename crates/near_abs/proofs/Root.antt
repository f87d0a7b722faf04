-- The square root's law of absolute error, for x up to 1. Assumes nothing.
use mathlib.Core.Path.{◌≡◌, refl, sym, ap, ◌∙◌, subst}
use Prim.Native.Nat.{ℕ, zero, suc, ◌+◌, ◌-◌, ◌*◌, ◌/◌, ◌^◌, ◌≤◌, ◌<◌}
use native.Mathlib.Nat.{le_refl, le_trans, le_of_eq, le_of_lt, lt_of_le_of_lt, lt_of_lt_of_le, lt_of_not-le, mul_comm, mul_assoc, mul_left_comm, mul_right_comm, mul-le-mul, mul-le-mul_left, mul-le-mul_right, le_of_mul-le-mul_right, mul-pos, mul-div_cancel, pow-succ'}
use native.Mathlib.Decide.{dec_le}
use native.Mathlib.Omega.{arith}
use mathlib.Core.Bool.{false}
use lib.Dec.{T, lit≤}
use lib.Pow.{pow_pos, pow_mono}
use lib.Ieee.{Float, binary64, low, size, units, fits}
use lib.Ieee.Digits.{size-le}
use lib.Ieee.Exact.{HasValue, units_val}
use lib.Ieee.Scale.{overflow}
use lib.Ieee.Positive.{num, den, den_pos, positive, positive-finite}
use Rattle.ieee.specs.Count.{count}
use Rattle.ieee.proofs.Count.{count_is, count_of}
use Rattle.ieee.proofs.Range.Round.{value_cross}
use Rattle.math_root.specs.Root.{mid_square, isqrt, sqrt}
use Rattle.math_root.proofs.Closest.{isqrt_below, Half, closest_root_half}
use Rattle.math_root.proofs.Grid.{root_drop, root_kept, kept_le, round_root_is}
use Rattle.math_root.proofs.Laws.{square_root_is, square_root_fits, square_root_positive}
use Rattle.near_abs.specs.Off.{Within}
use Rattle.near_abs.proofs.Counts.{U, Held}

-- (R - H)² ≤ X-as-U ≤ (R + H)², for counts
pub record Rooted (H : ℕ) (x r : Float) : Type 0 where
  pub ok : Held r
  pub least : (count r - H) * (count r - H) ≤ count x * U
  pub most : count x * U ≤ (count r + H) * (count r + H)

pub rooted : (x : Float) → T (fits binary64 x) → T (positive x) → count x ≤ U → Rooted (2 ^ 1021) x (sqrt x)
rooted x h p m =
    let n = num x * U * U in
    let d = den x in
    let k = root_drop 53 n d in
    let q = root_kept 53 n d in
    let ci = count_is x h (positive-finite x p) in
    let e : n / d ≡ count x * U = ap (λ (z : ℕ). z / d) (count_n (num x) U (count x) d ci) ∙ mul-div_cancel (count x * U) (den_pos x) in
    let small : isqrt (n / d) < suc U = isqrt_below (n / d) (suc U) (subst (λ (z : ℕ). z < suc U * suc U) (sym e) (lt_of_le_of_lt (mul-le-mul_right U m) (square_up U))) in
    let kl : k ≤ 1022 = short (size (isqrt (n / d))) (size-le (isqrt (n / d)) 1075 (lt_of_lt_of_le small (lit≤ {m = suc U} {n = 2 ^ 1075} tt))) in
    let v : HasValue (units binary64 false q k) false (q * 2 ^ k) (2 ^ low binary64) = units_val binary64 false q k (lt_of_le_of_lt (mul-le-mul (kept_le 53 n d (den_pos x)) (pow_mono kl)) (lit≤ {m = suc (2 ^ 53 * 2 ^ 1022)} {n = overflow binary64} tt)) in
    let r = sqrt x in
    let ri : r ≡ units binary64 false q k = square_root_is binary64 x p ∙ round_root_is binary64 (num x) (den x) in
    let cr : count r ≡ q * 2 ^ k = ap count ri ∙ count_of (units binary64 false q k) (q * 2 ^ k) (value_cross (units binary64 false q k) false (q * 2 ^ k) U v) in
    let hf : Half n (d * 2 ^ k * 2 ^ k) q = closest_root_half n (d * 2 ^ k * 2 ^ k) (mul-pos (mul-pos (den_pos x) (pow_pos k)) (pow_pos k)) in
    let hm : 2 ^ k ≤ 2 * 2 ^ 1021 = le_trans (pow_mono kl) (le_of_eq (pow-succ' 2 1021)) in
    record {
      ok = record { fine = positive-finite r (square_root_positive binary64 x h p); held = square_root_fits binary64 x h };
      least = subst (λ (c : ℕ). (c - 2 ^ 1021) * (c - 2 ^ 1021) ≤ count x * U) (sym cr) (low_side q (2 ^ k) d n (count x * U) (2 ^ 1021) (den_pos x) (count_n (num x) U (count x) d ci) hf.0 hm);
      most = subst (λ (c : ℕ). count x * U ≤ (c + 2 ^ 1021) * (c + 2 ^ 1021)) (sym cr) (high_side q (2 ^ k) d n (count x * U) (2 ^ 1021) (den_pos x) (count_n (num x) U (count x) d ci) hf.1 hm);
    }
  where
    square_up : (u : ℕ) → u * u < suc u * suc u
    square_up u = omega arith

    short : (z : ℕ) → z ≤ 1075 → z - 53 ≤ 1022
    short z h = omega (arith, h)

    count_n : (n u c d : ℕ) → c * d ≡ n * u → n * u * u ≡ c * u * d
    count_n n u c d e = ap (λ (z : ℕ). z * u) (sym e) ∙ mul_right_comm c d u

    quarter : (a b : ℕ) → 2 * a * (2 * a) ≤ 4 * b → a * a ≤ b
    quarter a b h = omega (arith, h)

    quarter' : (a b : ℕ) → 4 * b ≤ 2 * a * (2 * a) → b ≤ a * a
    quarter' a b h = omega (arith, h)

    low_side : (q K d n X H : ℕ) → 0 < d → n ≡ X * d → (2 * q - 1) * (2 * q - 1) * (d * K * K) ≤ 4 * n → K ≤ 2 * H → (q * K - H) * (q * K - H) ≤ X
    low_side q K d n X H D e h m =
        let f : (2 * q - 1) * K * ((2 * q - 1) * K) * d ≤ 4 * X * d = le_trans (le_of_eq (one (2 * q - 1) K d)) (le_trans h (le_of_eq (ap (λ (z : ℕ). 4 * z) e ∙ sym (mul_assoc 4 X d)))) in
        quarter (q * K - H) X (le_trans (mul-le-mul (two q K H m) (two q K H m)) (le_of_mul-le-mul_right f D))
      where
        one : (a K d : ℕ) → a * K * (a * K) * d ≡ a * a * (d * K * K)
        one a K d = simp (mul_assoc, mul_comm, mul_left_comm)

        two : (q K H : ℕ) → K ≤ 2 * H → 2 * (q * K - H) ≤ (2 * q - 1) * K
        two zero K H m = omega arith
        two (suc q) K H m = le_trans (three (q * K) K H m) (le_of_eq (ap (λ (z : ℕ). z * K) (sym (five q)) ∙ ap (λ (z : ℕ). z * K) refl))
          where
            five : (q : ℕ) → 2 * suc q - 1 ≡ 2 * q + 1
            five q = omega arith

            three : (y K H : ℕ) → K ≤ 2 * H → 2 * (suc q * K - H) ≤ (2 * q + 1) * K
            three y K H m = omega (arith, m)

    high_side : (q K d n X H : ℕ) → 0 < d → n ≡ X * d → 4 * n ≤ mid_square q * (d * K * K) → K ≤ 2 * H → X ≤ (q * K + H) * (q * K + H)
    high_side q K d n X H D e h m =
        let f : 4 * X * d ≤ (2 * q + 1) * K * ((2 * q + 1) * K) * d = le_trans (le_of_eq (mul_assoc 4 X d ∙ ap (λ (z : ℕ). 4 * z) (sym e))) (le_trans h (le_of_eq (sym (one (2 * q + 1) K d)))) in
        quarter' (q * K + H) X (le_trans (le_of_mul-le-mul_right f D) (mul-le-mul (two q K H m) (two q K H m)))
      where
        one : (a K d : ℕ) → a * K * (a * K) * d ≡ a * a * (d * K * K)
        one a K d = simp (mul_assoc, mul_comm, mul_left_comm)

        two : (q K H : ℕ) → K ≤ 2 * H → (2 * q + 1) * K ≤ 2 * (q * K + H)
        two q K H m = omega (arith, m)

-- ---- the distance of two numbers from that of their squares
pub roots_apart : (a b d g : ℕ) → a * a ≤ b * b + d → d ≤ g * (a + b) → a ≤ b + g
roots_apart a b d g h l = go (dec_le a (b + g))
  where
    never : (b g x : ℕ) → (b + g + suc x) * (b + g + suc x) ≤ b * b + g * (b + g + suc x + b) → ⊥
    never b g x h = omega (arith, h)

    split : (a c : ℕ) → c < a → a ≡ c + suc (a - suc c)
    split a c h = omega (arith, h)

    go : Dec (a ≤ b + g) → a ≤ b + g
    go (yes y) = y
    go (no n) =
        let e : a ≡ b + g + suc (a - suc (b + g)) = split a (b + g) (lt_of_not-le n) in
        absurd (never b g (a - suc (b + g)) (subst (λ (z : ℕ). z * z ≤ b * b + g * (z + b)) e (le_trans h (up (b * b) d (g * (a + b)) l))))
      where
        up : (x d y : ℕ) → d ≤ y → x + d ≤ x + y
        up x d y h = omega (arith, h)

finish : (a b c s L g e H : ℕ) → 8 * a ≤ 9 * e * s → b ≤ H * s → 8 * c ≤ 9 * H * s → 25 * H + 9 * e ≤ 8 * g → (a + 2 * b + c) * L * 8 ≤ g * L * s * 8
finish a b c s L g e H x y z h =
    let k : (25 * H + 9 * e) * s ≤ 8 * g * s = mul-le-mul_right s h in
    let m : (a + 2 * b + c) * 8 ≤ 8 * g * s = omega (arith, x, y, z, k) in
    let n : (a + 2 * b + c) * 8 * L ≤ 8 * g * s * L = mul-le-mul_right L m in
    omega (arith, n)

-- ---- the root, from x within e of (T / L)²; both roots are 4 / 9 at least
module _ (u R X t L e H g : ℕ) (low : (R - H) * (R - H) ≤ X * u) (high : X * u ≤ (R + H) * (R + H)) (w : Within (e * (L * L)) (X * (L * L)) (t * t * u)) (rl : 4 * u ≤ 9 * R) (tl : 4 * L ≤ 9 * t) (hu : H ≤ u) (enough : 25 * H + 9 * e ≤ 8 * g) where
  unfoldable S : ℕ
  S = R * L + t * u

  -- the squares differ by so much at most
  unfoldable d : ℕ
  d = (e * u + 2 * (R * H) + H * H) * (L * L)

  R_most : R * R ≤ X * u + 2 * (R * H)
  R_most = go (dec_le H R)
    where
      split : (R H : ℕ) → H ≤ R → R ≡ R - H + H
      split R H h = omega (arith, h)

      in_one : (k H : ℕ) → (k + H) * (k + H) ≤ k * k + 2 * ((k + H) * H)
      in_one k H = omega arith

      two : (a b c : ℕ) → a ≤ b → a + c ≤ b + c
      two a b c h = omega (arith, h)

      small : (R H : ℕ) → R ≤ H → R * R ≤ X * u + 2 * (R * H)
      small R H h = let a : R * R ≤ R * H = mul-le-mul_left R h in omega (arith, a)

      go : Dec (H ≤ R) → R * R ≤ X * u + 2 * (R * H)
      go (yes h) = le_trans (subst (λ (z : ℕ). z * z ≤ (R - H) * (R - H) + 2 * (z * H)) (sym (split R H h)) (in_one (R - H) H)) (two ((R - H) * (R - H)) (X * u) (2 * (R * H)) low)
      go (no h) = small R H (le_of_lt (lt_of_not-le h))

  up : R * L * (R * L) ≤ t * u * (t * u) + d
  unfolding d
  up =
      let a : R * R * (L * L) ≤ (X * u + 2 * (R * H)) * (L * L) = mul-le-mul_right (L * L) R_most in
      let b : X * (L * L) * u ≤ (t * t * u + e * (L * L)) * u = mul-le-mul_right u w.most in
      go (R * R) (L * L) (X * u) (R * H) (t * t * u * u) (e * u) (H * H) (le_trans (le_of_eq (same R L)) (le_refl (R * R * (L * L)))) a (le_trans (le_of_eq (mul_right_comm X u (L * L))) (le_trans b (le_of_eq (spread (t * t * u) e (L * L) u)))) (twice t u)
    where
      same : (R L : ℕ) → R * L * (R * L) ≡ R * R * (L * L)
      same R L = simp (mul_assoc, mul_comm, mul_left_comm)

      twice : (t u : ℕ) → t * t * u * u ≡ t * u * (t * u)
      twice t u = simp (mul_assoc, mul_comm, mul_left_comm)

      spread : (a e l u : ℕ) → (a + e * l) * u ≡ a * u + e * u * l
      spread a e l u = omega arith

      go : {r T : ℕ} (RR LL Xu RH a eu HH : ℕ) → r ≤ RR * LL → RR * LL ≤ (Xu + 2 * RH) * LL → Xu * LL ≤ a + eu * LL → a ≡ T → r ≤ T + (eu + 2 * RH + HH) * LL
      go RR LL Xu RH a eu HH h i j k = omega (arith, h, i, j, k)

  down : t * u * (t * u) ≤ R * L * (R * L) + d
  unfolding d
  down =
      let b : t * t * u * u ≤ (X * (L * L) + e * (L * L)) * u = mul-le-mul_right u w.least in
      let a : X * u * (L * L) ≤ (R + H) * (R + H) * (L * L) = mul-le-mul_right (L * L) high in
      go (R * R) (L * L) (X * u) (R * H) (e * u) (H * H) (sym (twice t u)) (le_trans b (le_of_eq (spread X e (L * L) u))) (le_trans a (le_of_eq (squared R H (L * L)))) (same R L)
    where
      same : (R L : ℕ) → R * R * (L * L) ≡ R * L * (R * L)
      same R L = simp (mul_assoc, mul_comm, mul_left_comm)

      twice : (t u : ℕ) → t * t * u * u ≡ t * u * (t * u)
      twice t u = simp (mul_assoc, mul_comm, mul_left_comm)

      spread : (X e l u : ℕ) → (X * l + e * l) * u ≡ X * u * l + e * u * l
      spread X e l u = omega arith

      squared : (R H l : ℕ) → (R + H) * (R + H) * l ≡ (R * R + 2 * (R * H) + H * H) * l
      squared R H l = omega arith

      go : {T a r : ℕ} (RR LL Xu RH eu HH : ℕ) → T ≡ a → a ≤ Xu * LL + eu * LL → Xu * LL ≤ (RR + 2 * RH + HH) * LL → RR * LL ≡ r → T ≤ r + (eu + 2 * RH + HH) * LL
      go RR LL Xu RH eu HH h i j k = omega (arith, h, i, j, k)

  d_most : d ≤ g * L * S
  unfolding d S
  d_most = le_trans (le_of_eq (parts e u R H L)) (le_of_mul-le-mul_right (finish (e * u * L) (R * L * H) (H * H * L) S' L g e H first second third enough) (lit≤ {m = 1} {n = 8} tt))
    where
      S' : ℕ
      S' = R * L + t * u

      base : 8 * (u * L) ≤ 9 * S'
      base = let a : 4 * u * L ≤ 9 * R * L = mul-le-mul_right L rl in let b : 4 * L * u ≤ 9 * t * u = mul-le-mul_right u tl in go (R * L) (t * u) (u * L) (le_trans (le_of_eq (mul_assoc' 4 u L)) (le_trans a (le_of_eq (mul_assoc 9 R L)))) (le_trans (le_of_eq (one L u)) (le_trans b (le_of_eq (mul_assoc 9 t u))))
        where
          mul_assoc' : (a b c : ℕ) → a * (b * c) ≡ a * b * c
          mul_assoc' a b c = sym (mul_assoc a b c)

          one : (L u : ℕ) → 4 * (u * L) ≡ 4 * L * u
          one L u = omega arith

          go : (a b c : ℕ) → 4 * c ≤ 9 * a → 4 * c ≤ 9 * b → 8 * c ≤ 9 * (a + b)
          go a b c h i = omega (arith, h, i)

      first : 8 * (e * u * L) ≤ 9 * e * S'
      first = le_trans (le_of_eq (one e u L)) (le_trans (mul-le-mul_left e base) (le_of_eq (two e S')))
        where
          one : (e u L : ℕ) → 8 * (e * u * L) ≡ e * (8 * (u * L))
          one e u L = omega arith

          two : (e s : ℕ) → e * (9 * s) ≡ 9 * e * s
          two e s = omega arith

      second : R * L * H ≤ H * S'
      second = le_trans (le_of_eq (mul_comm (R * L) H)) (mul-le-mul_left H (more (R * L) (t * u)))
        where
          more : (a b : ℕ) → a ≤ a + b
          more a b = omega arith

      third : 8 * (H * H * L) ≤ 9 * H * S'
      third = le_trans (le_of_eq (one H L)) (le_trans (mul-le-mul_left (8 * H) (mul-le-mul_right L hu)) (le_trans (le_of_eq (two H u L)) (le_trans (mul-le-mul_left H base) (le_of_eq (three H S')))))
        where
          one : (H L : ℕ) → 8 * (H * H * L) ≡ 8 * H * (H * L)
          one H L = omega arith

          two : (H u L : ℕ) → 8 * H * (u * L) ≡ H * (8 * (u * L))
          two H u L = omega arith

          three : (H s : ℕ) → H * (9 * s) ≡ 9 * H * s
          three H s = omega arith

      parts : (e u R H L : ℕ) → (e * u + 2 * (R * H) + H * H) * (L * L) ≡ (e * u * L + 2 * (R * L * H) + H * H * L) * L
      parts e u R H L = omega arith

  -- |R·L - T·U| ≤ g·L
  pub root_off : Within (g * L) (R * L) (t * u)
  unfolding S
  root_off = record { most = roots_apart (R * L) (t * u) d (g * L) up d_most; least = roots_apart (t * u) (R * L) d (g * L) down (le_trans d_most (le_of_eq (ap (λ (z : ℕ). g * L * z) (swap (R * L) (t * u))))) }
    where
      swap : (a b : ℕ) → a + b ≡ b + a
      swap a b = omega arith
