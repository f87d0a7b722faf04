-- ((n·cos_i - m·cos_t) / (n·cos_i + m·cos_t))², operation by operation. Assumes nothing.
use mathlib.Core.Path.{◌≡◌, refl, sym, ap, ap₂, ◌∙◌, subst}
use Prim.Native.Nat.{ℕ, zero, suc, ◌+◌, ◌-◌, ◌*◌, ◌^◌, ◌≤◌, ◌<◌}
use native.Mathlib.Nat.{le_refl, le_trans, le_of_eq, lt_of_le_of_lt, lt_of_lt_of_le, mul-one, one-mul, mul_comm, mul_assoc, mul_left_comm, mul_right_comm, mul-le-mul, mul-le-mul_left, mul-le-mul_right, le_of_mul-le-mul_right, mul-lt-mul_of_pos_right, mul-pos, mul-sub, add-mul}
use native.Mathlib.Omega.{arith}
use mathlib.Core.Bool.{Bool, true, false, not}
use lib.Dec.{T, lit≤}
use lib.Pow.{pow_pos}
use lib.Ieee.{Float, nan, inf, fin, binary64, unlike, round, sum, lt, of_bits}
use lib.Ieee.Bits.{cond_no}
use lib.Ieee.Fits.{div-fits}
use lib.Ieee.Positive.{num, den, den_pos}
use lib.Ieee.Scale.{finite}
use Rattle.ieee.specs.Operators.{◌⊕◌, ◌⊖◌, ◌⊗◌, ◌⊘◌}
use Rattle.ieee.specs.Functions.{zero_f, one, abs, clamp}
use Rattle.ieee.specs.Range.{sgn, plus, In, Mag}
use Rattle.ieee.specs.Count.{count}
use Rattle.ieee.proofs.Count.{count_is}
use Rattle.ieee.proofs.Range.Laws.{plus_finite, plus_sgn, in_lit, in_mag, mul_in, sq_in, round_mag, div_is, add_is, sum_any}
use Rattle.ieee.proofs.Range.Constants.{one_in, zero_in}
use Rattle.ieee.proofs.Range.Sums.{add_in, sub_sum}
use Rattle.ieee.proofs.Range.Ratio.{under_round}
use Rattle.ieee.proofs.Range.Tests.{never_under, never_above, clamp_same}
use Rattle.ieee_near.specs.Index.{Index, gap}
use Rattle.ieee_near.proofs.Pair.{index_in}
use Rattle.near_abs.specs.Off.{Within}
use Rattle.near_abs.proofs.Within.{turn, chain, times, known, widen}
use Rattle.fresnel_tilted.proofs.Ratio.{ratio}
use Rattle.near_abs.proofs.Counts.{U, Held, count_most, count_least, Result, mul_off, div_off, add_off, sub_off}
use Rattle.near_abs.proofs.Laws.{Near, renamed}
use Rattle.fresnel.specs.Fresnel.{power, least_den}
use Rattle.fresnel_tilted.proofs.Refraction.{u, w, at_most, index_held, index_least, index_most}

-- ---- a difference is no larger than the sum, as rounded
like : (a b c : ℕ) → sum binary64 false a false b c ≡ round binary64 false (a + b) c
unfolding sum
like a b c = refl

pub less_sum : (x y : Float) → T (plus x) → T (plus y) → T (finite (x ⊕ y)) → num (x ⊖ y) * den (x ⊕ y) ≤ num (x ⊕ y) * den (x ⊖ y)
less_sum x y px py f =
    let a = num x * den y in
    let b = num y * den x in
    let c = den x * den y in
    let C = mul-pos (den_pos x) (den_pos y) in
    let s : x ⊕ y ≡ round binary64 false (a + b) c = add_is x y (plus_finite x px) (plus_finite y py) ∙ ap₂ (λ (s t : Bool). sum binary64 s a t b c) (plus_sgn x px) (plus_sgn y py) ∙ like a b c in
    subst (λ (z : Float). num (x ⊖ y) * den z ≤ num z * den (x ⊖ y)) (sym s)
    (subst (λ (z : Float). num z * den (round binary64 false (a + b) c) ≤ num (round binary64 false (a + b) c) * den z) (sym (sub_sum x y px py))
    (sum_any (λ (z : Float). num z * den (round binary64 false (a + b) c) ≤ num (round binary64 false (a + b) c) * den z) false a true b c
    (λ t n h. (under_round binary64 t n c (a + b) c C C (mul-le-mul_right c h) (subst (λ (z : Float). T (finite z)) s f)).1)))

-- from fractions to counts
pub cross : {x y : Float} → Held x → Held y → num x * den y ≤ num y * den x → count x ≤ count y
cross {x} {y} hx hy h = go (num x) (den x) (count x) (num y) (den y) (count y) U (mul-pos (den_pos x) (den_pos y)) (count_is x hx.held hx.fine) (count_is y hy.held hy.fine) h
  where
    go : (n d c m f e v : ℕ) → 0 < d * f → c * d ≡ n * v → e * f ≡ m * v → n * f ≤ m * d → c ≤ e
    go n d c m f e v P p q h =
        le_of_mul-le-mul_right
        (le_trans (le_of_eq (sym (mul_assoc c d f) ∙ ap (λ (z : ℕ). z * f) p ∙ mul_right_comm n v f)) (le_trans (mul-le-mul_right v h) (le_of_eq (mul_right_comm m d v ∙ ap (λ (z : ℕ). z * d) (sym q) ∙ mul_assoc e f d ∙ ap (λ (z : ℕ). e * z) (mul_comm f d)))))
        P

abs_plus : (z : Float) → T (plus z) → abs z ≡ z
unfolding abs
abs_plus nan p = absurd p
abs_plus (inf s) p = absurd p
abs_plus (fin true m e) p = absurd p
abs_plus (fin false m e) p = refl

-- ---- an index times a cosine, in proportion: h is the product's rounding, and e the cosine's error
share : (x N cc K C v w h e p : ℕ) → 0 < v → Within (h * v) (x * v) (N * cc) → Within (e * K) (cc * K) (C * v) → v ≤ N → (h + e) * K ≤ p * C → Within (p * (N * C * w)) (x * (v * K * w)) (N * C * w * v)
share x N cc K C v w h e p v0 a b l enough =
    let i : Within (h * v * K) (x * v * K) (N * cc * K) = times K a in
    let j : Within (e * K * N) (cc * K * N) (C * v * N) = times N b in
    widen most (known refl (one x v K w) (two N C v w) (times w (chain i (known refl (three N cc K) refl j))))
  where
    one : (x v K w : ℕ) → x * v * K * w ≡ x * (v * K * w)
    one x v K w = simp (mul_assoc)

    two : (N C v w : ℕ) → C * v * N * w ≡ N * C * w * v
    two N C v w = simp (mul_assoc, mul_comm, mul_left_comm)

    three : (N cc K : ℕ) → cc * K * N ≡ N * cc * K
    three N cc K = simp (mul_assoc, mul_comm, mul_left_comm)

    most : (h * v * K + e * K * N) * w ≤ p * (N * C * w)
    most =
        let i : h * K * v ≤ h * K * N = mul-le-mul_left (h * K) l in
        let j : (h + e) * K * N ≤ p * C * N = mul-le-mul_right N enough in
        le_trans (mul-le-mul_right w (go (h * v * K) (e * K * N) (h * K * v) (h * K * N) ((h + e) * K * N) (p * C * N) (mul_right_comm h v K) i (sum h e K N) j)) (le_of_eq (four p C N w))
      where
        sum : (h e K N : ℕ) → (h + e) * K * N ≡ h * K * N + e * K * N
        sum h e K N = omega arith

        four : (p C N w : ℕ) → p * C * N * w ≡ p * (N * C * w)
        four p C N w = simp (mul_assoc, mul_comm, mul_left_comm)

        go : (a b c d x y : ℕ) → a ≡ c → c ≤ d → x ≡ d + b → x ≤ y → a + b ≤ y
        go a b c d x y h i j k = omega (arith, h, i, j, k)

module _ (c t n m : Float) (i : Index n) (j : Index m) (C K T' L : ℕ) (ci : In 0 0 1 0 c) (cn : Near (98 * w) C K c) (cl : 100 * K ≤ 401 * C) (ti : In 115 8 1 0 t) (tn : Near (176 * u) T' L t) (tl : 4 * L ≤ 9 * T') where
  abbrev N : ℕ
  N = count n

  abbrev M : ℕ
  M = count m

  a_off : Result (N * count c) U 1023 (n ⊗ c)
  a_off = mul_off 1023 (lit≤ tt) (index_held i) cn.ok (small N (count c) U (2 ^ (53 + suc 1023)) (pow_pos 1074) (index_most i) (at_most 1 cn.ok ci) (lit≤ tt))
    where
      small : (x y v W : ℕ) → 0 < v → x ≤ 4 * v → y ≤ 1 * v → 4 * v < W → x * y < W * v
      small x y v W p h g l = lt_of_le_of_lt (mul-le-mul h g) (lt_of_le_of_lt (le_of_eq (one v)) (mul-lt-mul_of_pos_right l p))
        where
          one : (v : ℕ) → 4 * v * (1 * v) ≡ 4 * v * v
          one v = omega arith

  b_off : Result (M * count t) U 1023 (m ⊗ t)
  b_off = mul_off 1023 (lit≤ tt) (index_held j) tn.ok (small M (count t) U (2 ^ (53 + suc 1023)) (pow_pos 1074) (index_most j) (at_most 1 tn.ok ti) (lit≤ tt))
    where
      small : (x y v W : ℕ) → 0 < v → x ≤ 4 * v → y ≤ 1 * v → 4 * v < W → x * y < W * v
      small x y v W p h g l = lt_of_le_of_lt (mul-le-mul h g) (lt_of_le_of_lt (le_of_eq (one v)) (mul-lt-mul_of_pos_right l p))
        where
          one : (v : ℕ) → 4 * v * (1 * v) ≡ 4 * v * v
          one v = omega arith

  a_in : In 0 0 4 0 (n ⊗ c)
  a_in = mul_in (index_in i) ci tt

  b_in : In 115 8 4 0 (m ⊗ t)
  b_in = mul_in (index_in j) ti tt

  abbrev a : ℕ
  a = count (n ⊗ c)

  abbrev b : ℕ
  b = count (m ⊗ t)

  a_most : a ≤ 4 * U
  a_most = at_most 4 a_off.ok a_in

  b_most : b ≤ 4 * U
  b_most = at_most 4 b_off.ok b_in

  abbrev d : Float
  d = n ⊗ c ⊖ m ⊗ t

  abbrev f : Float
  f = n ⊗ c ⊕ m ⊗ t

  abbrev q : Float
  q = d ⊘ f

  d_off : Result (gap a b) 1 1023 d
  d_off = sub_off 1023 (lit≤ tt) a_in.sign b_in.sign a_off.ok b_off.ok (lt_of_lt_of_le (small a b U (pow_pos 1074) a_most b_most) (lit≤ tt))
    where
      small : (x y v : ℕ) → 0 < v → x ≤ 4 * v → y ≤ 4 * v → gap x y < 8 * v
      small x y v p h g = omega (arith, p, h, g)

  f_off : Result (a + b) 1 1024 f
  f_off = add_off 1024 (lit≤ tt) a_in.sign b_in.sign a_off.ok b_off.ok (lt_of_lt_of_le (small a b U (pow_pos 1074) a_most b_most) (lit≤ tt))
    where
      small : (x y v : ℕ) → 0 < v → x ≤ 4 * v → y ≤ 4 * v → x + y < 16 * v
      small x y v p h g = omega (arith, p, h, g)

  f_in : In 115 8 8 0 f
  f_in = add_in a_in b_in tt

  f_pos : 0 < count f
  f_pos = go (count f) U (pow_pos 1074) (count_least 115 8 f_off.ok f_in.least)
    where
      go : (x v : ℕ) → 0 < v → 115 * v ≤ x * 2 ^ 8 → 0 < x
      go x v p h = omega (arith, p, h)

  d_f : num d * den f ≤ num f * den d
  d_f = less_sum (n ⊗ c) (m ⊗ t) a_in.sign b_in.sign f_off.ok.fine

  d_most : count d ≤ count f
  d_most = cross d_off.ok f_off.ok d_f

  f_num : 0 < num f
  f_num = go (num f) (den f) (den_pos f) f_in.least
    where
      go : (n d : ℕ) → 0 < d → 115 * d ≤ n * 2 ^ 8 → 0 < n
      go n d p h = omega (arith, p, h)

  q_mag : Mag 1 0 q
  q_mag =
      subst (λ (z : Float). Mag 1 0 z) (sym (div_is d f d_off.ok.fine f_off.ok.fine f_num))
      (round_mag (unlike (sgn d) (sgn f)) (num d * den f) (num f * den d) 1 1 1 0 (mul-pos f_num (den_pos d)) (lit≤ {m = 1} {n = 1} tt) (le_trans (le_of_eq (mul-one (num d * den f))) (le_trans d_f (le_of_eq (sym (one-mul (num f * den d)))))) tt)

  q_held : Held q
  q_held = record { fine = q_mag.fine; held = div-fits binary64 d f }

  q_most : count q ≤ U
  q_most = le_trans (le_of_eq (sym (mul-one (count q)))) (le_trans (count_most 1 0 q_held q_mag.most) (le_of_eq (one-mul U)))

  q_off : Within (u * (a + b) + 13 * u * U) (count q * (a + b)) (gap a b * U)
  q_off =
      go (count q) (a + b) (gap a b) (count d) (count f) U u (2 ^ 1023) (2 ^ 1024) d_off.off f_off.off
      (div_off 1021 (lit≤ tt) d_off.ok f_off.ok f_pos (small (count d) (count f) U (2 ^ (53 + suc 1021)) (pow_pos 1074) f_pos d_most (lit≤ tt))).off q_most refl refl (lit≤ tt)
    where
      small : (x y v W : ℕ) → 0 < v → 0 < y → x ≤ y → v < W → x * v < W * y
      small x y v W p q h g = lt_of_le_of_lt (mul-le-mul_right v h) (lt_of_lt_of_le (lt_of_le_of_lt (le_of_eq (mul_comm y v)) (mul-lt-mul_of_pos_right g q)) (le_refl (W * y)))

      go : (q s g d f v u x y : ℕ) → Within (x * 1) (d * 1) g → Within (y * 1) (f * 1) s → Within (u * f) (q * f) (d * v) → q ≤ v → x ≡ 4 * u → y ≡ 8 * u → 8 * u ≤ v → Within (u * s + 13 * u * v) (q * s) (g * v)
      go q s g d f v u x y hd hf hq l ex ey tiny =
          let i : Within (y * 1 * q) (f * 1 * q) (s * q) = times q hf in
          let j : Within (x * 1 * v) (d * 1 * v) (g * v) = times v hd in
          widen most (chain (turn (known refl (name f q) (mul_comm s q) i)) (chain hq (known refl (name' d v) refl j)))
        where
          name : (f q : ℕ) → f * 1 * q ≡ q * f
          name f q = omega arith

          name' : (d v : ℕ) → d * 1 * v ≡ d * v
          name' d v = omega arith

          most : y * 1 * q + (u * f + x * 1 * v) ≤ u * s + 13 * u * v
          most =
              let k : f * 1 ≤ s + y * 1 = hf.most in
              let o : y * 1 * q ≤ y * 1 * v = mul-le-mul_left (y * 1) l in
              let p : u * (f * 1) ≤ u * (s + y * 1) = mul-le-mul_left u k in
              let t : u * (8 * u) ≤ u * v = mul-le-mul_left u tiny in
              let e1 : y * 1 * v ≡ 8 * u * 1 * v = ap (λ (z : ℕ). z * 1 * v) ey in
              let e2 : x * 1 * v ≡ 4 * u * 1 * v = ap (λ (z : ℕ). z * 1 * v) ex in
              let e3 : u * (s + y * 1) ≡ u * (s + 8 * u * 1) = ap (λ (z : ℕ). u * (s + z * 1)) ey in
              total (y * 1 * q) (u * f) (x * 1 * v) (u * s) (u * v) (u * u) (le_trans o (le_of_eq (e1 ∙ one u v))) (le_trans (le_of_eq (two u f)) (le_trans p (le_of_eq (e3 ∙ three u s)))) (e2 ∙ four u v) (le_trans (le_of_eq (five u)) t) ∙≤ (le_of_eq (six u s v))
            where
              one : (u v : ℕ) → 8 * u * 1 * v ≡ 8 * (u * v)
              one u v = omega arith

              two : (u f : ℕ) → u * f ≡ u * (f * 1)
              two u f = omega arith

              three : (u s : ℕ) → u * (s + 8 * u * 1) ≡ u * s + 8 * (u * u)
              three u s = omega arith

              four : (u v : ℕ) → 4 * u * 1 * v ≡ 4 * (u * v)
              four u v = omega arith

              five : (u : ℕ) → 8 * (u * u) ≡ u * (8 * u)
              five u = omega arith

              six : (u s v : ℕ) → u * s + 13 * (u * v) ≡ u * s + 13 * u * v
              six u s v = omega arith

              total : (p q r us uv uu : ℕ) → p ≤ 8 * uv → q ≤ us + 8 * uu → r ≡ 4 * uv → 8 * uu ≤ uv → p + (q + r) ≤ us + 13 * uv
              total p q r us uv uu a b c d = omega (arith, a, b, c, d)

              infixl 20 ◌∙≤◌
              ◌∙≤◌ : {a b c : ℕ} → a ≤ b → b ≤ c → a ≤ c
              ◌∙≤◌ h g = le_trans h g

  -- the exact amplitudes over their common base
  abbrev A : ℕ
  A = N * C * (U * L)

  abbrev B : ℕ
  B = M * T' * (U * K)

  abbrev H : ℕ
  H = U * K * (U * L)

  a_near : Within (66 * u * A) (a * H) (A * U)
  a_near = share a N (count c) K C U (U * L) (2 ^ 1023) (98 * w) (66 * u) (pow_pos 1074) a_off.off cn.off (index_least i) (go w K C cl)
    where
      go : (w K C : ℕ) → 100 * K ≤ 401 * C → (32 * w + 98 * w) * K ≤ 528 * w * C
      go w K C h = let i : w * (100 * K) ≤ w * (401 * C) = mul-le-mul_left w h in omega (arith, i)

  b_near : Within (405 * u * B) (b * H) (B * U)
  b_near = subst (λ (z : ℕ). Within (405 * u * B) (b * z) (B * U)) (mul_comm (U * L) (U * K)) (share b M (count t) L T' U (U * K) (2 ^ 1023) (176 * u) (405 * u) (pow_pos 1074) b_off.off tn.off (index_least j) (go u L T' tl))
    where
      go : (u L t : ℕ) → 4 * L ≤ 9 * t → (4 * u + 176 * u) * L ≤ 405 * u * t
      go u L t h = let i : u * (4 * L) ≤ u * (9 * t) = mul-le-mul_left u h in omega (arith, i)

  -- the exact sum is 2 / 3 at least
  two_thirds : 2 * H ≤ 3 * (A + B)
  two_thirds = go N M C K T' L U (index_least i) (index_least j) cl tl
    where
      go : (N M C K t L v : ℕ) → v ≤ N → v ≤ M → 100 * K ≤ 401 * C → 4 * L ≤ 9 * t → 2 * (v * K * (v * L)) ≤ 3 * (N * C * (v * L) + M * t * (v * K))
      go N M C K t L v g h k l =
          let w : v * (100 * K) ≤ N * (401 * C) = mul-le-mul g k in
          let x : v * (100 * K) * (v * L) ≤ N * (401 * C) * (v * L) = mul-le-mul_right (v * L) w in
          let y : v * (4 * L) ≤ M * (9 * t) = mul-le-mul h l in
          let z : v * (4 * L) * (v * K) ≤ M * (9 * t) * (v * K) = mul-le-mul_right (v * K) y in
          omega (arith, x, z)

  h_pos : 0 < H
  h_pos = mul-pos (mul-pos (pow_pos 1074) cn.base) (mul-pos (pow_pos 1074) tn.base)

  F_pos : 0 < A + B
  F_pos = go H (A + B) h_pos two_thirds
    where
      go : (b f : ℕ) → 0 < b → 2 * b ≤ 3 * f → 0 < f
      go b f p h = omega (arith, p, h)

  s_pos : 0 < a + b
  s_pos = go a b U (pow_pos 1074) (count_least 115 8 b_off.ok b_in.least)
    where
      go : (a b v : ℕ) → 0 < v → 115 * v ≤ b * 2 ^ 8 → 0 < a + b
      go a b v p h = omega (arith, p, h)

  r_off : Result (count q * count q) U 1021 (q ⊗ q)
  r_off = mul_off 1021 (lit≤ tt) q_held q_held (small (count q) U (2 ^ (53 + suc 1021)) (pow_pos 1074) q_most (lit≤ tt))
    where
      small : (x v W : ℕ) → 0 < v → x ≤ v → v < W → x * x < W * v
      small x v W p h g = lt_of_le_of_lt (mul-le-mul h h) (mul-lt-mul_of_pos_right g p)

  square : Within (231 * u * ((A + B) * (A + B))) (count (q ⊗ q) * ((A + B) * (A + B))) (gap A B * gap A B * U)
  square = ratio U u (66 * u) (405 * u) (231 * u) H A B a b (count q) (count (q ⊗ q)) (pow_pos 1074) h_pos F_pos s_pos a_near b_near q_off r_off.off two_thirds (lit≤ tt) (lit≤ tt) (lit≤ tt)

  pub square_in : In 0 0 1 0 (q ⊗ q)
  square_in = sq_in q_mag tt

  pub power_is : power d f ≡ q ⊗ q
  unfolding power
  power_is =
      cond_no (lt (abs f) least_den) zero_f (clamp (q ⊗ q) zero_f one)
      (subst (λ (z : Float). T (not (lt z least_den))) (sym (abs_plus f f_in.sign)) (never_under f_in least_in tt))
      ∙ clamp_same (q ⊗ q) zero_f one (never_under square_in zero_in tt) (never_above one_in (in_mag square_in) tt)
    where
      least_in : In 0 0 1 8 least_den
      least_in = unfold of_bits in in_lit least_den tt

  -- under the names of the claim
  pub square_near : Near (231 * u) (gap (N * C * L) (M * T' * K) * gap (N * C * L) (M * T' * K)) ((N * C * L + M * T' * K) * (N * C * L + M * T' * K)) (q ⊗ q)
  square_near =
      renamed (gap (N * C * L) (M * T' * K) * gap (N * C * L) (M * T' * K)) ((N * C * L + M * T' * K) * (N * C * L + M * T' * K)) (mul-pos plain plain)
      (same (gap A B) (A + B) (gap (N * C * L) (M * T' * K)) (N * C * L + M * T' * K) U (gap_is (N * C) (M * T') L K U) (sum_is (N * C) (M * T') L K U))
      (record { ok = r_off.ok; base = mul-pos F_pos F_pos; off = square })
    where
      gap_is : (a b L K v : ℕ) → gap (a * (v * L)) (b * (v * K)) ≡ gap (a * L) (b * K) * v
      gap_is a b L K v = ap₂ gap (one a v L) (one b v K) ∙ sym (spread (a * L) (b * K) v)
        where
          one : (a v L : ℕ) → a * (v * L) ≡ a * L * v
          one a v L = simp (mul_assoc, mul_comm, mul_left_comm)

          less : (a b c : ℕ) → (a - b) * c ≡ a * c - b * c
          less a b c = mul_comm (a - b) c ∙ mul-sub c a b ∙ ap₂ ◌-◌ (mul_comm c a) (mul_comm c b)

          spread : (a b k : ℕ) → gap a b * k ≡ gap (a * k) (b * k)
          spread a b k = add-mul (a - b) (b - a) k ∙ ap₂ ◌+◌ (less a b k) (less b a k)

      sum_is : (a b L K v : ℕ) → a * (v * L) + b * (v * K) ≡ (a * L + b * K) * v
      sum_is a b L K v = omega arith

      plain : 0 < N * C * L + M * T' * K
      plain = go (N * C * L + M * T' * K) (A + B) U F_pos (sum_is (N * C) (M * T') L K U)
        where
          go : (x f v : ℕ) → 0 < f → f ≡ x * v → 0 < x
          go zero f v p e = omega (arith, p, e)
          go (suc x) f v p e = omega arith

      same : (D F g s v : ℕ) → D ≡ g * v → F ≡ s * v → D * D * (s * s) ≡ g * g * (F * F)
      same D F g s v e h = ap (λ (z : ℕ). z * z * (s * s)) e ∙ go g s v ∙ ap (λ (z : ℕ). g * g * (z * z)) (sym h)
        where
          go : (g s v : ℕ) → g * v * (g * v) * (s * s) ≡ g * g * (s * v * (s * v))
          go g s v = simp (mul_assoc, mul_comm, mul_left_comm)
