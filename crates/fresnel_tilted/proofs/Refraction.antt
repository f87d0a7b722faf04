-- sin2_t and cos_t beside Snell's exact law. Assumes nothing.
use mathlib.Core.Path.{◌≡◌, refl, sym, ap, ap₂, ◌∙◌, subst}
use Prim.Native.Nat.{ℕ, zero, suc, ◌+◌, ◌-◌, ◌*◌, ◌^◌, ◌≤◌, ◌<◌}
use native.Mathlib.Nat.{le_trans, le_of_eq, lt_of_le_of_lt, lt_of_lt_of_le, mul-one, one-mul, mul_comm, mul_assoc, mul_left_comm, mul_right_comm, mul-le-mul, mul-le-mul_left, mul-le-mul_right, le_of_mul-le-mul_right, mul-lt-mul_of_pos_right, mul-pos, mul-sub, lt_of_not-le, zero-lt-suc}
use native.Mathlib.Decide.{dec_le}
use native.Mathlib.Omega.{arith}
use mathlib.Core.Bool.{true, false}
use lib.Dec.{T, lit≤, lt→ltb}
use lib.Pow.{pow_pos}
use lib.Ieee.{Float, nan, inf, fin, up, down, fits, lt, of_bits}
use lib.Ieee.Fits.{down_pos}
use lib.Ieee.Positive.{num, den, positive}
use Rattle.ieee.specs.Operators.{◌⊖◌, ◌⊗◌, ◌⊘◌}
use Rattle.ieee.specs.Functions.{zero_f, one, max}
use Rattle.ieee.specs.Range.{In}
use Rattle.ieee.specs.Count.{count}
use Rattle.ieee.proofs.Range.Laws.{plus_finite, mul_in}
use Rattle.ieee.proofs.Range.Constants.{one_in, zero_in}
use Rattle.ieee.proofs.Range.Sums.{sub_in}
use Rattle.ieee.proofs.Range.Quotients.{div_in}
use Rattle.ieee.proofs.Range.Tests.{choose, nlt_most}
use Rattle.ieee_near.specs.Index.{Index, gap}
use Rattle.ieee_near.proofs.Pair.{index_in}
use Rattle.math_root.specs.Root.{sqrt}
use Rattle.math_root.proofs.Range.{sqrt_in}
use Rattle.near_abs.specs.Off.{Within}
use Rattle.near_abs.proofs.Within.{chain, widen, times, untimes, known}
use Rattle.near_abs.proofs.Counts.{U, Held, count_most, count_least, num_most, Result, mul_off, div_off, sub_off, mul_share, div_share}
use Rattle.near_abs.proofs.Laws.{Near, itself, renamed, sub_near, rest_off}
use Rattle.near_abs.proofs.Root.{Rooted, rooted, root_off}
use Rattle.fresnel.specs.Fresnel.{sin2_t}
use mathlib.Core.List.{[], ◌∷◌}
use lib.IntN.{pos}
use Rattle.whole_ring.proofs.Solver.{var, con, ◌:+◌, ◌:*◌}
use Rattle.whole_ring.proofs.Naturals.{naturals}
use Rattle.fresnel_tilted.proofs.Squares.{cosine_squared, ratio_squared, sine_off}
use Rattle.fresnel_tilted.specs.Claim.{Refracts, sine_top, sine_bottom, Snell}

-- 2 ^ -53, in counts
abbrev pub u : ℕ
u = 2 ^ 1021

-- and an eighth of it
abbrev pub w : ℕ
w = 2 ^ 1018

unit : (c v : ℕ) → c * 1 ≤ v → c ≤ v
unit c v h = omega (arith, h)

pub at_most : (p : ℕ) {a i : ℕ} {x : Float} → Held x → In a i p 0 x → count x ≤ p * U
at_most p {x = x} h r = unit (count x) (p * U) (count_most p 0 h r.most)

-- ---- 1
pub one_count : count one ≡ U
unfolding count of_bits
one_count = refl

pub one_held : Held one
unfolding fits of_bits
one_held = record { fine = tt; held = tt }

pub one_near : Near 0 1 1 one
one_near = renamed 1 1 (lit≤ tt) (mul-one (count one) ∙ one_count ∙ sym (one-mul U)) (itself one_held)

zero_held : Held zero_f
unfolding fits of_bits
zero_held = record { fine = tt; held = tt }

zero_count : count zero_f ≡ 0
unfolding count of_bits
zero_count = refl

-- ---- the larger of x and 0, for an x with a clear sign
max_count : {x : Float} {a i p j : ℕ} → In a i p j x → Held x → count (max x zero_f) ≡ count x
unfolding max
max_count {x} r h = choose (λ z. count z ≡ count x) (lt zero_f x) x zero_f (λ t. refl) (λ t. zero_count ∙ sym (none (count x) (unit' (count x) (count_most 0 0 h (nlt_most zero_in r t).most))))
  where
    unit' : (c : ℕ) → c * 1 ≤ 0 * U → c ≤ 0
    unit' c h = le_trans (le_of_eq (sym (mul-one c))) (le_trans h (le_of_eq (nil U)))
      where
        nil : (u : ℕ) → 0 * u ≡ 0
        nil u = omega arith

    none : (c : ℕ) → c ≤ 0 → c ≡ 0
    none c h = omega (arith, h)

max_held : {x : Float} → Held x → Held (max x zero_f)
unfolding max
max_held {x} h = choose (λ z. Held z) (lt zero_f x) x zero_f (λ t. h) (λ t. zero_held)

pub max_in' : {p j : ℕ} {x : Float} → In 0 0 p j x → In 0 0 p j (max x zero_f)
unfolding max
max_in' {p} {j} {x} r = choose (λ z. In 0 0 p j z) (lt zero_f x) x zero_f (λ t. r) (λ t. record { sign = zero_in.sign; least = zero_in.least; most = nil (num zero_f) (den zero_f) (2 ^ j) p zero_in.most })
  where
    nil : (n d K p : ℕ) → n * 1 ≤ 0 * d → n * K ≤ p * d
    nil zero d K p h = omega arith
    nil (suc n) d K p h = absurd (no n d h)
      where
        no : (n d : ℕ) → suc n * 1 ≤ 0 * d → ⊥
        no n d h = omega (arith, h)

pub index_held : {n : Float} → Index n → Held n
index_held {n} i = record { fine = plus_finite n (index_in i).sign; held = i.held }

pub index_least : {n : Float} → Index n → U ≤ count n
index_least {n} i = go (count n) U (count_least 1 0 (index_held i) (index_in i).least)
  where
    go : (c v : ℕ) → 1 * v ≤ c * 1 → v ≤ c
    go c v h = omega (arith, h)

pub index_most : {n : Float} → Index n → count n ≤ 4 * U
index_most i = at_most 4 (index_held i) (index_in i)

-- ---- 1 - x, for an x from 0 to 1 beside a fraction from 0 to 1
pub less_near : {e A B : ℕ} {x : Float} → In 0 0 1 0 x → Near e A B x → A ≤ B → Near (0 + e + u) (B - A) B (one ⊖ x)
less_near {e} {A} {B} {x} r h l =
    renamed (B - A) B h.base (name B A l)
    (sub_near 1021 (lit≤ tt) (subst (λ (k : ℕ). gap k (count x) < 2 ^ (53 + suc 1021) * 1) (sym one_count) (small U (count x) (pow_pos 1074) (at_most 1 h.ok r))) one_in.sign r.sign one_near h)
  where
    small : (v x : ℕ) → 0 < v → x ≤ 1 * v → gap v x < 2 * v * 1
    small v x p h = omega (arith, p, h)

    name : (k x : ℕ) → x ≤ k → gap (1 * k) (x * 1) * k ≡ (k - x) * (1 * k)
    name k x h = ap₂ ◌*◌ (one k x h) (sym (one-mul k))
      where
        one : (k x : ℕ) → x ≤ k → gap (1 * k) (x * 1) ≡ k - x
        one k x h = omega (arith, h)

-- above zero
above : (x : Float) → In 26 7 1 0 x → T (positive x)
above nan h = absurd h.sign
above (inf s) h = absurd h.sign
above (fin true m e) h = absurd h.sign
above (fin false zero e) h = absurd (no (up e) (down e) (down_pos e) h.least)
  where
    no : (p d : ℕ) → 0 < d → 26 * d ≤ 0 * p * 2 ^ 7 → ⊥
    no p d D h = omega (arith, D, h)
above (fin false (suc m) e) h = lt→ltb 0 (suc m) (zero-lt-suc m)

module _ (c n1 n2 : Float) (i1 : Index n1) (i2 : Index n2) (C K T' L : ℕ) (ci : In 0 0 1 0 c) (cn : Near (98 * w) C K c) (ck : C ≤ K) (cf : Within (w * (25 * (K * K) + 73 * (K * K - C * C))) (count c * K * K) (C * K * U)) (sn : Snell n1 n2 C K T' L) (rf : Refracts n1 n2 C K) where
  abbrev N1 : ℕ
  N1 = count n1

  abbrev N2 : ℕ
  N2 = count n2

  -- ---- 1 - cos²
  square_in : In 0 0 1 0 (c ⊗ c)
  square_in = mul_in ci ci tt

  square_off : Result (count c * count c) U 1021 (c ⊗ c)
  square_off = mul_off 1021 (lit≤ tt) cn.ok cn.ok (small (count c) U (2 ^ (53 + suc 1021)) (pow_pos 1074) (at_most 1 cn.ok ci) (lit≤ tt))
    where
      small : (x v W : ℕ) → 0 < v → x ≤ 1 * v → v < W → x * x < W * v
      small x v W p h g = lt_of_le_of_lt (mul-le-mul h h) (lt_of_le_of_lt (le_of_eq (one v)) (mul-lt-mul_of_pos_right g p))
        where
          one : (v : ℕ) → 1 * v * (1 * v) ≡ v * v
          one v = omega arith

  -- S / Q is 1 - cos²
  abbrev Q : ℕ
  Q = K * K

  abbrev S : ℕ
  S = K * K - C * C

  square : Within (u * Q + 2 * (w * (25 * Q + 73 * S))) (count (c ⊗ c) * Q) (C * C * U)
  square = cosine_squared (count c) (count (c ⊗ c)) C K U u (w * (25 * Q + 73 * S)) (pow_pos 1074) cn.base (le_trans (at_most 1 cn.ok ci) (le_of_eq (one-mul U))) ck cf square_off.off

  rest_ok : Result (gap U (count (c ⊗ c))) 1 1021 (one ⊖ c ⊗ c)
  rest_ok =
      subst (λ (k : ℕ). Result (gap k (count (c ⊗ c))) 1 1021 (one ⊖ c ⊗ c)) one_count
      (sub_off 1021 (lit≤ tt) one_in.sign square_in.sign one_held square_off.ok (subst (λ (k : ℕ). gap k (count (c ⊗ c)) < 2 ^ (53 + suc 1021) * 1) (sym one_count) (small U (count (c ⊗ c)) (pow_pos 1074) (at_most 1 square_off.ok square_in))))
    where
      small : (v x : ℕ) → 0 < v → x ≤ 1 * v → gap v x < 2 * v * 1
      small v x p h = omega (arith, p, h)

  rest : Within (w * (66 * Q + 146 * S)) (count (one ⊖ c ⊗ c) * Q) (S * U)
  rest = known (sum u w Q S refl) refl refl (rest_off U (count (c ⊗ c)) (count (one ⊖ c ⊗ c)) Q (C * C) S (u * Q + 2 * (w * (25 * Q + 73 * S))) u (le_trans (at_most 1 square_off.ok square_in) (le_of_eq (one-mul U))) rest_ok.off square (back Q (C * C) (mul-le-mul ck ck)))
    where
      back : (q c : ℕ) → c ≤ q → q - c + c ≡ q
      back q c h = omega (arith, h)

      sum : (u w Q S : ℕ) → u ≡ 8 * w → u * Q + (u * Q + 2 * (w * (25 * Q + 73 * S))) ≡ w * (66 * Q + 146 * S)
      sum u w Q S e = ap (λ (u : ℕ). u * Q + (u * Q + 2 * (w * (25 * Q + 73 * S)))) e ∙ go w Q S
        where
          go : (w Q S : ℕ) → 8 * w * Q + (8 * w * Q + 2 * (w * (25 * Q + 73 * S))) ≡ w * (66 * Q + 146 * S)
          go w Q S = omega arith

  rest_in : In 0 0 1 0 (one ⊖ c ⊗ c)
  rest_in = sub_in one_in square_in tt

  abbrev m : Float
  m = max (one ⊖ c ⊗ c) zero_f

  m_is : count m ≡ count (one ⊖ c ⊗ c)
  m_is = max_count rest_in rest_ok.ok

  m_held : Held m
  m_held = max_held rest_ok.ok

  m_off : Within (w * (66 * Q + 146 * S)) (count m * Q) (S * U)
  m_off = subst (λ (k : ℕ). Within (w * (66 * Q + 146 * S)) (k * Q) (S * U)) (sym m_is) rest

  most_in : In 0 0 1 0 (max (one ⊖ c ⊗ c) zero_f)
  most_in = max_in' rest_in

  -- ---- (n1 / n2)²
  n2_pos : 0 < N2
  n2_pos = lt_of_lt_of_le (pow_pos 1074) (index_least i2)

  eta_small : N1 * U < 2 ^ (53 + suc 1023) * N2
  eta_small = small N1 N2 U (2 ^ (53 + suc 1023)) (pow_pos 1074) (index_most i1) (index_least i2) (lit≤ tt)
    where
      small : (a b v M : ℕ) → 0 < v → a ≤ 4 * v → v ≤ b → 8 * v ≤ M → a * v < M * b
      small a b v M p h g l = lt_of_le_of_lt (mul-le-mul h g) (lt_of_lt_of_le (mul-lt-mul_of_pos_right (half v p) (lt_of_lt_of_le p g)) (mul-le-mul_right b l))
        where
          half : (v : ℕ) → 0 < v → 4 * v < 8 * v
          half v p = omega (arith, p)

  abbrev eta : Float
  eta = n1 ⊘ n2

  eta_held : Held eta
  eta_held = (div_off 1023 (lit≤ tt) (index_held i1) (index_held i2) n2_pos eta_small).ok

  eta_in : In 1 2 4 0 (n1 ⊘ n2)
  eta_in = div_in (index_in i1) (index_in i2) tt

  four_times : N1 ≤ 4 * N2
  four_times = le_trans (index_most i1) (mul-le-mul_left 4 (index_least i2))

  eta²_small : count eta * count eta < 2 ^ (53 + suc 1025) * U
  eta²_small = small (count eta) U (2 ^ (53 + suc 1025)) (pow_pos 1074) (at_most 4 eta_held eta_in) (lit≤ tt)
    where
      small : (x v W : ℕ) → 0 < v → x ≤ 4 * v → 16 * v < W → x * x < W * v
      small x v W p h g = lt_of_le_of_lt (mul-le-mul h h) (lt_of_le_of_lt (le_of_eq (one v)) (mul-lt-mul_of_pos_right g p))
        where
          one : (v : ℕ) → 4 * v * (4 * v) ≡ 16 * v * v
          one v = omega arith

  eta²_held : Held (eta ⊗ eta)
  eta²_held = (mul_off 1025 (lit≤ tt) eta_held eta_held eta²_small).ok

  -- up to four parts in 2 ^ 53
  eta² : Within (N1 * N1 * U) (count (eta ⊗ eta) * (N2 * N2) * 2 ^ 51) (N1 * N1 * U * 2 ^ 51)
  eta² =
      untimes (N1 * N1 * U) (count (eta ⊗ eta) * (N2 * N2) * 2 ^ 51) (N1 * N1 * U * 2 ^ 51) (4 * U) (mul-pos (lit≤ {m = 1} {n = 4} tt) (pow_pos 1074))
      (known (one N1 U) (two (count (eta ⊗ eta)) (N2 * N2) U (2 ^ 53) (2 ^ 51) refl) (three N1 U (2 ^ 53) (2 ^ 51) refl)
      (ratio_squared (count eta * N2) (N1 * U) (count (eta ⊗ eta) * U * (N2 * N2)) (2 ^ 53) (2 ^ 53 * N2) (2 ^ 53 * U * (N2 * N2)) (pow_pos 53)
      (div_share 1023 (lit≤ tt) (index_held i1) (index_held i2) n2_pos eta_small)
      (known (four (count eta) N2 (2 ^ 53) U) (five (count (eta ⊗ eta)) U (2 ^ 53) N2) (six (count eta) (2 ^ 53) N2) (times (N2 * N2) (mul_share 1025 (lit≤ tt) eta_held eta_held eta²_small)))
      (seven N1 N2 U (2 ^ 53) (index_least i1) (index_most i2) (lit≤ tt)) (eight N1 N2 U (2 ^ 53) (index_least i1) (index_most i2) (lit≤ tt)) (lit≤ tt)))
    where
      one : (n v : ℕ) → 4 * (n * v * (n * v)) ≡ n * n * v * (4 * v)
      one n v = omega arith

      two : (h r v s f : ℕ) → s ≡ 4 * f → h * v * r * s ≡ h * r * f * (4 * v)
      two h r v s f e = ap (λ (z : ℕ). h * v * r * z) e ∙ go h r v f
        where
          go : (h r v f : ℕ) → h * v * r * (4 * f) ≡ h * r * f * (4 * v)
          go h r v f = simp (mul_assoc, mul_comm, mul_left_comm)

      three : (n v s f : ℕ) → s ≡ 4 * f → n * v * (n * v) * s ≡ n * n * v * f * (4 * v)
      three n v s f e = ap (λ (z : ℕ). n * v * (n * v) * z) e ∙ go n v f
        where
          go : (n v f : ℕ) → n * v * (n * v) * (4 * f) ≡ n * n * v * f * (4 * v)
          go n v f = simp (mul_assoc, mul_comm, mul_left_comm)

      four : (x n s v : ℕ) → (x * x + s * v) * (n * n) ≡ x * n * (x * n) + s * v * (n * n)
      four x n s v = omega arith

      five : (h v s n : ℕ) → h * v * s * (n * n) ≡ h * v * (n * n) * s
      five h v s n = mul_right_comm (h * v) s (n * n)

      six : (x s n : ℕ) → x * x * s * (n * n) ≡ x * n * (x * n) * s
      six x s n = simp (mul_assoc, mul_comm, mul_left_comm)

      -- the counts are no part of it
      seven : (n m v s : ℕ) → v ≤ n → m ≤ 4 * v → 4000 * s ≤ v → 1000 * (s * m) ≤ n * v
      seven n m v s h g l =
          let i : 1000 * s * m ≤ 1000 * s * (4 * v) = mul-le-mul_left (1000 * s) g in
          let j : 4000 * s * v ≤ v * v = mul-le-mul_right v l in
          let k : v * v ≤ n * v = mul-le-mul_right v h in
          omega (arith, i, j, k)

      eight : (n m v s : ℕ) → v ≤ n → m ≤ 4 * v → 16000 * s ≤ v → 1000 * (s * v * (m * m)) ≤ n * v * (n * v)
      eight n m v s h g l =
          let i : 1000 * s * v * (m * m) ≤ 1000 * s * v * (4 * v * (4 * v)) = mul-le-mul_left (1000 * s * v) (mul-le-mul g g) in
          let j : 16000 * s * (v * v * v) ≤ v * (v * v * v) = mul-le-mul_right (v * v * v) l in
          let k : v * v * (v * v) ≤ n * v * (n * v) = mul-le-mul (mul-le-mul_right v h) (mul-le-mul_right v h) in
          go (1000 * s * v * (m * m)) (s * (v * v * v)) (v * v * (v * v)) (n * v * (n * v)) _ _ i (nine s v) (le_trans (le_of_eq (sym (mul_assoc 16000 s (v * v * v)))) (le_trans j (le_of_eq (ten v)))) k (eleven s v m)
        where
          nine : (s v : ℕ) → 1000 * s * v * (4 * v * (4 * v)) ≡ 16000 * (s * (v * v * v))
          nine s v = omega arith

          ten : (v : ℕ) → v * (v * v * v) ≡ v * v * (v * v)
          ten v = omega arith

          eleven : (s v m : ℕ) → 1000 * (s * v * (m * m)) ≡ 1000 * s * v * (m * m)
          eleven s v m = omega arith

          go : (a b c d e f : ℕ) → a ≤ e → e ≡ 16000 * b → 16000 * b ≤ c → c ≤ d → f ≡ a → f ≤ d
          go a b c d e f h i j k l = omega (arith, h, i, j, k, l)

  eta²_in : In 1 4 16 0 ((n1 ⊘ n2) ⊗ (n1 ⊘ n2))
  eta²_in = mul_in eta_in eta_in tt

  sixteen_times : N1 * N1 ≤ 16 * (N2 * N2)
  sixteen_times = le_trans (mul-le-mul four_times four_times) (le_of_eq (four N2))
    where
      four : (n : ℕ) → 4 * n * (4 * n) ≡ 16 * (n * n)
      four n = omega arith

  -- ---- sin²
  abbrev s : Float
  s = sin2_t c n1 n2

  -- (n1 / n2)² of the error of 1 - cos²
  few : N1 * N1 * (w * (66 * Q + 146 * S)) ≤ 1171 * w * (N2 * N2 * Q)
  few = go (N1 * N1) (N2 * N2) Q S w sixteen_times rf
    where
      go : (p r Q S w : ℕ) → p ≤ 16 * r → p * S * 32 ≤ 25 * (r * Q) → p * (w * (66 * Q + 146 * S)) ≤ 1171 * w * (r * Q)
      go p r Q S w h g =
          let i : 66 * w * Q * p ≤ 66 * w * Q * (16 * r) = mul-le-mul_left (66 * w * Q) h in
          let j : w * (p * S * 32) ≤ w * (25 * (r * Q)) = mul-le-mul_left w g in
          omega (arith, i, j)

  product_most : count (eta ⊗ eta) * count m ≤ U * U
  product_most = le_of_mul-le-mul_right (go (count (eta ⊗ eta)) (count m) (N1 * N1) (N2 * N2) S Q U w (2 ^ 51) (w * (66 * Q + 146 * S)) eta².most m_off.most few rf (lit≤ tt)) (mul-pos base_pos (pow_pos 51))
    where
      base_pos : 0 < N2 * N2 * Q
      base_pos = mul-pos (mul-pos n2_pos n2_pos) (mul-pos cn.base cn.base)

      go : (h m p r S Q v w f E : ℕ) → h * r * f ≤ p * v * f + p * v → m * Q ≤ S * v + E → p * E ≤ 1171 * w * (r * Q) → p * S * 32 ≤ 25 * (r * Q) → 32 * ((f + 1) * (1171 * w)) + 25 * ((f + 1) * v) ≤ 32 * (v * f) → h * m * (r * Q * f) ≤ v * v * (r * Q * f)
      go h m p r S Q v w f E a b c d e =
          let i : h * r * f * (m * Q) ≤ (p * v * f + p * v) * (S * v + E) = mul-le-mul a b in
          let j : v * (f + 1) * (p * E) ≤ v * (f + 1) * (1171 * w * (r * Q)) = mul-le-mul_left (v * (f + 1)) c in
          let k : v * (f + 1) * v * (p * S * 32) ≤ v * (f + 1) * v * (25 * (r * Q)) = mul-le-mul_left (v * (f + 1) * v) d in
          let l : (32 * ((f + 1) * (1171 * w)) + 25 * ((f + 1) * v)) * (v * (r * Q)) ≤ 32 * (v * f) * (v * (r * Q)) = mul-le-mul_right (v * (r * Q)) e in
          pick (h * m * (r * Q * f)) (h * r * f * (m * Q)) ((p * v * f + p * v) * (S * v + E)) (v * (f + 1) * v * (p * S)) (v * (f + 1) * (p * E)) (v * (f + 1) * (1171 * w * (r * Q))) (v * (f + 1) * v * (p * S * 32)) (v * (f + 1) * v * (25 * (r * Q))) _ _ (v * v * (r * Q * f)) (one h r f m Q) i (two p v f S E) j k (three v f p S) l (four f w v r Q) (five v f r Q)
        where
          one : (h r f m Q : ℕ) → h * m * (r * Q * f) ≡ h * r * f * (m * Q)
          one h r f m Q = simp (mul_assoc, mul_comm, mul_left_comm)

          two : (p v f S E : ℕ) → (p * v * f + p * v) * (S * v + E) ≡ v * (f + 1) * v * (p * S) + v * (f + 1) * (p * E)
          two p v f S E = naturals ((var 0 :* var 1 :* var 2 :+ var 0 :* var 1) :* (var 3 :* var 1 :+ var 4)) (var 1 :* (var 2 :+ con (pos 1)) :* var 1 :* (var 0 :* var 3) :+ var 1 :* (var 2 :+ con (pos 1)) :* (var 0 :* var 4)) tt (p ∷ v ∷ f ∷ S ∷ E ∷ [])

          three : (v f p S : ℕ) → v * (f + 1) * v * (p * S * 32) ≡ 32 * (v * (f + 1) * v * (p * S))
          three v f p S = naturals (var 0 :* (var 1 :+ con (pos 1)) :* var 0 :* (var 2 :* var 3 :* con (pos 32))) (con (pos 32) :* (var 0 :* (var 1 :+ con (pos 1)) :* var 0 :* (var 2 :* var 3))) tt (v ∷ f ∷ p ∷ S ∷ [])

          four : (f w v r Q : ℕ) → (32 * ((f + 1) * (1171 * w)) + 25 * ((f + 1) * v)) * (v * (r * Q)) ≡ 32 * (v * (f + 1) * (1171 * w * (r * Q))) + v * (f + 1) * v * (25 * (r * Q))
          four f w v r Q = naturals ((con (pos 32) :* ((var 0 :+ con (pos 1)) :* (con (pos 1171) :* var 1)) :+ con (pos 25) :* ((var 0 :+ con (pos 1)) :* var 2)) :* (var 2 :* (var 3 :* var 4))) (con (pos 32) :* (var 2 :* (var 0 :+ con (pos 1)) :* (con (pos 1171) :* var 1 :* (var 3 :* var 4))) :+ var 2 :* (var 0 :+ con (pos 1)) :* var 2 :* (con (pos 25) :* (var 3 :* var 4))) tt (f ∷ w ∷ v ∷ r ∷ Q ∷ [])

          five : (v f r Q : ℕ) → 32 * (v * f) * (v * (r * Q)) ≡ 32 * (v * v * (r * Q * f))
          five v f r Q = naturals (con (pos 32) :* (var 0 :* var 1) :* (var 0 :* (var 2 :* var 3))) (con (pos 32) :* (var 0 :* var 0 :* (var 2 :* var 3 :* var 1))) tt (v ∷ f ∷ r ∷ Q ∷ [])

          pick : (x y z a b c d e f g t : ℕ) → x ≡ y → y ≤ z → z ≡ a + b → b ≤ c → d ≤ e → d ≡ 32 * a → f ≤ g → f ≡ 32 * c + e → g ≡ 32 * t → x ≤ t
          pick x y z a b c d e f g t h1 h2 h3 h4 h5 h6 h7 h8 h9 = omega (arith, h1, h2, h3, h4, h5, h6, h7, h8, h9)

  s_off : Result (count (eta ⊗ eta) * count m) U 1021 ((eta ⊗ eta) ⊗ m)
  s_off = mul_off 1021 (lit≤ tt) eta²_held m_held (lt_of_le_of_lt product_most (mul-lt-mul_of_pos_right (lit≤ {m = suc U} {n = 2 ^ (53 + suc 1021)} tt) (pow_pos 1074)))

  pub sine : Near (151 * u) (sine_top n1 C K) (sine_bottom n2 K) s
  unfolding sin2_t
  sine = record {
    ok = s_off.ok;
    base = mul-pos (mul-pos n2_pos n2_pos) (mul-pos cn.base cn.base);
    off = sine_off (count (eta ⊗ eta)) (count m) (count ((eta ⊗ eta) ⊗ m)) (N1 * N1) (N2 * N2) S Q U u w (2 ^ 51) (w * (66 * Q + 146 * S)) (pow_pos 1074) (pow_pos 51) eta² m_off s_off.off few rf refl refl (lit≤ tt);
  }

  pub sine_in : In 0 0 102 7 s
  unfolding sin2_t
  sine_in = record { sign = wide.sign; least = wide.least; most = num_most 102 7 sine.ok (le_of_mul-le-mul_right (small (count s) (sine_top n1 C K) (sine_bottom n2 K) U (151 * u) sine.off.most (rf) (lit≤ tt)) sine.base) }
    where
      wide : In 0 0 16 0 s
      wide = mul_in eta²_in most_in tt

      small : (x a b v e : ℕ) → x * b ≤ a * v + e * b → a * 32 ≤ 25 * b → e * 2 ^ 7 ≤ v → x * 2 ^ 7 * b ≤ 102 * v * b
      small x a b v e h g l =
          let i : a * 32 * v ≤ 25 * b * v = mul-le-mul_right v g in
          let j : e * 2 ^ 7 * b ≤ v * b = mul-le-mul_right b l in
          omega (arith, h, i, j)

  -- ---- 1 - sin²
  pub left : Near (152 * u) (sine_bottom n2 K - sine_top n1 C K) (sine_bottom n2 K) (one ⊖ s)
  left =
      renamed (sine_bottom n2 K - sine_top n1 C K) (sine_bottom n2 K) sine.base (name (sine_bottom n2 K) (sine_top n1 C K) (less (sine_bottom n2 K) (sine_top n1 C K) (rf)))
      (sub_near 1021 (lit≤ tt) (subst (λ (k : ℕ). gap k (count s) < 2 ^ (53 + suc 1021) * 1) (sym one_count) (small U (count s) (pow_pos 1074) (count_most 102 7 sine.ok sine_in.most))) one_in.sign sine_in.sign one_near sine)
    where
      less : (b a : ℕ) → a * 32 ≤ 25 * b → a ≤ b
      less b a h = omega (arith, h)

      small : (v x : ℕ) → 0 < v → x * 2 ^ 7 ≤ 102 * v → gap v x < 2 * v * 1
      small v x p h = omega (arith, p, h)

      name : (k x : ℕ) → x ≤ k → gap (1 * k) (x * 1) * k ≡ (k - x) * (1 * k)
      name k x h = ap₂ ◌*◌ (one k x h) (sym (one-mul k))
        where
          one : (k x : ℕ) → x ≤ k → gap (1 * k) (x * 1) ≡ k - x
          one k x h = omega (arith, h)

  pub left_in : In 26 7 1 0 (one ⊖ s)
  left_in = sub_in one_in sine_in tt

  -- ---- its root. T / L is 4 / 9 at least
  pub root_least : 4 * L ≤ 9 * T'
  root_least = four (4 * L) (9 * T') (le_of_mul-le-mul_right (le_trans (le_of_eq (one L (sine_bottom n2 K))) (le_trans (squares (sine_top n1 C K) (sine_bottom n2 K) (L * L) (T' * T') (rf) sn.root) (le_of_eq (two T' (sine_bottom n2 K))))) sine.base)
    where
      four : (a b : ℕ) → a * a ≤ b * b → a ≤ b
      four a b h = go (dec_le a b)
        where
          more : (a b : ℕ) → b < a → a * a ≤ b * b → ⊥
          more a b l h = let i : suc b * suc b ≤ a * a = mul-le-mul l l in omega (arith, h, i)

          go : Dec (a ≤ b) → a ≤ b
          go (yes l) = l
          go (no l) = absurd (more a b (lt_of_not-le l) h)

      -- (T-as-T + A-as-LL / B) is LL up to 2 ^ -60, and A / B at most 25 / 32
      one : (L B : ℕ) → 4 * L * (4 * L) * B ≡ 16 * (B * (L * L))
      one L B = omega arith

      two : (t B : ℕ) → 81 * (t * t * B) ≡ 9 * t * (9 * t) * B
      two t B = omega arith

      linear : (P Q R G : ℕ) → R * 32 ≤ 25 * P → P ≤ Q + R + G → G * 2 ^ 60 ≤ P → 16 * P ≤ 81 * Q
      linear P Q R G a b c = omega (arith, a, b, c)

      under : (x y : ℕ) → y ≤ x + gap x y
      under x y = omega arith

      squares : (A B LL TT : ℕ) → A * 32 ≤ 25 * B → gap (TT * B + A * LL) (B * LL) * 2 ^ 60 ≤ B * LL → 16 * (B * LL) ≤ 81 * (TT * B)
      squares A B LL TT h g =
          let i : A * 32 * LL ≤ 25 * B * LL = mul-le-mul_right LL h in
          linear (B * LL) (TT * B) (A * LL) (gap (TT * B + A * LL) (B * LL)) (le_trans (le_of_eq (mul_right_comm A LL 32)) (le_trans i (le_of_eq (mul_assoc 25 B LL)))) (under (TT * B + A * LL) (B * LL)) g

  pub t_in : In 115 8 1 0 (sqrt (one ⊖ s))
  t_in = sqrt_in left_in tt

  root_more : 4 * U ≤ 9 * count (sqrt (one ⊖ s))
  root_more = go (count (sqrt (one ⊖ s))) U (count_least 115 8 r.ok t_in.least)
    where
      r : Rooted u (one ⊖ s) (sqrt (one ⊖ s))
      r = rooted (one ⊖ s) left.ok.held (above (one ⊖ s) left_in) (le_trans (at_most 1 left.ok left_in) (le_of_eq (one-mul U)))

      go : (c v : ℕ) → 115 * v ≤ c * 2 ^ 8 → 4 * v ≤ 9 * c
      go c v h = omega (arith, h)

  -- x within 153·2 ^ -53 of (T / L)²
  near_square : Within (153 * u * (L * L)) (count (one ⊖ s) * (L * L)) (T' * T' * U)
  near_square = go (count (one ⊖ s)) (sine_top n1 C K) (sine_bottom n2 K) (L * L) (T' * T') sine.base (less (sine_bottom n2 K) (sine_top n1 C K) (rf)) left.off sn.root
    where
      less : (b a : ℕ) → a * 32 ≤ 25 * b → a ≤ b
      less b a h = omega (arith, h)

      -- |x - y| of what is left
      move : (P Q R G : ℕ) → R ≤ P → gap (Q + R) P ≡ G → Within G (P - R) Q
      move P Q R G h e = omega (arith, h, e)

      less_times : (b a l : ℕ) → (b - a) * l ≡ b * l - a * l
      less_times a b c = mul_comm (a - b) c ∙ mul-sub c a b ∙ ap₂ ◌-◌ (mul_comm c a) (mul_comm c b)

      part : (G P v : ℕ) → G * 2 ^ 60 ≤ P → v ≡ 2 ^ 60 * 2 ^ 1014 → G * v ≤ 2 ^ 1014 * P
      part G P v h e = le_trans (le_of_eq (ap (λ (z : ℕ). G * z) e ∙ sym (mul_assoc G (2 ^ 60) (2 ^ 1014)))) (le_trans (mul-le-mul_right (2 ^ 1014) h) (le_of_eq (mul_comm P (2 ^ 1014))))

      go : (X A B LL TT : ℕ) → 0 < B → A ≤ B → Within (152 * u * B) (X * B) ((B - A) * U) → gap (TT * B + A * LL) (B * LL) * 2 ^ 60 ≤ B * LL → Within (153 * u * LL) (X * LL) (TT * U)
      go X A B LL TT p l h g =
          let G = gap (TT * B + A * LL) (B * LL) in
          let m : Within G (B * LL - A * LL) (TT * B) = move (B * LL) (TT * B) (A * LL) G (mul-le-mul_right LL l) refl in
          let n : Within (G * U) ((B * LL - A * LL) * U) (TT * B * U) = times U m in
          let o : Within (2 ^ 1014 * (B * LL)) ((B * LL - A * LL) * U) (TT * B * U) = widen (part G (B * LL) U g refl) n in
          let q : Within (152 * u * B * LL) (X * B * LL) ((B - A) * U * LL) = times LL h in
          let e : (B - A) * U * LL ≡ (B * LL - A * LL) * U = mul_right_comm (B - A) U LL ∙ ap (λ (z : ℕ). z * U) (less_times B A LL) in
          untimes (153 * u * LL) (X * LL) (TT * U) B p
          (widen (total B LL (152 * u) (2 ^ 1014) (153 * u) (lit≤ tt)) (known refl (mul_right_comm X B LL) (mul_right_comm TT B U) (chain q (known refl (sym e) refl o))))
        where
          total : (B LL a b c : ℕ) → a + b ≤ c → a * B * LL + b * (B * LL) ≤ c * LL * B
          total B LL a b c h = let i : (a + b) * (B * LL) ≤ c * (B * LL) = mul-le-mul_right (B * LL) h in omega (arith, i)

  pub root_near : Near (176 * u) T' L (sqrt (one ⊖ s))
  root_near =
      let r : Rooted u (one ⊖ s) (sqrt (one ⊖ s)) = rooted (one ⊖ s) left.ok.held (above (one ⊖ s) left_in) (le_trans (at_most 1 left.ok left_in) (le_of_eq (one-mul U))) in
      record { ok = r.ok; base = sn.base; off = root_off U (count (sqrt (one ⊖ s))) (count (one ⊖ s)) T' L (153 * u) u (176 * u) r.least r.most near_square root_more root_least (lit≤ tt) (lit≤ tt) }
