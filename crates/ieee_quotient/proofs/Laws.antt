-- A product, what it leaves, and their sum: the quotient, for every x from 2 ^ -100. Assumes nothing.
use mathlib.Core.Path.{◌≡◌, refl, sym, ap, ap₂, ◌∙◌, subst}
use mathlib.Core.Logic.{inl, inr}
use Prim.Native.Nat.{ℕ, ◌+◌, ◌-◌, ◌*◌, ◌^◌, ◌≤◌, ◌<◌}
use native.Mathlib.Nat.{le_trans, le_of_eq, lt_of_lt_of_le, lt_of_le_of_lt, mul-one, one-mul, zero-mul, mul_comm, mul_assoc, mul_left_comm, mul-le-mul_right, mul-le-mul_left, mul-pos, add-mul, mul-add, le-add_right, le-add_left, mul-sub, sub-le, eq-zero-or-pos, lt_of_mul-lt-mul_right}
use native.Mathlib.Omega.{arith}
use mathlib.Core.Bool.{false}
use lib.Dec.{lit≤}
use lib.Pow.{pow-add, pow_pos, pow_mono}
use lib.Ieee.{Float, binary64, round}
use lib.Ieee.Exact.{HasValue}
use lib.Ieee.Fits.{add-fits, div-fits}
use lib.Ieee.Order.{drop, kept}
use lib.Ieee.Scale.{round_same}
use Rattle.ieee.specs.Operators.{◌⊕◌, ◌⊖◌, ◌⊗◌, ◌⊘◌}
use Rattle.ieee.specs.Range.{Mag, In}
use Rattle.ieee.proofs.Range.Values.{pow_lt_back, unique}
use Rattle.whole_nearest.specs.Nearest.{Nearest}
use Rattle.ieee_quotient.proofs.Units.{Unit, unit_of, unit_scale, unit_value, exact_value, Count, mul_count, sub_count, add_count, div_count}
use Rattle.ieee_quotient.proofs.Numbers.{rounded_under, rounded_over, pulled, pushed, at_least, at_most, multiple, kept_alike, digits_least, digits_most, trim_least, trim_most, left_over, few_left, rest_few, added_few, sum_low, sum_high}

-- c, of the powers h = 2 ^ e and B = 2 ^ b, is A + B with A = 2 h B
abbrev pub divisor : ℕ → ℕ → ℕ
divisor e b = (2 * 2 ^ e + 1) * 2 ^ b

-- y below 1 / c and u above it, each by few roundings; y A and y B; and c itself
pub record Constants (e b : ℕ) (y ya yb u c : Float) : Type 0 where
  pub ny : ℕ
  pub dy : ℕ
  pub nu : ℕ
  pub du : ℕ
  pub dy_pos : 0 < dy
  pub du_pos : 0 < du
  pub y_is : HasValue y false ny dy
  pub ya_is : HasValue ya false (ny * 2 ^ (e + b + 1)) dy
  pub yb_is : HasValue yb false (ny * 2 ^ b) dy
  pub u_is : HasValue u false nu du
  pub c_is : HasValue c false (divisor e b) 1
  pub y_below : ny * divisor e b * (2 ^ 53 + 1) ≤ dy * 2 ^ 53
  pub y_near : dy * (2 ^ 51 - 1) ≤ ny * divisor e b * 2 ^ 51
  pub u_above : du * 2 ^ 53 ≤ nu * divisor e b * (2 ^ 53 - 1)
  pub u_near : nu * divisor e b * 2 ^ 51 ≤ du * (2 ^ 51 + 1)
  pub y_size : dy ≤ ny * 2 ^ 12
  pub u_size : du ≤ nu * 2 ^ 12
  pub few : 16 * (2 * 2 ^ e + 1) < 2 ^ 50
  pub small : 2 ^ (e + b + 1) ≤ 2 ^ 8
  pub y_most : Mag 1 0 y
  pub ya_most : Mag 1 0 ya
  pub yb_most : Mag 1 0 yb
  pub u_most : Mag 1 0 u
  pub c_in : In 2 0 1000 0 c

-- A, and c = A + B
power : (e b : ℕ) → 2 ^ (e + b + 1) ≡ 2 * 2 ^ e * 2 ^ b
power e b = pow-add 2 (e + b) 1 ∙ ap (λ (x : ℕ). x * 2 ^ 1) (pow-add 2 e b) ∙ turn (2 ^ e) (2 ^ b)
  where
    turn : (h B : ℕ) → h * B * 2 ≡ 2 * h * B
    turn h B = omega arith

both : (e b : ℕ) → divisor e b ≡ 2 ^ (e + b + 1) + 2 ^ b
both e b = add-mul (2 * 2 ^ e) 1 (2 ^ b) ∙ ap₂ ◌+◌ (sym (power e b)) (one-mul (2 ^ b))

module _ (e b : ℕ) {y ya yb u c : Float} (C : Constants e b y ya yb u c) (x : Float) (N m j : ℕ) (X : Count x N) (spelled : N ≡ m * 2 ^ j) (digits : m < 2 ^ 53)
    (least : 2 ^ 974 ≤ N) (most : N < 2 ^ (1074 + 1024)) where
  abbrev ny : ℕ
  ny = C.ny

  abbrev dy : ℕ
  dy = C.dy

  abbrev cc : ℕ
  cc = divisor e b

  abbrev a : ℕ
  a = e + b + 1

  cc_pos : 0 < cc
  cc_pos = mul-pos (odd_pos (2 ^ e)) (pow_pos b)
    where
      odd_pos : (h : ℕ) → 0 < 2 * h + 1
      odd_pos h = omega arith

  from_64 : 2 ^ 64 ≤ N
  from_64 = le_trans (pow_mono (lit≤ {m = 64} {n = 974} tt)) least

  -- ---- q
  -- a product with y or u, as d ≤ n 2 ^ 12, is in the normal range
  normal : (n d k : ℕ) → d ≤ n * 2 ^ 12 → 2 ^ 64 ≤ k → 2 ^ 52 * d ≤ k * n
  normal n d k h l = le_trans (mul-le-mul_left (2 ^ 52) h) (le_trans (le_of_eq (turn n)) (mul-le-mul_right n l))
    where
      turn : (n : ℕ) → 2 ^ 52 * (n * 2 ^ 12) ≡ 2 ^ 64 * n
      turn n = omega arith

  abbrev P : ℕ
  P = kept 53 (N * ny) dy

  abbrev k : ℕ
  k = drop 53 (N * ny) dy

  q_unit : Unit (N * ny) dy P k
  q_unit = unit_of (N * ny) dy C.dy_pos (normal ny dy N C.y_size from_64)

  abbrev Q : ℕ
  Q = P * 2 ^ k

  W_pos : 0 < dy * 2 ^ k
  W_pos = mul-pos C.dy_pos (pow_pos k)

  in_parts : P * (dy * 2 ^ k) ≡ Q * dy
  in_parts = simp (mul_assoc, mul_comm, mul_left_comm)

  q_under : Q * cc ≤ N
  q_under =
      pulled Q N dy cc ny (2 ^ 53) (2 ^ 53 + 1) (mul-pos C.dy_pos (pow_pos 53))
      (subst (λ (g : ℕ). g * 2 ^ 53 ≤ N * ny * (2 ^ 53 + 1)) in_parts (rounded_under (N * ny) (dy * 2 ^ k) (P * (dy * 2 ^ k)) q_unit.least q_unit.near.under))
      C.y_below

  q_over : N * (2 ^ 50 - 1) ≤ Q * cc * 2 ^ 50
  q_over =
      trim_least N (Q * cc)
      (at_least Q N dy cc ny (2 ^ 53) (2 ^ 53 - 1) (2 ^ 51 - 1) (2 ^ 51) C.dy_pos
      (subst (λ (g : ℕ). N * ny * (2 ^ 53 - 1) ≤ g * 2 ^ 53) in_parts (rounded_over (N * ny) (dy * 2 ^ k) (P * (dy * 2 ^ k)) q_unit.least q_unit.near.over))
      C.y_near)

  P_least : 2 ^ 52 ≤ P
  P_least = digits_least (N * ny) (dy * 2 ^ k) P q_unit.least q_unit.near.over W_pos

  P_most : P ≤ 2 ^ 53
  P_most = digits_most (N * ny) (dy * 2 ^ k) P q_unit.most q_unit.near.under

  -- q A and q B, which together are q c
  abbrev QA : ℕ
  QA = P * 2 ^ (k + a)

  abbrev QB : ℕ
  QB = P * 2 ^ (k + b)

  together : Q * cc ≡ QA + QB
  together =
      ap (λ (z : ℕ). Q * z) (both e b)
      ∙ mul-add Q (2 ^ a) (2 ^ b)
      ∙ ap₂ ◌+◌ (mul_assoc P (2 ^ k) (2 ^ a) ∙ ap (λ (z : ℕ). P * z) (sym (pow-add 2 k a))) (mul_assoc P (2 ^ k) (2 ^ b) ∙ ap (λ (z : ℕ). P * z) (sym (pow-add 2 k b)))

  QA+QB : QA + QB ≤ N
  QA+QB = le_trans (le_of_eq (sym together)) q_under

  QA_most : QA ≤ N
  QA_most = le_trans (le-add_right QA QB) QA+QB

  QB_most : QB ≤ N
  QB_most = le_trans (le-add_left QB QA) QA+QB

  Q_most : Q ≤ N
  Q_most = le_trans (le_trans (le_of_eq (sym (mul-one Q))) (mul-le-mul_left Q cc_pos)) q_under

  q_count : Count (x ⊗ y) Q
  q_count =
      subst (λ (z : Float). Count z Q) (sym (mul_count x y N ny dy C.dy_pos X C.y_is))
      (unit_value (N * ny) dy P k C.dy_pos q_unit (lt_of_le_of_lt Q_most most))

  part : (z : Float) (t : ℕ) → HasValue z false (ny * 2 ^ t) dy → P * 2 ^ (k + t) ≤ N → Count (x ⊗ z) (P * 2 ^ (k + t))
  part z t h l =
      subst (λ (w : Float). Count w (P * 2 ^ (k + t))) (sym (mul_count x z N (ny * 2 ^ t) dy C.dy_pos X h ∙ ap (λ (n : ℕ). round binary64 false n (dy * 2 ^ 1074)) (sym (mul_assoc N ny (2 ^ t)))))
      (unit_value (N * ny * 2 ^ t) dy P (k + t) C.dy_pos (unit_scale (N * ny) dy P k t q_unit) (lt_of_le_of_lt l most))

  -- ---- r
  -- x is a whole number of 2 ^ (k + a)
  many : (M : ℕ) × (m * 2 ^ j ≡ M * 2 ^ (k + a))
  many = multiple m j (k + a) digits (le_trans (mul-le-mul_right (2 ^ (k + a)) P_least) (le_trans QA_most (le_of_eq spelled)))

  abbrev M : ℕ
  M = many.0

  N_is : N ≡ M * 2 ^ (k + a)
  N_is = spelled ∙ many.1

  M_few : M < P + 2 ^ 53
  M_few =
      few_left (2 ^ e) (2 ^ b) (2 ^ k) M P (pow_pos e) (pow_pos b) (pow_pos k) P_most
      (subst (λ (n : ℕ). n * (2 ^ 50 - 1) ≤ Q * cc * 2 ^ 50) (N_is ∙ ap (λ (z : ℕ). M * z) (pow-add 2 k a ∙ ap (λ (z : ℕ). 2 ^ k * z) (power e b))) q_over)

  first_few : M - P < 2 ^ 53
  first_few = go M P M_few
    where
      go : (M P : ℕ) → M < P + 2 ^ 53 → M - P < 2 ^ 53
      go M P h = omega arith

  first_is : N - QA ≡ (M - P) * 2 ^ (k + a)
  first_is = ap (λ (n : ℕ). n - QA) N_is ∙ taken M P (2 ^ (k + a))
    where
      taken : (M P w : ℕ) → M * w - P * w ≡ (M - P) * w
      taken M P w = ap₂ ◌-◌ (mul_comm M w) (mul_comm P w) ∙ sym (mul-sub w M P) ∙ mul_comm w (M - P)

  t_count : Count (x ⊖ x ⊗ ya) (N - QA)
  t_count =
      subst (λ (z : Float). Count z (N - QA)) (sym (sub_count x (x ⊗ ya) N QA X (part ya a C.ya_is QA_most) QA_most))
      (exact_value (N - QA) (M - P) (k + a) first_is first_few (lt_of_le_of_lt (sub-le N QA) most))

  abbrev R : ℕ
  R = N - QA - QB

  R_and : R + Q * cc ≡ N
  R_and = ap (λ (z : ℕ). R + z) together ∙ go N QA QB QA+QB
    where
      go : (N p q : ℕ) → p + q ≤ N → N - p - q + (p + q) ≡ N
      go N p q h = omega arith

  R_small : R * 2 ^ 50 ≤ N
  R_small = left_over N (Q * cc) R R_and q_over

  -- in units of 2 ^ k
  abbrev f : ℕ
  f = M * 2 ^ a - P * 2 ^ a - P * 2 ^ b

  R_is : R ≡ f * 2 ^ k
  R_is = ap (λ (n : ℕ). n - QA - QB) N_is ∙ ap₂ (λ (z w : ℕ). z - w) (ap₂ ◌-◌ (up M a) (up P a)) (up P b) ∙ taken (M * 2 ^ a) (P * 2 ^ a) (P * 2 ^ b) (2 ^ k)
    where
      up : (M t : ℕ) → M * 2 ^ (k + t) ≡ M * 2 ^ t * 2 ^ k
      up M t = ap (λ (z : ℕ). M * z) (pow-add 2 k t ∙ mul_comm (2 ^ k) (2 ^ t)) ∙ sym (mul_assoc M (2 ^ t) (2 ^ k))

      taken : (p q r w : ℕ) → p * w - q * w - r * w ≡ (p - q - r) * w
      taken p q r w =
          ap₂ ◌-◌ (ap₂ ◌-◌ (mul_comm p w) (mul_comm q w) ∙ sym (mul-sub w p q)) (mul_comm r w)
          ∙ sym (mul-sub w (p - q) r)
          ∙ mul_comm w (p - q - r)

  f_few : f < 2 ^ 53
  f_few =
      rest_few f (2 ^ k) M (2 ^ a) (pow_pos k) C.small (below M P M_few P_most)
      (le_trans (le_of_eq (ap (λ (z : ℕ). z * 2 ^ 50) (sym R_is))) (le_trans R_small (le_of_eq (N_is ∙ ap (λ (z : ℕ). M * z) (pow-add 2 k a)))))
    where
      below : (M P : ℕ) → M < P + 2 ^ 53 → P ≤ 2 ^ 53 → M < 2 ^ 54
      below M P h l = omega arith

  r_count : Count (x ⊖ x ⊗ ya ⊖ x ⊗ yb) R
  r_count =
      subst (λ (z : Float). Count z R) (sym (sub_count (x ⊖ x ⊗ ya) (x ⊗ yb) (N - QA) QB t_count (part yb b C.yb_is QB_most) (left N QA QB QA+QB)))
      (exact_value R f k R_is f_few (lt_of_le_of_lt (le_trans (sub-le (N - QA) QB) (sub-le N QA)) most))
    where
      left : (N p q : ℕ) → p + q ≤ N → q ≤ N - p
      left N p q h = omega arith

  -- ---- r u: as near above R / c
  abbrev nu : ℕ
  nu = C.nu

  abbrev du : ℕ
  du = C.du

  record Above (E : ℕ) : Type 0 where
    counted : Count ((x ⊖ x ⊗ ya ⊖ x ⊗ yb) ⊗ u) E
    low : R ≤ E * cc
    high : E * cc * 2 ^ 50 ≤ R * (2 ^ 50 + 1)

  r_mul : (x ⊖ x ⊗ ya ⊖ x ⊗ yb) ⊗ u ≡ round binary64 false (R * nu) (du * 2 ^ 1074)
  r_mul = mul_count (x ⊖ x ⊗ ya ⊖ x ⊗ yb) u R nu du C.du_pos r_count C.u_is

  -- nothing is left
  none : R ≡ 0 → Above 0
  none z = record {
    counted = subst (λ (v : Float). Count v 0) (sym (r_mul ∙ round_same binary64 false (R * nu) (du * 2 ^ 1074) 0 (2 ^ 1074) (mul-pos C.du_pos (pow_pos 1074)) (pow_pos 1074) zeros))
        (exact_value 0 0 0 refl (pow_pos 53) (pow_pos (1074 + 1024)));
    low = le_of_eq (z ∙ sym (zero-mul cc));
    high = le_trans (le_of_eq (ap (λ (v : ℕ). v * 2 ^ 50) (zero-mul cc))) (zero-le (R * (2 ^ 50 + 1)));
  }
    where
      zeros : R * nu * 2 ^ 1074 ≡ 0 * (du * 2 ^ 1074)
      zeros = ap (λ (v : ℕ). v * nu * 2 ^ 1074) z ∙ ap (λ (v : ℕ). v * 2 ^ 1074) (zero-mul nu) ∙ zero-mul (2 ^ 1074) ∙ sym (zero-mul (du * 2 ^ 1074))

      zero-le : (n : ℕ) → 0 * 2 ^ 50 ≤ n
      zero-le n = omega arith

  -- 2 ^ k is large
  k_large : 64 ≤ k
  k_large = back k (pow_lt_back 974 (65 + k) (lt_of_le_of_lt least (lt_of_mul-lt-mul_right ny (lt_of_lt_of_le q_unit.most (le_trans (mul-le-mul_left (2 ^ 53) (mul-le-mul_right (2 ^ k) C.y_size)) (le_of_eq (turn ny (2 ^ k) ∙ ap (λ (z : ℕ). z * ny) (sym (pow-add 2 65 k)))))))))
    where
      turn : (n w : ℕ) → 2 ^ 53 * (n * 2 ^ 12 * w) ≡ 2 ^ 65 * w * n
      turn n w = simp (mul_assoc, mul_comm, mul_left_comm)

      back : (k : ℕ) → 974 < 65 + k → 64 ≤ k
      back k h = omega arith

  some : 0 < f → Above (kept 53 (R * nu) du * 2 ^ drop 53 (R * nu) du)
  some F =
      let R_large : 2 ^ 64 ≤ R = le_trans (pow_mono k_large) (le_trans (le_of_eq (sym (one-mul (2 ^ k)))) (le_trans (mul-le-mul_right (2 ^ k) F) (le_of_eq (sym R_is)))) in
      let p = kept 53 (R * nu) du in
      let i = drop 53 (R * nu) du in
      let v = unit_of (R * nu) du C.du_pos (normal nu du R C.u_size R_large) in
      let g : p * (du * 2 ^ i) ≡ p * 2 ^ i * du = simp (mul_assoc, mul_comm, mul_left_comm) in
      let low = pushed (p * 2 ^ i) R du cc nu (2 ^ 53) (2 ^ 53 - 1) (mul-pos C.du_pos (pow_pos 53))
      (subst (λ (z : ℕ). R * nu * (2 ^ 53 - 1) ≤ z * 2 ^ 53) g (rounded_over (R * nu) (du * 2 ^ i) (p * (du * 2 ^ i)) v.least v.near.over))
      C.u_above in
      let high = trim_most (p * 2 ^ i * cc) R
      (at_most (p * 2 ^ i) R du cc nu (2 ^ 53) (2 ^ 53 + 1) (2 ^ 51 + 1) (2 ^ 51) C.du_pos
      (subst (λ (z : ℕ). z * 2 ^ 53 ≤ R * nu * (2 ^ 53 + 1)) g (rounded_under (R * nu) (du * 2 ^ i) (p * (du * 2 ^ i)) v.least v.near.under))
      C.u_near) in
      record {
        counted = subst (λ (z : Float). Count z (p * 2 ^ i)) (sym r_mul) (unit_value (R * nu) du p i C.du_pos v (under (p * 2 ^ i) high));
        low = low;
        high = high;
      }
    where
      under : (E : ℕ) → E * cc * 2 ^ 50 ≤ R * (2 ^ 50 + 1) → E < 2 ^ (1074 + 1024)
      under E h = lt_of_le_of_lt (added_few E (E * cc) R N (le_trans (le_of_eq (sym (mul-one E))) (mul-le-mul_left E cc_pos)) h R_small) most

  -- ---- the sum
  abbrev K : ℕ
  K = kept 53 N cc

  abbrev i : ℕ
  i = drop 53 N cc

  quotient_unit : Unit N cc K i
  quotient_unit = unit_of N cc cc_pos (le_trans (mul-le-mul_left (2 ^ 52) c_small) (le_trans (le_of_eq (sym (pow-add 2 52 12))) from_64))
    where
      twice : (A B : ℕ) → A ≤ 2 ^ 8 → B ≤ A → A + B ≤ 2 ^ 12
      twice A B h l = omega arith

      c_small : cc ≤ 2 ^ 12
      c_small = le_trans (le_of_eq (both e b)) (twice (2 ^ a) (2 ^ b) C.small (pow_mono (deeper e b)))
        where
          deeper : (e b : ℕ) → b ≤ e + b + 1
          deeper e b = omega arith

  A_most : 2 ^ a ≤ cc
  A_most = le_trans (le-add_right (2 ^ a) (2 ^ b)) (le_of_eq (sym (both e b)))

  -- x is a whole number of 2 ^ (i + a), too
  wide : (M : ℕ) × (m * 2 ^ j ≡ M * 2 ^ (i + a))
  wide = multiple m j (i + a) digits (le_trans (mul-le-mul_left (2 ^ 52) (le_trans (le_of_eq (pow-add 2 i a ∙ mul_comm (2 ^ i) (2 ^ a))) (mul-le-mul_right (2 ^ i) A_most))) (le_trans quotient_unit.least (le_of_eq spelled)))

  abbrev N' : ℕ
  N' = wide.0 * (2 * 2 ^ e * (2 ^ b * 2 ^ i))

  N'_is : N ≡ N'
  N'_is = spelled ∙ wide.1 ∙ ap (λ (z : ℕ). wide.0 * z) (pow-add 2 i a ∙ ap (λ (z : ℕ). 2 ^ i * z) (power e b) ∙ turn (2 ^ i) (2 * 2 ^ e) (2 ^ b))
    where
      turn : (U h B : ℕ) → U * (h * B) ≡ h * (B * U)
      turn U h B = simp (mul_comm, mul_left_comm)

  sum_unit : (E : ℕ) → Above E → Unit (Q + E) 1 K i
  sum_unit E h =
      let s = kept_alike (2 ^ e) (2 ^ b) (2 ^ i) wide.0 K (Q + E) R (pow_pos b) (pow_pos i) C.few
      (subst (λ (n : ℕ). 2 ^ 52 * (cc * 2 ^ i) ≤ n) N'_is quotient_unit.least)
      (subst (λ (n : ℕ). n < 2 ^ 53 * (cc * 2 ^ i)) N'_is quotient_unit.most)
      (subst (λ (n : ℕ). Nearest n (cc * 2 ^ i) K) N'_is quotient_unit.near)
      (subst (λ (n : ℕ). n ≤ (Q + E) * cc) N'_is (sum_low Q E cc R N R_and h.low))
      (subst (λ (n : ℕ). (Q + E) * cc * 2 ^ 50 ≤ n * 2 ^ 50 + R) N'_is (sum_high Q E cc R N R_and h.high))
      (subst (λ (n : ℕ). R * 2 ^ 50 ≤ n) N'_is R_small) in
      record { least = s.0; most = s.1; near = s.2 }

  K_under : K * 2 ^ i < 2 ^ (1074 + 1024)
  K_under =
      lt_of_le_of_lt
      (le_trans (mul-le-mul_right (2 ^ i) (digits_most N (cc * 2 ^ i) K quotient_unit.most quotient_unit.near.under))
      (le_trans (le_of_eq (half (2 ^ i))) (le_trans (mul-le-mul_left (2 ^ 52) (mul-le-mul_right (2 ^ i) (le_trans (pow_mono (one_least e b)) A_most))) quotient_unit.least)))
      most
    where
      half : (U : ℕ) → 2 ^ 53 * U ≡ 2 ^ 52 * (2 ^ 1 * U)
      half U = omega arith

      one_least : (e b : ℕ) → 1 ≤ e + b + 1
      one_least e b = omega arith

  same : (E : ℕ) → Above E → x ⊗ y ⊕ (x ⊖ x ⊗ ya ⊖ x ⊗ yb) ⊗ u ≡ x ⊘ c
  same E h =
      let s = x ⊗ y ⊕ (x ⊖ x ⊗ ya ⊖ x ⊗ yb) ⊗ u in
      unique binary64 s (x ⊘ c) false (K * 2 ^ i) (2 ^ 1074) (pow_pos 1074) (add-fits binary64 (x ⊗ y) ((x ⊖ x ⊗ ya ⊖ x ⊗ yb) ⊗ u)) (div-fits binary64 x c)
      (subst (λ (z : Float). Count z (K * 2 ^ i)) (sym (add_count (x ⊗ y) ((x ⊖ x ⊗ ya ⊖ x ⊗ yb) ⊗ u) Q E q_count h.counted ∙ ap (round binary64 false (Q + E)) (sym (one-mul (2 ^ 1074)))))
      (unit_value (Q + E) 1 K i (pos_one E) (sum_unit E h) K_under))
      (subst (λ (z : Float). Count z (K * 2 ^ i)) (sym (div_count x c N cc cc_pos X C.c_is)) (unit_value N cc K i cc_pos quotient_unit K_under))
    where
      pos_one : (E : ℕ) → 0 < 1
      pos_one E = lit≤ tt

  pub sum_is : x ⊗ y ⊕ (x ⊖ x ⊗ ya ⊖ x ⊗ yb) ⊗ u ≡ x ⊘ c
  sum_is = elim (eq-zero-or-pos f) [ inl z ↦ same 0 (none (R_is ∙ ap (λ (w : ℕ). w * 2 ^ k) z ∙ zero-mul (2 ^ k))) | inr z ↦ same (kept 53 (R * nu) du * 2 ^ drop 53 (R * nu) du) (some z) ]
