-- The whole numbers behind a quotient by c = (2 h + 1) B without a division. Nothing here is about floats. Assumes nothing.
use mathlib.Core.Path.{◌≡◌, sym, ap, ◌∙◌, subst}
use Prim.Native.Nat.{ℕ, suc, ◌+◌, ◌-◌, ◌*◌, ◌^◌, ◌≤◌, ◌<◌}
use native.Mathlib.Nat.{le_trans, le_of_eq, lt_of_lt_of_le, lt_of_le_of_lt, one-mul, mul_comm, mul_assoc, mul_left_comm, mul_right_comm, mul-le-mul_right, mul-le-mul_left, mul-lt-mul_of_pos_right, mul-pos, le_of_mul-le-mul_right, lt_of_mul-lt-mul_right, add-mul}
use native.Mathlib.Omega.{arith}
use lib.Dec.{lit≤}
use lib.Pow.{pow-add, pow_pos}
use Rattle.ieee.proofs.Range.Values.{pow_lt_back, split_pow}
use Rattle.whole_nearest.specs.Nearest.{Nearest}

-- ---- a fraction n and what it is rounded to, both in parts of the unit W: they differ by half a unit, and n is 2 ^ 52 units at least
pub rounded_under : (n W g : ℕ) → 2 ^ 52 * W ≤ n → 2 * g ≤ 2 * n + W → g * 2 ^ 53 ≤ n * (2 ^ 53 + 1)
rounded_under n W g h l = omega arith

pub rounded_over : (n W g : ℕ) → 2 ^ 52 * W ≤ n → 2 * n ≤ 2 * g + W → n * (2 ^ 53 - 1) ≤ g * 2 ^ 53
rounded_over n W g h l = omega arith

-- ---- a product with y / d, which is near 1 / c
pub pulled : (X N d c y F G : ℕ) → 0 < d * F → X * d * F ≤ N * y * G → y * c * G ≤ d * F → X * c ≤ N
pulled X N d c y F G D h k =
    let a : X * c * (d * F) ≡ X * d * F * c = simp (mul_assoc, mul_comm, mul_left_comm) in
    let b : N * y * G * c ≡ y * c * G * N = simp (mul_assoc, mul_comm, mul_left_comm) in
    le_of_mul-le-mul_right (le_trans (le_of_eq a) (le_trans (mul-le-mul_right c h) (le_trans (le_of_eq b) (le_trans (mul-le-mul_right N k) (le_of_eq (mul_comm (d * F) N)))))) D

pub pushed : (X N d c y F G : ℕ) → 0 < d * F → N * y * G ≤ X * d * F → d * F ≤ y * c * G → N ≤ X * c
pushed X N d c y F G D h k =
    let a : X * d * F * c ≡ X * c * (d * F) = simp (mul_assoc, mul_comm, mul_left_comm) in
    let b : y * c * G * N ≡ N * y * G * c = simp (mul_assoc, mul_comm, mul_left_comm) in
    le_of_mul-le-mul_right (le_trans (le_of_eq (mul_comm N (d * F))) (le_trans (mul-le-mul_right N k) (le_trans (le_of_eq b) (le_trans (mul-le-mul_right c h) (le_of_eq a))))) D

pub at_least : (X N d c y F G H I : ℕ) → 0 < d → N * y * G ≤ X * d * F → d * H ≤ y * c * I → N * (G * H) ≤ X * c * (F * I)
at_least X N d c y F G H I D h k =
    let a : N * (G * H) * d ≡ d * H * (N * G) = simp (mul_assoc, mul_comm, mul_left_comm) in
    let b : y * c * I * (N * G) ≡ N * y * G * (c * I) = simp (mul_assoc, mul_comm, mul_left_comm) in
    let e : X * d * F * (c * I) ≡ X * c * (F * I) * d = simp (mul_assoc, mul_comm, mul_left_comm) in
    le_of_mul-le-mul_right (le_trans (le_of_eq a) (le_trans (mul-le-mul_right (N * G) k) (le_trans (le_of_eq b) (le_trans (mul-le-mul_right (c * I) h) (le_of_eq e))))) D

pub at_most : (X N d c y F G H I : ℕ) → 0 < d → X * d * F ≤ N * y * G → y * c * I ≤ d * H → X * c * (F * I) ≤ N * (G * H)
at_most X N d c y F G H I D h k =
    let a : d * H * (N * G) ≡ N * (G * H) * d = simp (mul_assoc, mul_comm, mul_left_comm) in
    let b : N * y * G * (c * I) ≡ y * c * I * (N * G) = simp (mul_assoc, mul_comm, mul_left_comm) in
    let e : X * c * (F * I) * d ≡ X * d * F * (c * I) = simp (mul_assoc, mul_comm, mul_left_comm) in
    le_of_mul-le-mul_right (le_trans (le_of_eq e) (le_trans (mul-le-mul_right (c * I) h) (le_trans (le_of_eq b) (le_trans (mul-le-mul_right (N * G) k) (le_of_eq a))))) D

-- ---- m 2 ^ j of few digits that is 2 ^ 52 of 2 ^ i at least is a multiple of 2 ^ i
pub multiple : (m j i : ℕ) → m < 2 ^ 53 → 2 ^ 52 * 2 ^ i ≤ m * 2 ^ j → (M : ℕ) × (m * 2 ^ j ≡ M * 2 ^ i)
multiple m j i h l = (m * 2 ^ (j - i), split_pow m i j (back (pow_lt_back (52 + i) (53 + j) (lt_of_le_of_lt (le_of_eq (pow-add 2 52 i)) (lt_of_le_of_lt l (lt_of_lt_of_le (mul-lt-mul_of_pos_right h (pow_pos j)) (le_of_eq (sym (pow-add 2 53 j)))))))))
  where
    back : 52 + i < 53 + j → i ≤ j
    back h = omega arith

-- ---- a sum S that is at least N / c, and more by little, is rounded as N / c is, as 2 h + 1 is odd
-- what is even and what is odd, times w, differ by w at least
apart : (p q w : ℕ) → 0 < w → p * w ≤ q * w → (p ≤ q → suc p ≤ q) → p * w + w ≤ q * w
apart p q w W l f = le_trans (le_of_eq (one_more p w)) (mul-le-mul_right w (f (le_of_mul-le-mul_right l W)))
  where
    one_more : (p w : ℕ) → p * w + w ≡ suc p * w
    one_more p w = omega arith

module _ (h w M K : ℕ) (W : 0 < w) where
  left : 2 * (K * ((2 * h + 1) * w)) ≡ 2 * (K * (2 * h + 1)) * w
  left = simp (mul_assoc)

  right : 2 * (M * (2 * h * w)) ≡ 2 * (M * (2 * h)) * w
  right = simp (mul_assoc)

  odd_under : 2 * (K * ((2 * h + 1) * w)) ≤ 2 * (M * (2 * h * w)) + (2 * h + 1) * w → 2 * (K * ((2 * h + 1) * w)) + w ≤ 2 * (M * (2 * h * w)) + (2 * h + 1) * w
  odd_under l =
      let e : 2 * (M * (2 * h * w)) + (2 * h + 1) * w ≡ (2 * (M * (2 * h)) + (2 * h + 1)) * w = ap (λ (x : ℕ). x + (2 * h + 1) * w) right ∙ sym (add-mul (2 * (M * (2 * h))) (2 * h + 1) w) in
      le_trans (le_of_eq (ap (λ (x : ℕ). x + w) left))
      (le_trans (apart (2 * (K * (2 * h + 1))) (2 * (M * (2 * h)) + (2 * h + 1)) w W (le_trans (le_of_eq (sym left)) (le_trans l (le_of_eq e))) (parity (K * (2 * h + 1)) (M * (2 * h)) h)) (le_of_eq (sym e)))
    where
      parity : (a b h : ℕ) → 2 * a ≤ 2 * b + (2 * h + 1) → suc (2 * a) ≤ 2 * b + (2 * h + 1)
      parity a b h l = omega arith

  odd_over : 2 * (M * (2 * h * w)) ≤ 2 * (K * ((2 * h + 1) * w)) + (2 * h + 1) * w → 2 * (M * (2 * h * w)) + w ≤ 2 * (K * ((2 * h + 1) * w)) + (2 * h + 1) * w
  odd_over l =
      let e : 2 * (K * ((2 * h + 1) * w)) + (2 * h + 1) * w ≡ (2 * (K * (2 * h + 1)) + (2 * h + 1)) * w = ap (λ (x : ℕ). x + (2 * h + 1) * w) left ∙ sym (add-mul (2 * (K * (2 * h + 1))) (2 * h + 1) w) in
      le_trans (le_of_eq (ap (λ (x : ℕ). x + w) right))
      (le_trans (apart (2 * (M * (2 * h))) (2 * (K * (2 * h + 1)) + (2 * h + 1)) w W (le_trans (le_of_eq (sym right)) (le_trans l (le_of_eq e))) (parity (M * (2 * h)) (K * (2 * h + 1)) h)) (le_of_eq (sym e)))
    where
      parity : (a b h : ℕ) → 2 * a ≤ 2 * b + (2 * h + 1) → suc (2 * a) ≤ 2 * b + (2 * h + 1)
      parity a b h l = omega arith

  -- and so is N from the next power of two
  odd_most : M * (2 * h * w) < 2 ^ 53 * ((2 * h + 1) * w) → M * (2 * h * w) + w ≤ 2 ^ 53 * ((2 * h + 1) * w)
  odd_most l =
      let a : M * (2 * h * w) ≡ M * (2 * h) * w = simp (mul_assoc) in
      let e : 2 ^ 53 * ((2 * h + 1) * w) ≡ 2 ^ 53 * (2 * h + 1) * w = sym (mul_assoc (2 ^ 53) (2 * h + 1) w) in
      let k : M * (2 * h) < 2 ^ 53 * (2 * h + 1) = lt_of_mul-lt-mul_right w (lt_of_le_of_lt (le_of_eq (sym a)) (lt_of_lt_of_le l (le_of_eq e))) in
      le_trans (le_of_eq (ap (λ (x : ℕ). x + w) a ∙ one_more (M * (2 * h)) w)) (le_trans (mul-le-mul_right w k) (le_of_eq (sym e)))
    where
      one_more : (p w : ℕ) → p * w + w ≡ suc p * w
      one_more p w = omega arith

-- S, and the fraction N / c, of which z = K units are kept: c S = X, c times the unit is y
sum_least : (X N z y w : ℕ) → 0 < w → N ≤ X → 2 * z + w ≤ 2 * N + y → 2 * z < 2 * X + y
sum_least X N z y w W a b = omega arith

sum_most : (X N z y w : ℕ) → X * 2 ^ 50 ≤ N * 2 ^ 50 + 8 * y → 16 * y < w * 2 ^ 50 → 2 * N + w ≤ 2 * z + y → 2 * X < 2 * z + y
sum_most X N z y w a b c = omega arith

sum_below : (X N y w Y : ℕ) → X * 2 ^ 50 ≤ N * 2 ^ 50 + 8 * y → 16 * y < w * 2 ^ 50 → N + w ≤ Y → X < Y
sum_below X N y w Y a b c = omega arith

rest : (R N y : ℕ) → R * 2 ^ 50 ≤ N → N < 2 ^ 53 * y → R ≤ 8 * y
rest R N y a b = omega arith

more : (X N R y : ℕ) → X * 2 ^ 50 ≤ N * 2 ^ 50 + R → R ≤ 8 * y → X * 2 ^ 50 ≤ N * 2 ^ 50 + 8 * y
more X N R y a b = omega arith

-- c = (2 h + 1) B, the unit U, N = M (2 h B U)
pub kept_alike : (h B U M K S R : ℕ) → 0 < B → 0 < U → 16 * (2 * h + 1) < 2 ^ 50 →
    let c = (2 * h + 1) * B in
    let N = M * (2 * h * (B * U)) in
    2 ^ 52 * (c * U) ≤ N → N < 2 ^ 53 * (c * U) → Nearest N (c * U) K →
    N ≤ S * c → S * c * 2 ^ 50 ≤ N * 2 ^ 50 + R → R * 2 ^ 50 ≤ N →
    (2 ^ 52 * (1 * U) ≤ S) × (S < 2 ^ 53 * (1 * U)) × Nearest S (1 * U) K
kept_alike h B U M K S R b u small least most near low high r =
    let w = B * U in
    let W : 0 < w = mul-pos b u in
    let c = (2 * h + 1) * B in
    let C : 0 < c = mul-pos (odd_pos h) b in
    let N = M * (2 * h * w) in
    let y = (2 * h + 1) * w in
    let e : c * U ≡ y = mul_assoc (2 * h + 1) B U in
    let most' : N < 2 ^ 53 * y = subst (λ (x : ℕ). N < 2 ^ 53 * x) e most in
    let high' : S * c * 2 ^ 50 ≤ N * 2 ^ 50 + 8 * y = more (S * c) N R y high (rest R N y r most') in
    let tiny : 16 * y < w * 2 ^ 50 = lt_of_le_of_lt (le_of_eq (sym (mul_assoc 16 (2 * h + 1) w))) (lt_of_lt_of_le (mul-lt-mul_of_pos_right small W) (le_of_eq (mul_comm (2 ^ 50) w))) in
    let under : 2 * (K * y) + w ≤ 2 * N + y = odd_under h w M K W (subst (λ (x : ℕ). 2 * (K * x) ≤ 2 * N + x) e near.under) in
    let over : 2 * N + w ≤ 2 * (K * y) + y = odd_over h w M K W (subst (λ (x : ℕ). 2 * N ≤ 2 * (K * x) + x) e near.over) in
    let a : 2 * (K * y) < 2 * (S * c) + y = sum_least (S * c) N (K * y) y w W low under in
    let d : 2 * (S * c) < 2 * (K * y) + y = sum_most (S * c) N (K * y) y w high' tiny over in
    let f : S * c < 2 ^ 53 * y = sum_below (S * c) N y w (2 ^ 53 * y) high' tiny (odd_most h w M K W most') in
    subst (λ (x : ℕ). (2 ^ 52 * x ≤ S) × (S < 2 ^ 53 * x) × Nearest S x K) (sym (one-mul U))
    (in_units c U K S C (subst (λ (x : ℕ). 2 ^ 52 * x ≤ S * c) (mul_comm c U) (le_trans least low))
    (subst (λ (x : ℕ). S * c < 2 ^ 53 * x) (sym e ∙ mul_comm c U) f)
    (subst (λ (x : ℕ). 2 * (K * x) < 2 * (S * c) + x) (sym e ∙ mul_comm c U) a)
    (subst (λ (x : ℕ). 2 * (S * c) < 2 * (K * x) + x) (sym e ∙ mul_comm c U) d))
  where
    odd_pos : (h : ℕ) → 0 < 2 * h + 1
    odd_pos h = omega arith

    strict : (n d K : ℕ) → 2 * (K * d) < 2 * n + d → 2 * n < 2 * (K * d) + d → Nearest n d K
    strict n d K a b = record { under = omega arith; over = omega arith; even_above = λ t. absurd (no t); even_below = λ t. absurd (nope t) }
      where
        no : 2 * (K * d) ≡ 2 * n + d → ⊥
        no t = omega arith

        nope : 2 * n ≡ 2 * (K * d) + d → ⊥
        nope t = omega arith

    in_units : (c U K S : ℕ) → 0 < c → 2 ^ 52 * (U * c) ≤ S * c → S * c < 2 ^ 53 * (U * c) → 2 * (K * (U * c)) < 2 * (S * c) + U * c → 2 * (S * c) < 2 * (K * (U * c)) + U * c →
        (2 ^ 52 * U ≤ S) × (S < 2 ^ 53 * U) × Nearest S U K
    in_units c U K S C a b d f =
        let g : 2 * (K * (U * c)) ≡ 2 * (K * U) * c = simp (mul_assoc) in
        let i : 2 * (S * c) ≡ 2 * S * c = sym (mul_assoc 2 S c) in (
          le_of_mul-le-mul_right (le_trans (le_of_eq (mul_assoc (2 ^ 52) U c)) a) C,
          lt_of_mul-lt-mul_right c (lt_of_lt_of_le b (le_of_eq (sym (mul_assoc (2 ^ 53) U c)))),
          strict S U K
              (lt_of_mul-lt-mul_right c (lt_of_le_of_lt (le_of_eq (sym g)) (lt_of_lt_of_le d (le_of_eq (ap (λ (x : ℕ). x + U * c) i ∙ sym (add-mul (2 * S) U c))))))
              (lt_of_mul-lt-mul_right c (lt_of_le_of_lt (le_of_eq (sym i)) (lt_of_lt_of_le f (le_of_eq (ap (λ (x : ℕ). x + U * c) g ∙ sym (add-mul (2 * (K * U)) U c)))))),
        )

-- ---- what is kept has 53 digits, or is 2 ^ 53
pub digits_least : (n W P : ℕ) → 2 ^ 52 * W ≤ n → 2 * n ≤ 2 * (P * W) + W → 0 < W → 2 ^ 52 ≤ P
digits_least n W P a b w = half P (lt_of_mul-lt-mul_right W (lt_of_lt_of_le (step n W (P * W) a b w) (le_of_eq (mul P W))))
  where
    step : (n W g : ℕ) → 2 ^ 52 * W ≤ n → 2 * n ≤ 2 * g + W → 0 < W → 2 ^ 53 * W < 2 * g + 2 * W
    step n W g a b w = omega arith

    mul : (P W : ℕ) → 2 * (P * W) + 2 * W ≡ (2 * P + 2) * W
    mul P W = omega arith

    half : (P : ℕ) → 2 ^ 53 < 2 * P + 2 → 2 ^ 52 ≤ P
    half P h = omega arith

pub digits_most : (n W P : ℕ) → n < 2 ^ 53 * W → 2 * (P * W) ≤ 2 * n + W → P ≤ 2 ^ 53
digits_most n W P a b = half P (lt_of_mul-lt-mul_right W (lt_of_le_of_lt (le_of_eq (mul_assoc 2 P W)) (step n W (P * W) a b)))
  where
    step : (n W g : ℕ) → n < 2 ^ 53 * W → 2 * g ≤ 2 * n + W → 2 * g < (2 ^ 54 + 1) * W
    step n W g a b = omega arith

    half : (P : ℕ) → 2 * P < 2 ^ 54 + 1 → P ≤ 2 ^ 53
    half P h = omega arith

-- ---- the bounds with fewer digits
pub trim_least : (N X : ℕ) → N * ((2 ^ 53 - 1) * (2 ^ 51 - 1)) ≤ X * (2 ^ 53 * 2 ^ 51) → N * (2 ^ 50 - 1) ≤ X * 2 ^ 50
trim_least N X h =
    le_of_mul-le-mul_right
    (le_trans (le_of_eq (mul_assoc N (2 ^ 50 - 1) (2 ^ 54)))
    (le_trans (mul-le-mul_left N (lit≤ {m = (2 ^ 50 - 1) * 2 ^ 54} {n = (2 ^ 53 - 1) * (2 ^ 51 - 1)} tt)) (le_trans h (le_of_eq (sym (mul_assoc X (2 ^ 50) (2 ^ 54)))))))
    (pow_pos 54)

pub trim_most : (X R : ℕ) → X * (2 ^ 53 * 2 ^ 51) ≤ R * ((2 ^ 53 + 1) * (2 ^ 51 + 1)) → X * 2 ^ 50 ≤ R * (2 ^ 50 + 1)
trim_most X R h =
    le_of_mul-le-mul_right
    (le_trans (le_of_eq (mul_assoc X (2 ^ 50) (2 ^ 54)))
    (le_trans h (le_trans (mul-le-mul_left R (lit≤ {m = (2 ^ 53 + 1) * (2 ^ 51 + 1)} {n = (2 ^ 50 + 1) * 2 ^ 54} tt)) (le_of_eq (sym (mul_assoc R (2 ^ 50 + 1) (2 ^ 54)))))))
    (pow_pos 54)

pub left_over : (N X R : ℕ) → R + X ≡ N → N * (2 ^ 50 - 1) ≤ X * 2 ^ 50 → R * 2 ^ 50 ≤ N
left_over N X R e h = omega arith

-- ---- c = (2 h + 1) B is at most 3 / 2 of A = 2 h B, so N = M A U is little more than 3 / 2 of P A U at the most
pub few_left : (h B U M P : ℕ) → 0 < h → 0 < B → 0 < U → P ≤ 2 ^ 53 → M * (U * (2 * h * B)) * (2 ^ 50 - 1) ≤ P * U * ((2 * h + 1) * B) * 2 ^ 50 → M < P + 2 ^ 53
few_left h B U M P H b u p l =
    let A = 2 * h * B in
    let c = (2 * h + 1) * B in
    let e : P * U * c * 2 ^ 50 * 2 ≡ P * U * 2 ^ 50 * (2 * c) = simp (mul_assoc, mul_comm, mul_left_comm) in
    let f : P * U * 2 ^ 50 * (3 * A) ≡ P * (U * A) * 2 ^ 50 * 3 = simp (mul_assoc, mul_comm, mul_left_comm) in
    let k : M * (U * A) * (2 ^ 50 - 1) * 2 ≤ P * (U * A) * 2 ^ 50 * 3 = le_trans (mul-le-mul_right 2 l) (le_trans (le_of_eq e) (le_trans (mul-le-mul_left (P * U * 2 ^ 50) (by_half h B H)) (le_of_eq f))) in
    let g : M * (2 * (2 ^ 50 - 1)) * (U * A) ≡ M * (U * A) * (2 ^ 50 - 1) * 2 = turn M (U * A) (2 ^ 50 - 1) 2 in
    let i : P * (U * A) * 2 ^ 50 * 3 ≡ P * (3 * 2 ^ 50) * (U * A) = sym (turn P (U * A) (2 ^ 50) 3) in
    last M P p (le_of_mul-le-mul_right (le_trans (le_of_eq g) (le_trans k (le_of_eq i))) (mul-pos u (mul-pos (double_pos h H) b)))
  where
    double_pos : (h : ℕ) → 0 < h → 0 < 2 * h
    double_pos h H = omega arith

    turn : (M t k l : ℕ) → M * (l * k) * t ≡ M * t * k * l
    turn M t k l = simp (mul_assoc, mul_comm, mul_left_comm)

    by_half : (h B : ℕ) → 0 < h → 2 * ((2 * h + 1) * B) ≤ 3 * (2 * h * B)
    by_half h B H = let k : 1 * B ≤ h * B = mul-le-mul_right B H in omega arith

    last : (M P : ℕ) → P ≤ 2 ^ 53 → M * (2 * (2 ^ 50 - 1)) ≤ P * (3 * 2 ^ 50) → M < P + 2 ^ 53
    last M P p l = omega arith

-- ---- what is left, f U, is at most a 2 ^ 50th of N = M A U
pub rest_few : (f U M A : ℕ) → 0 < U → A ≤ 2 ^ 8 → M < 2 ^ 54 → f * U * 2 ^ 50 ≤ M * (U * A) → f < 2 ^ 53
rest_few f U M A u a m l =
    let e : f * 2 ^ 50 * U ≡ f * U * 2 ^ 50 = mul_right_comm f (2 ^ 50) U in
    let g : M * (U * A) ≡ M * A * U = simp (mul_assoc, mul_comm, mul_left_comm) in
    last f M (le_trans (le_of_mul-le-mul_right (le_trans (le_of_eq e) (le_trans l (le_of_eq g))) u) (mul-le-mul_left M a)) m
  where
    last : (f M : ℕ) → f * 2 ^ 50 ≤ M * 2 ^ 8 → M < 2 ^ 54 → f < 2 ^ 53
    last f M a b = omega arith

-- ---- what is added, E c, is R and little more
pub added_few : (E X R N : ℕ) → E ≤ X → X * 2 ^ 50 ≤ R * (2 ^ 50 + 1) → R * 2 ^ 50 ≤ N → E ≤ N
added_few E X R N a b c = le_trans a (le_trans (double X R b) (le_trans (fewer R) c))
  where
    double : (X R : ℕ) → X * 2 ^ 50 ≤ R * (2 ^ 50 + 1) → X ≤ 2 * R
    double X R h = omega arith

    fewer : (R : ℕ) → 2 * R ≤ R * 2 ^ 50
    fewer R = omega arith

pub sum_low : (Q E c R N : ℕ) → R + Q * c ≡ N → R ≤ E * c → N ≤ (Q + E) * c
sum_low Q E c R N e h = le_trans (step (Q * c) (E * c) R N e h) (le_of_eq (sym (add-mul Q E c)))
  where
    step : (q t R N : ℕ) → R + q ≡ N → R ≤ t → N ≤ q + t
    step q t R N e h = omega arith

pub sum_high : (Q E c R N : ℕ) → R + Q * c ≡ N → E * c * 2 ^ 50 ≤ R * (2 ^ 50 + 1) → (Q + E) * c * 2 ^ 50 ≤ N * 2 ^ 50 + R
sum_high Q E c R N e h = le_trans (le_of_eq (ap (λ (z : ℕ). z * 2 ^ 50) (add-mul Q E c))) (step (Q * c) (E * c) R N e h)
  where
    step : (q t R N : ℕ) → R + q ≡ N → t * 2 ^ 50 ≤ R * (2 ^ 50 + 1) → (q + t) * 2 ^ 50 ≤ N * 2 ^ 50 + R
    step q t R N e h = omega arith
