-- Over whole numbers: |x - y| / (x + y) grows as the two move apart; bounds of one fraction as bounds of another. Assumes nothing.
use mathlib.Core.Path.{◌≡◌, sym, ap, ap₂, subst}
use Prim.Native.Nat.{ℕ, ◌+◌, ◌*◌, ◌≤◌, ◌<◌}
use native.Mathlib.Nat.{le_refl, le_trans, le_of_eq, add_comm, mul_comm, mul_right_comm, mul-mul-mul_comm, mul-le-mul, mul-le-mul_left, mul-le-mul_right, mul-pos, add-le-add, le_of_mul-le-mul_right, le_dest}
use native.Mathlib.Omega.{arith}
use Rattle.ieee_near.specs.Index.{gap}
use Rattle.ieee_near.proofs.Gap.{gap_comm}

-- ---- c ≤ y ≤ x ≤ b
pub wider_apart : (x y b c : ℕ) → y ≤ x → x ≤ b → c ≤ y → gap x y * (b + c) ≤ gap b c * (x + y)
wider_apart x y b c h g k =
    let p = le_dest h in
    let q = le_dest (le_trans k (le_trans h g)) in
    let m : x * c ≤ b * y = mul-le-mul g k in
    subst (λ (x : ℕ). gap x y * (b + c) ≤ gap b c * (x + y)) p.1
    (subst (λ (b : ℕ). gap (y + p.0) y * (b + c) ≤ gap b c * (y + p.0 + y)) q.1
    (le_trans (le_of_eq (ap (λ (z : ℕ). z * (c + q.0 + c)) (from y p.0))) (le_trans (cross y p.0 c q.0 (subst (λ (x : ℕ). x * c ≤ (c + q.0) * y) (sym p.1) (subst (λ (b : ℕ). x * c ≤ b * y) (sym q.1) m))) (le_of_eq (ap (λ (z : ℕ). z * (y + p.0 + y)) (sym (from c q.0)))))))
  where
    from : (x p : ℕ) → gap (x + p) x ≡ p
    from x p = omega arith

    cross : (y p c q : ℕ) → (y + p) * c ≤ (c + q) * y → p * (c + q + c) ≤ q * (y + p + y)
    cross y p c q h = omega arith

-- the same the other way round: a ≤ x ≤ y ≤ d
pub wider_apart' : (x y a d : ℕ) → x ≤ y → a ≤ x → y ≤ d → gap x y * (a + d) ≤ gap a d * (x + y)
wider_apart' x y a d h g k =
    le_trans (le_of_eq (ap₂ ◌*◌ (gap_comm x y) (add_comm a d))) (le_trans (wider_apart y x d a h k g) (le_of_eq (ap₂ ◌*◌ (gap_comm d a) (add_comm y x))))

-- squared
pub squared : (g s G S : ℕ) → g * S ≤ G * s → g * g * (S * S) ≤ G * G * (s * s)
squared g s G S h = le_trans (le_of_eq (mul-mul-mul_comm g g S S)) (le_trans (mul-le-mul h h) (le_of_eq (mul-mul-mul_comm G s G s)))

-- two indices from 1 to 4 give 9 / 25 at most
pub nine_of_25 : (x y : ℕ) → x ≤ 4 * y → y ≤ 4 * x → gap x y * gap x y * 25 ≤ (x + y) * (x + y) * 9
nine_of_25 x y h g = let f = five x y h g in le_trans (le_of_eq (left (gap x y))) (le_trans (mul-le-mul f f) (le_of_eq (right (x + y))))
  where
    five : (x y : ℕ) → x ≤ 4 * y → y ≤ 4 * x → gap x y * 5 ≤ (x + y) * 3
    five x y h g = omega arith

    left : (g : ℕ) → g * g * 25 ≡ g * 5 * (g * 5)
    left g = omega arith

    right : (s : ℕ) → s * 3 * (s * 3) ≡ s * s * 9
    right s = omega arith

-- ---- A / B ≤ A' / B' ≤ n / K
pub carry : (A B A' B' n K : ℕ) → 0 < B' → A * B' ≤ A' * B → A' * K ≤ n * B' → A * K ≤ n * B
carry A B A' B' n K p h g =
    le_of_mul-le-mul_right (le_trans (le_of_eq (mul_right_comm A K B')) (le_trans (mul-le-mul_right K h) (le_trans (le_of_eq (mul_right_comm A' B K)) (le_trans (mul-le-mul_right B g) (le_of_eq (mul_right_comm n B' B)))))) p

-- n / K ≤ A' / B' ≤ A / B
pub carry_down : (A B A' B' n K : ℕ) → 0 < B' → A' * B ≤ A * B' → n * B' ≤ A' * K → n * B ≤ A * K
carry_down A B A' B' n K p h g =
    le_of_mul-le-mul_right (le_trans (le_of_eq (mul_right_comm n B B')) (le_trans (mul-le-mul_right B g) (le_trans (le_of_eq (mul_right_comm A' K B)) (le_trans (mul-le-mul_right K h) (le_of_eq (mul_right_comm A B' K)))))) p

-- n / K ≤ A / B + e / K and A / B ≤ A' / B'
pub carry_over : (A B A' B' n K e : ℕ) → 0 < B → A * B' ≤ A' * B → n * B ≤ A * K + e * B → n * B' ≤ A' * K + e * B'
carry_over A B A' B' n K e p h g =
    le_of_mul-le-mul_right
    (le_trans (le_of_eq (mul_right_comm n B' B))
    (le_trans (mul-le-mul_right B' g)
    (le_trans (le_of_eq (out A K e B B')) (le_trans (add-le-add (mul-le-mul_right K h) (le_refl (e * B * B'))) (le_of_eq (back A' B K e B')))))) p
  where
    out : (A K e B B' : ℕ) → (A * K + e * B) * B' ≡ A * B' * K + e * B * B'
    out A K e B B' = omega arith

    back : (A' B K e B' : ℕ) → A' * B * K + e * B * B' ≡ (A' * K + e * B') * B
    back A' B K e B' = omega arith

-- ---- the spread: hi is at most A / B and e more, lo at least A' / B' and e less
pub both_ends : (hi lo A B A' B' K e : ℕ) → hi * B ≤ A * K + e * B → A' * K ≤ lo * B' + e * B' → hi * (B * B') + A' * B * K ≤ lo * (B * B') + A * B' * K + 2 * e * (B * B')
both_ends hi lo A B A' B' K e h g =
    le_trans (le_of_eq (left hi B A' B' K)) (le_trans (add-le-add (mul-le-mul_right B' h) (mul-le-mul_right B g)) (le_of_eq (right lo A B B' K e)))
  where
    left : (hi B A' B' K : ℕ) → hi * (B * B') + A' * B * K ≡ hi * B * B' + A' * K * B
    left hi B A' B' K = omega arith

    right : (lo A B B' K e : ℕ) → (A * K + e * B) * B' + (lo * B' + e * B') * B ≡ lo * (B * B') + A * B' * K + 2 * e * (B * B')
    right lo A B B' K e = omega arith

-- ---- 25 parts in K of a fraction of 9 / 25 at most are 9 of the whole, K * e
pub slack : (K e n A B : ℕ) → 0 < K → A * 25 ≤ B * 9 → K * (n * B) ≤ (K + 25) * (A * (K * e)) → n * B ≤ A * (K * e) + 9 * e * B
slack K e n A B p h g =
    le_of_mul-le-mul_right
    (le_trans (le_of_eq (mul_comm (n * B) K)) (le_trans g (le_trans (le_of_eq (out K A e)) (le_trans (add-le-add (le_refl (A * (K * e) * K)) (mul-le-mul_right (K * e) h)) (le_of_eq (back A K e B)))))) p
  where
    out : (K A e : ℕ) → (K + 25) * (A * (K * e)) ≡ A * (K * e) * K + A * 25 * (K * e)
    out K A e = omega arith

    back : (A K e B : ℕ) → A * (K * e) * K + B * 9 * (K * e) ≡ (A * (K * e) + 9 * e * B) * K
    back A K e B = omega arith

pub slack_down : (m e n A B : ℕ) → A * 25 ≤ B * 9 → m * (A * ((m + 25) * e)) ≤ (m + 25) * (n * B) → A * ((m + 25) * e) ≤ n * B + 9 * e * B
slack_down m e n A B h g =
    le_of_mul-le-mul_right {k = m + 25}
    (le_trans (le_of_eq (out m A ((m + 25) * e))) (le_trans (add-le-add g (mul-le-mul_right ((m + 25) * e) h)) (le_of_eq (back (m + 25) n B e)))) (positive m)
  where
    positive : (m : ℕ) → 0 < m + 25
    positive m = omega arith

    out : (m A d : ℕ) → A * d * (m + 25) ≡ m * (A * d) + A * 25 * d
    out m A d = omega arith

    back : (K n B e : ℕ) → K * (n * B) + B * 9 * (K * e) ≡ (n * B + 9 * e * B) * K
    back K n B e = omega arith

-- and such a fraction with them is below 1
pub below_one : (n A B K e : ℕ) → 0 < B → A * 25 ≤ B * 9 → n * B ≤ A * K + e * B → 9 * K + 25 * e ≤ 25 * K → n ≤ K
below_one n A B K e p h g f =
    le_of_mul-le-mul_right {k = 25 * B}
    (le_trans (le_of_eq (left n B)) (le_trans (mul-le-mul_right 25 g) (le_trans (le_of_eq (out A K e B)) (le_trans (add-le-add (mul-le-mul_right K h) (le_refl (e * B * 25))) (le_trans (le_of_eq (join B K e)) (le_trans (mul-le-mul_left B f) (le_of_eq (right B K)))))))) (mul-pos (lit 25) p)
  where
    lit : (m : ℕ) → 0 < 25
    lit m = omega arith

    left : (n B : ℕ) → n * (25 * B) ≡ n * B * 25
    left n B = omega arith

    out : (A K e B : ℕ) → (A * K + e * B) * 25 ≡ A * 25 * K + e * B * 25
    out A K e B = omega arith

    join : (B K e : ℕ) → B * 9 * K + e * B * 25 ≡ B * (9 * K + 25 * e)
    join B K e = omega arith

    right : (B K : ℕ) → B * (25 * K) ≡ K * (25 * B)
    right B K = omega arith
