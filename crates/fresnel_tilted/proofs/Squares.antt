-- cos² and (n1 / n2)²·(1 - cos²) in whole numbers: errors in proportion. Assumes nothing.
use mathlib.Core.Path.{◌≡◌, refl, ap, ap₂, ◌∙◌}
use mathlib.Core.List.{[], ◌∷◌}
use Prim.Native.Nat.{ℕ, ◌+◌, ◌-◌, ◌*◌, ◌≤◌, ◌<◌}
use native.Mathlib.Nat.{le_trans, le_of_eq, mul_comm, mul_assoc, mul_left_comm, mul_right_comm, mul-le-mul, mul-le-mul_left, mul-le-mul_right, le_of_mul-le-mul_right, mul-pos, mul-sub, add-mul}
use native.Mathlib.Omega.{arith}
use lib.IntN.{pos}
use Rattle.whole_ring.proofs.Solver.{var, con, ◌:+◌, ◌:*◌}
use Rattle.whole_ring.proofs.Naturals.{naturals}
use Rattle.ieee_near.specs.Index.{gap}
use Rattle.near_abs.specs.Off.{Within}
use Rattle.near_abs.proofs.Within.{chain, times, untimes, known, widen, product}

spread : (x y k : ℕ) → gap x y * k ≡ gap (x * k) (y * k)
spread x y k = add-mul (x - y) (y - x) k ∙ ap₂ ◌+◌ (less x y k) (less y x k)
  where
    less : (a b c : ℕ) → (a - b) * c ≡ a * c - b * c
    less a b c = mul_comm (a - b) c ∙ mul-sub c a b ∙ ap₂ ◌-◌ (mul_comm c a) (mul_comm c b)

-- ---- q is c·c, rounded: from |c·K - C·v|·K ≤ E to |q·K² - C²·v| ≤ u·K² + 2·E
pub cosine_squared : (c q C K v u E : ℕ) → 0 < v → 0 < K → c ≤ v → C ≤ K → Within E (c * K * K) (C * K * v) → Within (u * v) (q * v) (c * c) → Within (u * (K * K) + 2 * E) (q * (K * K)) (C * C * v)
cosine_squared c q C K v u E v0 K0 cv CK h hq =
    let x = c * K in
    let y = C * v in
    let g = gap x y in
    let i : g * K ≤ E = le_trans (le_of_eq (spread x y K)) (most (x * K) (y * K) E (known refl refl (mul_right_comm C K v) h)) in
    let j : Within (g * x + y * g) (x * x) (y * y) = product (self x y) (self x y) in
    let k : g * x + y * g ≤ 2 * E * v = le_of_mul-le-mul_right (total g x y K v E i (le_trans (mul-le-mul_right K cv) (le_of_eq (mul_comm v K))) (mul-le-mul_right v CK)) K0 in
    untimes (u * (K * K) + 2 * E) (q * (K * K)) (C * C * v) v v0
    (known (one u K v E) (mul_right_comm q v (K * K)) (two C v) (chain (times (K * K) hq) (known refl (three c K) refl (widen k j))))
  where
    most : (m n e : ℕ) → Within e m n → gap m n ≤ e
    most m n e h = omega (arith, h)

    self : (x y : ℕ) → Within (gap x y) x y
    self x y = record { most = omega arith; least = omega arith }

    total : (g x y K v E : ℕ) → g * K ≤ E → x ≤ K * v → y ≤ K * v → (g * x + y * g) * K ≤ 2 * E * v * K
    total g x y K v E i a b =
        let p : g * K * (x + y) ≤ E * (K * v + K * v) = mul-le-mul i (both a b) in
        le_trans (le_of_eq (one g x y K)) (le_trans p (le_of_eq (two E K v)))
      where
        both : {a b c d : ℕ} → a ≤ b → c ≤ d → a + c ≤ b + d
        both h g = omega (arith, h, g)

        one : (g x y K : ℕ) → (g * x + y * g) * K ≡ g * K * (x + y)
        one g x y K = omega arith

        two : (E K v : ℕ) → E * (K * v + K * v) ≡ 2 * E * v * K
        two E K v = omega arith

    one : (u K v E : ℕ) → u * v * (K * K) + 2 * E * v ≡ (u * (K * K) + 2 * E) * v
    one u K v E = omega arith

    two : (C v : ℕ) → C * v * (C * v) ≡ C * C * v * v
    two C v = simp (mul_assoc, mul_comm, mul_left_comm)

    three : (c K : ℕ) → c * K * (c * K) ≡ c * c * (K * K)
    three c K = simp (mul_assoc, mul_comm, mul_left_comm)

-- ---- a is b up to one part in s, and h is a² up to one part in s: h is b² up to four
pub ratio_squared : (a b h s e1 e2 : ℕ) → 0 < s → Within (b + e1) (a * s) (b * s) → Within (a * a + e2) (h * s) (a * a * s) → 1000 * e1 ≤ b → 1000 * e2 ≤ b * b → 1001 ≤ s → Within (4 * (b * b)) (h * s) (b * b * s)
ratio_squared a b h s e1 e2 s0 ha hh t1 t2 big =
    let m : 1000 * a ≤ 1001 * b = le_of_mul-le-mul_right (first ha.most (mul-le-mul_left b big)) s0 in
    let i : Within ((b + e1) * a) (a * s * a) (b * s * a) = times a ha in
    let j : Within ((b + e1) * b) (a * s * b) (b * s * b) = times b ha in
    let k : Within ((b + e1) * a + (b + e1) * b) (a * a * s) (b * b * s) = known refl (one a s) (two b s) (chain i (known refl (three a b s) refl j)) in
    widen (total a b e1 e2 (mul-le-mul m m) (mul-le-mul_left b m) (mul-le-mul_left a t1) (mul-le-mul_left b t1) t2) (chain hh k)
  where
    first : a * s ≤ b * s + (b + e1) → b * 1001 ≤ b * s → 1000 * a * s ≤ 1001 * b * s
    first p q = omega (arith, p, q, t1)

    one : (a s : ℕ) → a * s * a ≡ a * a * s
    one a s = mul_right_comm a s a

    two : (b s : ℕ) → b * s * b ≡ b * b * s
    two b s = mul_right_comm b s b

    three : (a b s : ℕ) → a * s * b ≡ b * s * a
    three a b s = simp (mul_assoc, mul_comm, mul_left_comm)

    total : (a b e1 e2 : ℕ) → 1000 * a * (1000 * a) ≤ 1001 * b * (1001 * b) → b * (1000 * a) ≤ b * (1001 * b) → a * (1000 * e1) ≤ a * b → b * (1000 * e1) ≤ b * b → 1000 * e2 ≤ b * b → a * a + e2 + ((b + e1) * a + (b + e1) * b) ≤ 4 * (b * b)
    total a b e1 e2 p q x y z = omega (arith, p, q, x, y, z)

-- ---- s is h·m, rounded: h beside p / r up to four parts in 2 ^ 53, and m beside S / Q
pub sine_off : (h m s p r S Q v u w f E : ℕ) → 0 < v → 0 < f → Within (p * v) (h * r * f) (p * v * f) → Within E (m * Q) (S * v) → Within (u * v) (s * v) (h * m)
    → p * E ≤ 1171 * w * (r * Q) → p * S * 32 ≤ 25 * (r * Q) → u ≡ 8 * w → v ≡ 4 * f * u → 1171 ≤ f
    → Within (151 * u * (r * Q)) (s * (r * Q)) (p * S * v)
sine_off h m s p r S Q v u w f E v0 f0 hh hm hs pe ps eu ev big =
    let i : Within (p * v * (m * Q) + p * v * f * E) (h * r * f * (m * Q)) (p * v * f * (S * v)) = product hh hm in
    let j : Within (u * v * (r * Q * f)) (s * v * (r * Q * f)) (h * m * (r * Q * f)) = times (r * Q * f) hs in
    untimes (151 * u * (r * Q)) (s * (r * Q)) (p * S * v) (v * f) (mul-pos v0 f0)
    (widen (small (mul-le-mul_left (p * v) hm.most)) (known refl (one s v r Q f) (two p v f S) (chain j (known refl (three h r f m Q) refl i))))
  where
    one : (s v r Q f : ℕ) → s * v * (r * Q * f) ≡ s * (r * Q) * (v * f)
    one s v r Q f = simp (mul_assoc, mul_comm, mul_left_comm)

    two : (p v f S : ℕ) → p * v * f * (S * v) ≡ p * S * v * (v * f)
    two p v f S = simp (mul_assoc, mul_comm, mul_left_comm)

    three : (h r f m Q : ℕ) → h * r * f * (m * Q) ≡ h * m * (r * Q * f)
    three h r f m Q = simp (mul_assoc, mul_comm, mul_left_comm)

    small : p * v * (m * Q) ≤ p * v * (S * v + E) → u * v * (r * Q * f) + (p * v * (m * Q) + p * v * f * E) ≤ 151 * u * (r * Q) * (v * f)
    small a =
        let b : v * (f + 1) * (p * E) ≤ v * (f + 1) * (1171 * w * (r * Q)) = mul-le-mul_left (v * (f + 1)) pe in
        let c : v * v * (p * S * 32) ≤ v * v * (25 * (r * Q)) = mul-le-mul_left (v * v) ps in
        let d : w * v * (r * Q) * 1171 ≤ w * v * (r * Q) * f = mul-le-mul_left (w * v * (r * Q)) big in
        go (w * v * (r * Q) * f) (w * v * (r * Q)) (v * v * (p * S)) (v * (f + 1) * (p * E)) (p * v * (m * Q)) (p * v * (S * v + E)) (v * (f + 1) * (1171 * w * (r * Q))) (u * v * (r * Q * f)) (p * v * f * E) (v * v * (p * S * 32)) (v * v * (25 * (r * Q))) (p * v * E) _ a b c d (four w v r Q f) (ap (λ (u : ℕ). u * v * (r * Q * f)) eu ∙ five w v r Q f) (six p v S E) (seven v f p E) (eight v p S) (ap (λ (n : ℕ). v * n * (25 * (r * Q))) (ev ∙ ap (λ (u : ℕ). 4 * f * u) eu) ∙ nine v f w r Q) (ap (λ (u : ℕ). 151 * u * (r * Q) * (v * f)) eu ∙ ten w r Q v f)
      where
        four : (w v r Q f : ℕ) → v * (f + 1) * (1171 * w * (r * Q)) ≡ 1171 * (w * v * (r * Q) * f) + w * v * (r * Q) * 1171
        four w v r Q f = naturals (var 1 :* (var 4 :+ con (pos 1)) :* (con (pos 1171) :* var 0 :* (var 2 :* var 3))) (con (pos 1171) :* (var 0 :* var 1 :* (var 2 :* var 3) :* var 4) :+ var 0 :* var 1 :* (var 2 :* var 3) :* con (pos 1171)) tt (w ∷ v ∷ r ∷ Q ∷ f ∷ [])

        five : (w v r Q f : ℕ) → 8 * w * v * (r * Q * f) ≡ 8 * (w * v * (r * Q) * f)
        five w v r Q f = naturals (con (pos 8) :* var 0 :* var 1 :* (var 2 :* var 3 :* var 4)) (con (pos 8) :* (var 0 :* var 1 :* (var 2 :* var 3) :* var 4)) tt (w ∷ v ∷ r ∷ Q ∷ f ∷ [])

        six : (p v S E : ℕ) → p * v * (S * v + E) ≡ v * v * (p * S) + p * v * E
        six p v S E = naturals (var 0 :* var 1 :* (var 2 :* var 1 :+ var 3)) (var 1 :* var 1 :* (var 0 :* var 2) :+ var 0 :* var 1 :* var 3) tt (p ∷ v ∷ S ∷ E ∷ [])

        seven : (v f p E : ℕ) → v * (f + 1) * (p * E) ≡ p * v * f * E + p * v * E
        seven v f p E = naturals (var 0 :* (var 1 :+ con (pos 1)) :* (var 2 :* var 3)) (var 2 :* var 0 :* var 1 :* var 3 :+ var 2 :* var 0 :* var 3) tt (v ∷ f ∷ p ∷ E ∷ [])

        eight : (v p S : ℕ) → v * v * (p * S * 32) ≡ 32 * (v * v * (p * S))
        eight v p S = omega arith

        nine : (v f w r Q : ℕ) → v * (4 * f * (8 * w)) * (25 * (r * Q)) ≡ 800 * (w * v * (r * Q) * f)
        nine v f w r Q = naturals (var 0 :* (con (pos 4) :* var 1 :* (con (pos 8) :* var 2)) :* (con (pos 25) :* (var 3 :* var 4))) (con (pos 800) :* (var 2 :* var 0 :* (var 3 :* var 4) :* var 1)) tt (v ∷ f ∷ w ∷ r ∷ Q ∷ [])

        ten : (w r Q v f : ℕ) → 151 * (8 * w) * (r * Q) * (v * f) ≡ 1208 * (w * v * (r * Q) * f)
        ten w r Q v f = naturals (con (pos 151) :* (con (pos 8) :* var 0) :* (var 1 :* var 2) :* (var 3 :* var 4)) (con (pos 1208) :* (var 0 :* var 3 :* (var 1 :* var 2) :* var 4)) tt (w ∷ r ∷ Q ∷ v ∷ f ∷ [])

        go : (k l n pe pm pn o x y c1 c2 z t : ℕ) → pm ≤ pn → pe ≤ o → c1 ≤ c2 → l * 1171 ≤ k → o ≡ 1171 * k + l * 1171 → x ≡ 8 * k → pn ≡ n + z → pe ≡ y + z → c1 ≡ 32 * n → c2 ≡ 800 * k → t ≡ 1208 * k → x + (pm + y) ≤ t
        go k l n pe pm pn o x y c1 c2 z t a b c d e f g h i j m = omega (arith, a, b, c, d, e, f, g, h, i, j, m)
