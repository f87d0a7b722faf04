-- The cosine's error in proportion to the angle's square: near 0 it is some 3·2 ^ -53 and no more. Assumes nothing.
use mathlib.Core.Path.{◌≡◌, refl, sym, ap, ap₂, ◌∙◌, subst}
use mathlib.Core.List.{List, [], ◌∷◌}
use mathlib.Core.Bool.{false}
use Prim.Native.Nat.{ℕ, zero, suc, ◌+◌, ◌-◌, ◌*◌, ◌^◌, ◌≤◌, ◌<◌}
use native.Mathlib.Nat.{le_refl, le_trans, le_of_eq, le_of_lt, lt_of_not-le, lt_of_le_of_lt, lt_of_lt_of_le, mul-one, one-mul, mul_comm, mul_assoc, mul_left_comm, mul_right_comm, mul-le-mul, mul-le-mul_left, mul-le-mul_right, le_of_mul-le-mul_right, mul-lt-mul_of_pos_right, mul-pos, mul-sub, add-mul}
use native.Mathlib.Decide.{dec_le}
use native.Mathlib.Omega.{arith}
use lib.Dec.{T, lit≤}
use lib.Pow.{pow_pos}
use lib.IntN.{pos}
use lib.Ieee.{Float, of_int}
use Rattle.ieee.specs.Operators.{◌⊖◌, ◌⊗◌, ◌⊘◌}
use Rattle.ieee.specs.Functions.{one}
use Rattle.ieee.specs.Range.{sgn, In}
use Rattle.ieee.specs.Count.{count}
use Rattle.ieee.proofs.Range.Laws.{mul_in}
use Rattle.ieee_near.specs.Index.{gap}
use Rattle.whole_ring.proofs.Solver.{Ex, var, con, ◌:+◌, ◌:*◌}
use Rattle.whole_ring.proofs.Naturals.{naturals}
use Rattle.near_abs.specs.Off.{Within}
use Rattle.near_abs.proofs.Within.{chain, times, untimes, known, widen, product}
use Rattle.near_abs.proofs.Laws.{rest_off}
use Rattle.near_abs.proofs.Counts.{U, Held, count_most, Result, mul_off, div_off, mul_share}
use Rattle.math_trig.specs.Trig.{series, cos_div}
use Rattle.trig_near.specs.Sums.{cosine_steps}
use Rattle.trig_near.proofs.Runs.{run_top, run_bottom}
use Rattle.trig_near.proofs.Sums.{run_most}
use Rattle.trig_near.proofs.Series.{At, product_small}
use Rattle.trig_near.proofs.Pythagoras.{from}
use Rattle.trig_near.proofs.Angle.{P, Beside, turned, turned²}
use Rattle.trig_near.proofs.Cosine.{later, later_f, before, two_count, two_held, Halved, less, clear_when, inner, half_of, raw, last_of}

-- 2·X·W ≤ X² + W²
means : (x w : ℕ) → 2 * (x * w) ≤ x * x + w * w
means x w = go (dec_le w x)
  where
    up : (w d : ℕ) → 2 * ((w + d) * w) ≤ (w + d) * (w + d) + w * w
    up w d = omega arith

    down : (x d : ℕ) → 2 * (x * (x + d)) ≤ x * x + (x + d) * (x + d)
    down x d = omega arith

    back : (a b : ℕ) → b ≤ a → a ≡ b + (a - b)
    back a b h = omega (arith, h)

    go : Dec (w ≤ x) → 2 * (x * w) ≤ x * x + w * w
    go (yes h) = subst (λ (n : ℕ). 2 * (n * w) ≤ n * n + w * w) (sym (back x w h)) (up w (x - w))
    go (no h) = let l = le_of_lt (lt_of_not-le h) in subst (λ (n : ℕ). 2 * (x * n) ≤ x * x + n * n) (sym (back w x l)) (down x (w - x))

-- ---- the square: z·W² beside X²·v
square_fine : (z c X W v d s w : ℕ) → 0 < v → 0 < s → Within (c * c + s * v) (z * v * s) (c * c * s) → Within (d * W) (c * W) (X * v)
    → v * v + (s + 1) * (v * d) ≤ 25 * w * (v * s) → s * v + (s + 1) * (v * d + d * d) ≤ 17 * w * (v * s) → Within (25 * w * (X * X) + 17 * w * (W * W)) (z * (W * W)) (X * X * v)
square_fine z c X W v d s w v0 s0 hz n c1 c2 =
    let i : Within ((c * c + s * v) * (W * W)) (z * v * s * (W * W)) (c * c * s * (W * W)) = times (W * W) hz in
    let j : Within ((d * W * (c * W) + X * v * (d * W)) * s) (c * W * (c * W) * s) (X * v * (X * v) * s) = times s (product n n) in
    untimes (25 * w * (X * X) + 17 * w * (W * W)) (z * (W * W)) (X * X * v) (v * s) (mul-pos v0 s0) (widen small (known refl (one z v s W) (two X v s) (chain i (known refl (three c W s) refl j))))
  where
    one : (z v s W : ℕ) → z * v * s * (W * W) ≡ z * (W * W) * (v * s)
    one z v s W = simp (mul_assoc, mul_comm, mul_left_comm)

    two : (X v s : ℕ) → X * v * (X * v) * s ≡ X * X * v * (v * s)
    two X v s = simp (mul_assoc, mul_comm, mul_left_comm)

    three : (c W s : ℕ) → c * W * (c * W) * s ≡ c * c * s * (W * W)
    three c W s = simp (mul_assoc, mul_comm, mul_left_comm)

    small : (c * c + s * v) * (W * W) + (d * W * (c * W) + X * v * (d * W)) * s ≤ (25 * w * (X * X) + 17 * w * (W * W)) * (v * s)
    small =
        let e = c * W in
        let a = X * v in
        let b = d * W in
        let h1 : e * e ≤ (a + b) * (a + b) = mul-le-mul n.most n.most in
        let h2 : b * s * e ≤ b * s * (a + b) = mul-le-mul_left (b * s) n.most in
        let h3 : (s + 1) * (v * d) * (2 * (X * W)) ≤ (s + 1) * (v * d) * (X * X + W * W) = mul-le-mul_left ((s + 1) * (v * d)) (means X W) in
        let h4 : (v * v + (s + 1) * (v * d)) * (X * X) ≤ 25 * w * (v * s) * (X * X) = mul-le-mul_right (X * X) c1 in
        let h5 : (s * v + (s + 1) * (v * d + d * d)) * (W * W) ≤ 17 * w * (v * s) * (W * W) = mul-le-mul_right (W * W) c2 in
        le_trans (go1 (c * c * (W * W)) (e * e) ((a + b) * (a + b)) (b * s * e) (b * s * (a + b)) (s * v * (W * W)) (a * b * s) _ (four c W) h1 h2 (five c s v W d X)) (le_trans (le_of_eq (six X v d W s)) (go2 ((s + 1) * (v * d) * (2 * (X * W))) ((s + 1) * (v * d) * (X * X + W * W)) (v * v * (X * X)) (s * v * (W * W)) ((s + 1) * (d * d) * (W * W)) _ _ h3 (seven v s d X W) (le_trans (add_le h4 h5) (le_of_eq (eight w v s X W)))))
      where
        four : (c W : ℕ) → c * c * (W * W) ≡ c * W * (c * W)
        four c W = simp (mul_assoc, mul_comm, mul_left_comm)

        five : (c s v W d X : ℕ) → (c * c + s * v) * (W * W) + (d * W * (c * W) + X * v * (d * W)) * s ≡ c * c * (W * W) + s * v * (W * W) + d * W * s * (c * W) + X * v * (d * W) * s
        five c s v W d X = naturals ((var 0 :* var 0 :+ var 1 :* var 2) :* (var 3 :* var 3) :+ (var 4 :* var 3 :* (var 0 :* var 3) :+ var 5 :* var 2 :* (var 4 :* var 3)) :* var 1) (var 0 :* var 0 :* (var 3 :* var 3) :+ var 1 :* var 2 :* (var 3 :* var 3) :+ var 4 :* var 3 :* var 1 :* (var 0 :* var 3) :+ var 5 :* var 2 :* (var 4 :* var 3) :* var 1) tt (c ∷ s ∷ v ∷ W ∷ d ∷ X ∷ [])

        go1 : (p e2 g h k m n t : ℕ) → p ≡ e2 → e2 ≤ g → h ≤ k → t ≡ p + m + h + n → t ≤ g + m + k + n
        go1 p e2 g h k m n t a b c d = omega (arith, a, b, c, d)

        six : (X v d W s : ℕ) → (X * v + d * W) * (X * v + d * W) + s * v * (W * W) + d * W * s * (X * v + d * W) + X * v * (d * W) * s ≡ (s + 1) * (v * d) * (2 * (X * W)) + v * v * (X * X) + s * v * (W * W) + (s + 1) * (d * d) * (W * W)
        six X v d W s =
            naturals ((var 0 :* var 1 :+ var 2 :* var 3) :* (var 0 :* var 1 :+ var 2 :* var 3) :+ var 4 :* var 1 :* (var 3 :* var 3) :+ var 2 :* var 3 :* var 4 :* (var 0 :* var 1 :+ var 2 :* var 3) :+ var 0 :* var 1 :* (var 2 :* var 3) :* var 4)
            ((var 4 :+ con (pos 1)) :* (var 1 :* var 2) :* (con (pos 2) :* (var 0 :* var 3)) :+ var 1 :* var 1 :* (var 0 :* var 0) :+ var 4 :* var 1 :* (var 3 :* var 3) :+ (var 4 :+ con (pos 1)) :* (var 2 :* var 2) :* (var 3 :* var 3)) tt (X ∷ v ∷ d ∷ W ∷ s ∷ [])

        seven : (v s d X W : ℕ) → (v * v + (s + 1) * (v * d)) * (X * X) + (s * v + (s + 1) * (v * d + d * d)) * (W * W) ≡ (s + 1) * (v * d) * (X * X + W * W) + v * v * (X * X) + s * v * (W * W) + (s + 1) * (d * d) * (W * W)
        seven v s d X W =
            naturals ((var 0 :* var 0 :+ (var 1 :+ con (pos 1)) :* (var 0 :* var 2)) :* (var 3 :* var 3) :+ (var 1 :* var 0 :+ (var 1 :+ con (pos 1)) :* (var 0 :* var 2 :+ var 2 :* var 2)) :* (var 4 :* var 4))
            ((var 1 :+ con (pos 1)) :* (var 0 :* var 2) :* (var 3 :* var 3 :+ var 4 :* var 4) :+ var 0 :* var 0 :* (var 3 :* var 3) :+ var 1 :* var 0 :* (var 4 :* var 4) :+ (var 1 :+ con (pos 1)) :* (var 2 :* var 2) :* (var 4 :* var 4)) tt (v ∷ s ∷ d ∷ X ∷ W ∷ [])

        eight : (w v s X W : ℕ) → 25 * w * (v * s) * (X * X) + 17 * w * (v * s) * (W * W) ≡ (25 * w * (X * X) + 17 * w * (W * W)) * (v * s)
        eight w v s X W = naturals (con (pos 25) :* var 0 :* (var 1 :* var 2) :* (var 3 :* var 3) :+ con (pos 17) :* var 0 :* (var 1 :* var 2) :* (var 4 :* var 4)) ((con (pos 25) :* var 0 :* (var 3 :* var 3) :+ con (pos 17) :* var 0 :* (var 4 :* var 4)) :* (var 1 :* var 2)) tt (w ∷ v ∷ s ∷ X ∷ W ∷ [])

        add_le : {a b c d : ℕ} → a ≤ b → c ≤ d → a + c ≤ b + d
        add_le h g = omega (arith, h, g)

        go2 : (p q m n o k l : ℕ) → p ≤ q → k ≡ q + m + n + o → k ≤ l → p + m + n + o ≤ l
        go2 p q m n o k l a b c = omega (arith, a, b, c)

-- ---- the last quotient: t·2·Y·B beside Z·A·v
halved_fine : (A B Z Y p z q t v u w s e : ℕ) → 0 < v → 0 < s → A ≤ B → p ≤ v → Within (e * B) (p * B) (A * v) → Within (25 * w * Z + 17 * w * Y) (z * Y) (Z * v) → Within (p * z + s * v) (q * v * s) (p * z * s) → Within (u * 2) (t * 2) q
    → (v + e * s) * (v + 25 * w) + 25 * w * (v * s) ≤ 56 * w * (v * s) → 2 * u * (v * s) + (v + e * s) * (17 * w) + s * v + 17 * w * (v * s) ≤ 34 * w * (v * s)
    → Within (B * (56 * w * Z + 34 * w * Y)) (t * (Y * 2 * B)) (Z * A * v)
halved_fine A B Z Y p z q t v u w s e v0 s0 ab pv hp hz hq ht c3 c4 =
    let F = 25 * w * Z + 17 * w * Y in
    let i : Within (u * 2 * (Y * B * v * s)) (t * 2 * (Y * B * v * s)) (q * (Y * B * v * s)) = times (Y * B * v * s) ht in
    let j : Within ((p * z + s * v) * (Y * B)) (q * v * s * (Y * B)) (p * z * s * (Y * B)) = times (Y * B) hq in
    let k : Within ((e * B * (z * Y) + A * v * F) * s) (p * B * (z * Y) * s) (A * v * (Z * v) * s) = times s (product hp hz) in
    untimes (B * (56 * w * Z + 34 * w * Y)) (t * (Y * 2 * B)) (Z * A * v) (v * s) (mul-pos v0 s0)
    (widen small (known refl (one t Y B v s) (two A v Z s) (chain i (known refl (three q Y B v s) refl (chain j (known refl (four p z s Y B) refl k))))))
  where
    one : (t Y B v s : ℕ) → t * 2 * (Y * B * v * s) ≡ t * (Y * 2 * B) * (v * s)
    one t Y B v s = simp (mul_assoc, mul_comm, mul_left_comm)

    two : (A v Z s : ℕ) → A * v * (Z * v) * s ≡ Z * A * v * (v * s)
    two A v Z s = simp (mul_assoc, mul_comm, mul_left_comm)

    three : (q Y B v s : ℕ) → q * v * s * (Y * B) ≡ q * (Y * B * v * s)
    three q Y B v s = simp (mul_assoc, mul_comm, mul_left_comm)

    four : (p z s Y B : ℕ) → p * B * (z * Y) * s ≡ p * z * s * (Y * B)
    four p z s Y B = simp (mul_assoc, mul_comm, mul_left_comm)

    small : u * 2 * (Y * B * v * s) + ((p * z + s * v) * (Y * B) + (e * B * (z * Y) + A * v * (25 * w * Z + 17 * w * Y)) * s) ≤ B * (56 * w * Z + 34 * w * Y) * (v * s)
    small =
        let F = 25 * w * Z + 17 * w * Y in
        let h1 : z * Y * B * p ≤ z * Y * B * v = mul-le-mul_left (z * Y * B) pv in
        let h2 : v * F * s * A ≤ v * F * s * B = mul-le-mul_left (v * F * s) ab in
        let h3 : B * (v + e * s) * (z * Y) ≤ B * (v + e * s) * (Z * v + F) = mul-le-mul_left (B * (v + e * s)) hz.most in
        let h4 : B * Z * ((v + e * s) * (v + 25 * w) + 25 * w * (v * s)) ≤ B * Z * (56 * w * (v * s)) = mul-le-mul_left (B * Z) c3 in
        let h5 : B * Y * (2 * u * (v * s) + (v + e * s) * (17 * w) + s * v + 17 * w * (v * s)) ≤ B * Y * (34 * w * (v * s)) = mul-le-mul_left (B * Y) c4 in
        go (z * Y * B * p) (z * Y * B * v) (v * F * s * A) (v * F * s * B) (B * (v + e * s) * (z * Y)) (B * (v + e * s) * (Z * v + F)) (u * 2 * (Y * B * v * s)) (s * v * (Y * B)) (e * s * B * (z * Y)) _ _ _ _ h1 h2 h3 (five u Y B v s p z e A F) (six B v e s z Y) (seven B Z v e s w u Y) (add_le h4 h5) (eight B Z Y w v s)
      where
        add_le : {a b c d : ℕ} → a ≤ b → c ≤ d → a + c ≤ b + d
        add_le h g = omega (arith, h, g)

        five : (u Y B v s p z e A F : ℕ) → u * 2 * (Y * B * v * s) + ((p * z + s * v) * (Y * B) + (e * B * (z * Y) + A * v * F) * s) ≡ u * 2 * (Y * B * v * s) + z * Y * B * p + s * v * (Y * B) + e * s * B * (z * Y) + v * F * s * A
        five u Y B v s p z e A F =
            naturals (var 0 :* con (pos 2) :* (var 1 :* var 2 :* var 3 :* var 4) :+ ((var 5 :* var 6 :+ var 4 :* var 3) :* (var 1 :* var 2) :+ (var 7 :* var 2 :* (var 6 :* var 1) :+ var 8 :* var 3 :* var 9) :* var 4))
            (var 0 :* con (pos 2) :* (var 1 :* var 2 :* var 3 :* var 4) :+ var 6 :* var 1 :* var 2 :* var 5 :+ var 4 :* var 3 :* (var 1 :* var 2) :+ var 7 :* var 4 :* var 2 :* (var 6 :* var 1) :+ var 3 :* var 9 :* var 4 :* var 8) tt (u ∷ Y ∷ B ∷ v ∷ s ∷ p ∷ z ∷ e ∷ A ∷ F ∷ [])

        six : (B v e s z Y : ℕ) → B * (v + e * s) * (z * Y) ≡ z * Y * B * v + e * s * B * (z * Y)
        six B v e s z Y = naturals (var 0 :* (var 1 :+ var 2 :* var 3) :* (var 4 :* var 5)) (var 4 :* var 5 :* var 0 :* var 1 :+ var 2 :* var 3 :* var 0 :* (var 4 :* var 5)) tt (B ∷ v ∷ e ∷ s ∷ z ∷ Y ∷ [])

        seven : (B Z v e s w u Y : ℕ) → u * 2 * (Y * B * v * s) + s * v * (Y * B) + B * (v + e * s) * (Z * v + (25 * w * Z + 17 * w * Y)) + v * (25 * w * Z + 17 * w * Y) * s * B ≡ B * Z * ((v + e * s) * (v + 25 * w) + 25 * w * (v * s)) + B * Y * (2 * u * (v * s) + (v + e * s) * (17 * w) + s * v + 17 * w * (v * s))
        seven B Z v e s w u Y =
            naturals (var 6 :* con (pos 2) :* (var 7 :* var 0 :* var 2 :* var 4) :+ var 4 :* var 2 :* (var 7 :* var 0) :+ var 0 :* (var 2 :+ var 3 :* var 4) :* (var 1 :* var 2 :+ (con (pos 25) :* var 5 :* var 1 :+ con (pos 17) :* var 5 :* var 7)) :+ var 2 :* (con (pos 25) :* var 5 :* var 1 :+ con (pos 17) :* var 5 :* var 7) :* var 4 :* var 0)
            (var 0 :* var 1 :* ((var 2 :+ var 3 :* var 4) :* (var 2 :+ con (pos 25) :* var 5) :+ con (pos 25) :* var 5 :* (var 2 :* var 4)) :+ var 0 :* var 7 :* (con (pos 2) :* var 6 :* (var 2 :* var 4) :+ (var 2 :+ var 3 :* var 4) :* (con (pos 17) :* var 5) :+ var 4 :* var 2 :+ con (pos 17) :* var 5 :* (var 2 :* var 4))) tt (B ∷ Z ∷ v ∷ e ∷ s ∷ w ∷ u ∷ Y ∷ [])

        eight : (B Z Y w v s : ℕ) → B * Z * (56 * w * (v * s)) + B * Y * (34 * w * (v * s)) ≡ B * (56 * w * Z + 34 * w * Y) * (v * s)
        eight B Z Y w v s = naturals (var 0 :* var 1 :* (con (pos 56) :* var 3 :* (var 4 :* var 5)) :+ var 0 :* var 2 :* (con (pos 34) :* var 3 :* (var 4 :* var 5))) (var 0 :* (con (pos 56) :* var 3 :* var 1 :+ con (pos 34) :* var 3 :* var 2) :* (var 4 :* var 5)) tt (B ∷ Z ∷ Y ∷ w ∷ v ∷ s ∷ [])

        go : (a1 a2 b1 b2 d1 d2 x y o l m n k : ℕ) → a1 ≤ a2 → b1 ≤ b2 → d1 ≤ d2 → l ≡ x + a1 + y + o + b1 → d1 ≡ a2 + o → x + y + d2 + b2 ≡ m → m ≤ n → n ≡ k → l ≤ k
        go a1 a2 b1 b2 d1 d2 x y o l m n k h1 h2 h3 h4 h5 h6 h7 h8 = omega (arith, h1, h2, h3, h4, h5, h6, h7, h8)

-- ---- the angle's square beside 1 - cos²: 5·z ≤ 13·(1 - cos²)
module _ (Z Y : ℕ) (y : 0 < Y) (z : Z * 2 ≤ 5 * Y) where
  least_run : (N : ℕ) → 12 * Y * run_bottom later Y (1 + N) 1 ≤ 12 * Y * run_top later Z Y (1 + N) 1 1 + Z * run_bottom later Y (1 + N) 1
  unfolding run_top run_bottom
  least_run N = from later Z Y 1 (λ (A B : ℕ). 12 * Y * B ≤ 12 * Y * A + Z * B) (λ k. mul-pos y (some k)) at N 1 1 (lit≤ tt) (lit≤ tt)
    where
      some : (k : ℕ) → 0 < later (suc k)
      some k = omega arith

      at : (A B : ℕ) → 0 < B → A ≤ B → 12 * Y * (Y * 12 * B) ≤ 12 * Y * (Y * 12 * B - Z * A) + Z * (Y * 12 * B)
      at A B b l =
          let i : 12 * Y * (Y * 12 * B) ≤ 12 * Y * (Y * 12 * B - Z * A + Z * A) = mul-le-mul_left (12 * Y) (back (Y * 12 * B) (Z * A)) in
          let j : 12 * Y * Z * A ≤ 12 * Y * Z * B = mul-le-mul_left (12 * Y * Z) l in
          go (12 * Y * (Y * 12 * B)) (Y * 12 * B - Z * A) (Z * A) (12 * Y) (12 * Y * Z * A) (12 * Y * Z * B) (Z * (Y * 12 * B)) i j (one Y Z A) (two Y Z B)
        where
          back : (a b : ℕ) → a ≤ a - b + b
          back a b = omega arith

          one : (Y Z A : ℕ) → 12 * Y * (Z * A) ≡ 12 * Y * Z * A
          one Y Z A = omega arith

          two : (Y Z B : ℕ) → 12 * Y * Z * B ≡ Z * (Y * 12 * B)
          two Y Z B = omega arith

          go : (l x a c m n o : ℕ) → l ≤ c * (x + a) → m ≤ n → c * a ≡ m → n ≡ o → l ≤ c * x + o
          go l x a c m n o h i j k = let p : c * (x + a) ≡ c * x + c * a = mul-add c x a in omega (arith, h, i, j, k, p)
            where
              mul-add : (c x a : ℕ) → c * (x + a) ≡ c * x + c * a
              mul-add c x a = omega arith

  pub angle_sine : (N C : ℕ) → let K = Y * 2 * run_bottom later Y (1 + N) 1 in C + Z * run_top later Z Y (1 + N) 1 1 ≡ K → 5 * (Z * (K * K)) ≤ 13 * (Y * (K * K - C * C))
  angle_sine N C e =
      let H = run_bottom later Y (1 + N) 1 in
      let R = run_top later Z Y (1 + N) 1 1 in
      let K = Y * 2 * H in
      let r : 19 * H ≤ 24 * R = le_of_mul-le-mul_right (first Y Z H R (least_run N) (mul-le-mul_right H z)) y in
      let s : Z * R * K ≤ K * K - C * C = apart C (Z * R) K e in
      last Z Y H R K (K * K - C * C) (mul-le-mul_left (Z * (10 * Y) * K) r) (mul-le-mul_left Y s)
    where
      first : (Y Z H R : ℕ) → 12 * Y * H ≤ 12 * Y * R + Z * H → Z * 2 * H ≤ 5 * Y * H → 19 * H * Y ≤ 24 * R * Y
      first Y Z H R a b = omega (arith, a, b)

      apart : (C D K : ℕ) → C + D ≡ K → D * K ≤ K * K - C * C
      apart C D K e = subst (λ (k : ℕ). D * k ≤ k * k - C * C) e (go C D)
        where
          go : (C D : ℕ) → D * (C + D) ≤ (C + D) * (C + D) - C * C
          go C D = sub (D * (C + D)) ((C + D) * (C + D)) (C * C) (omega arith)
            where
              sub : (a b c : ℕ) → a + c ≤ b → a ≤ b - c
              sub a b c h = omega (arith, h)

      last : (Z Y H R K S : ℕ) → Z * (10 * Y) * K * (19 * H) ≤ Z * (10 * Y) * K * (24 * R) → Y * (Z * R * K) ≤ Y * S → 5 * (Z * ((Y * 2 * H) * K)) ≤ 13 * (Y * S)
      last Z Y H R K S a b = go (Z * Y * K * H) (Z * Y * K * R) (Y * S) _ _ _ _ a (one Z Y K H) (two Z Y K R) b (three Z Y R K) (four Z Y H K)
        where
          one : (Z Y K H : ℕ) → Z * (10 * Y) * K * (19 * H) ≡ 190 * (Z * Y * K * H)
          one Z Y K H = naturals (var 0 :* (con (pos 10) :* var 1) :* var 2 :* (con (pos 19) :* var 3)) (con (pos 190) :* (var 0 :* var 1 :* var 2 :* var 3)) tt (Z ∷ Y ∷ K ∷ H ∷ [])

          two : (Z Y K R : ℕ) → Z * (10 * Y) * K * (24 * R) ≡ 240 * (Z * Y * K * R)
          two Z Y K R = naturals (var 0 :* (con (pos 10) :* var 1) :* var 2 :* (con (pos 24) :* var 3)) (con (pos 240) :* (var 0 :* var 1 :* var 2 :* var 3)) tt (Z ∷ Y ∷ K ∷ R ∷ [])

          three : (Z Y R K : ℕ) → Y * (Z * R * K) ≡ Z * Y * K * R
          three Z Y R K = simp (mul_assoc, mul_comm, mul_left_comm)

          four : (Z Y H K : ℕ) → 5 * (Z * ((Y * 2 * H) * K)) ≡ 10 * (Z * Y * K * H)
          four Z Y H K = naturals (con (pos 5) :* (var 0 :* ((var 1 :* con (pos 2) :* var 2) :* var 3))) (con (pos 10) :* (var 0 :* var 1 :* var 3 :* var 2)) tt (Z ∷ Y ∷ H ∷ K ∷ [])

          go : (h r s a b c d : ℕ) → a ≤ b → a ≡ 190 * h → b ≡ 240 * r → c ≤ s → c ≡ r → d ≡ 10 * h → d ≤ 13 * s
          go h r s a b c d i j k l m n = omega (arith, i, j, k, l, m, n)

-- ---- the cosine
module _ (X W : ℕ) (r : Float) (b : Beside turned turned² X W r) where
  abbrev Z : ℕ
  Z = X * X

  abbrev Y : ℕ
  Y = W * W

  -- an eighth of 2 ^ -53
  abbrev w : ℕ
  w = 2 ^ 1018

  y_pos : 0 < Y
  y_pos = mul-pos b.base b.base

  z_most : Z * 2 ≤ 5 * Y
  z_most = go Z Y b.most
    where
      go : (z y : ℕ) → z * 2 ^ 10 ≤ 2527 * y → z * 2 ≤ 5 * y
      go z y h = omega (arith, h)

  hr : Held r
  hr = record { fine = b.mag.fine; held = b.held }

  abbrev z : Float
  z = r ⊗ r

  z_fine : Within (25 * w * Z + 17 * w * Y) (count z * Y) (Z * U)
  z_fine = square_fine (count z) (count r) X W U turned (2 ^ 53) w (pow_pos 1074) (pow_pos 53) (mul_share 1023 (lit≤ tt) hr hr (small (count r) U (2 ^ (53 + suc 1023)) (pow_pos 1074) (two (count r) U (count_most P 52 hr b.mag.most)) (lit≤ tt))) b.near (lit≤ tt) (lit≤ tt)
    where
      two : (c v : ℕ) → c * 2 ^ 52 ≤ P * v → c ≤ 2 * v
      two c v h = omega (arith, h)

      small : (x v L : ℕ) → 0 < v → x ≤ 2 * v → 4 * v < L → x * x < L * v
      small x v L p h l = lt_of_le_of_lt (mul-le-mul h h) (lt_of_le_of_lt (le_of_eq (one v)) (mul-lt-mul_of_pos_right l p))
        where
          one : (v : ℕ) → 2 * v * (2 * v) ≡ 4 * v * v
          one v = omega arith

  abbrev p : Float
  p = series later_f 10 z one

  abbrev q : Float
  q = p ⊗ z

  abbrev t : Float
  t = q ⊘ cos_div 1

  module _ (j : ℕ) where
    abbrev A : ℕ
    A = run_top later Z Y (10 + j) 1 1

    abbrev B : ℕ
    B = run_bottom later Y (10 + j) 1

    hp : At (before turned²) A B p
    hp = inner turned turned² X W r b j

    pm : count p * 2 ^ 0 ≤ 1 * U
    pm = count_most 1 0 hp.ok hp.range.most

    zm : count z * 2 ^ 10 ≤ 2527 * U
    zm = count_most 2527 10 b.square.ok b.square.range.most

    q_ok : Result (count p * count z) U 1022 q
    q_ok = mul_off 1022 (lit≤ tt) hp.ok b.square.ok (product_small (count p) (count z) (2 ^ (53 + suc 1022)) pm zm (lit≤ tt))

    q_off : Within (count p * count z + 2 ^ 53 * U) (count q * U * 2 ^ 53) (count p * count z * 2 ^ 53)
    q_off = mul_share 1022 (lit≤ tt) hp.ok b.square.ok (product_small (count p) (count z) (2 ^ (53 + suc 1022)) pm zm (lit≤ tt))

    q_in : In 0 0 2527 10 q
    q_in = mul_in hp.range b.square.range tt

    t_off : Within (2 ^ 1021 * 2) (count t * 2) (count q)
    t_off =
        share (count t) (count q) (2 ^ 1021)
        (subst (λ (k : ℕ). Within (2 ^ 1021 * k) (count t * k) (count q * U)) two_count
        (div_off 1021 (lit≤ tt) q_ok.ok two_held (subst (λ (k : ℕ). 0 < k) (sym two_count) (mul-pos (lit≤ {m = 1} {n = 2} tt) (pow_pos 1074))) (subst (λ (k : ℕ). count q * U < 2 ^ (53 + suc 1021) * k) (sym two_count) (small (count q) U (2 ^ (53 + suc 1021)) (pow_pos 1074) (count_most 2527 10 q_ok.ok q_in.most) (lit≤ tt)))).off)
      where
        small : (q u L : ℕ) → 0 < u → q * 2 ^ 10 ≤ 2527 * u → 2 * u ≤ L → q * u < L * (2 * u)
        small q u L P h l = lt_of_lt_of_le (mul-lt-mul_of_pos_right (first q u P h) P) (le_trans (le_of_eq (four u)) (mul-le-mul_right (2 * u) l))
          where
            first : (q u : ℕ) → 0 < u → q * 2 ^ 10 ≤ 2527 * u → q < 4 * u
            first q u P h = omega (arith, P, h)

            four : (u : ℕ) → 4 * u * u ≡ 2 * u * (2 * u)
            four u = omega arith

        share : (t q h : ℕ) → Within (h * (2 * U)) (t * (2 * U)) (q * U) → Within (h * 2) (t * 2) q
        share t q h x = untimes (h * 2) (t * 2) q U (pow_pos 1074) (known (sym (mul_assoc h 2 U)) (sym (mul_assoc t 2 U)) refl x)

    t_fine : Within (B * (56 * w * Z + 34 * w * Y)) (count t * (Y * 2 * B)) (Z * A * U)
    t_fine =
        halved_fine A B Z Y (count p) (count z) (count q) (count t) U (2 ^ 1021) w (2 ^ 53) (before turned²) (pow_pos 1074) (pow_pos 53) (run_most later Z Y (10 + j) 1 1 (lit≤ tt))
        (le_trans (le_of_eq (sym (mul-one (count p)))) (le_trans pm (le_of_eq (one-mul U)))) hp.off z_fine q_off t_off (lit≤ tt) (lit≤ tt)

    c_fine : (C : ℕ) → C + Z * A ≡ Y * 2 * B → sgn (raw turned turned² X W r b) ≡ false → Within (2 ^ 1021 * (Y * 2 * B) + B * (56 * w * Z + 34 * w * Y)) (count (raw turned turned² X W r b) * (Y * 2 * B)) (C * U)
    c_fine C e s =
        let h = half_of turned turned² X W r b j in
        subst (λ (y : Float). Within (2 ^ 1021 * (Y * 2 * B) + B * (56 * w * Z + 34 * w * Y)) (count y * (Y * 2 * B)) (C * U)) (sym (last_of turned turned² X W r b))
        (rest_off U (count t) (count (one ⊖ t)) (Y * 2 * B) (Z * A) C (B * (56 * w * Z + 34 * w * Y)) (2 ^ 1021) (clear_when t h (sym (ap sgn (last_of turned turned² X W r b)) ∙ s)) (less t h).off t_fine e)

  -- |c - C / K| ≤ (25 + 73·(1 - cos²)) / 8 · 2 ^ -53
  pub fine : (i C K : ℕ) → 10 ≤ i → K ≡ Y * 2 * run_bottom later Y i 1 → C + Z * run_top later Z Y i 1 1 ≡ Y * 2 * run_bottom later Y i 1 → sgn (raw turned turned² X W r b) ≡ false
      → let c = count (raw turned turned² X W r b) in Within (2 ^ 1018 * (25 * (K * K) + 73 * (K * K - C * C))) (c * K * K) (C * K * U)
  fine i C K l k e s =
      let c = count (raw turned turned² X W r b) in
      let B = run_bottom later Y i 1 in
      let n : Within (2 ^ 1021 * (Y * 2 * B) + B * (56 * w * Z + 34 * w * Y)) (c * (Y * 2 * B)) (C * U) =
      subst (λ (i : ℕ). C + Z * run_top later Z Y i 1 1 ≡ Y * 2 * run_bottom later Y i 1 → Within (2 ^ 1021 * (Y * 2 * run_bottom later Y i 1) + run_bottom later Y i 1 * (56 * w * Z + 34 * w * Y)) (c * (Y * 2 * run_bottom later Y i 1)) (C * U)) (ten i l) (λ e. c_fine (i - 10) C e s) e in
      let a : 5 * (Z * (Y * 2 * B * (Y * 2 * B))) ≤ 13 * (Y * (Y * 2 * B * (Y * 2 * B) - C * C)) =
      subst (λ (i : ℕ). C + Z * run_top later Z Y i 1 1 ≡ Y * 2 * run_bottom later Y i 1 → 5 * (Z * (Y * 2 * run_bottom later Y i 1 * (Y * 2 * run_bottom later Y i 1))) ≤ 13 * (Y * (Y * 2 * run_bottom later Y i 1 * (Y * 2 * run_bottom later Y i 1) - C * C))) (unit i l) (angle_sine Z Y y_pos z_most (i - 1) C) e in
      subst (λ (K : ℕ). Within (2 ^ 1018 * (25 * (K * K) + 73 * (K * K - C * C))) (c * K * K) (C * K * U)) (sym k)
      (widen (le_of_mul-le-mul_right (total (Y * 2 * B) B Z Y w (Y * 2 * B * (Y * 2 * B) - C * C) (2 ^ 1021) refl refl a) y_pos) (known refl refl (mul_right_comm C U (Y * 2 * B)) (times (Y * 2 * B) n)))
    where
      ten : (i : ℕ) → 10 ≤ i → 10 + (i - 10) ≡ i
      ten i l = omega (arith, l)

      unit : (i : ℕ) → 10 ≤ i → 1 + (i - 1) ≡ i
      unit i l = omega (arith, l)

      total : (K B Z Y w S u : ℕ) → u ≡ 8 * w → K ≡ Y * 2 * B → 5 * (Z * (K * K)) ≤ 13 * (Y * S) → (u * K + B * (56 * w * Z + 34 * w * Y)) * K * Y ≤ w * (25 * (K * K) + 73 * S) * Y
      total K B Z Y w S u eu ek a =
          le_trans (le_of_eq (ap (λ (u : ℕ). (u * K + B * (56 * w * Z + 34 * w * Y)) * K * Y) eu ∙ one K B Z Y w ∙ ap (λ (n : ℕ). 8 * w * (K * K) * Y + n * K * (28 * w * Z + 17 * w * Y)) (sym ek) ∙ two K Z Y w))
          (le_trans (go (w * Y * (K * K)) (w * (Z * (K * K))) (w * (Y * S)) (le_trans (le_of_eq (three w Z K)) (le_trans (mul-le-mul_left w a) (le_of_eq (four w Y S))))) (le_of_eq (five w Y K S)))
        where
          one : (K B Z Y w : ℕ) → (8 * w * K + B * (56 * w * Z + 34 * w * Y)) * K * Y ≡ 8 * w * (K * K) * Y + Y * 2 * B * K * (28 * w * Z + 17 * w * Y)
          one K B Z Y w = naturals ((con (pos 8) :* var 4 :* var 0 :+ var 1 :* (con (pos 56) :* var 4 :* var 2 :+ con (pos 34) :* var 4 :* var 3)) :* var 0 :* var 3) (con (pos 8) :* var 4 :* (var 0 :* var 0) :* var 3 :+ var 3 :* con (pos 2) :* var 1 :* var 0 :* (con (pos 28) :* var 4 :* var 2 :+ con (pos 17) :* var 4 :* var 3)) tt (K ∷ B ∷ Z ∷ Y ∷ w ∷ [])

          two : (K Z Y w : ℕ) → 8 * w * (K * K) * Y + K * K * (28 * w * Z + 17 * w * Y) ≡ 25 * (w * Y * (K * K)) + 28 * (w * (Z * (K * K)))
          two K Z Y w = naturals (con (pos 8) :* var 3 :* (var 0 :* var 0) :* var 2 :+ var 0 :* var 0 :* (con (pos 28) :* var 3 :* var 1 :+ con (pos 17) :* var 3 :* var 2)) (con (pos 25) :* (var 3 :* var 2 :* (var 0 :* var 0)) :+ con (pos 28) :* (var 3 :* (var 1 :* (var 0 :* var 0)))) tt (K ∷ Z ∷ Y ∷ w ∷ [])

          three : (w Z K : ℕ) → 5 * (w * (Z * (K * K))) ≡ w * (5 * (Z * (K * K)))
          three w Z K = omega arith

          four : (w Y S : ℕ) → w * (13 * (Y * S)) ≡ 13 * (w * (Y * S))
          four w Y S = omega arith

          five : (w Y K S : ℕ) → 25 * (w * Y * (K * K)) + 73 * (w * (Y * S)) ≡ w * (25 * (K * K) + 73 * S) * Y
          five w Y K S = naturals (con (pos 25) :* (var 0 :* var 1 :* (var 2 :* var 2)) :+ con (pos 73) :* (var 0 :* (var 1 :* var 3))) (var 0 :* (con (pos 25) :* (var 2 :* var 2) :+ con (pos 73) :* var 3) :* var 1) tt (w ∷ Y ∷ K ∷ S ∷ [])

          go : (x y s : ℕ) → 5 * y ≤ 13 * s → 25 * x + 28 * y ≤ 25 * x + 73 * s
          go x y s h = omega (arith, h)
