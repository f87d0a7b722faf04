-- ((a - b) / (a + b))² from a and b that are near A / H and B / H in proportion: the errors of sum and difference are kept together. Assumes nothing.
use mathlib.Core.Path.{◌≡◌, refl, sym, ap, ap₂, ◌∙◌, subst}
use mathlib.Core.List.{[], ◌∷◌}
use Prim.Native.Nat.{ℕ, ◌+◌, ◌-◌, ◌*◌, ◌≤◌, ◌<◌}
use native.Mathlib.Nat.{le_trans, le_of_eq, le_of_lt, lt_of_not-le, mul_comm, mul_assoc, mul_left_comm, mul_right_comm, mul-le-mul, mul-le-mul_left, mul-le-mul_right, le_of_mul-le-mul_right, mul-pos, mul-sub, add-mul}
use native.Mathlib.Decide.{dec_le}
use native.Mathlib.Omega.{arith}
use lib.Dec.{lit≤}
use lib.IntN.{pos}
use Rattle.whole_ring.proofs.Solver.{var, con, ◌:+◌, ◌:*◌}
use Rattle.whole_ring.proofs.Naturals.{naturals}
use Rattle.ieee_near.specs.Index.{gap}
use Rattle.near_abs.specs.Off.{Within}
use Rattle.near_abs.proofs.Within.{times, known}

-- ---- two numbers, the larger as the smaller and the rest
pub by_order : (P : ℕ → ℕ → Type 0) → ((b d : ℕ) → P (b + d) b) → ((a d : ℕ) → P a (a + d)) → (a b : ℕ) → P a b
by_order P f g a b = go (dec_le b a)
  where
    back : (a b : ℕ) → b ≤ a → a ≡ b + (a - b)
    back a b h = omega (arith, h)

    go : Dec (b ≤ a) → P a b
    go (yes h) = subst (λ (x : ℕ). P x b) (sym (back a b h)) (f b (a - b))
    go (no h) = let l = le_of_lt (lt_of_not-le h) in subst (λ (x : ℕ). P a x) (sym (back b a l)) (g a (b - a))

gap_up : (b d : ℕ) → gap (b + d) b ≡ d
gap_up b d = omega arith

gap_down : (a d : ℕ) → gap a (a + d) ≡ d
gap_down a d = omega arith

-- |(a - b)·(A + B) - (A - B)·(a + b)| is 2·|a·B - b·A|
crossed : (a b A B : ℕ) → Within (2 * gap (a * B) (b * A)) (gap a b * (A + B)) (gap A B * (a + b))
crossed a b A B =
    by_order (λ (a b : ℕ). Within (2 * gap (a * B) (b * A)) (gap a b * (A + B)) (gap A B * (a + b)))
    (λ b d. by_order (λ (A B : ℕ). Within (2 * gap ((b + d) * B) (b * A)) (gap (b + d) b * (A + B)) (gap A B * (b + d + b)))
    (λ B D. subst (λ (g : ℕ). Within (2 * gap ((b + d) * B) (b * (B + D))) (g * (B + D + B)) (gap (B + D) B * (b + d + b))) (sym (gap_up b d)) (subst (λ (g : ℕ). Within (2 * gap ((b + d) * B) (b * (B + D))) (d * (B + D + B)) (g * (b + d + b))) (sym (gap_up B D)) (one b d B D)))
    (λ A D. subst (λ (g : ℕ). Within (2 * gap ((b + d) * (A + D)) (b * A)) (g * (A + (A + D))) (gap A (A + D) * (b + d + b))) (sym (gap_up b d)) (subst (λ (g : ℕ). Within (2 * gap ((b + d) * (A + D)) (b * A)) (d * (A + (A + D))) (g * (b + d + b))) (sym (gap_down A D)) (two b d A D)))
    A B)
    (λ a d. by_order (λ (A B : ℕ). Within (2 * gap (a * B) ((a + d) * A)) (gap a (a + d) * (A + B)) (gap A B * (a + (a + d))))
    (λ B D. subst (λ (g : ℕ). Within (2 * gap (a * B) ((a + d) * (B + D))) (g * (B + D + B)) (gap (B + D) B * (a + (a + d)))) (sym (gap_down a d)) (subst (λ (g : ℕ). Within (2 * gap (a * B) ((a + d) * (B + D))) (d * (B + D + B)) (g * (a + (a + d)))) (sym (gap_up B D)) (three a d B D)))
    (λ A D. subst (λ (g : ℕ). Within (2 * gap (a * (A + D)) ((a + d) * A)) (g * (A + (A + D))) (gap A (A + D) * (a + (a + d)))) (sym (gap_down a d)) (subst (λ (g : ℕ). Within (2 * gap (a * (A + D)) ((a + d) * A)) (d * (A + (A + D))) (g * (a + (a + d)))) (sym (gap_down A D)) (four a d A D)))
    A B)
    a b
  where
    one : (b d B D : ℕ) → Within (2 * gap ((b + d) * B) (b * (B + D))) (d * (B + D + B)) (D * (b + d + b))
    one b d B D = record { most = omega arith; least = omega arith }

    two : (b d A D : ℕ) → Within (2 * gap ((b + d) * (A + D)) (b * A)) (d * (A + (A + D))) (D * (b + d + b))
    two b d A D = record { most = omega arith; least = omega arith }

    three : (a d B D : ℕ) → Within (2 * gap (a * B) ((a + d) * (B + D))) (d * (B + D + B)) (D * (a + (a + d)))
    three a d B D = record { most = omega arith; least = omega arith }

    four : (a d A D : ℕ) → Within (2 * gap (a * (A + D)) ((a + d) * A)) (d * (A + (A + D))) (D * (a + (a + d)))
    four a d A D = record { most = omega arith; least = omega arith }

-- (A + B)² is (A - B)² and 4·A·B
parts : (A B : ℕ) → (A + B) * (A + B) ≡ gap A B * gap A B + 4 * (A * B)
parts A B =
    by_order (λ (A B : ℕ). (A + B) * (A + B) ≡ gap A B * gap A B + 4 * (A * B))
    (λ b d. subst (λ (g : ℕ). (b + d + b) * (b + d + b) ≡ g * g + 4 * ((b + d) * b)) (sym (gap_up b d)) (omega arith))
    (λ a d. subst (λ (g : ℕ). (a + (a + d)) * (a + (a + d)) ≡ g * g + 4 * (a * (a + d))) (sym (gap_down a d)) (omega arith)) A B

-- r·(1 - r²) is 2/5 at most: 10·A·B·|A - B| ≤ (A + B)³
humped : (A B : ℕ) → 10 * (A * B * gap A B) ≤ (A + B) * (A + B) * (A + B)
humped A B =
    by_order (λ (A B : ℕ). 10 * (A * B * gap A B) ≤ (A + B) * (A + B) * (A + B))
    (λ b d. subst (λ (g : ℕ). 10 * ((b + d) * b * g) ≤ (b + d + b) * (b + d + b) * (b + d + b)) (sym (gap_up b d)) (one b d))
    (λ a d. subst (λ (g : ℕ). 10 * (a * (a + d) * g) ≤ (a + (a + d)) * (a + (a + d)) * (a + (a + d))) (sym (gap_down a d)) (le_trans (le_of_eq (flip a d)) (le_trans (one a d) (le_of_eq (flip' a d))))) A B
  where
    flip : (a d : ℕ) → 10 * (a * (a + d) * d) ≡ 10 * ((a + d) * a * d)
    flip a d = omega arith

    flip' : (a d : ℕ) → (a + d + a) * (a + d + a) * (a + d + a) ≡ (a + (a + d)) * (a + (a + d)) * (a + (a + d))
    flip' a d = omega arith

    -- 4·b·d² ≤ 8·b³ + 2·b²·d + d³
    cubic : (b d : ℕ) → 4 * (b * (d * d)) ≤ 8 * (b * b * b) + 2 * (b * b * d) + d * d * d
    cubic b d = go (dec_le (4 * b) d)
      where
        far : (b e : ℕ) → 4 * (b * ((4 * b + e) * (4 * b + e))) ≤ (4 * b + e) * (4 * b + e) * (4 * b + e)
        far b e = omega arith

        -- d·(d - 2b)² is not below zero
        near : (b d : ℕ) → d ≤ 4 * b → 4 * (b * (d * d)) ≤ 8 * (b * b * b) + 2 * (b * b * d) + d * d * d
        near b d l = let i : b * b * d ≤ b * b * (4 * b) = mul-le-mul_left (b * b) l in let s = square b d in omega (arith, i, s)
          where
            twice : (d c : ℕ) → 2 * (c * (d * d)) ≤ d * d * d + c * c * d
            twice d c = by_order (λ (d c : ℕ). 2 * (c * (d * d)) ≤ d * d * d + c * c * d) up down d c
              where
                up : (c e : ℕ) → 2 * (c * ((c + e) * (c + e))) ≤ (c + e) * (c + e) * (c + e) + c * c * (c + e)
                up c e = omega arith

                down : (d e : ℕ) → 2 * ((d + e) * (d * d)) ≤ d * d * d + (d + e) * (d + e) * d
                down d e = omega arith

            square : (b d : ℕ) → 4 * (b * (d * d)) ≤ d * d * d + 4 * (b * b * d)
            square b d = let t : 2 * (2 * b * (d * d)) ≤ d * d * d + 2 * b * (2 * b) * d = twice d (2 * b) in omega (arith, t)

        go : Dec (4 * b ≤ d) → 4 * (b * (d * d)) ≤ 8 * (b * b * b) + 2 * (b * b * d) + d * d * d
        go (yes h) = le_trans (subst (λ (x : ℕ). 4 * (b * (x * x)) ≤ x * x * x) (sym (back b d h)) (far b (d - 4 * b))) (more (8 * (b * b * b)) (2 * (b * b * d)) (d * d * d))
          where
            back : (b d : ℕ) → 4 * b ≤ d → d ≡ 4 * b + (d - 4 * b)
            back b d h = omega (arith, h)

            more : (x y z : ℕ) → z ≤ x + y + z
            more x y z = omega arith
        go (no h) = near b d (le_of_lt (lt_of_not-le h))

    one : (b d : ℕ) → 10 * ((b + d) * b * d) ≤ (b + d + b) * (b + d + b) * (b + d + b)
    one b d = let c = cubic b d in omega (arith, c)

-- ---- q is (a - b) / (a + b), and r its square; u is a rounding, and pa and pb are the errors of a and b in proportion
module _
    (v u pa pb e H A B a b q r : ℕ) (v0 : 0 < v) (h0 : 0 < H) (f0 : 0 < A + B) (s0 : 0 < a + b)
    (an : Within (pa * A) (a * H) (A * v)) (bn : Within (pb * B) (b * H) (B * v))
    (qn : Within (u * (a + b) + 13 * u * v) (q * (a + b)) (gap a b * v)) (rn : Within (u * v) (r * v) (q * q))
    (big : 2 * H ≤ 3 * (A + B)) (few : (pa + pb) * 1000 ≤ v)
    (tiny : (20499 * u + 500 * (pa + pb)) * (20499 * u + 500 * (pa + pb)) ≤ 999 * (u * v)) (enough : 41998 * u + 400 * (pa + pb) ≤ 999 * e)
  where
    abbrev p : ℕ
    p = pa + pb

    abbrev F : ℕ
    F = A + B

    abbrev G : ℕ
    G = gap A B

    abbrev s : ℕ
    s = a + b

    -- |a·B - b·A|
    abbrev X : ℕ
    X = gap (a * B) (b * A)

    abbrev D : ℕ
    D = gap (q * F) (G * v)

    spread : (x y k : ℕ) → gap x y * k ≡ gap (x * k) (y * k)
    spread x y k = add-mul (x - y) (y - x) k ∙ ap₂ ◌+◌ (less x y k) (less y x k)
      where
        less : (a b c : ℕ) → (a - b) * c ≡ a * c - b * c
        less a b c = mul_comm (a - b) c ∙ mul-sub c a b ∙ ap₂ ◌-◌ (mul_comm c a) (mul_comm c b)

    X_most : X * H ≤ p * (A * B)
    X_most =
        let x : Within (pa * A * B) (a * H * B) (A * v * B) = times B an in
        let y : Within (pb * B * A) (b * H * A) (B * v * A) = times A bn in
        le_trans
        (go (X * H) (a * H * B) (b * H * A) (pa * (A * B)) (pb * (A * B)) (spread (a * B) (b * A) H ∙ ap₂ gap (mul_right_comm a B H) (mul_right_comm b A H)) (known (mul_assoc pa A B) refl (mul_right_comm A v B) x) (known (two pb A B) refl (three A B v) y))
        (le_of_eq (sym (add-mul pa pb (A * B))))
      where
        two : (p A B : ℕ) → p * B * A ≡ p * (A * B)
        two p A B = simp (mul_assoc, mul_comm, mul_left_comm)

        three : (A B v : ℕ) → B * v * A ≡ A * B * v
        three A B v = simp (mul_assoc, mul_comm, mul_left_comm)

        go : {z : ℕ} (x m n e f : ℕ) → x ≡ gap m n → Within e m z → Within f n z → x ≤ e + f
        go x m n e f h i j = omega (arith, h, i, j)

    -- a + b is its exact value up to a thousandth
    sum_least : 999 * (v * F) ≤ 1000 * (s * H)
    sum_least = le_trans (le_of_eq (one A B v)) (le_trans (go (a * H) (b * H) (A * v) (B * v) (pa * A) (pb * B) an.least bn.least (scale pa A (le_trans (mul-le-mul_right 1000 (first pa pb)) few)) (scale pb B (le_trans (mul-le-mul_right 1000 (second pa pb)) few))) (le_of_eq (two a b H)))
      where
        first : (x y : ℕ) → x ≤ x + y
        first x y = omega arith

        second : (x y : ℕ) → y ≤ x + y
        second x y = omega arith

        scale : (p A : ℕ) → p * 1000 ≤ v → 1000 * (p * A) ≤ A * v
        scale p A h = le_trans (le_of_eq (turned p A)) (mul-le-mul_left A h)
          where
            turned : (p A : ℕ) → 1000 * (p * A) ≡ A * (p * 1000)
            turned p A = omega arith

        go : (x y m n e f : ℕ) → m ≤ x + e → n ≤ y + f → 1000 * e ≤ m → 1000 * f ≤ n → 999 * (m + n) ≤ 1000 * (x + y)
        go x y m n e f h i j k = omega (arith, h, i, j, k)

        one : (A B v : ℕ) → 999 * (v * (A + B)) ≡ 999 * (A * v + B * v)
        one A B v = omega arith

        two : (a b H : ℕ) → 1000 * (a * H + b * H) ≡ 1000 * ((a + b) * H)
        two a b H = omega arith

    D_first : D * s ≤ (u * s + 13 * u * v) * F + 2 * X * v
    D_first = le_trans (le_of_eq (spread (q * F) (G * v) s)) (go (q * F * s) (G * v * s) ((u * s + 13 * u * v) * F) (2 * X * v) (known refl (mul_right_comm q s F) (mul_right_comm (gap a b) v F) (times F qn)) (known refl refl (mul_right_comm G s v) (times v (crossed a b A B))))
      where
        go : {z : ℕ} (m n e f : ℕ) → Within e m z → Within f z n → gap m n ≤ e + f
        go m n e f h i = omega (arith, h, i)

    -- 999·D·F ≤ 20499·u·F² + 2000·p·A·B
    D_most : 999 * (D * F) ≤ 20499 * (u * (F * F)) + 2000 * (p * (A * B))
    D_most = le_of_mul-le-mul_right (le_trans (le_of_eq (one D F s H)) (le_trans (mul-le-mul_left 999 (mul-le-mul_right (H * F) D_first)) (le_trans (le_of_eq (two u s v F X H)) total))) (mul-pos s0 h0)
      where
        one : (D F s H : ℕ) → 999 * (D * F) * (s * H) ≡ 999 * (D * s * (H * F))
        one D F s H = naturals (con (pos 999) :* (var 0 :* var 1) :* (var 2 :* var 3)) (con (pos 999) :* (var 0 :* var 2 :* (var 3 :* var 1))) tt (D ∷ F ∷ s ∷ H ∷ [])

        two : (u s v F X H : ℕ) → 999 * (((u * s + 13 * u * v) * F + 2 * X * v) * (H * F)) ≡ 999 * (u * (s * H) * (F * F)) + 13 * u * (F * H) * (999 * (v * F)) + 2 * (X * H) * (999 * (v * F))
        two u s v F X H =
            naturals (con (pos 999) :* (((var 0 :* var 1 :+ con (pos 13) :* var 0 :* var 2) :* var 3 :+ con (pos 2) :* var 4 :* var 2) :* (var 5 :* var 3)))
            (con (pos 999) :* (var 0 :* (var 1 :* var 5) :* (var 3 :* var 3)) :+ con (pos 13) :* var 0 :* (var 3 :* var 5) :* (con (pos 999) :* (var 2 :* var 3)) :+ con (pos 2) :* (var 4 :* var 5) :* (con (pos 999) :* (var 2 :* var 3)))
            tt (u ∷ s ∷ v ∷ F ∷ X ∷ H ∷ [])

        total : 999 * (u * (s * H) * (F * F)) + 13 * u * (F * H) * (999 * (v * F)) + 2 * (X * H) * (999 * (v * F)) ≤ (20499 * (u * (F * F)) + 2000 * (p * (A * B))) * (s * H)
        total =
            let x : 13 * u * (F * H) * (999 * (v * F)) ≤ 13 * u * (F * H) * (1000 * (s * H)) = mul-le-mul_left (13 * u * (F * H)) sum_least in
            let y : 2 * (X * H) * (999 * (v * F)) ≤ 2 * (p * (A * B)) * (1000 * (s * H)) = mul-le-mul (mul-le-mul_left 2 X_most) sum_least in
            let z : 6500 * u * (s * H) * F * (2 * H) ≤ 6500 * u * (s * H) * F * (3 * F) = mul-le-mul_left (6500 * u * (s * H) * F) big in
            go (u * (s * H) * (F * F)) (13 * u * (F * H) * (999 * (v * F))) (13 * u * (F * H) * (1000 * (s * H))) (2 * (X * H) * (999 * (v * F))) (p * (A * B) * (s * H)) _ x (le_trans y (le_of_eq (three p A B s H))) (le_trans (le_of_eq (four u F s H)) (le_trans z (le_of_eq (five u F s H)))) (six u F p A B s H)
          where
            three : (p A B s H : ℕ) → 2 * (p * (A * B)) * (1000 * (s * H)) ≡ 2000 * (p * (A * B) * (s * H))
            three p A B s H = naturals (con (pos 2) :* (var 0 :* (var 1 :* var 2)) :* (con (pos 1000) :* (var 3 :* var 4))) (con (pos 2000) :* (var 0 :* (var 1 :* var 2) :* (var 3 :* var 4))) tt (p ∷ A ∷ B ∷ s ∷ H ∷ [])

            four : (u F s H : ℕ) → 13 * u * (F * H) * (1000 * (s * H)) ≡ 6500 * u * (s * H) * F * (2 * H)
            four u F s H = naturals (con (pos 13) :* var 0 :* (var 1 :* var 3) :* (con (pos 1000) :* (var 2 :* var 3))) (con (pos 6500) :* var 0 :* (var 2 :* var 3) :* var 1 :* (con (pos 2) :* var 3)) tt (u ∷ F ∷ s ∷ H ∷ [])

            five : (u F s H : ℕ) → 6500 * u * (s * H) * F * (3 * F) ≡ 19500 * (u * (s * H) * (F * F))
            five u F s H = naturals (con (pos 6500) :* var 0 :* (var 2 :* var 3) :* var 1 :* (con (pos 3) :* var 1)) (con (pos 19500) :* (var 0 :* (var 2 :* var 3) :* (var 1 :* var 1))) tt (u ∷ F ∷ s ∷ H ∷ [])

            six : (u F p A B s H : ℕ) → (20499 * (u * (F * F)) + 2000 * (p * (A * B))) * (s * H) ≡ 20499 * (u * (s * H) * (F * F)) + 2000 * (p * (A * B) * (s * H))
            six u F p A B s H = naturals ((con (pos 20499) :* (var 0 :* (var 1 :* var 1)) :+ con (pos 2000) :* (var 2 :* (var 3 :* var 4))) :* (var 5 :* var 6)) (con (pos 20499) :* (var 0 :* (var 5 :* var 6) :* (var 1 :* var 1)) :+ con (pos 2000) :* (var 2 :* (var 3 :* var 4) :* (var 5 :* var 6))) tt (u ∷ F ∷ p ∷ A ∷ B ∷ s ∷ H ∷ [])

            go : (k x1 x2 y1 l t : ℕ) → x1 ≤ x2 → y1 ≤ 2000 * l → x2 ≤ 19500 * k → t ≡ 20499 * k + 2000 * l → 999 * k + x1 + y1 ≤ t
            go k x1 x2 y1 l t a b c d = omega (arith, a, b, c, d)

    -- 999·D ≤ (20499·u + 500·p)·F
    D_small : 999 * D ≤ (20499 * u + 500 * p) * F
    D_small = le_of_mul-le-mul_right (go (D * F) (u * (F * F)) (p * (A * B)) (p * (F * F)) _ _ D_most (le_trans (le_of_eq (one p A B)) (mul-le-mul_left p quarter)) (mul_assoc 999 D F) (two u p F)) f0
      where
        quarter : 4 * (A * B) ≤ F * F
        quarter = more (gap A B * gap A B) (4 * (A * B)) (F * F) (parts A B)
          where
            more : (x y z : ℕ) → z ≡ x + y → y ≤ z
            more x y z e = omega (arith, e)

        one : (p A B : ℕ) → 4 * (p * (A * B)) ≡ p * (4 * (A * B))
        one p A B = omega arith

        two : (u p F : ℕ) → (20499 * u + 500 * p) * F * F ≡ 20499 * (u * (F * F)) + 500 * (p * (F * F))
        two u p F = omega arith

        go : (d x y z l t : ℕ) → 999 * d ≤ 20499 * x + 2000 * y → 4 * y ≤ z → l ≡ 999 * d → t ≡ 20499 * x + 500 * z → l ≤ t
        go d x y z l t a b c e = omega (arith, a, b, c, e)

    -- ---- the squares
    squares : gap (q * F * (q * F)) (G * v * (G * v)) ≤ D * (2 * (G * v) + D)
    squares = by_order (λ (m n : ℕ). gap (m * m) (n * n) ≤ gap m n * (2 * n + gap m n)) up down (q * F) (G * v)
      where
        up : (n d : ℕ) → gap ((n + d) * (n + d)) (n * n) ≤ gap (n + d) n * (2 * n + gap (n + d) n)
        up n d = subst (λ (g : ℕ). gap ((n + d) * (n + d)) (n * n) ≤ g * (2 * n + g)) (sym (gap_up n d)) (omega arith)

        down : (m d : ℕ) → gap (m * m) ((m + d) * (m + d)) ≤ gap m (m + d) * (2 * (m + d) + gap m (m + d))
        down m d = subst (λ (g : ℕ). gap (m * m) ((m + d) * (m + d)) ≤ g * (2 * (m + d) + g)) (sym (gap_down m d)) (omega arith)

    abbrev S : ℕ
    S = gap (q * F * (q * F)) (G * v * (G * v))

    S_most : 999 * S ≤ (40999 * u + 400 * p) * (v * (F * F))
    S_most =
        let k = 20499 * u + 500 * p in
        let x : 999 * (D * F) * (2 * (G * v)) ≤ (20499 * (u * (F * F)) + 2000 * (p * (A * B))) * (2 * (G * v)) = mul-le-mul_right (2 * (G * v)) D_most in
        let y : 999 * D * (D * F) ≤ k * F * (D * F) = mul-le-mul_right (D * F) D_small in
        let z : 999 * D * (k * (F * F)) ≤ k * F * (k * (F * F)) = mul-le-mul_right (k * (F * F)) D_small in
        let w : k * k * (F * F * F) ≤ 999 * (u * v) * (F * F * F) = mul-le-mul_right (F * F * F) tiny in
        let g : 40998 * (u * v * (F * F)) * G ≤ 40998 * (u * v * (F * F)) * F = mul-le-mul_left (40998 * (u * v * (F * F))) (gap_under A B) in
        let h : 400 * (p * v) * (10 * (A * B * G)) ≤ 400 * (p * v) * (F * F * F) = mul-le-mul_left (400 * (p * v)) (humped A B) in
        le_of_mul-le-mul_right
        (go (D * (D * F)) (u * v * (F * F * F)) (p * v * (F * F * F)) (999 * (D * F) * (2 * (G * v))) ((20499 * (u * (F * F)) + 2000 * (p * (A * B))) * (2 * (G * v))) (40998 * (u * v * (F * F)) * G) (400 * (p * v) * (10 * (A * B * G))) _ _ (le_trans (mul-le-mul_right F (mul-le-mul_left 999 squares)) (le_of_eq (one D G v F))) x (two u F p A B G v) (le_trans g (le_of_eq (three u v F))) (le_trans h (le_of_eq (mul_assoc 400 (p * v) (F * F * F)))) (small k D F (u * v) (le_trans (le_of_eq (four D F k)) (le_trans z (le_of_eq (five k F)))) w y) (six u p v F))
        f0
      where
        gap_under : (a b : ℕ) → gap a b ≤ a + b
        gap_under a b = omega arith

        one : (D G v F : ℕ) → 999 * (D * (2 * (G * v) + D)) * F ≡ 999 * (D * F) * (2 * (G * v)) + 999 * (D * (D * F))
        one D G v F = naturals (con (pos 999) :* (var 0 :* (con (pos 2) :* (var 1 :* var 2) :+ var 0)) :* var 3) (con (pos 999) :* (var 0 :* var 3) :* (con (pos 2) :* (var 1 :* var 2)) :+ con (pos 999) :* (var 0 :* (var 0 :* var 3))) tt (D ∷ G ∷ v ∷ F ∷ [])

        two : (u F p A B G v : ℕ) → (20499 * (u * (F * F)) + 2000 * (p * (A * B))) * (2 * (G * v)) ≡ 40998 * (u * v * (F * F)) * G + 400 * (p * v) * (10 * (A * B * G))
        two u F p A B G v = naturals ((con (pos 20499) :* (var 0 :* (var 1 :* var 1)) :+ con (pos 2000) :* (var 2 :* (var 3 :* var 4))) :* (con (pos 2) :* (var 5 :* var 6))) (con (pos 40998) :* (var 0 :* var 6 :* (var 1 :* var 1)) :* var 5 :+ con (pos 400) :* (var 2 :* var 6) :* (con (pos 10) :* (var 3 :* var 4 :* var 5))) tt (u ∷ F ∷ p ∷ A ∷ B ∷ G ∷ v ∷ [])

        three : (u v F : ℕ) → 40998 * (u * v * (F * F)) * F ≡ 40998 * (u * v * (F * F * F))
        three u v F = naturals (con (pos 40998) :* (var 0 :* var 1 :* (var 2 :* var 2)) :* var 2) (con (pos 40998) :* (var 0 :* var 1 :* (var 2 :* var 2 :* var 2))) tt (u ∷ v ∷ F ∷ [])

        four : (D F k : ℕ) → 999 * (k * F * (D * F)) ≡ 999 * D * (k * (F * F))
        four D F k = naturals (con (pos 999) :* (var 2 :* var 1 :* (var 0 :* var 1))) (con (pos 999) :* var 0 :* (var 2 :* (var 1 :* var 1))) tt (D ∷ F ∷ k ∷ [])

        five : (k F : ℕ) → k * F * (k * (F * F)) ≡ k * k * (F * F * F)
        five k F = naturals (var 0 :* var 1 :* (var 0 :* (var 1 :* var 1))) (var 0 :* var 0 :* (var 1 :* var 1 :* var 1)) tt (k ∷ F ∷ [])

        six : (u p v F : ℕ) → (40999 * u + 400 * p) * (v * (F * F)) * F ≡ 40999 * (u * v * (F * F * F)) + 400 * (p * v * (F * F * F))
        six u p v F = naturals ((con (pos 40999) :* var 0 :+ con (pos 400) :* var 1) :* (var 2 :* (var 3 :* var 3)) :* var 3) (con (pos 40999) :* (var 0 :* var 2 :* (var 3 :* var 3 :* var 3)) :+ con (pos 400) :* (var 1 :* var 2 :* (var 3 :* var 3 :* var 3))) tt (u ∷ p ∷ v ∷ F ∷ [])

        -- 999·D·D·F ≤ u·v·F³
        small : (k D F w : ℕ) → 999 * (k * F * (D * F)) ≤ k * k * (F * F * F) → k * k * (F * F * F) ≤ 999 * w * (F * F * F) → 999 * D * (D * F) ≤ k * F * (D * F) → 999 * (D * (D * F)) ≤ w * (F * F * F)
        small k D F w h i j = pick (999 * (D * (D * F))) (k * F * (D * F)) (k * k * (F * F * F)) (w * (F * F * F)) (le_trans (le_of_eq (sym (mul_assoc 999 D (D * F)))) j) h (le_trans i (le_of_eq (mul_assoc 999 w (F * F * F))))
          where
            pick : (a b c d : ℕ) → a ≤ b → 999 * b ≤ c → c ≤ 999 * d → a ≤ d
            pick a b c d h i j = omega (arith, h, i, j)

        go : (d x y x1 x2 g h t l : ℕ) → l ≤ x1 + 999 * d → x1 ≤ x2 → x2 ≡ g + h → g ≤ 40998 * x → h ≤ 400 * y → 999 * d ≤ x → t ≡ 40999 * x + 400 * y → l ≤ t
        go d x y x1 x2 g h t l a b c e f i j = omega (arith, a, b, c, e, f, i, j)

    -- ---- |r·F² - G²·v| ≤ e·F²
    pub ratio : Within (e * (F * F)) (r * (F * F)) (G * G * v)
    ratio = near (r * (F * F)) (G * G * v) (e * (F * F)) (le_of_mul-le-mul_right (le_trans (le_of_eq (one r F G v)) last) (mul-pos v0 (lit≤ {m = 1} {n = 999} tt)))
      where
        near : (m n e : ℕ) → gap m n ≤ e → Within e m n
        near m n e h = omega (arith, h)

        one : (r F G v : ℕ) → gap (r * (F * F)) (G * G * v) * (v * 999) ≡ 999 * gap (r * v * (F * F)) (G * v * (G * v))
        one r F G v =
            sym (mul_assoc (gap (r * (F * F)) (G * G * v)) v 999) ∙ mul_comm (gap (r * (F * F)) (G * G * v) * v) 999
            ∙ ap (λ (z : ℕ). 999 * z) (spread (r * (F * F)) (G * G * v) v ∙ ap₂ gap (mul_right_comm r (F * F) v) (naturals (var 0 :* var 0 :* var 1 :* var 1) (var 0 :* var 1 :* (var 0 :* var 1)) tt (G ∷ v ∷ [])))

        two : (q F : ℕ) → q * q * (F * F) ≡ q * F * (q * F)
        two q F = naturals (var 0 :* var 0 :* (var 1 :* var 1)) (var 0 :* var 1 :* (var 0 :* var 1)) tt (q ∷ F ∷ [])

        go : {z : ℕ} (m n f g t k : ℕ) → Within f m z → gap z n ≡ g → 999 * g ≤ k → 999 * f + k ≤ t → 999 * gap m n ≤ t
        go m n f g t k a b c d = omega (arith, a, b, c, d)

        last : 999 * gap (r * v * (F * F)) (G * v * (G * v)) ≤ e * (F * F) * (v * 999)
        last =
            go (r * v * (F * F)) (G * v * (G * v)) (u * v * (F * F)) S (e * (F * F) * (v * 999)) ((40999 * u + 400 * p) * (v * (F * F))) (known refl refl (two q F) (times (F * F) rn)) refl S_most
            (le_trans (le_of_eq (three u p v F)) (le_trans (mul-le-mul_right (v * (F * F)) enough) (le_of_eq (four e v F))))
          where
            three : (u p v F : ℕ) → 999 * (u * v * (F * F)) + (40999 * u + 400 * p) * (v * (F * F)) ≡ (41998 * u + 400 * p) * (v * (F * F))
            three u p v F = naturals (con (pos 999) :* (var 0 :* var 2 :* (var 3 :* var 3)) :+ (con (pos 40999) :* var 0 :+ con (pos 400) :* var 1) :* (var 2 :* (var 3 :* var 3))) ((con (pos 41998) :* var 0 :+ con (pos 400) :* var 1) :* (var 2 :* (var 3 :* var 3))) tt (u ∷ p ∷ v ∷ F ∷ [])

            four : (e v F : ℕ) → 999 * e * (v * (F * F)) ≡ e * (F * F) * (v * 999)
            four e v F = naturals (con (pos 999) :* var 0 :* (var 1 :* (var 2 :* var 2))) (var 0 :* (var 2 :* var 2) :* (var 1 :* con (pos 999))) tt (e ∷ v ∷ F ∷ [])
