-- sin² + cos² of the partial sums is 1 less some 2 ^ -10 at least. Both are bounded by their first four terms, and those by an identity. Assumes nothing.
use mathlib.Core.Path.{◌≡◌, refl, sym, ap, ap₂, ◌∙◌, subst}
use Prim.Native.Nat.{ℕ, zero, suc, ◌+◌, ◌-◌, ◌*◌, ◌^◌, ◌≤◌, ◌<◌}
use native.Mathlib.Nat.{le_refl, le_trans, le_of_eq, le_of_lt, lt_of_lt_of_le, lt_of_not-le, mul_comm, mul_assoc, mul_left_comm, mul_right_comm, mul-le-mul, mul-le-mul_left, mul-le-mul_right, le_of_mul-le-mul_right, mul-pos, add-suc, add-zero}
use native.Mathlib.Decide.{dec_le}
use native.Mathlib.Omega.{arith}
use lib.Dec.{lit≤}
use mathlib.Core.List.{List, [], ◌∷◌}
use lib.IntN.{pos}
use Rattle.whole_ring.proofs.Solver.{Ex, var, con, ◌:+◌, ◌:*◌}
use Rattle.whole_ring.proofs.Naturals.{naturals}
use Rattle.trig_near.proofs.Runs.{run_top, run_bottom}

-- ---- the first m steps, from any start that is no more than 1
pub from : (D : ℕ → ℕ) (Z Y m : ℕ) (P : ℕ → ℕ → Type 0) → ((k : ℕ) → 0 < Y * D (suc k))
    → ((A B : ℕ) → 0 < B → A ≤ B → P (run_top D Z Y m A B) (run_bottom D Y m B))
    → (j A B : ℕ) → 0 < B → A ≤ B → P (run_top D Z Y (m + j) A B) (run_bottom D Y (m + j) B)
unfolding run_top run_bottom
from D Z Y m P d f zero A B b l = subst (λ (n : ℕ). P (run_top D Z Y n A B) (run_bottom D Y n B)) (sym (add-zero m)) (f A B b l)
from D Z Y m P d f (suc j) A B b l =
    subst (λ (n : ℕ). P (run_top D Z Y n A B) (run_bottom D Y n B)) (sym (add-suc m j))
    (from D Z Y m P d f j (Y * D (suc (m + j)) * B - Z * A) (Y * D (suc (m + j)) * B) (mul-pos (d (m + j)) b) (sub-le (Y * D (suc (m + j)) * B) (Z * A)))
  where
    sub-le : (a b : ℕ) → a - b ≤ a
    sub-le a b = omega arith

-- ---- three steps: S is d1·d2·d3·Y³·B - d2·d3·Z·Y²·B + d3·Z²·Y·B - Z³-as-A over the first of these
pub three : (d1 d2 d3 Z Y A B q r s : ℕ) → q + Z * A ≡ Y * d3 * B → r + Z * q ≡ Y * d2 * (Y * d3 * B) → s + Z * r ≡ Y * d1 * (Y * d2 * (Y * d3 * B))
    → s + Z * (Y * d2 * (Y * d3 * B)) + Z * Z * Z * A ≡ Y * d1 * (Y * d2 * (Y * d3 * B)) + Z * Z * (Y * d3 * B)
three d1 d2 d3 Z Y A B q r s a b c =
    go (Z * Z * q) (Z * Z * Z * A) (Z * Z * (Y * d3 * B)) (Z * r) (Z * (Y * d2 * (Y * d3 * B))) s (Y * d1 * (Y * d2 * (Y * d3 * B))) (sym (spread Z q A) ∙ ap (λ (n : ℕ). Z * Z * n) a) (sym (spread' Z r q) ∙ ap (λ (n : ℕ). Z * n) b) c
  where
    spread : (Z q A : ℕ) → Z * Z * (q + Z * A) ≡ Z * Z * q + Z * Z * Z * A
    spread Z q A = omega arith

    spread' : (Z r q : ℕ) → Z * (r + Z * q) ≡ Z * r + Z * Z * q
    spread' Z r q = omega arith

    go : (zzq zza zzb zr zb s k : ℕ) → zzq + zza ≡ zzb → zr + zzq ≡ zb → s + zr ≡ k → s + zb + zza ≡ k + zzb
    go zzq zza zzb zr zb s k a b c = omega (arith, a, b, c)

-- ---- squares of a difference
square : (c a b : ℕ) → c + a ≡ b → c * c + 2 * (a * b) ≡ a * a + b * b
square c a b e = subst (λ (n : ℕ). c * c + 2 * (a * n) ≡ a * a + n * n) e (go c a)
  where
    go : (c a : ℕ) → c * c + 2 * (a * (c + a)) ≡ a * a + (c + a) * (c + a)
    go c a = omega arith

-- the identity: s and c are the first four terms, over 5040·Y³ and 720·Y³
-- their odd and even parts
abbrev so : Ex
so = con (pos 840) :* var 0 :* var 1 :* var 1 :+ var 0 :* var 0 :* var 0

abbrev se : Ex
se = con (pos 5040) :* var 1 :* var 1 :* var 1 :+ con (pos 42) :* var 0 :* var 0 :* var 1

abbrev co : Ex
co = con (pos 360) :* var 0 :* var 1 :* var 1 :+ var 0 :* var 0 :* var 0

abbrev ce : Ex
ce = con (pos 720) :* var 1 :* var 1 :* var 1 :+ con (pos 30) :* var 0 :* var 0 :* var 1

identity : (Z Y s c : ℕ) → s + (840 * Z * Y * Y + Z * Z * Z) ≡ 5040 * Y * Y * Y + 42 * Z * Z * Y → c + (360 * Z * Y * Y + Z * Z * Z) ≡ 720 * Y * Y * Y + 30 * Z * Z * Y
    → Z * (s * s) + 49 * Y * (c * c) + 1260 * (Z * Z * Z * Z * Y * Y * Y) + 35 * (Z * Z * Z * Z * Z * Z * Y) ≡ 25401600 * (Y * Y * Y * Y * Y * Y * Y) + 504 * (Z * Z * Z * Z * Z * Y * Y) + Z * Z * Z * Z * Z * Z * Z
identity Z Y s c hs hc =
    go (Z * (s * s)) (49 * Y * (c * c)) _ _ _ _ _ _ _ _ _
    (sym (share Z (s * s) _ _) ∙ ap (λ (n : ℕ). Z * n) (square s (840 * Z * Y * Y + Z * Z * Z) (5040 * Y * Y * Y + 42 * Z * Z * Y) hs))
    (sym (share (49 * Y) (c * c) _ _) ∙ ap (λ (n : ℕ). 49 * Y * n) (square c (360 * Z * Y * Y + Z * Z * Z) (720 * Y * Y * Y + 30 * Z * Z * Y) hc))
    (naturals
    (var 0 :* (so :* so :+ se :* se) :+ con (pos 49) :* var 1 :* (co :* co :+ ce :* ce) :+ con (pos 1260) :* (var 0 :* var 0 :* var 0 :* var 0 :* var 1 :* var 1 :* var 1) :+ con (pos 35) :* (var 0 :* var 0 :* var 0 :* var 0 :* var 0 :* var 0 :* var 1))
    (con (pos 25401600) :* (var 1 :* var 1 :* var 1 :* var 1 :* var 1 :* var 1 :* var 1) :+ con (pos 504) :* (var 0 :* var 0 :* var 0 :* var 0 :* var 0 :* var 1 :* var 1) :+ var 0 :* var 0 :* var 0 :* var 0 :* var 0 :* var 0 :* var 0 :+ (var 0 :* (con (pos 2) :* (so :* se)) :+ con (pos 49) :* var 1 :* (con (pos 2) :* (co :* ce))))
    tt (Z ∷ Y ∷ []))
  where
    share : (k a b c : ℕ) → k * (a + 2 * (b * c)) ≡ k * a + k * (2 * (b * c))
    share k a b c = omega arith

    go : (p q x y v w m4 m6 m0 m5 m7 : ℕ) → p + v ≡ x → q + w ≡ y → x + y + m4 + m6 ≡ m0 + m5 + m7 + (v + w) → p + q + m4 + m6 ≡ m0 + m5 + m7
    go p q x y v w m4 m6 m0 m5 m7 a b c = omega (arith, a, b, c)

-- what is over is small: 24,000 of 5040²
over : (Z Y : ℕ) → Z * 2 ≤ 5 * Y → 1260 * (Z * Z * Z * Z * Y * Y * Y) + 35 * (Z * Z * Z * Z * Z * Z * Y) ≤ 504 * (Z * Z * Z * Z * Z * Y * Y) + Z * Z * Z * Z * Z * Z * Z + 24000 * (Y * Y * Y * Y * Y * Y * Y)
over Z Y h = go (dec_le Z (2 * Y))
  where
    low : (Z Y a b : ℕ) → Z * a ≤ b * Y → Z * Z * (a * a) ≤ b * b * (Y * Y)
    low Z Y a b h = le_trans (le_of_eq (one Z a)) (le_trans (mul-le-mul h h) (le_of_eq (two b Y)))
      where
        one : (Z a : ℕ) → Z * Z * (a * a) ≡ Z * a * (Z * a)
        one Z a = simp (mul_assoc, mul_comm, mul_left_comm)

        two : (b Y : ℕ) → b * Y * (b * Y) ≡ b * b * (Y * Y)
        two b Y = simp (mul_assoc, mul_comm, mul_left_comm)

    -- Z² ≤ p·Y² / q gives Z⁴ and Z⁶
    powers : (Z Y q p : ℕ) → Z * Z * q ≤ p * (Y * Y) → (Z * Z * Z * Z * Y * Y * Y * (q * q) ≤ p * p * (Y * Y * Y * Y * Y * Y * Y)) × (Z * Z * Z * Z * Z * Z * Y * (q * q * q) ≤ p * p * p * (Y * Y * Y * Y * Y * Y * Y))
    powers Z Y q p h =
        let a : Z * Z * q * (Z * Z * q) ≤ p * (Y * Y) * (p * (Y * Y)) = mul-le-mul h h in
        let b : Z * Z * q * (Z * Z * q) * (Z * Z * q) ≤ p * (Y * Y) * (p * (Y * Y)) * (p * (Y * Y)) = mul-le-mul a h in (
          le_trans (le_of_eq (one Z Y q)) (le_trans (mul-le-mul_right (Y * Y * Y) a) (le_of_eq (two Y p))),
          le_trans (le_of_eq (three' Z Y q)) (le_trans (mul-le-mul_right Y b) (le_of_eq (four Y p))),
        )
      where
        one : (Z Y q : ℕ) → Z * Z * Z * Z * Y * Y * Y * (q * q) ≡ Z * Z * q * (Z * Z * q) * (Y * Y * Y)
        one Z Y q = simp (mul_assoc, mul_comm, mul_left_comm)

        two : (Y p : ℕ) → p * (Y * Y) * (p * (Y * Y)) * (Y * Y * Y) ≡ p * p * (Y * Y * Y * Y * Y * Y * Y)
        two Y p = simp (mul_assoc, mul_comm, mul_left_comm)

        three' : (Z Y q : ℕ) → Z * Z * Z * Z * Z * Z * Y * (q * q * q) ≡ Z * Z * q * (Z * Z * q) * (Z * Z * q) * Y
        three' Z Y q = simp (mul_assoc, mul_comm, mul_left_comm)

        four : (Y p : ℕ) → p * (Y * Y) * (p * (Y * Y)) * (p * (Y * Y)) * Y ≡ p * p * p * (Y * Y * Y * Y * Y * Y * Y)
        four Y p = simp (mul_assoc, mul_comm, mul_left_comm)

    small : (m4 m5 m6 m7 n : ℕ) → m4 * (1 * 1) ≤ 4 * 4 * n → m6 * (1 * 1 * 1) ≤ 4 * 4 * 4 * n → 1260 * m4 + 35 * m6 ≤ 504 * m5 + m7 + 24000 * n
    small m4 m5 m6 m7 n a b = omega (arith, a, b)

    large : (m4 m5 m6 m7 n : ℕ) → m4 * (4 * 4) ≤ 25 * 25 * n → m6 * (4 * 4 * 4) ≤ 25 * 25 * 25 * n → 2 * m4 ≤ m5 → 1260 * m4 + 35 * m6 ≤ 504 * m5 + m7 + 24000 * n
    large m4 m5 m6 m7 n a b c = omega (arith, a, b, c)

    unit : (z y : ℕ) → z ≤ 2 * y → z * 1 ≤ 2 * y
    unit z y h = omega (arith, h)

    five : (Z Y : ℕ) → 2 * (Z * Z * Z * Z * Y * Y * Y) ≡ 2 * Y * (Z * Z * Z * Z * Y * Y)
    five Z Y = omega arith

    six : (Z Y : ℕ) → Z * (Z * Z * Z * Z * Y * Y) ≡ Z * Z * Z * Z * Z * Y * Y
    six Z Y = omega arith

    go : Dec (Z ≤ 2 * Y) → 1260 * (Z * Z * Z * Z * Y * Y * Y) + 35 * (Z * Z * Z * Z * Z * Z * Y) ≤ 504 * (Z * Z * Z * Z * Z * Y * Y) + Z * Z * Z * Z * Z * Z * Z + 24000 * (Y * Y * Y * Y * Y * Y * Y)
    go (yes l) = let p = powers Z Y 1 4 (low Z Y 1 2 (unit Z Y l)) in small (Z * Z * Z * Z * Y * Y * Y) (Z * Z * Z * Z * Z * Y * Y) (Z * Z * Z * Z * Z * Z * Y) (Z * Z * Z * Z * Z * Z * Z) (Y * Y * Y * Y * Y * Y * Y) p.0 p.1
    go (no l) =
        let p = powers Z Y 4 25 (low Z Y 2 5 h) in
        large (Z * Z * Z * Z * Y * Y * Y) (Z * Z * Z * Z * Z * Y * Y) (Z * Z * Z * Z * Z * Z * Y) (Z * Z * Z * Z * Z * Z * Z) (Y * Y * Y * Y * Y * Y * Y) p.0 p.1
        (le_trans (le_of_eq (five Z Y)) (le_trans (mul-le-mul_right (Z * Z * Z * Z * Y * Y) (le_of_lt (lt_of_not-le l))) (le_of_eq (six Z Y))))

pub four_terms : (Z Y s c : ℕ) → Z * 2 ≤ 5 * Y → s + (840 * Z * Y * Y + Z * Z * Z) ≡ 5040 * Y * Y * Y + 42 * Z * Z * Y → c + (360 * Z * Y * Y + Z * Z * Z) ≡ 720 * Y * Y * Y + 30 * Z * Z * Y
    → 25377600 * (Y * Y * Y * Y * Y * Y * Y) ≤ Z * (s * s) + 49 * Y * (c * c)
four_terms Z Y s c h hs hc = go (Z * (s * s)) (49 * Y * (c * c)) (1260 * (Z * Z * Z * Z * Y * Y * Y) + 35 * (Z * Z * Z * Z * Z * Z * Y)) (504 * (Z * Z * Z * Z * Z * Y * Y) + Z * Z * Z * Z * Z * Z * Z) (Y * Y * Y * Y * Y * Y * Y) (pair (Z * (s * s)) (49 * Y * (c * c)) (1260 * (Z * Z * Z * Z * Y * Y * Y)) (35 * (Z * Z * Z * Z * Z * Z * Y)) (25401600 * (Y * Y * Y * Y * Y * Y * Y)) (504 * (Z * Z * Z * Z * Z * Y * Y)) (Z * Z * Z * Z * Z * Z * Z) (identity Z Y s c hs hc)) (over Z Y h)
  where
    pair : (a b x y n p q : ℕ) → a + b + x + y ≡ n + p + q → a + b + (x + y) ≡ n + (p + q)
    pair a b x y n p q e = omega (arith, e)

    go : (a b x y n : ℕ) → a + b + x ≡ 25401600 * n + y → x ≤ y + 24000 * n → 25377600 * n ≤ a + b
    go a b x y n e h = omega (arith, e, h)
