-- One step of a series, 1 - p·z / D, in whole numbers: what its error is, from those of p and z and of three roundings. Assumes nothing.
use mathlib.Core.Path.{◌≡◌, refl, sym, ap, ap₂, ◌∙◌, subst}
use Prim.Native.Nat.{ℕ, zero, suc, ◌+◌, ◌-◌, ◌*◌, ◌/◌, ◌^◌, ◌≤◌, ◌<◌}
use native.Mathlib.Nat.{le_trans, le_of_eq, mul_comm, mul_assoc, mul_left_comm, mul_right_comm, mul-le-mul_left, mul-le-mul_right, le_of_mul-le-mul_right, mul-pos, mul-one, mul-sub, div-lt_iff_lt-mul}
use native.Mathlib.Omega.{arith}
use Rattle.near_abs.specs.Off.{Within}
use Rattle.ieee_near.specs.Index.{gap}
use Rattle.near_abs.proofs.Within.{same, turn, chain, widen, taken, times, untimes, known, product}

-- ---- p·z / D. p is within e of A / B ≤ 1, z within f of Z / Y, and z ≤ c / S; q is p·z and t is q / D, each off by a rounding
-- what the error is at most
abbrev pub grown : ℕ → ℕ → ℕ → ℕ → ℕ → ℕ → ℕ → ℕ
grown c S f h1 h2 D e = suc ((h2 * (D * S) + (h1 + f) * S + e * c) / (D * S))

grown_more : (X K : ℕ) → 0 < K → X ≤ suc (X / K) * K
grown_more X K P = lt→le X (suc (X / K) * K) ((div-lt_iff_lt-mul P).0 (self (X / K)))
  where
    self : (x : ℕ) → x < suc x
    self x = omega arith

    lt→le : (a b : ℕ) → a < b → a ≤ b
    lt→le a b h = omega (arith, h)

sum_most : (W X1 X2 D S c e f g h1 h2 : ℕ) → X1 * S ≤ e * c * W → X2 ≤ f * W → h2 * (D * S) + (h1 + f) * S + e * c ≤ g * (D * S) → (h2 * D * W + (h1 * W + (X1 + X2))) * S ≤ g * (D * S) * W
sum_most W X1 X2 D S c e f g h1 h2 i j h =
    let k : (h2 * (D * S) + (h1 + f) * S + e * c) * W ≤ g * (D * S) * W = mul-le-mul_right W h in
    let l : X2 * S ≤ f * W * S = mul-le-mul_right S j in
    le_trans (go W X1 X2 D S c e f h1 h2 i l) k
  where
    go : (W X1 X2 D S c e f h1 h2 : ℕ) → X1 * S ≤ e * c * W → X2 * S ≤ f * W * S → (h2 * D * W + (h1 * W + (X1 + X2))) * S ≤ (h2 * (D * S) + (h1 + f) * S + e * c) * W
    go W X1 X2 D S c e f h1 h2 i l = omega (arith, i, l)

pub quotient : (U c S A B Y Z D p z q t e f h1 h2 : ℕ) → 0 < U → 0 < S → 0 < D → A ≤ B → z * S ≤ c * U
    → Within (e * B) (p * B) (A * U) → Within (f * Y) (z * Y) (Z * U) → Within (h1 * U) (q * U) (p * z) → Within (h2 * D) (t * D) q
    → Within (grown c S f h1 h2 D e * (Y * D * B)) (t * (Y * D * B)) (Z * A * U)
quotient U c S A B Y Z D p z q t e f h1 h2 U0 S0 D0 ab zs hp hz hq ht =
    let X = h2 * (D * S) + (h1 + f) * S + e * c in
    let g = grown c S f h1 h2 D e in
    let a : Within (e * B * (z * Y) + A * U * (f * Y)) (p * B * (z * Y)) (A * U * (Z * U)) = product hp hz in
    let b : Within (h1 * U * (B * Y)) (q * U * (B * Y)) (p * z * (B * Y)) = times (B * Y) hq in
    let d : Within (h2 * D * (U * (B * Y))) (t * D * (U * (B * Y))) (q * (U * (B * Y))) = times (U * (B * Y)) ht in
    let w : Within (h2 * D * (U * (B * Y)) + (h1 * U * (B * Y) + (e * B * (z * Y) + A * U * (f * Y)))) (t * D * (U * (B * Y))) (A * U * (Z * U)) =
    chain d (known refl (one q U B Y) refl (chain b (known refl (sym (two p z B Y)) refl a))) in
    untimes (g * (Y * D * B)) (t * (Y * D * B)) (Z * A * U) U U0
    (widen (enough g (grown_more X (D * S) (mul-pos D0 S0))) (known refl (three t D U B Y) (four A U Z) w))
  where
    one : (q U B Y : ℕ) → q * U * (B * Y) ≡ q * (U * (B * Y))
    one q U B Y = simp (mul_assoc)

    two : (p z B Y : ℕ) → p * z * (B * Y) ≡ p * B * (z * Y)
    two p z B Y = simp (mul_assoc, mul_comm, mul_left_comm)

    three : (t D U B Y : ℕ) → t * D * (U * (B * Y)) ≡ t * (Y * D * B) * U
    three t D U B Y = simp (mul_assoc, mul_comm, mul_left_comm)

    four : (A U Z : ℕ) → A * U * (Z * U) ≡ Z * A * U * U
    four A U Z = simp (mul_assoc, mul_comm, mul_left_comm)

    third : (e B z Y S c U : ℕ) → z * S ≤ c * U → e * B * (z * Y) * S ≤ e * c * (U * (B * Y))
    third e B z Y S c U h = le_trans (le_of_eq (simp (mul_assoc, mul_comm, mul_left_comm))) (le_trans (mul-le-mul_left (e * B * Y) h) (le_of_eq (simp (mul_assoc, mul_comm, mul_left_comm))))

    fourth : (A U f Y B : ℕ) → A ≤ B → A * U * (f * Y) ≤ f * (U * (B * Y))
    fourth A U f Y B h = le_trans (le_of_eq (simp (mul_assoc, mul_comm, mul_left_comm))) (le_trans (mul-le-mul_left (U * f * Y) h) (le_of_eq (simp (mul_assoc, mul_comm, mul_left_comm))))

    five : (g D U B Y S : ℕ) → g * (D * S) * (U * (B * Y)) ≡ g * (Y * D * B) * U * S
    five g D U B Y S = simp (mul_assoc, mul_comm, mul_left_comm)

    enough : (g : ℕ) → h2 * (D * S) + (h1 + f) * S + e * c ≤ g * (D * S) → h2 * D * (U * (B * Y)) + (h1 * U * (B * Y) + (e * B * (z * Y) + A * U * (f * Y))) ≤ g * (Y * D * B) * U
    enough g h =
        le_of_mul-le-mul_right
        (le_trans (le_of_eq (ap (λ (x : ℕ). (h2 * D * (U * (B * Y)) + (x + (e * B * (z * Y) + A * U * (f * Y)))) * S) (mul_assoc h1 U (B * Y))))
        (le_trans (sum_most (U * (B * Y)) (e * B * (z * Y)) (A * U * (f * Y)) D S c e f g h1 h2 (third e B z Y S c U zs) (fourth A U f Y B ab) h) (le_of_eq (five g D U B Y S))))
        S0

-- ---- 1 - t, for a t that is at most 1; and the exact fraction's share
pub rest : (U A' K t p g h : ℕ) → t ≤ U → Within (g * K) (t * K) (A' * U) → Within (h * 1) (p * 1) (gap U t) → Within ((g + h) * K) (p * K) ((K - A') * U)
rest U A' K t p g h l x y =
    let a : Within (h * K) (p * K) ((U - t) * K) = times K (known (mul-one h) (mul-one p) (clear U t l) y) in
    let b : Within (g * K) (K * U - t * K) (K * U - A' * U) = taken (K * U) x in
    known (sym' g h K) refl (less K A' U) (chain a (known refl (share U t K) refl b))
  where
    clear : (U t : ℕ) → t ≤ U → gap U t ≡ U - t
    clear U t l = omega (arith, l)

    sym' : (g h K : ℕ) → h * K + g * K ≡ (g + h) * K
    sym' g h K = omega arith

    less : (a b c : ℕ) → a * c - b * c ≡ (a - b) * c
    less a b c = mul_comm' a b c
      where
        mul_comm' : (a b c : ℕ) → a * c - b * c ≡ (a - b) * c
        mul_comm' a b c = ap₂ ◌-◌ (mul_comm a c) (mul_comm b c) ∙ sym (mul-sub c a b) ∙ mul_comm c (a - b)

    share : (U t K : ℕ) → K * U - t * K ≡ (U - t) * K
    share U t K = ap (λ (z : ℕ). z - t * K) (mul_comm K U) ∙ less U t K
