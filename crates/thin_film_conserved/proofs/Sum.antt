-- R and T up to 11 roundings each: their sum is within 12 of 2 ^ -53 of 1. Whole numbers alone. Assumes nothing.
use mathlib.Core.Path.{◌≡◌, refl, sym, ap, ◌∙◌}
use Prim.Native.Nat.{ℕ, ◌+◌, ◌-◌, ◌*◌, ◌^◌, ◌≤◌, ◌<◌}
use native.Mathlib.Nat.{le_refl, le_trans, le_of_eq, add-mul, le_of_mul-le-mul_right, le_of_mul-le-mul_left, add-le-add}
use native.Mathlib.Omega.{arith}
use lib.Dec.{lit≤}
use Rattle.ieee_near.specs.Index.{gap}
use Rattle.ieee_near.specs.Near.{E, W, Close}
use Rattle.ieee_near.proofs.Gap.{gap_by}
use Rattle.ieee_near.proofs.Close.{narrow}

-- (x - y)² + 4 x y = (x + y)²
pub squares : (x y : ℕ) → gap x y * gap x y + 4 * (x * y) ≡ (x + y) * (x + y)
squares = gap_by (λ (x y g : ℕ). g * g + 4 * (x * y) ≡ (x + y) * (x + y)) below above
  where
    below : (x d : ℕ) → d * d + 4 * (x * (x + d)) ≡ (x + (x + d)) * (x + (x + d))
    below x d = omega arith

    above : (y d : ℕ) → d * d + 4 * ((y + d) * y) ≡ (y + d + y) * (y + d + y)
    above y d = omega arith

-- ---- two parts of one whole, both up to the same number of roundings; w and f are W and E to that power
together : (w f A A' B r t d : ℕ) → 0 < B → A + A' ≡ B → w * (r * B) ≤ f * (A * d) → w * (t * B) ≤ f * (A' * d) → w * (r + t) ≤ f * d
together w f A A' B r t d B0 e h g =
    le_of_mul-le-mul_right
    (le_trans (le_of_eq (left w r t B)) (le_trans (add-le-add h g) (le_of_eq (right f A A' d ∙ ap (λ (z : ℕ). f * (z * d)) e ∙ last f B d)))) B0
  where
    left : (w r t B : ℕ) → w * (r + t) * B ≡ w * (r * B) + w * (t * B)
    left w r t B = omega arith

    right : (f A A' d : ℕ) → f * (A * d) + f * (A' * d) ≡ f * ((A + A') * d)
    right f A A' d = omega arith

    last : (f B d : ℕ) → f * (B * d) ≡ f * d * B
    last f B d = omega arith

together' : (w f A A' B r t d : ℕ) → 0 < B → A + A' ≡ B → w * (A * d) ≤ f * (r * B) → w * (A' * d) ≤ f * (t * B) → w * d ≤ f * (r + t)
together' w f A A' B r t d B0 e h g =
    le_of_mul-le-mul_right
    (le_trans (le_of_eq (last w d B ∙ ap (λ (z : ℕ). w * (z * d)) (sym e) ∙ left w A A' d)) (le_trans (add-le-add h g) (le_of_eq (right f r t B)))) B0
  where
    last : (w d B : ℕ) → w * d * B ≡ w * (B * d)
    last w d B = omega arith

    left : (w A A' d : ℕ) → w * ((A + A') * d) ≡ w * (A * d) + w * (A' * d)
    left w A A' d = omega arith

    right : (f r t B : ℕ) → f * (r * B) + f * (t * B) ≡ f * (r + t) * B
    right f r t B = omega arith

-- of counts: d is K whole parts e, and the sum is off by j of them at most
off : (K j e d x : ℕ) → 0 < K → d ≡ K * e → K * x ≤ (K + j) * d → K * d ≤ K * x + j * d → gap x d ≤ j * e
off K j e d x K0 s h g = bound x d (j * e) (le_of_mul-le-mul_left {k = K} (le_trans h (le_of_eq (up K j e d s))) K0) (le_of_mul-le-mul_left {k = K} (le_trans g (le_of_eq (down K j e d x s))) K0)
  where
    bound : (x d b : ℕ) → x ≤ d + b → d ≤ x + b → gap x d ≤ b
    bound x d b h g = omega arith

    back : (K y j e : ℕ) → K * y + j * (K * e) ≡ K * (y + j * e)
    back K y j e = omega arith

    up : (K j e d : ℕ) → d ≡ K * e → (K + j) * d ≡ K * (d + j * e)
    up K j e d s = add-mul K j d ∙ ap (λ (z : ℕ). K * d + j * z) s ∙ back K d j e

    down : (K j e d x : ℕ) → d ≡ K * e → K * x + j * d ≡ K * (x + j * e)
    down K j e d x s = ap (λ (z : ℕ). K * x + j * z) s ∙ back K x j e

pub adds_up : (A A' B r t : ℕ) → 0 < B → A + A' ≡ B → Close 11 A B r (2 ^ 1074) → Close 11 A' B t (2 ^ 1074) → gap (r + t) (2 ^ 1074) ≤ 12 * 2 ^ 1021
adds_up A A' B r t B0 e h g =
    off (2 ^ 53) 12 (2 ^ 1021) (2 ^ 1074) (r + t) (lit≤ tt) refl
    (narrow (W ^ 11) (E ^ 11) (2 ^ 53 + 12) (2 ^ 53) (r + t) (2 ^ 1074) (lit≤ {m = 1} {n = W ^ 11} tt) (lit≤ {m = 2 ^ 53 * E ^ 11} {n = (2 ^ 53 + 12) * W ^ 11} tt) (together (W ^ 11) (E ^ 11) A A' B r t (2 ^ 1074) B0 e h.most g.most))
    (rest (2 ^ 53 - 12) 12 (2 ^ 1074) (2 ^ 53 * (r + t)) (narrow (W ^ 11) (E ^ 11) (2 ^ 53) (2 ^ 53 - 12) (2 ^ 1074) (r + t) (lit≤ {m = 1} {n = W ^ 11} tt) (lit≤ {m = (2 ^ 53 - 12) * E ^ 11} {n = 2 ^ 53 * W ^ 11} tt) (together' (W ^ 11) (E ^ 11) A A' B r t (2 ^ 1074) B0 e h.least g.least)))
  where
    rest : (k j d y : ℕ) → k * d ≤ y → (k + j) * d ≤ y + j * d
    rest k j d y h = le_trans (le_of_eq (add-mul k j d)) (add-le-add h (le_refl (j * d)))
