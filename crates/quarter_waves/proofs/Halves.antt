-- Long division by halves, over whole numbers: from how often 2q goes into p to how often q does. Assumes nothing.
use mathlib.Core.Path.{◌≡◌, sym, ap, ◌∙◌, subst}
use Prim.Native.Nat.{ℕ, ◌+◌, ◌-◌, ◌*◌, ◌/◌, ◌%◌, ◌≤◌, ◌<◌}
use native.Mathlib.Nat.{div-add-mod', le-div_iff_mul-le, one-mul}
use native.Mathlib.Omega.{arith}
use lib.Arith.{digits_div, digits_mod}

-- p is a·(2q) + r
module _ (P Q : ℕ) where
  pairs : P / (2 * Q) * (2 * Q) + P % (2 * Q) ≡ P
  pairs = div-add-mod' P (2 * Q)

  even : 2 * (P / (2 * Q)) * Q + P % (2 * Q) ≡ P
  even = ap (λ (n : ℕ). n + P % (2 * Q)) (regroup (P / (2 * Q)) Q) ∙ pairs
    where
      regroup : (a q : ℕ) → 2 * a * q ≡ a * (2 * q)
      regroup a q = omega arith

  odd : Q ≤ P % (2 * Q) → (2 * (P / (2 * Q)) + 1) * Q + (P % (2 * Q) - Q) ≡ P
  odd h = regroup (2 * (P / (2 * Q))) Q (P % (2 * Q)) h ∙ even
    where
      regroup : (a q r : ℕ) → q ≤ r → (a + 1) * q + (r - q) ≡ a * q + r
      regroup a q r h = omega arith

  pub even_div : P % (2 * Q) < Q → P / Q ≡ 2 * (P / (2 * Q))
  even_div h = ap (λ (n : ℕ). n / Q) (sym even) ∙ digits_div (2 * (P / (2 * Q))) h

  pub even_mod : P % (2 * Q) < Q → P % Q ≡ P % (2 * Q)
  even_mod h = ap (λ (n : ℕ). n % Q) (sym even) ∙ digits_mod (2 * (P / (2 * Q))) h

  pub odd_div : Q ≤ P % (2 * Q) → P % (2 * Q) - Q < Q → P / Q ≡ 2 * (P / (2 * Q)) + 1
  odd_div h l = ap (λ (n : ℕ). n / Q) (sym (odd h)) ∙ digits_div (2 * (P / (2 * Q)) + 1) l

  pub odd_mod : Q ≤ P % (2 * Q) → P % (2 * Q) - Q < Q → P % Q ≡ P % (2 * Q) - Q
  odd_mod h l = ap (λ (n : ℕ). n % Q) (sym (odd h)) ∙ digits_mod (2 * (P / (2 * Q)) + 1) l

  -- the count of halves falls
  pub falls : 0 < Q → Q ≤ P → P / (2 * Q) < P / Q
  falls pos h = half (P / (2 * Q)) (P / Q) ((le-div_iff_mul-le pos).1 (le_of_eq_add (2 * (P / (2 * Q)) * Q) (P % (2 * Q)) P even)) ((le-div_iff_mul-le pos).1 (subst (λ (n : ℕ). n ≤ P) (sym (one-mul Q)) h))
    where
      half : (a b : ℕ) → 2 * a ≤ b → 1 ≤ b → a < b
      half a b h k = omega arith

      le_of_eq_add : (n r p : ℕ) → n + r ≡ p → n ≤ p
      le_of_eq_add n r p e = omega arith
