-- `closest n d` is the whole number nearest to n / d, ties to even, and there is only one such. Assumes nothing.
use mathlib.Core.Path.{◌≡◌, refl, ap, ◌∙◌}
use mathlib.Core.Logic.{inl, inr}
use Prim.Native.Nat.{ℕ, zero, suc, ◌+◌, ◌-◌, ◌*◌, ◌/◌, ◌%◌, ◌≤◌, ◌<◌, compare, Ordering}
use native.Mathlib.Nat.{eq-or-lt_of_le, le_antisymm, mul-le-mul_right, mul_comm, mul-sub, add-mul, mod-lt, div-add-mod'}
use native.Mathlib.Omega.{arith}
use lib.Ieee.{nearest}
use lib.Ieee.Nearest.{closest}
use Rattle.ieee.proofs.Range.Relative.{Cmp, cmp}
use Rattle.whole_nearest.specs.Nearest.{Nearest}

-- ---- by how twice the rest compares with d
at_lt : (q r d n : ℕ) → q * d + r ≡ n → r * 2 < d → Nearest n d q
at_lt q r d n e h = record { under = omega arith; over = omega arith; even_above = λ t. absurd (no t); even_below = λ t. absurd (nope t) }
  where
    no : 2 * (q * d) ≡ 2 * n + d → ⊥
    no t = omega arith

    nope : 2 * n ≡ 2 * (q * d) + d → ⊥
    nope t = omega arith

at_gt : (q r d n : ℕ) → q * d + r ≡ n → r < d → d < r * 2 → Nearest n d (suc q)
at_gt q r d n e l h = record { under = omega arith; over = omega arith; even_above = λ t. absurd (no t); even_below = λ t. absurd (nope t) }
  where
    no : 2 * (suc q * d) ≡ 2 * n + d → ⊥
    no t = omega arith

    nope : 2 * n ≡ 2 * (suc q * d) + d → ⊥
    nope t = omega arith

at_eq : (q r d n : ℕ) → q * d + r ≡ n → r * 2 ≡ d → Nearest n d (q + q % 2)
at_eq q r d n e h = go (q % 2) refl (mod-lt q (two q))
  where
    two : (q : ℕ) → 0 < 2
    two q = omega arith

    even : (q t : ℕ) → q % 2 ≡ t → t < 2 → (q + t) % 2 ≡ 0
    even q t e l = omega arith

    go : (t : ℕ) → q % 2 ≡ t → t < 2 → Nearest n d (q + t)
    go zero e' l = record { under = omega arith; over = omega arith; even_above = λ u. even q 0 e' l; even_below = λ u. even q 0 e' l }
    go (suc zero) e' l = record { under = omega arith; over = omega arith; even_above = λ u. even q 1 e' l; even_below = λ u. even q 1 e' l }
    go (suc (suc t)) e' l = absurd (no t l)
      where
        no : (t : ℕ) → suc (suc t) < 2 → ⊥
        no t l = omega arith

pub nearest_is : (n d : ℕ) → 0 < d → Nearest n d (closest n d)
nearest_is n d D = go (compare (n % d * 2) d) (cmp (n % d * 2) d)
  where
    go : (o : Ordering) → Cmp o (n % d * 2) d → Nearest n d (nearest (n / d) o)
    go Ordering.lt h = at_lt (n / d) (n % d) d n (div-add-mod' n d) h
    go Ordering.eq h = at_eq (n / d) (n % d) d n (div-add-mod' n d) h
    go Ordering.gt h = at_gt (n / d) (n % d) d n (div-add-mod' n d) (mod-lt n D) h

-- ---- there is one only
not_below : (n d K L : ℕ) → 0 < d → Nearest n d K → Nearest n d L → K < L → ⊥
not_below n d K L D h g l =
    let m : suc K * d ≤ L * d = mul-le-mul_right d l in
    let u = h.over in
    let v = g.under in
    let e : 2 * n ≡ 2 * (K * d) + d = omega arith in
    let e' : 2 * (L * d) ≡ 2 * n + d = omega arith in
    elim (eq-or-lt_of_le l) [
      | inl p ↦ clash K L p (h.even_below e) (g.even_above e')
      | inr p ↦ (let w : suc (suc K) * d ≤ L * d = mul-le-mul_right d p in omega arith)
    ]
  where
    clash : (K L : ℕ) → suc K ≡ L → K % 2 ≡ 0 → L % 2 ≡ 0 → ⊥
    clash K L e a b = omega arith

pub nearest_one : (n d K L : ℕ) → 0 < d → Nearest n d K → Nearest n d L → K ≡ L
nearest_one n d K L D h g = le_antisymm (at_most L K (not_below n d L K D g h)) (at_most K L (not_below n d K L D h g))
  where
    at_most : (a b : ℕ) → (a < b → ⊥) → b ≤ a
    at_most a b f = omega (arith, f)

-- ---- n / d moved by an even whole number, and taken from one
pub moved : (n d K C : ℕ) → C % 2 ≡ 0 → Nearest n d K → Nearest (C * d + n) d (C + K)
moved n d K C e h =
    let s : (C + K) * d ≡ C * d + K * d = add-mul C K d in
    let u = h.under in
    let v = h.over in
    record { under = omega arith; over = omega arith; even_above = λ t. even C K e (h.even_above (omega arith)); even_below = λ t. even C K e (h.even_below (omega arith)) }
  where
    even : (C K : ℕ) → C % 2 ≡ 0 → K % 2 ≡ 0 → (C + K) % 2 ≡ 0
    even C K a b = omega arith

pub taken : (n d K C : ℕ) → C % 2 ≡ 0 → K ≤ C → n ≤ C * d → Nearest n d K → Nearest (C * d - n) d (C - K)
taken n d K C e l m h =
    let s : (C - K) * d ≡ C * d - K * d = mul_comm (C - K) d ∙ mul-sub d C K ∙ ap (λ (z : ℕ). z - d * K) (mul_comm d C) ∙ ap (λ (z : ℕ). C * d - z) (mul_comm d K) in
    let w : K * d ≤ C * d = mul-le-mul_right d l in
    let u = h.under in
    let v = h.over in
    record { under = omega arith; over = omega arith; even_above = λ t. even C K e (h.even_below (omega arith)); even_below = λ t. even C K e (h.even_above (omega arith)) }
  where
    even : (C K : ℕ) → C % 2 ≡ 0 → K % 2 ≡ 0 → (C - K) % 2 ≡ 0
    even C K a b = omega arith

pub closest_moved : (n d C : ℕ) → 0 < d → C % 2 ≡ 0 → closest (C * d + n) d ≡ C + closest n d
closest_moved n d C D e = nearest_one (C * d + n) d (closest (C * d + n) d) (C + closest n d) D (nearest_is (C * d + n) d D) (moved n d (closest n d) C e (nearest_is n d D))

pub closest_taken : (n d C : ℕ) → 0 < d → C % 2 ≡ 0 → closest n d ≤ C → n ≤ C * d → closest (C * d - n) d ≡ C - closest n d
closest_taken n d C D e l m = nearest_one (C * d - n) d (closest (C * d - n) d) (C - closest n d) D (nearest_is (C * d - n) d D) (taken n d (closest n d) C e l m (nearest_is n d D))
