-- The exact operations with a bound on each result, for long formulas: bounds are numerals, their tests `lit< tt`. Assumes nothing.
use mathlib.Core.Path.{◌≡◌, sym, ap, ap₂, ◌∙◌, subst}
use Prim.Native.Nat.{ℕ, ◌+◌, ◌-◌, ◌*◌, ◌^◌, ◌≤◌, ◌<◌}
use native.Mathlib.Nat.{le_trans, le_of_eq, le_of_lt, lt_of_le_of_lt, mul_assoc, mul_right_comm, mul-le-mul, mul-le-mul_right, add-le-add}
use native.Mathlib.Omega.{arith}
use mathlib.Core.Bool.{Bool, true, false, not}
use lib.Dec.{T, ltb, ltb→lt, nltb→le}
use lib.Pow.{pow-add}
use lib.IntN.{ℤ, pos, nat_abs, ◌+ℤ◌, ◌-ℤ◌, ◌*ℤ◌, neg_ℤ, +ℤ_comm}
use lib.Ieee.{Float, neg, unlike, eq}
use lib.Ieee.Positive.{num, den}
use Rattle.ieee.specs.Operators.{◌⊕◌, ◌⊖◌, ◌⊗◌}
use Rattle.ieee.specs.Range.{sgn}
use Rattle.whole_f64.specs.Whole.{signed, Is}
use Rattle.whole_f64.proofs.Laws.{size_of, size_neg, signed_mul, signed_add, signed_sub, neg_exact, exact_operations}

-- x is z / 2 ^ k, and |z| is at most b
pub record Within (k b : ℕ) (x : Float) (z : ℤ) : Type 0 where
  pub is : Is k x z
  pub most : nat_abs z ≤ b

-- ---- sizes
pub sum_size : (s t : Bool) (m n : ℕ) → nat_abs (signed s m +ℤ signed t n) ≤ m + n
sum_size s t m n = go s t (ltb m n) (ltb→lt m n) (nltb→le m n)
  where
    less : (a m n : ℕ) → a ≡ m - n → a ≤ m + n
    less a m n e = omega arith

    less' : (a m n : ℕ) → a ≡ n - m → a ≤ m + n
    less' a m n e = omega arith

    flip : (s : Bool) → signed s m +ℤ signed (not s) n ≡ signed (not s) n +ℤ signed (not (not s)) m
    flip true = +ℤ_comm (signed true m) (signed false n)
    flip false = +ℤ_comm (signed false m) (signed true n)

    apart : (s b : Bool) → (T b → m < n) → (T (not b) → n ≤ m) → nat_abs (signed s m +ℤ signed (not s) n) ≤ m + n
    apart s true f g = less' (nat_abs (signed s m +ℤ signed (not s) n)) m n (ap nat_abs (flip s ∙ signed_sub (not s) n m (le_of_lt (f tt))) ∙ size_of (not s) (n - m))
    apart s false f g = less (nat_abs (signed s m +ℤ signed (not s) n)) m n (ap nat_abs (signed_sub s m n (g tt)) ∙ size_of s (m - n))

    go : (s t b : Bool) → (T b → m < n) → (T (not b) → n ≤ m) → nat_abs (signed s m +ℤ signed t n) ≤ m + n
    go true true b f g = le_of_eq (ap nat_abs (signed_add true m n) ∙ size_of true (m + n))
    go false false b f g = le_of_eq (ap nat_abs (signed_add false m n) ∙ size_of false (m + n))
    go true false b f g = apart true b f g
    go false true b f g = apart false b f g

add_size : {k l : ℕ} {x y : Float} {z w : ℤ} → Is k x z → Is l y w → nat_abs (z +ℤ w) ≤ nat_abs z + nat_abs w
add_size {x = x} {y = y} {z = z} {w = w} h g = subst (λ (v : ℤ). nat_abs v ≤ nat_abs z + nat_abs w) (ap₂ ◌+ℤ◌ h.sign g.sign) (sum_size (sgn x) (sgn y) (nat_abs z) (nat_abs w))

mul_size : {k l : ℕ} {x y : Float} {z w : ℤ} → Is k x z → Is l y w → nat_abs (z *ℤ w) ≡ nat_abs z * nat_abs w
mul_size {x = x} {y = y} {z = z} {w = w} h g =
    ap nat_abs (sym (ap₂ ◌*ℤ◌ h.sign g.sign) ∙ signed_mul (sgn x) (sgn y) (nat_abs z) (nat_abs w)) ∙ size_of (unlike (sgn x) (sgn y)) (nat_abs z * nat_abs w)

-- ---- the operations
pub within_add : {k b c : ℕ} {x y : Float} {z w : ℤ} → Within k b x z → Within k c y w → b + c < 2 ^ 53 → k ≤ 1074 → Within k (b + c) (x ⊕ y) (z +ℤ w)
within_add h g small deep =
    let m = le_trans (add_size h.is g.is) (add-le-add h.most g.most) in
    record { is = exact_operations.sum h.is g.is (lt_of_le_of_lt m small) deep; most = m }

pub within_sub : {k b c : ℕ} {x y : Float} {z w : ℤ} → Within k b x z → Within k c y w → b + c < 2 ^ 53 → k ≤ 1074 → Within k (b + c) (x ⊖ y) (z -ℤ w)
within_sub {w = w} h g small deep =
    let m = le_trans (add_size h.is (neg_exact g.is)) (add-le-add h.most (le_trans (le_of_eq (size_neg w)) g.most)) in
    record { is = exact_operations.difference h.is g.is (lt_of_le_of_lt m small) deep; most = m }

pub within_mul : {j b k c : ℕ} {x y : Float} {z w : ℤ} → Within j b x z → Within k c y w → b * c < 2 ^ 53 → j + k ≤ 1074 → Within (j + k) (b * c) (x ⊗ y) (z *ℤ w)
within_mul h g small deep =
    let m = le_trans (le_of_eq (mul_size h.is g.is)) (mul-le-mul h.most g.most) in
    record { is = exact_operations.product h.is g.is (lt_of_le_of_lt m small) deep; most = m }

pub within_neg : {k b : ℕ} {x : Float} {z : ℤ} → Within k b x z → Within k b (neg x) (neg_ℤ z)
within_neg {z = z} h = record { is = neg_exact h.is; most = le_trans (le_of_eq (size_neg z)) h.most }

-- ---- a wider bound; the same number in a smaller unit
pub wider : {k b c : ℕ} {x : Float} {z : ℤ} → Within k b x z → b ≤ c → Within k c x z
wider h l = record { is = h.is; most = le_trans h.most l }

module _ {k : ℕ} {x : Float} {z : ℤ} (i : ℕ) (h : Is k x z) where
  times : (s : Bool) → signed s (nat_abs z * 2 ^ i) ≡ signed s (nat_abs z) *ℤ pos (2 ^ i)
  times false = sym (signed_mul false false (nat_abs z) (2 ^ i))
  times true = sym (signed_mul true false (nat_abs z) (2 ^ i))

  finer_sign : signed (sgn x) (nat_abs z * 2 ^ i) ≡ z *ℤ pos (2 ^ i)
  finer_sign = times (sgn x) ∙ ap (λ (v : ℤ). v *ℤ pos (2 ^ i)) h.sign

  finer_size : nat_abs (z *ℤ pos (2 ^ i)) ≡ nat_abs z * 2 ^ i
  finer_size = ap nat_abs (sym finer_sign) ∙ size_of (sgn x) (nat_abs z * 2 ^ i)

  finer_is : Is (k + i) x (z *ℤ pos (2 ^ i))
  finer_is = record {
    fine = h.fine;
    size = ap (λ (p : ℕ). num x * p) (pow-add 2 k i) ∙ sym (mul_assoc (num x) (2 ^ k) (2 ^ i)) ∙ ap (λ (v : ℕ). v * 2 ^ i) h.size ∙ mul_right_comm (nat_abs z) (den x) (2 ^ i) ∙ ap (λ (v : ℕ). v * den x) (sym finer_size);
    sign = ap (signed (sgn x)) finer_size ∙ finer_sign;
  }

pub finer : {k b : ℕ} {x : Float} {z : ℤ} (i : ℕ) → Within k b x z → Within (k + i) (b * 2 ^ i) x (z *ℤ pos (2 ^ i))
finer i h = record { is = finer_is i h.is; most = le_trans (le_of_eq (finer_size i h.is)) (mul-le-mul_right (2 ^ i) h.most) }

pub within_equal : {k b c : ℕ} {x y : Float} {z : ℤ} → Within k b x z → Within k c y z → T (eq x y)
within_equal h g = exact_operations.equal h.is g.is
