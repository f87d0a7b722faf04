-- Differences of whole numbers with signs, by their sizes. Assumes nothing.
use mathlib.Core.Path.{◌≡◌, refl, sym, ap, ◌∙◌}
use Prim.Native.Nat.{ℕ, ◌+◌, ◌-◌, ◌≤◌, ◌<◌}
use native.Mathlib.Nat.{le_trans, le_of_eq, le_of_lt}
use native.Mathlib.Omega.{arith}
use mathlib.Core.Bool.{Bool, true, false, not}
use lib.Dec.{T, leb, leb→le, nleb→lt}
use lib.IntN.{ℤ, pos, nat_abs, neg_ℤ, ◌+ℤ◌, ◌-ℤ◌, +ℤ_assoc, +ℤ_comm, neg_ℤ-+ℤ, neg_ℤ-neg_ℤ}
use Rattle.whole_f64.specs.Whole.{signed}
use Rattle.whole_f64.proofs.Laws.{size_of, size_neg, signed_add, signed_sub}

pub opposite : (s : Bool) (n : ℕ) → neg_ℤ (signed s n) ≡ signed (not s) n
opposite false n = refl
opposite true n = neg_ℤ-neg_ℤ (pos n)

-- a - b - c is a - (b + c), of one sign
pub twice : (s : Bool) (a b c : ℕ) → signed s a -ℤ signed s b -ℤ signed s c ≡ signed s a -ℤ signed s (b + c)
twice s a b c =
    +ℤ_assoc (signed s a) (neg_ℤ (signed s b)) (neg_ℤ (signed s c))
    ∙ ap (λ (z : ℤ). signed s a +ℤ z) (sym (neg_ℤ-+ℤ (signed s b) (signed s c)) ∙ ap neg_ℤ (signed_add s b c))

-- |a - b| is |b - a|
pub turned : (a b : ℤ) → neg_ℤ (a -ℤ b) ≡ b -ℤ a
turned a b = neg_ℤ-+ℤ a (neg_ℤ b) ∙ ap (λ (z : ℤ). neg_ℤ a +ℤ z) (neg_ℤ-neg_ℤ b) ∙ +ℤ_comm (neg_ℤ a) b

more : (s : Bool) (m n : ℕ) → n ≤ m → nat_abs (signed s m -ℤ signed s n) ≡ m - n
more s m n h = ap nat_abs (ap (λ (z : ℤ). signed s m +ℤ z) (opposite s n) ∙ signed_sub s m n h) ∙ size_of s (m - n)

-- two of one sign that are at most b apart
pub apart : (s : Bool) (m n b : ℕ) → m ≤ n + b → n ≤ m + b → nat_abs (signed s m -ℤ signed s n) ≤ b
apart s m n b h g = go (leb n m) (leb→le n m) (nleb→lt n m)
  where
    less : (m n b : ℕ) → m ≤ n + b → m - n ≤ b
    less m n b h = omega arith

    go : (t : Bool) → (T t → n ≤ m) → (T (not t) → m < n) → nat_abs (signed s m -ℤ signed s n) ≤ b
    go true f _ = le_trans (le_of_eq (more s m n (f tt))) (less m n b h)
    go false _ f =
        le_trans (le_of_eq (sym (size_neg (signed s m -ℤ signed s n)) ∙ ap nat_abs (turned (signed s m) (signed s n)) ∙ more s n m (le_of_lt (f tt)))) (less n m b g)
