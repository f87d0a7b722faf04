-- What lib.IntN leaves out of the ring laws of ℤ: the product is associative and distributes over the sum. Assumes nothing.
use mathlib.Core.Path.{◌≡◌, sym, ap, ap₂, ◌∙◌}
use Prim.Native.Nat.{zero, suc}
use lib.IntN.{ℤ, pos, negsuc, neg_ℤ, suc_ℤ, pred_ℤ, ◌+ℤ◌, ◌*ℤ◌, +ℤ_assoc, +ℤ_comm, +ℤ_invr, +ℤ_idl, +ℤ_idr, neg_ℤ-+ℤ, neg_ℤ-neg_ℤ, zero-*ℤ, *ℤ-zero, suc_ℤ-*ℤ, pred_ℤ-*ℤ, *ℤ_comm, *ℤ-negsuc}

pub left_comm : (a b c : ℤ) → a +ℤ (b +ℤ c) ≡ b +ℤ (a +ℤ c)
left_comm a b c = sym (+ℤ_assoc a b c) ∙ ap (λ (z : ℤ). z +ℤ c) (+ℤ_comm a b) ∙ +ℤ_assoc b a c

pub swap4 : (a b c d : ℤ) → (a +ℤ b) +ℤ (c +ℤ d) ≡ (a +ℤ c) +ℤ (b +ℤ d)
swap4 a b c d = +ℤ_assoc a b (c +ℤ d) ∙ ap (λ (z : ℤ). a +ℤ z) (left_comm b c d) ∙ sym (+ℤ_assoc a c (b +ℤ d))

pub neg_mul : (a b : ℤ) → neg_ℤ a *ℤ b ≡ neg_ℤ (a *ℤ b)
neg_mul a b = *ℤ_comm (neg_ℤ a) b ∙ right b a ∙ ap neg_ℤ (*ℤ_comm b a)
  where
    right : (x y : ℤ) → x *ℤ neg_ℤ y ≡ neg_ℤ (x *ℤ y)
    right x (pos zero) = *ℤ-zero x ∙ sym (ap neg_ℤ (*ℤ-zero x))
    right x (pos (suc n)) = *ℤ-negsuc x n
    right x (negsuc n) = sym (ap neg_ℤ (*ℤ-negsuc x n) ∙ neg_ℤ-neg_ℤ (x *ℤ pos (suc n)))

-- ---- a law that holds at 0, and moves to the next number and to the one before, holds everywhere
induct : (P : ℤ → Type 0) → P (pos 0) → ((m : ℤ) → P m → P (suc_ℤ m)) → ((m : ℤ) → P m → P (pred_ℤ m)) → (m : ℤ) → P m
induct P z s p (pos zero) = z
induct P z s p (pos (suc n)) = s (pos n) (induct P z s p (pos n))
induct P z s p (negsuc zero) = p (pos zero) z
induct P z s p (negsuc (suc n)) = p (negsuc n) (induct P z s p (negsuc n))

pub mul-add : (m a b : ℤ) → m *ℤ (a +ℤ b) ≡ m *ℤ a +ℤ m *ℤ b
mul-add m a b = induct (λ (m : ℤ). m *ℤ (a +ℤ b) ≡ m *ℤ a +ℤ m *ℤ b) none up down m
  where
    none : pos 0 *ℤ (a +ℤ b) ≡ pos 0 *ℤ a +ℤ pos 0 *ℤ b
    none = zero-*ℤ (a +ℤ b) ∙ sym (ap₂ ◌+ℤ◌ (zero-*ℤ a) (zero-*ℤ b))

    up : (m : ℤ) → m *ℤ (a +ℤ b) ≡ m *ℤ a +ℤ m *ℤ b → suc_ℤ m *ℤ (a +ℤ b) ≡ suc_ℤ m *ℤ a +ℤ suc_ℤ m *ℤ b
    up m h = suc_ℤ-*ℤ m (a +ℤ b) ∙ ap (λ (z : ℤ). z +ℤ (a +ℤ b)) h ∙ swap4 (m *ℤ a) (m *ℤ b) a b ∙ sym (ap₂ ◌+ℤ◌ (suc_ℤ-*ℤ m a) (suc_ℤ-*ℤ m b))

    down : (m : ℤ) → m *ℤ (a +ℤ b) ≡ m *ℤ a +ℤ m *ℤ b → pred_ℤ m *ℤ (a +ℤ b) ≡ pred_ℤ m *ℤ a +ℤ pred_ℤ m *ℤ b
    down m h =
        pred_ℤ-*ℤ m (a +ℤ b) ∙ ap₂ ◌+ℤ◌ h (neg_ℤ-+ℤ a b) ∙ swap4 (m *ℤ a) (m *ℤ b) (neg_ℤ a) (neg_ℤ b) ∙ sym (ap₂ ◌+ℤ◌ (pred_ℤ-*ℤ m a) (pred_ℤ-*ℤ m b))

pub add-mul : (a b m : ℤ) → (a +ℤ b) *ℤ m ≡ a *ℤ m +ℤ b *ℤ m
add-mul a b m = *ℤ_comm (a +ℤ b) m ∙ mul-add m a b ∙ ap₂ ◌+ℤ◌ (*ℤ_comm m a) (*ℤ_comm m b)

pub mul_assoc : (m a b : ℤ) → (m *ℤ a) *ℤ b ≡ m *ℤ (a *ℤ b)
mul_assoc m a b = induct (λ (m : ℤ). (m *ℤ a) *ℤ b ≡ m *ℤ (a *ℤ b)) none up down m
  where
    none : (pos 0 *ℤ a) *ℤ b ≡ pos 0 *ℤ (a *ℤ b)
    none = ap (λ (z : ℤ). z *ℤ b) (zero-*ℤ a) ∙ zero-*ℤ b ∙ sym (zero-*ℤ (a *ℤ b))

    up : (m : ℤ) → (m *ℤ a) *ℤ b ≡ m *ℤ (a *ℤ b) → (suc_ℤ m *ℤ a) *ℤ b ≡ suc_ℤ m *ℤ (a *ℤ b)
    up m h = ap (λ (z : ℤ). z *ℤ b) (suc_ℤ-*ℤ m a) ∙ add-mul (m *ℤ a) a b ∙ ap (λ (z : ℤ). z +ℤ a *ℤ b) h ∙ sym (suc_ℤ-*ℤ m (a *ℤ b))

    down : (m : ℤ) → (m *ℤ a) *ℤ b ≡ m *ℤ (a *ℤ b) → (pred_ℤ m *ℤ a) *ℤ b ≡ pred_ℤ m *ℤ (a *ℤ b)
    down m h =
        ap (λ (z : ℤ). z *ℤ b) (pred_ℤ-*ℤ m a) ∙ add-mul (m *ℤ a) (neg_ℤ a) b ∙ ap₂ ◌+ℤ◌ h (neg_mul a b) ∙ sym (pred_ℤ-*ℤ m (a *ℤ b))

pub mul_left_comm : (a b c : ℤ) → a *ℤ (b *ℤ c) ≡ b *ℤ (a *ℤ c)
mul_left_comm a b c = sym (mul_assoc a b c) ∙ ap (λ (z : ℤ). z *ℤ c) (*ℤ_comm a b) ∙ mul_assoc b a c

pub mul_swap4 : (a b c d : ℤ) → (a *ℤ b) *ℤ (c *ℤ d) ≡ (a *ℤ c) *ℤ (b *ℤ d)
mul_swap4 a b c d = mul_assoc a b (c *ℤ d) ∙ ap (λ (z : ℤ). a *ℤ z) (mul_left_comm b c d) ∙ sym (mul_assoc a c (b *ℤ d))

pub one-mul : (k : ℤ) → pos 1 *ℤ k ≡ k
one-mul k = suc_ℤ-*ℤ (pos 0) k ∙ ap (λ (z : ℤ). z +ℤ k) (zero-*ℤ k) ∙ +ℤ_idl k

pub minus_one_mul : (k : ℤ) → negsuc 0 *ℤ k ≡ neg_ℤ k
minus_one_mul k = pred_ℤ-*ℤ (pos 0) k ∙ ap (λ (z : ℤ). z +ℤ neg_ℤ k) (zero-*ℤ k) ∙ +ℤ_idl (neg_ℤ k)

-- a difference of 0 is an equality
pub equal : (a b : ℤ) → a +ℤ neg_ℤ b ≡ pos 0 → a ≡ b
equal a b h = sym (+ℤ_idr a) ∙ ap (λ (z : ℤ). a +ℤ z) (sym (+ℤ_invr (neg_ℤ b)) ∙ ap (λ (z : ℤ). neg_ℤ b +ℤ z) (neg_ℤ-neg_ℤ b)) ∙ sym (+ℤ_assoc a (neg_ℤ b) b) ∙ ap (λ (z : ℤ). z +ℤ b) h ∙ +ℤ_idl b
