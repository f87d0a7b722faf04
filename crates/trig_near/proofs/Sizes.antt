-- Sizes of whole numbers with a sign: sums, products, and a value between two. Assumes nothing.
use mathlib.Core.Path.{◌≡◌, refl, sym, ap, ap₂, ◌∙◌, subst}
use mathlib.Core.List.{List, [], ◌∷◌}
use mathlib.Core.Bool.{Bool, true, false}
use Prim.Native.Nat.{ℕ, suc, ◌+◌, ◌-◌, ◌*◌, ◌^◌, ◌≤◌, ◌<◌}
use native.Mathlib.Decide.{dec_le}
use native.Mathlib.Nat.{le_trans, le_of_eq, le_of_lt, lt_of_not-le, one-mul, mul-le-mul_right}
use mathlib.Core.Logic.{◌⊎◌, inl, inr}
use native.Mathlib.Omega.{arith}
use lib.IntN.{ℤ, pos, negsuc, neg_ℤ, nat_abs, ◌+ℤ◌, ◌-ℤ◌, ◌*ℤ◌, pos-*ℤ-pos, pos-+ℤ-pos}
use lib.Ieee.{unlike}
use Rattle.whole_ring.proofs.Solver.{Ex, var, con, ◌:+◌, ◌:*◌, opp, identity}
use Rattle.whole_f64.specs.Whole.{signed}
use Rattle.whole_f64.proofs.Laws.{signed_mul, signed_sub, size_of, size_neg}
use Rattle.whole_f64.proofs.Bounds.{sum_size}
use Rattle.near_abs.specs.Off.{Within}

-- which sign a whole number has
pub minus : ℤ → Bool
minus (pos n) = false
minus (negsuc n) = true

pub whole : (z : ℤ) → signed (minus z) (nat_abs z) ≡ z
unfolding minus
whole (pos n) = refl
whole (negsuc n) = refl

pub add_size : (a b : ℤ) → nat_abs (a +ℤ b) ≤ nat_abs a + nat_abs b
add_size a b = subst (λ (v : ℤ). nat_abs v ≤ nat_abs a + nat_abs b) (ap₂ ◌+ℤ◌ (whole a) (whole b)) (sum_size (minus a) (minus b) (nat_abs a) (nat_abs b))

pub mul_size : (a b : ℤ) → nat_abs (a *ℤ b) ≡ nat_abs a * nat_abs b
mul_size a b = ap nat_abs (sym (ap₂ ◌*ℤ◌ (whole a) (whole b)) ∙ signed_mul (minus a) (minus b) (nat_abs a) (nat_abs b)) ∙ size_of (unlike (minus a) (minus b)) (nat_abs a * nat_abs b)

-- | |a| - |b| | ≤ |a - b|
pub sizes : (e : ℕ) (a b : ℤ) → nat_abs (a -ℤ b) ≤ e → Within e (nat_abs a) (nat_abs b)
sizes e a b h =
    let x : nat_abs a ≤ nat_abs (a -ℤ b) + nat_abs b = le_trans (le_of_eq (ap nat_abs (identity (var 0) ((var 0 :+ opp (var 1)) :+ var 1) tt (a ∷ b ∷ [])))) (add_size (a -ℤ b) b) in
    let y : nat_abs b ≤ nat_abs (neg_ℤ (a -ℤ b)) + nat_abs a = le_trans (le_of_eq (ap nat_abs (identity (var 1) (opp (var 0 :+ opp (var 1)) :+ var 0) tt (a ∷ b ∷ [])))) (add_size (neg_ℤ (a -ℤ b)) a) in
    go (nat_abs a) (nat_abs b) (nat_abs (a -ℤ b)) (nat_abs (neg_ℤ (a -ℤ b))) h x y (size_neg (a -ℤ b))
  where
    go : (m n d f : ℕ) → d ≤ e → m ≤ d + n → n ≤ f + m → f ≡ d → Within e m n
    go m n d f h x y z = omega (arith, h, x, y, z)

-- ---- x - k·P / Q, for a P / Q that lies between t and t + 1
pub between : (z x k : ℤ) (R Q g m t : ℕ) → t * Q ≤ R → R ≤ (t + 1) * Q → nat_abs (z -ℤ (x -ℤ k *ℤ pos (t * g))) ≤ m → nat_abs (z -ℤ (x -ℤ k *ℤ pos ((t + 1) * g))) ≤ m
    → nat_abs (z *ℤ pos Q -ℤ (x *ℤ pos Q -ℤ k *ℤ pos (R * g))) ≤ m * Q
between z x k R Q g m t l h a b =
    go (R - t * Q) (Q - (R - t * Q)) (first R (t * Q) l) (second R t Q l h)
  where
    first : (R s : ℕ) → s ≤ R → R ≡ s + (R - s)
    first R s l = omega (arith, l)

    second : (R t Q : ℕ) → t * Q ≤ R → R ≤ (t + 1) * Q → Q ≡ Q - (R - t * Q) + (R - t * Q)
    second R t Q l h = omega (arith, l, h)

    go : (e f : ℕ) → R ≡ t * Q + e → Q ≡ f + e → nat_abs (z *ℤ pos Q -ℤ (x *ℤ pos Q -ℤ k *ℤ pos (R * g))) ≤ m * Q
    go e f r q =
        let c = z -ℤ (x -ℤ k *ℤ pos (t * g)) in
        let d = z -ℤ (x -ℤ k *ℤ pos ((t + 1) * g)) in
        let p : pos Q ≡ pos f +ℤ pos e = ap pos q ∙ sym (pos-+ℤ-pos f e) in
        let o : pos (R * g) ≡ (pos t *ℤ (pos f +ℤ pos e) +ℤ pos e) *ℤ pos g =
        sym (pos-*ℤ-pos R g) ∙ ap (λ (w : ℤ). w *ℤ pos g) (ap pos r ∙ sym (pos-+ℤ-pos (t * Q) e) ∙ ap (λ (w : ℤ). w +ℤ pos e) (sym (pos-*ℤ-pos t Q) ∙ ap (λ (w : ℤ). pos t *ℤ w) p)) in
        let s : c *ℤ pos f +ℤ d *ℤ pos e ≡ z *ℤ pos Q -ℤ (x *ℤ pos Q -ℤ k *ℤ pos (R * g)) =
        ap₂ (λ (v w : ℤ). (z -ℤ (x -ℤ k *ℤ v)) *ℤ pos f +ℤ (z -ℤ (x -ℤ k *ℤ w)) *ℤ pos e) (sym (pos-*ℤ-pos t g)) (sym (pos-*ℤ-pos (t + 1) g) ∙ ap (λ (w : ℤ). w *ℤ pos g) (sym (pos-+ℤ-pos t 1)))
        ∙ identity
        ((var 0 :+ opp (var 1 :+ opp (var 2 :* (var 3 :* var 4)))) :* var 5 :+ (var 0 :+ opp (var 1 :+ opp (var 2 :* ((var 3 :+ con (pos 1)) :* var 4)))) :* var 6)
        (var 0 :* (var 5 :+ var 6) :+ opp (var 1 :* (var 5 :+ var 6) :+ opp (var 2 :* ((var 3 :* (var 5 :+ var 6) :+ var 6) :* var 4)))) tt (z ∷ x ∷ k ∷ pos t ∷ pos g ∷ pos f ∷ pos e ∷ [])
        ∙ ap₂ (λ (v w : ℤ). z *ℤ v -ℤ (x *ℤ v -ℤ k *ℤ w)) (sym p) (sym o) in
        let i : nat_abs (c *ℤ pos f) ≤ m * f = le_trans (le_of_eq (mul_size c (pos f))) (mul-le-mul_right f a) in
        let j : nat_abs (d *ℤ pos e) ≤ m * e = le_trans (le_of_eq (mul_size d (pos e))) (mul-le-mul_right e b) in
        le_trans (le_of_eq (ap nat_abs (sym s))) (le_trans (add_size (c *ℤ pos f) (d *ℤ pos e)) (le_trans (both i j) (le_of_eq (sym (share m f e) ∙ ap (λ (n : ℕ). m * n) (sym q)))))
      where
        both : {a b c d : ℕ} → a ≤ b → c ≤ d → a + c ≤ b + d
        both h g = omega (arith, h, g)

        share : (m f e : ℕ) → m * (f + e) ≡ m * f + m * e
        share m f e = omega arith

-- ---- a difference of two by their signs
signed_one : (s : Bool) (n : ℕ) → signed s n ≡ signed s 1 *ℤ pos n
signed_one s n = sym (signed_mul s false 1 n ∙ ap₂ signed (like s) (one-mul n))
  where
    like : (s : Bool) → unlike s false ≡ s
    like true = refl
    like false = refl

-- alike: that of the sizes
pub alike : (s : Bool) (c B X A u e : ℕ) → Within e (c * B) (X * A * u) → nat_abs (signed s c *ℤ pos B -ℤ signed s X *ℤ pos A *ℤ pos u) ≤ e
alike s c B X A u e w =
    le_trans
    (le_of_eq
    (ap nat_abs
    (ap₂ (λ (a b : ℤ). a *ℤ pos B -ℤ b *ℤ pos A *ℤ pos u) (signed_one s c) (signed_one s X)
    ∙ identity (var 0 :* var 1 :* var 2 :+ opp (var 0 :* var 3 :* var 4 :* var 5)) (var 0 :* (var 1 :* var 2 :+ opp (var 3 :* var 4 :* var 5))) tt (signed s 1 ∷ pos c ∷ pos B ∷ pos X ∷ pos A ∷ pos u ∷ []))
    ∙ mul_size (signed s 1) (pos (c * B) -ℤ pos (X * A * u)) ∙ ap (λ (n : ℕ). n * nat_abs (pos (c * B) -ℤ pos (X * A * u))) (size_of s 1) ∙ one-mul (nat_abs (pos (c * B) -ℤ pos (X * A * u)))))
    (go (c * B) (X * A * u) w.most w.least)
  where
    go : (m n : ℕ) → m ≤ n + e → n ≤ m + e → nat_abs (pos m -ℤ pos n) ≤ e
    go m n h g = below (dec_le n m)
      where
        less : (m n : ℕ) → m ≤ n + e → m - n ≤ e
        less m n h = omega (arith, h)

        below : Dec (n ≤ m) → nat_abs (pos m -ℤ pos n) ≤ e
        below (yes l) = le_trans (le_of_eq (ap nat_abs (signed_sub false m n l))) (less m n h)
        below (no l) = le_trans (le_of_eq (ap nat_abs (identity (var 0 :+ opp (var 1)) (opp (var 1 :+ opp (var 0))) tt (pos m ∷ pos n ∷ []) ∙ ap neg_ℤ (signed_sub false n m (le_of_lt (lt_of_not-le l)))) ∙ size_neg (pos (n - m)))) (less n m g)

-- unlike, or not: their sum at most
pub unlike_sizes : (t s : Bool) (c B X A u e : ℕ) → c * B + X * A * u ≤ e → nat_abs (signed t c *ℤ pos B -ℤ signed s X *ℤ pos A *ℤ pos u) ≤ e
unlike_sizes t s c B X A u e h =
    le_trans (add_size (signed t c *ℤ pos B) (neg_ℤ (signed s X *ℤ pos A *ℤ pos u)))
    (le_trans (le_of_eq (ap₂ ◌+◌ (mul_size (signed t c) (pos B) ∙ ap (λ (n : ℕ). n * B) (size_of t c)) (size_neg (signed s X *ℤ pos A *ℤ pos u) ∙ mul_size (signed s X *ℤ pos A) (pos u) ∙ ap (λ (n : ℕ). n * u) (mul_size (signed s X) (pos A) ∙ ap (λ (n : ℕ). n * A) (size_of s X))))) h)

-- two whole numbers whose difference is e at most have one sign, or their sizes are e together
pub signs : (t : Bool) (a : ℕ) (z : ℤ) (e : ℕ) → nat_abs (signed t a -ℤ z) ≤ e → (t ≡ minus z) ⊎ (a + nat_abs z ≤ e)
signs t a z e h = go t (minus z) (subst (λ (w : ℤ). nat_abs (signed t a -ℤ w) ≤ e) (sym (whole z)) h)
  where
    go : (t s : Bool) → nat_abs (signed t a -ℤ signed s (nat_abs z)) ≤ e → (t ≡ s) ⊎ (a + nat_abs z ≤ e)
    go true true h = inl refl
    go false false h = inl refl
    go true false h = inr (le_trans (le_of_eq (sym (ap nat_abs (identity (opp (var 0) :+ opp (var 1)) (opp (var 0 :+ var 1)) tt (pos a ∷ pos (nat_abs z) ∷ []) ∙ ap neg_ℤ (pos-+ℤ-pos a (nat_abs z))) ∙ size_neg (pos (a + nat_abs z))))) h)
    go false true h = inr (le_trans (le_of_eq (sym (ap nat_abs (identity (var 0 :+ opp (opp (var 1))) (var 0 :+ var 1) tt (pos a ∷ pos (nat_abs z) ∷ []) ∙ pos-+ℤ-pos a (nat_abs z))))) h)
