-- Sums, differences and products of whole numbers of 2 ^ -k are exact where they stay below 2 ^ 53 in size. Assumes nothing.
use mathlib.Core.Path.{◌≡◌, refl, sym, ap, ap₂, ◌∙◌, subst}
use Prim.Native.Nat.{ℕ, zero, suc, ◌+◌, ◌-◌, ◌*◌, ◌^◌, ◌≤◌, ◌<◌}
use native.Mathlib.Nat.{le_trans, le_of_eq, le_of_lt, lt_of_lt_of_le, sub-le, sub-add_cancel, sub_self, zero-mul, mul_comm, mul_assoc, mul_right_comm, mul-mul-mul_comm, mul-le-mul, mul-le-mul_right, mul-pos, add-mul, mul-sub, mul-lt-mul_of_pos_right, le_of_mul-le-mul_right, eq_of_mul-eq-mul_right, le_antisymm}
use native.Mathlib.Omega.{arith}
use mathlib.Core.Bool.{Bool, true, false, not, ◌&&◌, ◌||◌, beq, cond}
use lib.Dec.{T, ltb, eqb, eqb→eq, ltb→lt, nltb→le, lit≤}
use lib.Pow.{pow_pos, pow_mono, pow-add}
use lib.IntN.{ℤ, pos, negsuc, neg_ℤ, nat_abs, ◌+ℤ◌, ◌-ℤ◌, ◌*ℤ◌, +ℤ_comm, +ℤ-neg_ℤ_cancel, neg_ℤ-+ℤ, neg_ℤ-neg_ℤ, *ℤ_comm, +ℤ_invr, pos-ne-negsuc}
use lib.Ieee.{Float, nan, inf, fin, binary64, up, down, unlike, round, sum, neg, eq, fits, of_int}
use lib.Ieee.Fits.{and_i, eq→eqb, of_int-fits}
use lib.Ieee.Scale.{finite}
use lib.Ieee.Exact.{HasValue, round_exact}
use lib.Ieee.Positive.{num, den, den_pos}
use Rattle.ieee.specs.Operators.{◌⊕◌, ◌⊖◌, ◌⊗◌}
use Rattle.ieee.specs.Range.{sgn}
use Rattle.ieee.proofs.Range.Round.{value_cross, value_sign, value_finite}
use Rattle.ieee.proofs.Range.Values.{split_pow}
use Rattle.ieee.proofs.Range.Laws.{mul_is, add_is, sub_is}
use Rattle.whole_ring.proofs.Laws.{neg_mul}
use Rattle.whole_f64.specs.Whole.{signed, Is, ExactOperations}

-- ---- whole numbers by sign and size
pub size_of : (s : Bool) (n : ℕ) → nat_abs (signed s n) ≡ n
size_of false n = refl
size_of true zero = refl
size_of true (suc n) = refl

signed_neg : (s : Bool) (n : ℕ) → signed (not s) n ≡ neg_ℤ (signed s n)
signed_neg false n = refl
signed_neg true n = sym (neg_ℤ-neg_ℤ (pos n))

mul_negative : (a b : ℕ) → pos a *ℤ neg_ℤ (pos b) ≡ neg_ℤ (pos (a * b))
mul_negative a b = *ℤ_comm (pos a) (neg_ℤ (pos b)) ∙ neg_mul (pos b) (pos a) ∙ ap (λ (n : ℕ). neg_ℤ (pos n)) (mul_comm b a)

pub signed_mul : (s t : Bool) (a b : ℕ) → signed s a *ℤ signed t b ≡ signed (unlike s t) (a * b)
signed_mul false false a b = refl
signed_mul false true a b = mul_negative a b
signed_mul true false a b = neg_mul (pos a) (pos b)
signed_mul true true a b = neg_mul (pos a) (neg_ℤ (pos b)) ∙ ap neg_ℤ (mul_negative a b) ∙ neg_ℤ-neg_ℤ (pos (a * b))

pub signed_add : (s : Bool) (a b : ℕ) → signed s a +ℤ signed s b ≡ signed s (a + b)
signed_add false a b = refl
signed_add true a b = sym (neg_ℤ-+ℤ (pos a) (pos b))

less : (a b : ℕ) → b ≤ a → pos a +ℤ neg_ℤ (pos b) ≡ pos (a - b)
less a b h = ap (λ (n : ℕ). pos n +ℤ neg_ℤ (pos b)) (sym (sub-add_cancel h)) ∙ +ℤ-neg_ℤ_cancel (pos (a - b)) (pos b)

pub signed_sub : (s : Bool) (a b : ℕ) → b ≤ a → signed s a +ℤ signed (not s) b ≡ signed s (a - b)
signed_sub false a b h = less a b h
signed_sub true a b h = ap (λ (z : ℤ). neg_ℤ (pos a) +ℤ z) (sym (neg_ℤ-neg_ℤ (pos b))) ∙ sym (neg_ℤ-+ℤ (pos a) (neg_ℤ (pos b))) ∙ ap neg_ℤ (less a b h)

-- ---- a fraction a / c that is n / 2 ^ k, with n below 2 ^ 53, is not changed by rounding
scaled : (a c n k : ℕ) → k ≤ 1074 → a * 2 ^ k ≡ n * c → a * 2 ^ 1074 ≡ n * 2 ^ (1074 - k) * c
scaled a c n k h e = split_pow a k 1074 h ∙ mul_right_comm a (2 ^ (1074 - k)) (2 ^ k) ∙ ap (λ (x : ℕ). x * 2 ^ (1074 - k)) e ∙ mul_right_comm n c (2 ^ (1074 - k))

under : (n k : ℕ) → n < 2 ^ 53 → n * 2 ^ (1074 - k) < 2 ^ (1074 + 1024)
under n k h =
    lt_of_lt_of_le (mul-lt-mul_of_pos_right h (pow_pos (1074 - k)))
    (le_trans (mul-le-mul (lit≤ {m = 2 ^ 53} {n = 2 ^ 1024} tt) (pow_mono (sub-le 1074 k))) (lit≤ {m = 2 ^ 1024 * 2 ^ 1074} {n = 2 ^ (1074 + 1024)} tt))

kept : (s : Bool) (a c n k : ℕ) → 0 < c → n < 2 ^ 53 → k ≤ 1074 → a * 2 ^ k ≡ n * c → HasValue (round binary64 s a c) s a c
kept s a c n k C small deep e = round_exact binary64 s a c n (1074 - k) C small (under n k small) (scaled a c n k deep e)

back : (N d a c n K : ℕ) → 0 < c → N * c ≡ a * d → a * K ≡ n * c → N * K ≡ n * d
back N d a c n K C h e =
    eq_of_mul-eq-mul_right c C (N * K) (n * d) (mul_right_comm N K c ∙ ap (λ (x : ℕ). x * K) h ∙ mul_right_comm a d K ∙ ap (λ (x : ℕ). x * d) e ∙ mul_right_comm n c d)

-- the rounded fraction, as a whole number
rounded : (s : Bool) (a c n k : ℕ) (z : ℤ) → 0 < c → nat_abs z < 2 ^ 53 → k ≤ 1074 → a * 2 ^ k ≡ n * c → signed s n ≡ z → Is k (round binary64 s a c) z
rounded s a c n k z C small deep e v =
    let r = round binary64 s a c in
    let q : nat_abs z ≡ n = ap nat_abs (sym v) ∙ size_of s n in
    let h = kept s a c n k C (subst (λ (m : ℕ). m < 2 ^ 53) q small) deep e in
    record {
      fine = value_finite r s a c h;
      size = back (num r) (den r) a c n (2 ^ k) C (value_cross r s a c h) e ∙ ap (λ (m : ℕ). m * den r) (sym q);
      sign = ap (λ (t : Bool). signed t (nat_abs z)) (value_sign r s a c h) ∙ ap (signed s) q ∙ v;
    }

-- ---- the product
mul_exact : {j k : ℕ} {x y : Float} {z w : ℤ} → Is j x z → Is k y w → nat_abs (z *ℤ w) < 2 ^ 53 → j + k ≤ 1074 → Is (j + k) (x ⊗ y) (z *ℤ w)
mul_exact {j} {k} {x} {y} {z} {w} h g small deep =
    subst (λ (r : Float). Is (j + k) r (z *ℤ w)) (sym (mul_is x y h.fine g.fine))
    (rounded (unlike (sgn x) (sgn y)) (num x * num y) (den x * den y) (nat_abs z * nat_abs w) (j + k) (z *ℤ w) (mul-pos (den_pos x) (den_pos y)) small deep
    (ap (λ (p : ℕ). num x * num y * p) (pow-add 2 j k) ∙ mul-mul-mul_comm (num x) (num y) (2 ^ j) (2 ^ k) ∙ ap₂ ◌*◌ h.size g.size ∙ mul-mul-mul_comm (nat_abs z) (den x) (nat_abs w) (den y))
    (sym (signed_mul (sgn x) (sgn y) (nat_abs z) (nat_abs w)) ∙ ap₂ ◌*ℤ◌ h.sign g.sign))

-- ---- the sum
sum_exact : (s t : Bool) (A B C m n k : ℕ) → 0 < C → A * 2 ^ k ≡ m * C → B * 2 ^ k ≡ n * C → nat_abs (signed s m +ℤ signed t n) < 2 ^ 53 → k ≤ 1074 → Is k (sum binary64 s A t B C) (signed s m +ℤ signed t n)
unfolding sum
sum_exact s t A B C m n k C0 ea eb small deep = go s t (ltb A B) (ltb→lt A B) (nltb→le A B) (ltb B A) (nltb→le B A) small
  where
    order : (A B m n C K : ℕ) → 0 < C → A * K ≡ m * C → B * K ≡ n * C → A ≤ B → m ≤ n
    order A B m n C K C0 ea eb h = le_of_mul-le-mul_right (le_trans (le_of_eq (sym ea)) (le_trans (mul-le-mul_right K h) (le_of_eq eb))) C0

    minus : (A B m n C K : ℕ) → A * K ≡ m * C → B * K ≡ n * C → (A - B) * K ≡ (m - n) * C
    minus A B m n C K ea eb = mul_comm (A - B) K ∙ mul-sub K A B ∙ ap₂ ◌-◌ (mul_comm K A ∙ ea ∙ mul_comm m C) (mul_comm K B ∙ eb ∙ mul_comm n C) ∙ sym (mul-sub C m n) ∙ mul_comm C (m - n)

    Small : Bool → Bool → Type 0
    Small s t = nat_abs (signed s m +ℤ signed t n) < 2 ^ 53

    both : (s : Bool) → Small s s → Is k (round binary64 s (A + B) C) (signed s m +ℤ signed s n)
    both s small = rounded s (A + B) C (m + n) k (signed s m +ℤ signed s n) C0 small deep (add-mul A B (2 ^ k) ∙ ap₂ ◌+◌ ea eb ∙ sym (add-mul m n C)) (sym (signed_add s m n))

    right : (s : Bool) → A ≤ B → Small s (not s) → Is k (round binary64 (not s) (B - A) C) (signed s m +ℤ signed (not s) n)
    right s h small =
        rounded (not s) (B - A) C (n - m) k (signed s m +ℤ signed (not s) n) C0 small deep (minus B A n m C (2 ^ k) eb ea)
        (sym (+ℤ_comm (signed s m) (signed (not s) n) ∙ flip s ∙ signed_sub (not s) n m (order A B m n C (2 ^ k) C0 ea eb h)))
      where
        flip : (s : Bool) → signed (not s) n +ℤ signed s m ≡ signed (not s) n +ℤ signed (not (not s)) m
        flip true = refl
        flip false = refl

    left : (s : Bool) → B ≤ A → Small s (not s) → Is k (round binary64 s (A - B) C) (signed s m +ℤ signed (not s) n)
    left s h small = rounded s (A - B) C (m - n) k (signed s m +ℤ signed (not s) n) C0 small deep (minus A B m n C (2 ^ k) ea eb) (sym (signed_sub s m n (order B A n m C (2 ^ k) C0 eb ea h)))

    level_zero : A ≤ B → B ≤ A → Small true false → Is k (round binary64 false (A - B) C) (neg_ℤ (pos m) +ℤ pos n)
    level_zero h g small =
        let e : m ≡ n = le_antisymm (order A B m n C (2 ^ k) C0 ea eb h) (order B A n m C (2 ^ k) C0 eb ea g) in
        rounded false (A - B) C (m - n) k (neg_ℤ (pos m) +ℤ pos n) C0 small deep (minus A B m n C (2 ^ k) ea eb)
        (ap pos (ap (λ (x : ℕ). x - n) e ∙ sub_self n) ∙ sym (ap (λ (x : ℕ). neg_ℤ (pos x) +ℤ pos n) e ∙ +ℤ_comm (neg_ℤ (pos n)) (pos n) ∙ +ℤ_invr (pos n)))

    go : (s t : Bool) (u : Bool) → (T u → A < B) → (T (not u) → B ≤ A) → (v : Bool) → (T (not v) → A ≤ B) → Small s t
        → Is k (cond (beq s t) (round binary64 s (A + B) C) (cond u (round binary64 t (B - A) C) (round binary64 (s && v) (A - B) C))) (signed s m +ℤ signed t n)
    go true true u f g v h small = both true small
    go false false u f g v h small = both false small
    go true false true f g v h small = right true (le_of_lt (f tt)) small
    go true false false f g true h small = left true (g tt) small
    go true false false f g false h small = level_zero (h tt) (g tt) small
    go false true true f g v h small = right false (le_of_lt (f tt)) small
    go false true false f g v h small = left false (g tt) small

add_exact : {k : ℕ} {x y : Float} {z w : ℤ} → Is k x z → Is k y w → nat_abs (z +ℤ w) < 2 ^ 53 → k ≤ 1074 → Is k (x ⊕ y) (z +ℤ w)
add_exact {k} {x} {y} {z} {w} h g small deep =
    let v = ap₂ ◌+ℤ◌ h.sign g.sign in
    subst (λ (r : Float). Is k r (z +ℤ w)) (sym (add_is x y h.fine g.fine))
    (subst (λ (v : ℤ). Is k (sum binary64 (sgn x) (num x * den y) (sgn y) (num y * den x) (den x * den y)) v) v
    (sum_exact (sgn x) (sgn y) (num x * den y) (num y * den x) (den x * den y) (nat_abs z) (nat_abs w) k (mul-pos (den_pos x) (den_pos y))
    (mul_right_comm (num x) (den y) (2 ^ k) ∙ ap (λ (v : ℕ). v * den y) h.size ∙ mul_assoc (nat_abs z) (den x) (den y))
    (mul_right_comm (num y) (den x) (2 ^ k) ∙ ap (λ (v : ℕ). v * den x) g.size ∙ mul_assoc (nat_abs w) (den y) (den x) ∙ ap (λ (v : ℕ). nat_abs w * v) (mul_comm (den y) (den x)))
    (subst (λ (v : ℤ). nat_abs v < 2 ^ 53) (sym v) small) deep))

pub size_neg : (z : ℤ) → nat_abs (neg_ℤ z) ≡ nat_abs z
size_neg (pos zero) = refl
size_neg (pos (suc n)) = refl
size_neg (negsuc n) = refl

pub neg_exact : {k : ℕ} {x : Float} {z : ℤ} → Is k x z → Is k (neg x) (neg_ℤ z)
unfolding neg
neg_exact {k} {x} {z} h = go x h.fine h.size h.sign
  where
    go : (x : Float) → T (finite x) → num x * 2 ^ k ≡ nat_abs z * den x → signed (sgn x) (nat_abs z) ≡ z → Is k (neg x) (neg_ℤ z)
    go nan f v i = absurd f
    go (inf s) f v i = absurd f
    go (fin s m e) f v i = record {
      fine = tt;
      size = v ∙ ap (λ (n : ℕ). n * down e) (sym (size_neg z));
      sign = ap (signed (not s)) (size_neg z) ∙ signed_neg s (nat_abs z) ∙ ap neg_ℤ i;
    }

sub_exact : {k : ℕ} {x y : Float} {z w : ℤ} → Is k x z → Is k y w → nat_abs (z -ℤ w) < 2 ^ 53 → k ≤ 1074 → Is k (x ⊖ y) (z -ℤ w)
sub_exact {k} {x} {y} {z} {w} h g small deep = subst (λ (r : Float). Is k r (z -ℤ w)) (sym (sub_is x y)) (add_exact h (neg_exact g) small deep)

-- ---- two that are the same number are equal by value
alike : (s t : Bool) (n : ℕ) → signed s n ≡ signed t n → T (beq s t || eqb n 0)
alike false false n e = tt
alike true true n e = tt
alike false true zero e = tt
alike false true (suc n) e = absurd (pos-ne-negsuc (suc n) n e)
alike true false zero e = tt
alike true false (suc n) e = absurd (pos-ne-negsuc (suc n) n (sym e))

equal : {k : ℕ} {x y : Float} {z : ℤ} → Is k x z → Is k y z → T (eq x y)
unfolding eq
equal {k} {x} {y} {z} h g = go x y h.fine g.fine h.size g.size (alike (sgn x) (sgn y) (nat_abs z) (h.sign ∙ sym g.sign))
  where
    cross : (X Y dx dy n K : ℕ) → 0 < K → X * K ≡ n * dx → Y * K ≡ n * dy → X * dy ≡ Y * dx
    cross X Y dx dy n K K0 h g =
        eq_of_mul-eq-mul_right K K0 (X * dy) (Y * dx) (mul_right_comm X dy K ∙ ap (λ (v : ℕ). v * dy) h ∙ mul_right_comm n dx dy ∙ ap (λ (v : ℕ). v * dx) (sym g) ∙ mul_right_comm Y K dx)

    zero_size : (X n d K : ℕ) → 0 < K → X * K ≡ n * d → n ≡ 0 → X ≡ 0
    zero_size X n d K K0 e h = eq_of_mul-eq-mul_right K K0 X 0 (e ∙ ap (λ (v : ℕ). v * d) h ∙ none d K)
      where
        none : (d K : ℕ) → 0 * d ≡ 0 * K
        none d K = omega arith

    zeros : (b : Bool) (X d n : ℕ) → (n ≡ 0 → X ≡ 0) → T (b || eqb n 0) → T (b || eqb (X * d) 0)
    zeros true X d n f t = tt
    zeros false X d n f t = eq→eqb (ap (λ (v : ℕ). v * d) (f (eqb→eq n 0 t)) ∙ zero-mul d)

    go : (x y : Float) → T (finite x) → T (finite y) → num x * 2 ^ k ≡ nat_abs z * den x → num y * 2 ^ k ≡ nat_abs z * den y → T (beq (sgn x) (sgn y) || eqb (nat_abs z) 0) → T (eq x y)
    go nan y f f' v w p = absurd f
    go (inf s) y f f' v w p = absurd f
    go (fin s m e) nan f f' v w p = absurd f'
    go (fin s m e) (inf t) f f' v w p = absurd f'
    go (fin s m e) (fin t n d) f f' v w p =
        and_i (eqb (m * up e * down d) (n * up d * down e)) (beq s t || eqb (m * up e * down d) 0)
        (eq→eqb (cross (m * up e) (n * up d) (down e) (down d) (nat_abs z) (2 ^ k) (pow_pos k) v w))
        (zeros (beq s t) (m * up e) (down d) (nat_abs z) (zero_size (m * up e) (nat_abs z) (down e) (2 ^ k) (pow_pos k) v) p)

-- ---- every whole number below 2 ^ 53
pub whole : (z : ℤ) → nat_abs z < 2 ^ 53 → Is 0 (of_int binary64 z) z
unfolding of_int
whole (pos n) h = rounded false n 1 n 0 (pos n) (lit≤ tt) h (lit≤ tt) refl refl
whole (negsuc n) h = rounded true (suc n) 1 (suc n) 0 (negsuc n) (lit≤ tt) h (lit≤ tt) refl refl

pub exact_operations : ExactOperations
exact_operations = record { sum = add_exact; difference = sub_exact; product = mul_exact; every = λ z h. (of_int binary64 z, (of_int-fits binary64 z, whole z h)); equal = equal }
