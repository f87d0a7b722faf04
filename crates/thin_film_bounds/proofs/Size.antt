-- Operations that keep a size: a product with what is equal to 1, a sum with a zero, and the product of equal sizes in either order. Assumes nothing.
use mathlib.Core.Path.{◌≡◌, refl, sym, ap, ◌∙◌, subst}
use Prim.Native.Nat.{ℕ, ◌+◌, ◌-◌, ◌*◌, ◌≤◌, ◌<◌}
use native.Mathlib.Nat.{zero-mul, zero-add, sub-zero, mul_comm, mul_assoc, mul_left_comm, mul_right_comm, mul-pos, eq_of_mul-eq-mul_right}
use native.Mathlib.Omega.{arith}
use mathlib.Core.Bool.{Bool, true, false, not, ◌&&◌, beq, cond}
use lib.Dec.{T, ltb, nltb→le}
use lib.Ieee.{Float, nan, inf, fin, binary64, unlike, round, sum, neg, fits}
use lib.Ieee.Scale.{finite, round_same}
use lib.Ieee.Exact.{HasValue, round_exact}
use lib.Ieee.Positive.{num, den, den_pos}
use Rattle.ieee.specs.Operators.{◌⊕◌, ◌⊗◌}
use Rattle.ieee.specs.Functions.{abs}
use Rattle.ieee.specs.Range.{sgn, Mag, In}
use Rattle.ieee.proofs.Range.Round.{value_cross, value_finite}
use Rattle.ieee.proofs.Range.Values.{whole}
use Rattle.ieee.proofs.Range.Zero.{zero_num}
use Rattle.ieee.proofs.Range.AbsProduct.{abs_round, abs_parts}
use Rattle.ieee.proofs.Range.Laws.{in_mag, mul_is, add_is}

-- x and y are of one size
pub record Same (x y : Float) : Type 0 where
  pub fine : T (finite y)
  pub cross : num y * den x ≡ num x * den y

pub same_trans : {x y z : Float} → Same x y → Same y z → Same x z
same_trans {x} {y} {z} h g = record { fine = g.fine; cross = eq_of_mul-eq-mul_right (den y) (den_pos y) (num z * den x) (num x * den z) (mul_right_comm (num z) (den x) (den y) ∙ ap (λ (n : ℕ). n * den x) g.cross ∙ mul_right_comm (num y) (den z) (den x) ∙ ap (λ (n : ℕ). n * den z) h.cross ∙ mul_right_comm (num x) (den y) (den z)) }

pub neg_same : (x : Float) → T (finite x) → Same x (neg x)
unfolding neg
neg_same nan f = absurd f
neg_same (inf s) f = absurd f
neg_same (fin s m e) f = record { fine = tt; cross = refl }

own : (s : Bool) (x : Float) → T (finite x) → T (fits binary64 x) → Same x (round binary64 s (num x) (den x))
own s x f h =
    let w = whole binary64 x f h in
    let r = round binary64 s (num x) (den x) in
    let v : HasValue r s (num x) (den x) = round_exact binary64 s (num x) (den x) w.m w.j (den_pos x) w.few w.under w.is in
    record { fine = value_finite r s (num x) (den x) v; cross = value_cross r s (num x) (den x) v }

own_at : (s : Bool) (x : Float) (n d : ℕ) → 0 < d → num x * d ≡ n * den x → T (finite x) → T (fits binary64 x) → Same x (round binary64 s n d)
own_at s x n d D e f h = subst (λ (r : Float). Same x r) (round_same binary64 s (num x) (den x) n d (den_pos x) D e) (own s x f h)

pub times_unit : {c : Float} (x : Float) → T (finite x) → T (fits binary64 x) → In 1 0 1 0 c → Same x (x ⊗ c)
times_unit {c} x f h u =
    subst (λ (r : Float). Same x r) (sym (mul_is x c f (in_mag u).fine))
    (own_at (unlike (sgn x) (sgn c)) x (num x * num c) (den x * den c) (mul-pos (den_pos x) (den_pos c)) (swap (num x) (den x) (num c) (den c) (unit (num c) (den c) u.least u.most)) f h)
  where
    unit : (n d : ℕ) → 1 * d ≤ n * 1 → n * 1 ≤ 1 * d → n ≡ d
    unit n d g k = omega arith

    swap : (X e n d : ℕ) → n ≡ d → X * (e * d) ≡ X * n * e
    swap X e n d q = rw q (simp (mul_assoc, mul_comm))

pub zero_plus : {z : Float} (x : Float) → T (finite x) → T (fits binary64 x) → Mag 0 0 z → Same x (z ⊕ x)
zero_plus {z} x f h g =
    subst (λ (r : Float). Same x r) (sym (add_is z x g.fine f ∙ ap (λ (n : ℕ). sum binary64 (sgn z) n (sgn x) (num x * den z) (den z * den x)) (ap (λ (n : ℕ). n * den x) (zero_num g) ∙ zero-mul (den x))))
    (alone (sgn z) (sgn x) (num x * den z) (den z * den x) (λ s. own_at s x (num x * den z) (den z * den x) (mul-pos (den_pos z) (den_pos x)) (simp (mul_assoc, mul_comm, mul_left_comm)) f h))
  where
    alone : (s t : Bool) (n c : ℕ) → ((s : Bool) → Same x (round binary64 s n c)) → Same x (sum binary64 s 0 t n c)
    alone s t n c f = unfold sum in (at (beq s t) (ltb 0 n) (nltb→le 0 n))
      where
        at : (b u : Bool) → (T (not u) → n ≤ 0) → Same x (cond b (round binary64 s (0 + n) c) (cond u (round binary64 t (n - 0) c) (round binary64 (s && ltb n 0) (0 - n) c)))
        at true u k = subst (λ (m : ℕ). Same x (round binary64 s m c)) (sym (zero-add n)) (f s)
        at false true k = subst (λ (m : ℕ). Same x (round binary64 t m c)) (sym (sub-zero n)) (f t)
        at false false k = subst (λ (m : ℕ). Same x (round binary64 (s && ltb n 0) m c)) (nought n (k tt)) (f (s && ltb n 0))
          where
            nought : (n : ℕ) → n ≤ 0 → n ≡ 0 - n
            nought n h = omega arith

-- ---- the product of y, of the size of x, and f is of the size of f times x
mag_sign : {p j : ℕ} (s t : Bool) (a c : ℕ) → Mag p j (round binary64 s a c) → Mag p j (round binary64 t a c)
mag_sign {p} {j} s t a c h = back (round binary64 t a c) (abs_round binary64 t a c) (subst (λ (x : Float). Mag p j x) (abs_round binary64 s a c) (forth (round binary64 s a c) h))
  where
    forth : (x : Float) → Mag p j x → Mag p j (abs x)
    forth x h = let a = abs_parts x h.fine in record { fine = a.0; most = rw (a.2, a.3) h.most }

    back : (x : Float) {y : Float} → abs x ≡ y → Mag p j y → Mag p j x
    back x e h = go x (subst (λ (z : Float). Mag p j z) (sym e) h)
      where
        go : (x : Float) → Mag p j (abs x) → Mag p j x
        go nan h = unfold abs in h
        go (inf s) h = absurd (unfold abs in h.fine)
        go (fin s m e) h = record { fine = tt; most = unfold abs in h.most }

pub swapped : {p j : ℕ} {x y : Float} (f : Float) → Same x y → T (finite x) → T (finite f) → Mag p j (f ⊗ x) → Mag p j (y ⊗ f)
swapped {p} {j} {x} {y} f h fx ff g =
    subst (λ (r : Float). Mag p j r) (sym (mul_is y f h.fine ff))
    (subst (λ (r : Float). Mag p j r) (round_same binary64 (unlike (sgn y) (sgn f)) (num f * num x) (den f * den x) (num y * num f) (den y * den f) (mul-pos (den_pos f) (den_pos x)) (mul-pos (den_pos y) (den_pos f)) (cross (num f) (den f) (num x) (den x) (num y) (den y) h.cross))
    (mag_sign (unlike (sgn f) (sgn x)) (unlike (sgn y) (sgn f)) (num f * num x) (den f * den x) (subst (λ (r : Float). Mag p j r) (mul_is f x ff fx) g)))
  where
    cross : (F d X e Y k : ℕ) → Y * e ≡ X * k → F * X * (k * d) ≡ Y * F * (d * e)
    cross F d X e Y k h = a F X k d ∙ ap (λ (z : ℕ). F * d * z) (sym h) ∙ b F d Y e
      where
        a : (F X k d : ℕ) → F * X * (k * d) ≡ F * d * (X * k)
        a F X k d = simp (mul_assoc, mul_comm, mul_left_comm)

        b : (F d Y e : ℕ) → F * d * (Y * e) ≡ Y * F * (d * e)
        b F d Y e = simp (mul_assoc, mul_comm, mul_left_comm)
