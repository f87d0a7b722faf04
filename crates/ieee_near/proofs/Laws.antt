-- f64 values up to so many roundings: one law for each operation. Assumes nothing.
use mathlib.Core.Path.{◌≡◌, refl, sym, ap, ap₂, ◌∙◌, subst}
use Prim.Native.Nat.{ℕ, suc, ◌+◌, ◌-◌, ◌*◌, ◌^◌, ◌≤◌, ◌<◌}
use native.Mathlib.Nat.{le_trans, le_of_eq, lt_of_lt_of_le, zero-mul, mul-zero, mul-one, one-mul, mul_comm, mul_assoc, mul_left_comm, mul_right_comm, mul-mul-mul_comm, mul-le-mul, mul-le-mul_left, mul-le-mul_right, mul-pos, eq_of_mul-eq-mul_right, le_of_mul-le-mul_right}
use native.Mathlib.Omega.{arith}
use mathlib.Core.Bool.{Bool, true, false, not, ◌&&◌, cond}
use lib.Dec.{T, ltb, ltb→lt, nltb→le, lit≤}
use lib.Pow.{pow-add, pow_pos, pow_mono}
use lib.IntN.{pos}
use lib.Ieee.{Float, fin, binary64, unlike, round, sum, fits}
use lib.Ieee.Scale.{finite, round_same}
use lib.Ieee.Positive.{num, den, den_pos}
use Rattle.ieee.specs.Operators.{◌⊕◌, ◌⊖◌, ◌⊗◌, ◌⊘◌}
use Rattle.ieee.specs.Range.{sgn, plus, Rep}
use Rattle.ieee.specs.Rounding.{OnePart}
use Rattle.ieee.proofs.Rounding.{rounding}
use Rattle.ieee.proofs.Range.Round.{round_least}
use Rattle.ieee.proofs.Range.Values.{round_itself}
use Rattle.ieee.proofs.Range.AbsProduct.{abs_round, abs_parts}
use Rattle.ieee.proofs.Range.Sums.{sub_sum}
use Rattle.ieee.proofs.Range.Laws.{plus_finite, plus_sgn, rep_pow, round_rep, mul_is, add_is, div_is}
use Rattle.ieee_near.specs.Index.{gap}
use Rattle.ieee_near.specs.Near.{Above, none, some, Close, Near}
use Rattle.ieee_near.proofs.Close.{close_self, close_mul, close_div, close_value, close_frac, close_trans, close_round}

-- ---- a zero of either sign, and nothing, rounded
abbrev pub a_zero : Bool → Float
a_zero s = fin s 0 (pos 0)

pub fits_zero : (s : Bool) → T (fits binary64 (a_zero s))
unfolding fits
fits_zero s = tt

pub rounds_zero : (s : Bool) (c : ℕ) → 0 < c → round binary64 s 0 c ≡ a_zero s
rounds_zero s c C = round_same binary64 s 0 c 0 1 C (lit≤ tt) (zero-mul 1 ∙ sym (zero-mul c)) ∙ round_itself binary64 (a_zero s) tt (fits_zero s)

round_zero : (s : Bool) (c : ℕ) → 0 < c → num (round binary64 s 0 c) ≡ 0
round_zero s c C = ap num (rounds_zero s c C)

-- ---- one part in 2 ^ 53, for 0 and for what is in the normal range
in_range : (a c l : ℕ) → l ≤ 1022 → c ≤ a * 2 ^ l → 2 ^ 52 * c ≤ a * 2 ^ 1074
in_range a c l b h =
    le_trans (mul-le-mul_left (2 ^ 52) (le_trans h (mul-le-mul_left a (pow_mono b))))
    (le_of_eq (mul_left_comm (2 ^ 52) a (2 ^ 1022)))

one_part : {l : ℕ} (s : Bool) (a c : ℕ) → 0 < c → Above l a c → l ≤ 1022 → T (finite (round binary64 s a c)) → OnePart binary64 a c (round binary64 s a c)
one_part {l} s a c C (some h) b t = (rounding binary64).normal s a c C (in_range a c l b h) t
one_part {l} s a c C (none e) b t =
    subst (λ (n : ℕ). OnePart binary64 n c (round binary64 s n c)) (sym e) (both (num (round binary64 s 0 c)) (den (round binary64 s 0 c)) c (2 ^ 53) (round_zero s c C))
  where
    both : (n d c K : ℕ) → n ≡ 0 → (n * c * K ≤ 0 * d * K + 0 * d) × (0 * d * K ≤ n * c * K + 0 * d)
    both n d c K e = subst (λ (n : ℕ). (n * c * K ≤ 0 * d * K + 0 * d) × (0 * d * K ≤ n * c * K + 0 * d)) (sym e) (flat c d K)
      where
        flat : (c d K : ℕ) → (0 * c * K ≤ 0 * d * K + 0 * d) × (0 * d * K ≤ 0 * c * K + 0 * d)
        flat c d K = (rw (zero-mul c, zero-mul d, zero-mul K) (lit≤ tt), rw (zero-mul c, zero-mul d, zero-mul K) (lit≤ tt))

-- ---- the size of a rounded fraction does not turn on its sign
size_same : (s : Bool) (a c : ℕ) → T (finite (round binary64 s a c)) → (num (round binary64 false a c) ≡ num (round binary64 s a c)) × (den (round binary64 false a c) ≡ den (round binary64 s a c)) × T (finite (round binary64 false a c))
size_same s a c t =
    let p = abs_parts (round binary64 s a c) t in
    let e = abs_round binary64 s a c in
    (ap num (sym e) ∙ p.2, ap den (sym e) ∙ p.3, subst (λ (x : Float). T (finite x)) e p.0)

round_above : {l : ℕ} (s : Bool) (a c : ℕ) → 0 < c → l ≤ 1022 → T (finite (round binary64 s a c)) → Above l a c → Above l (num (round binary64 s a c)) (den (round binary64 s a c))
round_above {l} s a c C b t (none e) = none (ap (λ (n : ℕ). num (round binary64 s n c)) e ∙ round_zero s c C)
round_above {l} s a c C b t (some h) =
    let z = size_same s a c t in
    let r : Rep binary64 1 l = record { q = 1; i = 0; few = lit≤ tt; is = refl; deep = le_trans b (lit≤ tt); under = lt_of_lt_of_le (lit≤ {m = 2} {n = 2 ^ 1024} tt) (le_trans (le_of_eq (sym (mul-one (2 ^ 1024)))) (mul-le-mul_left (2 ^ 1024) (pow_pos l))) } in
    some (subst (λ (d : ℕ). d ≤ num (round binary64 s a c) * 2 ^ l) z.1
    (subst (λ (n : ℕ). den (round binary64 false a c) ≤ n * 2 ^ l) z.0
    (le_trans (le_of_eq (sym (one-mul (den (round binary64 false a c))))) (round_least binary64 a c 1 l C r (le_trans (le_of_eq (one-mul c)) h) z.2))))

-- ---- a rounded fraction
pub near_round : {k l p A B : ℕ} (s : Bool) (a c : ℕ) → 0 < c → Above l a c → a ≤ 2 ^ p * c → Close k A B a c → l ≤ 1022 → p ≤ 1023 → Near (suc k) l p A B (round binary64 s a c)
near_round {k} {l} {p} {A} {B} s a c C low high h bl bp =
    let r = round binary64 s a c in
    let m = round_rep s a c (2 ^ p) 0 C (rep_pow p bp) (le_trans (le_of_eq (mul-one a)) high) in
    let o = one_part s a c C low bl m.fine in
    record {
      fine = m.fine;
      low = round_above s a c C bl m.fine low;
      high = le_trans (le_of_eq (sym (mul-one (num r)))) m.most;
      close = close_round a c (num r) (den r) C o.0 o.1 h;
    }

-- ---- an f64 is itself
pub near_self : {l p : ℕ} (x : Float) → T (finite x) → Above l (num x) (den x) → num x ≤ 2 ^ p * den x → Near 0 l p (num x) (den x) x
near_self x f low high = record { fine = f; low = low; high = high; close = close_self (num x) (den x) }

-- ---- bounds of products and quotients
above_mul : {l m n d n' d' : ℕ} → Above l n d → Above m n' d' → Above (l + m) (n * n') (d * d')
above_mul {l} {m} {n} {d} {n'} {d'} (none e) g = none (ap (λ (x : ℕ). x * n') e ∙ zero-mul n')
above_mul {l} {m} {n} {d} {n'} {d'} (some h) (none e) = none (ap (λ (x : ℕ). n * x) e ∙ mul-zero n)
above_mul {l} {m} {n} {d} {n'} {d'} (some h) (some g) = some (le_trans (mul-le-mul h g) (le_of_eq (mul-mul-mul_comm n (2 ^ l) n' (2 ^ m) ∙ ap (λ (x : ℕ). n * n' * x) (sym (pow-add 2 l m)))))

high_mul : (p q n d n' d' : ℕ) → n ≤ 2 ^ p * d → n' ≤ 2 ^ q * d' → n * n' ≤ 2 ^ (p + q) * (d * d')
high_mul p q n d n' d' h g = le_trans (mul-le-mul h g) (le_of_eq (mul-mul-mul_comm (2 ^ p) d (2 ^ q) d' ∙ ap (λ (x : ℕ). x * (d * d')) (sym (pow-add 2 p q))))

pub near_mul : {k l p A B k' l' p' A' B' : ℕ} {x y : Float} → Near k l p A B x → Near k' l' p' A' B' y → l + l' ≤ 1022 → p + p' ≤ 1023 → Near (suc (k + k')) (l + l') (p + p') (A * A') (B * B') (x ⊗ y)
near_mul {k} {l} {p} {A} {B} {k'} {l'} {p'} {A'} {B'} {x} {y} h g bl bp =
    subst (λ (r : Float). Near (suc (k + k')) (l + l') (p + p') (A * A') (B * B') r) (sym (mul_is x y h.fine g.fine))
    (near_round (unlike (sgn x) (sgn y)) (num x * num y) (den x * den y) (mul-pos (den_pos x) (den_pos y)) (above_mul h.low g.low) (high_mul p p' (num x) (den x) (num y) (den y) h.high g.high) (close_mul h.close g.close) bl bp)

-- y is not 0
nonzero : {l n d : ℕ} → 0 < n → Above l n d → d ≤ n * 2 ^ l
nonzero {l} {n} {d} h (none e) = absurd (go n h e)
  where
    go : (n : ℕ) → 0 < n → n ≡ 0 → ⊥
    go n h e = omega arith
nonzero h (some g) = g

pub near_div : {k l p A B k' l' p' A' B' : ℕ} {x y : Float} → Near k l p A B x → Near k' l' p' A' B' y → 0 < num y → l + p' ≤ 1022 → p + l' ≤ 1023 → Near (suc (k + k')) (l + p') (p + l') (A * B') (B * A') (x ⊘ y)
near_div {k} {l} {p} {A} {B} {k'} {l'} {p'} {A'} {B'} {x} {y} h g y0 bl bp =
    subst (λ (r : Float). Near (suc (k + k')) (l + p') (p + l') (A * B') (B * A') r) (sym (div_is x y h.fine g.fine y0))
    (near_round (unlike (sgn x) (sgn y)) (num x * den y) (num y * den x) (mul-pos y0 (den_pos x)) (low h.low) high
    (close_value (num x * den y) (den x * num y) (num x * den y) (num y * den x) (mul-pos (den_pos x) y0) (ap (λ (z : ℕ). num x * den y * z) (mul_comm (num y) (den x))) (close_div h.close g.close)) bl bp)
  where
    low : Above l (num x) (den x) → Above (l + p') (num x * den y) (num y * den x)
    low (none e) = none (ap (λ (z : ℕ). z * den y) e ∙ zero-mul (den y))
    low (some u) =
        some (le_trans (mul-le-mul g.high u)
        (le_of_eq (swap (2 ^ p') (den y) (num x) (2 ^ l) ∙ ap (λ (z : ℕ). num x * den y * z) (sym (pow-add 2 l p')))))
      where
        swap : (P d n L : ℕ) → P * d * (n * L) ≡ n * d * (L * P)
        swap P d n L = simp (mul_assoc, mul_comm, mul_left_comm)

    high : num x * den y ≤ 2 ^ (p + l') * (num y * den x)
    high =
        le_trans (mul-le-mul h.high (nonzero y0 g.low))
        (le_of_eq (swap (2 ^ p) (den x) (num y) (2 ^ l') ∙ ap (λ (z : ℕ). z * (num y * den x)) (sym (pow-add 2 p l'))))
      where
        swap : (P d n L : ℕ) → P * d * (n * L) ≡ P * L * (n * d)
        swap P d n L = simp (mul_assoc, mul_comm, mul_left_comm)

-- ---- the sum of two f64s that are not below zero, rounded once
pub near_sum : {l p : ℕ} (x y : Float) → T (plus x) → T (plus y) → Above l (num x * den y + num y * den x) (den x * den y) → num x * den y + num y * den x ≤ 2 ^ p * (den x * den y) → l ≤ 1022 → p ≤ 1023
    → Near 1 l p (num x * den y + num y * den x) (den x * den y) (x ⊕ y)
near_sum {l} {p} x y px py low high bl bp =
    subst (λ (r : Float). Near 1 l p (num x * den y + num y * den x) (den x * den y) r) (sym (add_is x y (plus_finite x px) (plus_finite y py) ∙ same (sgn x) (sgn y) (plus_sgn x px) (plus_sgn y py)))
    (near_round false (num x * den y + num y * den x) (den x * den y) (mul-pos (den_pos x) (den_pos y)) low high (close_self (num x * den y + num y * den x) (den x * den y)) bl bp)
  where
    same : (s t : Bool) → s ≡ false → t ≡ false → sum binary64 s (num x * den y) t (num y * den x) (den x * den y) ≡ round binary64 false (num x * den y + num y * den x) (den x * den y)
    same s t e f = ap₂ (λ (s t : Bool). sum binary64 s (num x * den y) t (num y * den x) (den x * den y)) e f ∙ unfold sum in refl

-- ---- the difference, rounded once: its size is the gap
module _ {l p : ℕ} (x y : Float) (px : T (plus x)) (py : T (plus y)) (low : Above l (gap (num x * den y) (num y * den x)) (den x * den y)) (high : gap (num x * den y) (num y * den x) ≤ 2 ^ p * (den x * den y)) (bl : l ≤ 1022) (bp : p ≤ 1023) where
  part : (s : Bool) (n : ℕ) → n ≡ gap (num x * den y) (num y * den x) → Near 1 l p (gap (num x * den y) (num y * den x)) (den x * den y) (round binary64 s n (den x * den y))
  part s n e =
      subst (λ (m : ℕ). Near 1 l p (gap (num x * den y) (num y * den x)) (den x * den y) (round binary64 s m (den x * den y))) (sym e)
      (near_round s (gap (num x * den y) (num y * den x)) (den x * den y) (mul-pos (den_pos x) (den_pos y)) low high (close_self (gap (num x * den y) (num y * den x)) (den x * den y)) bl bp)

  pub near_gap : Near 1 l p (gap (num x * den y) (num y * den x)) (den x * den y) (x ⊖ y)
  near_gap = subst (λ (r : Float). Near 1 l p (gap (num x * den y) (num y * den x)) (den x * den y) r) (sym (sub_sum x y px py)) (unfold sum in (go (ltb (num x * den y) (num y * den x)) (ltb→lt (num x * den y) (num y * den x)) (nltb→le (num x * den y) (num y * den x))))
    where
      less : (a b : ℕ) → a < b → b - a ≡ gap a b
      less a b h = omega arith

      more : (a b : ℕ) → b ≤ a → a - b ≡ gap a b
      more a b h = omega arith

      go : (u : Bool) → (T u → num x * den y < num y * den x) → (T (not u) → num y * den x ≤ num x * den y)
          → Near 1 l p (gap (num x * den y) (num y * den x)) (den x * den y) (cond u (round binary64 true (num y * den x - num x * den y) (den x * den y)) (round binary64 (false && ltb (num y * den x) (num x * den y)) (num x * den y - num y * den x) (den x * den y)))
      go true f g = part true (num y * den x - num x * den y) (less (num x * den y) (num y * den x) (f tt))
      go false f g = part false (num x * den y - num y * den x) (more (num x * den y) (num y * den x) (g tt))

-- ---- the same exact fraction under another name
pub near_frac : {k l p : ℕ} {x : Float} (A B A' B' : ℕ) → 0 < B → A * B' ≡ A' * B → Near k l p A B x → Near k l p A' B' x
near_frac A B A' B' D e h = record { fine = h.fine; low = h.low; high = h.high; close = close_frac A B A' B' D e h.close }

-- and one that it is up to so many roundings
pub near_from : {k i l p A B : ℕ} {x : Float} (A' B' : ℕ) → 0 < B → Close i A' B' A B → Near k l p A B x → Near (k + i) l p A' B' x
near_from A' B' D c h = record { fine = h.fine; low = h.low; high = h.high; close = close_trans D h.close c }

-- ---- a value of the same size
pub near_same : {k l p A B : ℕ} {x : Float} (y : Float) → T (finite y) → num x * den y ≡ num y * den x → Near k l p A B x → Near k l p A B y
near_same {k} {l} {p} {A} {B} {x} y f e h = record {
  fine = f;
  low = low h.low;
  high = high (num x) (den x) (num y) (den y) (2 ^ p) (den_pos x) e h.high;
  close = close_value (num x) (den x) (num y) (den y) (den_pos x) e h.close;
}
  where
    low : Above l (num x) (den x) → Above l (num y) (den y)
    low (none z) = none (eq_of_mul-eq-mul_right (den x) (den_pos x) (num y) 0 (sym e ∙ ap (λ (n : ℕ). n * den y) z ∙ zero-mul (den y) ∙ sym (zero-mul (den x))))
    low (some u) = some (go (num x) (den x) (num y) (den y) (2 ^ l) (den_pos x) e u)
      where
        go : (n d m c K : ℕ) → 0 < d → n * c ≡ m * d → d ≤ n * K → c ≤ m * K
        go n d m c K D e h = le_of_mul-le-mul_right (le_trans (mul-le-mul_left c h) (le_of_eq (mul_left_comm c n K ∙ sym (mul_assoc n c K) ∙ ap (λ (z : ℕ). z * K) e ∙ mul_right_comm m d K))) D

    high : (n d m c K : ℕ) → 0 < d → n * c ≡ m * d → n ≤ K * d → m ≤ K * c
    high n d m c K D e h = le_of_mul-le-mul_right (le_trans (le_of_eq (sym e)) (le_trans (mul-le-mul_right c h) (le_of_eq (mul_right_comm K d c)))) D
