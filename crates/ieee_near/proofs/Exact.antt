-- What is exact: a doubling, a product with 1 or with a zero, a quotient by 1, a sum with a zero on either side. Assumes nothing.
use mathlib.Core.Path.{◌≡◌, refl, sym, ap, ap₂, ◌∙◌, subst}
use Prim.Native.Nat.{ℕ, suc, ◌+◌, ◌-◌, ◌*◌, ◌^◌, ◌≤◌, ◌<◌}
use native.Mathlib.Nat.{le_trans, le_of_eq, lt_of_le_of_lt, zero-mul, mul-zero, zero-add, sub-zero, mul-one, one-mul, mul_comm, mul_assoc, mul_left_comm, mul_right_comm, mul-le-mul_left, mul-le-mul_right, le_of_mul-le-mul_right, eq_of_mul-eq-mul_right, mul-pos, pow-succ'}
use native.Mathlib.Omega.{arith}
use mathlib.Core.Bool.{Bool, true, false, not, ◌&&◌, beq, cond}
use lib.Dec.{T, ltb, nltb→le, lit≤}
use lib.Pow.{pow_mono}
use lib.Ieee.{Float, nan, inf, fin, binary64, unlike, round, sum, fits, eq, of_bits}
use lib.Ieee.Scale.{finite, round_same}
use lib.Ieee.Exact.{HasValue, round_exact}
use lib.Ieee.Positive.{num, den, den_pos}
use Rattle.ieee.specs.Operators.{◌⊕◌, ◌⊖◌, ◌⊗◌, ◌⊘◌}
use Rattle.ieee.specs.Functions.{zero_f, one, two}
use Rattle.ieee.specs.Range.{sgn, plus, Mag, In}
use Rattle.ieee.proofs.Range.Round.{value_cross, value_finite}
use Rattle.ieee.proofs.Range.Values.{whole, unique, round_itself}
use Rattle.ieee.proofs.Range.Zero.{zero_num, add_zero_same}
use Rattle.ieee.proofs.Range.Laws.{plus_finite, plus_sgn, mul_is, add_is, sub_is, div_is, neg_mag}
use Rattle.ieee.proofs.Range.FromZero.{equals_zero}
use Rattle.ieee_near.specs.Near.{Above, none, some, Near}
use Rattle.ieee_near.proofs.Close.{close_self, close_value}
use Rattle.ieee_near.proofs.Laws.{a_zero, fits_zero, rounds_zero}

-- ---- a doubling
pub near_twice : {l p : ℕ} (x : Float) → T (fits binary64 x) → Near 0 l p (num x) (den x) x → p ≤ 1022 → Near 0 l (suc p) (num x * 2) (den x * 1) (x ⊗ two)
unfolding of_bits
near_twice {l} {p} x h n b =
    let w = whole binary64 x n.fine h in
    let s = unlike (sgn x) false in
    let r = round binary64 s (num x * 2) (den x * 1) in
    let v : HasValue r s (num x * 2) (den x * 1) =
    round_exact binary64 s (num x * 2) (den x * 1) w.m (suc w.j) (mul-pos (den_pos x) (lit≤ tt)) w.few (room w.m w.j w.is) (same (num x) (2 ^ 1074) w.m w.j (den x) w.is) in
    let e : num r * (den x * 1) ≡ num x * 2 * den r = value_cross r s (num x * 2) (den x * 1) v in
    subst (λ (y : Float). Near 0 l (suc p) (num x * 2) (den x * 1) y) (sym (mul_is x two n.fine tt))
    (record {
      fine = value_finite r s (num x * 2) (den x * 1) v;
      low = low (num x) (den x) (num r) (den r) (den_pos x) e n.low;
      high = high (num x) (den x) (num r) (den r) (2 ^ p) (2 ^ suc p) (den_pos x) (pow-succ' 2 p) e n.high;
      close = close_value (num x * 2) (den x * 1) (num r) (den r) (mul-pos (den_pos x) (lit≤ tt)) (sym e) (close_self (num x * 2) (den x * 1));
    })
  where
    same : (n K m j d : ℕ) → n * K ≡ m * 2 ^ j * d → n * 2 * K ≡ m * 2 ^ suc j * (d * 1)
    same n K m j d e = mul_right_comm n 2 K ∙ ap (λ (z : ℕ). z * 2) e ∙ rw (pow-succ' 2 j, mul-one d) (again m (2 ^ j) d)
      where
        again : (m J d : ℕ) → m * J * d * 2 ≡ m * (2 * J) * d
        again m J d = omega arith

    room : (m j : ℕ) → num x * 2 ^ 1074 ≡ m * 2 ^ j * den x → m * 2 ^ suc j < 2 ^ (1074 + 1024)
    room m j e =
        lt_of_le_of_lt
        (le_trans (le_of_eq (ap (λ (z : ℕ). m * z) (pow-succ' 2 j) ∙ mul_left_comm m 2 (2 ^ j)))
        (mul-le-mul_left 2 (under (num x) (den x) (2 ^ 1074) (m * 2 ^ j) (2 ^ 1022) (den_pos x) (le_trans n.high (mul-le-mul_right (den x) (pow_mono b))) e)))
        (lit≤ {m = suc (2 * (2 ^ 1022 * 2 ^ 1074))} {n = 2 ^ (1074 + 1024)} tt)
      where
        under : (n d K y P : ℕ) → 0 < d → n ≤ P * d → n * K ≡ y * d → y ≤ P * K
        under n d K y P D h e = le_of_mul-le-mul_right (le_trans (le_of_eq (sym e)) (le_trans (mul-le-mul_right K h) (le_of_eq (mul_right_comm P d K)))) D

    low : (n d m c : ℕ) → 0 < d → m * (d * 1) ≡ n * 2 * c → Above l n d → Above l m c
    low n d m c D e (none z) = none (nought m d D (e ∙ ap (λ (y : ℕ). y * 2 * c) z ∙ zero-mul c))
      where
        nought : (m d : ℕ) → 0 < d → m * (d * 1) ≡ 0 → m ≡ 0
        nought m d D e = eq_of_mul-eq-mul_right d D m 0 (ap (λ (y : ℕ). m * y) (sym (mul-one d)) ∙ e ∙ sym (zero-mul d))
    low n d m c D e (some h) = some (more n d m c (2 ^ l) D (ap (λ (y : ℕ). m * y) (sym (mul-one d)) ∙ e) h)
      where
        more : (n d m c L : ℕ) → 0 < d → m * d ≡ n * 2 * c → d ≤ n * L → c ≤ m * L
        more n d m c L D e h =
            le_of_mul-le-mul_right
            (le_trans (mul-le-mul_left c h) (le_trans (twofold (c * (n * L))) (le_of_eq (order c n L ∙ ap (λ (y : ℕ). y * L) (sym e) ∙ mul_right_comm m d L)))) D
          where
            twofold : (y : ℕ) → y ≤ y * 2
            twofold y = omega arith

            order : (c n L : ℕ) → c * (n * L) * 2 ≡ n * 2 * c * L
            order c n L = omega arith

    high : (n d m c P Q : ℕ) → 0 < d → Q ≡ 2 * P → m * (d * 1) ≡ n * 2 * c → n ≤ P * d → m ≤ Q * c
    high n d m c P Q D q e h =
        le_of_mul-le-mul_right
        (le_trans (le_of_eq (ap (λ (y : ℕ). m * y) (sym (mul-one d)) ∙ e)) (le_trans (mul-le-mul_right c (mul-le-mul_right 2 h)) (le_of_eq (order P d c ∙ ap (λ (y : ℕ). y * c * d) (sym q))))) D
      where
        order : (P d c : ℕ) → P * d * 2 * c ≡ 2 * P * c * d
        order P d c = omega arith

-- a fraction that is x's, with the sign clear
itself : (x : Float) → T (plus x) → T (fits binary64 x) → (n d : ℕ) → 0 < d → n * den x ≡ num x * d → round binary64 false n d ≡ x
itself x p h n d D e =
    round_same binary64 false n d (num x) (den x) D (den_pos x) e
    ∙ ap (λ (s : Bool). round binary64 s (num x) (den x)) (sym (plus_sgn x p)) ∙ round_itself binary64 x (plus_finite x p) h

pub mul_one_same : (x : Float) → T (plus x) → T (fits binary64 x) → x ⊗ one ≡ x
unfolding of_bits
mul_one_same x p h =
    mul_is x one (plus_finite x p) tt ∙ ap (λ (s : Bool). round binary64 (unlike s false) (num x * 1) (den x * 1)) (plus_sgn x p)
    ∙ itself x p h (num x * 1) (den x * 1) (mul-pos (den_pos x) (lit≤ tt)) (ap₂ ◌*◌ (mul-one (num x)) (sym (mul-one (den x))))

pub one_mul_same : (x : Float) → T (plus x) → T (fits binary64 x) → one ⊗ x ≡ x
unfolding of_bits
one_mul_same x p h =
    mul_is one x tt (plus_finite x p) ∙ ap (λ (s : Bool). round binary64 (unlike false s) (1 * num x) (1 * den x)) (plus_sgn x p)
    ∙ itself x p h (1 * num x) (1 * den x) (mul-pos (lit≤ tt) (den_pos x)) (ap₂ ◌*◌ (one-mul (num x)) (sym (one-mul (den x))))

pub div_one_same : (x : Float) → T (plus x) → T (fits binary64 x) → x ⊘ one ≡ x
unfolding of_bits
div_one_same x p h =
    div_is x one (plus_finite x p) tt (lit≤ tt) ∙ ap (λ (s : Bool). round binary64 (unlike s false) (num x * 1) (1 * den x)) (plus_sgn x p)
    ∙ itself x p h (num x * 1) (1 * den x) (mul-pos (lit≤ tt) (den_pos x)) (ap₂ ◌*◌ (mul-one (num x)) (sym (one-mul (den x))))

pub sub_zero_same : {z : Float} (x : Float) → T (plus x) → T (fits binary64 x) → Mag 0 0 z → x ⊖ z ≡ x
sub_zero_same {z} x p h g = sub_is x z ∙ add_zero_same x p h (neg_mag g)

pub zero_add_same : {z : Float} (x : Float) → T (plus x) → T (fits binary64 x) → Mag 0 0 z → z ⊕ x ≡ x
zero_add_same {z} x p h g =
    add_is z x g.fine (plus_finite x p)
    ∙ ap₂ (λ (n : ℕ) (t : Bool). sum binary64 (sgn z) n t (num x * den z) (den z * den x)) (ap (λ (n : ℕ). n * den x) (zero_num g) ∙ zero-mul (den x)) (plus_sgn x p)
    ∙ alone (sgn z) (num x * den z) (den z * den x)
    ∙ itself x p h (num x * den z) (den z * den x) (mul-pos (den_pos z) (den_pos x)) (simp (mul_assoc, mul_comm, mul_left_comm))
  where
    alone : (s : Bool) (n c : ℕ) → sum binary64 s 0 false n c ≡ round binary64 false n c
    alone s n c = unfold sum in at s (ltb 0 n) (nltb→le 0 n)
      where
        at : (s u : Bool) → (T (not u) → n ≤ 0) → cond (beq s false) (round binary64 s (0 + n) c) (cond u (round binary64 false (n - 0) c) (round binary64 (s && ltb n 0) (0 - n) c)) ≡ round binary64 false n c
        at false u f = ap (λ (m : ℕ). round binary64 false m c) (zero-add n)
        at true true f = ap (λ (m : ℕ). round binary64 false m c) (sub-zero n)
        at true false f = nought n (f tt)
          where
            nought : (n : ℕ) → n ≤ 0 → round binary64 (true && ltb n 0) (0 - n) c ≡ round binary64 false n c
            nought n h = let e : n ≡ 0 = omega arith in ap (λ (m : ℕ). round binary64 (true && ltb m 0) (0 - m) c) e ∙ ap (λ (m : ℕ). round binary64 false m c) (sym e)

-- ---- zeros of either sign
pub is_zero : (x : Float) → T (fits binary64 x) → T (eq x zero_f) → (s : Bool) × (x ≡ a_zero s)
is_zero x h t = let m = equals_zero x t in go x h m.fine (zero_num m)
  where
    go : (x : Float) → T (fits binary64 x) → T (finite x) → num x ≡ 0 → (s : Bool) × (x ≡ a_zero s)
    go nan h f e = absurd f
    go (inf s) h f e = absurd f
    go (fin s m k) h f e = (s, unique binary64 (fin s m k) (a_zero s) s 0 1 (lit≤ tt) h (fits_zero s) (refl, ap (λ (n : ℕ). n * 1) e ∙ flat (den (fin s m k))) (refl, refl))
      where
        flat : (d : ℕ) → 0 * 1 ≡ 0 * d
        flat d = omega arith

pub times_zero : (x : Float) (s : Bool) → T (plus x) → x ⊗ a_zero s ≡ a_zero s
times_zero x s p =
    mul_is x (a_zero s) (plus_finite x p) tt ∙ ap (λ (n : ℕ). round binary64 (unlike (sgn x) s) n (den x * 1)) (mul-zero (num x)) ∙ rounds_zero (unlike (sgn x) s) (den x * 1) (mul-pos (den_pos x) (lit≤ tt))
    ∙ ap (λ (t : Bool). a_zero (unlike t s)) (plus_sgn x p) ∙ same s
  where
    same : (s : Bool) → a_zero (unlike false s) ≡ a_zero s
    same true = refl
    same false = refl

pub zero_over : (x : Float) (s : Bool) → In 1 0 4 0 x → a_zero s ⊘ x ≡ a_zero s
zero_over x s h =
    div_is (a_zero s) x tt (plus_finite x h.sign) (x_pos (num x) (den x) (den_pos x) h.least) ∙ ap (λ (n : ℕ). round binary64 (unlike s (sgn x)) n (num x * 1)) (zero-mul (den x))
    ∙ rounds_zero (unlike s (sgn x)) (num x * 1) (mul-pos (x_pos (num x) (den x) (den_pos x) h.least) (lit≤ tt)) ∙ ap (λ (t : Bool). a_zero (unlike s t)) (plus_sgn x h.sign) ∙ same s
  where
    x_pos : (n d : ℕ) → 0 < d → 1 * d ≤ n * 1 → 0 < n
    x_pos n d g h = omega arith

    same : (s : Bool) → a_zero (unlike s false) ≡ a_zero s
    same true = refl
    same false = refl
