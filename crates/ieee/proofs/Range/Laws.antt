-- Ranges of an f64, over whole numbers, with one law for each operation.
-- `Mag p j x`: x is finite and |x| ≤ p / 2 ^ j. `In a i p j x`: besides, x's sign is clear and a / 2 ^ i ≤ x.
-- A law takes the operands' ranges and one test on whole numbers, which computes to `tt` where the bounds are numerals. The result's bounds are read off the statement to be shown. Assumes nothing.
use mathlib.Core.Path.{◌≡◌, refl, sym, ap, ◌∙◌, subst}
use Prim.Native.Nat.{ℕ, ◌+◌, ◌-◌, ◌*◌, ◌^◌, ◌≤◌, ◌<◌}
use native.Mathlib.Nat.{le_trans, le_of_eq, lt_of_lt_of_le, mul-one, one-mul, mul_comm, mul_assoc, mul_left_comm, mul-le-mul, mul-le-mul_left, mul-pos}
use native.Mathlib.Omega.{arith}
use mathlib.Core.Bool.{Bool, true, false, ◌&&◌, beq, cond}
use lib.Dec.{T, ltb, leb, eqb, eqb→eq, ltb→lt, leb→le, lit≤}
use lib.Pow.{pow_pos, pow-lt}
use lib.Ieee.{Float, nan, inf, fin, binary64, unlike, up, down, round, neg, sum, add, sub, mul, div}
use lib.Ieee.Fits.{and_l, and_r}
use lib.Ieee.Scale.{finite}
use lib.Ieee.Positive.{num, den, den_pos, through, first_pos}
use Rattle.ieee.specs.Functions.{abs}
use Rattle.ieee.specs.Range.{sgn, plus, Mag, In, Size, Rep, holds, wider, at_most, at_least, magb, inb}
use Rattle.ieee.proofs.Range.Round.{round_most, round_least, round_plus}

-- ---- which bounds an f64 holds. A numeral below 2 ^ 53 over a power of two, or a power of two
small_under : (p j : ℕ) → p < 2 ^ 53 → p < 2 ^ 1024 * 2 ^ j
small_under p j h = lt_of_lt_of_le h (le_trans (lit≤ {m = 2 ^ 53} {n = 2 ^ 1024 * 1} tt) (mul-le-mul_left (2 ^ 1024) (pow_pos j)))

pub rep_small : (p j : ℕ) → T (holds p j) → Rep binary64 p j
rep_small p j t =
    let few : p < 2 ^ 53 = ltb→lt p (2 ^ 53) (and_l (ltb p (2 ^ 53)) (leb j 1074) t) in
    record { q = p; i = 0; few = few; is = sym (mul-one p); deep = leb→le j 1074 (and_r (ltb p (2 ^ 53)) (leb j 1074) t); under = small_under p j few }

pub rep_pow : (k : ℕ) → k ≤ 1023 → Rep binary64 (2 ^ k) 0
rep_pow k h = record { q = 1; i = k; few = lit≤ tt; is = sym (one-mul (2 ^ k)); deep = lit≤ tt; under = lt_of_lt_of_le (pow-lt (suc_up k h)) (le_of_eq (sym (mul-one (2 ^ 1024)))) }
  where
    suc_up : (k : ℕ) → k ≤ 1023 → k < 1024
    suc_up k h = omega arith

pub plus_finite : (x : Float) → T (plus x) → T (finite x)
plus_finite nan p = absurd p
plus_finite (inf s) p = absurd p
plus_finite (fin s m e) p = tt

pub in_mag : {a i p j : ℕ} {x : Float} → In a i p j x → Mag p j x
in_mag {x = x} h = record { fine = plus_finite x h.sign; most = h.most }

pub in_size : {a i p j : ℕ} {x : Float} → In a i p j x → Size a i p j x
in_size {x = x} h = record { fine = plus_finite x h.sign; least = h.least; most = h.most }

pub zero_under : (d n : ℕ) → 0 * d ≤ n
zero_under d n = omega arith

-- ---- a constant's range is a test
pub mag_lit : {p j : ℕ} (x : Float) → T (magb p j x) → Mag p j x
mag_lit {p} {j} x t = record { fine = and_l (finite x) (leb (num x * 2 ^ j) (p * den x)) t; most = leb→le (num x * 2 ^ j) (p * den x) (and_r (finite x) (leb (num x * 2 ^ j) (p * den x)) t) }

pub in_lit : {a i p j : ℕ} (x : Float) → T (inb a i p j x) → In a i p j x
in_lit {a} {i} {p} {j} x t =
    let A = leb (a * den x) (num x * 2 ^ i) in
    let P = leb (num x * 2 ^ j) (p * den x) in
    let u = and_r (plus x) (A && P) t in
    record { sign = and_l (plus x) (A && P) t; least = leb→le (a * den x) (num x * 2 ^ i) (and_l A P u); most = leb→le (num x * 2 ^ j) (p * den x) (and_r A P u) }

-- ---- wider bounds: p / 2 ^ j ≤ q / 2 ^ k
up_to : (n d p j q k : ℕ) → T (wider p j q k) → n * 2 ^ j ≤ p * d → n * 2 ^ k ≤ q * d
up_to n d p j q k t h = through n p q d (2 ^ j) (2 ^ k) (pow_pos j) h (leb→le (p * 2 ^ k) (q * 2 ^ j) t)

down_to : (n d a i b k : ℕ) → T (wider b k a i) → a * d ≤ n * 2 ^ i → b * d ≤ n * 2 ^ k
down_to n d a i b k t h = through b a n (2 ^ k) (2 ^ i) d (pow_pos i) (leb→le (b * 2 ^ i) (a * 2 ^ k) t) h

pub mag_up : {p j q k : ℕ} {x : Float} → Mag p j x → T (wider p j q k) → Mag q k x
mag_up {p} {j} {q} {k} {x} h t = record { fine = h.fine; most = up_to (num x) (den x) p j q k t h.most }

pub in_up : {a i p j b k q l : ℕ} {x : Float} → In a i p j x → T (wider b k a i && wider p j q l) → In b k q l x
in_up {a} {i} {p} {j} {b} {k} {q} {l} {x} h t = record {
  sign = h.sign;
  least = down_to (num x) (den x) a i b k (and_l (wider b k a i) (wider p j q l) t) h.least;
  most = up_to (num x) (den x) p j q l (and_r (wider b k a i) (wider p j q l) t) h.most;
}

-- ---- a rounded fraction N / D, known to be at most P / Q, and at least A / B
at_most_le : (P Q p j : ℕ) → T (at_most P Q p j) → P * 2 ^ j ≤ p * Q
at_most_le P Q p j t = leb→le (P * 2 ^ j) (p * Q) (and_l (leb (P * 2 ^ j) (p * Q)) (holds p j) t)

at_most_rep : (P Q p j : ℕ) → T (at_most P Q p j) → Rep binary64 p j
at_most_rep P Q p j t = rep_small p j (and_r (leb (P * 2 ^ j) (p * Q)) (holds p j) t)

at_least_le : (A B a i : ℕ) → T (at_least A B a i) → a * B ≤ A * 2 ^ i
at_least_le A B a i t = leb→le (a * B) (A * 2 ^ i) (and_l (leb (a * B) (A * 2 ^ i)) (holds a i) t)

at_least_rep : (A B a i : ℕ) → T (at_least A B a i) → Rep binary64 a i
at_least_rep A B a i t = rep_small a i (and_r (leb (a * B) (A * 2 ^ i)) (holds a i) t)

-- by a bound that an f64 holds, however that is known
pub round_rep : (s : Bool) (N D p j : ℕ) → 0 < D → Rep binary64 p j → N * 2 ^ j ≤ p * D → Mag p j (round binary64 s N D)
round_rep s N D p j D0 r h =
    let g = round_most binary64 N D p j D0 r h s in
    record { fine = g.0; most = g.1 }

pub round_mag : (s : Bool) (N D P Q p j : ℕ) → 0 < D → 0 < Q → N * Q ≤ P * D → T (at_most P Q p j) → Mag p j (round binary64 s N D)
round_mag s N D P Q p j D0 Q0 h t = round_rep s N D p j D0 (at_most_rep P Q p j t) (through N P p D Q (2 ^ j) Q0 h (at_most_le P Q p j t))

pub round_in : (N D A B P Q a i p j : ℕ) → 0 < D → 0 < B → 0 < Q → A * D ≤ N * B → N * Q ≤ P * D → T (at_least A B a i && at_most P Q p j) → In a i p j (round binary64 false N D)
round_in N D A B P Q a i p j D0 B0 Q0 l h t =
    let u = and_l (at_least A B a i) (at_most P Q p j) t in
    let g = round_mag false N D P Q p j D0 Q0 h (and_r (at_least A B a i) (at_most P Q p j) t) in
    record {
      sign = round_plus binary64 N D g.fine;
      least = round_least binary64 N D a i D0 (at_least_rep A B a i u) (through a A N (2 ^ i) B D B0 (at_least_le A B a i u) l) g.fine;
      most = g.most;
    }

-- ---- each operation as a fraction that is rounded
pub mul_is : (x y : Float) → T (finite x) → T (finite y) → mul binary64 x y ≡ round binary64 (unlike (sgn x) (sgn y)) (num x * num y) (den x * den y)
unfolding mul
mul_is nan y p q = absurd p
mul_is (inf s) y p q = absurd p
mul_is (fin s m e) nan p q = absurd q
mul_is (fin s m e) (inf t) p q = absurd q
mul_is (fin s m e) (fin t n d) p q = refl

pub add_is : (x y : Float) → T (finite x) → T (finite y) → add binary64 x y ≡ sum binary64 (sgn x) (num x * den y) (sgn y) (num y * den x) (den x * den y)
unfolding add
add_is nan y p q = absurd p
add_is (inf s) y p q = absurd p
add_is (fin s m e) nan p q = absurd q
add_is (fin s m e) (inf t) p q = absurd q
add_is (fin s m e) (fin t n d) p q = refl

pub sub_is : (x y : Float) → sub binary64 x y ≡ add binary64 x (neg y)
unfolding sub
sub_is x y = refl

-- whatever the signs, the size of a sum ±a / c ± b / c before it is rounded is no more than (a + b) / c
pub sum_any : (P : Float → Type 0) (s : Bool) (a : ℕ) (t : Bool) (b c : ℕ) → ((s : Bool) (n : ℕ) → n ≤ a + b → P (round binary64 s n c)) → P (sum binary64 s a t b c)
unfolding sum
sum_any P s a t b c f = go (beq s t) (ltb a b)
  where
    less : (a b : ℕ) → a - b ≤ a + b
    less a b = omega arith

    less' : (a b : ℕ) → b - a ≤ a + b
    less' a b = omega arith

    go : (u v : Bool) → P (cond u (round binary64 s (a + b) c) (cond v (round binary64 t (b - a) c) (round binary64 (s && ltb b a) (a - b) c)))
    go true v = f s (a + b) (le_of_eq refl)
    go false true = f t (b - a) (less' a b)
    go false false = f (s && ltb b a) (a - b) (less a b)

not_zero : (n : ℕ) → 0 < n → (b : Bool) → (T b → n ≡ 0) → T b → ⊥
not_zero n h b f t = go (f t)
  where
    go : n ≡ 0 → ⊥
    go e = omega arith

pub div_is : (x y : Float) → T (finite x) → T (finite y) → 0 < num y → div binary64 x y ≡ round binary64 (unlike (sgn x) (sgn y)) (num x * den y) (num y * den x)
unfolding div
div_is nan y p q h = absurd p
div_is (inf s) y p q h = absurd p
div_is (fin s m e) nan p q h = absurd q
div_is (fin s m e) (inf t) p q h = absurd q
div_is (fin s m e) (fin t n d) p q h = go (eqb n 0) (not_zero n (first_pos n (up d) h) (eqb n 0) (eqb→eq n 0))
  where
    go : (b : Bool) → (T b → ⊥) → cond b (cond (eqb m 0) nan (inf (unlike s t))) (round binary64 (unlike s t) (m * up e * down d) (n * up d * down e)) ≡ round binary64 (unlike s t) (m * up e * down d) (n * up d * down e)
    go true f = absurd (f tt)
    go false f = refl

pub plus_sgn : (x : Float) → T (plus x) → sgn x ≡ false
plus_sgn nan p = absurd p
plus_sgn (inf s) p = absurd p
plus_sgn (fin true m e) p = absurd p
plus_sgn (fin false m e) p = refl

-- ---- neg and abs
pub neg_mag : {p j : ℕ} {x : Float} → Mag p j x → Mag p j (neg x)
unfolding neg
neg_mag {p} {j} {x} h = go x h.fine h.most
  where
    go : (x : Float) → T (finite x) → num x * 2 ^ j ≤ p * den x → Mag p j (neg x)
    go nan a b = absurd a
    go (inf s) a b = absurd a
    go (fin s m e) a b = record { fine = tt; most = b }

pub neg_size : {a i p j : ℕ} {x : Float} → Size a i p j x → Size a i p j (neg x)
unfolding neg
neg_size {a} {i} {p} {j} {x} h = go x h.fine h.least h.most
  where
    go : (x : Float) → T (finite x) → a * den x ≤ num x * 2 ^ i → num x * 2 ^ j ≤ p * den x → Size a i p j (neg x)
    go nan a b c = absurd a
    go (inf s) a b c = absurd a
    go (fin s m e) a b c = record { fine = tt; least = b; most = c }

pub abs_in : {p j : ℕ} {x : Float} → Mag p j x → In 0 0 p j (abs x)
unfolding abs
abs_in {p} {j} {x} h = go x h.fine h.most
  where
    go : (x : Float) → T (finite x) → num x * 2 ^ j ≤ p * den x → In 0 0 p j (abs x)
    go nan a b = absurd a
    go (inf s) a b = absurd a
    go (fin s m e) a b = record { sign = tt; least = zero_under (down e) (m * up e * 1); most = b }

-- ---- the product
ac_mul : (X dx Y dy a A b B : ℕ) → X * a ≤ A * dx → Y * b ≤ B * dy → X * Y * (a * b) ≤ A * B * (dx * dy)
ac_mul X dx Y dy a A b B h k = simp (mul_assoc, mul_comm, mul_left_comm) (simp (mul_assoc, mul_comm, mul_left_comm) at (mul-le-mul h k))

ac_mul' : (X dx Y dy a A b B : ℕ) → A * dx ≤ X * a → B * dy ≤ Y * b → A * B * (dx * dy) ≤ X * Y * (a * b)
ac_mul' X dx Y dy a A b B h k = simp (mul_assoc, mul_comm, mul_left_comm) (simp (mul_assoc, mul_comm, mul_left_comm) at (mul-le-mul h k))

pub mul_mag : {p j q k r l : ℕ} {x y : Float} → Mag p j x → Mag q k y → T (at_most (p * q) (2 ^ j * 2 ^ k) r l) → Mag r l (mul binary64 x y)
mul_mag {p} {j} {q} {k} {r} {l} {x} {y} h g t =
    subst (λ (z : Float). Mag r l z) (sym (mul_is x y h.fine g.fine))
    (round_mag (unlike (sgn x) (sgn y)) (num x * num y) (den x * den y) (p * q) (2 ^ j * 2 ^ k) r l (mul-pos (den_pos x) (den_pos y)) (mul-pos (pow_pos j) (pow_pos k))
    (ac_mul (num x) (den x) (num y) (den y) (2 ^ j) p (2 ^ k) q h.most g.most) t)

pub mul_in : {a i p j b k q l c m r n : ℕ} {x y : Float} → In a i p j x → In b k q l y → T (at_least (a * b) (2 ^ i * 2 ^ k) c m && at_most (p * q) (2 ^ j * 2 ^ l) r n) → In c m r n (mul binary64 x y)
mul_in {a} {i} {p} {j} {b} {k} {q} {l} {c} {m} {r} {n} {x} {y} h g t =
    subst (λ (z : Float). In c m r n z)
    (sym (mul_is x y (plus_finite x h.sign) (plus_finite y g.sign) ∙ ap (λ (s : Bool). round binary64 (unlike s (sgn y)) (num x * num y) (den x * den y)) (plus_sgn x h.sign) ∙ ap (λ (s : Bool). round binary64 (unlike false s) (num x * num y) (den x * den y)) (plus_sgn y g.sign)))
    (round_in (num x * num y) (den x * den y) (a * b) (2 ^ i * 2 ^ k) (p * q) (2 ^ j * 2 ^ l) c m r n (mul-pos (den_pos x) (den_pos y)) (mul-pos (pow_pos i) (pow_pos k)) (mul-pos (pow_pos j) (pow_pos l))
    (ac_mul' (num x) (den x) (num y) (den y) (2 ^ i) a (2 ^ k) b h.least g.least)
    (ac_mul (num x) (den x) (num y) (den y) (2 ^ j) p (2 ^ l) q h.most g.most) t)

-- ---- a square: its sign is clear
beq_self : (s : Bool) → unlike s s ≡ false
beq_self true = refl
beq_self false = refl

pub sq_in : {p j r n : ℕ} {x : Float} → Mag p j x → T (at_most (p * p) (2 ^ j * 2 ^ j) r n) → In 0 0 r n (mul binary64 x x)
sq_in {p} {j} {r} {n} {x} h t =
    subst (λ (z : Float). In 0 0 r n z)
    (sym (mul_is x x h.fine h.fine ∙ ap (λ (s : Bool). round binary64 s (num x * num x) (den x * den x)) (beq_self (sgn x))))
    (round_in (num x * num x) (den x * den x) 0 1 (p * p) (2 ^ j * 2 ^ j) 0 0 r n (mul-pos (den_pos x) (den_pos x)) (pow_pos 0) (mul-pos (pow_pos j) (pow_pos j))
    (zero_under (den x * den x) (num x * num x * 1))
    (ac_mul (num x) (den x) (num x) (den x) (2 ^ j) p (2 ^ j) p h.most h.most) t)
