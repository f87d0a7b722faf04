-- The operations in counts of 2 ^ -1074: each result is off by half of its last place at most, 2 ^ e for a result below 2 ^ (54 + e) of the unit. Assumes nothing.
use mathlib.Core.Path.{◌≡◌, refl, sym, ap, ap₂, ◌∙◌, subst}
use Prim.Native.Nat.{ℕ, zero, suc, ◌+◌, ◌-◌, ◌*◌, ◌^◌, ◌≤◌, ◌<◌}
use native.Mathlib.Nat.{le_trans, le_of_eq, lt_of_lt_of_le, lt_of_le_of_lt, mul_comm, mul_assoc, mul_left_comm, mul_right_comm, mul-le-mul_right, mul-lt-mul_of_pos_right, lt_of_mul-lt-mul_right, le_of_mul-le-mul_right, mul-pos, pow-succ', not-le_of_lt, lt_of_not-le, le_of_lt, add_comm}
use native.Mathlib.Decide.{dec_le}
use native.Mathlib.Omega.{arith}
use mathlib.Core.Bool.{Bool, true, false, not, cond}
use lib.Dec.{T, ltb, ltb→lt, nltb→le, lit≤}
use lib.Pow.{pow_pos, pow-add, pow_mono}
use lib.Ieee.{Float, inf, binary64, unlike, odd, units, round, sum, fits}
use lib.Ieee.Fits.{round_is, round-fits}
use lib.Ieee.Order.{drop, kept}
use lib.Ieee.Scale.{finite}
use lib.Ieee.Positive.{num, den, den_pos}
use Rattle.ieee.specs.Operators.{◌⊕◌, ◌⊖◌, ◌⊗◌, ◌⊘◌}
use Rattle.ieee.specs.Range.{sgn, plus}
use Rattle.ieee.specs.Count.{count}
use Rattle.ieee.proofs.Count.{count_is}
use Rattle.ieee.proofs.Range.Laws.{plus_sgn, rep_pow, round_rep, mul_is, add_is, div_is}
use Rattle.ieee.proofs.Range.Relative.{relative}
use Rattle.ieee.proofs.Range.Sums.{sub_sum}
use Rattle.near_abs.specs.Off.{Within}
use Rattle.ieee_near.specs.Index.{gap}
use Rattle.near_abs.proofs.Within.{times, untimes, known, widen}
use Rattle.ieee.proofs.Half.{half_units}

abbrev pub U : ℕ
U = 2 ^ 1074

-- ---- a rounding: |r - a / c| in counts
finite_of : (s : Bool) (a c e : ℕ) → e ≤ 1100 → 0 < c → a * U < 2 ^ (53 + suc e) * c → T (finite (round binary64 s a c))
finite_of s a c e m C h =
    (round_rep s a c (2 ^ 80) 0 C (rep_pow 80 (lit≤ tt))
    (go a c (2 ^ (53 + suc e)) U (2 ^ 80) (pow_pos 1074) (le_trans (pow_mono (more e m)) (le_of_eq (pow-add 2 80 1074))) h)
    ).fine
  where
    more : (e : ℕ) → e ≤ 1100 → 53 + suc e ≤ 80 + 1074
    more e m = omega (arith, m)

    go : (a c P u Q : ℕ) → 0 < u → P ≤ Q * u → a * u < P * c → a * 1 ≤ Q * c
    go a c P u Q u0 l h =
        let x : P * c ≤ Q * u * c = mul-le-mul_right c l in
        let y : a * 1 * u ≤ Q * c * u = omega (arith, x, h) in
        le_of_mul-le-mul_right y u0

pub record Rounded (a c e : ℕ) (r : Float) : Type 0 where
  pub fine : T (finite r)
  pub off : Within (2 ^ e * c) (count r * c) (a * U)

pub rounded : (s : Bool) (a c e : ℕ) → e ≤ 1100 → 0 < c → a * U < 2 ^ (53 + suc e) * c → Rounded a c e (round binary64 s a c)
rounded s a c e m C h =
    let r = round binary64 s a c in
    let f = finite_of s a c e m C h in
    let q = half_units binary64 s a c (suc e) C h (finite_of false a c e m C h) in
    let k = count_is r (round-fits binary64 s a c) f in
    let p : 2 ^ suc e ≡ 2 * 2 ^ e = pow-succ' 2 e in
    record {
      fine = f;
      off =
          untimes (2 ^ e * c) (count r * c) (a * U) (den r) (den_pos r)
          (go (num r) (den r) (count r) a c U (2 ^ e) k
          (subst (λ (z : ℕ). 2 * (num r * U * c) ≤ 2 * (a * U * den r) + c * z * den r) p q.0)
          (subst (λ (z : ℕ). 2 * (a * U * den r) ≤ 2 * (num r * U * c) + c * z * den r) p q.1));
    }
  where
    go : (N d n a c u h : ℕ) → n * d ≡ N * u → 2 * (N * u * c) ≤ 2 * (a * u * d) + c * (2 * h) * d → 2 * (a * u * d) ≤ 2 * (N * u * c) + c * (2 * h) * d → Within (h * c * d) (n * c * d) (a * u * d)
    go N d n a c u h k x y =
        let z : n * d * c ≡ N * u * c = ap (λ (w : ℕ). w * c) k in
        record { most = omega (arith, x, z); least = omega (arith, y, z) }

-- a value a / c that is k / l of the unit
named : (a c k l e : ℕ) (r : Float) → 0 < c → a * U * l ≡ k * c → Rounded a c e r → Within (2 ^ e * l) (count r * l) k
named a c k l e r C x h = untimes (2 ^ e * l) (count r * l) k c C (known (mul_right_comm (2 ^ e) c l) (mul_right_comm (count r) c l) x (times l h.off))

below : (a c k l L : ℕ) → 0 < l → 0 < c → a * U * l ≡ k * c → k < L * l → a * U < L * c
below a c k l L l0 C x h = lt_of_mul-lt-mul_right l (lt_of_le_of_lt (le_of_eq x) (lt_of_lt_of_le (mul-lt-mul_of_pos_right h C) (le_of_eq (mul_right_comm L l c))))

-- an f64 that is finite
pub record Held (x : Float) : Type 0 where
  pub fine : T (finite x)
  pub held : T (fits binary64 x)

is : {x : Float} → Held x → count x * den x ≡ num x * U
is {x} h = count_is x h.held h.fine

-- ---- ranges in counts
pub count_most : (p j : ℕ) {x : Float} → Held x → num x * 2 ^ j ≤ p * den x → count x * 2 ^ j ≤ p * U
count_most p j {x} h m = go (num x) (den x) (count x) U p (2 ^ j) (den_pos x) (count_is x h.held h.fine) m
  where
    go : (n d c u p K : ℕ) → 0 < d → c * d ≡ n * u → n * K ≤ p * d → c * K ≤ p * u
    go n d c u p K D e h = le_of_mul-le-mul_right (le_trans (le_of_eq (mul_right_comm c K d ∙ ap (λ (z : ℕ). z * K) e ∙ mul_right_comm n u K)) (le_trans (mul-le-mul_right u h) (le_of_eq (mul_right_comm p d u)))) D

pub count_least : (a i : ℕ) {x : Float} → Held x → a * den x ≤ num x * 2 ^ i → a * U ≤ count x * 2 ^ i
count_least a i {x} h m = go (num x) (den x) (count x) U a (2 ^ i) (den_pos x) (count_is x h.held h.fine) m
  where
    go : (n d c u a K : ℕ) → 0 < d → c * d ≡ n * u → a * d ≤ n * K → a * u ≤ c * K
    go n d c u a K D e h = le_of_mul-le-mul_right (le_trans (le_of_eq (mul_right_comm a u d)) (le_trans (mul-le-mul_right u h) (le_of_eq (mul_right_comm n K u ∙ ap (λ (z : ℕ). z * K) (sym e) ∙ mul_right_comm c d K)))) D

-- and back
pub num_most : (p j : ℕ) {x : Float} → Held x → count x * 2 ^ j ≤ p * U → num x * 2 ^ j ≤ p * den x
num_most p j {x} h m = go (num x) (den x) (count x) U p (2 ^ j) (pow_pos 1074) (count_is x h.held h.fine) m
  where
    go : (n d c u p K : ℕ) → 0 < u → c * d ≡ n * u → c * K ≤ p * u → n * K ≤ p * d
    go n d c u p K P e h = le_of_mul-le-mul_right (le_trans (le_of_eq (mul_right_comm n K u ∙ ap (λ (z : ℕ). z * K) (sym e) ∙ mul_right_comm c d K)) (le_trans (mul-le-mul_right d h) (le_of_eq (mul_right_comm p u d)))) P

-- the result r, held, off by 2 ^ e at most from k / l
pub record Result (k l e : ℕ) (r : Float) : Type 0 where
  pub ok : Held r
  pub off : Within (2 ^ e * l) (count r * l) k

result : (s : Bool) (a c k l e : ℕ) → e ≤ 1100 → 0 < l → 0 < c → a * U * l ≡ k * c → k < 2 ^ (53 + suc e) * l → Result k l e (round binary64 s a c)
result s a c k l e m l0 C x h =
    let g = rounded s a c e m C (below a c k l (2 ^ (53 + suc e)) l0 C x h) in
    record { ok = record { fine = g.fine; held = round-fits binary64 s a c }; off = named a c k l e (round binary64 s a c) C x g }

-- ---- a product
pub mul_off : {x y : Float} (e : ℕ) → e ≤ 1100 → Held x → Held y → count x * count y < 2 ^ (53 + suc e) * U → Result (count x * count y) U e (x ⊗ y)
mul_off {x} {y} e m hx hy small =
    subst (λ (w : Float). Result (count x * count y) U e w) (sym (mul_is x y hx.fine hy.fine))
    (result (unlike (sgn x) (sgn y)) (num x * num y) (den x * den y) (count x * count y) U e m (pow_pos 1074) (mul-pos (den_pos x) (den_pos y)) (pair (num x) (num y) (den x) (den y) (count x) (count y) U (is hx) (is hy)) small)
  where
    pair : (n m d f x y u : ℕ) → x * d ≡ n * u → y * f ≡ m * u → n * m * u * u ≡ x * y * (d * f)
    pair n m d f x y u p q = simp (mul_assoc, mul_comm, mul_left_comm) (simp (mul_assoc, mul_comm, mul_left_comm) at (sym (ap₂ ◌*◌ p q)))

-- ---- a quotient
pub div_off : {x y : Float} (e : ℕ) → e ≤ 1100 → Held x → Held y → 0 < count y → count x * U < 2 ^ (53 + suc e) * count y → Result (count x * U) (count y) e (x ⊘ y)
div_off {x} {y} e m hx hy pos small =
    let Y : 0 < num y = above (num y) (den y) (count y) U (den_pos y) pos (is hy) in
    subst (λ (w : Float). Result (count x * U) (count y) e w) (sym (div_is x y hx.fine hy.fine Y))
    (result (unlike (sgn x) (sgn y)) (num x * den y) (num y * den x) (count x * U) (count y) e m pos (mul-pos Y (den_pos x)) (pair (num x) (num y) (den x) (den y) (count x) (count y) U (is hx) (is hy)) small)
  where
    above : (n d y u : ℕ) → 0 < d → 0 < y → y * d ≡ n * u → 0 < n
    above zero d y u D Y e = let h : 0 < y * d = mul-pos Y D in omega (arith, h, e)
    above (suc n) d y u D Y e = omega arith

    pair : (n m d f x y u : ℕ) → x * d ≡ n * u → y * f ≡ m * u → n * f * u * y ≡ x * u * (m * d)
    pair n m d f x y u p q = a n f u y ∙ ap₂ ◌*◌ (sym p) q ∙ b x d m u
      where
        a : (n f u y : ℕ) → n * f * u * y ≡ n * u * (y * f)
        a n f u y = simp (mul_assoc, mul_comm, mul_left_comm)

        b : (x d m u : ℕ) → x * d * (m * u) ≡ x * u * (m * d)
        b x d m u = simp (mul_assoc, mul_comm, mul_left_comm)

-- ---- a sum and a difference of values whose signs are clear
one_pos : 0 < 1
one_pos = lit≤ tt

both : (n m d f x y u : ℕ) → x * d ≡ n * u → y * f ≡ m * u → (n * f + m * d) * u * 1 ≡ (x + y) * (d * f)
both n m d f x y u p q =
    let a : n * u * f ≡ x * d * f = ap (λ (z : ℕ). z * f) (sym p) in
    let b : m * u * d ≡ y * f * d = ap (λ (z : ℕ). z * d) (sym q) in
    omega (arith, a, b)

like : (a b c : ℕ) → sum binary64 false a false b c ≡ round binary64 false (a + b) c
unfolding sum
like a b c = refl

pub add_off : {x y : Float} (e : ℕ) → e ≤ 1100 → T (plus x) → T (plus y) → Held x → Held y → count x + count y < 2 ^ (53 + suc e) * 1 → Result (count x + count y) 1 e (x ⊕ y)
add_off {x} {y} e m px py hx hy small =
    subst (λ (w : Float). Result (count x + count y) 1 e w) (sym (add_is x y hx.fine hy.fine ∙ ap₂ (λ (s t : Bool). sum binary64 s (num x * den y) t (num y * den x) (den x * den y)) (plus_sgn x px) (plus_sgn y py) ∙ like (num x * den y) (num y * den x) (den x * den y)))
    (result false (num x * den y + num y * den x) (den x * den y) (count x + count y) 1 e m one_pos (mul-pos (den_pos x) (den_pos y)) (both (num x) (num y) (den x) (den y) (count x) (count y) U (is hx) (is hy)) small)

-- |x - y|, and its sign where x is the larger
over : (a b c : ℕ) → b ≤ a → sum binary64 false a true b c ≡ round binary64 false (a - b) c
unfolding sum
over a b c h = go (ltb a b) (ltb→lt a b)
  where
    go : (t : Bool) → (T t → a < b) → cond t (round binary64 true (b - a) c) (round binary64 false (a - b) c) ≡ round binary64 false (a - b) c
    go true k = absurd (not-le_of_lt (k tt) h)
    go false k = refl

under : (a b c : ℕ) → a < b → sum binary64 false a true b c ≡ round binary64 true (b - a) c
unfolding sum
under a b c h = go (ltb a b) (nltb→le a b)
  where
    go : (t : Bool) → (T (not t) → b ≤ a) → cond t (round binary64 true (b - a) c) (round binary64 false (a - b) c) ≡ round binary64 true (b - a) c
    go true k = refl
    go false k = absurd (not-le_of_lt h (k tt))

-- one value in counts, over both denominators
first_at : (n d f x u : ℕ) → x * d ≡ n * u → n * f * u ≡ x * (d * f)
first_at n d f x u p = mul_right_comm n f u ∙ ap (λ (z : ℕ). z * f) (sym p) ∙ mul_assoc x d f

second_at : (n d f x u : ℕ) → x * d ≡ n * u → n * f * u ≡ x * (f * d)
second_at n d f x u p = first_at n d f x u p ∙ ap (λ (z : ℕ). x * z) (mul_comm d f)

order : (a b x y u c : ℕ) → 0 < c → a * u ≡ x * c → b * u ≡ y * c → b ≤ a → y ≤ x
order a b x y u c C p q h = le_of_mul-le-mul_right (le_trans (le_of_eq (sym q)) (le_trans (mul-le-mul_right u h) (le_of_eq p))) C

rest : (a b x y u c : ℕ) → b ≤ a → y ≤ x → a * u ≡ x * c → b * u ≡ y * c → (a - b) * u * 1 ≡ (x - y + (y - x)) * c
rest a b x y u c h g p q = go (a - b) (x - y) (y - x) (back a b h) (back x y g) (none x y g)
  where
    back : (a b : ℕ) → b ≤ a → a ≡ b + (a - b)
    back a b h = omega (arith, h)

    none : (x y : ℕ) → y ≤ x → y - x ≡ 0
    none x y g = omega (arith, g)

    go : (d e z : ℕ) → a ≡ b + d → x ≡ y + e → z ≡ 0 → d * u * 1 ≡ (e + z) * c
    go d e z i j k =
        let l : a * u ≡ (b + d) * u = ap (λ (z : ℕ). z * u) i in
        let m : x * c ≡ (y + e) * c = ap (λ (z : ℕ). z * c) j in
        let n : (e + z) * c ≡ (e + 0) * c = ap (λ (z : ℕ). (e + z) * c) k in
        omega (arith, p, q, l, m, n)

pub sub_off : {x y : Float} (e : ℕ) → e ≤ 1100 → T (plus x) → T (plus y) → Held x → Held y → gap (count x) (count y) < 2 ^ (53 + suc e) * 1 → Result (gap (count x) (count y)) 1 e (x ⊖ y)
sub_off {x} {y} e m px py hx hy small =
    subst (λ (w : Float). Result (gap (count x) (count y)) 1 e w) (sym (sub_sum x y px py)) (go (dec_le b a))
  where
    a : ℕ
    a = num x * den y

    b : ℕ
    b = num y * den x

    c : ℕ
    c = den x * den y

    C : 0 < c
    C = mul-pos (den_pos x) (den_pos y)

    ca : a * U ≡ count x * c
    ca = first_at (num x) (den x) (den y) (count x) U (is hx)

    cb : b * U ≡ count y * c
    cb = second_at (num y) (den y) (den x) (count y) U (is hy)

    swap : (x y c : ℕ) → (y - x + (x - y)) * c ≡ gap x y * c
    swap x y c = ap (λ (z : ℕ). z * c) (add_comm (y - x) (x - y))

    go : Dec (b ≤ a) → Result (gap (count x) (count y)) 1 e (sum binary64 false a true b c)
    go (yes h) = subst (λ (w : Float). Result (gap (count x) (count y)) 1 e w) (sym (over a b c h)) (result false (a - b) c (gap (count x) (count y)) 1 e m one_pos C (rest a b (count x) (count y) U c h (order a b (count x) (count y) U c C ca cb h) ca cb) small)
    go (no h) =
        let l : a < b = lt_of_not-le h in
        subst (λ (w : Float). Result (gap (count x) (count y)) 1 e w) (sym (under a b c l))
        (result true (b - a) c (gap (count x) (count y)) 1 e m one_pos C (rest b a (count y) (count x) U c (le_of_lt l) (order b a (count y) (count x) U c C cb ca (le_of_lt l)) cb ca ∙ swap (count x) (count y) c) small)

-- ---- signs
units_sgn : (s : Bool) (q k : ℕ) → sgn (units binary64 s q k) ≡ s
unfolding units odd
units_sgn s q k = go (ltb (q * 2 ^ k) (2 ^ (1074 + 1024))) q
  where
    go : (b : Bool) (q : ℕ) → sgn (cond b (odd 54 s q k 1074) (inf s)) ≡ s
    go true zero = refl
    go true (suc q) = refl
    go false q = refl

pub round_sgn : (s : Bool) (a c : ℕ) → sgn (round binary64 s a c) ≡ s
round_sgn s a c = ap sgn (round_is binary64 s a c) ∙ units_sgn s (kept 53 (a * 2 ^ 1074) c) (drop 53 (a * 2 ^ 1074) c)

-- a difference has a clear sign where the second is not the larger, and a sign where it is
module _ {x y : Float} (px : T (plus x)) (py : T (plus y)) (hx : Held x) (hy : Held y) where
  at_least : count y ≤ count x → num y * den x ≤ num x * den y
  at_least h =
      order' (num x * den y) (num y * den x) (count x) (count y) U (den x * den y) (pow_pos 1074) (first_at (num x) (den x) (den y) (count x) U (is hx)) (second_at (num y) (den y) (den x) (count y) U (is hy)) h
    where
      order' : (a b x y u c : ℕ) → 0 < u → a * u ≡ x * c → b * u ≡ y * c → y ≤ x → b ≤ a
      order' a b x y u c P p q h = le_of_mul-le-mul_right (le_trans (le_of_eq q) (le_trans (mul-le-mul_right c h) (le_of_eq (sym p)))) P

  above : count x < count y → num x * den y < num y * den x
  above h =
      order' (num x * den y) (num y * den x) (count x) (count y) U (den x * den y) (mul-pos (den_pos x) (den_pos y)) (first_at (num x) (den x) (den y) (count x) U (is hx)) (second_at (num y) (den y) (den x) (count y) U (is hy)) h
    where
      order' : (a b x y u c : ℕ) → 0 < c → a * u ≡ x * c → b * u ≡ y * c → x < y → a < b
      order' a b x y u c C p q h = lt_of_mul-lt-mul_right u (lt_of_le_of_lt (le_of_eq p) (lt_of_lt_of_le (mul-lt-mul_of_pos_right h C) (le_of_eq (sym q))))

  pub sub_clear : count y ≤ count x → sgn (x ⊖ y) ≡ false
  sub_clear h = ap sgn (sub_sum x y px py ∙ over (num x * den y) (num y * den x) (den x * den y) (at_least h)) ∙ round_sgn false (num x * den y - num y * den x) (den x * den y)

  pub sub_turned : count x < count y → sgn (x ⊖ y) ≡ true
  sub_turned h = ap sgn (sub_sum x y px py ∙ under (num x * den y) (num y * den x) (den x * den y) (above h)) ∙ round_sgn true (num y * den x - num x * den y) (den x * den y)

-- ---- the same in proportion: a rounding is off by 2 ^ -53 of the value at most, or by one count
shared : (s : Bool) (a c k l e : ℕ) → e ≤ 1100 → 0 < l → 0 < c → a * U * l ≡ k * c → k < 2 ^ (53 + suc e) * l → let r = round binary64 s a c in Within (k + 2 ^ 53 * l) (count r * l * 2 ^ 53) (k * 2 ^ 53)
shared s a c k l e m l0 C x h = go (dec_le (2 ^ 52 * l) k)
  where
    r : Float
    r = round binary64 s a c

    f : T (finite r)
    f = finite_of s a c e m C (below a c k l (2 ^ (53 + suc e)) l0 C x h)

    enough : 2 ^ 52 * l ≤ k → 2 ^ 52 * c ≤ a * U
    enough g = le_of_mul-le-mul_right (le_trans (le_of_eq (mul_right_comm (2 ^ 52) c l)) (le_trans (mul-le-mul_right c g) (le_of_eq (sym x)))) l0

    -- from numerators to counts
    up : (n d c s a R u l k : ℕ) → 0 < d → 0 < c → R * d ≡ n * u → a * u * l ≡ k * c → n * c * s ≤ a * d * s + a * d → R * l * s ≤ k * s + k
    up n d c s a R u l k D C e x h =
        le_of_mul-le-mul_right
        (le_trans (le_of_eq (one R l s d c ∙ ap (λ (z : ℕ). z * (c * s * l)) e ∙ two n u c s l)) (le_trans (mul-le-mul_right (u * l) h) (le_of_eq (three a d s u l ∙ ap (λ (z : ℕ). z * d * s + z * d) x ∙ four k c d s))))
        (mul-pos D C)
      where
        one : (R l s d c : ℕ) → R * l * s * (d * c) ≡ R * d * (c * s * l)
        one R l s d c = simp (mul_assoc, mul_comm, mul_left_comm)

        two : (n u c s l : ℕ) → n * u * (c * s * l) ≡ n * c * s * (u * l)
        two n u c s l = simp (mul_assoc, mul_comm, mul_left_comm)

        three : (a d s u l : ℕ) → (a * d * s + a * d) * (u * l) ≡ a * u * l * d * s + a * u * l * d
        three a d s u l = omega arith

        four : (k c d s : ℕ) → k * c * d * s + k * c * d ≡ (k * s + k) * (d * c)
        four k c d s = omega arith

    down : (n d c s a R u l k : ℕ) → 0 < d → 0 < c → R * d ≡ n * u → a * u * l ≡ k * c → a * d * s ≤ n * c * s + a * d → k * s ≤ R * l * s + k
    down n d c s a R u l k D C e x h =
        le_of_mul-le-mul_right
        (le_trans (le_of_eq (one k c d s ∙ ap (λ (z : ℕ). z * d * s) (sym x) ∙ two a u l d s)) (le_trans (mul-le-mul_right (u * l) h) (le_of_eq (three n c s a d u l ∙ ap₂ (λ (y z : ℕ). y * (c * s * l) + z * d) (sym e) x ∙ four R l s d c k))))
        (mul-pos D C)
      where
        one : (k c d s : ℕ) → k * s * (d * c) ≡ k * c * d * s
        one k c d s = simp (mul_assoc, mul_comm, mul_left_comm)

        two : (a u l d s : ℕ) → a * u * l * d * s ≡ a * d * s * (u * l)
        two a u l d s = simp (mul_assoc, mul_comm, mul_left_comm)

        three : (n c s a d u l : ℕ) → (n * c * s + a * d) * (u * l) ≡ n * u * (c * s * l) + a * u * l * d
        three n c s a d u l = omega arith

        four : (R l s d c k : ℕ) → R * d * (c * s * l) + k * c * d ≡ (R * l * s + k) * (d * c)
        four R l s d c k = omega arith

    both : (x k y l : ℕ) → x ≤ y + k → y ≤ x + k → Within (k + l) x y
    both x k y l h g = omega (arith, h, g)

    go : Dec (2 ^ 52 * l ≤ k) → Within (k + 2 ^ 53 * l) (count r * l * 2 ^ 53) (k * 2 ^ 53)
    go (yes g) =
        let q = relative binary64 s a c C (enough g) (finite_of false a c e m C (below a c k l (2 ^ (53 + suc e)) l0 C x h)) in
        let i = count_is r (round-fits binary64 s a c) f in
        both (count r * l * 2 ^ 53) k (k * 2 ^ 53) (2 ^ 53 * l) (up (num r) (den r) c (2 ^ 53) a (count r) U l k (den_pos r) C i x q.0) (down (num r) (den r) c (2 ^ 53) a (count r) U l k (den_pos r) C i x q.1)
    go (no g) = widen (more l k) (times (2 ^ 53) (result s a c k l 0 (lit≤ tt) l0 C x (lt_of_lt_of_le (lt_of_not-le g) (mul-le-mul_right l (lit≤ {m = 2 ^ 52} {n = 2 ^ 54} tt)))).off)
      where
        more : (l k : ℕ) → 1 * l * 2 ^ 53 ≤ k + 2 ^ 53 * l
        more l k = omega arith

pub mul_share : {x y : Float} (e : ℕ) → e ≤ 1100 → Held x → Held y → count x * count y < 2 ^ (53 + suc e) * U → Within (count x * count y + 2 ^ 53 * U) (count (x ⊗ y) * U * 2 ^ 53) (count x * count y * 2 ^ 53)
mul_share {x} {y} e m hx hy small =
    subst (λ (w : Float). Within (count x * count y + 2 ^ 53 * U) (count w * U * 2 ^ 53) (count x * count y * 2 ^ 53)) (sym (mul_is x y hx.fine hy.fine))
    (shared (unlike (sgn x) (sgn y)) (num x * num y) (den x * den y) (count x * count y) U e m (pow_pos 1074) (mul-pos (den_pos x) (den_pos y)) (pair (num x) (num y) (den x) (den y) (count x) (count y) U (is hx) (is hy)) small)
  where
    pair : (n m d f x y u : ℕ) → x * d ≡ n * u → y * f ≡ m * u → n * m * u * u ≡ x * y * (d * f)
    pair n m d f x y u p q = simp (mul_assoc, mul_comm, mul_left_comm) (simp (mul_assoc, mul_comm, mul_left_comm) at (sym (ap₂ ◌*◌ p q)))

pub div_share : {x y : Float} (e : ℕ) → e ≤ 1100 → Held x → Held y → 0 < count y → count x * U < 2 ^ (53 + suc e) * count y → Within (count x * U + 2 ^ 53 * count y) (count (x ⊘ y) * count y * 2 ^ 53) (count x * U * 2 ^ 53)
div_share {x} {y} e m hx hy pos small =
    let Y : 0 < num y = above (num y) (den y) (count y) U (den_pos y) pos (is hy) in
    subst (λ (w : Float). Within (count x * U + 2 ^ 53 * count y) (count w * count y * 2 ^ 53) (count x * U * 2 ^ 53)) (sym (div_is x y hx.fine hy.fine Y))
    (shared (unlike (sgn x) (sgn y)) (num x * den y) (num y * den x) (count x * U) (count y) e m pos (mul-pos Y (den_pos x)) (pair (num x) (num y) (den x) (den y) (count x) (count y) U (is hx) (is hy)) small)
  where
    above : (n d y u : ℕ) → 0 < d → 0 < y → y * d ≡ n * u → 0 < n
    above zero d y u D Y e = let h : 0 < y * d = mul-pos Y D in omega (arith, h, e)
    above (suc n) d y u D Y e = omega arith

    pair : (n m d f x y u : ℕ) → x * d ≡ n * u → y * f ≡ m * u → n * f * u * y ≡ x * u * (m * d)
    pair n m d f x y u p q = a n f u y ∙ ap₂ ◌*◌ (sym p) q ∙ b x d m u
      where
        a : (n f u y : ℕ) → n * f * u * y ≡ n * u * (y * f)
        a n f u y = simp (mul_assoc, mul_comm, mul_left_comm)

        b : (x d m u : ℕ) → x * d * (m * u) ≡ x * u * (m * d)
        b x d m u = simp (mul_assoc, mul_comm, mul_left_comm)
