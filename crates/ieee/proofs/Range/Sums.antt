-- Sums and differences: `add_mag`, `sub_mag`, `add_in`, `sub_in`, and `opp_mag`, a sum of two values of unlike signs. Assumes nothing.
use mathlib.Core.Path.{◌≡◌, refl, sym, ap, ◌∙◌, subst}
use Prim.Native.Nat.{ℕ, ◌+◌, ◌-◌, ◌*◌, ◌^◌, ◌≤◌, ◌<◌}
use native.Mathlib.Nat.{le_trans, le_of_eq, not-le_of_lt, mul_comm, mul_assoc, mul_left_comm, mul-le-mul_right, mul-pos, mul-sub, add-mul, add-le-add}
use native.Mathlib.Omega.{arith}
use mathlib.Core.Bool.{Bool, true, false, not, ◌&&◌, beq, cond}
use lib.Dec.{T, ltb, ltb→lt, leb→le}
use lib.Pow.{pow_pos}
use lib.Ieee.{Float, nan, inf, fin, binary64, unlike, round, neg, sum, add, sub}
use lib.Ieee.Fits.{and_l, and_r}
use lib.Ieee.Bits.{is_true}
use lib.Ieee.Scale.{finite}
use lib.Ieee.Positive.{num, den, den_pos, through}
use Rattle.ieee.specs.Range.{sgn, plus, Mag, In, Size, wider, at_most, at_least}
use Rattle.ieee.proofs.Range.Laws.{sum_any, plus_finite, plus_sgn, in_size, round_mag, round_in, add_is, sub_is, neg_mag, neg_size}

-- ---- sums of either sign
sum_mag : (s : Bool) (a : ℕ) (t : Bool) (b c P Q p j : ℕ) → 0 < c → 0 < Q → (a + b) * Q ≤ P * c → T (at_most P Q p j) → Mag p j (sum binary64 s a t b c)
sum_mag s a t b c P Q p j C Q0 h k = sum_any (λ z. Mag p j z) s a t b c (λ s n l. round_mag s n c P Q p j C Q0 (le_trans (mul-le-mul_right Q l) h) k)

ac_add : (X dx Y dy J p K q : ℕ) → X * J ≤ p * dx → Y * K ≤ q * dy → (X * dy + Y * dx) * (J * K) ≤ (p * K + q * J) * (dx * dy)
ac_add X dx Y dy J p K q h g =
    let a : X * dy * (J * K) ≤ p * K * (dx * dy) = simp (mul_assoc, mul_comm, mul_left_comm) (simp (mul_assoc, mul_comm, mul_left_comm) at (mul-le-mul_right (dy * K) h)) in
    let b : Y * dx * (J * K) ≤ q * J * (dx * dy) = simp (mul_assoc, mul_comm, mul_left_comm) (simp (mul_assoc, mul_comm, mul_left_comm) at (mul-le-mul_right (dx * J) g)) in
    le_trans (le_of_eq (add-mul (X * dy) (Y * dx) (J * K))) (le_trans (add-le-add a b) (le_of_eq (sym (add-mul (p * K) (q * J) (dx * dy)))))

ac_add' : (X dx Y dy J p K q : ℕ) → p * dx ≤ X * J → q * dy ≤ Y * K → (p * K + q * J) * (dx * dy) ≤ (X * dy + Y * dx) * (J * K)
ac_add' X dx Y dy J p K q h g =
    let a : p * K * (dx * dy) ≤ X * dy * (J * K) = simp (mul_assoc, mul_comm, mul_left_comm) (simp (mul_assoc, mul_comm, mul_left_comm) at (mul-le-mul_right (dy * K) h)) in
    let b : q * J * (dx * dy) ≤ Y * dx * (J * K) = simp (mul_assoc, mul_comm, mul_left_comm) (simp (mul_assoc, mul_comm, mul_left_comm) at (mul-le-mul_right (dx * J) g)) in
    le_trans (le_of_eq (add-mul (p * K) (q * J) (dx * dy))) (le_trans (add-le-add a b) (le_of_eq (sym (add-mul (X * dy) (Y * dx) (J * K)))))

pub add_mag : {p j q k r l : ℕ} {x y : Float} → Mag p j x → Mag q k y → T (at_most (p * 2 ^ k + q * 2 ^ j) (2 ^ j * 2 ^ k) r l) → Mag r l (add binary64 x y)
add_mag {p} {j} {q} {k} {r} {l} {x} {y} h g t =
    subst (λ (z : Float). Mag r l z) (sym (add_is x y h.fine g.fine))
    (sum_mag (sgn x) (num x * den y) (sgn y) (num y * den x) (den x * den y) (p * 2 ^ k + q * 2 ^ j) (2 ^ j * 2 ^ k) r l (mul-pos (den_pos x) (den_pos y)) (mul-pos (pow_pos j) (pow_pos k))
    (ac_add (num x) (den x) (num y) (den y) (2 ^ j) p (2 ^ k) q h.most g.most) t)

pub sub_mag : {p j q k r l : ℕ} {x y : Float} → Mag p j x → Mag q k y → T (at_most (p * 2 ^ k + q * 2 ^ j) (2 ^ j * 2 ^ k) r l) → Mag r l (sub binary64 x y)
sub_mag {r = r} {l = l} {x = x} {y = y} h g t = subst (λ (z : Float). Mag r l z) (sym (sub_is x y)) (add_mag h (neg_mag g) t)

-- ---- a sum of two values with clear signs
sum_plus : (a b c : ℕ) → sum binary64 false a false b c ≡ round binary64 false (a + b) c
unfolding sum
sum_plus a b c = refl

pub add_in : {a i p j b k q l c m r n : ℕ} {x y : Float} → In a i p j x → In b k q l y → T (at_least (a * 2 ^ k + b * 2 ^ i) (2 ^ i * 2 ^ k) c m && at_most (p * 2 ^ l + q * 2 ^ j) (2 ^ j * 2 ^ l) r n) → In c m r n (add binary64 x y)
add_in {a} {i} {p} {j} {b} {k} {q} {l} {c} {m} {r} {n} {x} {y} h g t =
    let X = num x * den y in
    let Y = num y * den x in
    let D = den x * den y in
    subst (λ (z : Float). In c m r n z)
    (sym (add_is x y (plus_finite x h.sign) (plus_finite y g.sign) ∙ ap (λ (s : Bool). sum binary64 s X (sgn y) Y D) (plus_sgn x h.sign) ∙ ap (λ (s : Bool). sum binary64 false X s Y D) (plus_sgn y g.sign) ∙ sum_plus X Y D))
    (round_in (X + Y) D (a * 2 ^ k + b * 2 ^ i) (2 ^ i * 2 ^ k) (p * 2 ^ l + q * 2 ^ j) (2 ^ j * 2 ^ l) c m r n (mul-pos (den_pos x) (den_pos y)) (mul-pos (pow_pos i) (pow_pos k)) (mul-pos (pow_pos j) (pow_pos l))
    (ac_add' (num x) (den x) (num y) (den y) (2 ^ i) a (2 ^ k) b h.least g.least)
    (ac_add (num x) (den x) (num y) (den y) (2 ^ j) p (2 ^ l) q h.most g.most) t)

-- ---- differences
less_less : (p q r s : ℕ) → p ≤ r → s ≤ q → p - q ≤ r - s
less_less p q r s e h = omega arith

-- X / dx ≤ p / J and b / K ≤ Y / dy
gap_up : (X dx Y dy J p K b : ℕ) → X * J ≤ p * dx → b * dy ≤ Y * K → (X * dy - Y * dx) * (J * K) ≤ (p * K - b * J) * (dx * dy)
gap_up X dx Y dy J p K b h g =
    let u : J * K * (X * dy) ≤ dx * dy * (p * K) = simp (mul_assoc, mul_comm, mul_left_comm) (simp (mul_assoc, mul_comm, mul_left_comm) at (mul-le-mul_right (dy * K) h)) in
    let v : dx * dy * (b * J) ≤ J * K * (Y * dx) = simp (mul_assoc, mul_comm, mul_left_comm) (simp (mul_assoc, mul_comm, mul_left_comm) at (mul-le-mul_right (dx * J) g)) in
    le_trans (le_of_eq (mul_comm (X * dy - Y * dx) (J * K) ∙ mul-sub (J * K) (X * dy) (Y * dx)))
    (le_trans (less_less (J * K * (X * dy)) (J * K * (Y * dx)) (dx * dy * (p * K)) (dx * dy * (b * J)) u v)
    (le_of_eq (sym (mul_comm (p * K - b * J) (dx * dy) ∙ mul-sub (dx * dy) (p * K) (b * J)))))

-- a / I ≤ X / dx and Y / dy ≤ q / L
gap_down : (X dx Y dy I a L q : ℕ) → a * dx ≤ X * I → Y * L ≤ q * dy → (a * L - q * I) * (dx * dy) ≤ (X * dy - Y * dx) * (I * L)
gap_down X dx Y dy I a L q h g =
    let u : dx * dy * (a * L) ≤ I * L * (X * dy) = simp (mul_assoc, mul_comm, mul_left_comm) (simp (mul_assoc, mul_comm, mul_left_comm) at (mul-le-mul_right (dy * L) h)) in
    let v : I * L * (Y * dx) ≤ dx * dy * (q * I) = simp (mul_assoc, mul_comm, mul_left_comm) (simp (mul_assoc, mul_comm, mul_left_comm) at (mul-le-mul_right (dx * I) g)) in
    le_trans (le_of_eq (mul_comm (a * L - q * I) (dx * dy) ∙ mul-sub (dx * dy) (a * L) (q * I)))
    (le_trans (less_less (dx * dy * (a * L)) (dx * dy * (q * I)) (I * L * (X * dy)) (I * L * (Y * dx)) u v)
    (le_of_eq (sym (mul_comm (X * dy - Y * dx) (I * L) ∙ mul-sub (I * L) (X * dy) (Y * dx)))))

-- unlike signs: one of the two differences, whichever is not below zero
opp_sum : (s : Bool) (a : ℕ) (t : Bool) (b c P Q P' Q' p j : ℕ) → T (unlike s t) → 0 < c → 0 < Q → 0 < Q' → (a - b) * Q ≤ P * c → (b - a) * Q' ≤ P' * c → T (at_most P Q p j && at_most P' Q' p j) → Mag p j (sum binary64 s a t b c)
unfolding sum
opp_sum s a t b c P Q P' Q' p j n C Q0 Q0' h h' k = go (beq s t) n (ltb a b)
  where
    go : (u : Bool) → T (not u) → (v : Bool) → Mag p j (cond u (round binary64 s (a + b) c) (cond v (round binary64 t (b - a) c) (round binary64 (s && ltb b a) (a - b) c)))
    go true w v = absurd w
    go false w true = round_mag t (b - a) c P' Q' p j C Q0' h' (and_r (at_most P Q p j) (at_most P' Q' p j) k)
    go false w false = round_mag (s && ltb b a) (a - b) c P Q p j C Q0 h (and_l (at_most P Q p j) (at_most P' Q' p j) k)

pub opp_mag : {a i p j b k q l r n : ℕ} {x y : Float} → Size a i p j x → Size b k q l y → T (unlike (sgn x) (sgn y)) → T (at_most (p * 2 ^ k - b * 2 ^ j) (2 ^ j * 2 ^ k) r n && at_most (q * 2 ^ i - a * 2 ^ l) (2 ^ l * 2 ^ i) r n) → Mag r n (add binary64 x y)
opp_mag {a} {i} {p} {j} {b} {k} {q} {l} {r} {n} {x} {y} h g s t =
    subst (λ (z : Float). Mag r n z) (sym (add_is x y h.fine g.fine))
    (opp_sum (sgn x) (num x * den y) (sgn y) (num y * den x) (den x * den y) (p * 2 ^ k - b * 2 ^ j) (2 ^ j * 2 ^ k) (q * 2 ^ i - a * 2 ^ l) (2 ^ l * 2 ^ i) r n s (mul-pos (den_pos x) (den_pos y)) (mul-pos (pow_pos j) (pow_pos k)) (mul-pos (pow_pos l) (pow_pos i))
    (gap_up (num x) (den x) (num y) (den y) (2 ^ j) p (2 ^ k) b h.most g.least)
    (subst (λ (z : ℕ). (num y * den x - num x * den y) * (2 ^ l * 2 ^ i) ≤ (q * 2 ^ i - a * 2 ^ l) * z) (mul_comm (den y) (den x)) (gap_up (num y) (den y) (num x) (den x) (2 ^ l) q (2 ^ i) a g.most h.least)) t)

-- x - y for y ≤ x, by the bounds: y's upper is no more than x's lower
pub sub_sum : (x y : Float) → T (plus x) → T (plus y) → sub binary64 x y ≡ sum binary64 false (num x * den y) true (num y * den x) (den x * den y)
unfolding sub
sub_sum nan y p q = absurd p
sub_sum (inf s) y p q = absurd p
sub_sum (fin true m e) y p q = absurd p
sub_sum (fin false m e) nan p q = absurd q
sub_sum (fin false m e) (inf t) p q = absurd q
sub_sum (fin false m e) (fin true n d) p q = absurd q
sub_sum (fin false m e) (fin false n d) p q = refl

pick : (a b c : ℕ) → b ≤ a → sum binary64 false a true b c ≡ round binary64 false (a - b) c
unfolding sum
pick a b c h = go (ltb a b) (ltb→lt a b)
  where
    go : (t : Bool) → (T t → a < b) → cond t (round binary64 true (b - a) c) (round binary64 false (a - b) c) ≡ round binary64 false (a - b) c
    go true k = absurd (not-le_of_lt (k tt) h)
    go false k = refl

pub sub_in : {a i p j b k q l c m r n : ℕ} {x y : Float} → In a i p j x → In b k q l y → T (wider q l a i && (at_least (a * 2 ^ l - q * 2 ^ i) (2 ^ i * 2 ^ l) c m && at_most (p * 2 ^ k - b * 2 ^ j) (2 ^ j * 2 ^ k) r n)) → In c m r n (sub binary64 x y)
sub_in {a} {i} {p} {j} {b} {k} {q} {l} {c} {m} {r} {n} {x} {y} h g t =
    let X = num x * den y in
    let Y = num y * den x in
    let D = den x * den y in
    let F = at_least (a * 2 ^ l - q * 2 ^ i) (2 ^ i * 2 ^ l) c m && at_most (p * 2 ^ k - b * 2 ^ j) (2 ^ j * 2 ^ k) r n in
    let w : q * 2 ^ i ≤ a * 2 ^ l = leb→le (q * 2 ^ i) (a * 2 ^ l) (and_l (wider q l a i) F t) in
    let o : Y ≤ X = through (num y) q (num x) (den y) (2 ^ l) (den x) (pow_pos l) g.most (through q a (num x) (2 ^ l) (2 ^ i) (den x) (pow_pos i) w h.least) in
    subst (λ (z : Float). In c m r n z)
    (sym (sub_sum x y h.sign g.sign ∙ pick X Y D o))
    (round_in (X - Y) D (a * 2 ^ l - q * 2 ^ i) (2 ^ i * 2 ^ l) (p * 2 ^ k - b * 2 ^ j) (2 ^ j * 2 ^ k) c m r n (mul-pos (den_pos x) (den_pos y)) (mul-pos (pow_pos i) (pow_pos l)) (mul-pos (pow_pos j) (pow_pos k))
    (gap_down (num x) (den x) (num y) (den y) (2 ^ i) a (2 ^ l) q h.least g.most)
    (gap_up (num x) (den x) (num y) (den y) (2 ^ j) p (2 ^ k) b h.most g.least)
    (and_r (wider q l a i) F t))

-- ---- one value less another, in either order: |x - y|, x and y with clear signs
neg_plus : (y : Float) → T (plus y) → sgn (neg y) ≡ true
unfolding neg
neg_plus nan p = absurd p
neg_plus (inf s) p = absurd p
neg_plus (fin true m e) p = absurd p
neg_plus (fin false m e) p = refl

neg_minus : (y : Float) → T (finite y) → T (sgn y) → sgn (neg y) ≡ false
unfolding neg
neg_minus nan f p = refl
neg_minus (inf s) f p = absurd f
neg_minus (fin true m e) f p = refl
neg_minus (fin false m e) f p = absurd p

signs : (s t s' t' : Bool) → s ≡ s' → t ≡ t' → T (unlike s' t') → T (unlike s t)
signs s t s' t' p q h = subst (λ (b : Bool). T (unlike b t)) (sym p) (subst (λ (b : Bool). T (unlike s' b)) (sym q) h)

pub sub_gap : {a i p j b k q l r n : ℕ} {x y : Float} → In a i p j x → In b k q l y → T (at_most (p * 2 ^ k - b * 2 ^ j) (2 ^ j * 2 ^ k) r n && at_most (q * 2 ^ i - a * 2 ^ l) (2 ^ l * 2 ^ i) r n) → Mag r n (sub binary64 x y)
sub_gap {r = r} {n = n} {x = x} {y = y} h g t =
    subst (λ (z : Float). Mag r n z) (sym (sub_is x y))
    (opp_mag (in_size h) (neg_size (in_size g)) (signs (sgn x) (sgn (neg y)) false true (plus_sgn x h.sign) (neg_plus y g.sign) tt) t)

-- x + y for an x below zero and a y with a clear sign
pub add_gap : {a i p j b k q l r n : ℕ} {x y : Float} → T (sgn x) → Size a i p j x → In b k q l y → T (at_most (p * 2 ^ k - b * 2 ^ j) (2 ^ j * 2 ^ k) r n && at_most (q * 2 ^ i - a * 2 ^ l) (2 ^ l * 2 ^ i) r n) → Mag r n (add binary64 x y)
add_gap {x = x} {y = y} s h g t = opp_mag h (in_size g) (signs (sgn x) (sgn y) true false (is_true (sgn x) s) (plus_sgn y g.sign) tt) t

-- -c - y for a y below zero
pub neg_gap : {a i p j b k q l r n : ℕ} {c x y : Float} → x ≡ neg c → In a i p j c → T (sgn y) → Size b k q l y → T (at_most (p * 2 ^ k - b * 2 ^ j) (2 ^ j * 2 ^ k) r n && at_most (q * 2 ^ i - a * 2 ^ l) (2 ^ l * 2 ^ i) r n) → Mag r n (sub binary64 x y)
neg_gap {r = r} {n = n} {c = c} {x = x} {y = y} e h s g t =
    subst (λ (z : Float). Mag r n (sub binary64 z y)) (sym e)
    (subst (λ (z : Float). Mag r n z) (sym (sub_is (neg c) y))
    (opp_mag (neg_size (in_size h)) (neg_size g) (signs (sgn (neg c)) (sgn (neg y)) true false (neg_plus c h.sign) (neg_minus y g.fine s) tt) t))
