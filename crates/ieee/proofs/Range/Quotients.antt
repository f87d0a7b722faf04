-- Quotients by a divisor that is bounded from below: `div_mag`, `div_in`. Assumes nothing.
use mathlib.Core.Path.{sym, ap, ◌∙◌, subst}
use Prim.Native.Nat.{ℕ, ◌*◌, ◌^◌, ◌≤◌, ◌<◌}
use native.Mathlib.Nat.{lt_of_lt_of_le, mul_comm, mul_assoc, mul_left_comm, mul-le-mul, mul-pos}
use mathlib.Core.Bool.{Bool, false, ◌&&◌}
use lib.Dec.{T, ltb, ltb→lt}
use lib.Pow.{pow_pos}
use lib.Ieee.{Float, binary64, unlike, round, div}
use lib.Ieee.Fits.{and_l, and_r}
use lib.Ieee.Positive.{num, den, den_pos, first_pos}
use Rattle.ieee.specs.Range.{sgn, Mag, In, at_most, at_least}
use Rattle.ieee.proofs.Range.Laws.{plus_finite, plus_sgn, round_mag, round_in, div_is}

above : (n d b K : ℕ) → 0 < b → 0 < d → b * d ≤ n * K → 0 < n
above n d b K B D h = first_pos n K (lt_of_lt_of_le (mul-pos B D) h)

ac_div : (X dx Y dy J p K b : ℕ) → X * J ≤ p * dx → b * dy ≤ Y * K → X * dy * (J * b) ≤ p * K * (Y * dx)
ac_div X dx Y dy J p K b h g = simp (mul_assoc, mul_comm, mul_left_comm) (simp (mul_assoc, mul_comm, mul_left_comm) at (mul-le-mul h g))

ac_div' : (X dx Y dy I a L q : ℕ) → a * dx ≤ X * I → Y * L ≤ q * dy → a * L * (Y * dx) ≤ X * dy * (I * q)
ac_div' X dx Y dy I a L q h g = simp (mul_assoc, mul_comm, mul_left_comm) (simp (mul_assoc, mul_comm, mul_left_comm) at (mul-le-mul h g))

pub div_mag : {p j b k q l r n : ℕ} {x y : Float} → Mag p j x → In b k q l y → T (ltb 0 b && at_most (p * 2 ^ k) (2 ^ j * b) r n) → Mag r n (div binary64 x y)
div_mag {p} {j} {b} {k} {q} {l} {r} {n} {x} {y} h g t =
    let B : 0 < b = ltb→lt 0 b (and_l (ltb 0 b) (at_most (p * 2 ^ k) (2 ^ j * b) r n) t) in
    let Y : 0 < num y = above (num y) (den y) b (2 ^ k) B (den_pos y) g.least in
    subst (λ (z : Float). Mag r n z) (sym (div_is x y h.fine (plus_finite y g.sign) Y))
    (round_mag (unlike (sgn x) (sgn y)) (num x * den y) (num y * den x) (p * 2 ^ k) (2 ^ j * b) r n (mul-pos Y (den_pos x)) (mul-pos (pow_pos j) B)
    (ac_div (num x) (den x) (num y) (den y) (2 ^ j) p (2 ^ k) b h.most g.least)
    (and_r (ltb 0 b) (at_most (p * 2 ^ k) (2 ^ j * b) r n) t))

pub div_in : {a i p j b k q l c m r n : ℕ} {x y : Float} → In a i p j x → In b k q l y → T (ltb 0 b && (ltb 0 q && (at_least (a * 2 ^ l) (2 ^ i * q) c m && at_most (p * 2 ^ k) (2 ^ j * b) r n))) → In c m r n (div binary64 x y)
div_in {a} {i} {p} {j} {b} {k} {q} {l} {c} {m} {r} {n} {x} {y} h g t =
    let F = at_least (a * 2 ^ l) (2 ^ i * q) c m && at_most (p * 2 ^ k) (2 ^ j * b) r n in
    let u = and_r (ltb 0 b) (ltb 0 q && F) t in
    let B : 0 < b = ltb→lt 0 b (and_l (ltb 0 b) (ltb 0 q && F) t) in
    let Q : 0 < q = ltb→lt 0 q (and_l (ltb 0 q) F u) in
    let Y : 0 < num y = above (num y) (den y) b (2 ^ k) B (den_pos y) g.least in
    let N = num x * den y in
    let D = num y * den x in
    subst (λ (z : Float). In c m r n z)
    (sym (div_is x y (plus_finite x h.sign) (plus_finite y g.sign) Y ∙ ap (λ (s : Bool). round binary64 (unlike s (sgn y)) N D) (plus_sgn x h.sign) ∙ ap (λ (s : Bool). round binary64 (unlike false s) N D) (plus_sgn y g.sign)))
    (round_in N D (a * 2 ^ l) (2 ^ i * q) (p * 2 ^ k) (2 ^ j * b) c m r n (mul-pos Y (den_pos x)) (mul-pos (pow_pos i) Q) (mul-pos (pow_pos j) B)
    (ac_div' (num x) (den x) (num y) (den y) (2 ^ i) a (2 ^ l) q h.least g.most)
    (ac_div (num x) (den x) (num y) (den y) (2 ^ j) p (2 ^ k) b h.most g.least)
    (and_r (ltb 0 q) F u))
