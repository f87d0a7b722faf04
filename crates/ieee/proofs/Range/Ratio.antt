-- A bound that two operands share: where |s| ≤ 7/8 * n as rounded, the quotient of the rounded s * n by the rounded n * n is no more than 7/8 by three roundings.
-- The intervals of s and n alone would give 4. Assumes nothing.
use mathlib.Core.Path.{◌≡◌, refl, sym, ap, ◌∙◌, subst}
use Prim.Native.Nat.{ℕ, ◌+◌, ◌-◌, ◌*◌, ◌^◌, ◌≤◌, ◌<◌}
use native.Mathlib.Nat.{mul-mul-mul_comm, le_refl, le_trans, le_of_eq, lt_of_lt_of_le, mul-one, one-mul, mul_comm, mul_assoc, mul_left_comm, mul_right_comm, mul-le-mul, mul-le-mul_left, mul-pos, le_of_mul-le-mul_right}
use native.Mathlib.Omega.{arith}
use mathlib.Core.Bool.{Bool, false}
use lib.Dec.{T, lit≤}
use lib.Pow.{pow_pos}
use lib.Ieee.{Float, nan, inf, fin, binary64, unlike, round, mul, div, le, Format, low, of_bits}
use lib.Ieee.Scale.{finite, grid, round_under}
use lib.Ieee.Positive.{num, den, den_pos, through, first_pos}
use Rattle.ieee.specs.Range.{sgn, clear, plus, Mag, In}
use Rattle.ieee.proofs.Range.Round.{below_finite, le_cross, round_clear, round_value, value_cross, value_finite}
use Rattle.ieee.proofs.Range.Laws.{plus_finite, plus_sgn, in_mag, round_mag, mul_is, div_is, mul_in}
use lib.Ieee.Order.{transfer, round_mono}
use Rattle.ieee.specs.Functions.{abs, seven_eighths}
use Rattle.ieee.proofs.Range.Relative.{relative}

-- ---- one rounded fraction is no more than another
pub under_round : (f : Format) (s : Bool) (N D N' D' : ℕ) → 0 < D → 0 < D' → N * D' ≤ N' * D → T (finite (round f false N' D'))
    → T (finite (round f s N D)) × (num (round f s N D) * den (round f false N' D') ≤ num (round f false N' D') * den (round f s N D))
under_round f s N D N' D' D0 D0' h t =
    let y = round f false N' D' in
    let x₀ = round f false N D in
    let x = round f s N D in
    let m = round_mono f N D N' D' D0 D0' h in
    let vy = round_value f false N' D' (round_under f N' D' t) in
    let fx = below_finite x₀ y false (grid f N' D') (2 ^ low f) (round_clear f N D) vy m in
    let g = round_under f N D fx in
    let v₀ = round_value f false N D g in
    let v = round_value f s N D g in
    let k : grid f N D * den y ≤ num y * 2 ^ low f =
    transfer (grid f N D) (num y) (2 ^ low f) (den y) (num x₀) (num y) (den x₀) (den y) (den_pos x₀) (den_pos y)
    (sym (value_cross x₀ false (grid f N D) (2 ^ low f) v₀)) refl (le_cross x₀ y (round_clear f N D) (round_clear f N' D') fx t m) in (
      value_finite x s (grid f N D) (2 ^ low f) v,
      transfer (num x) (num y) (den x) (den y) (grid f N D) (num y) (2 ^ low f) (den y) (pow_pos (low f)) (den_pos y) (value_cross x s (grid f N D) (2 ^ low f) v) refl k,
    )

-- ---- 2 ^ prec, as a name: the numerals of the proofs below are products of it
abbrev E : ℕ
E = 2 ^ 53

-- a fraction that is 1/2 at least is in the normal range
normal : (a c : ℕ) → c ≤ a * 2 → 2 ^ 52 * c ≤ a * 2 ^ 1074
normal a c h =
    le_trans (mul-le-mul_left (2 ^ 52) h)
    (le_trans (le_of_eq (mul_comm (2 ^ 52) (a * 2) ∙ mul_assoc a 2 (2 ^ 52))) (mul-le-mul_left a (lit≤ {m = 2 * 2 ^ 52} {n = 2 ^ 1074} tt)))

pub rel : (s : Bool) (a c : ℕ) → 0 < c → c ≤ a * 2 → T (finite (round binary64 false a c))
    → let r = round binary64 s a c in (num r * c * E ≤ a * den r * E + a * den r) × (a * den r * E ≤ num r * c * E + a * den r)
rel s a c C h t = relative binary64 s a c C (normal a c h) t

more : (x : ℕ) → x * E + x ≡ x * (E + 1)
more x = omega arith

less : (x y : ℕ) → x * E ≤ y * E + x → x * (E - 1) ≤ y * E
less x y h = omega arith

-- ---- the five steps, as fractions: N / D is n, X / dx is |s|, and the roundings are 7/8 * n, the bound of s * n, s * n itself, and n * n
chain₁ : (X dx r dr N D : ℕ) → 0 < dr → X * dr ≤ r * dx → r * (8 * D) * E ≤ 7 * N * dr * (E + 1) → X * (8 * D * E) ≤ 7 * N * (E + 1) * dx
chain₁ X dx r dr N D P h g =
    through X r (7 * N * (E + 1)) dx dr (8 * D * E) P h (le_trans (le_of_eq (sym (mul_assoc r (8 * D) E))) (le_trans g (le_of_eq (mul_right_comm (7 * N) dr (E + 1)))))

chain₂ : (X dx N D : ℕ) → X * (8 * D * E) ≤ 7 * N * (E + 1) * dx → X * N * (8 * D * E * D) ≤ 7 * N * (E + 1) * N * (dx * D)
chain₂ X dx N D h =
    le_trans (le_of_eq (mul-mul-mul_comm X N (8 * D * E) D))
    (le_trans (mul-le-mul h (le_refl (N * D))) (le_of_eq (mul-mul-mul_comm (7 * N * (E + 1)) dx N D)))

-- A ≤ F * (E + 1) / E, and n * n ≤ B * E / (E - 1)
chain₃ : (A dA B dB N D : ℕ) → 0 < D → A * (8 * D * E * D) * E ≤ 7 * N * (E + 1) * N * dA * (E + 1) → N * N * dB * (E - 1) ≤ B * (D * D) * E
    → A * dB * (8 * E * (E - 1)) ≤ 7 * (E + 1) * (E + 1) * (B * dA)
chain₃ A dA B dB N D D0 h g =
    le_of_mul-le-mul_right
    (le_trans (le_of_eq (left A dB D E (E - 1)))
    (le_trans (mul-le-mul h (le_refl (dB * (E - 1))))
    (le_trans (le_of_eq (mid N (E + 1) dA dB (E - 1)))
    (le_trans (mul-le-mul_left (7 * (E + 1) * (E + 1) * dA) g) (le_of_eq (right (E + 1) dA B D E))))))
    (mul-pos (mul-pos D0 D0) (lit≤ {m = 1} {n = E} tt))
  where
    left : (A dB D W M : ℕ) → A * dB * (8 * W * M) * (D * D * W) ≡ A * (8 * D * W * D) * W * (dB * M)
    left A dB D W M = simp (mul_assoc, mul_comm, mul_left_comm)

    mid : (N U dA dB M : ℕ) → 7 * N * U * N * dA * U * (dB * M) ≡ 7 * U * U * dA * (N * N * dB * M)
    mid N U dA dB M = simp (mul_assoc, mul_comm, mul_left_comm)

    right : (U dA B D W : ℕ) → 7 * U * U * dA * (B * (D * D) * W) ≡ 7 * U * U * (B * dA) * (D * D * W)
    right U dA B D W = simp (mul_assoc, mul_comm)

-- 7 N N (E + 1) / (8 D D E) is at most 32, for N ≤ 4 D
out : (D W : ℕ) → 7 * (2 * W) * (4 * D * (4 * D)) ≡ 28 * (8 * D * W * D)
out D W = omega arith

wide : (x : ℕ) → 28 * x ≤ 32 * x
wide x = omega arith

big : (N D : ℕ) → N ≤ 4 * D → 7 * N * (E + 1) * N * 1 ≤ 32 * (8 * D * E * D)
big N D h =
    le_trans (le_of_eq (mul-one (7 * N * (E + 1) * N) ∙ ap (λ (z : ℕ). z * N) (mul_right_comm 7 N (E + 1)) ∙ mul_assoc (7 * (E + 1)) N N))
    (le_trans (mul-le-mul {n₂ = 7 * (2 * E)} (mul-le-mul_left 7 (lit≤ {m = E + 1} {n = 2 * E} tt)) (mul-le-mul h h))
    (le_trans (le_of_eq (out D E)) (wide (8 * D * E * D))))

-- ---- on floats
abs_num : (x : Float) → num (abs x) ≡ num x
unfolding abs
abs_num nan = refl
abs_num (inf s) = refl
abs_num (fin s m e) = refl

abs_den : (x : Float) → den (abs x) ≡ den x
unfolding abs
abs_den nan = refl
abs_den (inf s) = refl
abs_den (fin s m e) = refl

abs_clear : (x : Float) → T (finite x) → T (clear (abs x)) × T (finite (abs x))
unfolding abs
abs_clear nan f = absurd f
abs_clear (inf s) f = absurd f
abs_clear (fin s m e) f = (tt, tt)

gate_is : (n : Float) → T (plus n) → mul binary64 seven_eighths n ≡ round binary64 false (7 * num n) (8 * den n)
unfolding of_bits
gate_is n p = mul_is seven_eighths n tt (plus_finite n p) ∙ ap (λ (s : Bool). round binary64 (unlike false s) (7 * num n) (8 * den n)) (plus_sgn n p)

pub square_is : (n : Float) → T (plus n) → mul binary64 n n ≡ round binary64 false (num n * num n) (den n * den n)
square_is n p = mul_is n n (plus_finite n p) (plus_finite n p) ∙ ap (λ (s : Bool). round binary64 (unlike s s) (num n * num n) (den n * den n)) (plus_sgn n p)

-- 7/8 and one part in 2 ^ 51
abbrev pub slope : ℕ
slope = 7 * 2 ^ 48 + 1

module _ (s n : Float) (fs : T (finite s)) (hn : In 1 0 4 0 n) (gate : T (le (abs s) (mul binary64 seven_eighths n))) where
  n_fine : T (finite n)
  n_fine = plus_finite n hn.sign

  -- D ≤ N, and N ≤ 4 * D
  n_least : den n ≤ num n
  n_least = le_trans (le_of_eq (sym (one-mul (den n)))) (le_trans hn.least (le_of_eq (mul-one (num n))))

  n_most : num n ≤ 4 * den n
  n_most = le_trans (le_of_eq (sym (mul-one (num n)))) hn.most

  r₁ : Float
  r₁ = round binary64 false (7 * num n) (8 * den n)

  r₁_fine : T (finite r₁)
  unfolding r₁
  r₁_fine = (round_mag false (7 * num n) (8 * den n) 4 1 4 0 (mul-pos (lit≤ tt) (den_pos n)) (lit≤ tt) (four (num n) (den n) n_most) tt).fine
    where
      four : (N D : ℕ) → N ≤ 4 * D → 7 * N * 1 ≤ 4 * (8 * D)
      four N D h = omega arith

  s_most : num s * den r₁ ≤ num r₁ * den s
  unfolding r₁
  s_most =
      subst (λ (k : ℕ). k * den r₁ ≤ num r₁ * den s) (abs_num s)
      (subst (λ (k : ℕ). num (abs s) * den r₁ ≤ num r₁ * k) (abs_den s)
      (le_cross (abs s) r₁ (abs_clear s fs).0 (round_clear binary64 (7 * num n) (8 * den n)) (abs_clear s fs).1 r₁_fine
      (subst (λ (z : Float). T (le (abs s) z)) (gate_is n hn.sign) gate)))

  s_bound : num s * (8 * den n * E) ≤ 7 * num n * (E + 1) * den s
  unfolding r₁
  s_bound =
      chain₁ (num s) (den s) (num r₁) (den r₁) (num n) (den n) (den_pos r₁) s_most
      (le_trans (rel false (7 * num n) (8 * den n) (mul-pos (lit≤ tt) (den_pos n)) (half (num n) (den n) n_least) r₁_fine).0 (le_of_eq (more (7 * num n * den r₁))))
    where
      half : (N D : ℕ) → D ≤ N → 8 * D ≤ 7 * N * 2
      half N D h = omega arith

  -- the bound of s * n, rounded
  F : ℕ
  F = 7 * num n * (E + 1) * num n

  G : ℕ
  G = 8 * den n * E * den n

  r₂ : Float
  r₂ = round binary64 false F G

  G_pos : 0 < G
  unfolding G
  G_pos = mul-pos (mul-pos (mul-pos (lit≤ tt) (den_pos n)) (lit≤ tt)) (den_pos n)

  r₂_fine : T (finite r₂)
  unfolding r₂ F G
  r₂_fine = (round_mag false F G 32 1 32 0 G_pos (lit≤ tt) (big (num n) (den n) n_most) tt).fine

  half₂ : G ≤ F * 2
  unfolding F G
  half₂ =
      le_trans (le_of_eq (regroup (den n) E))
      (le_trans (mul-le-mul {n₂ = 7 * (E + 1) * 2} (lit≤ {m = 8 * E} {n = 7 * (E + 1) * 2} tt) (mul-le-mul n_least n_least))
      (le_of_eq (regroup' (num n) (E + 1))))
    where
      regroup : (D W : ℕ) → 8 * D * W * D ≡ 8 * W * (D * D)
      regroup D W = ap (λ (z : ℕ). z * D) (mul_right_comm 8 D W) ∙ mul_assoc (8 * W) D D

      regroup' : (N U : ℕ) → 7 * U * 2 * (N * N) ≡ 7 * N * U * N * 2
      regroup' N U = omega arith

  A : Float
  A = mul binary64 s n

  B : Float
  B = mul binary64 n n

  -- |s * n|, as rounded
  A_most : T (finite A) × (num A * G * E ≤ F * den A * (E + 1))
  unfolding A r₂ F G
  A_most =
      let x = round binary64 (unlike (sgn s) (sgn n)) (num s * num n) (den s * den n) in
      let u = under_round binary64 (unlike (sgn s) (sgn n)) (num s * num n) (den s * den n) F G (mul-pos (den_pos s) (den_pos n)) G_pos (chain₂ (num s) (den s) (num n) (den n) s_bound) r₂_fine in
      let e = (rel false F G G_pos half₂ r₂_fine).0 in
      subst (λ (z : Float). T (finite z) × (num z * G * E ≤ F * den z * (E + 1))) (sym (mul_is s n fs n_fine)) (
        u.0,
        le_trans (le_of_eq (mul_assoc (num x) G E))
            (le_trans (through (num x) (num r₂) (F * (E + 1)) (den x) (den r₂) (G * E) (den_pos r₂) u.1 (le_trans (le_of_eq (sym (mul_assoc (num r₂) G E))) (le_trans e (le_of_eq (more (F * den r₂) ∙ mul_right_comm F (den r₂) (E + 1))))))
            (le_of_eq (mul_right_comm F (E + 1) (den x)))),
      )

  B_in : In 1 0 16 0 B
  unfolding B
  B_in = mul_in hn hn tt

  B_least : num n * num n * den B * (E - 1) ≤ num B * (den n * den n) * E
  unfolding B
  B_least =
      let y = round binary64 false (num n * num n) (den n * den n) in
      let fy : T (finite y) = subst (λ (z : Float). T (finite z)) (square_is n hn.sign) (in_mag B_in).fine in
      subst (λ (z : Float). num n * num n * den z * (E - 1) ≤ num z * (den n * den n) * E) (sym (square_is n hn.sign))
      (less (num n * num n * den y) (num y * (den n * den n)) (rel false (num n * num n) (den n * den n) (mul-pos (den_pos n) (den_pos n)) (le_trans (mul-le-mul n_least n_least) (twice (num n * num n))) fy).1)
    where
      twice : (x : ℕ) → x ≤ x * 2
      twice x = omega arith

  -- |s * n| / (n * n), before it is rounded
  cross : num A * den B * (8 * E * (E - 1)) ≤ 7 * (E + 1) * (E + 1) * (num B * den A)
  unfolding F G
  cross = chain₃ (num A) (den A) (num B) (den B) (num n) (den n) (den_pos n) A_most.1 B_least

  -- the quotient, for a dividend a that is no larger than s * n as rounded
  pub quotient_mag : (a : Float) → T (finite a) → num a * den (mul binary64 s n) ≤ num (mul binary64 s n) * den a → Mag slope 51 (div binary64 a (mul binary64 n n))
  unfolding A B
  quotient_mag a fa h =
      let b = mul binary64 n n in
      let b0 : 0 < num b = first_pos (num b) 1 (lt_of_lt_of_le (mul-pos (lit≤ tt) (den_pos b)) B_in.least) in
      subst (λ (z : Float). Mag slope 51 z) (sym (div_is a b fa (in_mag B_in).fine b0))
      (round_mag (unlike (sgn a) (sgn b)) (num a * den b) (num b * den a) (7 * (E + 1) * (E + 1)) (8 * E * (E - 1)) slope 51 (mul-pos b0 (den_pos a)) (lit≤ tt)
      (widen (num a) (den a) (num A) (den A) (num b) (den b) (8 * E * (E - 1)) (7 * (E + 1) * (E + 1)) (den_pos A) h cross) tt)
    where
      widen : (a da A dA b db Q P : ℕ) → 0 < dA → a * dA ≤ A * da → A * db * Q ≤ P * (b * dA) → a * db * Q ≤ P * (b * da)
      widen a da A dA b db Q P D0 h g =
          le_trans (le_of_eq (mul_assoc a db Q)) (le_trans (through a A (P * b) da dA (db * Q) D0 h (le_trans (le_of_eq (sym (mul_assoc A db Q))) (le_trans g (le_of_eq (sym (mul_assoc P b dA)))))) (le_of_eq (mul_assoc P b da)))

  -- s / n, directly
  pub ratio_mag : Mag slope 51 (div binary64 s n)
  ratio_mag =
      let n0 : 0 < num n = lt_of_lt_of_le (den_pos n) n_least in
      subst (λ (z : Float). Mag slope 51 z) (sym (div_is s n fs n_fine n0))
      (round_mag (unlike (sgn s) (sgn n)) (num s * den n) (num n * den s) (7 * (E + 1)) (8 * E) slope 51 (mul-pos n0 (den_pos s)) (lit≤ tt)
      (le_trans (le_of_eq (left (num s) (den n) E)) (le_trans s_bound (le_of_eq (right (num n) (den s) (E + 1))))) tt)
    where
      left : (X D W : ℕ) → X * D * (8 * W) ≡ X * (8 * D * W)
      left X D W = omega arith

      right : (N dx U : ℕ) → 7 * N * U * dx ≡ 7 * U * (N * dx)
      right N dx U = omega arith
