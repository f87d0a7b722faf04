-- `sqrt` is IEEE 754's squareRoot, for all f64, and there is no other. Assumes nothing.
use mathlib.Core.Path.{◌≡◌, refl, sym, ap, ◌∙◌}
use mathlib.Core.Logic.{inl, inr}
use Prim.Native.Nat.{ℕ, zero, suc, ◌+◌, ◌*◌, ◌^◌, ◌≤◌, ◌<◌}
use native.Mathlib.Nat.{lt_irrefl, lt_of_not-le, eq-or-lt_of_le, eq_of_mul-eq-mul_right, mul_right_comm, zero-lt-suc}
use native.Mathlib.Decide.{dec_le}
use native.Mathlib.Omega.{arith}
use mathlib.Core.Bool.{true, false}
use lib.Dec.{T, ltb→lt, lt→ltb, eqb-suc-zero}
use lib.Pow.{pow_pos}
use lib.Ieee.{Float, nan, inf, fin, binary64, up, down, lt, of_bits}
use lib.Ieee.Fits.{up_pos}
use lib.Ieee.Positive.{num, den, positive, positive-finite}
use Rattle.ieee.specs.Count.{count}
use Rattle.ieee.specs.Functions.{zero_f, is_zero}
use Rattle.ieee.specs.Range.{plus}
use Rattle.ieee.proofs.Count.{count_is}
use Rattle.math_root.specs.Root.{square_root, sqrt}
use Rattle.math_root.specs.Nearest.{square, Nearest, SquareRoot, OneSquareRoot}
use Rattle.math_root.proofs.Laws.{fits_unique}
use Rattle.math_root.proofs.Nearest.{root_is_nearest}

-- ---- the other cases
no_less : (a d : ℕ) → a < 0 * 1 * d → ⊥
no_less a d h = omega arith

no_zero : (u d : ℕ) → 0 < 0 * u * 1 + 0 * 1 * d → ⊥
no_zero u d h = omega arith

of_zero : (x : Float) → T (is_zero x) → sqrt x ≡ x
unfolding square_root
of_zero nan z = absurd z
of_zero (inf s) z = absurd z
of_zero (fin s zero e) z = refl
of_zero (fin s (suc m) e) z = absurd (rw eqb-suc-zero at z)

below_zero : (x : Float) → T (lt x zero_f) → sqrt x ≡ nan
unfolding square_root lt of_bits
below_zero nan h = absurd h
below_zero (inf true) h = refl
below_zero (inf false) h = absurd h
below_zero (fin true zero e) h = absurd (no_zero (up e) (down e) (ltb→lt 0 (0 * up e * 1 + 0 * 1 * down e) h))
below_zero (fin true (suc m) e) h = refl
below_zero (fin false m e) h = absurd (no_less (m * up e * 1) (down e) (ltb→lt (m * up e * 1) (0 * 1 * down e) h))

of_infinity : sqrt (inf false) ≡ inf false
unfolding square_root
of_infinity = refl

of_nan : sqrt nan ≡ nan
unfolding square_root
of_nan = refl

pub sqrt_is_square_root : SquareRoot sqrt
sqrt_is_square_root = record { nearest = root_is_nearest; of_zero = of_zero; below_zero = below_zero; of_infinity = of_infinity; of_nan = of_nan }

-- ---- there is no other
above_plus : (x : Float) → T (positive x) → T (plus x)
above_plus nan p = absurd p
above_plus (inf s) p = absurd p
above_plus (fin true m e) p = absurd p
above_plus (fin false m e) p = tt

same_count : (x r s : Float) → Nearest x r → Nearest x s → count r ≡ count s
same_count x r s a b = go (dec_le (count r) (count s))
  where
    apart : (r s X : ℕ) → X < square (r + s) → square (s + r) < X → ⊥
    apart r s X h k = omega arith

    less : count r < count s → ⊥
    less h = apart (count r) (count s) (4 * (count x * 2 ^ 1074)) (a.larger s b.held (above_plus s b.above) h) (b.smaller r a.held (above_plus r a.above) h)

    more : count s < count r → ⊥
    more h = apart (count s) (count r) (4 * (count x * 2 ^ 1074)) (b.larger r a.held (above_plus r a.above) h) (a.smaller s b.held (above_plus s b.above) h)

    go : Dec (count r ≤ count s) → count r ≡ count s
    go (yes l) = elim (eq-or-lt_of_le l) [ inl e ↦ e | inr h ↦ absurd (less h) ]
    go (no l) = absurd (more (lt_of_not-le l))

same_nearest : (x r s : Float) → Nearest x r → Nearest x s → r ≡ s
same_nearest x r s a b = fits_unique binary64 r s a.held b.held a.above b.above (cross (num r) (den r) (num s) (den s) (count r) (count s) (2 ^ 1074) (pow_pos 1074) (count_is r a.held (positive-finite r a.above)) (count_is s b.held (positive-finite s b.above)) (same_count x r s a b))
  where
    -- R * c = n * U and S * d = m * U with R = S: n * d = m * c
    cross : (n c m d R S U : ℕ) → 0 < U → R * c ≡ n * U → S * d ≡ m * U → R ≡ S → n * d ≡ m * c
    cross n c m d R S U pos p q e =
        eq_of_mul-eq-mul_right U pos (n * d) (m * c)
        (mul_right_comm n d U ∙ ap (λ (z : ℕ). z * d) (sym p) ∙ ap (λ (z : ℕ). z * c * d) e ∙ mul_right_comm S c d ∙ ap (λ (z : ℕ). z * c) q ∙ mul_right_comm m U c)

negative_below : (m u d : ℕ) → 0 < u → 0 < suc m * u * 1 + 0 * 1 * d
negative_below m zero d h = absurd (lt_irrefl 0 h)
negative_below m (suc u) d h = omega arith

pub one_square_root : OneSquareRoot
unfolding lt of_bits
one_square_root f g a b nan h = a.of_nan ∙ sym b.of_nan
one_square_root f g a b (inf true) h = a.below_zero (inf true) tt ∙ sym (b.below_zero (inf true) tt)
one_square_root f g a b (inf false) h = a.of_infinity ∙ sym b.of_infinity
one_square_root f g a b (fin s zero e) h = a.of_zero (fin s zero e) tt ∙ sym (b.of_zero (fin s zero e) tt)
one_square_root f g a b (fin true (suc m) e) h =
    let l : T (lt (fin true (suc m) e) zero_f) = lt→ltb 0 (suc m * up e * 1 + 0 * 1 * down e) (negative_below m (up e) (down e) (up_pos e)) in
    a.below_zero (fin true (suc m) e) l ∙ sym (b.below_zero (fin true (suc m) e) l)
one_square_root f g a b (fin false (suc m) e) h =
    let p : T (positive (fin false (suc m) e)) = lt→ltb 0 (suc m) (zero-lt-suc m) in
    same_nearest (fin false (suc m) e) (f (fin false (suc m) e)) (g (fin false (suc m) e)) (a.nearest (fin false (suc m) e) h p) (b.nearest (fin false (suc m) e) h p)
