-- What the tests x == 0 and 0 <= x <= hi say of a range: a zero may have either sign. Assumes nothing.
use mathlib.Core.Path.{◌≡◌, sym, ap, ◌∙◌, subst}
use Prim.Native.Nat.{ℕ, ◌*◌, ◌^◌, ◌≤◌, ◌<◌, zero-le}
use native.Mathlib.Nat.{le_trans, le_of_eq, not-le_of_lt, zero-mul, mul-pos}
use native.Mathlib.Omega.{arith}
use mathlib.Core.Bool.{true, false, not, ◌||◌, beq}
use lib.Dec.{T, ltb, eqb, ltb→lt, eqb→eq, not_T}
use lib.IntN.{pos}
use lib.Ieee.{Float, nan, inf, fin, up, down, le, eq}
use lib.Ieee.Scale.{finite}
use lib.Ieee.Bits.{is_true}
use lib.Ieee.Fits.{and_l, and_i, down_pos}
use lib.Ieee.Positive.{num, den, den_pos, through}
use Rattle.ieee.specs.Functions.{zero_f, finite_positive}
use Rattle.ieee.specs.Range.{Mag, In, clear, plus}
use Rattle.ieee.proofs.Signs.{zero_is}
use Rattle.ieee.proofs.Range.Round.{lt_or_eq, le_cross}
use Rattle.ieee.proofs.Range.Laws.{plus_finite}
use Rattle.ieee.proofs.Range.Zero.{zero_num}

-- ---- 0 <= x <= hi
pub from_zero : {a i p j : ℕ} (x hi : Float) → In a i p j hi → T (le zero_f x) → T (le x hi) → Mag p j x
from_zero {a} {i} {p} {j} x hi h t u = go x hi h.sign h.most (subst (λ (z : Float). T (le z x)) zero_is t) u
  where
    go : (x hi : Float) → T (plus hi) → num hi * 2 ^ j ≤ p * den hi → T (le (fin false 0 (pos 0)) x) → T (le x hi) → Mag p j x
    go nan hi s m t u = absurd (unfold le in u)
    go (inf b) nan s m t u = absurd s
    go (inf b) (inf c) s m t u = absurd s
    go (inf true) (fin c n d) s m t u = absurd (unfold le in t)
    go (inf false) (fin c n d) s m t u = absurd (unfold le in u)
    go (fin b v e) nan s m t u = absurd s
    go (fin b v e) (inf c) s m t u = absurd s
    go (fin b v e) (fin true n d) s m t u = absurd s
    go (fin false v e) (fin false n d) s m t u = record { fine = tt; most = through (v * up e) (n * up d) p (down e) (down d) (2 ^ j) (down_pos d) (lt_or_eq (v * up e * down d) (n * up d * down e) true (unfold le in u)) m }
    go (fin true v e) (fin false n d) s m t u = record { fine = tt; most = le_trans (le_of_eq (ap (λ (k : ℕ). k * 2 ^ j) (sym (nought (v * up e) (down e) (eqb→eq (0 * down e) (v * up e * 1) (and_l (eqb (0 * down e) (v * up e * 1)) (false || eqb (0 * down e) 0) (unfold le in t))))) ∙ zero-mul (2 ^ j))) zero-le }
      where
        nought : (n d : ℕ) → 0 * d ≡ n * 1 → 0 ≡ n
        nought n d e = omega arith

-- ---- x == 0
pub equals_zero : (x : Float) → T (eq x zero_f) → Mag 0 0 x
equals_zero x t = go x (subst (λ (z : Float). T (eq x z)) zero_is t)
  where
    nought : (n d : ℕ) → n * 1 ≡ 0 * d → n * 1 ≤ 0 * d
    nought n d e = omega arith

    go : (x : Float) → T (eq x (fin false 0 (pos 0))) → Mag 0 0 x
    go nan t = absurd (unfold eq in t)
    go (inf s) t = absurd (unfold eq in t)
    go (fin s m e) t = record { fine = tt; most = nought (m * up e) (down e) (eqb→eq (m * up e * 1) (0 * down e) (and_l (eqb (m * up e * 1) (0 * down e)) (beq s false || eqb (m * up e * 1) 0) (unfold eq in t))) }

-- ---- not x <= 0
pub plus_clear : (x : Float) → T (plus x) → T (clear x)
plus_clear nan p = absurd p
plus_clear (inf s) p = absurd p
plus_clear (fin s m e) p = p

above_zero : {a i p j : ℕ} {x : Float} → In a i p j x → T (ltb 0 a) → T (not (le x zero_f))
above_zero {a} {i} {p} {j} {x} h t = not_T (le x zero_f) (λ u. none (num x) (den x) a i (den_pos x) h.least (ltb→lt 0 a t) (zero_cross u))
  where
    zero_cross : T (le x zero_f) → num x ≡ 0
    zero_cross u = zero_num {z = x} (record { fine = plus_finite x h.sign; most = le_cross x (fin false 0 (pos 0)) (plus_clear x h.sign) tt (plus_finite x h.sign) tt (subst (λ (z : Float). T (le x z)) zero_is u) })

    none : (n d a i : ℕ) → 0 < d → a * d ≤ n * 2 ^ i → 0 < a → n ≡ 0 → ⊥
    none n d a i D h A e = not-le_of_lt (mul-pos A D) (le_trans h (le_of_eq (ap (λ (m : ℕ). m * 2 ^ i) e ∙ zero-mul (2 ^ i))))

-- ---- finite and not x <= 0
pub in_positive : {a i p j : ℕ} {x : Float} → In a i p j x → T (ltb 0 a) → finite_positive x ≡ true
unfolding finite_positive
in_positive {x = x} h t = is_true _ (and_i (finite x) (not (le x zero_f)) (plus_finite x h.sign) (above_zero h t))
