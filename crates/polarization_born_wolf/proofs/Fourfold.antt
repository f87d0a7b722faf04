-- A quarter of twice y and twice y again is y. Assumes nothing.
use mathlib.Core.Path.{◌≡◌, refl, sym, ap, ◌∙◌, subst}
use Prim.Native.Nat.{ℕ, ◌+◌, ◌*◌, ◌^◌, ◌≤◌, ◌<◌}
use native.Mathlib.Nat.{mul_comm, mul_assoc, mul_left_comm, one-mul, mul-pos, le_trans, le_of_eq, lt_of_le_of_lt, le_of_mul-le-mul_right, mul-le-mul_right, mul-le-mul}
use native.Mathlib.Omega.{arith}
use mathlib.Core.Bool.{Bool, true, false}
use lib.Dec.{T, lit≤, lit<}
use lib.Pow.{pow-add}
use lib.Ieee.{Float, binary64, unlike, round, sum, of_bits}
use lib.Ieee.Scale.{finite, round_same}
use lib.Ieee.Exact.{HasValue, round_exact}
use lib.Ieee.Positive.{num, den, den_pos}
use Rattle.ieee.specs.Operators.{◌⊕◌, ◌⊗◌}
use Rattle.ieee.specs.Functions.{two, quarter}
use Rattle.ieee.specs.Range.{sgn, Pow}
use Rattle.ieee.proofs.Range.Round.{value_cross, value_sign, value_finite}
use Rattle.ieee.proofs.Range.Values.{Whole, whole, round_itself}
use Rattle.ieee.proofs.Range.Laws.{mul_is, add_is}
use Rattle.polarization_value.specs.Value.{Finite}

-- ---- 2 ^ i times y is an f64, for a y of at most 2 ^ 1010
at_most : (a W d n K L I : ℕ) → 0 < d → I * n * L ≡ a * d → n ≤ K * d → I ≤ W → a ≤ W * (K * L)
at_most a W d n K L I D e h g = le_of_mul-le-mul_right (le_trans (le_of_eq (sym e)) (le_trans (mul-le-mul_right L (mul-le-mul g h)) (le_of_eq (go W K d L)))) D
  where
    go : (W K d L : ℕ) → W * (K * d) * L ≡ W * (K * L) * d
    go W K d L = simp (mul_assoc, mul_comm)

module _ (y : Float) (f : Finite y) (p : Pow 1010 y) (i : ℕ) (small : 2 ^ i ≤ 16) where
  w : Whole binary64 y
  w = whole binary64 y f.fine f.held

  is : 2 ^ i * num y * 2 ^ 1074 ≡ w.m * 2 ^ (w.j + i) * den y
  is =
      mul_assoc (2 ^ i) (num y) (2 ^ 1074) ∙ ap (λ (n : ℕ). 2 ^ i * n) w.is
      ∙ go (2 ^ i) w.m (2 ^ w.j) (den y) ∙ ap (λ (n : ℕ). w.m * n * den y) (sym (pow-add 2 w.j i))
    where
      go : (a m b d : ℕ) → a * (m * b * d) ≡ m * (b * a) * d
      go a m b d = simp (mul_assoc, mul_comm, mul_left_comm)

  scaled : HasValue (round binary64 (sgn y) (2 ^ i * num y) (den y)) (sgn y) (2 ^ i * num y) (den y)
  scaled =
      round_exact binary64 (sgn y) (2 ^ i * num y) (den y) w.m (w.j + i) (den_pos y) w.few
      (lt_of_le_of_lt (at_most (w.m * 2 ^ (w.j + i)) 16 (den y) (num y) (2 ^ 1010) (2 ^ 1074) (2 ^ i) (den_pos y) is p.most small) (lit< {m = 16 * (2 ^ 1010 * 2 ^ 1074)} {n = 2 ^ (1074 + 1024)} tt)) is

-- ---- z is 2 ^ i times y
record Times (i : ℕ) (y z : Float) : Type 0 where
  fine : T (finite z)
  sign : sgn z ≡ sgn y
  value : num z * den y ≡ 2 ^ i * num y * den z

of_round : (y : Float) → Finite y → Pow 1010 y → (i : ℕ) → 2 ^ i ≤ 16 → (z : Float) → z ≡ round binary64 (sgn y) (2 ^ i * num y) (den y) → Times i y z
of_round y f p i small z e =
    let v = subst (λ (r : Float). HasValue r (sgn y) (2 ^ i * num y) (den y)) (sym e) (scaled y f p i small) in
    record { fine = value_finite z (sgn y) (2 ^ i * num y) (den y) v; sign = value_sign z (sgn y) (2 ^ i * num y) (den y) v; value = value_cross z (sgn y) (2 ^ i * num y) (den y) v }

level : (s : Bool) (a c : ℕ) → sum binary64 s a s a c ≡ round binary64 s (a + a) c
unfolding sum
level true a c = refl
level false a c = refl

clear : (s : Bool) → unlike false s ≡ s
clear true = refl
clear false = refl

module _ (y : Float) (f : Finite y) (p : Pow 1010 y) where
  twice : Times 1 y (two ⊗ y)
  unfolding of_bits
  twice =
      of_round y f p 1 (lit≤ tt) (two ⊗ y)
      (mul_is two y tt f.fine ∙ ap (λ (s : Bool). round binary64 s (2 * num y) (1 * den y)) (clear (sgn y)) ∙ ap (round binary64 (sgn y) (2 * num y)) (one-mul (den y)))

  both : Times 2 y ((two ⊗ y) ⊕ (two ⊗ y))
  both = of_round y f p 2 (lit≤ tt) (u ⊕ u) (add_is u u twice.fine twice.fine ∙ level (sgn u) (n * d) (d * d) ∙ ap (λ (s : Bool). round binary64 s (n * d + n * d) (d * d)) twice.sign ∙ round_same binary64 (sgn y) (n * d + n * d) (d * d) (2 ^ 2 * num y) (den y) (mul-pos (den_pos u) (den_pos u)) (den_pos y) (go n d (num y) (den y) twice.value))
    where
      u : Float
      u = two ⊗ y

      n : ℕ
      n = num u

      d : ℕ
      d = den u

      go : (n d a c : ℕ) → n * c ≡ 2 ^ 1 * a * d → (n * d + n * d) * c ≡ 2 ^ 2 * a * (d * d)
      go n d a c e = join n d c ∙ ap (λ (x : ℕ). 2 * d * x) e ∙ apart d a
        where
          join : (n d c : ℕ) → (n * d + n * d) * c ≡ 2 * d * (n * c)
          join n d c = omega arith

          apart : (d a : ℕ) → 2 * d * (2 ^ 1 * a * d) ≡ 2 ^ 2 * a * (d * d)
          apart d a = omega arith

  pub fourfold : quarter ⊗ ((two ⊗ y) ⊕ (two ⊗ y)) ≡ y
  unfolding of_bits
  fourfold =
      let z = (two ⊗ y) ⊕ (two ⊗ y) in
      mul_is quarter z tt both.fine ∙ ap (λ (s : Bool). round binary64 s (1 * num z) (4 * den z)) (clear (sgn z) ∙ both.sign)
      ∙ round_same binary64 (sgn y) (1 * num z) (4 * den z) (num y) (den y) (mul-pos (lit≤ tt) (den_pos z)) (den_pos y) (go (num z) (den z) (num y) (den y) both.value)
      ∙ round_itself binary64 y f.fine f.held
    where
      go : (n d a c : ℕ) → n * c ≡ 2 ^ 2 * a * d → 1 * n * c ≡ a * (4 * d)
      go n d a c e = ap (λ (x : ℕ). x * c) (one-mul n) ∙ e ∙ apart a d
        where
          apart : (a d : ℕ) → 2 ^ 2 * a * d ≡ a * (4 * d)
          apart a d = omega arith
