-- What is exact: a product with 1, and half of a number twice, up to 1. Assumes nothing.
use mathlib.Core.Path.{◌≡◌, refl, sym, ap, ◌∙◌, subst}
use Prim.Native.Nat.{ℕ, suc, ◌+◌, ◌*◌, ◌^◌, ◌≤◌, ◌<◌}
use native.Mathlib.Nat.{le_trans, le_of_eq, lt_of_le_of_lt, mul-one, one-mul, mul_assoc, mul_left_comm, mul_right_comm, mul-le-mul_left, mul-le-mul_right, le_of_mul-le-mul_right, eq_of_mul-eq-mul_right, mul-pos, pow-succ'}
use native.Mathlib.Omega.{arith}
use mathlib.Core.Bool.{Bool, true, false}
use lib.Dec.{T, lit≤}
use lib.Ieee.{Float, binary64, unlike, round, sum, fits, of_bits}
use lib.Ieee.Scale.{finite, round_same}
use lib.Ieee.Exact.{HasValue, round_exact}
use lib.Ieee.Positive.{num, den, den_pos}
use Rattle.ieee.specs.Operators.{◌⊕◌, ◌⊗◌}
use Rattle.ieee.specs.Functions.{one, half}
use Rattle.ieee.specs.Range.{sgn, Mag}
use Rattle.ieee.proofs.Range.Round.{value_cross, value_sign, value_finite}
use Rattle.ieee.proofs.Range.Values.{whole, round_itself}
use Rattle.ieee.proofs.Range.Laws.{mul_is, add_is}

clear_left : (s : Bool) → unlike false s ≡ s
clear_left true = refl
clear_left false = refl

clear_right : (s : Bool) → unlike s false ≡ s
clear_right true = refl
clear_right false = refl

-- a fraction that is x's, with x's sign
itself : (x : Float) → T (finite x) → T (fits binary64 x) → (s : Bool) (n d : ℕ) → s ≡ sgn x → 0 < d → n * den x ≡ num x * d → round binary64 s n d ≡ x
itself x f h s n d s_is D e =
    round_same binary64 s n d (num x) (den x) D (den_pos x) e ∙ ap (λ (t : Bool). round binary64 t (num x) (den x)) s_is ∙ round_itself binary64 x f h

pub one_times : (x : Float) → T (finite x) → T (fits binary64 x) → one ⊗ x ≡ x
unfolding of_bits
one_times x f h =
    mul_is one x tt f ∙ itself x f h (unlike false (sgn x)) (1 * num x) (1 * den x) (clear_left (sgn x)) (mul-pos (lit≤ tt) (den_pos x)) (same (num x) (den x))
  where
    same : (n d : ℕ) → 1 * n * d ≡ n * (1 * d)
    same n d = omega arith

module _ (x : Float) (m : Mag 1 0 x) (h : T (fits binary64 x)) where
  abbrev N : ℕ
  N = num x * den x + num x * den x

  abbrev D : ℕ
  D = den x * den x

  abbrev r : Float
  r = round binary64 (sgn x) N D

  twice : x ⊕ x ≡ r
  twice = add_is x x m.fine m.fine ∙ alike (sgn x) (num x * den x) (den x * den x)
    where
      alike : (s : Bool) (a c : ℕ) → sum binary64 s a s a c ≡ round binary64 s (a + a) c
      alike true a c = unfold sum in refl
      alike false a c = unfold sum in refl

  -- twice x is exact
  value : HasValue r (sgn x) N D
  value =
      let w = whole binary64 x m.fine h in
      round_exact binary64 (sgn x) N D w.m (suc w.j) (mul-pos (den_pos x) (den_pos x)) w.few
      (room (num x) (den x) w.m w.j (den_pos x) m.most w.is) (same (num x) (den x) (2 ^ 1074) w.m w.j w.is)
    where
      same : (n d K q j : ℕ) → n * K ≡ q * 2 ^ j * d → (n * d + n * d) * K ≡ q * 2 ^ suc j * (d * d)
      same n d K q j e = first n d K ∙ ap (λ (z : ℕ). 2 * (z * d)) e ∙ rw (pow-succ' 2 j) (again q (2 ^ j) d)
        where
          first : (n d K : ℕ) → (n * d + n * d) * K ≡ 2 * (n * K * d)
          first n d K = omega arith

          again : (q K d : ℕ) → 2 * (q * K * d * d) ≡ q * (2 * K) * (d * d)
          again q K d = omega arith

      room : (n d q j : ℕ) → 0 < d → n * 2 ^ 0 ≤ 1 * d → n * 2 ^ 1074 ≡ q * 2 ^ j * d → q * 2 ^ suc j < 2 ^ (1074 + 1024)
      room n d q j p a e =
          lt_of_le_of_lt (le_trans (le_of_eq (ap (λ (z : ℕ). q * z) (pow-succ' 2 j) ∙ mul_left_comm q 2 (2 ^ j))) (mul-le-mul_left 2 (under n d (2 ^ 1074) (q * 2 ^ j) p (less n d a) e)))
          (lit≤ {m = suc (2 * 2 ^ 1074)} {n = 2 ^ (1074 + 1024)} tt)
        where
          less : (n d : ℕ) → n * 2 ^ 0 ≤ 1 * d → n ≤ d
          less n d a = omega arith

          under : (n d K y : ℕ) → 0 < d → n ≤ d → n * K ≡ y * d → y ≤ K
          under n d K y p a e = le_of_mul-le-mul_right (le_trans (le_of_eq (sym e)) (le_trans (mul-le-mul_right K a) (le_of_eq (swap d K)))) p
            where
              swap : (d K : ℕ) → d * K ≡ K * d
              swap d K = omega arith

  pub half_twice : (x ⊕ x) ⊗ half ≡ x
  half_twice =
      ap (λ (z : Float). z ⊗ half) twice
      ∙ halved
      ∙ itself x m.fine h (unlike (sgn r) false) (num r * 1) (den r * 2) (clear_right (sgn r) ∙ value_sign r (sgn x) N D value) (mul-pos (den_pos r) (lit≤ tt))
      (cross (num x) (den x) (num r) (den r) (den_pos x) (value_cross r (sgn x) N D value))
    where
      halved : r ⊗ half ≡ round binary64 (unlike (sgn r) false) (num r * 1) (den r * 2)
      halved = unfold of_bits in mul_is r half (value_finite r (sgn x) N D value) tt

      cross : (n d a c : ℕ) → 0 < d → a * (d * d) ≡ (n * d + n * d) * c → a * 1 * d ≡ n * (c * 2)
      cross n d a c p e = eq_of_mul-eq-mul_right d p (a * 1 * d) (n * (c * 2)) (left a d ∙ e ∙ right n d c)
        where
          left : (a d : ℕ) → a * 1 * d * d ≡ a * (d * d)
          left a d = omega arith

          right : (n d c : ℕ) → (n * d + n * d) * c ≡ n * (c * 2) * d
          right n d c = omega arith
