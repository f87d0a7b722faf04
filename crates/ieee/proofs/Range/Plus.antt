-- A clear sign is kept: by a square, and by products and sums of such values, where the result is finite. Assumes nothing.
use mathlib.Core.Path.{◌≡◌, refl, sym, ap, ◌∙◌, subst}
use Prim.Native.Nat.{ℕ, ◌+◌, ◌*◌, ◌^◌}
use native.Mathlib.Nat.{le_trans, le_of_eq, mul-one}
use mathlib.Core.Bool.{Bool, true, false}
use lib.Dec.{T}
use lib.Ieee.{Float, binary64, unlike, round, sum}
use lib.Ieee.Scale.{finite}
use lib.Ieee.Positive.{num, den}
use Rattle.ieee.specs.Operators.{◌⊕◌, ◌⊗◌}
use Rattle.ieee.specs.Range.{sgn, plus, In, Pow}
use Rattle.ieee.proofs.Range.Round.{round_plus}
use Rattle.ieee.proofs.Range.Laws.{zero_under, plus_finite, plus_sgn, mul_is, add_is}

-- what is rounded with a clear sign, and finite
rounded_plus : (x : Float) (N D : ℕ) → x ≡ round binary64 false N D → T (finite x) → T (plus x)
rounded_plus x N D e f = subst (λ (z : Float). T (plus z)) (sym e) (round_plus binary64 N D (subst (λ (z : Float). T (finite z)) e f))

pub mul_plus : (x y : Float) → T (plus x) → T (plus y) → T (finite (x ⊗ y)) → T (plus (x ⊗ y))
mul_plus x y p q =
    let N = num x * num y in
    let D = den x * den y in
    rounded_plus (x ⊗ y) N D (mul_is x y (plus_finite x p) (plus_finite y q) ∙ ap (λ (s : Bool). round binary64 (unlike s (sgn y)) N D) (plus_sgn x p) ∙ ap (λ (s : Bool). round binary64 (unlike false s) N D) (plus_sgn y q))

pub sq_plus : (x : Float) → T (finite x) → T (finite (x ⊗ x)) → T (plus (x ⊗ x))
sq_plus x f =
    let N = num x * num x in
    let D = den x * den x in
    rounded_plus (x ⊗ x) N D (mul_is x x f f ∙ ap (λ (s : Bool). round binary64 s N D) (like (sgn x)))
  where
    like : (s : Bool) → unlike s s ≡ false
    like true = refl
    like false = refl

pub add_plus : (x y : Float) → T (plus x) → T (plus y) → T (finite (x ⊕ y)) → T (plus (x ⊕ y))
unfolding sum
add_plus x y p q =
    let X = num x * den y in
    let Y = num y * den x in
    let D = den x * den y in
    rounded_plus (x ⊕ y) (X + Y) D (add_is x y (plus_finite x p) (plus_finite y q) ∙ ap (λ (s : Bool). sum binary64 s X (sgn y) Y D) (plus_sgn x p) ∙ ap (λ (s : Bool). sum binary64 false X s Y D) (plus_sgn y q))

-- as a range from zero
pub plus_in : {k : ℕ} {x : Float} → T (plus x) → Pow k x → In 0 0 (2 ^ k) 0 x
plus_in {x = x} p h = record { sign = p; least = zero_under (den x) (num x * 2 ^ 0); most = le_trans (le_of_eq (mul-one (num x))) h.most }
