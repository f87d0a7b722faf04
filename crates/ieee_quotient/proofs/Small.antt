-- What is far below 1 takes nothing off it. Assumes nothing.
use mathlib.Core.Path.{◌≡◌, refl, sym, ◌∙◌, subst}
use Prim.Native.Nat.{ℕ, ◌+◌, ◌-◌, ◌*◌, ◌^◌, ◌≤◌, ◌<◌}
use native.Mathlib.Nat.{le_trans, le_of_eq, le_antisymm, one-mul, mul-one, mul-le-mul_right, sub-le}
use native.Mathlib.Omega.{arith}
use mathlib.Core.Bool.{Bool, true, false}
use lib.Dec.{T}
use lib.Pow.{pow_pos}
use lib.Ieee.{Float, binary64, neg, round, sum, of_bits, le}
use lib.Ieee.Exact.{HasValue}
use lib.Ieee.Bits.{of_bits-fits}
use lib.Ieee.Fits.{round-fits}
use lib.Ieee.Order.{round_mono}
use lib.Ieee.Scale.{finite}
use lib.Ieee.Positive.{num, den, den_pos}
use Rattle.ieee.specs.Operators.{◌⊖◌}
use Rattle.ieee.specs.Functions.{one}
use Rattle.ieee.specs.Range.{sgn, clear, Mag}
use Rattle.ieee.proofs.Range.Round.{round_clear, round_plus, le_cross, below_finite}
use Rattle.ieee.proofs.Range.Laws.{add_is, sub_is, neg_mag, plus_sgn}
use Rattle.ieee.proofs.Range.Values.{unique, self_value}
use Rattle.whole_nearest.proofs.Shift.{sum_over, sum_both}

-- ---- a fraction within 2 ^ -60 of 1 is rounded to 1
just_below : round binary64 false (2 ^ 60 - 1) (2 ^ 60) ≡ one
unfolding round of_bits
just_below = refl

just_above : round binary64 false (2 ^ 60 + 1) (2 ^ 60) ≡ one
unfolding round of_bits
just_above = refl

one_value : (a c : ℕ) → c ≡ a → HasValue one false a c
unfolding of_bits
one_value a c e = (refl, same a c e)
  where
    same : (a c : ℕ) → c ≡ a → 1 * 1 * c ≡ a * 1
    same a c e = omega arith

one_clear : T (clear one)
unfolding of_bits
one_clear = tt

one_finite : T (finite one)
unfolding of_bits
one_finite = tt

-- as large as 1 and as small
equal : (n d : ℕ) → num one * d ≤ n * den one → n * den one ≤ num one * d → d ≡ n
unfolding of_bits
equal n d a b = le_antisymm (le_trans (le_of_eq (sym (one-mul d))) (le_trans a (le_of_eq (mul-one n)))) (le_trans (le_of_eq (sym (mul-one n))) (le_trans b (le_of_eq (one-mul d))))

near_one : (n d : ℕ) → 0 < d → (2 ^ 60 - 1) * d ≤ n * 2 ^ 60 → n * 2 ^ 60 ≤ (2 ^ 60 + 1) * d → round binary64 false n d ≡ one
near_one n d D h l =
    let r = round binary64 false n d in
    let low : T (le one r) = subst (λ (z : Float). T (le z r)) just_below (round_mono binary64 (2 ^ 60 - 1) (2 ^ 60) n d (pow_pos 60) D h) in
    let high : T (le r one) = subst (λ (z : Float). T (le r z)) just_above (round_mono binary64 n d (2 ^ 60 + 1) (2 ^ 60) D (pow_pos 60) l) in
    let fine = below_finite r one false 1 1 (round_clear binary64 n d) (one_value 1 1 refl) high in
    let a = le_cross one r one_clear (round_clear binary64 n d) one_finite fine low in
    let b = le_cross r one (round_clear binary64 n d) one_clear fine one_finite high in
    unique binary64 r one false (num r) (den r) (den_pos r) (round-fits binary64 false n d) (of_bits-fits binary64 0x3FF0_0000_0000_0000)
    (subst (λ (s : Bool). HasValue r s (num r) (den r)) (plus_sgn r (round_plus binary64 n d fine)) (self_value r fine))
    (one_value (num r) (den r) (equal (num r) (den r) a b))

-- ---- a sum of 1 and less than 2 ^ -60
one_sum : (s : Bool) (n d : ℕ) → 0 < d → n * 2 ^ 60 ≤ 1 * d → sum binary64 (sgn one) (num one * d) s (n * den one) (den one * d) ≡ one
unfolding of_bits
one_sum false n d D h =
    sum_both false (1 * 1 * d) (n * 1) (1 * d)
    ∙ near_one (1 * 1 * d + n * 1) (1 * d) (subst (λ (z : ℕ). 0 < z) (sym (one-mul d)) D) (low n d) (high n d h)
  where
    low : (n d : ℕ) → (2 ^ 60 - 1) * (1 * d) ≤ (1 * 1 * d + n * 1) * 2 ^ 60
    low n d = omega arith

    high : (n d : ℕ) → n * 2 ^ 60 ≤ 1 * d → (1 * 1 * d + n * 1) * 2 ^ 60 ≤ (2 ^ 60 + 1) * (1 * d)
    high n d h = omega arith
one_sum true n d D h =
    sum_over (1 * 1 * d) (n * 1) (1 * d) (less n d h)
    ∙ near_one (1 * 1 * d - n * 1) (1 * d) (subst (λ (z : ℕ). 0 < z) (sym (one-mul d)) D) (low n d h) (high n d)
  where
    less : (n d : ℕ) → n * 2 ^ 60 ≤ 1 * d → n * 1 ≤ 1 * 1 * d
    less n d h = omega arith

    low : (n d : ℕ) → n * 2 ^ 60 ≤ 1 * d → (2 ^ 60 - 1) * (1 * d) ≤ (1 * 1 * d - n * 1) * 2 ^ 60
    low n d h = omega arith

    whole : (d : ℕ) → 1 * 1 * d * 2 ^ 60 ≤ (2 ^ 60 + 1) * (1 * d)
    whole d = omega arith

    high : (n d : ℕ) → (1 * 1 * d - n * 1) * 2 ^ 60 ≤ (2 ^ 60 + 1) * (1 * d)
    high n d = le_trans (mul-le-mul_right (2 ^ 60) (sub-le (1 * 1 * d) (n * 1))) (whole d)

pub one_less : {x : Float} → Mag 1 60 x → one ⊖ x ≡ one
one_less {x} h =
    let z = neg x in
    let g = neg_mag h in
    sub_is one x ∙ add_is one z one_finite g.fine ∙ one_sum (sgn z) (num z) (den z) (den_pos z) g.most
