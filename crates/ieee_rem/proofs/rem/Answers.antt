-- `ieee_rem::rem` meets its contract, for all f64. Assumes nothing.
use mathlib.Core.Path.{◌≡◌, sym, ap, ap₂, ◌∙◌, subst}
use Prim.Native.Nat.{ℕ, ◌*◌, ◌%◌, ◌^◌, ◌≤◌, ◌<◌}
use native.Mathlib.Nat.{le_of_lt}
use native.Mathlib.Omega.{arith}
use mathlib.Core.Bool.{Bool, not, ◌||◌}
use lib.Dec.{T}
use lib.Ieee.{Float, nan, binary64, is_nan, rem, to_bits, of_bits}
use lib.Ieee.Bits.{of_bits-to_bits}
use lib.Ieee.Scale.{finite}
use Rattle.ieee.specs.Functions.{is_inf, is_zero}
use Rattle.ieee.proofs.Signs.{is_nan_lem, not_nan}
use Rattle.ieee.proofs.Patterns.{nan_is, no_nan}
use Rattle.ieee.proofs.Fmod.{rem_is_fmod}
use Rattle.ieee.proofs.Range.Falls.{or_l, or_r}
use Rattle.ieee.proofs.Range.Round.{value_finite}
use Rattle.ieee_rem.specs.Internal.{digits, place}
use Rattle.ieee_rem.proofs.Value.{minus, value}
use Rattle.ieee_rem.proofs.Pattern.{finite_pattern, patterns_rem, patterns_small, not_finite, infinite, zero_pattern}
use Rattle.ieee_rem.proofs.rem.Goals as goal

some : (n : ℕ) → (n ≡ 0 → ⊥) → 0 < n
some n f = omega (arith, f)

-- ---- no number
left_none : (x y : Float) → T (not (finite x)) → rem binary64 x y ≡ nan
left_none x y t = rem_is_fmod.otherwise x y (or_l (not (finite x)) (is_nan y || is_zero y) t)

right_none : (x y : Float) → T (is_nan y || is_zero y) → rem binary64 x y ≡ nan
right_none x y t = rem_is_fmod.otherwise x y (or_r (not (finite x)) (is_nan y || is_zero y) t)

pub returns-then-x : goal.returns-then-x
returns-then-x c = nan_is ∙ sym (left_none c.args.x c.args.y (subst (λ (z : Float). T (not (finite z))) (sym (is_nan_lem _ c.if-x.true)) tt))

pub returns-then-y : goal.returns-then-y
returns-then-y c = nan_is ∙ sym (right_none c.args.x c.args.y (subst (λ (z : Float). T (is_nan z || is_zero z)) (sym (is_nan_lem _ c.if-y.true)) (unfold is_nan in tt)))

pub float_to_bits-a : goal.float_to_bits-a
float_to_bits-a c = subst (λ (b : Bool). T (not b)) (sym (not_nan _ c.if-x.false)) tt

pub float_to_bits-b : goal.float_to_bits-b
float_to_bits-b c = subst (λ (b : Bool). T (not b)) (sym (not_nan _ c.if-y.false)) tt

pub returns-then-a-ge-INFINITY : goal.returns-then-a-ge-INFINITY
returns-then-a-ge-INFINITY c =
    nan_is ∙ sym (left_none c.args.x c.args.y (subst (λ (z : Float). T (not (finite z))) ((of_bits-to_bits binary64 c.args.x (subst T (sym c.well_formed.0.1) tt))) (not_finite (to_bits binary64 c.args.x) c.if-a-ge-INFINITY.true)))

pub returns-then-b-ge-INFINITY : goal.returns-then-b-ge-INFINITY
returns-then-b-ge-INFINITY c =
    let p = to_bits binary64 c.args.x in
    sym
    (rem_is_fmod.infinite c.args.x c.args.y
    (subst (λ (z : Float). T (finite z)) ((of_bits-to_bits binary64 c.args.x (subst T (sym c.well_formed.0.1) tt))) (value_finite (of_bits binary64 p) (minus p) (digits p * 2 ^ place p) (2 ^ 1074) (value p c.if-a-ge-INFINITY.false)))
    (subst (λ (z : Float). T (is_inf z)) ((of_bits-to_bits binary64 c.args.y (subst T (sym c.well_formed.1.0.1) tt))) (infinite (to_bits binary64 c.args.y) c.if-b-ge-INFINITY.true (ap is_nan ((of_bits-to_bits binary64 c.args.y (subst T (sym c.well_formed.1.0.1) tt))) ∙ not_nan _ c.if-y.false))))

pub returns-then-b-eq0 : goal.returns-then-b-eq0
returns-then-b-eq0 c =
    nan_is ∙ sym (right_none c.args.x c.args.y (or_r (is_nan c.args.y) (is_zero c.args.y) (subst (λ (z : Float). T (is_zero z)) ((of_bits-to_bits binary64 c.args.y (subst T (sym c.well_formed.1.0.1) tt))) (zero_pattern (to_bits binary64 c.args.y) c.if-b-eq0.true))))

pub returns-then-place : goal.returns-then-place
returns-then-place c =
    let q = to_bits binary64 c.args.y in
    sym ((of_bits-to_bits binary64 c.args.x (subst T (sym c.well_formed.0.1) tt)))
    ∙ patterns_small (to_bits binary64 c.args.x) q c.if-a-ge-INFINITY.false c.if-b-ge-INFINITY.false (some (q % 2 ^ 63) c.if-b-eq0.false)
    (subst (λ (n : ℕ). n < place q) c.place.ensures (subst (λ (n : ℕ). c.place.result < n) c.place-2.ensures c.if-place.true))
    ∙ (ap₂ (rem binary64) ((of_bits-to_bits binary64 c.args.x (subst T (sym c.well_formed.0.1) tt))) ((of_bits-to_bits binary64 c.args.y (subst T (sym c.well_formed.1.0.1) tt))))

pub float_from_bits-result : goal.float_from_bits-result
float_from_bits-result c =
    let q = to_bits binary64 c.args.y in
    no_nan c.of_patterns.result
    (le_of_lt (subst (λ (n : ℕ). n % 2 ^ 63 < 0x7ff0_0000_0000_0000) (sym c.of_patterns.ensures) (finite_pattern (to_bits binary64 c.args.x) q c.if-a-ge-INFINITY.false c.if-b-ge-INFINITY.false (some (q % 2 ^ 63) c.if-b-eq0.false))))

pub returns : goal.returns
returns c =
    let q = to_bits binary64 c.args.y in
    ap (of_bits binary64) c.of_patterns.ensures
    ∙ patterns_rem (to_bits binary64 c.args.x) q c.if-a-ge-INFINITY.false c.if-b-ge-INFINITY.false (some (q % 2 ^ 63) c.if-b-eq0.false)
    (subst (λ (n : ℕ). place q ≤ n) c.place.ensures (subst (λ (n : ℕ). n ≤ c.place.result) c.place-2.ensures c.if-place.false))
    ∙ (ap₂ (rem binary64) ((of_bits-to_bits binary64 c.args.x (subst T (sym c.well_formed.0.1) tt))) ((of_bits-to_bits binary64 c.args.y (subst T (sym c.well_formed.1.0.1) tt))))
