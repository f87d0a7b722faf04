-- exp of an x with |x| ≤ 16 is finite, at least 0 and at most 2 ^ 24, and of a zero of either sign it is 1. Assumes nothing.
use mathlib.Core.Path.{◌≡◌, refl, sym, ap, ◌∙◌, subst}
use Prim.Native.Nat.{ℕ, zero, suc, ◌+◌, ◌*◌, ◌/◌, ◌^◌}
use mathlib.Core.Bool.{Bool, true, false, ◌&&◌, cond}
use lib.Dec.{T}
use lib.IntN.{pos}
use lib.Ieee.{Float, nan, inf, binary64, mul, lt, of_int, of_bits, is_nan}
use lib.Ieee.Bits.{cond_no, of_bits-fits}
use lib.Ieee.Fits.{and_l, and_r}
use Rattle.ieee.specs.Operators.{◌⊕◌, ◌⊗◌, ◌⊘◌}
use Rattle.ieee.specs.Functions.{zero_f, one}
use Rattle.ieee.specs.Range.{Mag, In, plus, at_most, inb}
use Rattle.ieee.proofs.Signs.{finite_number}
use Rattle.ieee.proofs.Range.Laws.{in_lit, in_up, mag_up, mul_mag, sq_in}
use Rattle.ieee.proofs.Range.Constants.{one_mag}
use Rattle.ieee.proofs.Range.Sums.{add_mag}
use Rattle.ieee.proofs.Range.Quotients.{div_mag}
use Rattle.ieee.proofs.Range.Tests.{never_above, never_below}
use Rattle.ieee.proofs.Range.Zero.{zero_mul_mag, add_zero_same}
use Rattle.math_exp.specs.Exp.{two_to_10, exp_most, exp_least, exp_series, squares, exp_at, exp}
use Rattle.math_exp.proofs.Constants.{minus_exp_least, exp_least_is}

two_to_10_in : In 1024 0 1024 0 two_to_10
unfolding of_bits
two_to_10_in = in_lit two_to_10 tt

-- the divisors d 0 .. d (m - 1) are a at least
abbrev from : ℕ → (ℕ → Float) → ℕ → Bool
from a d zero = true
from a d (suc m) = inb a 0 1000 0 (d m) && from a d m

next : (a : ℕ) (d : ℕ → Float) (m : ℕ) → T (from a d (suc m)) → In a 0 1000 0 (d m)
next a d m t = in_lit (d m) (and_l (inb a 0 1000 0 (d m)) (from a d m) t)

rest : (a : ℕ) (d : ℕ → Float) (m : ℕ) → T (from a d (suc m)) → T (from a d m)
rest a d m t = and_r (inb a 0 1000 0 (d m)) (from a d m) t

-- 1, 2, ..
abbrev whole : ℕ → Float
whole m = of_int binary64 (pos (suc m))

-- ---- the series: |y| ≤ 1/64. Down to m = 2 it keeps |p| ≤ 65/64, and the last step gives 4161/4096
step : {y p : Float} (d : Float) → In 2 0 1000 0 d → Mag 1 6 y → Mag 65 6 p → Mag 65 6 (one ⊕ (y ⊗ p) ⊘ d)
step {y} {p} d D Y H =
    let a : Mag 65 12 (y ⊗ p) = mul_mag Y H tt in
    let b : Mag 65 13 ((y ⊗ p) ⊘ d) = div_mag a D tt in
    add_mag one_mag b tt

first_in : In 1 0 1 0 (whole 0)
unfolding of_int
first_in = in_lit (whole 0) tt

series_mag : (m : ℕ) (y p : Float) → T (from 2 (λ k. whole (suc k)) m) → Mag 1 6 y → Mag 65 6 p → Mag 4161 12 (exp_series (suc m) y p)
unfolding exp_series
series_mag zero y p t Y H =
    let a : Mag 65 12 (y ⊗ p) = mul_mag Y H tt in
    let b : Mag 65 12 ((y ⊗ p) ⊘ whole 0) = div_mag a first_in tt in
    add_mag one_mag b tt
series_mag (suc m) y p t Y H =
    let D : In 2 0 1000 0 (whole (suc m)) = next 2 (λ k. whole (suc k)) m t in
    series_mag m y (one ⊕ (y ⊗ p) ⊘ whole (suc m)) (rest 2 (λ k. whole (suc k)) m t) Y (step (whole (suc m)) D Y H)

from_two : T (from 2 (λ k. whole (suc k)) 13)
unfolding of_int
from_two = tt

-- ---- the squarings, in units of 2 ^ -28: the bound's square, cut to a whole number of units, and one more
abbrev sq : ℕ → ℕ
sq p = p * p / 2 ^ 28 + 1

abbrev sqs : ℕ → ℕ → ℕ
sqs zero p = p
sqs (suc n) p = sqs n (sq p)

abbrev fit : ℕ → Bool
fit p = at_most (p * p) (2 ^ 28 * 2 ^ 28) (sq p) 28

abbrev all_fit : ℕ → ℕ → Bool
all_fit zero p = true
all_fit (suc n) p = fit p && all_fit n (sq p)

-- a square's sign is clear
squares_in : (n p : ℕ) (x : Float) → T (all_fit (suc n) p) → Mag p 28 x → In 0 0 (sqs (suc n) p) 28 (squares (suc n) x)
unfolding squares
squares_in zero p x t h = sq_in h (and_l (fit p) true t)
squares_in (suc n) p x t h = squares_in n (sq p) (x ⊗ x) (and_r (fit p) (all_fit (suc n) (sq p)) t) (mul_mag h h (and_l (fit p) (all_fit (suc n) (sq p)) t))

abbrev start : ℕ
start = 4161 * 2 ^ 16

exp_at_in : (x : Float) → Mag 16 0 x → In 0 0 (2 ^ 24) 0 (exp_at x)
unfolding exp_at
exp_at_in x h =
    let y : Mag 1 6 (x ⊘ two_to_10) = div_mag h two_to_10_in tt in
    let p : Mag 4161 12 (exp_series 14 (x ⊘ two_to_10) one) = series_mag 13 (x ⊘ two_to_10) one from_two y (mag_up one_mag tt) in
    in_up (squares_in 9 start (exp_series 14 (x ⊘ two_to_10) one) tt (mag_up p tt)) tt

-- ---- the tests of exp pass by
most_in : In 710 0 710 0 exp_most
unfolding of_bits
most_in = in_lit exp_most tt

least_in : In 746 0 746 0 minus_exp_least
unfolding of_bits
least_in = in_lit minus_exp_least tt

exp_is : (x : Float) → Mag 16 0 x → exp x ≡ exp_at x
unfolding exp
exp_is x h =
    let a = lt exp_most x in
    let b = lt x exp_least in
    cond_no (is_nan x) nan (cond a (inf false) (cond b zero_f (exp_at x))) (finite_number x h.fine)
    ∙ cond_no a (inf false) (cond b zero_f (exp_at x)) (never_above most_in h tt)
    ∙ cond_no b zero_f (exp_at x) (never_below exp_least_is least_in h tt)

pub exp_in : (x : Float) → Mag 16 0 x → In 0 0 (2 ^ 24) 0 (exp x)
exp_in x h = subst (λ (z : Float). In 0 0 (2 ^ 24) 0 z) (sym (exp_is x h)) (exp_at_in x h)

-- ---- at a zero every step adds a zero to 1
one_plus : T (plus one)
unfolding of_bits
one_plus = tt

series_zero : (m : ℕ) (y : Float) → T (from 1 whole m) → Mag 0 0 y → exp_series m y one ≡ one
unfolding exp_series
series_zero zero y t Y = refl
series_zero (suc m) y t Y =
    let D : In 1 0 1000 0 (whole m) = next 1 whole m t in
    let b : Mag 0 0 ((y ⊗ one) ⊘ whole m) = div_mag (zero_mul_mag Y one_mag) D tt in
    ap (exp_series m y) (add_zero_same one one_plus (of_bits-fits binary64 0x3FF0_0000_0000_0000) b) ∙ series_zero m y (rest 1 whole m t) Y

from_one : T (from 1 whole 14)
unfolding of_int
from_one = tt

one_square : one ⊗ one ≡ one
unfolding mul of_bits
one_square = refl

squares_one : (n : ℕ) → squares n one ≡ one
unfolding squares
squares_one zero = refl
squares_one (suc n) = ap (squares n) one_square ∙ squares_one n

exp_at_zero : (x : Float) → Mag 0 0 x → exp_at x ≡ one
unfolding exp_at
exp_at_zero x h = ap (squares 10) (series_zero 14 (x ⊘ two_to_10) from_one (div_mag h two_to_10_in tt)) ∙ squares_one 10

pub exp_zero : (x : Float) → Mag 0 0 x → exp x ≡ one
exp_zero x h = exp_is x (mag_up h tt) ∙ exp_at_zero x h
