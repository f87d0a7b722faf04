-- sin and cos of every finite x are finite, and their size is at most 1; of anything else they are NaN. The folds bring the angle to π and to π/2, exactly as rounded. Assumes nothing.
use mathlib.Core.Path.{◌≡◌, refl, sym, ap, ◌∙◌, subst}
use Prim.Native.Nat.{ℕ, zero, suc}
use mathlib.Core.Bool.{Bool, true, not, ◌&&◌, cond}
use lib.Dec.{T}
use lib.Ieee.{Float, nan, inf, fin, binary64, neg, rem, sub, mul, div, lt, le, of_int, of_bits}
use lib.Ieee.Fits.{and_l, and_r}
use lib.Ieee.Scale.{finite}
use Rattle.ieee.specs.Operators.{◌⊕◌, ◌⊖◌, ◌⊗◌, ◌⊘◌}
use Rattle.ieee.specs.Functions.{one, abs, clamp}
use Rattle.ieee.specs.Range.{Mag, In, inb}
use Rattle.ieee.proofs.Range.Laws.{in_lit, in_mag, mag_up, neg_mag, abs_in, mul_mag}
use Rattle.ieee.proofs.Range.Constants.{one_in}
use Rattle.ieee.proofs.Range.Sums.{sub_mag, sub_gap, add_gap, neg_gap}
use Rattle.ieee.proofs.Range.Quotients.{div_mag}
use Rattle.ieee.proofs.Range.Tests.{choose, lt_in, lt_size, within, nlt_most, clamp_mag}
use Rattle.ieee.proofs.Range.Rem.{rem_mag}
use Rattle.math_trig.specs.Angles.{tau, pi, minus_pi, half_pi, minus_half_pi, turns_limit}
use Rattle.math_trig.specs.Trig.{wrap, reduce, first_line, fold, second_fold, series, sin_div, cos_div, sin_at, sin, cos_at, cos_of, cos}
use Rattle.math_trig.proofs.Turns.{limit_mag}
use Rattle.math_trig.proofs.Less.{reduce_mag}
use Rattle.math_trig.proofs.Constants.{minus_one_is, minus_pi_is, minus_half_pi_is}

-- ---- the constants. T is 7074237752028440 / 2 ^ 50, π is half of it
abbrev P : ℕ
P = 7074237752028440

tau_in : In P 50 P 50 tau
unfolding of_bits
tau_in = in_lit tau tt

pub pi_in : In P 51 P 51 pi
unfolding of_bits
pi_in = in_lit pi tt

half_pi_in : In P 52 P 52 half_pi
unfolding of_bits
half_pi_in = in_lit half_pi tt

-- ---- the folds
at_neg : (x lo c : Float) → lo ≡ neg c → T (lt x lo) → T (lt x (neg c))
at_neg x lo c e t = subst (λ (z : Float). T (lt x z)) e t

at_not_neg : (x lo c : Float) → lo ≡ neg c → T (not (lt x lo)) → T (not (lt x (neg c)))
at_not_neg x lo c e t = subst (λ (z : Float). T (not (lt x z))) e t

wrap_mag : (r : Float) → Mag P 50 r → Mag P 51 (wrap r)
unfolding wrap
wrap_mag r h =
    choose (λ z. Mag P 51 z) (lt pi r) (r ⊖ tau) (cond (lt r minus_pi) (r ⊕ tau) r)
    (λ t. sub_gap (lt_in pi_in h t) tau_in tt)
    (λ u. choose (λ z. Mag P 51 z) (lt r minus_pi) (r ⊕ tau) r
    (λ t. let s = lt_size pi_in h (at_neg r minus_pi pi minus_pi_is t) in add_gap s.0 s.1 tau_in tt)
    (λ t. within pi_in h.fine u (at_not_neg r minus_pi pi minus_pi_is t)))

-- the first line brings every finite x to T: to 4 by turns, and below T by the remainder
first_line_mag : (x : Float) → T (finite x) → Mag P 50 (first_line x)
unfolding first_line
first_line_mag x f =
    choose (λ z. Mag P 50 z) (le (abs x) turns_limit) (reduce x) (rem binary64 x tau) (λ t. mag_up (reduce_mag x (limit_mag x t)) tt) (λ t. rem_mag x f tau_in tt)

-- the first fold brings every finite x to π
pub fold_mag : (x : Float) → T (finite x) → Mag P 51 (fold x)
unfolding fold
fold_mag x f = wrap_mag (first_line x) (first_line_mag x f)

pub second_fold_mag : (r : Float) → Mag P 51 r → Mag P 52 (second_fold r)
unfolding second_fold
second_fold_mag r h =
    choose (λ z. Mag P 52 z) (lt half_pi r) (pi ⊖ r) (cond (lt r minus_half_pi) (minus_pi ⊖ r) r)
    (λ t. sub_gap pi_in (lt_in half_pi_in h t) tt)
    (λ u. choose (λ z. Mag P 52 z) (lt r minus_half_pi) (minus_pi ⊖ r) r
    (λ t. let s = lt_size half_pi_in h (at_neg r minus_half_pi half_pi minus_half_pi_is t) in neg_gap minus_pi_is pi_in s.0 s.1 tt)
    (λ t. within half_pi_in h.fine u (at_not_neg r minus_half_pi half_pi minus_half_pi_is t)))

-- ---- the series: with z ≤ 5/2, a step by a divisor of 6 at least keeps |p| ≤ 2
step : {z p : Float} (d : Float) → In 6 0 1000 0 d → Mag 5 1 z → Mag 2 0 p → Mag 2 0 (one ⊖ (p ⊗ z) ⊘ d)
step {z} {p} d D Z H =
    let a : Mag 5 0 (p ⊗ z) = mul_mag H Z tt in
    let b : Mag 1 0 ((p ⊗ z) ⊘ d) = div_mag a D tt in
    sub_mag (in_mag one_in) b tt

abbrev all_in : (ℕ → Float) → ℕ → Bool
all_in d zero = true
all_in d (suc m) = inb 6 0 1000 0 (d (suc m)) && all_in d m

series_mag : (d : ℕ → Float) (m : ℕ) (z p : Float) → T (all_in d m) → Mag 5 1 z → Mag 2 0 p → Mag 2 0 (series d m z p)
unfolding series
series_mag d zero z p t Z H = H
series_mag d (suc m) z p t Z H =
    series_mag d m z (one ⊖ (p ⊗ z) ⊘ d (suc m)) (and_r (inb 6 0 1000 0 (d (suc m))) (all_in d m) t) Z
    (step (d (suc m)) (in_lit (d (suc m)) (and_l (inb 6 0 1000 0 (d (suc m))) (all_in d m) t)) Z H)

sin_divs : T (all_in sin_div 10)
unfolding of_int
sin_divs = tt

sin_at_mag : (r : Float) → Mag P 52 r → Mag 1 0 (sin_at r)
unfolding sin_at
sin_at_mag r h =
    let z : Mag 5 1 (r ⊗ r) = mul_mag h h tt in
    let p : Mag 2 0 (series sin_div 10 (r ⊗ r) one) = series_mag sin_div 10 (r ⊗ r) one sin_divs z (mag_up (in_mag one_in) tt) in
    let q : Mag 4 0 (r ⊗ series sin_div 10 (r ⊗ r) one) = mul_mag h p tt in
    clamp_mag one_in minus_one_is q

pub sin_mag : (x : Float) → T (finite x) → Mag 1 0 (sin x)
unfolding sin
sin_mag x f = sin_at_mag (second_fold (fold x)) (second_fold_mag (fold x) (fold_mag x f))

-- ---- cos: the last divisor is 2, so the last step stands alone
all_but_last : (d : ℕ → Float) (m : ℕ) (z p : Float) → series d (suc m) z p ≡ series d 1 z (series (λ k. d (suc k)) m z p)
unfolding series
all_but_last d zero z p = refl
all_but_last d (suc m) z p = all_but_last d m z (one ⊖ (p ⊗ z) ⊘ d (suc (suc m)))

cos_divs : T (all_in (λ k. cos_div (suc k)) 10)
unfolding of_int
cos_divs = tt

two_in : In 2 0 2 0 (cos_div 1)
unfolding of_int
two_in = in_lit (cos_div 1) tt

last : {z p : Float} → Mag 5 1 z → Mag 2 0 p → Mag 4 0 (series cos_div 1 z p)
unfolding series
last {z} {p} Z H =
    let a : Mag 5 0 (p ⊗ z) = mul_mag H Z tt in
    let b : Mag 3 0 ((p ⊗ z) ⊘ cos_div 1) = div_mag a two_in tt in
    sub_mag (in_mag one_in) b tt

cos_at_mag : (a : Float) → Mag P 52 a → Mag 1 0 (cos_at a)
unfolding cos_at
cos_at_mag a h =
    let z : Mag 5 1 (a ⊗ a) = mul_mag h h tt in
    let p : Mag 2 0 (series (λ k. cos_div (suc k)) 10 (a ⊗ a) one) = series_mag (λ k. cos_div (suc k)) 10 (a ⊗ a) one cos_divs z (mag_up (in_mag one_in) tt) in
    clamp_mag one_in minus_one_is (subst (λ (w : Float). Mag 4 0 w) (sym (all_but_last cos_div 10 (a ⊗ a) one)) (last z p))

cos_of_mag : (a : Float) → In 0 0 P 51 a → Mag 1 0 (cos_of a)
unfolding cos_of
cos_of_mag a h =
    choose (λ z. Mag 1 0 z) (lt half_pi a) (neg (cos_at (pi ⊖ a))) (cos_at a)
    (λ t. neg_mag (cos_at_mag (pi ⊖ a) (sub_gap pi_in (lt_in half_pi_in (in_mag h) t) tt)))
    (λ t. cos_at_mag a (in_mag (nlt_most half_pi_in h t)))

pub cos_mag : (x : Float) → T (finite x) → Mag 1 0 (cos x)
unfolding cos
cos_mag x f = cos_of_mag (abs (fold x)) (abs_in (fold_mag x f))

-- ---- of an infinity or a NaN
fold_none : (x : Float) → T (not (finite x)) → fold x ≡ nan
unfolding fold wrap first_line le abs rem lt of_bits
fold_none nan t = refl
fold_none (inf s) t = refl
fold_none (fin s m e) t = absurd t

sin_at_nan : sin_at (second_fold nan) ≡ nan
unfolding sin_at second_fold series clamp lt sub mul div of_bits
sin_at_nan = refl

cos_of_nan : cos_of (abs nan) ≡ nan
unfolding cos_of cos_at abs series clamp lt sub mul div of_bits
cos_of_nan = refl

pub sin_none : (x : Float) → T (not (finite x)) → sin x ≡ nan
unfolding sin
sin_none x t = ap (λ (r : Float). sin_at (second_fold r)) (fold_none x t) ∙ sin_at_nan

pub cos_none : (x : Float) → T (not (finite x)) → cos x ≡ nan
unfolding cos
cos_none x t = ap (λ (r : Float). cos_of (abs r)) (fold_none x t) ∙ cos_of_nan
