-- Values that are equal, or both zeros of either sign: what is kept of them by products, sums and quotients; and what a finite result
-- says of its terms. `Keeps x r`: r is x, or both are zeros. Assumes nothing.
use mathlib.Core.Path.{◌≡◌, refl, sym, ap, ◌∙◌, subst}
use Prim.Native.Nat.{ℕ, zero, suc, ◌*◌, ◌≤◌, ◌<◌}
use native.Mathlib.Nat.{mul-le-mul_left, mul-pos, zero-mul, zero-lt-suc, lt_irrefl}
use native.Mathlib.Omega.{arith}
use mathlib.Core.Bool.{Bool, true, false, cond}
use lib.Dec.{T, eqb, lit≤}
use lib.IntN.{ℤ, pos}
use lib.Ieee.{Float, nan, inf, fin, binary64, unlike, round, neg, add, mul, div, fits, of_bits}
use lib.Ieee.Fits.{up_pos, mul-fits, neg-fits}
use lib.Ieee.Scale.{finite}
use lib.Ieee.Positive.{num, den, den_pos}
use Rattle.ieee.specs.Operators.{◌⊕◌, ◌⊖◌, ◌⊗◌, ◌⊘◌}
use Rattle.ieee.specs.Functions.{zero_f}
use Rattle.ieee.specs.Range.{sgn, plus, Mag}
use Rattle.ieee.proofs.Range.Laws.{mul_is, div_is, sub_is, neg_mag}
use Rattle.ieee.proofs.Range.Zero.{zero_num, zero_mul_mag, mul_zero_mag, add_zero_same}
use Rattle.ieee.proofs.Range.Plus.{sq_plus}
use Rattle.math_trig.proofs.Opposites.{round_zero}
use Rattle.polarization_value.proofs.Keeps.{Zero, zero_sum, Keeps, kept, zeros, keeps_sum, keeps_more}
use Rattle.polarization_value.proofs.Commute.{sum_comm_f}

like : (s : Bool) → unlike s s ≡ false
like true = refl
like false = refl

-- ---- finite numbers, and what can be divided by: an infinity, or a number that is no zero
pub record Fine (x : Float) : Type 0 where
  pub fine : T (finite x)

pub data Divides : Float → Type 0 where
  infinite : {s : Bool} → Divides (inf s)
  number : {y : Float} → Fine y → 0 < num y → Divides y

-- ---- a finite result has finite terms
none_fine : {A : Type 0} (b s : Bool) → Fine (cond b nan (inf s)) → A
none_fine true s f = absurd f.fine
none_fine false s f = absurd f.fine

yes : {s : Bool} {m : ℕ} {e : ℤ} → Fine (fin s m e)
yes = record { fine = tt }

pub mul_back : (x y : Float) → Fine (x ⊗ y) → Fine x × Fine y
unfolding mul
mul_back nan y f = absurd f.fine
mul_back (inf s) nan f = absurd f.fine
mul_back (inf s) (inf t) f = absurd f.fine
mul_back (inf s) (fin t n d) f = none_fine (eqb n 0) (unlike s t) f
mul_back (fin s m e) nan f = absurd f.fine
mul_back (fin s m e) (inf t) f = none_fine (eqb m 0) (unlike s t) f
mul_back (fin s m e) (fin t n d) f = (yes, yes)

pub add_back : (x y : Float) → Fine (x ⊕ y) → Fine x × Fine y
unfolding add
add_back nan y f = absurd f.fine
add_back (inf s) nan f = absurd f.fine
add_back (inf true) (inf true) f = absurd f.fine
add_back (inf true) (inf false) f = absurd f.fine
add_back (inf false) (inf true) f = absurd f.fine
add_back (inf false) (inf false) f = absurd f.fine
add_back (inf s) (fin t n d) f = absurd f.fine
add_back (fin s m e) nan f = absurd f.fine
add_back (fin s m e) (inf t) f = absurd f.fine
add_back (fin s m e) (fin t n d) f = (yes, yes)

pub neg_back : (x : Float) → Fine (neg x) → Fine x
unfolding neg
neg_back nan f = absurd f.fine
neg_back (inf s) f = absurd f.fine
neg_back (fin s m e) f = yes

pub sub_back : (x y : Float) → Fine (x ⊖ y) → Fine x × Fine y
sub_back x y f = let h = add_back x (neg y) (subst Fine (sub_is x y) f) in (h.0, neg_back y h.1)

pub div_back : (x y : Float) → Fine (x ⊘ y) → Fine x × Divides y
unfolding div
div_back nan y f = absurd f.fine
div_back (inf s) nan f = absurd f.fine
div_back (inf s) (inf t) f = absurd f.fine
div_back (inf s) (fin t n d) f = absurd f.fine
div_back (fin s m e) nan f = absurd f.fine
div_back (fin s m e) (inf t) f = (yes, infinite)
div_back (fin s m e) (fin t zero d) f = none_fine (eqb m 0) (unlike s t) f
div_back (fin s m e) (fin t (suc n) d) f = (yes, number yes (mul-pos (zero-lt-suc n) (up_pos d)))

-- ---- zeros
own_mag : {x : Float} → Fine x → Mag (num x) 0 x
own_mag {x} f = record { fine = f.fine; most = go (num x) (den x) (den_pos x) }
  where
    go : (n d : ℕ) → 0 < d → n * 1 ≤ n * d
    go n d h = mul-le-mul_left n h

pub zero_times : {z x : Float} → Zero z → Fine x → Zero (z ⊗ x)
zero_times h f = zero_mul_mag h (own_mag f)

pub times_zero : {x z : Float} → Fine x → Zero z → Zero (x ⊗ z)
times_zero f h = mul_zero_mag (own_mag f) h

a_zero : {s : Bool} → Zero (fin s 0 (pos 0))
a_zero = record { fine = tt; most = lit≤ tt }

nought : (s : Bool) (c : ℕ) → 0 < c → Zero (round binary64 s 0 c)
nought s c C = subst (λ (z : Float). Zero z) (sym (round_zero s c C)) a_zero

over_infinity : (z : Float) (s : Bool) → Zero z → Zero (z ⊘ inf s)
unfolding div
over_infinity nan t h = absurd h.fine
over_infinity (inf s) t h = absurd h.fine
over_infinity (fin s m e) t h = a_zero

pub zero_over : {z y : Float} → Zero z → Divides y → Zero (z ⊘ y)
zero_over {z} h (infinite {s}) = over_infinity z s h
zero_over {z} h (number {y} f p) =
    subst (λ (r : Float). Zero r)
    (sym (div_is z y h.fine f.fine p ∙ ap (λ (k : ℕ). round binary64 (unlike (sgn z) (sgn y)) k (num y * den z)) (ap (λ (k : ℕ). k * den y) (zero_num h) ∙ zero-mul (den y))))
    (nought (unlike (sgn z) (sgn y)) (num y * den z) (mul-pos p (den_pos z)))

-- the square of a zero is +0
pub zero_square : {z : Float} → Zero z → z ⊗ z ≡ fin false 0 (pos 0)
zero_square {z} h =
    mul_is z z h.fine h.fine
    ∙ ap (λ (k : ℕ). round binary64 (unlike (sgn z) (sgn z)) (k * num z) (den z * den z)) (zero_num h)
    ∙ ap (λ (k : ℕ). round binary64 (unlike (sgn z) (sgn z)) k (den z * den z)) (zero-mul (num z))
    ∙ round_zero (unlike (sgn z) (sgn z)) (den z * den z) (mul-pos (den_pos z) (den_pos z))
    ∙ ap (λ (s : Bool). fin s 0 (pos 0)) (like (sgn z))

-- a number whose square divides is no zero
not_by_zero : {y : Float} → Divides y → y ≡ fin false 0 (pos 0) → ⊥
not_by_zero (infinite {s}) e = let z : ◌≡◌ {A = ℕ} 0 1 = cc in omega arith
not_by_zero (number {y} f p) e = lt_irrefl 0 (subst (λ (z : Float). 0 < num z) e p)

pub no_zero : {y : Float} → Zero y → Divides (y ⊗ y) → ⊥
no_zero h g = not_by_zero g (zero_square h)

-- ---- what is kept
pub keeps_fine : {x r : Float} → Keeps x r → Fine x → Fine r
keeps_fine kept f = f
keeps_fine (zeros p q) f = record { fine = q.fine }

keeps_two : {x a b : Float} → Keeps x a → Keeps x b → Keeps a b
keeps_two kept k = k
keeps_two (zeros p q) kept = zeros q p
keeps_two (zeros p q) (zeros p' q') = zeros q q'

pub keeps_mul : {x y r t : Float} → Keeps x r → Keeps y t → Fine x → Fine y → Keeps (x ⊗ y) (r ⊗ t)
keeps_mul kept kept f g = kept
keeps_mul kept (zeros p q) f g = zeros (times_zero f p) (times_zero f q)
keeps_mul (zeros p q) kept f g = zeros (zero_times p g) (zero_times q g)
keeps_mul (zeros p q) (zeros p' q') f g = zeros (zero_times p g) (zero_times q (record { fine = q'.fine }))

-- a zero before the sum
keeps_after : (y w : Float) → T (fits binary64 y) → Zero w → Keeps y (w ⊕ y)
keeps_after y w f h = subst (λ (r : Float). Keeps y r) (sum_comm_f y w) (keeps_sum y w f h)

pub keeps_add : {x y r t : Float} → Keeps x r → Keeps y t → T (fits binary64 x) → T (fits binary64 y) → Keeps (x ⊕ y) (r ⊕ t)
keeps_add kept kept f g = kept
keeps_add {x} {y} {t = t} kept (zeros p q) f g = keeps_two (keeps_sum x y f p) (keeps_sum x t f q)
keeps_add {x} {y} {r} (zeros p q) kept f g = keeps_two (keeps_after y x g p) (keeps_after y r g q)
keeps_add (zeros p q) (zeros p' q') f g = zeros (zero_sum p p') (zero_sum q q')

pub keeps_neg : {x r : Float} → Keeps x r → Keeps (neg x) (neg r)
keeps_neg kept = kept
keeps_neg (zeros p q) = zeros (neg_mag p) (neg_mag q)

pub keeps_sub : {x y r t : Float} → Keeps x r → Keeps y t → T (fits binary64 x) → T (fits binary64 y) → Keeps (x ⊖ y) (r ⊖ t)
keeps_sub {x} {y} {r} {t} h k f g = rw (sub_is x y, sub_is r t) (keeps_add h (keeps_neg k) f (neg-fits binary64 y g))

pub keeps_div : {x y r : Float} → Keeps x r → Divides y → Keeps (x ⊘ y) (r ⊘ y)
keeps_div kept d = kept
keeps_div (zeros p q) d = zeros (zero_over p d) (zero_over q d)

-- a zero more, or less, or before
pub keeps_less : {x r w : Float} → Keeps x r → T (fits binary64 x) → Zero w → Keeps x (r ⊖ w)
keeps_less {r = r} {w} h f z = rw (sub_is r w) (keeps_more h f (neg_mag z))

pub zero_plus : {x r w : Float} → Zero w → Keeps x r → T (fits binary64 x) → Keeps x (w ⊕ r)
zero_plus {x} {r} {w} z h f = rw (sum_comm_f w r) (keeps_more h f z)

pub zero_less : {x r w : Float} → Zero w → Keeps x r → T (fits binary64 x) → Keeps (neg x) (w ⊖ r)
zero_less {x} {r} {w} z h f = rw (sub_is w r) (zero_plus z (keeps_neg h) (neg-fits binary64 x f))

-- squares are equal
pub keeps_square : {x r : Float} → Keeps x r → r ⊗ r ≡ x ⊗ x
keeps_square kept = refl
keeps_square (zeros p q) = zero_square q ∙ sym (zero_square p)

-- and so are values whose squares divide
pub keeps_same : {x r : Float} → Keeps x r → Divides (x ⊗ x) → r ≡ x
keeps_same kept d = refl
keeps_same (zeros p q) d = absurd (no_zero p d)

-- a square and +0: a square's sign is clear
plain : (q : Float) → T (fits binary64 q) → (T (finite q) → T (plus q)) → q ⊕ fin false 0 (pos 0) ≡ q
unfolding add
plain nan h s = refl
plain (inf t) h s = refl
plain (fin t m e) h s = add_zero_same (fin t m e) (s tt) h (a_zero {s = false})

pub square_and_zero : {w : Float} (x : Float) → Fine x → Zero w → x ⊗ x ⊕ w ⊗ w ≡ x ⊗ x
square_and_zero x f z = ap (λ (k : Float). x ⊗ x ⊕ k) (zero_square z) ∙ plain (x ⊗ x) (mul-fits binary64 x x) (sq_plus x f.fine)

-- a square less +0, and +0 less a zero
pub square_less_zero : {w : Float} (x : Float) → Fine (x ⊗ x) → Fine x → Zero w → x ⊗ x ⊖ w ⊗ w ≡ x ⊗ x
square_less_zero {w} x g f z =
    sub_is (x ⊗ x) (w ⊗ w)
    ∙ add_zero_same (x ⊗ x) (sq_plus x f.fine g.fine) (mul-fits binary64 x x) (neg_mag (subst (λ (k : Float). Zero k) (sym (zero_square z)) (a_zero {s = false})))

pub zero_less_zero : {z : Float} → Zero z → zero_f ⊖ z ≡ zero_f
unfolding of_bits fits
zero_less_zero {z} h = sub_is zero_f z ∙ add_zero_same zero_f tt tt (neg_mag h)
