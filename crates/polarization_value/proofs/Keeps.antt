-- A sum with a zero: the other term, or a zero where that is one. Assumes nothing.
use mathlib.Core.Path.{◌≡◌, refl, sym, ap, ◌∙◌, subst}
use mathlib.Core.Logic.{◌⊎◌, inl, inr}
use Prim.Native.Nat.{ℕ, ◌*◌, ◌≤◌, ◌<◌}
use native.Mathlib.Nat.{zero-mul, mul-one, one-mul, le_of_eq, mul-le-mul_left}
use mathlib.Core.Bool.{Bool, true, false, ◌&&◌, ◌||◌, beq}
use lib.Dec.{T, eqb, eqb→eq}
use lib.Ieee.{Float, nan, inf, fin, binary64, up, down, unlike, round, neg, add, eq, is_nan, fits, of_bits}
use lib.Ieee.Fits.{and_i, eq→eqb, neg-fits}
use lib.Ieee.Positive.{num, den, den_pos}
use Rattle.ieee.specs.Operators.{◌⊕◌, ◌⊖◌, ◌⊗◌}
use Rattle.ieee.specs.Functions.{zero_f, one, is_zero}
use Rattle.ieee.specs.Range.{sgn, plus, Mag}
use Rattle.ieee.proofs.Range.Values.{round_itself}
use Rattle.ieee.proofs.Range.Laws.{mul_is, sub_is, neg_mag}
use Rattle.ieee.proofs.Range.Sums.{add_mag, sub_mag}
use Rattle.ieee.proofs.Range.Constants.{zero_mag}
use Rattle.ieee.proofs.Range.Zero.{zero_num, zero_mul_mag, add_zero_same}
use Rattle.math_trig.proofs.Opposites.{neg_neg, add_neg}
use Rattle.polarization_value.specs.Value.{same, Finite}

-- ---- zeros of either sign
abbrev pub Zero : Float → Type 0
Zero x = Mag 0 0 x

pub zero_from : (x : Float) → T (is_zero x) → Zero x
zero_from nan t = absurd t
zero_from (inf s) t = absurd t
zero_from (fin s m e) t = record { fine = tt; most = le_of_eq (mul-one (m * up e) ∙ ap (λ (n : ℕ). n * up e) (eqb→eq m 0 t) ∙ zero-mul (up e) ∙ sym (zero-mul (down e))) }

pub zero_sum : {x y : Float} → Zero x → Zero y → Zero (x ⊕ y)
zero_sum h g = add_mag h g tt

pub zero_difference : {x y : Float} → Zero x → Zero y → Zero (x ⊖ y)
zero_difference h g = sub_mag h g tt

own_mag : {x : Float} → Finite x → Mag (num x) 0 x
own_mag {x} f = record { fine = f.fine; most = go (num x) (den x) (den_pos x) }
  where
    go : (n d : ℕ) → 0 < d → n * 1 ≤ n * d
    go n d h = mul-le-mul_left n h

pub zero_times : {z x : Float} → Zero z → Finite x → Zero (z ⊗ x)
zero_times h f = zero_mul_mag h (own_mag f)

-- ---- one times x
pub one_times : (x : Float) → Finite x → one ⊗ x ≡ x
unfolding of_bits
one_times x h = mul_is one x tt h.fine ∙ go (sgn x) (num x) (den x) ∙ round_itself binary64 x h.fine h.held
  where
    go : (s : Bool) (n d : ℕ) → round binary64 (unlike false s) (1 * n) (1 * d) ≡ round binary64 s n d
    go true n d = ap (λ (a : ℕ). round binary64 true a (1 * d)) (one-mul n) ∙ ap (round binary64 true n) (one-mul d)
    go false n d = ap (λ (a : ℕ). round binary64 false a (1 * d)) (one-mul n) ∙ ap (round binary64 false n) (one-mul d)

-- ---- what is left of x: x itself, or a zero where x is one
pub data Keeps (x : Float) : Float → Type 0 where
  kept : Keeps x x
  zeros : {r : Float} → Zero x → Zero r → Keeps x r

positive : (x w : Float) → T (plus x) → T (fits binary64 x) → Zero w → Keeps x (x ⊕ w)
positive x w p f h = subst (λ (r : Float). Keeps x r) (sym (add_zero_same x p f h)) kept

negative : (x w : Float) → T (plus (neg x)) → T (fits binary64 x) → Zero w → Keeps x (x ⊕ w)
negative x w p f h = go (add_neg x w)
  where
    e : neg x ⊕ neg w ≡ neg x
    e = add_zero_same (neg x) p (neg-fits binary64 x f) (neg_mag h)

    go : (neg x ⊕ neg w ≡ neg (x ⊕ w)) ⊎ ((x ⊕ w ≡ zero_f) × (neg x ⊕ neg w ≡ zero_f)) → Keeps x (x ⊕ w)
    go (inl q) = subst (λ (r : Float). Keeps x r) (sym (neg_neg x) ∙ ap neg (sym e ∙ q) ∙ neg_neg (x ⊕ w)) kept
    go (inr q) =
        zeros (subst Zero (neg_neg x) (neg_mag (subst Zero (sym (sym e ∙ q.1)) zero_mag)))
        (subst Zero (sym q.0) zero_mag)

pub keeps_sum : (x w : Float) → T (fits binary64 x) → Zero w → Keeps x (x ⊕ w)
unfolding neg add
keeps_sum nan w f h = kept
keeps_sum (inf s) nan f h = absurd h.fine
keeps_sum (inf s) (inf t) f h = absurd h.fine
keeps_sum (inf s) (fin t n d) f h = kept
keeps_sum (fin false m e) w f h = positive (fin false m e) w tt f h
keeps_sum (fin true m e) w f h = negative (fin true m e) w tt f h

pub keeps_difference : {x w : Float} → T (fits binary64 x) → Zero w → Keeps x (x ⊖ w)
keeps_difference {x} {w} f h = subst (λ (r : Float). Keeps x r) (sym (sub_is x w)) (keeps_sum x (neg w) f (neg_mag h))

pub keeps_more : {x r w : Float} → Keeps x r → T (fits binary64 x) → Zero w → Keeps x (r ⊕ w)
keeps_more {x} {w = w} kept f h = keeps_sum x w f h
keeps_more (zeros p q) f h = zeros p (zero_sum q h)

-- ---- equal in value
same_itself : (x : Float) → T (same x x)
unfolding eq is_nan
same_itself nan = tt
same_itself (inf true) = tt
same_itself (inf false) = tt
same_itself (fin s m e) = go (eqb n n && (beq s s || eqb n 0)) (and_i (eqb n n) (beq s s || eqb n 0) (eq→eqb {a = n} refl) (alike s))
  where
    n : ℕ
    n = m * up e * down e

    alike : (s : Bool) → T (beq s s || eqb n 0)
    alike true = tt
    alike false = tt

    go : (b : Bool) → T b → T (b || false && false)
    go true t = tt
    go false t = absurd t

level_zeros : (x y : Float) → Zero x → Zero y → T (same x y)
unfolding eq is_nan
level_zeros nan y h g = absurd h.fine
level_zeros (inf s) y h g = absurd h.fine
level_zeros (fin s m e) nan h g = absurd g.fine
level_zeros (fin s m e) (inf t) h g = absurd g.fine
level_zeros (fin s m e) (fin t n d) h g =
    let a : m * up e * down d ≡ 0 = ap (λ (k : ℕ). k * down d) (zero_num h) ∙ zero-mul (down d) in
    let b : n * up d * down e ≡ 0 = ap (λ (k : ℕ). k * down e) (zero_num g) ∙ zero-mul (down e) in
    go (eqb (m * up e * down d) (n * up d * down e)) (beq s t) (eqb (m * up e * down d) 0) (eq→eqb (a ∙ sym b)) (eq→eqb a)
  where
    go : (p q r : Bool) → T p → T r → T ((p && (q || r)) || false && false)
    go true true true x y = tt
    go true false true x y = tt
    go true true false x y = absurd y
    go true false false x y = absurd y
    go false q r x y = absurd x

pub same_zeros : {x y : Float} → Zero x → Zero y → T (same x y)
same_zeros {x} {y} h g = level_zeros x y h g

pub keeps_same : {x r : Float} → Keeps x r → T (same r x)
keeps_same {x} kept = same_itself x
keeps_same (zeros p q) = same_zeros q p

-- two that are kept of one
pub both_same : {x r t : Float} → Keeps x r → Keeps x t → T (same r t)
both_same {x} kept kept = same_itself x
both_same kept (zeros p q) = same_zeros p q
both_same (zeros p q) kept = same_zeros q p
both_same (zeros p q) (zeros p' q') = same_zeros q q'
