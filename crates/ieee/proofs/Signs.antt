-- What the tests of the small functions say of a float: whether it is a NaN, a zero or finite. Assumes nothing.
use mathlib.Core.Path.{◌≡◌, refl, sym, ap, ◌∙◌, subst}
use Prim.Native.Nat.{ℕ, suc, ◌*◌, ◌<◌}
use native.Mathlib.Nat.{lt_irrefl, mul-one, zero-mul, mul-pos, zero-lt-suc}
use mathlib.Core.Bool.{Bool, true, false, not, ◌&&◌, true≢false, false≢true}
use lib.IntN.{pos}
use lib.Dec.{T}
use lib.Ieee.{Float, nan, inf, fin, binary64, lt, eq, ne, neg, div, is_nan, of_bits, level}
use lib.Ieee.Compare.{differs_from_itself}
use lib.Ieee.Scale.{finite}

-- the 0.0 of the source
pub zero_is : of_bits binary64 0 ≡ fin false 0 (pos 0)
unfolding of_bits
zero_is = refl

pub of_true : (b : Bool) → b ≡ true → T b
of_true true e = tt
of_true false e = absurd (false≢true e)

pub and-true : (a b : Bool) → (a && b) ≡ true → T a
and-true true b e = tt
and-true false b e = absurd (false≢true e)

-- ---- x != x
pub is_nan_lem : (x : Float) → ne x x ≡ true → x ≡ nan
is_nan_lem x e = differs_from_itself x (of_true (ne x x) e)

pub not_nan : (x : Float) → ne x x ≡ false → is_nan x ≡ false
unfolding ne eq is_nan
not_nan nan e = absurd (true≢false e)
not_nan (inf s) e = refl
not_nan (fin s m d) e = refl

pub finite_number : (x : Float) → T (finite x) → T (not (is_nan x))
unfolding is_nan
finite_number nan f = absurd f
finite_number (inf s) f = absurd f
finite_number (fin s m e) f = tt

-- ---- x == 0.0
pub not_zero : (m u v : ℕ) → 0 < u → suc m * u * 1 ≡ 0 * 1 * v → ⊥
not_zero m u v U e = lt_irrefl 0 (subst (λ (x : ℕ). 0 < x) (sym (mul-one (suc m * u)) ∙ e ∙ ap (λ (x : ℕ). x * v) (zero-mul 1) ∙ zero-mul v) (mul-pos (zero-lt-suc m) U))

nothing : (u : ℕ) → 0 * u * 1 ≡ 0
nothing u = mul-one (0 * u) ∙ zero-mul u

pub nothing' : (v : ℕ) → 0 * 1 * v ≡ 0
nothing' v = ap (λ (x : ℕ). x * v) (zero-mul 1) ∙ zero-mul v

level_zero : (s : Bool) → level s 0 false 0 ≡ true
level_zero true = refl
level_zero false = refl

pub zero_level : (s : Bool) (u v : ℕ) → level s (0 * u * 1) false (0 * 1 * v) ≡ true
zero_level s u v = ap (λ (x : ℕ). level s x false (0 * 1 * v)) (nothing u) ∙ ap (level s 0 false) (nothing' v) ∙ level_zero s

-- ---- finite: strictly between the infinities, which the source has as 1.0 / 0.0
abbrev pub infinity : Float
infinity = div binary64 (of_bits binary64 0x3FF0_0000_0000_0000) (of_bits binary64 0)

pub inf_is : infinity ≡ inf false
unfolding of_bits div
inf_is = refl

below_inf : (x : Float) → lt x (inf false) ≡ true → lt (neg (inf false)) x ≡ finite x
unfolding lt neg
below_inf nan e = refl
below_inf (inf true) e = refl
below_inf (inf false) e = absurd (false≢true e)
below_inf (fin s m d) e = refl

pub finite_above : (x : Float) → lt x infinity ≡ true → lt (neg infinity) x ≡ finite x
finite_above x e = rw inf_is (below_inf x (rw inf_is at e))

not_below_inf : (x : Float) → lt x (inf false) ≡ false → false ≡ finite x
unfolding lt
not_below_inf nan e = refl
not_below_inf (inf true) e = refl
not_below_inf (inf false) e = refl
not_below_inf (fin s m d) e = absurd (true≢false e)

pub finite_not : (x : Float) → lt x infinity ≡ false → false ≡ finite x
finite_not x e = not_below_inf x (rw inf_is at e)
