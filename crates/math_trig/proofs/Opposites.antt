-- The opposite of a product, of a remainder, of a comparison and of a sum. Only a sum that is exactly zero does not change its sign with its terms. Assumes nothing.
use mathlib.Core.Path.{◌≡◌, refl, sym, ap, ◌∙◌}
use mathlib.Core.Logic.{inl, inr}
use Prim.Native.Nat.{ℕ, zero, suc, ◌+◌, ◌-◌, ◌*◌, ◌%◌, ◌^◌, ◌≤◌, ◌<◌}
use native.Mathlib.Nat.{add_comm, zero-mul, mul-pos}
use native.Mathlib.Omega.{arith}
use mathlib.Core.Bool.{Bool, true, false, not, ◌&&◌, beq, cond}
use lib.Dec.{T, ltb, eqb, nltb→le}
use lib.IntN.{pos}
use lib.Ieee.{Float, nan, inf, fin, Format, binary64, prec, emax, low, unlike, up, down, odd, units, round, neg, sum, add, sub, mul, rem, below, lt}
use lib.Ieee.Fits.{round_is, down_pos}
use lib.Ieee.Order.{drop, kept}
use lib.Ieee.Scale.{round_same}
use Rattle.ieee.specs.Operators.{◌⊕◌, ◌⊖◌, ◌⊗◌}
use Rattle.ieee.specs.Functions.{zero_f, abs}
use Rattle.ieee.proofs.Signs.{zero_is}
use Rattle.ieee.proofs.Range.Laws.{sub_is}
use Rattle.math_trig.specs.Opposite.{Opposite}

pub neg_neg : (x : Float) → neg (neg x) ≡ x
unfolding neg
neg_neg nan = refl
neg_neg (inf true) = refl
neg_neg (inf false) = refl
neg_neg (fin true m e) = refl
neg_neg (fin false m e) = refl

-- ---- rounding is the same on both sides of zero
units_neg : (f : Format) (s : Bool) (q k : ℕ) → neg (units f s q k) ≡ units f (not s) q k
unfolding units odd neg
units_neg f s q k = go (ltb (q * 2 ^ k) (2 ^ (low f + suc (emax f)))) q
  where
    go : (b : Bool) (q : ℕ) → neg (cond b (odd (suc (prec f)) s q k (low f)) (inf s)) ≡ cond b (odd (suc (prec f)) (not s) q k (low f)) (inf (not s))
    go true zero = refl
    go true (suc q) = refl
    go false q = refl

pub round_neg : (f : Format) (s : Bool) (N D : ℕ) → neg (round f s N D) ≡ round f (not s) N D
round_neg f s N D =
    ap neg (round_is f s N D) ∙ units_neg f s (kept (prec f) (N * 2 ^ low f) D) (drop (prec f) (N * 2 ^ low f) D) ∙ sym (round_is f (not s) N D)

pub round_zero : (s : Bool) (c : ℕ) → 0 < c → round binary64 s 0 c ≡ fin s 0 (pos 0)
round_zero s c C = round_same binary64 s 0 c 0 1 C one (zero-mul 1 ∙ sym (zero-mul c)) ∙ at s
  where
    one : 0 < 1
    one = omega arith

    at : (s : Bool) → round binary64 s 0 1 ≡ fin s 0 (pos 0)
    at true = unfold round in refl
    at false = unfold round in refl

-- ---- products
not_unlike : (s t : Bool) → unlike (not s) t ≡ not (unlike s t)
not_unlike true true = refl
not_unlike true false = refl
not_unlike false true = refl
not_unlike false false = refl

pub mul_neg : (x y : Float) → neg x ⊗ y ≡ neg (x ⊗ y)
unfolding mul neg
mul_neg nan y = refl
mul_neg (inf s) nan = refl
mul_neg (inf s) (inf t) = ap inf (not_unlike s t)
mul_neg (inf s) (fin t n d) = go (eqb n 0)
  where
    go : (b : Bool) → cond b nan (inf (unlike (not s) t)) ≡ neg (cond b nan (inf (unlike s t)))
    go true = refl
    go false = ap inf (not_unlike s t)
mul_neg (fin s m e) nan = refl
mul_neg (fin s m e) (inf t) = go (eqb m 0)
  where
    go : (b : Bool) → cond b nan (inf (unlike (not s) t)) ≡ neg (cond b nan (inf (unlike s t)))
    go true = refl
    go false = ap inf (not_unlike s t)
mul_neg (fin s m e) (fin t n d) =
    ap (λ (b : Bool). round binary64 b (m * up e * (n * up d)) (down e * down d)) (not_unlike s t) ∙ sym (round_neg binary64 (unlike s t) (m * up e * (n * up d)) (down e * down d))

pub square_neg : (x : Float) → neg x ⊗ neg x ≡ x ⊗ x
unfolding mul neg
square_neg nan = refl
square_neg (inf true) = refl
square_neg (inf false) = refl
square_neg (fin true m e) = refl
square_neg (fin false m e) = refl

-- ---- the remainder has the dividend's sign
pub rem_neg : (f : Format) (x y : Float) → rem f (neg x) y ≡ neg (rem f x y)
unfolding rem neg
rem_neg f nan y = refl
rem_neg f (inf s) y = refl
rem_neg f (fin s m e) nan = refl
rem_neg f (fin s m e) (inf t) = refl
rem_neg f (fin s m e) (fin t n d) = go (eqb n 0)
  where
    N : ℕ
    N = m * up e * down d % (n * up d * down e)

    go : (b : Bool) → cond b nan (round f (not s) N (down e * down d)) ≡ neg (cond b nan (round f s N (down e * down d)))
    go true = refl
    go false = sym (round_neg f s N (down e * down d))

-- ---- comparisons
below_neg : (s : Bool) (a : ℕ) (t : Bool) (b : ℕ) → below (not s) a (not t) b ≡ below t b s a
below_neg true a true b = refl
below_neg true a false b = refl
below_neg false a true b = ap (ltb 0) (add_comm a b)
below_neg false a false b = refl

pub lt_neg : (x y : Float) → lt (neg x) (neg y) ≡ lt y x
unfolding lt neg
lt_neg nan nan = refl
lt_neg nan (inf t) = refl
lt_neg nan (fin t n d) = refl
lt_neg (inf s) nan = refl
lt_neg (inf true) (inf true) = refl
lt_neg (inf true) (inf false) = refl
lt_neg (inf false) (inf true) = refl
lt_neg (inf false) (inf false) = refl
lt_neg (inf s) (fin t n d) = refl
lt_neg (fin s m e) nan = refl
lt_neg (fin s m e) (inf true) = refl
lt_neg (fin s m e) (inf false) = refl
lt_neg (fin s m e) (fin t n d) = below_neg s (m * up e * down d) t (n * up d * down e)

-- ---- sums
-- x - x: what is left is +0, whatever the sign of x
level : (c a b : ℕ) → 0 < c → a ≤ b → round binary64 false (a - b) c ≡ zero_f
level c a b C h = ap (λ (n : ℕ). round binary64 false n c) (nothing a b h) ∙ round_zero false c C ∙ sym zero_is
  where
    nothing : (a b : ℕ) → a ≤ b → a - b ≡ 0
    nothing a b h = omega arith

sum_neg : (s : Bool) (a : ℕ) (t : Bool) (b c : ℕ) → 0 < c → Opposite (sum binary64 s a t b c) (sum binary64 (not s) a (not t) b c)
unfolding sum
sum_neg s a t b c C = go s t (ltb a b) (ltb b a) (nltb→le b a)
  where
    same : (s : Bool) (n : ℕ) → Opposite (round binary64 s n c) (round binary64 (not s) n c)
    same s n = inl (sym (round_neg binary64 s n c))

    at : Bool → Bool → Bool → Bool → Float
    at s t u v = cond (beq s t) (round binary64 s (a + b) c) (cond u (round binary64 t (b - a) c) (round binary64 (s && v) (a - b) c))

    go : (s t u v : Bool) → (T (not v) → a ≤ b) → Opposite (at s t u v) (at (not s) (not t) u v)
    go true true u v h = same true (a + b)
    go false false u v h = same false (a + b)
    go true false true v h = same false (b - a)
    go false true true v h = same true (b - a)
    go true false false true h = same true (a - b)
    go false true false true h = same false (a - b)
    go true false false false h = inr (level c a b C (h tt), level c a b C (h tt))
    go false true false false h = inr (level c a b C (h tt), level c a b C (h tt))

pub add_neg : (x y : Float) → Opposite (x ⊕ y) (neg x ⊕ neg y)
unfolding add neg
add_neg nan y = inl refl
add_neg (inf s) nan = inl refl
add_neg (inf true) (inf true) = inl refl
add_neg (inf true) (inf false) = inl refl
add_neg (inf false) (inf true) = inl refl
add_neg (inf false) (inf false) = inl refl
add_neg (inf s) (fin t n d) = inl refl
add_neg (fin s m e) nan = inl refl
add_neg (fin s m e) (inf t) = inl refl
add_neg (fin s m e) (fin t n d) = sum_neg s (m * up e * down d) t (n * up d * down e) (down e * down d) (mul-pos (down_pos e) (down_pos d))

pub sub_neg : (x y : Float) → Opposite (x ⊖ y) (neg x ⊖ neg y)
unfolding sub
sub_neg x y = add_neg x (neg y)

pub sub_opposite : (x y : Float) → x ⊖ neg y ≡ x ⊕ y
sub_opposite x y = sub_is x (neg y) ∙ ap (λ (z : Float). x ⊕ z) (neg_neg y)

-- ---- an opposite has the same size
pub opposite_abs : {x y : Float} → Opposite x y → abs y ≡ abs x
opposite_abs {x} {y} (inl e) = ap abs e ∙ go x
  where
    go : (x : Float) → abs (neg x) ≡ abs x
    go nan = unfold abs neg in refl
    go (inf s) = unfold abs neg in refl
    go (fin s m e) = unfold abs neg in refl
opposite_abs {x} {y} (inr e) = ap abs (e.1 ∙ sym e.0)
