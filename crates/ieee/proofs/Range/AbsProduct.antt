-- |x * y| is x * |y|, bit for bit, for a finite x whose sign is clear: rounding does not look at the sign. Assumes nothing.
use mathlib.Core.Path.{◌≡◌, refl, sym, ap, ◌∙◌}
use Prim.Native.Nat.{ℕ, zero, suc, ◌+◌, ◌*◌, ◌^◌}
use mathlib.Core.Bool.{Bool, true, false, cond}
use lib.Dec.{T, ltb}
use lib.Ieee.{Float, nan, inf, fin, Format, binary64, prec, emax, low, unlike, odd, units, round}
use lib.Ieee.Fits.{round_is}
use lib.Ieee.Order.{drop, kept}
use lib.Ieee.Scale.{finite}
use lib.Ieee.Positive.{num, den}
use Rattle.ieee.specs.Operators.{◌⊗◌}
use Rattle.ieee.specs.Functions.{abs}
use Rattle.ieee.specs.Range.{sgn, plus}
use Rattle.ieee.proofs.Range.Laws.{plus_finite, plus_sgn, mul_is}

abs_odd : (d : ℕ) (s : Bool) (q k l : ℕ) → abs (odd d s q k l) ≡ odd d false q k l
unfolding abs odd
abs_odd d s zero k l = refl
abs_odd d s (suc q) k l = refl

abs_units : (f : Format) (s : Bool) (q k : ℕ) → abs (units f s q k) ≡ units f false q k
unfolding units
abs_units f s q k = go (ltb (q * 2 ^ k) (2 ^ (low f + suc (emax f))))
  where
    inf_abs : (s : Bool) → abs (inf s) ≡ inf false
    inf_abs s = unfold abs in refl

    go : (b : Bool) → abs (cond b (odd (suc (prec f)) s q k (low f)) (inf s)) ≡ cond b (odd (suc (prec f)) false q k (low f)) (inf false)
    go true = abs_odd (suc (prec f)) s q k (low f)
    go false = inf_abs s

pub abs_round : (f : Format) (s : Bool) (N D : ℕ) → abs (round f s N D) ≡ round f false N D
abs_round f s N D = ap abs (round_is f s N D) ∙ abs_units f s (kept (prec f) (N * 2 ^ low f) D) (drop (prec f) (N * 2 ^ low f) D) ∙ sym (round_is f false N D)

pub abs_parts : (x : Float) → T (finite x) → T (finite (abs x)) × (sgn (abs x) ≡ false) × (num (abs x) ≡ num x) × (den (abs x) ≡ den x)
unfolding abs
abs_parts nan f = absurd f
abs_parts (inf s) f = absurd f
abs_parts (fin s m e) f = (tt, refl, refl, refl)

pub abs_mul : (x y : Float) → T (plus x) → T (finite y) → abs (x ⊗ y) ≡ x ⊗ abs y
abs_mul x y p f =
    let a = abs_parts y f in
    ap abs (mul_is x y (plus_finite x p) f)
    ∙ abs_round binary64 (unlike (sgn x) (sgn y)) (num x * num y) (den x * den y)
    ∙ sym (mul_is x (abs y) (plus_finite x p) a.0
    ∙ ap (λ (s : Bool). round binary64 (unlike s (sgn (abs y))) (num x * num (abs y)) (den x * den (abs y))) (plus_sgn x p)
    ∙ ap (λ (s : Bool). round binary64 (unlike false s) (num x * num (abs y)) (den x * den (abs y))) a.1
    ∙ ap (λ (n : ℕ). round binary64 false (num x * n) (den x * den (abs y))) a.2
    ∙ ap (λ (n : ℕ). round binary64 false (num x * num y) (den x * n)) a.3)
