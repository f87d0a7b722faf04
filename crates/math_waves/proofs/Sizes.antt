-- The sines and cosines of near angles are those of any angle. Assumes nothing.
use mathlib.Core.Path.{◌≡◌, refl, sym, ap, ap₂, ◌∙◌, subst}
use mathlib.Core.Bool.{Bool, true, false, not, ◌&&◌, ◌||◌, cond}
use Prim.Native.Nat.{ℕ, zero, suc, ◌+◌, ◌≤◌, ◌<◌}
use native.Mathlib.Nat.{not-suc-le-zero}
use native.Mathlib.Numerals.{add-one}
use native.Mathlib.Omega.{arith}
use mathlib.Core.List.{List}
use lib.Dec.{T, ltb, ltb→lt, nltb→le}
use lib.ListN.{get_or}
use lib.Ieee.{Float, nan, inf, fin, neg, lt, eq, le, of_bits}
use lib.Ieee.Fits.{and_l, and_r}
use Rattle.ieee.specs.Operators.{◌⊕◌, ◌⊖◌}
use Rattle.ieee.specs.Functions.{abs}
use Rattle.math_trig.specs.Angles.{tau, pi, minus_pi, turns_limit}
use Rattle.math_trig.specs.Trig.{wrap, fold, second_fold, sin_at, sin, cos_at, cos}
use Rattle.math_trig.specs.Internal.{near_line}
use Rattle.math_trig.proofs.Opposites.{neg_neg, lt_neg}
use Rattle.math_trig.proofs.Shifted.{up_to_limit}
use Rattle.math_waves.specs.Internal.{turned, near, all_near, near_sin, near_cos}
use Rattle.math_waves.proofs.Cosines.{cos_is}

-- ---- the size
at_most : (x y : Float) → T (lt x y) → T (le x y)
unfolding le
at_most x y t = go (lt x y) t
  where
    go : (b : Bool) → T b → T (b || eq x y)
    go true t = tt
    go false t = absurd t

from_below : (x : Float) → T (lt (neg turns_limit) x) → T (lt (neg x) turns_limit)
from_below x t = subst T (sym (lt_neg x (neg turns_limit)) ∙ ap (lt (neg x)) (neg_neg turns_limit)) t

in_size : (x : Float) → T (lt x turns_limit) → T (lt (neg turns_limit) x) → T (le (abs x) turns_limit)
in_size nan a b = unfold lt in absurd a
in_size (inf true) a b = unfold lt neg of_bits in absurd b
in_size (inf false) a b = unfold lt of_bits in absurd a
in_size (fin true m e) a b = unfold abs neg in at_most (fin false m e) turns_limit (unfold neg in from_below (fin true m e) b)
in_size (fin false m e) a b = unfold abs in at_most (fin false m e) turns_limit a

module _ (x r : Float) (t : T (near x r)) where
  sizes : T (lt x turns_limit && lt (neg turns_limit) x && (not (lt pi r) && not (lt r minus_pi)))
  unfolding near
  sizes = t

  pub limited : T (le (abs x) turns_limit)
  limited =
      let h = and_l (lt x turns_limit && lt (neg turns_limit) x) (not (lt pi r) && not (lt r minus_pi)) sizes in
      in_size x (and_l (lt x turns_limit) (lt (neg turns_limit) x) h) (and_r (lt x turns_limit) (lt (neg turns_limit) x) h)

  -- nothing is to be added or taken off
  unwrapped : wrap r ≡ r
  unfolding wrap
  unwrapped =
      let h = and_r (lt x turns_limit && lt (neg turns_limit) x) (not (lt pi r) && not (lt r minus_pi)) sizes in
      go (lt pi r) (lt r minus_pi) (and_l (not (lt pi r)) (not (lt r minus_pi)) h) (and_r (not (lt pi r)) (not (lt r minus_pi)) h)
    where
      go : (a b : Bool) → T (not a) → T (not b) → cond a (r ⊖ tau) (cond b (r ⊕ tau) r) ≡ r
      go true b t u = absurd t
      go false true t u = absurd u
      go false false t u = refl

-- ---- one angle
module _ (x : Float) (t : T (near x (near_line x))) where
  pub folded : near_line x ≡ fold x
  unfolding fold
  folded = sym (unwrapped x (near_line x) t) ∙ ap wrap (up_to_limit x (limited x (near_line x) t))

  pub sin_near : near_sin x ≡ sin x
  unfolding near_sin sin
  sin_near = ap (λ (z : Float). sin_at (second_fold z)) folded

  pub cos_near : near_cos x ≡ cos x
  unfolding near_cos cos
  cos_near = ap (λ (z : Float). turned z (cos_at (second_fold z))) folded ∙ sym (cos_is (fold x))

-- ---- the first n
abbrev Near : Float → Type 0
Near x = T (near x (near_line x))

-- one angle more
pub more_near : (x : List Float) (i : ℕ) (b t : Bool) (y : Float) → b ≡ all_near x i → t ≡ near (get_or x i nan) y → y ≡ near_line (get_or x i nan) → b && t ≡ all_near x (i + 1)
unfolding all_near
more_near x i b t y e f g = ap₂ ◌&&◌ e (f ∙ ap (near (get_or x i nan)) g) ∙ ap (all_near x) (sym (add-one i))

pub each_near : (x : List Float) (n k : ℕ) → T (all_near x n) → k < n → Near (get_or x k nan)
unfolding all_near
each_near x zero k t h = absurd (not-suc-le-zero h)
each_near x (suc n) k t h = go (ltb k n) (ltb→lt k n) (nltb→le k n) (each_near x n k (and_l (all_near x n) (near (get_or x n nan) (near_line (get_or x n nan))) t))
  where
    go : (b : Bool) → (T b → k < n) → (T (not b) → n ≤ k) → (k < n → Near (get_or x k nan)) → Near (get_or x k nan)
    go true l g before = before (l tt)
    go false l g before =
        let e : n ≡ k = omega (arith, h, g tt) in
        subst (λ (j : ℕ). Near (get_or x j nan)) e (and_r (all_near x n) (near (get_or x n nan) (near_line (get_or x n nan))) t)
