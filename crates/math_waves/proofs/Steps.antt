-- A list that a loop changes place by place, each by what stands at the same place of another list. Assumes nothing.
use mathlib.Core.Path.{◌≡◌, ap, ◌∙◌, subst}
use Prim.Native.Nat.{ℕ, ◌+◌, ◌<◌}
use native.Mathlib.Omega.{arith}
use mathlib.Core.List.{List}
use lib.ListN.{set}
use lib.Ieee.{Float, nan}
use Rattle.math_waves.specs.Internal.{at, stepped}
use Rattle.math_waves.proofs.Written.{length_written, written_more, written_over, same_within, nth_within, nth_unwritten}

-- one place more
pub stepped_more : (f : Float → Float → Float) (z p p₀ : List Float) (i : ℕ) (v : Float) → p ≡ stepped f z i p₀ → v ≡ f (at z i) (at p i) → set p i v ≡ stepped f z (i + 1) p₀
stepped_more f z p p₀ i v e g = written_more _ p p₀ i v e (g ∙ ap (λ (l : List Float). f (at z i) (at l i)) e ∙ ap (f (at z i)) (nth_unwritten _ i p₀ i nan (omega arith)))

-- g after f
abbrev pub after : (Float → Float → Float) → (Float → Float → Float) → Float → Float → Float
after g f w v = g w (f w v)

-- two steps are one
pub stepped_twice : (f g : Float → Float → Float) (z p : List Float) (n : ℕ) → stepped g z n (stepped f z n p) ≡ stepped (after g f) z n p
stepped_twice f g z p n =
    same_within _ _ n (stepped f z n p) (λ k b h. ap (g (at z k)) (nth_within _ n p k nan b (subst (λ (m : ℕ). k < m) (length_written _ n p) h))) ∙ written_over _ _ n p

-- after p, which is a step of p₀, one more
pub and_then : (f g : Float → Float → Float) (z p₀ p q : List Float) (n : ℕ) → p ≡ stepped f z n p₀ → q ≡ stepped g z n p → q ≡ stepped (after g f) z n p₀
and_then f g z p₀ p q n e d = d ∙ ap (stepped g z n) e ∙ stepped_twice f g z p₀ n
