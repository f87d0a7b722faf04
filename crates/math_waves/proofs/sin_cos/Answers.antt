-- `math_waves::sin_cos` meets its contract. Assumes nothing.
use mathlib.Core.Path.{◌≡◌, refl, sym, ap, ◌∙◌}
use mathlib.Core.Bool.{Bool, true, false, not, true≢false}
use Prim.Native.Nat.{ℕ, ◌<◌}
use native.Mathlib.Omega.{arith}
use mathlib.Core.List.{List}
use lib.Dec.{T}
use lib.ListN.{get_or}
use lib.Ieee.{Float, nan}
use Rattle.ieee.proofs.Signs.{of_true}
use Rattle.math_trig.specs.Trig as Trig
use Rattle.math_trig.specs.Internal.{near_line}
use Rattle.math_waves.specs.Waves.{at_most_16, each_first, each}
use Rattle.math_waves.specs.Internal.{near, all_near, near_sin, near_cos, quick_sin, quick_cos}
use Rattle.math_waves.proofs.Written.{written_over, same_written}
use Rattle.math_waves.proofs.Sizes.{sin_near, cos_near, each_near}
use Rattle.math_waves.proofs.Quick.{quick_sin_is, quick_cos_is}
use Rattle.math_waves.proofs.sin_cos.Goals as goal
use Rattle.math_waves.proofs.sin_cos.Goals.{else-n-lt16, then-n-lt16}

-- all are near
module _ (x : List Float) (n m : ℕ) (e : m ≡ at_most_16 n) where
  quick : (f g : Float → Float) → ((k : ℕ) → k < m → f (get_or x k nan) ≡ g (get_or x k nan)) → (l r : List Float) → r ≡ each_first f x m l → r ≡ each g x n l
  quick f g h l r is = is ∙ same_written _ _ m l h ∙ ap (λ (k : ℕ). each_first g x k l) e

  -- each one by one, over what was written
  slow : (f g : Float → Float) (l r s : List Float) → r ≡ each_first f x m l → s ≡ each_first g x m r → s ≡ each g x n l
  slow f g l r s a b = b ∙ ap (each_first g x m) a ∙ written_over _ _ m l ∙ ap (λ (k : ℕ). each_first g x k l) e

so : (b : Bool) → not b ≡ false → b ≡ true
so true e = refl
so false e = absurd (true≢false e)

-- a way of the near angles, and one by one where not all are
module _ (x : List Float) (n m : ℕ) (e : m ≡ at_most_16 n) (f g : Float → Float) (all : Bool) (is : all ≡ all_near x m) (l r : List Float) (first : r ≡ each_first f x m l) where
  then_slow : (s : List Float) → s ≡ each_first g x m r → s ≡ each g x n l
  then_slow s d = slow x n m e f g l r s first d

  then_quick : ((k : ℕ) → T (near (get_or x k nan) (near_line (get_or x k nan))) → f (get_or x k nan) ≡ g (get_or x k nan)) → not all ≡ false → r ≡ each g x n l
  then_quick h t = quick x n m e f g (λ k b. h k (each_near x m k (of_true _ (sym is ∙ so _ t)) b)) l r first

-- in steps
steps_sin : (x : Float) → T (near x (near_line x)) → quick_sin x ≡ Trig.sin x
steps_sin x t = quick_sin_is x t ∙ sin_near x t

steps_cos : (x : Float) → T (near x (near_line x)) → quick_cos x ≡ Trig.cos x
steps_cos x t = quick_cos_is x t ∙ cos_near x t

pub returns-then-not-in_steps : goal.returns-then-not-in_steps
returns-then-not-in_steps c =
    let a = c.args in
    let few : c.if-n-lt16.few ≡ at_most_16 a.n = elim c.if-n-lt16.branch [ then-n-lt16 w ↦ omega arith | else-n-lt16 w ↦ omega arith ] in
    let r = c.in_steps.ensures in (
      then_slow a.x.now a.n _ few quick_sin Trig.sin _ r.0 a.sin.now _ r.1 _ c.one_by_one.ensures.0,
      then_slow a.x.now a.n _ few quick_cos Trig.cos _ r.0 a.cos.now _ r.2 _ c.one_by_one.ensures.1,
    )

pub returns-else-not-in_steps : goal.returns-else-not-in_steps
returns-else-not-in_steps c =
    let a = c.args in
    let few : c.if-n-lt16.few ≡ at_most_16 a.n = elim c.if-n-lt16.branch [ then-n-lt16 w ↦ omega arith | else-n-lt16 w ↦ omega arith ] in
    let r = c.in_steps.ensures in (
      then_quick a.x.now a.n _ few quick_sin Trig.sin _ r.0 a.sin.now _ r.1 (λ k. steps_sin _) (ap not c.if-not-in_steps.false),
      then_quick a.x.now a.n _ few quick_cos Trig.cos _ r.0 a.cos.now _ r.2 (λ k. steps_cos _) (ap not c.if-not-in_steps.false),
    )

pub returns-then-not-at_once : goal.returns-then-not-at_once
returns-then-not-at_once c =
    let a = c.args in
    let few : c.if-n-lt16.few ≡ at_most_16 a.n = elim c.if-n-lt16.branch [ then-n-lt16 w ↦ omega arith | else-n-lt16 w ↦ omega arith ] in
    let r = c.at_once.ensures in (
      then_slow a.x.now a.n _ few near_sin Trig.sin _ r.0 a.sin.now _ r.1 _ c.one_by_one-then-not-at_once.ensures.0,
      then_slow a.x.now a.n _ few near_cos Trig.cos _ r.0 a.cos.now _ r.2 _ c.one_by_one-then-not-at_once.ensures.1,
    )

pub returns-else-not-at_once : goal.returns-else-not-at_once
returns-else-not-at_once c =
    let a = c.args in
    let few : c.if-n-lt16.few ≡ at_most_16 a.n = elim c.if-n-lt16.branch [ then-n-lt16 w ↦ omega arith | else-n-lt16 w ↦ omega arith ] in
    let r = c.at_once.ensures in (
      then_quick a.x.now a.n _ few near_sin Trig.sin _ r.0 a.sin.now _ r.1 (λ k. sin_near _) (ap not c.if-not-at_once.false),
      then_quick a.x.now a.n _ few near_cos Trig.cos _ r.0 a.cos.now _ r.2 (λ k. cos_near _) (ap not c.if-not-at_once.false),
    )
