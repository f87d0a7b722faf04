-- `math_waves::to_one` meets its contract: -1 is not above 1. Assumes nothing.
use mathlib.Core.Path.{◌≡◌, refl, sym, ap, ◌∙◌}
use mathlib.Core.Bool.{Bool, true, false, cond}
use lib.Ieee.{Float, neg, lt, of_bits}
use Rattle.ieee.specs.Functions.{one, minus_one, clamp}
use Rattle.math_waves.proofs.to_one.Goals as goal
use Rattle.math_waves.proofs.to_one.Goals.{else-x, then-x}

-- one bound after the other
below : Float → Float
below x = cond (lt x minus_one) minus_one x

both : (x : Float) → cond (lt one (below x)) one (below x) ≡ clamp x minus_one one
unfolding below clamp
both x = go (lt x minus_one)
  where
    go : (b : Bool) → cond (lt one (cond b minus_one x)) one (cond b minus_one x) ≡ cond b minus_one (cond (lt one x) one x)
    go true = unfold lt of_bits in refl
    go false = refl

at_last : (x v : Float) (b : Bool) → v ≡ below x → lt one v ≡ b → cond b one v ≡ clamp x minus_one one
at_last x v b e t = ap (λ (a : Bool). cond a one v) (sym t) ∙ ap (λ (z : Float). cond (lt one z) one z) e ∙ both x

pub returns-then-least : goal.returns-then-least
unfolding neg of_bits below lt
returns-then-least c = at_last _ _ true ((let it : c.if-x.least ≡ below c.args.x = elim c.if-x.branch [ then-x w ↦ w.least-is ∙ sym (ap (λ (b : Bool). cond b minus_one c.args.x) w.if-x.true) | else-x w ↦ w.least-is ∙ sym (ap (λ (b : Bool). cond b minus_one c.args.x) w.if-x.false) ] in it)) c.if-least.true

pub returns-else-least : goal.returns-else-least
unfolding neg of_bits below lt
returns-else-least c = at_last _ _ false ((let it : c.if-x.least ≡ below c.args.x = elim c.if-x.branch [ then-x w ↦ w.least-is ∙ sym (ap (λ (b : Bool). cond b minus_one c.args.x) w.if-x.true) | else-x w ↦ w.least-is ∙ sym (ap (λ (b : Bool). cond b minus_one c.args.x) w.if-x.false) ] in it)) c.if-least.false
