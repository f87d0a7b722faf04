-- `reflectance_range::reflectance_range` meets its contract. Assumes nothing.
use mathlib.Core.Path.{◌≡◌, sym, ap₂, ◌∙◌}
use mathlib.Core.Bool.{Bool, true, false, ◌&&◌, cond}
use lib.Ieee.{Float}
use Rattle.refusal.specs.Outcome.{Outcome, answer, refusal}
use Rattle.reflectance_range.specs.declared.ReflectanceRange.{ReflectanceRange}
use Rattle.reflectance_range.specs.Range.{reflectance_range}
use Rattle.reflectance_range.proofs.reflectance_range.Goals as goal

module _ (p q : Bool) (o : Outcome ReflectanceRange) where
  first : p ≡ false → refusal 13 0 ≡ cond (p && q) o (refusal 13 0)
  first e = simp e

  second : p ≡ true → q ≡ false → refusal 13 0 ≡ cond (p && q) o (refusal 13 0)
  second e f = simp (e, f)

  both : p ≡ true → q ≡ true → o ≡ cond (p && q) o (refusal 13 0)
  both e f = simp (e, f)

pub returns-then-not-range_valid : goal.returns-then-not-range_valid
unfolding reflectance_range
returns-then-not-range_valid c = first _ _ _ (sym c.range_valid.ensures ∙ c.if-not-range_valid.true)

pub returns-then-not-range_valid-2 : goal.returns-then-not-range_valid-2
unfolding reflectance_range
returns-then-not-range_valid-2 c = second _ _ _ (sym c.range_valid.ensures ∙ c.if-not-range_valid.false) (sym c.range_valid-2.ensures ∙ c.if-not-range_valid-2.true)

pub returns : goal.returns
unfolding reflectance_range
returns c =
    ap₂ (λ (l h : Float). answer (record { low = l; high = h })) c.low.ensures c.high.ensures
    ∙ both _ _ _ (sym c.range_valid.ensures ∙ c.if-not-range_valid.false) (sym c.range_valid-2.ensures ∙ c.if-not-range_valid-2.false)
