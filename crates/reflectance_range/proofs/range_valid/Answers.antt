-- `reflectance_range::range_valid` meets its contract. Assumes nothing.
use mathlib.Core.Path.{◌≡◌, sym, ◌∙◌}
use mathlib.Core.Bool.{Bool, true, false, ◌&&◌}
use Rattle.reflectance_range.specs.Range.{range_valid}
use Rattle.reflectance_range.proofs.range_valid.Goals as goal

first : (p q : Bool) → p ≡ false → false ≡ p && q
first p q e = simp e

module _ (p q r : Bool) where
  second : p ≡ true → q ≡ false → false ≡ p && (q && r)
  second e f = simp (e, f)

  third : p ≡ true → q ≡ true → r ≡ p && (q && r)
  third e f = simp (e, f)

pub returns-then-not-index_valid : goal.returns-then-not-index_valid
unfolding range_valid
returns-then-not-index_valid c = first _ _ (sym c.index_valid.ensures ∙ c.if-not-index_valid.true)

pub returns-then-not-index_valid-2 : goal.returns-then-not-index_valid-2
unfolding range_valid
returns-then-not-index_valid-2 c = second _ _ _ (sym c.index_valid.ensures ∙ c.if-not-index_valid.false) (sym c.index_valid-2.ensures ∙ c.if-not-index_valid-2.true)

pub returns : goal.returns
unfolding range_valid
returns c = third _ _ _ (sym c.index_valid.ensures ∙ c.if-not-index_valid.false) (sym c.index_valid-2.ensures ∙ c.if-not-index_valid-2.false)
