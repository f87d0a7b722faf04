-- `thin_film_valid::valid` meets its contract. Assumes nothing.
use mathlib.Core.Path.{◌≡◌, sym, ◌∙◌}
use mathlib.Core.Bool.{Bool, true, false, ◌&&◌}
use borrow.Author.Tests.{not-true, not-false}
use Rattle.thin_film_valid.specs.Valid.{valid}
use borrow.Author.Rules.{rules}
use Rattle.thin_film_valid.proofs.valid.Goals as goal

-- the first test that fails, or the last test
module _ (p q f w : Bool) where
  first : p ≡ false → false ≡ p && q && f && w
  first a = simp a

  second : p ≡ true → q ≡ false → false ≡ p && q && f && w
  second a e = simp (a, e)

  third : p ≡ true → q ≡ true → f ≡ false → false ≡ p && q && f && w
  third a e g = simp (a, e, g)

  last : p ≡ true → q ≡ true → f ≡ true → w ≡ p && q && f && w
  last a e g = simp (a, e, g)

pub returns-then-not-finite_positive : goal.returns-then-not-finite_positive
unfolding valid
returns-then-not-finite_positive c = first _ _ _ _ (sym c.finite_positive.ensures ∙ c.if-not-finite_positive.true)

pub returns-then-not-finite_positive-2 : goal.returns-then-not-finite_positive-2
unfolding valid
returns-then-not-finite_positive-2 c = second _ _ _ _ (sym c.finite_positive.ensures ∙ c.if-not-finite_positive.false) (sym c.finite_positive-2.ensures ∙ c.if-not-finite_positive-2.true)

pub returns-then-is_finite : goal.returns-then-is_finite
unfolding valid
returns-then-is_finite c = c.finite_positive-then-is_finite.ensures ∙ last _ _ _ _ (sym c.finite_positive.ensures ∙ c.if-not-finite_positive.false) (sym c.finite_positive-2.ensures ∙ c.if-not-finite_positive-2.false) (sym c.is_finite.ensures ∙ c.if-is_finite.true)

pub returns-else-is_finite : goal.returns-else-is_finite
unfolding valid
returns-else-is_finite c = c.if-is_finite.false ∙ third _ _ _ _ (sym c.finite_positive.ensures ∙ c.if-not-finite_positive.false) (sym c.finite_positive-2.ensures ∙ c.if-not-finite_positive-2.false) (sym c.is_finite.ensures ∙ c.if-is_finite.false)
