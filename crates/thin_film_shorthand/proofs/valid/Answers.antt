-- `thin_film_shorthand::valid` meets its contract. Assumes nothing.
use mathlib.Core.Path.{◌≡◌, sym, ◌∙◌}
use mathlib.Core.Bool.{Bool, true, false, ◌&&◌}
use Rattle.thin_film_shorthand.specs.Stack.{valid}
use Rattle.thin_film_shorthand.proofs.valid.Goals as goal

module _ (p q f w : Bool) where
  first : p ≡ false → false ≡ p && q && f && w
  first a = simp a

  second : p ≡ true → q ≡ false → false ≡ p && q && f && w
  second a e = simp (a, e)

  third : p ≡ true → q ≡ true → f ≡ false → false ≡ p && q && f && w
  third a e g = simp (a, e, g)

  last : p ≡ true → q ≡ true → f ≡ true → w ≡ p && q && f && w
  last a e g = simp (a, e, g)

pub returns-then-not-finite_positive : goal.returns-then-not-finite_positive
unfolding valid
returns-then-not-finite_positive c = first _ _ _ _ (sym c.finite_positive.ensures ∙ c.if-not-finite_positive.true)

pub returns-then-not-finite_positive-2 : goal.returns-then-not-finite_positive-2
unfolding valid
returns-then-not-finite_positive-2 c = second _ _ _ _ (sym c.finite_positive.ensures ∙ c.if-not-finite_positive.false) (sym c.finite_positive-2.ensures ∙ c.if-not-finite_positive-2.true)

pub returns-then-not-finite_positive-3 : goal.returns-then-not-finite_positive-3
unfolding valid
returns-then-not-finite_positive-3 c = third _ _ _ _ (sym c.finite_positive.ensures ∙ c.if-not-finite_positive.false) (sym c.finite_positive-2.ensures ∙ c.if-not-finite_positive-2.false) (sym c.finite_positive-3.ensures ∙ c.if-not-finite_positive-3.true)

pub returns : goal.returns
unfolding valid
returns c = c.finite_positive-4.ensures ∙ last _ _ _ _ (sym c.finite_positive.ensures ∙ c.if-not-finite_positive.false) (sym c.finite_positive-2.ensures ∙ c.if-not-finite_positive-2.false) (sym c.finite_positive-3.ensures ∙ c.if-not-finite_positive-3.false)
