-- `thin_film_complex::Complex::div` meets its contract. Assumes nothing.
use mathlib.Core.Path.{◌≡◌, ◌∙◌}
use mathlib.Core.Bool.{true, false}
use borrow.Author.Rules.{rules}
use lib.Ieee.{lt}
use Rattle.thin_film_complex.specs.declared.Complex.{Complex}
use Rattle.thin_film_complex.specs.Complex.{norm_sq, zero, quotient, div}
use Rattle.ieee.specs.Functions.{tiny}
use Rattle.thin_film_complex.proofs.Complex.div.Goals as goal

small : (z w : Complex) → lt (norm_sq w) tiny ≡ true → zero ≡ div z w
unfolding div
small z w e = simp e

large : (z w : Complex) → lt (norm_sq w) tiny ≡ false → quotient z w (norm_sq w) ≡ div z w
unfolding div
large z w e = simp e

pub returns-then-denom : goal.returns-then-denom
unfolding norm_sq
returns-then-denom c = c.zero.ensures ∙ small _ _ c.if-denom.true

pub returns : goal.returns
unfolding norm_sq quotient
returns c = large _ _ c.if-denom.false
