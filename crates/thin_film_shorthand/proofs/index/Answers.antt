-- `thin_film_shorthand::index` meets its contract. Assumes nothing.
use mathlib.Core.Path.{◌≡◌, refl, sym, ap, ◌∙◌}
use native.Mathlib.Omega.{arith}
use borrow.Author.Rules.{rules}
use borrow.Author.Tests.{eq-eqb, ne_eqb}
use Rattle.thin_film_shorthand.proofs.index.Goals as goal

pub returns-then-letter-eq0 : goal.returns-then-letter-eq0
returns-then-letter-eq0 c = simp (eq-eqb _ _ c.if-letter-eq0.true)

pub returns-then-letter-eq1 : goal.returns-then-letter-eq1
returns-then-letter-eq1 c = simp (ne_eqb _ _ c.if-letter-eq0.false, eq-eqb _ _ c.if-letter-eq1.true)

pub returns : goal.returns
returns c = simp (ne_eqb _ _ c.if-letter-eq0.false, ne_eqb _ _ c.if-letter-eq1.false)
