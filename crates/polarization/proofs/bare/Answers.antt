-- `polarization::bare` meets its contract. Assumes nothing.
use mathlib.Core.Path.{sym}
use Rattle.polarization.specs.Surface.{bare}
use borrow.Author.Rules.{rules}
use Rattle.polarization.proofs.bare.Goals as goal

pub returns-then-abs : goal.returns-then-abs
unfolding bare
returns-then-abs c = simp (c.totally_reflected.ensures, sym c.abs.ensures, c.if-abs.true)

pub returns : goal.returns
unfolding bare
returns c = simp (c.refracted.ensures, c.cos_t.ensures, sym c.abs.ensures, c.if-abs.false)
