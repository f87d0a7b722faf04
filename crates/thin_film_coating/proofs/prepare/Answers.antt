-- `thin_film_coating::prepare` meets its contract. Assumes nothing.
use mathlib.Core.Path.{sym, ◌∙◌}
use borrow.Author.Tests.{le-leb, lt-leb, not-true, not-false}
use Rattle.thin_film_coating.specs.Internal.{start, prepare}
use borrow.Author.Rules.{rules}
use Rattle.thin_film_coating.proofs.prepare.Goals as goal

pub returns-then-not-valid : goal.returns-then-not-valid
unfolding prepare
returns-then-not-valid c = simp (sym c.valid.ensures ∙ c.if-not-valid.true)

pub returns-then-count-gt64 : goal.returns-then-count-gt64
unfolding prepare start
returns-then-count-gt64 c = simp (c.in-Multilayer.is, sym c.valid.ensures ∙ c.if-not-valid.false, lt-leb _ _ c.if-count-gt64.true)

pub returns-in-IdealAr : goal.returns-in-IdealAr
unfolding prepare start
returns-in-IdealAr c = c.answered.ensures ∙ simp (c.ideal_ar.ensures, c.in-IdealAr.is, sym c.valid.ensures ∙ c.if-not-valid.false)

pub returns-in-IdealMirror : goal.returns-in-IdealMirror
unfolding prepare start
returns-in-IdealMirror c = c.answered-in-IdealMirror.ensures ∙ simp (c.ideal_mirror.ensures, c.in-IdealMirror.is, sym c.valid.ensures ∙ c.if-not-valid.false)

pub returns-in-IdealBeamsplitter : goal.returns-in-IdealBeamsplitter
unfolding prepare start
returns-in-IdealBeamsplitter c = c.answered-in-IdealBeamsplitter.ensures ∙ simp (c.ideal_beamsplitter.ensures, c.in-IdealBeamsplitter.is, sym c.valid.ensures ∙ c.if-not-valid.false)

pub returns-else-count-gt64 : goal.returns-else-count-gt64
unfolding prepare start
returns-else-count-gt64 c = simp (c.new-light.ensures, c.in-Multilayer.is, sym c.valid.ensures ∙ c.if-not-valid.false, le-leb _ _ c.if-count-gt64.false)
