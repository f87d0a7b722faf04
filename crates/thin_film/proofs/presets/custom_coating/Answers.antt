-- `thin_film::presets::custom_coating` meets its contract. Assumes nothing.
use mathlib.Core.Path.{◌∙◌}
use borrow.Author.Tests.{le-leb, lt-leb}
use borrow.Author.Rules.{rules}
use Rattle.thin_film.proofs.presets.custom_coating.Goals as goal

pub returns-then-custom-le64 : goal.returns-then-custom-le64
returns-then-custom-le64 c = simp (c.in-Multilayer.is, le-leb _ _ c.if-custom-le64.true)

pub returns-else-custom-le64 : goal.returns-else-custom-le64
returns-else-custom-le64 c = c.too_many.ensures ∙ simp (c.in-Multilayer.is, lt-leb _ _ c.if-custom-le64.false)

pub returns-in-IdealAr : goal.returns-in-IdealAr
returns-in-IdealAr c = c.without_layers.ensures ∙ simp c.in-IdealAr.is

pub returns-in-IdealMirror : goal.returns-in-IdealMirror
returns-in-IdealMirror c = c.without_layers-in-IdealMirror.ensures ∙ simp c.in-IdealMirror.is

pub returns-in-IdealBeamsplitter : goal.returns-in-IdealBeamsplitter
returns-in-IdealBeamsplitter c = c.without_layers-in-IdealBeamsplitter.ensures ∙ simp c.in-IdealBeamsplitter.is
