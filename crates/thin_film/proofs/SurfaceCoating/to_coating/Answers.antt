-- `thin_film::SurfaceCoating::to_coating` meets its contract. Assumes nothing.
use mathlib.Core.Path.{◌∙◌}
use Rattle.thin_film.specs.Coating.{mgf2_layers, mirror_layers}
use borrow.Author.Rules.{rules}
use Rattle.thin_film.proofs.SurfaceCoating.to_coating.Goals as goal

pub returns-in-IdealAr : goal.returns-in-IdealAr
returns-in-IdealAr c = c.without_layers.ensures ∙ simp c.in-IdealAr.is

pub returns-in-MgF2 : goal.returns-in-MgF2
unfolding mgf2_layers
returns-in-MgF2 c = c.single.ensures ∙ simp (c.quarter_wave.ensures, c.in-MgF2.is)

pub returns-in-HighReflectanceMirror : goal.returns-in-HighReflectanceMirror
unfolding mirror_layers
returns-in-HighReflectanceMirror c = c.bragg_mirror.ensures ∙ simp c.in-HighReflectanceMirror.is

pub returns-in-Custom : goal.returns-in-Custom
returns-in-Custom c = c.custom_coating.ensures ∙ simp c.in-Custom.is
