-- `thin_film::reading::own_count` meets its contract. Assumes nothing.
use mathlib.Core.Path.{◌≡◌, refl, sym, ap, ◌∙◌}
use mathlib.Core.List.{List, []}
use Prim.Native.Nat.{ℕ}
use lib.ListN.{length}
use Rattle.thin_film_presets.specs.Layers.{broadband_layers, bragg_layers}
use Rattle.thin_film.specs.declared.SurfaceCoating.{SurfaceCoating}
use Rattle.thin_film.specs.declared.SurfaceCoating.TheVariants as S
use Rattle.thin_film.specs.Coating.{mgf2_layers, mirror_layers, layers_of}
use Rattle.thin_film.proofs.Own.{none}
use borrow.Author.Rules.{rules}
use Rattle.thin_film.proofs.reading.own_count.Goals as goal

long : (s t : SurfaceCoating) → s ≡ t → length (layers_of t []) ≡ length (layers_of s [])
long s t e = ap (λ (z : SurfaceCoating). length (layers_of z [])) (sym e)

pub returns-in-IdealAr : goal.returns-in-IdealAr
unfolding layers_of
returns-in-IdealAr c = long _ S.IdealAr c.in-IdealAr.is

pub returns-in-MgF2 : goal.returns-in-MgF2
unfolding layers_of mgf2_layers
returns-in-MgF2 c = long _ (S.MgF2 _) c.in-MgF2.is

pub returns-in-BroadbandAr : goal.returns-in-BroadbandAr
unfolding layers_of broadband_layers
returns-in-BroadbandAr c = long _ S.BroadbandAr c.in-BroadbandAr.is

pub returns-in-HighReflectanceMirror : goal.returns-in-HighReflectanceMirror
unfolding layers_of mirror_layers bragg_layers
returns-in-HighReflectanceMirror c = long _ S.HighReflectanceMirror c.in-HighReflectanceMirror.is

pub returns-in-Custom : goal.returns-in-Custom
returns-in-Custom c = ap length (sym (none _)) ∙ long _ (S.Custom _) c.in-Custom.is
