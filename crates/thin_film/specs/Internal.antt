-- Internal: how `SurfaceCoating::evaluate` comes to its layers. A reader need not believe it: what is exported names `evaluate_surface`.
use Rattle.std.specs.Prelude.{ℕ, cond, List, [], eqb, length, Float, Ok}
use Rattle.std.specs.Float.Ieee.{lt}
use Rattle.thin_film_solver.specs.declared.ThinFilmLayer.{ThinFilmLayer}
use Rattle.thin_film_solver.specs.Internal.{solved}
use Rattle.thin_film_layers.specs.declared.Prepared.{Prepared}
use Rattle.thin_film_layers.specs.declared.Prepared.TheVariants as P
use Rattle.thin_film_layers.specs.Evaluation.{ordered}
use Rattle.thin_film_presets.specs.Layers.{broadband_layers}
use Rattle.thin_film_coating.specs.Internal.{prepare}
use Rattle.thin_film.specs.declared.SurfaceCoating.{SurfaceCoating}
use Rattle.thin_film.specs.declared.SurfaceCoating.TheVariants as S
use Rattle.thin_film.specs.Coating.{mgf2_layers, mirror_layers, coating_of, layers_of}

-- the layers of a coating that has some, its own or those beside it
unfoldable pub own_layers : SurfaceCoating → List ThinFilmLayer → List ThinFilmLayer
own_layers (S.MgF2 design) custom = mgf2_layers design
own_layers S.BroadbandAr custom = broadband_layers
own_layers S.HighReflectanceMirror custom = mirror_layers
own_layers S.IdealAr custom = custom
own_layers (S.Custom c) custom = custom

-- how many layers there are: a coating's own, or else count beside it
abbrev pub layer_count : SurfaceCoating → ℕ → ℕ
layer_count s count = cond (eqb (length (layers_of s [])) 0) count (length (layers_of s []))

-- everything up to the layers
abbrev pub prepared : SurfaceCoating → ℕ → Float → Float → Float → Float → Prepared
prepared s count n_incident n_substrate angle wavelength =
    prepare (coating_of s) (lt n_substrate n_incident) (layer_count s count) n_incident n_substrate angle wavelength

-- a preset coating is answered from its own layers
unfoldable pub answered_with : SurfaceCoating → Prepared → Prepared
answered_with s (P.Answered a) = P.Answered a
answered_with s (P.Layers reversed light) = P.Answered (Ok (solved light (ordered reversed (layers_of s []))))

abbrev pub answered_own : SurfaceCoating → Prepared → Prepared
answered_own s p = cond (eqb (length (layers_of s [])) 0) p (answered_with s p)
