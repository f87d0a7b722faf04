-- 01 section 1: from a SURFACE's payload to its coating. Definitions only.
use Rattle.thin_film.specs.declared.SurfaceCoating.{SurfaceCoating}
use Rattle.std.specs.Prelude.{ℕ, cond, List, [], eqb, Float, None, Option, Some}
use Rattle.thin_film_solver.specs.declared.ThinFilmLayer.{ThinFilmLayer}
use Rattle.thin_film_coating.specs.declared.Coating.TheVariants as C
use Rattle.thin_film.specs.declared.SurfaceCoating.TheVariants as S
use Rattle.thin_film.specs.Coating.{standard_wavelength, layers_of}

-- payload / 2 is the coating: 0 bare, 1 IdealAr, 2 MgF2, 3 BroadbandAr, 4 HighReflectanceMirror, 5 Custom layers,
-- 6 Coating::IdealBeamsplitter, 7 Coating::IdealMirror
unfoldable pub coded : ℕ → Float → Option SurfaceCoating
coded code design =
    cond (eqb code 1) (Some S.IdealAr)
    (cond (eqb code 2) (Some (S.MgF2 design))
    (cond (eqb code 3) (Some S.BroadbandAr)
    (cond (eqb code 4) (Some S.HighReflectanceMirror)
    (cond (eqb code 5) (Some (S.Custom C.Multilayer))
    (cond (eqb code 6) (Some (S.Custom C.IdealBeamsplitter))
    (cond (eqb code 7) (Some (S.Custom C.IdealMirror)) None))))))

-- a sheet's MgF2 is at 550
unfoldable pub interface : ℕ → Option SurfaceCoating
interface code = coded code standard_wavelength

-- the layers that it has without being given any
abbrev pub preset_layers : Option SurfaceCoating → List ThinFilmLayer
preset_layers None = []
preset_layers (Some coating) = layers_of coating []
