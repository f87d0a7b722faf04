-- dihkelu_evaluate has a coating by its code. Assumes nothing.
use mathlib.Core.Path.{refl}
use Rattle.thin_film_coating.specs.declared.Coating.TheVariants as C
use Rattle.thin_film.specs.declared.SurfaceCoating.TheVariants as S
use Rattle.gate_limits.specs.Coating.{coded}
use Rattle.c_layers.specs.Evaluate.{call_coating}
use Rattle.c_names.specs.Names.{CodesClaim}

pub codes : CodesClaim
unfolding call_coating coded
codes S.IdealAr = refl
codes (S.MgF2 design) = refl
codes S.BroadbandAr = refl
codes S.HighReflectanceMirror = refl
codes (S.Custom C.Multilayer) = refl
codes (S.Custom C.IdealBeamsplitter) = refl
codes (S.Custom C.IdealMirror) = refl
codes (S.Custom C.IdealAr) = refl
