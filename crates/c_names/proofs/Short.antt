-- A coating's name is short. Assumes nothing.
use mathlib.Core.List.{List}
use Prim.Native.Nat.{ℕ, ◌≤◌}
use lib.Dec.{lit≤}
use lib.ListN.{length}
use Rattle.thin_film.specs.declared.SurfaceCoating.{SurfaceCoating}
use Rattle.thin_film.specs.declared.SurfaceCoating.TheVariants as S
use Rattle.name_coating.specs.Name.{format_name}

abbrev pub Short : List ℕ → Type 0
Short name = length name ≤ 16

pub short : (coating : SurfaceCoating) → Short (format_name coating)
short S.IdealAr = lit≤ tt
short (S.MgF2 design) = lit≤ tt
short S.BroadbandAr = lit≤ tt
short S.HighReflectanceMirror = lit≤ tt
short (S.Custom c) = lit≤ tt
