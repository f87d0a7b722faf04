-- A coating's code has its name, and the name its code. Assumes nothing.
use mathlib.Core.Path.{◌≡◌, refl}
use Rattle.refusal.specs.Outcome.{answer, map}
use Rattle.thin_film_coating.specs.declared.Coating.TheVariants as C
use Rattle.thin_film.specs.declared.SurfaceCoating.{SurfaceCoating}
use Rattle.thin_film.specs.declared.SurfaceCoating.TheVariants as S
use Rattle.gate_limits.specs.Coating.{coded}
use Rattle.c_layers.specs.Evaluate.{call_coating}
use Rattle.name_bytes.specs.Trim.{prefix, kept, trimmed}
use Rattle.name_bytes.specs.Search.{begins, is, contains}
use Rattle.name_coating.specs.Name.{format_name, upper, names_none, names_mgf2, names_bbar, names_mirror, names_ar, coating_of, from_format_name}
use Rattle.c_names.specs.Names.{code_of, named_code, coating_name, code_again, NamesClaim}

named : (coating : SurfaceCoating) → coating_name (code_of coating) ≡ answer (format_name coating)
unfolding call_coating coded
named S.IdealAr = refl
named (S.MgF2 design) = refl
named S.BroadbandAr = refl
named S.HighReflectanceMirror = refl
named (S.Custom C.Multilayer) = refl
named (S.Custom C.IdealBeamsplitter) = refl
named (S.Custom C.IdealMirror) = refl
named (S.Custom C.IdealAr) = refl

again : (coating : SurfaceCoating) → map named_code (from_format_name (format_name coating)) ≡ answer (code_again coating)
unfolding from_format_name coating_of names_none names_mgf2 names_bbar names_mirror names_ar upper trimmed kept prefix is begins contains
again S.IdealAr = refl
again (S.MgF2 design) = refl
again S.BroadbandAr = refl
again S.HighReflectanceMirror = refl
again (S.Custom c) = refl

pub names : NamesClaim
names = record { named = named; again = again }
