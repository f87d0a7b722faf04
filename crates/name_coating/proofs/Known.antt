-- Known answers of document 01, computed by the checker. Assumes nothing.
use mathlib.Core.Path.{◌≡◌, refl}
use mathlib.Core.List.{[], ◌∷◌}
use Rattle.std.specs.Prelude.{None, Some}
use Rattle.refusal.specs.Outcome.{answer}
use Rattle.thin_film.specs.declared.SurfaceCoating.TheVariants as S
use Rattle.thin_film.specs.Coating.{mgf2_default}
use Rattle.name_bytes.specs.Trim.{prefix, kept, trimmed}
use Rattle.name_bytes.specs.Search.{begins, is, contains}
use Rattle.name_coating.specs.Name.{CUSTOM, upper, names_none, names_mgf2, names_bbar, names_mirror, names_ar, coating_of, from_format_name}

-- " mgf2 " is MgF2 at 550 nm
pub mgf2_in_blanks : from_format_name (32 ∷ 109 ∷ 103 ∷ 102 ∷ 50 ∷ 32 ∷ []) ≡ answer (Some mgf2_default)
unfolding from_format_name coating_of names_none names_mgf2 upper trimmed kept prefix is begins contains
mgf2_in_blanks = refl

-- "CUSTOM" is the ideal AR coating
pub custom_is_ideal : from_format_name CUSTOM ≡ answer (Some S.IdealAr)
unfolding from_format_name coating_of names_none names_mgf2 names_bbar names_mirror names_ar upper trimmed kept prefix is begins contains
custom_is_ideal = refl

-- "none" is none
pub none_is_none : from_format_name (110 ∷ 111 ∷ 110 ∷ 101 ∷ []) ≡ answer None
unfolding from_format_name coating_of names_none upper trimmed kept prefix is begins contains
none_is_none = refl
