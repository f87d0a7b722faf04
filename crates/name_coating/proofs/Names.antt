-- Names of coatings, computed. Assumes nothing.
use mathlib.Core.Path.{refl}
use Rattle.name_bytes.specs.Trim.{prefix, kept, trimmed}
use Rattle.name_bytes.specs.Search.{begins, is, contains}
use Rattle.name_coating.specs.Name.{upper, names_none, names_mgf2, names_bbar, names_mirror, names_ar, coating_of, from_format_name}
use Rattle.name_coating.specs.Known.{KnownNames}

pub known_names : KnownNames
unfolding from_format_name coating_of names_none names_mgf2 names_bbar names_mirror names_ar upper trimmed kept prefix is begins contains
known_names = record {
  uncoated = refl;
  mgf2 = refl;
  bbar = refl;
  mirror = refl;
  refl_inside = refl;
  hr = refl;
  ar = refl;
  of_ideal = refl;
  of_mgf2 = refl;
  of_broadband = refl;
  of_mirror = refl;
  of_custom = refl;
}
