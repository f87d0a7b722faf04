-- The tests of `Coating::evaluate` of thin_film.rs. Definitions only.
use Rattle.std.specs.Prelude.{Bool, ◌&&◌, Float}
use Rattle.std.specs.Float.Ieee.Scale.{finite}
use Rattle.ieee.specs.Functions.{finite_positive}

-- the seven tests of evaluate: what is not finite or not positive is InvalidParameter
unfoldable pub valid : Float → Float → Float → Float → Bool
valid n_incident n_substrate angle wavelength =
    finite_positive n_incident && finite_positive n_substrate && finite angle && finite_positive wavelength
