-- What C's calls of a train and of a band return and leave. Assumes nothing.
use mathlib.Core.Path.{refl}
use Rattle.known_answers.specs.Exports.{KnownExports}

pub known_exports : KnownExports
known_exports = record {
  states = λ s p wavelength. refl;
  start = λ lent. refl;
  step = λ s p wavelength lent. refl;
  refused = λ lent. refl;
  run = λ list. refl;
  edition_1 = λ output. refl;
  band = λ s p. refl;
  version_0_4 = refl;
}
