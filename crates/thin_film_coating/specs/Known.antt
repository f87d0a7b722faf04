-- The layer of `quarter_wave_ar`, worked out apart. Types only; `proofs/Known.antt` computes it.
use Rattle.std.specs.Prelude.{◌≡◌, [], ◌∷◌}
use Rattle.std.specs.Float.{binary64}
use Rattle.std.specs.Float.Ieee.{of_bits}
use Rattle.thin_film_presets.specs.Known.{film}
use Rattle.thin_film_coating.specs.Coating.{quarter_wave_layers}

pub record KnownQuarterWave : Type 0 where
  -- from 1 to 1.52 at 550 nm: n is the root of 1.52
  pub root : quarter_wave_layers (of_bits binary64 0x3FF0_0000_0000_0000) (of_bits binary64 0x3FF8_51EB_851E_B852)
      (of_bits binary64 0x4081_3000_0000_0000) ≡
      film 0x3FF3_B9E3_50C5_9EAE 0x405B_E1BE_166E_0FD0 ∷ []
