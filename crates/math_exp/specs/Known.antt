-- 01 section 2: exp at some arguments, worked out apart. Types only; `proofs/Known.antt` computes them.
use Rattle.std.specs.Prelude.{◌≡◌, ℕ}
use Rattle.std.specs.Float.{binary64}
use Rattle.std.specs.Float.Ieee.{of_bits}
use Rattle.math_exp.specs.Exp.{exp}

-- x and its exp by their bits
abbrev pub Exp : ℕ → ℕ → Type 0
Exp x y = exp (of_bits binary64 x) ≡ of_bits binary64 y

pub record KnownExp : Type 0 where
  -- 'for m = 14 down to 1': at -618.5366285635727 a term less and a term more both show
  pub terms : Exp 0xC083_544B_03EA_9527 0x0828_F020_33E5_AB84
  -- 'above 710 infinity': 709.5 has a finite exp, 711 has none
  pub large : Exp 0x4086_2C00_0000_0000 0x7FE8_1E9B_4B52_A3BD
  pub too_large : Exp 0x4086_3800_0000_0000 0x7FF0_0000_0000_0000
  -- 'below -746 zero': that of -745.125 is 2^-1074, that of -747 is +0
  pub small : Exp 0xC087_4900_0000_0000 1
  pub too_small : Exp 0xC087_5800_0000_0000 0
  -- 'NaN stays'
  pub not_a_number : Exp 0x7FF8_0000_0000_0000 0x7FF8_0000_0000_0000
