-- A quotient by c = a + b, both powers of 2, without a division. Definitions only; proofs/Claim.antt shows the claim.
use Rattle.std.specs.Prelude.{◌≡◌, ℕ, T, pos, Float}
use Rattle.std.specs.Float.{binary64}
use Rattle.std.specs.Float.Ieee.{fits, of_int, of_bits}
use Rattle.ieee.specs.Operators.{◌⊕◌, ◌⊖◌, ◌⊗◌, ◌⊘◌}
use Rattle.ieee.specs.Functions.{one}
use Rattle.ieee.specs.Range.{plus}

-- y is just below 1 / c, and u just above. q = x·y is a little less than x / c. As y·a is exact, x·(y·a) is q·a, and so is q·b; what q
-- leaves, (x - q·a) - q·b, is exact, and q and what is left times u have the sum x / c, as rounded
unfoldable pub quick : Float → Float → Float → Float → Float → Float
quick a b y u x = x ⊗ y ⊕ (x ⊖ x ⊗ (y ⊗ a) ⊖ x ⊗ (y ⊗ b)) ⊗ u

-- n as an f64
abbrev pub whole : ℕ → Float
whole n = of_int binary64 (pos n)

-- ---- both sides of 1 / c, three values apart
abbrev pub below_6 : Float
below_6 = of_bits binary64 0x3FC5_5555_5555_5554

abbrev pub above_6 : Float
above_6 = of_bits binary64 0x3FC5_5555_5555_5557

abbrev pub below_12 : Float
below_12 = of_bits binary64 0x3FB5_5555_5555_5554

abbrev pub above_12 : Float
above_12 = of_bits binary64 0x3FB5_5555_5555_5557

abbrev pub below_20 : Float
below_20 = of_bits binary64 0x3FA9_9999_9999_9998

abbrev pub above_20 : Float
above_20 = of_bits binary64 0x3FA9_9999_9999_999B

abbrev pub below_72 : Float
below_72 = of_bits binary64 0x3F8C_71C7_1C71_C71B

abbrev pub above_72 : Float
above_72 = of_bits binary64 0x3F8C_71C7_1C71_C71E

abbrev pub below_132 : Float
below_132 = of_bits binary64 0x3F7F_07C1_F07C_1F06

abbrev pub above_132 : Float
above_132 = of_bits binary64 0x3F7F_07C1_F07C_1F09

abbrev pub below_272 : Float
below_272 = of_bits binary64 0x3F6E_1E1E_1E1E_1E1D

abbrev pub above_272 : Float
above_272 = of_bits binary64 0x3F6E_1E1E_1E1E_1E20

-- ---- the claim: for every f64 whose sign is clear, 1 less `quick` is 1 less the quotient, bit for bit
abbrev pub Step : ℕ → ℕ → Float → Float → ℕ → Type 0
Step a b y u c = (x : Float) → T (plus x) → T (fits binary64 x) → one ⊖ quick (whole a) (whole b) y u x ≡ one ⊖ x ⊘ whole c

pub record QuickClaim : Type 0 where
  pub by_6 : Step 4 2 below_6 above_6 6
  pub by_12 : Step 8 4 below_12 above_12 12
  pub by_20 : Step 16 4 below_20 above_20 20
  pub by_72 : Step 64 8 below_72 above_72 72
  pub by_132 : Step 128 4 below_132 above_132 132
  pub by_272 : Step 256 16 below_272 above_272 272
