-- `sqrt` computed: 01's starred answers, and some others. Assumes nothing.
use mathlib.Core.Path.{◌≡◌, refl}
use lib.Ieee.{binary64, of_bits}
use Rattle.math_root.specs.Root.{square_root, sqrt}
use Rattle.math_root.specs.Known.{SqrtKnown}

pub sqrt_known : SqrtKnown
unfolding of_bits square_root
sqrt_known = record { smallest = refl; minus_zero = refl }

-- the largest finite value
largest : sqrt (of_bits binary64 0x7FEF_FFFF_FFFF_FFFF) ≡ of_bits binary64 0x5FEF_FFFF_FFFF_FFFF
unfolding of_bits square_root
largest = refl

-- 2: 1.4142135623730951
two : sqrt (of_bits binary64 0x4000_0000_0000_0000) ≡ of_bits binary64 0x3FF6_A09E_667F_3BCD
unfolding of_bits square_root
two = refl

-- 1 + 2 ^ -52: the root is rounded down to 1
next_to_one : sqrt (of_bits binary64 0x3FF0_0000_0000_0001) ≡ of_bits binary64 0x3FF0_0000_0000_0000
unfolding of_bits square_root
next_to_one = refl
