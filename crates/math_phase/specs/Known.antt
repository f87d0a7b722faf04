-- 02 slip 7: what the first line gives at some angles, each computed in proofs/Known.antt. Definitions only.
use Rattle.std.specs.Prelude.{◌≡◌, ℕ, ◌*◌, ◌^◌, ◌≤◌, pos, nat_abs, ◌-ℤ◌, ◌*ℤ◌}
use Rattle.std.specs.Float.{binary64}
use Rattle.std.specs.Float.Ieee.{of_bits, rem}
use Rattle.math_trig.specs.Angles.{tau, turns_limit}
use Rattle.math_trig.specs.Trig.{first_line, sin, cos}
use Rattle.math_phase.specs.Claim.{turns, value, two_pi}

-- x and r by their bits
abbrev pub Left : ℕ → ℕ → Type 0
Left x r = first_line (of_bits binary64 x) ≡ of_bits binary64 r

pub record KnownPhase : Type 0 where
  -- T has one turn: -t is left
  pub turn : Left 0x4019_21FB_5444_2D18 0xBCB1_A626_3314_5C07
  -- ties: π / T is 1/2, without a turn; the f64 next to 3·π, over T, is 3/2, with two
  pub half_turn : Left 0x4009_21FB_5444_2D18 0x4009_21FB_5444_2D18
  pub three_halves : Left 0x4022_D97C_7F33_21D2 0xC009_21FB_5444_2D19
  -- -0 keeps its sign
  pub minus_zero : Left 0x8000_0000_0000_0000 0x8000_0000_0000_0000
  -- 2^20 and its opposite by the new line, the f64 after it by the old one
  pub limit : Left 0x4130_0000_0000_0000 0x3FD5_8E8E_C12C_0AA8
  pub minus_limit : Left 0xC130_0000_0000_0000 0xBFD5_8E8E_C12C_0AA8
  pub beyond : Left 0x4130_0000_0000_0001 0x3FD5_8E8E_C177_4700
  -- sin and cos of 100,000
  pub sine : sin (of_bits binary64 0x40F8_6A00_0000_0000) ≡ of_bits binary64 0x3FA2_4DAA_9C52_7E9C
  pub cosine : cos (of_bits binary64 0x40F8_6A00_0000_0000) ≡ of_bits binary64 0xBFEF_FAC3_841B_3DA7
  -- why: at 2^20 the old line is off by more than 2^-35, in counts
  pub drift : 2 ^ 1039 ≤ nat_abs (value (rem binary64 turns_limit tau) -ℤ (value turns_limit -ℤ turns turns_limit *ℤ pos (two_pi * 2 ^ 964)))
