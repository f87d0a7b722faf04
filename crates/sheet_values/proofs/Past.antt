-- Past the last word every word and every float is zero. Assumes nothing.
use lib.Ieee.{Float}
use mathlib.Core.Path.{◌≡◌}
use mathlib.Core.List.{List}
use Prim.Native.Nat.{ℕ, ◌+◌, ◌≤◌}
use native.Mathlib.Omega.{arith}
use borrow.Author.Tests.{le-ltb}
use Rattle.sheet.specs.Words.{word, count, float}
use Rattle.sheet.specs.Internal.{tuning_at}
use Rattle.sheet_values.specs.Values.{cauchy_value, met_with}
use Rattle.sheet_values.specs.Internal.{cauchy_at}

pub word_past : (src : List ℕ) (at : ℕ) → count src ≤ at → word src at ≡ 0
unfolding word
word_past src at h = simp (le-ltb at (count src) h)

pub float_past : (src : List ℕ) (at i : ℕ) → count src ≤ at → float src (at + i) ≡ 0
unfolding float
float_past src at i h = simp (word_past src (at + i) (omega arith), word_past src (at + i + 1) (omega arith))

module _ (src : List ℕ) (at : ℕ) (h : count src ≤ at) where
  pub cauchy_past : cauchy_value 0 0 0 0 ≡ cauchy_at src at
  cauchy_past = simp (float_past src at 1 h, float_past src at 3 h, float_past src at 5 h, float_past src at 7 h)

  pub met_past : (held : Float) → held ≡ met_with held (tuning_at src at)
  met_past held = simp (word_past src at h)
