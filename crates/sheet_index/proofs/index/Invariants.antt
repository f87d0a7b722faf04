-- `sheet_index::index` meets its contract. Assumes nothing.
use mathlib.Core.Path.{◌≡◌}
use mathlib.Core.List.{List}
use Prim.Native.Nat.{ℕ, ◌-◌, ◌≤◌}
use lib.Ieee.{Float}
use Rattle.sheet.specs.Internal.{begin}
use Rattle.sheet_index.specs.Index.{filled, layers_of, sine_of, cosine_of}
use Rattle.sheet_index.proofs.index.Given as goal

-- the first i SURFACEs are indexed
pub record Half (src : List ℕ) (i n at : ℕ) (begins₀ counts₀ begins counts : List ℕ) (sines₀ cosines₀ sines cosines : List Float) : Type 0 where
  pub most : i ≤ n
  pub stands : at ≡ begin src i
  pub begun : begins ≡ filled (begin src) i begins₀
  pub counted : counts ≡ filled (layers_of src) i counts₀
  pub sine : sines ≡ filled (sine_of src) i sines₀
  pub cosine : cosines ≡ filled (cosine_of src) i cosines₀

abbrev pub invariant-loop-i : goal.invariant-loop-i
invariant-loop-i l = Half l.src l.i l.total l.first l.initial.begins l.initial.counts l.begins l.counts l.initial.sines l.initial.cosines l.sines l.cosines

abbrev pub decreases-loop-i : goal.decreases-loop-i
decreases-loop-i l = l.total - l.i
