-- `sheet_index::gather` meets its contract. Assumes nothing.
use mathlib.Core.Path.{◌≡◌}
use mathlib.Core.List.{List}
use Prim.Native.Nat.{ℕ, ◌+◌}
use lib.Ieee.{Float}
use Rattle.sheet.specs.Internal.{begin}
use Rattle.sheet_index.specs.Index.{filled, layers_of, angle_of}
use Rattle.sheet_index.specs.Internal.{stored}
use Rattle.sheet_index.proofs.gather.Given as goal

-- k SURFACEs are gathered
pub record Half (src : List ℕ) (i k at : ℕ) (begins₀ counts₀ begins counts : List ℕ) (angles₀ angles : List Float) : Type 0 where
  pub stands : at ≡ begin src (i + k)
  pub begun : begins ≡ stored (begin src) i k begins₀
  pub counted : counts ≡ stored (layers_of src) i k counts₀
  pub angled : angles ≡ filled (λ j. angle_of src (i + j)) k angles₀

abbrev pub invariant-loop-k : goal.invariant-loop-k
invariant-loop-k l = Half l.src l.i l.k l.at l.initial.begins l.initial.counts l.begins l.counts l.initial.angles l.angles
