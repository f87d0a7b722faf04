-- `train_steps::write_each` meets its contract. Assumes nothing.
use mathlib.Core.Path.{◌≡◌}
use mathlib.Core.List.{List, ◌++◌}
use Prim.Native.Nat.{ℕ, ◌*◌}
use lib.Dec.{T}
use lib.ListN.{length, drop}
use lib.Ieee.{Float}
use Rattle.refusal.specs.Outcome.{answer}
use Rattle.sheet.specs.Sheet.{Sheet}
use Rattle.gate.specs.Gate.{gated}
use Rattle.gate.specs.Wavelength.{holds}
use Rattle.train_steps.specs.Train.{fresh, after_each}
use Rattle.train_steps.proofs.Written.{Half}
use Rattle.train_steps.proofs.write_each.Given as goal

abbrev pub all : Sheet → List Float → List Float
all x list = after_each (fresh x) x.surfaces ++ drop (2 * length x.surfaces) list

-- before the i-th surface: the wavelength that is held, and what is written
pub record Before (src : List ℕ) (n : ℕ) (list₀ list : List Float) (s p w : Float) (i : ℕ) : Type 0 where
  pub long : length list ≡ length list₀
  pub held : (x : Sheet) → gated src ≡ answer x → length x.surfaces ≡ n → T (holds w (drop i x.surfaces))
  pub half : (x : Sheet) → gated src ≡ answer x → length x.surfaces ≡ n → Half x.surfaces list₀ list i w s p (all x list₀)

abbrev pub invariant-loop-i : goal.invariant-loop-i
invariant-loop-i l = Before l.src l.count l.initial.list l.list l.s l.p l.wavelength_nm l.i
