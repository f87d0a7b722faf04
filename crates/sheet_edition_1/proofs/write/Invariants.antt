-- `sheet_edition_1::write` meets its contract. The loop's invariant: what comes of the blocks so far stands at the front. Assumes nothing.
use mathlib.Core.Path.{◌≡◌}
use mathlib.Core.List.{List}
use Prim.Native.Nat.{ℕ, ◌-◌}
use lib.ListN.{length}
use lib.Ieee.{Float}
use Rattle.refusal.specs.Outcome.{answer}
use Rattle.sheet.specs.Words.{count}
use Rattle.sheet.specs.Sheet.{Sheet}
use Rattle.sheet_values.specs.Values.{value}
use Rattle.gate.specs.Gate.{gated}
use Rattle.sheet_edition_1.proofs.Walk.{Wrote}
use Rattle.sheet_edition_1.proofs.write.Given as goal

-- at the BEAM's wavelength
pub record Before (src output₀ output : List ℕ) (w : Float) (at to : ℕ) : Type 0 where
  pub long : length output ≡ length output₀
  pub beam : (x : Sheet) → gated src ≡ answer x → w ≡ value x.wavelength
  pub wrote : (x : Sheet) → gated src ≡ answer x → Wrote src output₀ output x at to

abbrev pub invariant-loop-at : goal.invariant-loop-at
invariant-loop-at l = Before l.src l.initial.output l.output l.wavelength_nm l.at l.to

abbrev pub decreases-loop-at : goal.decreases-loop-at
decreases-loop-at l = count l.src - l.at
