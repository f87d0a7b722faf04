-- `band::weighed` meets its contract. Assumes nothing.
use mathlib.Core.Path.{◌≡◌}
use mathlib.Core.List.{List}
use Prim.Native.Nat.{ℕ, ◌+◌}
use lib.ListN.{length, drop}
use lib.Ieee.{Float}
use Rattle.ieee.specs.Functions.{zero_f}
use Rattle.refusal.specs.Outcome.{answer}
use Rattle.sheet.specs.Sheet.{Sheet}
use Rattle.gate.specs.Gate.{gated}
use Rattle.band.specs.Band.{added_up, whole_sum}
use Rattle.band.specs.Internal.{AllPass}
use Rattle.band.proofs.weighed.Given as goal

-- before the i-th line: what is left gives the whole sums
pub record Before (src : List ℕ) (n : ℕ) (ws : List Float) (ns : List ℕ) (s p : Float) (total i : ℕ) : Type 0 where
  pub weights : total + whole_sum (drop i ns) ≡ whole_sum ns
  pub sums : (x : Sheet) → gated src ≡ answer x → length x.surfaces ≡ n → AllPass x ws →
      (added_up (λ st. st.s) x s (drop i ws) (drop i ns) ≡ added_up (λ st. st.s) x zero_f ws ns) × (added_up (λ st. st.p) x p (drop i ws) (drop i ns) ≡ added_up (λ st. st.p) x zero_f ws ns)

abbrev pub invariant-loop-i : goal.invariant-loop-i
invariant-loop-i l = Before l.src l.count l.wavelengths l.weights l.s l.p l.whole l.i
