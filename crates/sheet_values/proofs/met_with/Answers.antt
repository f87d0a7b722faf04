-- `sheet_values::met_with` meets its contract. Assumes nothing.
use mathlib.Core.Path.{◌≡◌, sym}
use mathlib.Core.List.{List}
use Prim.Native.Nat.{ℕ, ◌+◌}
use lib.Ieee.{Float}
use borrow.Author.Tests.{ne_eqb}
use Rattle.sheet.specs.Words.{word, kind, float}
use Rattle.sheet.specs.Internal.{tuning_at}
use Rattle.sheet_values.specs.Values.{value, met_with}
use Rattle.sheet_values.proofs.Past.{met_past}
use Rattle.sheet_values.proofs.met_with.Goals as goal

module _ (src : List ℕ) (at k : ℕ) (held : Float) (is : k ≡ kind (word src at)) where
  own : k ≡ 7 → (v : Float) → v ≡ value (float src (at + 1)) → v ≡ met_with held (tuning_at src at)
  own e v v-is = simp (v-is, sym is, e)

  kept : (k ≡ 7 → ⊥) → held ≡ met_with held (tuning_at src at)
  kept e = simp (sym is, ne_eqb _ _ e)

pub returns-else-at-src : goal.returns-else-at-src
returns-else-at-src c = met_past _ _ c.if-at-src.false _
