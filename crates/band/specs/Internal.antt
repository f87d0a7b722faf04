-- Scaffolding, not to be believed: the first line that fails a test, and what is known of a line's state.
use Rattle.std.specs.Prelude.{◌≡◌, Bool, cond, List, [], ◌∷◌, ℕ, suc, T, Float}
use Rattle.sheet.specs.Blocks.{All}
use Rattle.sheet.specs.Sheet.{Sheet}
use Rattle.gate.specs.Wavelength.{holds}
use Rattle.train_steps.specs.declared.State.{State}

-- counted from 0; how many there are where none fails
unfoldable pub first_false : {A : Type 0} → (A → Bool) → List A → ℕ
first_false passes [] = 0
first_false passes (a ∷ more) = cond (passes a) (suc (first_false passes more)) 0

-- the same powers
pub record Line (a b : State) : Type 0 where
  pub s : a.s ≡ b.s
  pub p : a.p ≡ b.p

abbrev pub AllPass : Sheet → List Float → Type 0
AllPass x wavelengths = All (λ (w : Float). T (holds w x.surfaces)) wavelengths
