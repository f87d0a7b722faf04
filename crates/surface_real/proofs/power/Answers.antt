-- `surface_real::power` meets its contract. Assumes nothing.
use mathlib.Core.Path.{◌≡◌, refl}
use mathlib.Core.Bool.{true, false}
use lib.Ieee.{Float, neg, lt}
use Rattle.ieee.specs.Operators.{◌⊕◌, ◌⊖◌, ◌⊗◌, ◌⊘◌}
use Rattle.ieee.specs.Functions.{two, tiny}
use Rattle.surface_real.specs.declared.Shares.{Shares}
use Rattle.surface_real.specs.Internal.{no_number, power_of, power}
use Rattle.surface_real.proofs.power.Goals as goal

module _ (eta0 eta nr ni dr di denom : Float) where
  small : lt denom tiny ≡ true → ◌≡◌ {A = Shares} (record { r = no_number; t = no_number }) (power_of eta0 eta nr ni dr di denom)
  unfolding power_of
  small h = simp h

  large : lt denom tiny ≡ false → (a b c d : Float) → a ≡ (nr ⊗ dr ⊕ ni ⊗ di) ⊘ denom → b ≡ (ni ⊗ dr ⊖ nr ⊗ di) ⊘ denom → c ≡ (eta0 ⊗ two ⊗ dr) ⊘ denom → d ≡ neg (eta0 ⊗ two ⊗ di) ⊘ denom
      → ◌≡◌ {A = Shares} (record { r = a ⊗ a ⊕ b ⊗ b; t = eta ⊘ eta0 ⊗ (c ⊗ c ⊕ d ⊗ d) }) (power_of eta0 eta nr ni dr di denom)
  unfolding power_of
  large h a b c d h1 h2 h3 h4 = simp (h, h1, h2, h3, h4)

pub returns-then-denom : goal.returns-then-denom
unfolding power
returns-then-denom c = small _ _ _ _ _ _ _ c.if-denom.true

pub returns : goal.returns
unfolding power
returns c = large _ _ _ _ _ _ _ c.if-denom.false _ _ _ _ refl refl refl refl
