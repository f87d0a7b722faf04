-- `response_real::shares_of` meets its contract. Assumes nothing.
use mathlib.Core.Path.{◌≡◌}
use mathlib.Core.Bool.{true, false}
use lib.Ieee.{Float, lt}
use Rattle.ieee.specs.Operators.{◌⊗◌, ◌⊘◌}
use Rattle.ieee.specs.Functions.{tiny}
use Rattle.thin_film_complex.specs.declared.Complex.{Complex}
use Rattle.thin_film_complex.specs.Complex.{norm_sq}
use Rattle.surface_real.specs.declared.Shares.{Shares}
use Rattle.surface_real.specs.Internal.{no_number}
use Rattle.response_real.specs.Internal.{shares_of}
use borrow.Author.Rules.{rules}
use Rattle.response_real.proofs.shares_of.Goals as goal

module _ (r t : Complex) (eta0 eta denom : Float) where
  small : lt denom tiny ≡ true → ◌≡◌ {A = Shares} (record { r = no_number; t = no_number }) (shares_of r t eta0 eta denom)
  unfolding shares_of
  small h = simp h

  large : lt denom tiny ≡ false → (a b : Float) → a ≡ norm_sq r → b ≡ norm_sq t → ◌≡◌ {A = Shares} (record { r = a; t = eta ⊘ eta0 ⊗ b }) (shares_of r t eta0 eta denom)
  unfolding shares_of
  large h a b h1 h2 = simp (h, h1, h2)

pub returns-then-denom : goal.returns-then-denom
returns-then-denom c = small _ _ _ _ _ c.if-denom.true

pub returns : goal.returns
returns c = large _ _ _ _ _ c.if-denom.false _ _ c.norm_sq.ensures c.norm_sq-2.ensures
