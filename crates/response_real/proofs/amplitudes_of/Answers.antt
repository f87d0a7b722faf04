-- `response_real::amplitudes_of` meets its contract. Assumes nothing.
use mathlib.Core.Path.{◌≡◌}
use lib.Ieee.{Float, neg}
use Rattle.ieee.specs.Operators.{◌⊕◌, ◌⊖◌, ◌⊗◌, ◌⊘◌}
use Rattle.ieee.specs.Functions.{two}
use Rattle.surface_real.specs.declared.Shares.{Shares}
use Rattle.response_real.specs.declared.Amplitudes.{Amplitudes}
use Rattle.response_real.specs.Internal.{shares_of, amplitudes_of, amplitudes}
use borrow.Author.Rules.{rules}
use Rattle.response_real.proofs.amplitudes_of.Goals as goal

all : (eta0 eta nr ni dr di denom : Float) (k : Shares)
    → k ≡ shares_of (record { re = (nr ⊗ dr ⊕ ni ⊗ di) ⊘ denom; im = (ni ⊗ dr ⊖ nr ⊗ di) ⊘ denom }) (record { re = (eta0 ⊗ two ⊗ dr) ⊘ denom; im = neg (eta0 ⊗ two ⊗ di) ⊘ denom }) eta0 eta denom
    → ◌≡◌ {A = Amplitudes} (record { r = record { re = (nr ⊗ dr ⊕ ni ⊗ di) ⊘ denom; im = (ni ⊗ dr ⊖ nr ⊗ di) ⊘ denom }; t = record { re = (eta0 ⊗ two ⊗ dr) ⊘ denom; im = neg (eta0 ⊗ two ⊗ di) ⊘ denom }; shares = k }) (amplitudes_of eta0 eta nr ni dr di denom)
unfolding amplitudes_of
all eta0 eta nr ni dr di denom k h = simp h

pub returns : goal.returns
unfolding amplitudes
returns c = all _ _ _ _ _ _ _ _ c.shares_of-shares.ensures
