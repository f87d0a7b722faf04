-- `response_real::polarized` meets its contract. Assumes nothing.
use mathlib.Core.Path.{◌≡◌}
use lib.Ieee.{Float}
use Rattle.ieee.specs.Functions.{zero_f, one, clamp}
use Rattle.thin_film_complex.specs.Complex.{arg}
use Rattle.thin_film_solver.specs.declared.Polarized.{Polarized}
use Rattle.response_real.specs.declared.Amplitudes.{Amplitudes}
use Rattle.response_real.specs.Internal.{polarized}
use borrow.Author.Rules.{rules}
use Rattle.response_real.proofs.polarized.Goals as goal

all : (k : Amplitudes) (x y z : Float) → x ≡ clamp k.shares.r zero_f one → y ≡ clamp k.shares.t zero_f one → z ≡ arg k.r
    → ◌≡◌ {A = Polarized} (record { r = k.r; t = k.t; reflectance = x; transmittance = y; phase = z }) (polarized k)
unfolding polarized
all k x y z h1 h2 h3 = simp (h1, h2, h3)

pub returns : goal.returns
returns c = all _ _ _ _ c.clamp.ensures c.clamp-2.ensures c.arg.ensures
