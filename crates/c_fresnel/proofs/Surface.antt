-- What a bare surface is refused with is apart from every answer. Assumes nothing.
use mathlib.Core.Path.{◌≡◌, refl, sym, ap, ◌∙◌}
use mathlib.Core.Bool.{Bool, true, false, cond}
use mathlib.Core.List.{List}
use Prim.Native.Nat.{ℕ}
use native.Mathlib.Omega.{arith}
use lib.Dec.{lit<}
use lib.Ieee.{Float}
use Rattle.refusal.specs.Outcome.{Outcome, answer, refusal, invalid_parameter}
use Rattle.polarization.specs.declared.SurfaceJones.{SurfaceJones}
use Rattle.polarization.specs.Surface.{indices_valid, bare, surface_fresnel_jones}
use Rattle.math_trig.specs.Trig.{sin, cos}
use Rattle.c_call.specs.Call.{Done, done, packed, written, answered}
use Rattle.c_call.proofs.Returned.{Sound}
use Rattle.c_fresnel.specs.Fresnel.{matrices}

-- an answer, or 1
data Either (o : Outcome SurfaceJones) : Type 0 where
  given : (j : SurfaceJones) → o ≡ answer j → Either o
  turned_back : o ≡ invalid_parameter → Either o

module _ (n1 n2 angle : Float) where
  either : Either (surface_fresnel_jones n1 n2 angle)
  unfolding surface_fresnel_jones
  either = go (indices_valid n1 n2 angle)
    where
      go : (b : Bool) → Either (cond b (answer (bare n1 n2 (sin angle) (cos angle))) invalid_parameter)
      go true = given (bare n1 n2 (sin angle) (cos angle)) refl
      go false = turned_back refl

  pub surface_sound : Sound (surface_fresnel_jones n1 n2 angle)
  surface_sound = by either
    where
      by : Either (surface_fresnel_jones n1 n2 angle) → Sound (surface_fresnel_jones n1 n2 angle)
      by (given j e) = rw e tt
      by (turned_back e) = rw e (lit< tt, lit< tt)
