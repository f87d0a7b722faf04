-- From entries to matrices that are equal in value. Assumes nothing.
use Prim.Native.Nat.{ℕ, zero, suc, ◌<◌}
use native.Mathlib.Nat.{not-suc-le-zero, le_of_suc-le-suc}
use mathlib.Core.Bool.{Bool, true, false, ◌||◌}
use mathlib.Core.List.{List, [], ◌∷◌}
use lib.Dec.{T}
use lib.ListN.{length, get_or}
use lib.Ieee.{Float, eq}
use Rattle.polarization_value.specs.Value.{same}

-- two floats that compare equal
or_left : (a b : Bool) → T a → T (a || b)
or_left true b t = tt
or_left false b t = absurd t

pub of_eq : (x y : Float) → T (eq x y) → T (same x y)
of_eq x y t = or_left (eq x y) _ t

-- two lists, element by element
pub data Each : List Float → List Float → Type 0 where
  nil : Each [] []
  more : {x y : Float} {xs ys : List Float} → T (same x y) → Each xs ys → Each (x ∷ xs) (y ∷ ys)

pub each_at : {xs ys : List Float} (d : Float) → Each xs ys → (i : ℕ) → i < length xs → T (same (get_or xs i d) (get_or ys i d))
each_at d nil i l = absurd (not-suc-le-zero l)
each_at d (more p e) zero l = p
each_at d (more p e) (suc i) l = each_at d e i (le_of_suc-le-suc l)
