-- The count of 2 ^ -1074 is exact for every finite f64. Assumes nothing.
use mathlib.Core.Path.{◌≡◌, sym, ap, ◌∙◌}
use Prim.Native.Nat.{ℕ, ◌*◌, ◌/◌, ◌^◌}
use native.Mathlib.Nat.{mul-div_cancel}
use lib.Dec.{T}
use lib.Ieee.{Float, binary64, fits}
use lib.Ieee.Scale.{finite}
use lib.Ieee.Positive.{num, den, den_pos}
use Rattle.ieee.specs.Count.{count}
use Rattle.ieee.proofs.Range.Values.{whole}

-- a whole number of 2 ^ -1074 is the count
pub count_of : (x : Float) (a : ℕ) → num x * 2 ^ 1074 ≡ a * den x → count x ≡ a
unfolding count
count_of x a e = ap (λ (n : ℕ). n / den x) e ∙ mul-div_cancel a (den_pos x)

-- x is count x * 2 ^ -1074, multiplied out
pub count_is : (x : Float) → T (fits binary64 x) → T (finite x) → count x * den x ≡ num x * 2 ^ 1074
count_is x h f = let w = whole binary64 x f h in ap (λ (n : ℕ). n * den x) (count_of x (w.m * 2 ^ w.j) w.is) ∙ sym w.is
