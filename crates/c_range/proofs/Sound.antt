-- The refusal of a pair of ranges has a number and no place. Assumes nothing.
use mathlib.Core.Bool.{Bool, true, false, ◌&&◌, cond}
use lib.Dec.{lit<}
use lib.Ieee.{Float}
use Rattle.refusal.specs.Outcome.{answer, refusal}
use Rattle.reflectance_range.specs.declared.ReflectanceRange.{ReflectanceRange}
use Rattle.reflectance_range.specs.Range.{range_valid, low, high, reflectance_range}
use Rattle.c_call.proofs.Returned.{Sound}

pub sound : (n1-low n1-high n2-low n2-high : Float) → Sound (reflectance_range n1-low n1-high n2-low n2-high)
unfolding reflectance_range
sound n1-low n1-high n2-low n2-high = go (range_valid n1-low n1-high && range_valid n2-low n2-high) (record { low = low n1-low n1-high n2-low n2-high; high = high n1-low n1-high n2-low n2-high })
  where
    go : (b : Bool) (r : ReflectanceRange) → Sound (cond b (answer r) (refusal 13 0))
    go true r = tt
    go false r = (lit< tt, lit< tt)
