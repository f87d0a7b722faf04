-- What the inside of the crate asks of its callers. Scaffolding: no claim names it.
use Rattle.std.specs.Prelude.{◌*◌, ◌^◌, ◌<◌, T, Float}
use Rattle.ieee.specs.Count.{count}
use Rattle.ieee.specs.Range.{plus}

-- p has a clear sign, q is above 0, and p is less than 2 ^ 31 of it; p is far below the largest f64
pub record Divides (p q : Float) : Type 0 where
  pub dividend : T (plus p)
  pub divisor : T (plus q)
  pub some : 0 < count q
  pub times : count p < 2 ^ 31 * count q
  pub under : count p < 2 ^ 2000
