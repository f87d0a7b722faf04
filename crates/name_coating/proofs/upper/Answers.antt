-- `name_coating::upper` meets its contract. Assumes nothing.
use mathlib.Core.Path.{◌≡◌}
use mathlib.Core.List.{List, ◌++◌}
use Prim.Native.Nat.{ℕ, ◌-◌, ◌≤◌}
use native.Mathlib.Omega.{arith}
use lib.ListN.{length, replicate}
use Rattle.name_coating.specs.declared.Clean.{Clean}
use Rattle.name_coating.specs.Name.{upper}
use Rattle.name_coating.proofs.UpperCase.{filled, filled_none, filled_more, filled_all}
use Rattle.name_coating.proofs.upper.Goals as goal

whole : (s bytes : List ℕ) (i : ℕ) → i ≤ length s → length s ≤ i → bytes ≡ filled s i → ◌≡◌ {A = Clean} (record { bytes = bytes; len = length s }) (record { bytes = upper s ++ replicate (32 - length s) 0; len = length s })
whole s bytes i h k e =
    let d : i ≡ length s = omega arith in
    simp (e, d, filled_all s)

pub loop-i-init : goal.loop-i-init
loop-i-init c = filled_none c.args.s.now

pub loop-i-preserved : goal.loop-i-preserved
loop-i-preserved c = simp (c.loop-i.invariant, c.upper_byte.ensures) (filled_more _ _ c.loop-i-test.true c.requires)

pub returns : goal.returns
returns c = whole _ _ _ c.loop-i.auto.i-end c.loop-i-test.false c.loop-i.invariant
