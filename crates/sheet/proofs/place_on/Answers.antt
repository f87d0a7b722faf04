-- `sheet::place_on` meets its contract. The loop's invariant: what is left to go from here leads where all of it leads. Assumes nothing.
use mathlib.Core.Path.{◌≡◌, sym, ap, ◌∙◌}
use mathlib.Core.List.{List}
use Prim.Native.Nat.{ℕ, suc, ◌+◌, ◌-◌, ◌≤◌, ◌<◌}
use native.Mathlib.Omega.{arith}
use Rattle.sheet.specs.Internal.{next_place, place_on}
use Rattle.sheet.proofs.place_on.Goals as goal

module _ (src : List ℕ) (place n i : ℕ) (o : ℕ) (inv : place_on src place (n - i) ≡ o) where
  more : i < n → (q : ℕ) → q ≡ next_place src place → place_on src q (n - (i + 1)) ≡ o
  unfolding place_on
  more lt q e = rw e (ap (place_on src place) (sym fewer) ∙ inv)
    where
      fewer : n - i ≡ suc (n - (i + 1))
      fewer = omega arith

  there : n ≤ i → place ≡ o
  unfolding place_on
  there le = ap (place_on src place) (sym gone) ∙ inv
    where
      gone : n - i ≡ 0
      gone = omega arith

pub loop-preserved : goal.loop-preserved
loop-preserved c = more _ _ _ _ _ c.loop.invariant c.loop-test.true _ c.next_place-place.ensures

pub returns : goal.returns
returns c = there _ _ _ _ _ c.loop.invariant c.loop-test.false
