-- The same over ℕ: polynomial identities without opposites, by computation. Assumes nothing.
use mathlib.Core.Path.{◌≡◌, refl, sym, ap, ap₂, ◌∙◌}
use mathlib.Core.Bool.{Bool, true, false, ◌&&◌}
use mathlib.Core.List.{List, [], ◌∷◌, map}
use Prim.Native.Nat.{ℕ, zero, suc, ◌+◌, ◌*◌}
use lib.Dec.{T}
use lib.Ieee.Fits.{and_l, and_r}
use lib.IntN.{ℤ, pos, negsuc, nat_abs, ◌+ℤ◌, ◌*ℤ◌, pos-+ℤ-pos, pos-*ℤ-pos}
use Rattle.whole_ring.proofs.Solver.{Ex, var, con, ◌:+◌, ◌:*◌, opp, nth, eval, left, identity}

abbrev pub at : List ℕ → ℕ → ℕ
at [] i = 0
at (x ∷ r) zero = x
at (x ∷ r) (suc i) = at r i

-- the value over ℕ, for an expression of sums and products of variables and constants from 0 on
abbrev pub value : List ℕ → Ex → ℕ
value r (var i) = at r i
value r (con c) = nat_abs c
value r (a :+ b) = value r a + value r b
value r (a :* b) = value r a * value r b
value r (opp a) = 0

abbrev pub plain : Ex → Bool
plain (var i) = true
plain (con (pos n)) = true
plain (con (negsuc n)) = false
plain (a :+ b) = plain a && plain b
plain (a :* b) = plain a && plain b
plain (opp a) = false

at_is : (r : List ℕ) (i : ℕ) → nth (map pos r) i ≡ pos (at r i)
at_is [] i = refl
at_is (x ∷ r) zero = refl
at_is (x ∷ r) (suc i) = at_is r i

pub value_is : (r : List ℕ) (e : Ex) → T (plain e) → eval (map pos r) e ≡ pos (value r e)
value_is r (var i) t = at_is r i
value_is r (con (pos n)) t = refl
value_is r (con (negsuc n)) t = absurd t
value_is r (a :+ b) t = ap₂ ◌+ℤ◌ (value_is r a (and_l (plain a) (plain b) t)) (value_is r b (and_r (plain a) (plain b) t)) ∙ pos-+ℤ-pos (value r a) (value r b)
value_is r (a :* b) t = ap₂ ◌*ℤ◌ (value_is r a (and_l (plain a) (plain b) t)) (value_is r b (and_r (plain a) (plain b) t)) ∙ pos-*ℤ-pos (value r a) (value r b)
value_is r (opp a) t = absurd t

-- the law
pub naturals : (a b : Ex) → T (plain a && (plain b && left a b)) → (r : List ℕ) → value r a ≡ value r b
naturals a b t r =
    let u = and_r (plain a) (plain b && left a b) t in
    ap nat_abs
    (sym (value_is r a (and_l (plain a) (plain b && left a b) t)) ∙ identity a b (and_r (plain b) (left a b) u) (map pos r) ∙ value_is r b (and_l (plain b) (left a b) u))
