-- `surface_real::root` meets its contract. Assumes nothing.
use mathlib.Core.Path.{◌≡◌}
use mathlib.Core.Bool.{true, false}
use lib.Ieee.{Float, binary64, le}
use Rattle.ieee.specs.Operators.{◌⊕◌, ◌⊘◌}
use Rattle.ieee.specs.Functions.{zero_f, two, max}
use Rattle.math_root.specs.Root.{square_root}
use Rattle.thin_film_complex.specs.Complex.{half_root}
use Rattle.surface_real.specs.Internal.{no_number, least_square, most_square, root}
use borrow.Author.Rules.{rules}
use Rattle.surface_real.proofs.root.Goals as goal

module _ (x : Float) where
  within : le least_square x ≡ true → le x most_square ≡ true → (m r : Float) → m ≡ max ((x ⊕ x) ⊘ two) zero_f → r ≡ square_root binary64 m → r ≡ root x
  unfolding root half_root
  within l h m r h1 h2 = simp (l, h, h2, h1)

  high : le least_square x ≡ true → le x most_square ≡ false → no_number ≡ root x
  unfolding root
  high l h = simp (l, h)

  low : le least_square x ≡ false → no_number ≡ root x
  unfolding root
  low l = simp l

pub returns-then-x-2 : goal.returns-then-x-2
returns-then-x-2 c = within _ c.if-x.true c.if-x-2.true _ _ c.max.ensures c.sqrt_guessed.ensures

pub returns-else-x-2 : goal.returns-else-x-2
returns-else-x-2 c = high _ c.if-x.true c.if-x-2.false

pub returns-else-x : goal.returns-else-x
returns-else-x c = low _ c.if-x.false
