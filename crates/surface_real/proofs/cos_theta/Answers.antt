-- `surface_real::cos_theta` meets its contract. Assumes nothing.
use mathlib.Core.Path.{◌≡◌}
use mathlib.Core.Bool.{true, false}
use lib.Ieee.{Float, eq}
use Rattle.ieee.specs.Operators.{◌⊖◌, ◌⊗◌}
use Rattle.ieee.specs.Functions.{zero_f, one}
use Rattle.thin_film_solver.specs.declared.ThinFilmLayer.{ThinFilmLayer}
use Rattle.surface_real.specs.Internal.{no_number, over, root, cos_theta}
use borrow.Author.Rules.{rules}
use Rattle.surface_real.proofs.cos_theta.Goals as goal

module _ (snell : Float) (layer : ThinFilmLayer) where
  lossless : (s r : Float) → s ≡ over snell layer.n → eq layer.k zero_f ≡ true → r ≡ root (one ⊖ s ⊗ s) → r ≡ cos_theta snell layer
  unfolding cos_theta
  lossless s r h1 h2 h3 = simp (h3, h2, h1)

  lossy : eq layer.k zero_f ≡ false → no_number ≡ cos_theta snell layer
  unfolding cos_theta
  lossy h = simp h

pub returns-then-layer : goal.returns-then-layer
returns-then-layer c = lossless _ _ _ _ c.over-sin.ensures c.if-layer.true c.root.ensures

pub returns-else-layer : goal.returns-else-layer
returns-else-layer c = lossy _ _ c.if-layer.false
