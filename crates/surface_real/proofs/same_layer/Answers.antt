-- `surface_real::same_layer` meets its contract. Assumes nothing.
use mathlib.Core.Path.{◌≡◌}
use lib.Ieee.{Float}
use borrow.Author.Rules.{rules}
use Rattle.ieee.proofs.Signs.{of_true}
use Rattle.thin_film_solver.specs.declared.ThinFilmLayer.{ThinFilmLayer}
use Rattle.surface_real.proofs.same_layer.Goals as goal

one_layer : (a b : ThinFilmLayer) → a.n ≡ b.n → a.thickness_nm ≡ b.thickness_nm → a.k ≡ b.k → a ≡ b
one_layer a b n d k = λ j. record { n = n j; k = k j; thickness_nm = d j }

pub returns-then-same_number-2 : goal.returns-then-same_number-2
returns-then-same_number-2 c t =
    one_layer _ _ (c.same_number.ensures (of_true _ c.if-same_number.true))
    (c.same_number-then-same_number.ensures (of_true _ c.if-same_number-2.true)) (c.same_number-then-same_number-2.ensures t)

pub returns-else-same_number-2 : goal.returns-else-same_number-2
returns-else-same_number-2 c t = absurd t

pub returns-else-same_number : goal.returns-else-same_number
returns-else-same_number c t = absurd t
