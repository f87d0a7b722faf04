-- `surface_real::same_medium` meets its contract. Assumes nothing.
use mathlib.Core.Path.{◌≡◌}
use lib.Ieee.{Float}
use borrow.Author.Rules.{rules}
use Rattle.ieee.proofs.Signs.{of_true}
use Rattle.surface_real.specs.declared.Medium.{Medium}
use Rattle.surface_real.proofs.same_medium.Goals as goal

one_medium : (a b : Medium) → a.delta ≡ b.delta → a.eta_s ≡ b.eta_s → a.eta_p ≡ b.eta_p → a ≡ b
one_medium a b d s p = λ j. record { eta_s = s j; eta_p = p j; delta = d j }

pub returns-then-same_number-2 : goal.returns-then-same_number-2
returns-then-same_number-2 c t =
    one_medium _ _ (c.same_number.ensures (of_true _ c.if-same_number.true))
    (c.same_number-then-same_number.ensures (of_true _ c.if-same_number-2.true)) (c.same_number-then-same_number-2.ensures t)

pub returns-else-same_number-2 : goal.returns-else-same_number-2
returns-else-same_number-2 c t = absurd t

pub returns-else-same_number : goal.returns-else-same_number
returns-else-same_number c t = absurd t
