-- `surface_real::medium_again` meets its contract. Assumes nothing.
use mathlib.Core.Path.{◌≡◌, refl}
use mathlib.Core.Logic.{inl, inr}
use borrow.Author.Rules.{rules}
use Rattle.ieee.proofs.Signs.{of_true}
use Rattle.surface_real.proofs.medium_again.Goals as goal

pub returns-then-same_layer : goal.returns-then-same_layer
returns-then-same_layer c = inr (c.same_layer.ensures (of_true _ c.if-same_layer.true), refl)

pub returns-else-same_layer : goal.returns-else-same_layer
returns-else-same_layer c = inl c.medium_of.ensures
