-- `train_steps::moved_from` meets its contract. Assumes nothing.
use mathlib.Core.Path.{◌≡◌, ap, ◌∙◌}
use mathlib.Core.List.{List}
use Prim.Native.Nat.{ℕ}
use lib.Ieee.{Float}
use Rattle.train_steps.specs.declared.Chosen.{Chosen}
use Rattle.train_steps.specs.declared.State.{State}
use Rattle.train_steps.specs.Internal.{chosen_at, moved, moved_from}
use Rattle.train_steps.proofs.moved_from.Goals as goal

by_these : (src : List ℕ) (at n : ℕ) (w : Float) (st : State) (c : Chosen) → c ≡ chosen_at src at n w → (r : State) → r ≡ moved c w st → r ≡ moved_from src at n w st
unfolding moved_from
by_these src at n w st c e r h = h ∙ ap (λ (z : Chosen). moved z w st) e

pub returns : goal.returns
returns c = by_these _ _ _ _ _ _ c.chosen_at.ensures _ c.moved.ensures
