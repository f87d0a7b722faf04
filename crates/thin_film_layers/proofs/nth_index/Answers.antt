-- `thin_film_layers::nth_index` meets its contract. Assumes nothing.
use Prim.Native.Nat.{ℕ, ◌-◌, ◌≤◌}
use native.Mathlib.Omega.{arith}
use mathlib.Core.Path.{◌≡◌, ◌∙◌}
use borrow.Author.Rules.{rules}
use Rattle.thin_film_layers.proofs.nth_index.Goals as goal

-- past the last
past : (n i : ℕ) → n ≤ i → 0 ≡ n - 1 - i
past n i h = omega arith

pub returns-then-i-n : goal.returns-then-i-n
returns-then-i-n c = simp c.if-reversed.true

pub returns-else-i-n : goal.returns-else-i-n
returns-else-i-n c = past _ _ c.if-i-n.false ∙ simp c.if-reversed.true

pub returns-else-reversed : goal.returns-else-reversed
returns-else-reversed c = simp c.if-reversed.false
