-- `thin_film::reading::prepare` meets its contract. Assumes nothing.
use mathlib.Core.Path.{◌≡◌, ap, ◌∙◌}
use Prim.Native.Nat.{ℕ}
use lib.Ieee.{Float, lt}
use Rattle.thin_film_layers.specs.declared.Prepared.{Prepared}
use Rattle.thin_film_coating.specs.declared.Coating.{Coating}
use Rattle.thin_film_coating.specs.Internal.{prepare}
use borrow.Author.Rules.{rules}
use Rattle.thin_film.proofs.reading.prepare.Goals as goal

with_parts : (k k' : Coating) (n n' : ℕ) (a b angle w : Float) (p : Prepared) → k ≡ k' → n ≡ n' → p ≡ prepare k (lt b a) n a b angle w → p ≡ prepare k' (lt b a) n' a b angle w
with_parts k k' n n' a b angle w p e f h = h ∙ ap (λ (z : Coating). prepare z (lt b a) n a b angle w) e ∙ ap (λ (m : ℕ). prepare k' (lt b a) m a b angle w) f

pub returns : goal.returns
returns c = with_parts _ _ _ _ _ _ _ _ _ c.coating_of.ensures c.layer_count.ensures c.prepare.ensures
