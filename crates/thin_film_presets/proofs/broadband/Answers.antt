-- `thin_film_presets::broadband` meets its contract. Assumes nothing.
use mathlib.Core.Path.{◌≡◌, refl, sym, ap, ◌∙◌}
use Prim.Native.Nat.{ℕ, zero, suc}
use lib.ListN.{get_or}
use Rattle.ieee.specs.Functions.{zero_f}
use Rattle.thin_film_solver.specs.Solve.{dielectric}
use Rattle.thin_film_layers.specs.Evaluation.{no_layer}
use Rattle.thin_film_presets.specs.Layers.{broadband_layers}
use borrow.Author.Rules.{rules}
use Rattle.thin_film_presets.proofs.broadband.Goals as goal

nth : (i j : ℕ) → i ≡ j → get_or broadband_layers j no_layer ≡ get_or broadband_layers i no_layer
nth i j e = ap (λ (k : ℕ). get_or broadband_layers k no_layer) (sym e)

past : (i : ℕ) → (i ≡ 0 → ⊥) → (i ≡ 1 → ⊥) → (i ≡ 2 → ⊥) → (i ≡ 3 → ⊥) → dielectric zero_f zero_f ≡ get_or broadband_layers i no_layer
unfolding broadband_layers dielectric
past zero a b c d = absurd (a refl)
past (suc zero) a b c d = absurd (b refl)
past (suc (suc zero)) a b c d = absurd (c refl)
past (suc (suc (suc zero))) a b c d = absurd (d refl)
past (suc (suc (suc (suc i)))) a b c d = refl

pub returns-then-i-eq0 : goal.returns-then-i-eq0
unfolding broadband_layers
returns-then-i-eq0 c = c.dielectric.ensures ∙ nth _ 0 c.if-i-eq0.true

pub returns-then-i-eq1 : goal.returns-then-i-eq1
unfolding broadband_layers
returns-then-i-eq1 c = c.dielectric-then-i-eq1.ensures ∙ nth _ 1 c.if-i-eq1.true

pub returns-then-i-eq2 : goal.returns-then-i-eq2
unfolding broadband_layers
returns-then-i-eq2 c = c.dielectric-then-i-eq2.ensures ∙ nth _ 2 c.if-i-eq2.true

pub returns-then-i-eq3 : goal.returns-then-i-eq3
unfolding broadband_layers
returns-then-i-eq3 c = c.dielectric-then-i-eq3.ensures ∙ nth _ 3 c.if-i-eq3.true

pub returns-else-i-eq3 : goal.returns-else-i-eq3
returns-else-i-eq3 c = c.dielectric-else-i-eq3.ensures ∙ past _ c.if-i-eq0.false c.if-i-eq1.false c.if-i-eq2.false c.if-i-eq3.false
