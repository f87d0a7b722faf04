-- `thin_film::reading::layer_count` meets its contract. Assumes nothing.
use mathlib.Core.Path.{◌≡◌, refl, sym, ap, ◌∙◌}
use mathlib.Core.Bool.{Bool, cond}
use Prim.Native.Nat.{ℕ}
use lib.Dec.{eqb}
use borrow.Author.Rules.{rules}
use borrow.Author.Tests.{ne_eqb}
use Rattle.thin_film.proofs.reading.layer_count.Goals as goal

none : (own n count : ℕ) → own ≡ n → own ≡ 0 → count ≡ cond (eqb n 0) count n
none own n count e z = ap (λ (m : ℕ). cond (eqb m 0) count m) (sym z ∙ e)

own_some : (own n count : ℕ) → own ≡ n → (own ≡ 0 → ⊥) → own ≡ cond (eqb n 0) count n
own_some own n count e z = ap (λ (b : Bool). cond b count own) (sym (ne_eqb own 0 z)) ∙ ap (λ (m : ℕ). cond (eqb m 0) count m) e
